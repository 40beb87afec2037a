-- The way of an answered route fits the buffer.
use Rattle.std.proofs.Common.{◌≡◌, ℕ, List, length, Ok, Err, Result, sym, refl, ap, ◌∙◌, subst, arith}
use Rattle.toll.specs.SecondsKind.{seconds_kind}
use Rattle.toll.specs.declared.seconds.Seconds.{Seconds}
use Rattle.toll.specs.declared.refusal.Refusal.{Refusal}
use Rattle.planner.specs.Calls.{routed, changed, read_answer, put_answer, step_answer}
use Rattle.planner.specs.Served.{World, Turn, answer_by, served_with, served}
use Rattle.planner.specs.declared.answers.Answer.{Answer}
use Rattle.planner.specs.declared.answers.Answer.TheVariants.{Done, Place}
use Rattle.planner.specs.declared.answers.Answer.TheVariants as answer
use Rattle.planner.specs.declared.call.Call.{Call}
use Rattle.planner.specs.declared.call.Call.TheVariants.{Change, Put, Step, Halt, Read, Tally}
use Rattle.planner.specs.declared.call.Call.TheVariants as call
use Rattle.planner.specs.declared.carrier.Carrier.{Carrier}
use Rattle.planner.specs.declared.carrier.Carrier.TheVariants.{Parked, UnderWay}
use Rattle.planner.proofs.Fitting.{way_fits}
use Rattle.job_all.specs.Fitting.{WayFits}

-- an answer that a result is made into
by_result : {X : Type 0} (buffer : List ℕ) (f : X → Answer Seconds) (r : Result X Refusal) → ((x : X) → r ≡ Ok x → WayFits (f x) buffer) → WayFits (answer_by f r) buffer
by_result buffer f (Ok x) h = h x refl
by_result buffer f (Err why) h = tt

module _ (W : World Seconds) (buffer after : List ℕ) where
  by_call : (c : Carrier) (k : Call Seconds) → after ≡ (served_with seconds_kind W buffer c k).buffer → length after ≡ length buffer → WayFits (served_with seconds_kind W buffer c k).answer after
  by_call (Parked p) (Change k b) e n = by_result after (λ u. Done) (changed seconds_kind W.floor W.planner k b).answer (λ x f. tt)
  by_call (Parked p) (Put q) e n = by_result after (λ u. Done) (put_answer (length W.planner.tree) q) (λ x f. tt)
  by_call (Parked p) call.Route e n =
      by_result after answer.Route (routed seconds_kind W.floor W.planner p.place buffer).answer
      (λ a f. omega (arith, way_fits seconds_kind W.floor W.planner p.place buffer a f (ap length (sym e) ∙ n)))
  by_call (Parked p) Step e n = tt
  by_call (Parked p) Halt e n = tt
  by_call (Parked p) (Read q) e n = by_result after answer.Reading (read_answer W.planner.tree q) (λ x f. tt)
  by_call (Parked p) Tally e n = tt
  by_call (UnderWay p) (Change k b) e n = tt
  by_call (UnderWay p) (Put q) e n = tt
  by_call (UnderWay p) call.Route e n = tt
  by_call (UnderWay p) Step e n = by_result after Place (step_answer W.floor W.planner p.place) (λ x f. tt)
  by_call (UnderWay p) Halt e n = tt
  by_call (UnderWay p) (Read q) e n = by_result after answer.Reading (read_answer W.planner.tree q) (λ x f. tt)
  by_call (UnderWay p) Tally e n = tt

-- where the buffer keeps its length
pub served_fits : (W : World Seconds) (turn : Turn Seconds) (a : Answer Seconds) (after : List ℕ) → a ≡ (served seconds_kind W turn).answer → after ≡ (served seconds_kind W turn).buffer → length after ≡ length turn.buffer → WayFits a after
served_fits W turn a after e f n = subst (λ (x : Answer Seconds). WayFits x after) (sym e) (by_call W turn.buffer after turn.slip turn.call f n)
