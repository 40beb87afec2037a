-- A call that is no route is answered alike with every buffer.
use Rattle.std.proofs.Common.{◌≡◌, ◌≢◌, ℕ, Bool, List, [], length, replicate, Some, Ok, Err, Result, refl, ap, ◌∙◌}
use Rattle.toll.specs.SecondsKind.{seconds_kind}
use Rattle.toll.specs.declared.seconds.Seconds.{Seconds}
use Rattle.toll.specs.declared.refusal.Refusal.{Refusal}
use Rattle.planner.specs.Calls.{Changed, changed, read_answer, put_answer, step_answer}
use Rattle.planner.specs.Served.{World, turn_of, parked_at, under_way_at, answer_by, slip_by, served_with, served}
use Rattle.planner.specs.declared.answers.Answer.{Answer}
use Rattle.planner.specs.declared.answers.Answer.TheVariants.{Done, Place}
use Rattle.planner.specs.declared.answers.Answer.TheVariants as answer
use Rattle.planner.specs.declared.call.Call.{Call}
use Rattle.planner.specs.declared.call.Call.TheVariants.{Change, Put, Step, Halt, Read, Tally}
use Rattle.planner.specs.declared.call.Call.TheVariants as call
use Rattle.planner.specs.declared.carrier.Carrier.{Carrier}
use Rattle.planner.specs.declared.carrier.Carrier.TheVariants.{Parked, UnderWay}
use Rattle.jobtext.specs.Parsing.{parse_line}
use Rattle.jobtext.specs.declared.line.Line.{Line}
use Rattle.job_all.specs.declared.standing.Standing.{Standing}
use Rattle.job_all.specs.Decisions.{decided_under}
use Rattle.job_all.specs.Jobs.{answer_line, call_of, standing_of, LineServed, as_line, served_call, served_by, served_under}

-- a line with that text
abbrev with_text : World Seconds → Carrier → List ℕ → LineServed
with_text W slip text = record { world = W; slip = slip; text = text }

module _ (W : World Seconds) (a b : List ℕ) where
  -- an answer that a result is made into
  by_result : {X : Type 0} (after : World Seconds) (slip : Carrier) (f : X → Answer Seconds) (r : Result X Refusal) → ((x : X) → answer_line (f x) a ≡ answer_line (f x) b) → with_text after slip (answer_line (answer_by f r) a) ≡ with_text after slip (answer_line (answer_by f r) b)
  by_result after slip f (Ok x) h = ap (with_text after slip) (h x)
  by_result after slip f (Err why) h = refl

  by_call : (c : Carrier) (k : Call Seconds) → k ≢ call.Route → as_line (served_with seconds_kind W a c k) ≡ as_line (served_with seconds_kind W b c k)
  by_call (Parked p) (Change s t) other =
      let r : Changed Seconds = changed seconds_kind W.floor W.planner s t in
      by_result (record { floor = r.floor; planner = r.state }) (parked_at p.place) (λ u. Done) r.answer (λ u. refl)
  by_call (Parked p) (Put q) other =
      let r = put_answer (length W.planner.tree) q in
      by_result W (slip_by parked_at (parked_at p.place) r) (λ u. Done) r (λ u. refl)
  by_call (Parked p) call.Route other = absurd (other refl)
  by_call (Parked p) Step other = refl
  by_call (Parked p) Halt other = refl
  by_call (Parked p) (Read q) other = by_result W (parked_at p.place) answer.Reading (read_answer W.planner.tree q) (λ r. refl)
  by_call (Parked p) Tally other = refl
  by_call (UnderWay p) (Change s t) other = refl
  by_call (UnderWay p) (Put q) other = refl
  by_call (UnderWay p) call.Route other = refl
  by_call (UnderWay p) Step other =
      let r = step_answer W.floor W.planner p.place in
      by_result W (slip_by under_way_at (under_way_at p.place) r) Place r (λ q. refl)
  by_call (UnderWay p) Halt other = refl
  by_call (UnderWay p) (Read q) other = by_result W (under_way_at p.place) answer.Reading (read_answer W.planner.tree q) (λ r. refl)
  by_call (UnderWay p) Tally other = refl

-- so the line that makes it is served alike with none
pub line_alike : (allowed : ℕ → Standing → Bool) (W : World Seconds) (slip : Carrier) (text : List ℕ) (l : Line) (c : Call Seconds) → decided_under allowed (standing_of slip) (parse_line text) ≡ Ok l → call_of l ≡ Some c → c ≢ call.Route → served_under allowed W slip text ≡ as_line (served seconds_kind W (turn_of slip c []))
line_alike allowed W slip text l c d e other = ap (served_by W slip) d ∙ ap (served_call W slip) e ∙ by_call W (replicate 1024 0) [] slip c other
