-- The loops over the lines of a job.
use Rattle.std.proofs.Common.{◌≡◌, ℕ, Bool, List, ◌∷◌, ◌++◌, Some, None, Ok, Err, Result, sym, refl, ap, ◌∙◌, subst, append_assoc}
use Rattle.toll.specs.SecondsKind.{seconds_kind}
use Rattle.toll.specs.declared.seconds.Seconds.{Seconds}
use Rattle.toll.specs.declared.refusal.Refusal.{Refusal}
use Rattle.planner.specs.Calls.{State, set_up_answer, set_up_state}
use Rattle.planner.specs.Served.{parked_at}
use Rattle.planner.specs.Reachable.{Start, start_world}
use Rattle.planner.specs.declared.carrier.Carrier.{Carrier}
use Rattle.jobtext.specs.Parsing.{parse_line}
use Rattle.job_all.specs.declared.standing.Standing.{Standing}
use Rattle.job_all.specs.declared.standing.Standing.TheVariants.{Empty}
use Rattle.job_all.specs.Decisions.{decided_under}
use Rattle.job_all.specs.declared.opening.Opening.{Opening}
use Rattle.job_all.specs.Jobs.{Stage, empty, running, start_of, opened_stage, found_by, opened_under, stepped_under, lines_under}
use Rattle.job_all.proofs.FloorLines.{SetUp, sets_up}

module _ (allowed : ℕ → Standing → Bool) where
  -- one more line was answered
  pub one_more : (s t : Stage) (out after l : List ℕ) (left more : List (List ℕ)) (whole : List ℕ) → out ++ lines_under allowed s left ≡ whole → left ≡ l ∷ more →
      t ≡ (stepped_under allowed s l).stage → after ≡ out ++ (stepped_under allowed s l).text → after ++ lines_under allowed t more ≡ whole
  one_more s t out after l left more whole k e f g =
      ap (λ x. x ++ lines_under allowed t more) g ∙ append_assoc out (stepped_under allowed s l).text (lines_under allowed t more)
      ∙ ap (λ (x : Stage). out ++ ((stepped_under allowed s l).text ++ lines_under allowed x more)) f
      ∙ ap (λ x. out ++ lines_under allowed s x) (sym e) ∙ k

-- the stage after a line while there is no floor
module _ (allowed : ℕ → Standing → Bool) (n : ℕ) (l : List ℕ) where
  pub still_empty : found_by n (opened_under allowed n l) None → empty n ≡ (stepped_under allowed (empty n) l).stage
  still_empty f = go (opened_under allowed n l) f
    where
      go : (r : Result (Start Seconds) Refusal) → found_by n r None → empty n ≡ (opened_stage n r).stage
      go (Ok s) f = absurd f
      go (Err why) f = refl

  pub now_running : (o : Opening) (S : State Seconds) (c : Carrier) → found_by n (opened_under allowed n l) (Some o) →
      S ≡ set_up_state seconds_kind (set_up_answer n (start_of n o).floor.places o.target o.place) (start_of n o).floor.places o.target → c ≡ parked_at o.place →
      running (record { floor = (start_of n o).floor; planner = S }) c ≡ (stepped_under allowed (empty n) l).stage
  now_running o S c f g h = go (opened_under allowed n l) refl f
    where
      go : (r : Result (Start Seconds) Refusal) → opened_under allowed n l ≡ r → found_by n r (Some o) → running (record { floor = (start_of n o).floor; planner = S }) c ≡ (opened_stage n r).stage
      go (Err why) e f = absurd f
      go (Ok s) e f =
          let u : SetUp (start_of n o) = subst SetUp (sym f) (sets_up n (decided_under allowed Empty (parse_line l)) s e) in
          ap (λ (x : State Seconds). running (record { floor = (start_of n o).floor; planner = x }) c) (g ∙ ap (λ r. set_up_state seconds_kind r (start_of n o).floor.places o.target) u)
          ∙ ap (λ (x : Carrier). running (start_world seconds_kind (start_of n o)) x) h
          ∙ ap (λ (x : Start Seconds). running (start_world seconds_kind x) (parked_at x.place)) f
