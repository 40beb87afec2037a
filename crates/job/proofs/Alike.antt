-- A job of planning lines prints what the shared job prints under which planning lines alone are allowed.
use Rattle.std.proofs.Common.{◌≡◌, ℕ, ◌*◌, Bool, true, false, cond, ltb, List, [], ◌∷◌, ◌++◌, length, replicate, Some, None, Ok, Err, Option, Result, sym, refl, ap, ◌∙◌}
use Rattle.std.specs.Result.{result_map_both}
use Rattle.toll.specs.SecondsKind.{seconds, seconds_kind}
use Rattle.toll.specs.declared.seconds.Seconds.{Seconds}
use Rattle.toll.specs.declared.refusal.Refusal.{Refusal}
use Rattle.toll.specs.declared.refusal.Refusal.TheVariants.{BadLine}
use Rattle.floor.specs.Meaning.{Meaning}
use Rattle.floor.specs.Grid.{hall_size, grid_meaning}
use Rattle.planner.specs.Calls.{State, set_up_answer, set_up_state, read_answer, Routed, routed}
use Rattle.planner.specs.Served.{World, parked_at, under_way_at, answer_by, served_route}
use Rattle.planner.specs.Reachable as reachable
use Rattle.planner.specs.declared.answers.Answer.TheVariants as answer
use Rattle.planner.specs.declared.answers.Reading.{Reading}
use Rattle.planner.specs.declared.answers.Route.{Route}
use Rattle.planner.specs.declared.carrier.Carrier.{Carrier}
use Rattle.jobtext.specs.Texts.{ok_line}
use Rattle.jobtext.specs.Lines.{lines}
use Rattle.jobtext.specs.Parsing.{parse_line}
use Rattle.jobtext.specs.declared.line.Line.{Line}
use Rattle.jobtext.specs.declared.line.Line.TheVariants.{Floor, Change, Put, Step, Halt, Query, Tally}
use Rattle.jobtext.specs.declared.line.Line.TheVariants as line
use Rattle.job_all.specs.declared.standing.Standing.TheVariants.{Empty}
use Rattle.job_all.specs.Jobs as all
use Rattle.job_all.proofs.FloorLines.{SetUp, sets_up}
use Rattle.job.specs.Decisions.{allowed_now, decided}
use Rattle.job.specs.Jobs.{Start, settled, sized, opened, opened_by, opened_text, opening_line, Slip, parked, under_way, standing_of, reading_line, refusal_line, Served, route_served, served, served_text, running_text, continued, lines_text, job_text}

-- a start with a table of n records
abbrev with : ℕ → Start → reachable.Start Seconds
with n s = record { floor = s.hall; records = n; target = s.target; place = s.place }

abbrev with_all : ℕ → Result Start Refusal → Result (reachable.Start Seconds) Refusal
with_all n r = result_map_both (with n) (λ why. why) r

settled_alike : (n : ℕ) (s : Start) (r : Result (Unit {0}) Refusal) → all.settled (with n s) r ≡ with_all n (settled s r)
settled_alike n s (Ok u) = refl
settled_alike n s (Err why) = refl

sized_alike : (n : ℕ) (s : Start) (fits : Bool) → all.sized (with n s) fits ≡ with_all n (sized n s fits)
sized_alike n s true = settled_alike n s (set_up_answer n s.hall.places s.target s.place)
sized_alike n s false = refl

opened_alike : (n : ℕ) (l : Line) → all.opened n l ≡ with_all n (opened n l)
opened_alike n (Floor rows columns least target place) =
    sized_alike n (record { hall = grid_meaning rows columns (seconds least) (replicate (rows * columns) (seconds least)); target = target; place = place }) (hall_size rows columns)
opened_alike n (Change spot toll) = refl
opened_alike n (Put place) = refl
opened_alike n line.Route = refl
opened_alike n Step = refl
opened_alike n Halt = refl
opened_alike n (Query place) = refl
opened_alike n Tally = refl

opening_alike : (n : ℕ) (r : Result Line Refusal) → all.opened_by n r ≡ with_all n (opened_by n r)
opening_alike n (Ok l) = opened_alike n l
opening_alike n (Err why) = refl

-- the carrier of a slip, and a line that was served on a hall m
abbrev carrier_at : Slip → Carrier
carrier_at (parked p) = parked_at p
carrier_at (under_way p) = under_way_at p

abbrev world_at : Meaning Seconds → State Seconds → World Seconds
world_at m S = record { floor = m; planner = S }

abbrev line_at : Meaning Seconds → Served → all.LineServed
line_at m d = record { world = world_at m d.state; slip = carrier_at d.slip; text = d.text }

-- a line that alters nothing
abbrev told_at : World Seconds → Carrier → List ℕ → all.LineServed
told_at W c text = record { world = W; slip = c; text = text }

reading_alike : (a : Result (Reading Seconds) Refusal) (buffer : List ℕ) → all.answer_line (answer_by answer.Reading a) buffer ≡ reading_line a
reading_alike (Ok r) buffer = refl
reading_alike (Err why) buffer = refl

module _ (m : Meaning Seconds) (S : State Seconds) where
  route_alike : (s : ℕ) (a : Result (Route Seconds) Refusal) (after : State Seconds) (buffer : List ℕ) →
      all.as_line (served_route (world_at m S) s (record { answer = a; state = after; buffer = buffer })) ≡ line_at m (route_served s (record { answer = a; state = after; buffer = buffer }))
  route_alike s (Ok a) after buffer = refl
  route_alike s (Err why) after buffer = refl

  told_alike : (c : Carrier) (p : ℕ) →
      told_at (world_at m S) c (all.answer_line (answer_by answer.Reading (read_answer S.tree p)) (replicate 1024 0)) ≡ told_at (world_at m S) c (reading_line (read_answer S.tree p))
  told_alike c p = ap (told_at (world_at m S) c) (reading_alike (read_answer S.tree p) (replicate 1024 0))

  read_alike : (c : Slip) (o : Option Line) → all.served_by (world_at m S) (carrier_at c) (decided (all.standing_of (carrier_at c)) o) ≡ line_at m (served m S c (decided (standing_of c) o))
  read_alike (parked s) None = refl
  read_alike (parked s) (Some (Floor rows columns least target place)) = refl
  read_alike (parked s) (Some (Change spot toll)) = refl
  read_alike (parked s) (Some (Put place)) = refl
  read_alike (parked s) (Some line.Route) =
      let r : Routed Seconds = routed seconds_kind m S s (replicate 1024 0) in
      route_alike s r.answer r.state r.buffer
  read_alike (parked s) (Some Step) = refl
  read_alike (parked s) (Some Halt) = refl
  read_alike (parked s) (Some (Query p)) = told_alike (parked_at s) p
  read_alike (parked s) (Some Tally) = refl
  read_alike (under_way s) None = refl
  read_alike (under_way s) (Some (Floor rows columns least target place)) = refl
  read_alike (under_way s) (Some (Change spot toll)) = refl
  read_alike (under_way s) (Some (Put place)) = refl
  read_alike (under_way s) (Some line.Route) = refl
  read_alike (under_way s) (Some Step) = refl
  read_alike (under_way s) (Some Halt) = refl
  read_alike (under_way s) (Some (Query p)) = told_alike (under_way_at s) p
  read_alike (under_way s) (Some Tally) = refl

running_alike : (m : Meaning Seconds) (S : State Seconds) (c : Slip) (ls : List (List ℕ)) → all.lines_under allowed_now (all.running (world_at m S) (carrier_at c)) ls ≡ running_text m S c ls
running_alike m S c [] = refl
running_alike m S c (l ∷ ls) =
    let d : Served = served_text m S c l in
    ap (λ (x : all.LineServed). x.text ++ all.lines_under allowed_now (all.running x.world x.slip) ls) (read_alike m S c (parse_line l))
    ∙ ap (λ (t : List ℕ). d.text ++ t) (running_alike m d.state d.slip ls)

lines_alike : (n : ℕ) (ls : List (List ℕ)) → all.lines_under allowed_now (all.empty n) ls ≡ lines_text n ls
lines_alike n [] = refl
lines_alike n (l ∷ ls) =
    ap (λ (x : Result (reachable.Start Seconds) Refusal). (all.opened_stage n x).text ++ all.lines_under allowed_now (all.opened_stage n x).stage ls) (opening_alike n (decided Empty (parse_line l)))
    ∙ go (opened_text n l) refl (lines_alike n ls)
  where
    go : (r : Result Start Refusal) → opened_text n l ≡ r → all.lines_under allowed_now (all.empty n) ls ≡ lines_text n ls → (all.opened_stage n (with_all n r)).text ++ all.lines_under allowed_now (all.opened_stage n (with_all n r)).stage ls ≡ opening_line r ++ continued n r ls (lines_text n ls)
    go (Ok s) e rest =
        let up : SetUp (with n s) = sets_up n (decided Empty (parse_line l)) (with n s) (opening_alike n (decided Empty (parse_line l)) ∙ ap (with_all n) e) in
        ap (λ (t : List ℕ). ok_line (Some s.hall.places ∷ []) ++ t)
        (running_alike s.hall (set_up_state seconds_kind (Ok tt) s.hall.places s.target) (parked s.place) ls
        ∙ ap (λ (r : Result (Unit {0}) Refusal). running_text s.hall (set_up_state seconds_kind r s.hall.places s.target) (parked s.place) ls) (sym up))
    go (Err why) e rest = ap (λ (t : List ℕ). refusal_line why ++ t) rest

-- the whole text
pub job_alike : (text : List ℕ) → all.job_under allowed_now text ≡ job_text text
job_alike text = ap (λ (t : List ℕ). cond (ltb 65536 (length text)) (refusal_line BadLine) t) (lines_alike 1024 (lines text))
