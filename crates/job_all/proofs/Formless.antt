-- Exactly the lines of no known form are answered with 13.
use Rattle.std.proofs.Common.{◌≡◌, ℕ, Bool, true, false, cond, not, ◌&&◌, eqb, ltb, List, length, get_or, replicate, Some, None, Ok, Err, Option, Result, sym, refl, ap, ◌∙◌, arith}
use Rattle.std.specs.Fmt.{digits}
use Rattle.std.specs.List.{slice_get}
use Rattle.toll.specs.SecondsKind.{seconds_kind}
use Rattle.toll.specs.declared.seconds.Seconds.{Seconds}
use Rattle.toll.specs.declared.refusal.Refusal.{Refusal}
use Rattle.toll.specs.declared.refusal.Refusal.TheVariants.{FloorSize, LaneRecord, ShortTable, NoStart, UnknownSpot, BelowLeast, UnknownPlace, NoWay, ShortBuffer, AtTarget, OtherFloor, BrokenWay, BadLine, NotNow}
use Rattle.floor.specs.Meaning.{Meaning, Spot}
use Rattle.floor.specs.Setting.{answer_at, if_enough, set_answer}
use Rattle.floor.specs.Grid.{hall_size}
use Rattle.tree.specs.Ways.{next_step, borne_out}
use Rattle.astar.specs.Search.{Searched, seek}
use Rattle.planner.specs.Calls.{State, read_answer, way_answer, search_answer, route_by, change_by, put_answer, step_to, step_answer}
use Rattle.planner.specs.Served.{World, answer_by, served_with}
use Rattle.planner.specs.Reachable.{Start}
use Rattle.astar.specs.declared.outcome.Outcome.{Outcome}
use Rattle.astar.specs.declared.outcome.Outcome.TheVariants.{Solved}
use Rattle.astar.specs.declared.outcome.Outcome.TheVariants as outcome
use Rattle.planner.specs.declared.answers.Answer.{Answer}
use Rattle.planner.specs.declared.answers.Answer.TheVariants.{Done, Place}
use Rattle.planner.specs.declared.answers.Answer.TheVariants as answer
use Rattle.planner.specs.declared.call.Call.{Call}
use Rattle.planner.specs.declared.call.Call.TheVariants.{Change, Put, Step, Halt, Read, Tally}
use Rattle.planner.specs.declared.call.Call.TheVariants as call
use Rattle.planner.specs.declared.carrier.Carrier.{Carrier}
use Rattle.planner.specs.declared.carrier.Carrier.TheVariants.{Parked, UnderWay}
use Rattle.jobtext.specs.LineTexts.{letter}
use Rattle.jobtext.specs.Texts.{no_line}
use Rattle.jobtext.specs.Parsing.{parse_line}
use Rattle.jobtext.specs.declared.line.Line.{Line}
use Rattle.jobtext.specs.declared.line.Line.TheVariants as line
use Rattle.jobtext.proofs.SpellFacts.{parse_only, parse_every}
use Rattle.job_all.specs.declared.standing.Standing.TheVariants.{Empty}
use Rattle.job_all.specs.Decisions.{allowed_now, decided}
use Rattle.job_all.specs.Jobs.{Stage, empty, running, refusal_line, answer_line, call_of, settled, sized, floor_start, opened, opened_by, opened_stage, standing_of, served_call, served_by, stepped}
use Rattle.job_all.specs.JobLaws.{Formed}

-- a text other than that of refusal 13
abbrev Not13 : List ℕ → Type 0
Not13 a = ¬ (a ≡ no_line 13)

-- a refusal other than 13
abbrev Other : Refusal → Type 0
Other why = ¬ (why ≡ BadLine)

by_first : {a : List ℕ} → get_or a 0 0 ≡ 111 → Not13 a
by_first f e = let q : ◌≡◌ {A = ℕ} 111 110 = sym f ∙ ap (λ (xs : List ℕ). get_or xs 0 0) e in omega arith

other_13 : (why : Refusal) → Other why → Not13 (refusal_line why)
unfolding digits
other_13 FloorSize o e = let q : ◌≡◌ {A = ℕ} 10 51 = ap (λ (xs : List ℕ). get_or xs 4 0) e in omega arith
other_13 LaneRecord o e = let q : ◌≡◌ {A = ℕ} 10 51 = ap (λ (xs : List ℕ). get_or xs 4 0) e in omega arith
other_13 ShortTable o e = let q : ◌≡◌ {A = ℕ} 10 51 = ap (λ (xs : List ℕ). get_or xs 4 0) e in omega arith
other_13 NoStart o e = let q : ◌≡◌ {A = ℕ} 10 51 = ap (λ (xs : List ℕ). get_or xs 4 0) e in omega arith
other_13 UnknownSpot o e = let q : ◌≡◌ {A = ℕ} 10 51 = ap (λ (xs : List ℕ). get_or xs 4 0) e in omega arith
other_13 BelowLeast o e = let q : ◌≡◌ {A = ℕ} 10 51 = ap (λ (xs : List ℕ). get_or xs 4 0) e in omega arith
other_13 UnknownPlace o e = let q : ◌≡◌ {A = ℕ} 10 51 = ap (λ (xs : List ℕ). get_or xs 4 0) e in omega arith
other_13 NoWay o e = let q : ◌≡◌ {A = ℕ} 10 51 = ap (λ (xs : List ℕ). get_or xs 4 0) e in omega arith
other_13 ShortBuffer o e = let q : ◌≡◌ {A = ℕ} 10 51 = ap (λ (xs : List ℕ). get_or xs 4 0) e in omega arith
other_13 AtTarget o e = let q : ◌≡◌ {A = ℕ} 48 51 = ap (λ (xs : List ℕ). get_or xs 4 0) e in omega arith
other_13 OtherFloor o e = let q : ◌≡◌ {A = ℕ} 49 51 = ap (λ (xs : List ℕ). get_or xs 4 0) e in omega arith
other_13 BrokenWay o e = let q : ◌≡◌ {A = ℕ} 50 51 = ap (λ (xs : List ℕ). get_or xs 4 0) e in omega arith
other_13 BadLine o e = o refl
other_13 NotNow o e = let q : ◌≡◌ {A = ℕ} 52 51 = ap (λ (xs : List ℕ). get_or xs 4 0) e in omega arith

-- a result that is no refusal with 13
abbrev Fine : {X : Type 0} → Result X Refusal → Type 0
Fine (Ok x) = Unit {0}
Fine (Err why) = Other why

not_now : Other NotNow
not_now e = cc

-- while there is no floor
settled_fine : (s : Start Seconds) (a b : Bool) → Fine (settled s (cond a (Err ShortTable) (cond b (Ok tt) (Err NoStart))))
settled_fine s true b = λ e. cc
settled_fine s false true = tt
settled_fine s false false = λ e. cc

sized_fine : (s : Start Seconds) (fits : Bool) → Fine (sized s fits)
sized_fine s true = settled_fine s (ltb s.records s.floor.places) (ltb s.target s.floor.places && ltb s.place s.floor.places)
sized_fine s false = λ e. cc

opened_fine : (n : ℕ) (k : Line) → Fine (opened n k)
opened_fine n (line.Floor rows columns least target place) = sized_fine (floor_start n rows columns least target place) (hall_size rows columns)
opened_fine n (line.Change spot toll) = not_now
opened_fine n (line.Put place) = not_now
opened_fine n line.Route = not_now
opened_fine n line.Step = not_now
opened_fine n line.Halt = not_now
opened_fine n (line.Query place) = not_now
opened_fine n line.Tally = not_now

opened_not : (n : ℕ) (r : Result (Start Seconds) Refusal) → Fine r → Not13 (opened_stage n r).text
opened_not n (Ok s) f = by_first refl
opened_not n (Err why) f = other_13 why f

-- the calls
fine_at : (t : Bool) → Fine (if_enough t)
fine_at true = tt
fine_at false = λ e. cc

fine_set : (o : Option (Spot Seconds)) (b : Seconds) → Fine (answer_at seconds_kind o b)
fine_set None b = λ e. cc
fine_set (Some s) b = fine_at (seconds_kind.le s.least b)

fine_change : (m : Meaning Seconds) (S : State Seconds) (k : ℕ) (b : Seconds) (same : Bool) → Fine (change_by seconds_kind m S k b (cond same (set_answer seconds_kind m k b) (Err OtherFloor))).answer
fine_change m S k b false = λ e. cc
fine_change m S k b true = go (set_answer seconds_kind m k b) (fine_set (slice_get m.spots k) b)
  where
    go : (r : Result (Unit {0}) Refusal) → Fine r → Fine (change_by seconds_kind m S k b r).answer
    go (Ok u) f = tt
    go (Err why) f = f

fine_known : {X : Type 0} (t : Bool) (x : X) → Fine (cond t (Ok x) (Err UnknownPlace))
fine_known true x = tt
fine_known false x = λ e. cc

fine_way : (count : ℕ) (o : Option (List ℕ × Seconds)) → Fine (way_answer count o)
fine_way count None = λ e. cc
fine_way count (Some p) = tt

fine_search : (m : Meaning Seconds) (t s : ℕ) (r : Searched Seconds) (o : Outcome) → Fine (search_answer seconds_kind m t s r o)
fine_search m t s r Solved = fine_way (length r.expanded) (borne_out seconds_kind m r.tree t s)
fine_search m t s r outcome.NoWay = λ e. cc

fine_route : (m : Meaning Seconds) (S : State Seconds) (s : ℕ) (buffer : List ℕ) (a b c : Bool) → Fine (route_by seconds_kind m S s buffer (cond a (Some OtherFloor) (cond b (Some ShortBuffer) (cond c None (Some UnknownPlace))))).answer
fine_route m S s buffer true b c = λ e. cc
fine_route m S s buffer false true c = λ e. cc
fine_route m S s buffer false false true = fine_search m S.target s (seek seconds_kind m s (length S.tree) S.tree) (seek seconds_kind m s (length S.tree) S.tree).outcome
fine_route m S s buffer false false false = λ e. cc

fine_next : (o : Option ℕ) → Fine (step_to o)
fine_next None = λ e. cc
fine_next (Some q) = tt

fine_step : (a b c : Bool) (o : Option ℕ) → Fine (cond a (cond b (cond c (Err AtTarget) (step_to o)) (Err UnknownPlace)) (Err OtherFloor))
fine_step true true true o = λ e. cc
fine_step true true false o = fine_next o
fine_step true false c o = λ e. cc
fine_step false b c o = λ e. cc

-- an answer that a result is made into, if it begins with the letter o where the result is no refusal
result_not : {X : Type 0} (buffer : List ℕ) (f : X → Answer Seconds) (r : Result X Refusal) → ((x : X) → get_or (answer_line (f x) buffer) 0 0 ≡ 111) → Fine r → Not13 (answer_line (answer_by f r) buffer)
result_not buffer f (Ok x) o k = by_first (o x)
result_not buffer f (Err why) o k = other_13 why k

module _ (W : World Seconds) (buffer after : List ℕ) where
  call_not : (c : Carrier) (k : Call Seconds) → Not13 (answer_line (served_with seconds_kind W buffer c k).answer after)
  call_not (Parked p) (Change k b) = result_not after (λ u. Done) _ (λ x. refl) (fine_change W.floor W.planner k b (eqb W.floor.places (length W.planner.tree)))
  call_not (Parked p) (Put q) = result_not after (λ u. Done) (put_answer (length W.planner.tree) q) (λ x. refl) (fine_known (ltb q (length W.planner.tree)) q)
  call_not (Parked p) call.Route = result_not after answer.Route _ (λ x. refl) (fine_route W.floor W.planner p.place buffer (not (eqb W.floor.places (length W.planner.tree))) (ltb (length buffer) (length W.planner.tree)) (ltb p.place (length W.planner.tree)))
  call_not (Parked p) Step = other_13 NotNow not_now
  call_not (Parked p) Halt = other_13 NotNow not_now
  call_not (Parked p) (Read q) = result_not after answer.Reading (read_answer W.planner.tree q) (λ x. refl) (fine_known (ltb q (length W.planner.tree)) _)
  call_not (Parked p) Tally = by_first refl
  call_not (UnderWay p) (Change k b) = other_13 NotNow not_now
  call_not (UnderWay p) (Put q) = other_13 NotNow not_now
  call_not (UnderWay p) call.Route = other_13 NotNow not_now
  call_not (UnderWay p) Step = result_not after Place (step_answer W.floor W.planner p.place) (λ x. refl) (fine_step (eqb W.floor.places (length W.planner.tree)) (ltb p.place (length W.planner.tree)) (eqb p.place W.planner.target) (next_step W.floor W.planner.tree p.place))
  call_not (UnderWay p) Halt = by_first refl
  call_not (UnderWay p) (Read q) = result_not after answer.Reading (read_answer W.planner.tree q) (λ x. refl) (fine_known (ltb q (length W.planner.tree)) _)
  call_not (UnderWay p) Tally = by_first refl

made_not : (W : World Seconds) (c : Carrier) (k : Option (Call Seconds)) → Not13 (served_call W c k).text
made_not W c None = other_13 NotNow not_now
made_not W c (Some k) = call_not W (replicate 1024 0) _ c k

-- the text of the answer to a line, by what the line is read as
abbrev answer_by_lem : Stage → Option Line → List ℕ
answer_by_lem (empty n) o = (opened_stage n (opened_by n (decided Empty o))).text
answer_by_lem (running W c) o = (served_by W c (decided (standing_of c) o)).text

answer_is : (s : Stage) (l : List ℕ) → (stepped s l).text ≡ answer_by_lem s (parse_line l)
answer_is (empty n) l = refl
answer_is (running W c) l = refl

none_13 : (s : Stage) → answer_by_lem s None ≡ no_line 13
none_13 (empty n) = refl
none_13 (running W c) = refl

some_13 : (s : Stage) (k : Line) → Not13 (answer_by_lem s (Some k))
some_13 (empty n) k =
    elim (allowed_now (letter k) Empty) as (λ b. Not13 (opened_stage n (opened_by n (cond b (Ok k) (Err NotNow)))).text)
    [ true ↦ opened_not n (opened n k) (opened_fine n k) | false ↦ other_13 NotNow not_now ]
some_13 (running W c) k =
    elim (allowed_now (letter k) (standing_of c)) as (λ b. Not13 (served_by W c (cond b (Ok k) (Err NotNow))).text)
    [ true ↦ made_not W c (call_of k) | false ↦ other_13 NotNow not_now ]

pub step_formless : (s : Stage) (l : List ℕ) → ¬ (Formed l) → (stepped s l).text ≡ no_line 13
step_formless s l f = answer_is s l ∙ go (parse_line l) refl
  where
    go : (o : Option Line) → parse_line l ≡ o → answer_by_lem s o ≡ no_line 13
    go None e = none_13 s
    go (Some k) e = absurd (f (k, parse_only l k e))

pub step_formed : (s : Stage) (l : List ℕ) → Formed l → ¬ ((stepped s l).text ≡ no_line 13)
step_formed s l f e = some_13 s f.0 (sym (ap (answer_by_lem s) (parse_every l f.0 f.1)) ∙ sym (answer_is s l) ∙ e)
