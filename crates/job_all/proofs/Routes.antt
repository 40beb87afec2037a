-- Every answered route line is a cheapest way on the hall as the accepted changes left it.
use Rattle.std.proofs.Common.{◌≡◌, ℕ, suc, ◌*◌, ◌<◌, ◌≤◌, Bool, true, false, cond, ◌⊎◌, List, [], ◌∷◌, ◌++◌, map, length, take, drop, replicate, Some, None, Ok, Err, codes, Option, Result, sym, refl, ap, ◌∙◌, subst, inl, inr, ⊎_elim, arith}
use Rattle.std.proofs.lemmas.List.{length-replicate, take-append-le, take_all}
use Rattle.std.proofs.lemmas.Bool.{both_ways}
use Rattle.std.proofs.lemmas.Bool.Decides.{nat_tests}
use Rattle.toll.specs.SecondsKind.{seconds, seconds_kind}
use Rattle.toll.specs.declared.seconds.Seconds.{Seconds}
use Rattle.toll.specs.declared.refusal.Refusal.{Refusal}
use Rattle.toll.specs.declared.refusal.Refusal.TheVariants.{NotNow}
use Rattle.toll.specs.SecondsLaws.{seconds_lawful}
use Rattle.floor.specs.Meaning.{Meaning}
use Rattle.floor.specs.Grid.{hall_size}
use Rattle.floor.proofs.HallFacts.{product_above}
use Rattle.tree.specs.Ways.{Least}
use Rattle.planner.specs.Served.{World, Turn, Served, turn_of, parked_at, said, served}
use Rattle.planner.specs.Reachable.{Start, start_world, set_up}
use Rattle.planner.specs.Promise.{PassableWay, CheapestAnswer}
use Rattle.planner.specs.declared.answers.Answer.{Answer}
use Rattle.planner.specs.declared.answers.Answer.TheVariants.{Refused, Done, Route, Place, Reading, Tally}
use Rattle.planner.specs.declared.call.Call.TheVariants as call
use Rattle.planner.specs.declared.carrier.Carrier.{Carrier}
use Rattle.planner.specs.declared.carrier.Carrier.TheVariants.{Parked, UnderWay}
use Rattle.planner.proofs.Promising.{promised}
use Rattle.jobtext.specs.LineTexts.{letter, text_of}
use Rattle.jobtext.specs.Texts.{ok_line, route_line}
use Rattle.jobtext.specs.Parsing.{parse_line}
use Rattle.jobtext.specs.declared.line.Line.{Line}
use Rattle.jobtext.specs.declared.line.Line.TheVariants.{Floor}
use Rattle.jobtext.proofs.SpellFacts.{parse_only}
use Rattle.job_all.specs.declared.standing.Standing.{Standing}
use Rattle.job_all.specs.declared.standing.Standing.TheVariants.{Empty}
use Rattle.job_all.specs.Decisions.{allowed_now, decided}
use Rattle.job_all.specs.Jobs.{Stage, empty, running, answer_line, floor_start, opened_text, opened_stage, stepped}
use Rattle.job_all.specs.JobLaws.{Exchange, accepted, changes, hall_after, stage_after, LeastRoute}
use Rattle.job_all.proofs.FloorLines.{SetUp, accepted_floor}
use Rattle.job_all.proofs.HallChanges.{Size, hall_start, hall_lawful}
use Rattle.job_all.proofs.Logs.{log_from, log_lines, Met, log_met}
use Rattle.job_all.proofs.Worlds.{Led, lines_led}

-- what is decided to be served was read
decided_read : (s : Standing) (o : Option Line) (k : Line) → decided s o ≡ Ok k → o ≡ Some k
decided_read s None k e = cc
decided_read s (Some l) k e = go (allowed_now (letter l) s) e
  where
    go : (b : Bool) → cond b (Ok l) (Err NotNow) ≡ Ok k → Some l ≡ Some k
    go true f = let q : l ≡ k = cc in ap (λ (x : Line). Some x) q
    go false f = cc

-- a floor line was accepted, and the world is the one that the lines since led to
record Opened (n : ℕ) (log : List Exchange) (stage : Stage) : Type 0 where
  earlier : List Exchange
  since : List Exchange
  rows : ℕ
  columns : ℕ
  least : ℕ
  target : ℕ
  place : ℕ
  size : Size rows columns
  opening : log ≡ earlier ++ (record { line = text_of (Floor rows columns least target place); answer = ok_line (Some (rows * columns) ∷ []) } ∷ since)
  led : Led (floor_start n rows columns least target place) size (seconds least) (start_world seconds_kind (floor_start n rows columns least target place)) stage since

abbrev Known : ℕ → List Exchange → Stage → Type 0
Known n log stage = (stage ≡ empty n) ⊎ Opened n log stage

one_more : {n : ℕ} {log : List Exchange} {stage : Stage} (e : Exchange) → Known n log stage → Known n (e ∷ log) stage
one_more e k = ⊎_elim (λ q. inl q) (λ o. inr (record {
  earlier = e ∷ o.earlier;
  since = o.since;
  rows = o.rows;
  columns = o.columns;
  least = o.least;
  target = o.target;
  place = o.place;
  size = o.size;
  opening = ap (λ (xs : List Exchange). e ∷ xs) o.opening;
  led = o.led;
})) k

size_of : (rows columns : ℕ) → hall_size rows columns ≡ true → Size rows columns
size_of rows columns h =
    let r : 0 < rows = grind (arith, nat_tests) in
    let c : 0 < columns = grind (arith, nat_tests) in
    let f : rows * columns ≤ 1024 = grind (arith, nat_tests) in
    record { some = product_above rows columns r c; few = f }

module _ (n : ℕ) where
  now_open : (l : List ℕ) (ls : List (List ℕ)) (rows columns least target place : ℕ) → hall_size rows columns ≡ true → SetUp (floor_start n rows columns least target place) → l ≡ text_of (Floor rows columns least target place) →
      Opened n (record { line = l; answer = ok_line (Some (rows * columns) ∷ []) } ∷ log_from (running (start_world seconds_kind (floor_start n rows columns least target place)) (parked_at place)) ls)
      (stage_after (running (start_world seconds_kind (floor_start n rows columns least target place)) (parked_at place)) ls)
  now_open l ls rows columns least target place h u e =
      let s = floor_start n rows columns least target place in
      let Z = size_of rows columns h in
      record {
        earlier = [];
        since = log_from (running (start_world seconds_kind s) (parked_at place)) ls;
        rows = rows;
        columns = columns;
        least = least;
        target = target;
        place = place;
        size = Z;
        opening = ap (λ (x : List ℕ). record { line = x; answer = ok_line (Some (rows * columns) ∷ []) } ∷ log_from (running (start_world seconds_kind s) (parked_at place)) ls) e;
        led = lines_led s Z (seconds least) ls (start_world seconds_kind s) (parked_at place)
            (record { calls = []; by = set_up (hall_lawful Z (seconds least) (hall_start Z (seconds least))) u; hall = hall_start Z (seconds least); aim = refl });
      }

  known : (ls : List (List ℕ)) → Known n (log_from (empty n) ls) (stage_after (empty n) ls)
  known [] = inl refl
  known (l ∷ ls) = go (known ls) (opened_text n l) refl
    where
      go : Known n (log_from (empty n) ls) (stage_after (empty n) ls) → (r : Result (Start Seconds) Refusal) → opened_text n l ≡ r → Known n (record { line = l; answer = (opened_stage n r).text } ∷ log_from (opened_stage n r).stage ls) (stage_after (opened_stage n r).stage ls)
      go more (Err why) e = one_more _ more
      go more (Ok s) e =
          let k = accepted_floor n l s e in
          let F = k.2 in
          let read : parse_line l ≡ Some (Floor F.rows F.columns F.least F.target F.place) = decided_read Empty (parse_line l) k.0 k.1 ∙ ap (λ (x : Line). Some x) F.line_is in
          inr (subst (λ (x : Start Seconds). Opened n (record { line = l; answer = ok_line (Some x.floor.places ∷ []) } ∷ log_from (running (start_world seconds_kind x) (parked_at x.place)) ls) (stage_after (running (start_world seconds_kind x) (parked_at x.place)) ls)) F.start_is
          (now_open l ls F.rows F.columns F.least F.target F.place F.size (subst SetUp (sym F.start_is) F.set_up_lem) (parse_only l _ read).same))

-- what an answered route tells
record Told (m : Meaning Seconds) (t s : ℕ) (text : List ℕ) : Type 0 where
  found : PassableWay seconds_kind m t s
  cheapest : Least seconds_kind m t s found.toll
  count : ℕ
  told : text ≡ route_line found.toll.value count (s ∷ found.way)

module _ (W : World Seconds) (s : ℕ) (turn : Turn Seconds) (d : Served Seconds) where
  -- no answer but that of a route has a toll
  other : {X : Type 0} (a : Answer Seconds) → d.answer ≡ a → (said a).toll ≡ None → CheapestAnswer seconds_kind W s turn d → X
  other a e n k = absurd (let q : None ≡ Some k.found.toll = sym n ∙ sym (ap (λ (x : Answer Seconds). (said x).toll) e) ∙ k.toll in cc)

  told_by : (a : Answer Seconds) → d.answer ≡ a → ((said a).refusal ≡ None → CheapestAnswer seconds_kind W s turn d) → accepted (answer_line a d.buffer) ≡ true → Told W.floor W.planner.target s (answer_line a d.buffer)
  told_by (Refused why) e h t = absurd (both_ways false refl t)
  told_by Done e h t = other Done e refl (h refl)
  told_by (Place p) e h t = other (Place p) e refl (h refl)
  told_by (Reading r) e h t = other (Reading r) e refl (h refl)
  told_by (Tally n) e h t = other (Tally n) e refl (h refl)
  told_by (Route a) e h t =
      let k = h refl in
      let w = k.found.way in
      let te : Some a.toll ≡ Some k.found.toll = sym (ap (λ (x : Answer Seconds). (said x).toll) e) ∙ k.toll in
      let le : Some a.length ≡ Some (suc (length w)) = sym (ap (λ (x : Answer Seconds). (said x).length) e) ∙ k.long in
      let tq : a.toll ≡ k.found.toll = cc in
      let lq : a.length ≡ suc (length w) = cc in
      let way : take a.length d.buffer ≡ s ∷ w =
      ap (λ (n : ℕ). take n d.buffer) lq ∙ ap (take (suc (length w))) k.written
      ∙ take-append-le (suc (length w)) (s ∷ w) (drop (suc (length w)) turn.buffer) (omega arith) ∙ take_all (suc (length w)) (s ∷ w) (omega arith) in
      record {
        found = k.found;
        cheapest = k.least;
        count = a.count;
        told = ap (λ (x : Seconds). route_line x.value a.count (take a.length d.buffer)) tq ∙ ap (route_line k.found.toll.value a.count) way;
      }

module _ (before : List Exchange) (e : Exchange) (met : Met (empty 1024) before e) (is : e.line ≡ codes "R") (t : accepted e.answer ≡ true) where
  abbrev stage : Stage
  stage = stage_after (empty 1024) met.earlier

  -- the answer, by where the job stands
  answered : (s : Stage) → stage ≡ s → e.answer ≡ (stepped s (codes "R")).text
  answered s q = met.answer_is ∙ ap (λ (l : List ℕ). (stepped stage l).text) is ∙ ap (λ (x : Stage). (stepped x (codes "R")).text) q

  no_floor : stage ≡ empty 1024 → LeastRoute before e.answer
  no_floor q = absurd (both_ways (accepted e.answer) (ap accepted (answered (empty 1024) q)) t)

  with_floor : Opened 1024 (log_from (empty 1024) met.earlier) stage → LeastRoute before e.answer
  with_floor o = go o.led.slip o.led.stands
    where
      go : (c : Carrier) → stage ≡ running o.led.world c → LeastRoute before e.answer
      go (UnderWay p) q = absurd (both_ways (accepted e.answer) (ap accepted (answered (running o.led.world (UnderWay p)) q)) t)
      go (Parked p) q =
          let V = o.led.world in
          let turn = turn_of (Parked p) call.Route (replicate 1024 0) in
          let d = served seconds_kind V turn in
          let is_text = answered (running V (Parked p)) q in
          let fits : V.floor.places ≤ length (replicate {A = ℕ} 1024 0) = omega (arith, (hall_lawful o.size (seconds o.least) o.led.reached.hall).few_places, length-replicate {A = ℕ} 1024 0) in
          let k = (promised seconds_lawful o.led.reached.by turn).answered p.place refl refl fits in
          let T = told_by V p.place turn d d.answer refl k.cheapest (sym (ap accepted is_text) ∙ t) in
          let T2 = subst (λ (m : Meaning Seconds). Told m V.planner.target p.place (answer_line d.answer d.buffer)) o.led.floor_is T in
          let T3 = subst (λ (n : ℕ). Told (hall_after o.rows o.columns o.least (changes o.since)) n p.place (answer_line d.answer d.buffer)) o.led.reached.aim T2 in
          record {
            earlier = o.earlier;
            since = o.since;
            rows = o.rows;
            columns = o.columns;
            least = o.least;
            target = o.target;
            place = o.place;
            opening = met.before_is ∙ o.opening;
            start = p.place;
            world = V;
            parked = ap (λ (b : List Exchange). stage_after (empty 1024) (map (λ x. x.line) b)) met.before_is ∙ ap (stage_after (empty 1024)) (log_lines (empty 1024) met.earlier) ∙ q;
            found = T3.found;
            cheapest = T3.cheapest;
            count = T3.count;
            told = is_text ∙ T3.told;
          }

pub log_routes : (ls : List (List ℕ)) (before after : List Exchange) (e : Exchange) → log_from (empty 1024) ls ≡ before ++ (e ∷ after) → e.line ≡ codes "R" → accepted e.answer ≡ true → LeastRoute before e.answer
log_routes ls before after e q is t =
    let met = log_met (empty 1024) ls before e after q in
    ⊎_elim (no_floor before e met is t) (with_floor before e met is t) (known 1024 met.earlier)
