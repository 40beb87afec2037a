-- Every answer is one line of text.
use Rattle.std.proofs.Common.{◌≡◌, ℕ, zero, suc, ◌+◌, ◌/◌, ◌%◌, true, false, cond, eqb, ltb, List, [], ◌∷◌, ◌++◌, map, take, replicate, Some, None, Ok, Err, codes, decimal, Option, Result, sym, append_assoc, arith}
use Rattle.std.specs.Option.{option_map}
use Rattle.std.specs.Fmt.{digit_glyph, digits_onto, digits}
use Rattle.std.specs.List.{flat_map}
use Rattle.toll.specs.declared.seconds.Seconds.{Seconds}
use Rattle.toll.specs.declared.refusal.Refusal.{Refusal}
use Rattle.toll.specs.declared.refusal.Refusal.TheVariants.{NotNow}
use Rattle.toll.specs.Refusals.{number_of}
use Rattle.toll.specs.SecondsKind.{seconds_kind}
use Rattle.planner.specs.Served.{World, turn_of, served}
use Rattle.planner.specs.Reachable.{Start}
use Rattle.planner.specs.declared.answers.Answer.{Answer}
use Rattle.planner.specs.declared.answers.Answer.TheVariants.{Refused, Done, Route, Place, Reading, Tally}
use Rattle.planner.specs.declared.call.Call.{Call}
use Rattle.planner.specs.declared.carrier.Carrier.{Carrier}
use Rattle.jobtext.specs.LineTexts.{spaced}
use Rattle.jobtext.specs.Texts.{field_text, ok_line, no_line}
use Rattle.jobtext.specs.Lines.{Whole}
use Rattle.jobtext.specs.Parsing.{parse_line}
use Rattle.jobtext.specs.declared.line.Line.{Line}
use Rattle.job_all.specs.Decisions.{decided}
use Rattle.job_all.specs.Jobs.{Stage, empty, running, answer_line, call_of, opened_text, opened_stage, standing_of, served_call, served_by, stepped}
use Rattle.job_all.specs.JobLaws.{OneLine}

whole_append : (xs ys : List ℕ) → Whole xs → Whole ys → Whole (xs ++ ys)
whole_append [] ys w v = v
whole_append (x ∷ xs) ys w v = (w.0, whole_append xs ys w.1 v)

glyph_plain : (d : ℕ) → digit_glyph false d ≡ 10 → ⊥
glyph_plain d = elim (ltb d 10) as (λ t. cond t (48 + d) (87 + d) ≡ 10 → ⊥) [ true ↦ (λ e. omega arith) | false ↦ (λ e. omega arith) ]

whole_spelled : (k n : ℕ) (acc : List ℕ) → Whole acc → Whole (digits_onto k 10 false n acc)
whole_spelled zero n acc w = w
whole_spelled (suc k) n acc w =
    elim (eqb (n / 10) 0) as (λ t. Whole (cond t (digit_glyph false (n % 10) ∷ acc) (digits_onto k 10 false (n / 10) (digit_glyph false (n % 10) ∷ acc))))
    [ true ↦ (glyph_plain (n % 10), w) | false ↦ whole_spelled k (n / 10) (digit_glyph false (n % 10) ∷ acc) (glyph_plain (n % 10), w) ]

whole_decimal : (n : ℕ) → Whole (decimal n)
unfolding digits
whole_decimal n = whole_spelled 64 n [] tt

whole_spaced : (n : ℕ) → Whole (spaced n)
whole_spaced n = ((λ e. omega arith), whole_decimal n)

whole_field : (f : Option ℕ) → Whole (field_text f)
whole_field None = ((λ e. omega arith), ((λ e. omega arith), tt))
whole_field (Some n) = whole_spaced n

whole_fields : (fs : List (Option ℕ)) → Whole (flat_map field_text fs)
whole_fields [] = tt
whole_fields (f ∷ fs) = whole_append (field_text f) (flat_map field_text fs) (whole_field f) (whole_fields fs)

ok_one : (fs : List (Option ℕ)) → OneLine (ok_line fs)
ok_one fs = record {
  body = codes "ok" ++ flat_map field_text fs;
  whole = ((λ e. omega arith), ((λ e. omega arith), whole_fields fs));
  is = sym (append_assoc (codes "ok") (flat_map field_text fs) (10 ∷ []));
}

no_one : (n : ℕ) → OneLine (no_line n)
no_one n = record {
  body = codes "no" ++ spaced n;
  whole = ((λ e. omega arith), ((λ e. omega arith), whole_spaced n));
  is = sym (append_assoc (codes "no") (spaced n) (10 ∷ []));
}

answer_one : (a : Answer Seconds) (buffer : List ℕ) → OneLine (answer_line a buffer)
answer_one (Refused why) buffer = no_one (number_of why)
answer_one Done buffer = ok_one []
answer_one (Route a) buffer = ok_one (Some a.toll.value ∷ Some a.count ∷ map Some (take a.length buffer))
answer_one (Place p) buffer = ok_one (Some p ∷ [])
answer_one (Reading r) buffer = ok_one (option_map (λ t. t.value) r.toll ∷ r.next ∷ [])
answer_one (Tally n) buffer = ok_one (Some n ∷ [])

opened_one : (n : ℕ) (r : Result (Start Seconds) Refusal) → OneLine (opened_stage n r).text
opened_one n (Ok s) = ok_one (Some s.floor.places ∷ [])
opened_one n (Err why) = no_one (number_of why)

call_one : (W : World Seconds) (c : Carrier) (k : Option (Call Seconds)) → OneLine (served_call W c k).text
call_one W c None = no_one (number_of NotNow)
call_one W c (Some k) =
    let d = served seconds_kind W (turn_of c k (replicate 1024 0)) in
    answer_one d.answer d.buffer

served_one : (W : World Seconds) (c : Carrier) (r : Result Line Refusal) → OneLine (served_by W c r).text
served_one W c (Ok l) = call_one W c (call_of l)
served_one W c (Err why) = no_one (number_of why)

pub step_one : (s : Stage) (l : List ℕ) → OneLine (stepped s l).text
step_one (empty n) l = opened_one n (opened_text n l)
step_one (running W c) l = served_one W c (decided (standing_of c) (parse_line l))
