-- The lines of a text, one by one, and of a text that is put together from lines.
use Rattle.std.proofs.Common.{◌≡◌, ℕ, ◌<◌, ◌≤◌, true, false, cond, eqb, List, [], ◌∷◌, ◌++◌, length, Some, None, unwrap_or, refl, ap, ◌∙◌, append_assoc, arith}
use Rattle.std.proofs.lemmas.Bool.{ne_eqb}
use Rattle.std.specs.List.{AllByRecursion}
use Rattle.jobtext.specs.Bytes.{front, rest}
use Rattle.jobtext.specs.Lines.{behind, onto, lines, Whole, closed, LineLaws}

cons_step : (b : ℕ) (bs : List ℕ) → lines (b ∷ bs) ≡ front 10 (b ∷ bs) ∷ lines (behind (b ∷ bs))
cons_step b [] =
    elim (eqb b 10) as (λ t. cond t ([] ∷ []) ((b ∷ []) ∷ []) ≡ cond t [] (b ∷ []) ∷ lines (unwrap_or (cond t (Some []) None) []))
    [ true ↦ refl | false ↦ refl ]
cons_step b (c ∷ bs) =
    elim (eqb b 10) as (λ t. cond t ([] ∷ lines (c ∷ bs)) (onto b (lines (c ∷ bs))) ≡ cond t [] (b ∷ front 10 (c ∷ bs)) ∷ lines (unwrap_or (cond t (Some (c ∷ bs)) (rest 10 (c ∷ bs))) []))
    [ true ↦ refl | false ↦ ap (onto b) (cons_step c bs) ]

behind_le : (bs : List ℕ) → length (behind bs) ≤ length bs
behind_le [] = omega arith
behind_le (b ∷ bs) =
    elim (eqb b 10) as (λ t. length (unwrap_or (cond t (Some bs) (rest 10 bs)) []) ≤ length (b ∷ bs))
    [ true ↦ omega arith | false ↦ omega (arith, behind_le bs) ]

-- The lines of a text that is not empty: the first, and those of what is behind it.
pub lines_step : (bs line left : List ℕ) → line ≡ front 10 bs → left ≡ behind bs → 0 < length bs → lines bs ≡ line ∷ lines left
lines_step [] line left f e h = absurd (omega arith)
lines_step (b ∷ bs) line left f e h = rw (f, e) (cons_step b bs)

-- What is behind the first line of a text that is not empty is shorter.
pub behind_lt : (bs left : List ℕ) → left ≡ behind bs → 0 < length bs → length left < length bs
behind_lt [] left e h = absurd (omega arith)
behind_lt (b ∷ bs) left e h =
    rw e (elim (eqb b 10) as (λ t. length (unwrap_or (cond t (Some bs) (rest 10 bs)) []) < length (b ∷ bs))
    [ true ↦ omega arith | false ↦ omega (arith, behind_le bs) ])

line_closed : (l bs : List ℕ) → Whole l → lines (l ++ (10 ∷ bs)) ≡ l ∷ lines bs
line_closed [] bs w = refl
line_closed (b ∷ l) bs w = rw (ne_eqb b 10 w.0) (ap (onto b) (line_closed l bs w.1))

line_open : (b : ℕ) (l : List ℕ) → Whole (b ∷ l) → lines (b ∷ l) ≡ (b ∷ l) ∷ []
line_open b [] w = rw (ne_eqb b 10 w.0)
line_open b (c ∷ l) w = rw (ne_eqb b 10 w.0) (ap (onto b) (line_open c l w.1))

all_closed : (ls : List (List ℕ)) → AllByRecursion Whole ls → lines (closed ls) ≡ ls
all_closed [] ws = refl
all_closed (m ∷ ls) ws = line_closed m (closed ls) ws.0 ∙ ap (λ (r : List (List ℕ)). m ∷ r) (all_closed ls ws.1)

last_open : (ls : List (List ℕ)) (l : List ℕ) → AllByRecursion Whole ls → Whole l → 0 < length l → lines (closed ls ++ l) ≡ ls ++ (l ∷ [])
last_open [] [] ws w h = absurd (omega arith)
last_open [] (b ∷ l) ws w h = line_open b l w
last_open (m ∷ ls) l ws w h =
    ap lines (append_assoc m (10 ∷ closed ls) l)
    ∙ line_closed m (closed ls ++ l) ws.0
    ∙ ap (λ (r : List (List ℕ)). m ∷ r) (last_open ls l ws.1 w h)

pub line_laws : LineLaws
line_laws = record { all_closed = all_closed; last_open = last_open }
