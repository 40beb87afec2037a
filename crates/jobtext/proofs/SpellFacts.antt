-- A text is read as a line exactly if it spells the line.
use Rattle.std.proofs.Common.{◌≡◌, ℕ, ◌<◌, cond, eqb, List, [], ◌∷◌, ◌++◌, Some, None, decimal, Option, sym, refl, ap, ◌∙◌, subst, ⊎_elim}
use Rattle.std.proofs.lemmas.Bool.{cases_eq, eq-eqb, ne_eqb}
use Rattle.std.specs.List.{AllByRecursion}
use Rattle.jobtext.specs.declared.line.Line.{Line}
use Rattle.jobtext.specs.declared.line.Line.TheVariants.{Floor, Change, Put, Route, Step, Halt, Query, Tally}
use Rattle.jobtext.specs.Bytes.{front, rest}
use Rattle.jobtext.specs.LineTexts.{letter, numbers, spaced, text_of, Spells}
use Rattle.jobtext.specs.Parsing.{then, next_number, ended, floor_line, change_line, one_number, by_letter, single, parse_line}
use Rattle.jobtext.proofs.ParseFacts.{bytes, front_rest, then_inv, ended_inv, single_inv, next_only, next_back}

-- The steps of reading a line: what is made of the number just read and of what is left.
abbrev floor_5 : ℕ → ℕ → ℕ → ℕ → ℕ × Option (List ℕ) → Option Line
floor_5 a b c d e = ended e.1 (Floor a b c d e.0)

abbrev floor_4 : ℕ → ℕ → ℕ → ℕ × Option (List ℕ) → Option Line
floor_4 a b c d = then (next_number d.1) (floor_5 a b c d.0)

abbrev floor_3 : ℕ → ℕ → ℕ × Option (List ℕ) → Option Line
floor_3 a b c = then (next_number c.1) (floor_4 a b c.0)

abbrev floor_2 : ℕ → ℕ × Option (List ℕ) → Option Line
floor_2 a b = then (next_number b.1) (floor_3 a b.0)

abbrev floor_1 : ℕ × Option (List ℕ) → Option Line
floor_1 a = then (next_number a.1) (floor_2 a.0)

abbrev change_2 : ℕ → ℕ × Option (List ℕ) → Option Line
change_2 a b = ended b.1 (Change a b.0)

abbrev change_1 : ℕ × Option (List ℕ) → Option Line
change_1 a = then (next_number a.1) (change_2 a.0)

abbrev one_1 : (ℕ → Line) → ℕ × Option (List ℕ) → Option Line
one_1 f a = ended a.1 (f a.0)

-- One more number in front.
more : {bs cs ds : List ℕ} (n : ℕ) → bs ≡ spaced n ++ cs → cs ≡ ds → bs ≡ spaced n ++ ds
more n e k = e ∙ ap (λ (t : List ℕ). spaced n ++ t) k

floor_only : (r : Option (List ℕ)) (l : Line) → floor_line r ≡ Some l → Spells (70 ∷ bytes r) l
floor_only r l x =
    next_only r floor_1 l x (λ a ra ta fa xa.
    next_only ra (floor_2 a) l xa (λ b rb tb fb xb.
    next_only rb (floor_3 a b) l xb (λ c rc tc fc xc.
    next_only rc (floor_4 a b c) l xc (λ d rd td fd xd.
    next_only rd (floor_5 a b c d) l xd (λ e re te fe xe.
    let end = ended_inv re (Floor a b c d e) l xe in
    let text = more a ta (more b tb (more c tc (more d td (more e te (ap bytes end.0))))) in
    subst (Spells (70 ∷ bytes r)) end.1 (record { same = ap (λ (t : List ℕ). 70 ∷ t) text; fit = (fa, (fb, (fc, (fd, (fe, tt))))) }))))))

change_only : (r : Option (List ℕ)) (l : Line) → change_line r ≡ Some l → Spells (67 ∷ bytes r) l
change_only r l x =
    next_only r change_1 l x (λ a ra ta fa xa.
    next_only ra (change_2 a) l xa (λ b rb tb fb xb.
    let end = ended_inv rb (Change a b) l xb in
    let text = more a ta (more b tb (ap bytes end.0)) in
    subst (Spells (67 ∷ bytes r)) end.1 (record { same = ap (λ (t : List ℕ). 67 ∷ t) text; fit = (fa, (fb, tt)) })))

-- A line f of one number, with the letter c.
one_only : (f : ℕ → Line) (c : ℕ) → ((n : ℕ) → letter (f n) ≡ c) → ((n : ℕ) → numbers (f n) ≡ n ∷ []) → (r : Option (List ℕ)) (l : Line) → one_number f r ≡ Some l → Spells (c ∷ bytes r) l
one_only f c cs ns r l x =
    next_only r (one_1 f) l x (λ a ra ta fa xa.
    let end = ended_inv ra (f a) l xa in
    let text = more a ta (ap bytes end.0) in
    subst (Spells (c ∷ bytes r)) end.1 (record { same = rw (cs a, ns a) (ap (λ (t : List ℕ). c ∷ t) text); fit = rw (ns a) (fa, tt) }))

-- A line m with no number.
bare_only : (m : Line) → numbers m ≡ [] → (r : Option (List ℕ)) (l : Line) → ended r m ≡ Some l → Spells (letter m ∷ bytes r) l
bare_only m ns r l x =
    let end = ended_inv r m l x in
    subst (Spells (letter m ∷ bytes r)) end.1 (record { same = rw (ns, end.0); fit = rw ns tt })

-- At the letter k what is read here, and at any other what is read there.
either : (k c : ℕ) (here there : Option Line) (r : Option (List ℕ)) (l : Line) → (here ≡ Some l → Spells (k ∷ bytes r) l) → (there ≡ Some l → Spells (c ∷ bytes r) l) → cond (eqb c k) here there ≡ Some l → Spells (c ∷ bytes r) l
either k c here there r l h t x =
    ⊎_elim (λ (e : c ≡ k). rw e (h (rw (eq-eqb c k e) at x))) (λ (n : c ≡ k → ⊥). t (rw (ne_eqb c k n) at x)) (cases_eq c k)

letter_only : (c : ℕ) (r : Option (List ℕ)) (l : Line) → by_letter c r ≡ Some l → Spells (c ∷ bytes r) l
letter_only c r l =
    either 70 c _ _ r l (floor_only r l)
    (either 67 c _ _ r l (change_only r l)
    (either 80 c _ _ r l (one_only Put 80 (λ n. refl) (λ n. refl) r l)
    (either 82 c _ _ r l (bare_only Route refl r l)
    (either 83 c _ _ r l (bare_only Step refl r l)
    (either 72 c _ _ r l (bare_only Halt refl r l)
    (either 81 c _ _ r l (one_only Query 81 (λ n. refl) (λ n. refl) r l)
    (either 84 c _ _ r l (bare_only Tally refl r l) (λ e. cc))))))))

-- What is read as a line spells it.
pub parse_only : (bs : List ℕ) (l : Line) → parse_line bs ≡ Some l → Spells bs l
parse_only bs l e =
    let t = then_inv (single (front 32 bs)) (λ c. by_letter c (rest 32 bs)) l e in
    let head = single_inv (front 32 bs) t.0 t.1 in
    let whole : bs ≡ t.0 ∷ bytes (rest 32 bs) = front_rest bs ∙ ap (λ (w : List ℕ). w ++ bytes (rest 32 bs)) head in
    subst (λ (w : List ℕ). Spells w l) (sym whole) (letter_only t.0 (rest 32 bs) l t.2)

text_read : (l : Line) → AllByRecursion (λ n. n < 4294967296) (numbers l) → parse_line (text_of l) ≡ Some l
text_read (Floor a b c d e) h =
    let r4 : Option (List ℕ) = Some (decimal e ++ []) in
    let r3 : Option (List ℕ) = Some (decimal d ++ bytes r4) in
    let r2 : Option (List ℕ) = Some (decimal c ++ bytes r3) in
    let r1 : Option (List ℕ) = Some (decimal b ++ bytes r2) in
    next_back r1 a floor_1 h.0
    ∙ next_back r2 b (floor_2 a) h.1.0
    ∙ next_back r3 c (floor_3 a b) h.1.1.0
    ∙ next_back r4 d (floor_4 a b c) h.1.1.1.0
    ∙ next_back None e (floor_5 a b c d) h.1.1.1.1.0
text_read (Change a b) h = next_back (Some (decimal b ++ [])) a change_1 h.0 ∙ next_back None b (change_2 a) h.1.0
text_read (Put a) h = next_back None a (one_1 Put) h.0
text_read Route h = refl
text_read Step h = refl
text_read Halt h = refl
text_read (Query a) h = next_back None a (one_1 Query) h.0
text_read Tally h = refl

-- What spells a line is read as it.
pub parse_every : (bs : List ℕ) (l : Line) → Spells bs l → parse_line bs ≡ Some l
parse_every bs l s = ap parse_line s.same ∙ text_read l s.fit
