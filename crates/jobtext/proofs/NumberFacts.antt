-- What a reader of digits has read.
use Rattle.std.proofs.Common.{◌≡◌, ℕ, suc, ◌+◌, ◌-◌, ◌*◌, ◌^◌, ◌<◌, ◌≤◌, true, false, cond, ◌&&◌, List, [], ◌∷◌, length, Some, None, Option, ControlFlow, Iter, Bor, sym, refl, ap, ◌∙◌, arith}
use Rattle.std.proofs.Math.Nat.{pow-le-pow_right}
use Rattle.std.proofs.lemmas.Bool.Decides.{nat_tests}
use Rattle.std.proofs.lemmas.Fn.{fronts}
use Rattle.std.proofs.lemmas.Nat.{pow-add}
use Rattle.std.specs.Char.{is_ascii_digit}
use Rattle.std.specs.ControlFlow.{continue_value}
use Rattle.std.specs.Fn.{Called, Takes}
use Rattle.std.specs.Iterator.{Yields, TryFoldsItems, CallableAtEachTurn}
use Rattle.std.specs.List.{list_all, FoldsTo}
use Rattle.std.specs.Option.{MatchOption}
use denote.Param.Members.{Mut}
use Rattle.jobtext.specs.Numbers.{digit, digits, value}

-- The library's test of a digit is this crate's.
pub digits_all : (bs : List ℕ) → list_all is_ascii_digit bs ≡ digits bs
digits_all [] = refl
digits_all (b ∷ bs) = ap (λ t. digit b && t) (digits_all bs)

-- The first k bytes of bs are digits, which make m of n, and cs is left.
pub record Read (bs : List ℕ) (n k : ℕ) (cs : List ℕ) (m : ℕ) : Type 0 where
  pub all : digits bs ≡ digits cs
  pub same : value n bs ≡ value m cs
  pub left : length bs ≡ k + length cs
  pub small : (i j : ℕ) → j ≡ k + i → n < 10 ^ i → m < 10 ^ j

read_none : (bs : List ℕ) (n : ℕ) → Read bs n 0 bs n
read_none bs n = record { all = refl; same = refl; left = omega arith; small = λ i j e h. let q : j ≡ i = omega arith in rw q h }

pub read_more : (b : ℕ) (bs : List ℕ) (n k : ℕ) (cs : List ℕ) (m : ℕ) → digit b ≡ true → Read bs (10 * n + (b - 48)) k cs m → Read (b ∷ bs) n (suc k) cs m
read_more b bs n k cs m t r = record {
  all = ap (λ d. d && digits bs) t ∙ r.all;
  same = r.same;
  left = omega (arith, r.left);
  small = λ i j e h. let d : b ≤ 57 = grind (arith, nat_tests) in r.small (i + 1) j (omega arith) (omega (arith, pow-add 10 i 1));
}

pub read_all : (bs : List ℕ) (n : ℕ) → length bs ≡ 0 → (digits bs ≡ true) × (value n bs ≡ n)
read_all [] n h = (refl, refl)
read_all (b ∷ bs) n h = absurd (omega arith)

-- A callee that puts a digit behind a number, and breaks off at another byte.
module _ (g : Mut (Unit {0}) (ℕ × (Bor ℕ × Unit {0})) (Option ℕ)) (step : (n : ℕ) (x : Bor ℕ) (v : Option ℕ) (q : Unit {0}) → Called g tt (n, (x, tt)) v q → v ≡ cond (digit x.now) (Some (10 * n + (x.now - 48))) None) where
  abbrev Turn : Unit {0} × ℕ → Bor ℕ → Unit {0} × ℕ → Type 0
  Turn p x q = (v : Option ℕ) × Called g p.0 (p.1, (x, tt)) v q.0 × (v ≡ Some q.1)

  goes_on : (n : ℕ) (x : Bor ℕ) (q : Unit {0} × ℕ) → Turn (tt, n) x q → (digit x.now ≡ true) × (q.1 ≡ 10 * n + (x.now - 48))
  goes_on n x q t = let e = step n x t.0 q.0 t.1 in let k = t.2 in grind (arith, nat_tests)

  read_items : (xs : List (Bor ℕ)) (s t : Iter ℕ) (n : ℕ) (q : Unit {0} × ℕ) → Yields fronts s xs t → FoldsTo Turn (tt, n) xs q → Read s.rest.now n (length xs) t.rest.now q.1
  read_items [] s t n q y f = rw (sym y, sym f) (read_none s.rest.now n)
  read_items (x ∷ xs) s t n q y f =
      let d = goes_on n x f.0 f.1 in
      rw y.1 (read_more x.now y.0.rest.now n (length xs) t.rest.now q.1 d.0 (rw (sym d.1) (read_items xs y.0 t f.0.1 q y.2 f.2)))

  ended : (E : Type 0) (o : Option (Bor ℕ)) (bs : List ℕ) (t u : Iter ℕ) (h : Unit {0}) (n k m : ℕ) (r : Option ℕ) → Read bs n k t.rest.now m → fronts t o u
      → MatchOption o (r ≡ Some m) (λ x. (v : Option ℕ) × (j : Unit {0}) × (e : E) × Called g h (m, (x, tt)) v j × (v ≡ None) × (r ≡ None))
      → r ≡ cond (digits bs) (Some (value n bs)) None
  ended E None bs t u h n k m r p f e = let a = read_all t.rest.now m f.0 in rw (p.all, p.same, a.0, a.1) e
  ended E (Some x) bs t u h n k m r p f e =
      let v = step m x e.0 e.1 e.3 in
      let no : digit x.now ≡ false = grind (arith, nat_tests) in
      rw (p.all ∙ ap digits f ∙ ap (λ d. d && digits u.rest.now) no) e.5

  -- `try_fold` from 0 by the callee reads the value of what is digits.
  pub value_read : {E : Type 0} (s u : Iter ℕ) (r : Option ℕ) → TryFoldsItems fronts g (λ v (c : ControlFlow E ℕ). v ≡ continue_value c) (λ _ v. v ≡ None) s tt 0 r u → r ≡ cond (digits s.rest.now) (Some (value 0 s.rest.now)) None
  value_read {E} s u r d = ended E d.1 s.rest.now d.4.0 u d.2 0 (length d.0) d.3 r (read_items d.0 s d.4.0 0 (d.2, d.3) d.4.1 d.5) d.4.2 d.6

  -- At most 10 bytes call it on less than 10 ^ 9.
  pub callable : (s : Iter ℕ) → length s.rest.now ≤ 10 → ((n : ℕ) (x : Bor ℕ) → n < 10 ^ 9 → Takes g tt (n, (x, tt))) → CallableAtEachTurn {P = Unit {0} × ℕ} fronts Turn (λ p x. Takes g p.0 (p.1, (x, tt))) s (tt, 0)
  callable s h k = record {
    at = λ xs t q x u y f e.
        let p = read_items xs s t 0 q y f in
        let one : length t.rest.now ≡ suc (length u.rest.now) = ap length e in
        let few : length xs ≤ 9 = omega (arith, p.left) in
        let most : 10 ^ length xs ≤ 10 ^ 9 = pow-le-pow_right (omega arith) few in
        k q.1 x (omega (arith, p.small 0 (length xs) (omega arith) (omega arith)));
  }
