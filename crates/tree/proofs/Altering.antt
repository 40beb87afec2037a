-- A list in which one item is changed.
use Rattle.std.proofs.Common.{◌≡◌, ℕ, zero, suc, ◌<◌, ◌≤◌, List, [], ◌∷◌, map, length, get_or, set, sym, refl, ap, ◌∙◌, arith}
use Rattle.std.proofs.lemmas.List.{map-set, length-map, get_or-map, set-get_or}
use Rattle.tree.specs.Tree.{alter}

module _ {X : Type 0} where
  -- an item that is there, and one that is not
  pub alter_at : (f : X → X) (xs : List X) (p : ℕ) (d : X) → p < length xs → set xs p (f (get_or xs p d)) ≡ alter f xs p
  alter_at f [] p d h = absurd (omega arith)
  alter_at f (y ∷ ys) zero d h = refl
  alter_at f (y ∷ ys) (suc p) d h = ap (λ zs. y ∷ zs) (alter_at f ys p d (omega arith))

  pub alter_past : (f : X → X) (xs : List X) (p : ℕ) → length xs ≤ p → xs ≡ alter f xs p
  alter_past f [] p h = refl
  alter_past f (y ∷ ys) zero h = absurd (omega arith)
  alter_past f (y ∷ ys) (suc p) h = ap (λ zs. y ∷ zs) (alter_past f ys p (omega arith))

  -- an item that stays
  pub alter_same : (xs : List X) (p : ℕ) → xs ≡ alter (λ x. x) xs p
  alter_same [] p = refl
  alter_same (y ∷ ys) zero = refl
  alter_same (y ∷ ys) (suc p) = ap (λ zs. y ∷ zs) (alter_same ys p)

  -- what the items of another list stand for, one of which is written
  module _ {Y : Type 0} (v : Y → X) (ys : List Y) (p : ℕ) where
    pub map_alter : (f : X → X) (d y : Y) → p < length ys → v y ≡ f (v (get_or ys p d)) → map v (set ys p y) ≡ alter f (map v ys) p
    map_alter f d y h q =
        map-set v ys p y ∙ ap (set (map v ys) p) (q ∙ ap f (sym (get_or-map v ys p d (v d) h))) ∙ alter_at f (map v ys) p (v d) (omega (arith, length-map ys v))

    pub map_past : (f : X → X) → length ys ≤ p → map v ys ≡ alter f (map v ys) p
    map_past f h = alter_past f (map v ys) p (omega (arith, length-map ys v))

    pub map_kept : (d y : Y) → p < length ys → v y ≡ v (get_or ys p d) → map v (set ys p y) ≡ map v ys
    map_kept d y h q = map_alter (λ x. x) d y h q ∙ sym (alter_same (map v ys) p)

    pub map_stays : (f : X → X) (d : Y) → p < length ys → v (get_or ys p d) ≡ f (v (get_or ys p d)) → map v ys ≡ alter f (map v ys) p
    map_stays f d h q = ap (map v) (sym (set-get_or ys p d)) ∙ map_alter f d (get_or ys p d) h q
