-- The answer of a route, and the recorded way that it writes.
use Rattle.std.proofs.Common.{◌≡◌, ℕ, suc, ◌+◌, List, ◌++◌, length, drop, Some, Ok, sym, ap, ◌∙◌, add-one}
use Rattle.std.specs.Option.{option_map}
use Rattle.toll.specs.Tolls.{Tolls}
use Rattle.floor.specs.Meaning.{Meaning}
use Rattle.tree.specs.declared.trace.Trace.{Trace}
use Rattle.tree.specs.Tree.{Entry}
use Rattle.tree.specs.Ways.{borne_out, trail}
use Rattle.planner.specs.Calls.{way_answer, way_buffer}
use Rattle.tree.proofs.Options.{mapped_some}
use Rattle.tree.proofs.Walking.{trace_of}
use Rattle.tree.proofs.Trails.{recorded_trail, borne_recorded}

-- what the code answers for a way that is borne out
module _ {T : Type 0} (A : Tolls T) (m : Meaning T) (E : List (Entry T)) (t s : ℕ) (r : Trace T) (e : Some r ≡ option_map trace_of (borne_out A m E t s)) where
  pair : (p : List ℕ × T) × (borne_out A m E t s ≡ Some p) × (trace_of p ≡ r)
  pair = mapped_some (borne_out A m E t s) trace_of r (sym e)

  long : r.lanes + 1 ≡ suc (length pair.0.0)
  long = ap (λ (q : Trace T). q.lanes + 1) (sym pair.2) ∙ add-one (length pair.0.0)

  pub follow_answer : (count : ℕ) → Ok (record { toll = r.toll; count = count; length = r.lanes + 1 }) ≡ way_answer count (borne_out A m E t s)
  follow_answer count =
      let c : r.toll ≡ pair.0.1 = ap (λ (q : Trace T). q.toll) (sym pair.2) in
      (λ i. Ok (record { toll = c i; count = count; length = long i })) ∙ sym (ap (way_answer count) pair.1)

  pub follow_buffer : (way buffer : List ℕ) → way ≡ trail E (r.lanes + 1) s ++ drop (r.lanes + 1) buffer → way ≡ way_buffer s buffer (borne_out A m E t s)
  follow_buffer way buffer f =
      f ∙ ap (λ (n : ℕ). trail E n s ++ drop n buffer) long
      ∙ ap (λ (w : List ℕ). w ++ drop (suc (length pair.0.0)) buffer) (recorded_trail E t _ s pair.0.0 (borne_recorded E t A m s pair.0 pair.1).0)
      ∙ sym (ap (way_buffer s buffer) pair.1)
