-- A component's answer from how it is shown.
use Rattle.prelude.proofs.{Prelude.{ℕ, ◌%◌, ◌≤◌, ◌<◌, arith, leb, ◌≡◌, ap, ◌∙◌, List, length, lt-ltb, le-ltb}, Ways.by_cases}
use Rattle.coding.{specs.inner.Shown.shown, proofs.Reading.got_of, proofs.Reading.halt_of}
use Rattle.types.specs.Frames.{number_of, offset_of}
use Rattle.types.proofs.{Faults.Told, Places.Ends}
use Rattle.read_heads.{specs.inner.Heads.fault_by, proofs.Codes.told}
use Rattle.trunk_types.specs.{declared.Trunk.Trunk, Components.no_trunk, Components.trunk_accepted, Components.trunk_refused, Components.trunk_component, Components.read_whole_trunk, Components.read_trunk}
use Rattle.trunk_types.proofs.Faults.{whole_told}
use Rattle.coding.{specs.Reader.Ans, specs.Reader.Fault, specs.Reader.Ans.got, specs.Reader.Ans.halt}

-- where an answer lies
placed_in : {A : Type 0} (P : Fault → ℕ → Type 0) (a e : ℕ) (x : Ans A) (z : A) {k p n : ℕ} {v : A} → Ends P a e x → (k, p, v, n) ≡ shown z x → p ≤ e
unfolding shown
placed_in {A} P a e (got v' n') z h q = omega (arith, ap (λ (t : ℕ × ℕ × A × ℕ). t.1) q)
placed_in {A} P a e (halt w p') z h q = omega (arith, h.2, ap (λ (t : ℕ × ℕ × A × ℕ). t.1) q)

-- an offset inside the octets has one octet
pub one_octet : (n p : ℕ) → p ≤ 254 → offset_of n p % 256 ≡ offset_of n p
one_octet n p h = by_cases (leb 40 n) (λ q. rw q (omega arith)) (λ q. rw q)

pub too_long : (s : List ℕ) → 254 < length s → trunk_refused 3 0 ≡ read_trunk s
unfolding read_trunk read_whole_trunk
too_long s h = rw (lt-ltb _ _ h)

module _ (s : List ℕ) (h : length s ≤ 254) where
  whole : read_whole_trunk s ≡ trunk_component.read s 0 (length s)
  unfolding read_whole_trunk
  whole = rw (le-ltb _ _ h)

  module _ {k p n : ℕ} {v : Trunk} (e : (k, p, v, n) ≡ shown no_trunk (trunk_component.read s 0 (length s))) where
    pub accepts : k ≡ 0 → trunk_accepted v ≡ read_trunk s
    unfolding read_trunk
    accepts k0 = rw (whole, got_of _ _ e k0)

    pub refuses : (k ≡ 0 → ⊥) → trunk_refused (number_of (fault_by k)) (offset_of (number_of (fault_by k)) p) ≡ read_trunk s
    unfolding read_trunk
    refuses k0 =
        let q = halt_of (trunk_component.read s 0 (length s)) no_trunk e k0 in
        rw (whole, q.1) (ap (λ (w : _). trunk_refused (number_of w) (offset_of (number_of w) p)) (ap fault_by q.2 ∙ (told q.0).2))

    pub placed : p ≤ 254
    placed = let l = placed_in Told 0 (length s) (trunk_component.read s 0 (length s)) no_trunk (rw whole at (whole_told s)) e in omega (arith, l, h)
