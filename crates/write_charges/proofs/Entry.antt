-- An entry of units: which may be written, and its octets part by part.
use Rattle.prelude.proofs.Prelude.{ℕ, zero, suc, ◌+◌, ◌<◌, ◌≡◌, sym, ap, ◌∙◌, List, ◌++◌, Bool, true, ◌&&◌, and_comm, cond, arith, length, length-append, leb}
use Rattle.prelude.proofs.{Prelude.{eqb, leb_zero, leb-true, le-leb, ne_eqb}, Ways.by_cases}
use Rattle.coding.specs.{Codec.{prim, cons, pair, alt, maybe, over, canonical}, Leaves.{number, null_leaf}, inner.Written.{Wrote, Room, lead}}
use Rattle.coding.proofs.{Basic.and_left, Writing.{cons_write, number_write, lead_length_short}, Tests.{and-true, and-false, eqb_self}, Small.null_write}
use Rattle.types.specs.{declared.Units.Units, Entries.unit}
use Rattle.write_tests.proofs.Truth.{zero_first}
use Rattle.write_rate.proofs.{Three.Three, Three.three_length, Three.room_1, Three.room_2, Three.room_3}
use Rattle.write_charges.specs.inner.Octets.{number_octets, type_octets}

-- ---- which may be written

abbrev pub unit_fine : Units → Bool
unit_fine u = leb u.kind 16 && cond (eqb u.known 1) (leb u.number 16777215) (eqb u.known 0 && eqb u.number 0)

pub unit_is : (u : Units) → unit.valid u ≡ unit_fine u
unfolding unit cons canonical over pair alt maybe prim number null_leaf
unit_is u = go u.number u.known u.kind
  where
    go : (n k t : ℕ) → unit.valid (record { number = n; known = k; kind = t }) ≡ unit_fine (record { number = n; known = k; kind = t })
    go n zero zero = simp (and-true, zero_first)
    go n zero (suc t) =
        simp (ne_eqb (suc t) 0 (λ z. omega arith), le-leb 1 (suc t) (omega arith), and-true, zero_first, eqb_self) (and_comm (eqb n 0) (leb (suc t) 16))
    go n (suc zero) zero = simp (and-true, eqb_self, leb_zero)
    go n (suc zero) (suc t) =
        simp (ne_eqb (suc t) 0 (λ z. omega arith), le-leb 1 (suc t) (omega arith), eqb_self, leb_zero) (and_comm (leb n 16777215) (leb (suc t) 16))
    go n (suc (suc k)) t =
        simp (ne_eqb (suc (suc k)) 1 (λ z. omega arith), ne_eqb 0 (suc (suc k)) (λ z. omega arith), ne_eqb (suc (suc k)) 0 (λ z. omega arith), and-false)

-- a type has one octet
pub unit_type : (u : Units) → unit.valid u ≡ true → u.kind < 128
unit_type u v = omega (arith, leb-true u.kind 16 (and_left (leb u.kind 16) _ (sym (unit_is u) ∙ v)))

-- ---- its octets

module _ (u : Units) where
  abbrev unit_contents : List ℕ
  unit_contents = number_octets u ++ type_octets u

  unit_write : unit.write u ≡ lead 0x30 (length unit_contents) ++ unit_contents
  unfolding unit canonical over pair alt maybe number_octets type_octets null_leaf
  unit_write =
      let n = number_write 0x02 0 16777215 u.number in
      let t = number_write 0x02 1 16 u.kind in
      cons_write 0x30 _ u
      ∙ by_cases (eqb u.known 1) (λ p. by_cases (eqb u.kind 0) (λ q. rw (p, q, n)) (λ q. rw (p, q, n, t)))
      (λ p. by_cases (eqb u.kind 0) (λ q. rw (p, q, null_write 0x05 tt)) (λ q. rw (p, q, null_write 0x05 tt, t)))

-- ---- as they are put: x and y octets, of which its lead says how many

module _ (u : Units) (x y : ℕ) (e : x ≡ length (number_octets u)) (f : y ≡ length (type_octets u)) where
  pub unit_parts : Three (unit.write u) (lead 0x30 (x + y)) (number_octets u) (type_octets u)
  unit_parts =
      record { parts = unit_write u ∙ ap (λ (k : ℕ). lead 0x30 k ++ (number_octets u ++ type_octets u)) (length-append (number_octets u) (type_octets u) ∙ omega arith) }

  pub unit_length : x + y < 128 → length (unit.write u) ≡ 2 + x + y
  unit_length h = omega (arith, three_length unit_parts, lead_length_short 0x30 (x + y) h)

  module _ {l : List ℕ} {a : ℕ} (h : Room l a (unit.write u)) where
    pub put_unit_1 : Room l a (lead 0x30 (x + y))
    put_unit_1 = room_1 unit_parts h

    pub put_unit_2 : {m : List ℕ} {b : ℕ} → Wrote l m a (lead 0x30 (x + y)) b → Room m b (number_octets u)
    put_unit_2 = room_2 unit_parts h

    pub put_unit_3 : {m n : List ℕ} {b d : ℕ} → Wrote l m a (lead 0x30 (x + y)) b → Wrote m n b (number_octets u) d → Room n d (type_octets u)
    put_unit_3 = room_3 unit_parts h
