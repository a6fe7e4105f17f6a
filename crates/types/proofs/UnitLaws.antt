-- The laws of an entry of units, and that a list of them is found again in its rows.
use Rattle.prelude.proofs.Prelude.{ℕ, ◌+◌, ◌*◌, ◌<◌, ◌≡◌, refl, ap, ◌∙◌, List, Bool, true, ◌&&◌, cond, ◌⊎◌, inl, inr, Option, none, some, arith, length, get_or, leb, eqb, leb-true, ne_eqb}
use Rattle.coding.{specs.Codec.prim, specs.Codec.cons, specs.Codec.alt, specs.Codec.maybe, specs.Codec.some_more, specs.Codec.valid_maybe, specs.Codec.pad, specs.Codec.one_of}
use Rattle.coding.{specs.Codec.apart, specs.Leaves.number, specs.Leaves.or0, specs.Rows.rows, proofs.Basic.and_left, proofs.Laws.RunLaws, proofs.Combine.prim_laws, proofs.Combine.cons_laws}
use Rattle.coding.{proofs.Combine.pair_laws, proofs.Combine.alt_laws, proofs.Combine.maybe_laws, proofs.Combine.some_laws, proofs.Leaves.null_laws, proofs.Padded.Equal, proofs.Padded.eqb_equal}
use Rattle.coding.{proofs.Padded.pair_equal, proofs.Padded.via_equal, proofs.Padded.canonical_laws, proofs.Rows.rows_get', proofs.Rows.rows_table}
use Rattle.types.specs.declared.Units.{Units}
use Rattle.types.specs.Entries.{no_units, units_to, units_from, same_units, unit, unit_numbers, unit_octets, unit_at, unit_rows, unit_list}
use Rattle.types.proofs.PartLaws.{number_at, pair_right}

pub units_equal : Equal same_units
units_equal =
    via_equal (λ u. (u.number, (u.known, u.kind))) (λ p. record { number = p.0; known = p.1.0; kind = p.1.1 }) (λ u. refl) _
    (pair_equal _ _ eqb_equal (pair_equal _ _ eqb_equal eqb_equal))

-- a type is 1 or more, so 0 says that there is none
kind_back : (o : Option ℕ) → valid_maybe (λ n. leb 1 n && leb n 16) o ≡ true → cond (eqb (or0 o) 0) none (some (or0 o)) ≡ o
kind_back none v = refl
kind_back (some k) v =
    let l = leb-true 1 k (and_left (leb 1 k) (leb k 16) v) in
    ap (λ (t : Bool). cond t none (some k)) (ne_eqb k 0 (λ z. omega arith))

units_back : (x : Unit {0} ⊎ ℕ) (o : Option ℕ) → valid_maybe (λ n. leb 1 n && leb n 16) o ≡ true → units_from (units_to (x, o)) ≡ (x, o)
units_back (inl u) o v = ap (λ (k : Option ℕ). (inl u, k)) (kind_back o v)
units_back (inr n) o v = ap (λ (k : Option ℕ). (inr n, k)) (kind_back o v)

pub unit_laws : RunLaws unit
unfolding unit prim alt maybe number apart one_of
unit_laws =
    cons_laws _ _ (canonical_laws units_to units_from same_units _ units_equal (λ p v. units_back p.0 p.1 (pair_right _ _ p v))
    (pair_laws _ _ (alt_laws _ _ _ (prim_laws _ _ null_laws refl) (number_at _ _ _ (omega arith) refl) refl refl refl)
    (maybe_laws _ _ (number_at _ _ _ (omega arith) refl) refl refl) refl)) refl

pub units_laws : RunLaws (some_more 0x30 32 unit)
unfolding unit cons apart
units_laws = some_laws 0x30 unit unit_laws refl refl 32

-- an entry stands in its row
pub unit_at_lem : (xs : List Units) (i : ℕ) → i < length xs → unit_at (unit_rows xs) i ≡ get_or xs i no_units
unit_at_lem xs i l =
    let n : get_or (pad 32 0 (rows unit_numbers xs)) i 0 ≡ (get_or xs i no_units).number =
    ap (λ (m : ℕ). get_or (pad 32 0 (rows unit_numbers xs)) m 0) (omega arith) ∙ rows_get' unit_numbers 1 (λ x. refl) 32 xs no_units i 0 l (omega arith) in
    let k : get_or (pad 192 0 (rows unit_octets xs)) (2 * i) 0 ≡ (get_or xs i no_units).known =
    ap (λ (m : ℕ). get_or (pad 192 0 (rows unit_octets xs)) m 0) (omega arith) ∙ rows_get' unit_octets 2 (λ x. refl) 192 xs no_units i 0 l (omega arith) in
    let t : get_or (pad 192 0 (rows unit_octets xs)) (2 * i + 1) 0 ≡ (get_or xs i no_units).kind =
    rows_get' unit_octets 2 (λ x. refl) 192 xs no_units i 1 l (omega arith) in
    λ j. record { number = n j; known = k j; kind = t j }

pub units_rows : (xs : List Units) → unit_list (unit_rows xs) (length xs) ≡ xs
units_rows xs = rows_table xs no_units (unit_at (unit_rows xs)) (unit_at_lem xs)
