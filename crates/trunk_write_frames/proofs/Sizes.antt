-- How many octets the parts take, and the parts one after the other, by what the code has of each.
use Rattle.prelude.proofs.Prelude.{ℕ, ◌+◌, ◌*◌, ◌<◌, ◌≡◌, sym, ap, ap₂, ◌∙◌, List, [], ◌++◌, true, arith, length, get_or, length-append}
use Rattle.prelude.proofs.Prelude.{eq-eqb, ne_eqb}
use Rattle.coding.specs.{Codec.{canonical, over, sort, cons, nothing, prim, all, write_all}, Rows.table, Leaves.{identifier, width}}
use Rattle.coding.{specs.inner.Written.{lead, full_number}, proofs.Basic.{picked, unpicked}, proofs.Small.{small_length, id_length, null_length}}
use Rattle.coding.proofs.Writing.{number_length}
use Rattle.types.specs.{declared.Association.Association, Charges.party_number, Charges.association, Charges.unassociated, Stored.two, Stored.association_in}
use Rattle.trunk_types.specs.{Bodies.address, Stored.modes_in, Stored.extension_in}
use Rattle.trunk_write_frames.specs.{inner.Octets.tagged_by, inner.Octets.mode, inner.Octets.mode_at, inner.Octets.modes_of, inner.Octets.modes_octets, inner.Octets.detail_in}
use Rattle.trunk_write_frames.specs.inner.Octets.{users_octets, id_octets, error_octets, caller_octets, reject_octets, NetworkFine, network_octets}
use Rattle.trunk_write_frames.proofs.Dispatch.{Form}

-- ---- modes

module _ (front : List ℕ) {n : ℕ} (e : n ≡ (modes_in front).count) where
  pub modes_split : modes_octets front ≡ lead 0x30 (3 * n) ++ write_all mode.write (table n (mode_at front))
  unfolding modes_octets
  modes_split = ap (λ (k : ℕ). lead 0x30 (3 * k) ++ write_all mode.write (table k (mode_at front))) (sym e)

  pub modes_fine_lem : all mode.valid (modes_of front) ≡ true → all mode.valid (table n (mode_at front)) ≡ true
  modes_fine_lem v = ap (λ (k : ℕ). all mode.valid (table k (mode_at front))) e ∙ v

-- ---- users

module _ {U A u a : Association} (eu : u ≡ U) (ea : a ≡ A) where
  pub users_split : users_octets U A ≡ (party_number true).write u ++ (association true).write a
  users_split = sym (ap₂ (λ (x y : Association). users_octets x y) eu ea)

-- ---- addresses

module _ {A a : Association} (is : a ≡ A) where
  pub address_none : a.kind ≡ 0 → (tag : ℕ) → (address tag).write A ≡ []
  unfolding address sort unassociated canonical over nothing
  address_none e tag = rw (sym is, eq-eqb a.kind 0 e)

  pub address_some : (address 0xa1).valid A ≡ true → (a.kind ≡ 0 → ⊥) → (tag : ℕ)
      → Form ((address tag).write A) ((party_number true).valid a ≡ true) ((cons tag (party_number true)).write a)
  unfolding address sort cons
  address_some v k tag =
      let w : (address 0xa1).valid a ≡ true = rw is v in
      record { asked = rw (ne_eqb a.kind 0 k) at w; octets = rw (sym is, ne_eqb a.kind 0 k) }

module _ {front figure : List ℕ} (f : NetworkFine front figure) where
  pub network_length : {n k : ℕ} → ((tag : ℕ) → n ≡ length ((address tag).write (association_in front))) → ((tag : ℕ) → k ≡ length ((address tag).write (association_in figure)))
      → 6 + n + k ≡ length (network_octets front figure)
  unfolding network_octets
  network_length p q =
      let source = small_length 0x80 (get_or front 42 0) (omega (arith, f.source)) in
      let destination = small_length 0x82 (get_or front 43 0) (omega (arith, f.destination)) in
      simp length-append (omega (arith, p 0xa1, q 0xa3, source, destination))

-- ---- identifiers, errors, rejects

module _ (front : List ℕ) {i : ℕ} (is : i ≡ two front 2) where
  pub id_is : id_octets front ≡ (prim 0x02 identifier).write i
  id_is = ap (prim 0x02 identifier).write (sym is)

  module _ (extension : List ℕ) {n : ℕ} (en : n ≡ two front 4) where
    pub error_split : error_octets front extension ≡ (prim 0x02 identifier).write i ++ (full_number 0x02 n ++ tagged_by 0x30 (extension_in extension))
    unfolding error_octets
    error_split = ap₂ (λ (x : List ℕ) (k : ℕ). x ++ (full_number 0x02 k ++ tagged_by 0x30 (extension_in extension))) id_is (sym en)

    pub error_length : {w d x : ℕ} → w ≡ length (identifier.write i) → d ≡ width n → x ≡ length (tagged_by 0x30 (extension_in extension)) → 4 + w + d + x ≡ length (error_octets front extension)
    error_length ew ed ex = omega (arith, ew, ed, ex, simp length-append at (ap length error_split), id_length 0x02 i, number_length 0x02 n)

  pub caller_id : (get_or front 1 0 ≡ 1 → ⊥) → caller_octets front ≡ (prim 0x02 identifier).write i
  caller_id h = unpicked _ _ (ne_eqb (get_or front 1 0) 1 h) ∙ id_is

  pub reject_named : {w : ℕ} → w ≡ length (identifier.write i) → (get_or front 1 0 ≡ 1 → ⊥) → detail_in front < 128 → 5 + w ≡ length (reject_octets front)
  reject_named e h l = simp length-append (omega (arith, ap length (caller_id h), e, id_length 0x02 i, small_length (get_or front 7 0) (detail_in front) l))

module _ (front : List ℕ) (e : get_or front 1 0 ≡ 1) where
  pub caller_null : caller_octets front ≡ lead 0x05 0
  caller_null = picked _ _ (eq-eqb (get_or front 1 0) 1 e)

  pub reject_null : detail_in front < 128 → 5 ≡ length (reject_octets front)
  reject_null l = simp length-append (omega (arith, ap length caller_null, null_length 0x05, small_length (get_or front 7 0) (detail_in front) l))
