-- The octets of an association's parts, how many they are, and that each has room where all have.
use Rattle.prelude.proofs.Prelude.{ℕ, ◌+◌, ◌≤◌, ◌≡◌, refl, sym, ap, ap₂, ◌∙◌, List, [], ◌∷◌, ◌++◌, Bool, true, false, true≢false, ◌||◌, cond}
use Rattle.prelude.proofs.{Prelude.{arith, length, take, length-append, length-take, leb, leb-true, eqb, eq-eqb, ne_eqb, eqb-true, eqb-false}, Ways.by_cases}
use Rattle.coding.specs.{Codec.{canonical, over, prim, pair, sort, nothing, cons, length_octets}, Leaves.{string, identifier, only}, inner.Written.{Wrote, Room, lead, full_number}}
use Rattle.coding.proofs.{Basic.{and_left, and_right}, Writing.{number_write, cons_write, lead_length_short, room_as, room_head}}
use Rattle.coding.proofs.Small.{small_length, string_write, string_length, id_length, id_range}
use Rattle.write_elements.{specs.inner.Element.element, proofs.Parts.{wrote_three, element_as_lem, room_2, room_3}}
use Rattle.types.specs.{declared.Association.Association, Charges.is_digit, Charges.digits_leaf, Charges.digits_of}
use Rattle.types.specs.{Charges.identified, Charges.planned, Charges.party_number, Charges.plain_party, Charges.party, Charges.unassociated, Charges.association}
use Rattle.write_association.specs.inner.Octets.{plan_tag}
use Rattle.write_tests.{specs.inner.Fine.{digits_fine, is_planned, plan_fine}, proofs.Truth.truth}
use Rattle.write_tests.proofs.Tests.{number_is, number_private, number_either, association_number}

-- ---- by a test, by the kind of an association

pub by_test : {P : Type 0} {x y : Bool} (t : Bool) → (t ≡ true → x ≡ true → P) → (t ≡ false → y ≡ true → P) → cond t x y ≡ true → P
by_test true f g h = f refl h
by_test false f g h = g refl h

by_number_lem : {P : Type 0} (k n : ℕ) → (k ≡ n → P) → ((k ≡ n → ⊥) → P) → P
by_number_lem k n f g = by_cases (eqb k n) (λ e. f (eqb-true k n e)) (λ e. g (eqb-false k n e))

pub by_kind : {P : Type 0} (k : ℕ) → (k ≡ 0 → P) → (k ≡ 1 → P) → ((k ≡ 0 → ⊥) → (k ≡ 1 → ⊥) → P) → P
by_kind k f g h = by_number_lem k 0 f (λ a. by_number_lem k 1 g (h a))

-- ---- associations

-- digits in an array, as a string's element
abbrev digits_element : ℕ → Association → List ℕ
digits_element tag a = tag ∷ length_octets a.count ++ take a.count a.digits

digits_room : (ds : List ℕ) (n : ℕ) → digits_fine ds n ≡ true → (n ≤ 20) × (n ≤ length ds)
unfolding digits_fine digits_leaf string
digits_room ds n v =
    let g = simp truth at v in
    let e : length (take n ds) ≡ n = g.0.0 in
    (omega (arith, g.1.1.0), omega (arith, length-take n ds))

module _ (trunk : Bool) (a : Association) where
  pub association_none : a.kind ≡ 0 → (association trunk).write a ≡ []
  unfolding association sort unassociated canonical over nothing
  association_none e = rw (ne_eqb a.kind 1 (λ z. omega arith), eq-eqb a.kind 0 e)

  pub association_id : a.kind ≡ 1 → (association trunk).write a ≡ (prim 0x02 identifier).write a.id
  unfolding association sort identified canonical over
  association_id e = rw (eq-eqb a.kind 1 e)

  pub none_length : a.kind ≡ 0 → 0 ≡ length ((association trunk).write a)
  none_length e = sym (ap length (association_none e))

  pub id_size : (w : ℕ) → w ≡ length (identifier.write a.id) → a.kind ≡ 1 → 2 + w ≡ length ((association trunk).write a)
  id_size w q e = omega (arith, ap length (association_id e), id_length 0x02 a.id)

-- a test that the code made
pub told : {r b c : Bool} → r ≡ b → r ≡ c → b ≡ c
told e h = sym e ∙ h

-- ---- numbers: what a valid one holds: its digits have room, and its plan is one octet

module _ (a : Association) (v : (party_number true).valid a ≡ true) where
  number_holds : (a.count ≤ 20) × (a.count ≤ length a.digits) × (a.plan ≤ 6)
  number_holds =
      let p = plan_fine a.kind a.plan in
      let r = and_right (eqb 0 a.id) _ (sym (number_is a) ∙ v) in
      let d = digits_room a.digits a.count (and_right p _ r) in (
        d.0,
        d.1,
        by_test (is_planned true a.kind) (λ e q. leb-true a.plan 6 (and_left (leb a.plan 6) _ q))
            (λ e q. omega (arith, eqb-true 0 a.plan (and_right (eqb 2 a.kind) _ q))) (and_left p _ r),
      )

  pub number_count : a.count ≤ 20
  number_count = number_holds.0

  pub number_fits : a.count ≤ length a.digits
  number_fits = number_holds.1

  pub number_plan : a.plan ≤ 6
  number_plan = number_holds.2

  digits_write : (tag : ℕ) → (prim tag digits_leaf).write (digits_of a) ≡ digits_element tag a
  unfolding digits_leaf
  digits_write tag = string_write tag 1 20 is_digit a.digits a.count number_fits

  digits_length : (tag : ℕ) → 2 + a.count ≡ length (digits_element tag a)
  digits_length tag =
      omega (arith, string_length tag a.count a.digits number_fits, lead_length_short tag a.count (omega (arith, number_count)))

  -- ---- with its plan

  abbrev plan_octets : List ℕ
  plan_octets = full_number 0x0a a.plan ++ digits_element 0x12 a

  plan_contents : 5 + a.count ≡ length plan_octets
  plan_contents =
      omega (arith, length-append (full_number 0x0a a.plan) (digits_element 0x12 a), small_length 0x0a a.plan (omega (arith, number_plan)), digits_length 0x12)

  module _ (e : is_planned true a.kind ≡ true) where
    -- written as its tag alone would be
    planned_write : (party_number true).write a ≡ (planned (plan_tag a.kind) 3).write a
    unfolding party_number sort planned cons canonical over
    planned_write = by_cases (eqb a.kind 3) (λ h. rw (h, eqb-true a.kind 3 h)) (λ h. let w : eqb a.kind 4 ≡ true = rw h at e in rw (h, w))

    module _ {tag : ℕ} (t : tag ≡ plan_tag a.kind) where
      pub planned_octets : (party_number true).write a ≡ lead tag (5 + a.count) ++ plan_octets
      unfolding planned canonical over pair prim only
      planned_octets =
          planned_write ∙ ap (λ (k : ℕ). (planned k 3).write a) (sym t) ∙ cons_write tag _ a
          ∙ ap (element tag) (ap₂ (λ (x y : List ℕ). x ++ y) (number_write 0x0a 0 6 a.plan) (digits_write 0x12))
          ∙ element_as_lem tag (5 + a.count) plan_octets plan_contents

      module _ {l : List ℕ} {x : ℕ} (r : Room l x ((party_number true).write a)) where
        pub planned_1 : Room l x (lead tag (5 + a.count))
        planned_1 = room_head plan_octets (room_as r planned_octets)

        pub planned_2 : {m : List ℕ} {y : ℕ} → Wrote l m x (lead tag (5 + a.count)) y → Room m y (full_number 0x0a a.plan)
        planned_2 p = room_head (digits_element 0x12 a) (room_2 planned_octets r p)

        pub planned_3 : {m n : List ℕ} {y z : ℕ} → Wrote l m x (lead tag (5 + a.count)) y → Wrote m n y (full_number 0x0a a.plan) z → Room n z (digits_element 0x12 a)
        planned_3 = room_3 planned_octets r

      pub planned_wrote : {l m k j : List ℕ} {x y z w : ℕ} (n : ℕ) → n ≡ a.count → Wrote l m x (lead tag (5 + n)) y → Wrote m k y (full_number 0x0a a.plan) z
          → Wrote k j z (0x12 ∷ length_octets n ++ take n a.digits) w → Wrote l j x ((party_number true).write a) w
      planned_wrote n q = rw q (wrote_three planned_octets)

    pub planned_length : a.count + 7 ≡ length ((party_number true).write a)
    planned_length =
        let tag = plan_tag a.kind in
        omega (
          arith,
          ap length (planned_octets refl),
          length-append (lead tag (5 + a.count)) plan_octets,
          lead_length_short tag (5 + a.count) (omega (arith, number_count)),
          plan_contents,
        )

  -- ---- without

  module _ (e : is_planned true a.kind ≡ false) where
    pub plain_octets : (party_number true).write a ≡ digits_element 0x80 a
    unfolding party_number sort plain_party canonical over
    plain_octets =
        by_cases (eqb a.kind 3) (λ h. absurd (true≢false (sym (ap (λ (b : Bool). b || eqb a.kind 4) h) ∙ e)))
        (λ h. let w : eqb a.kind 4 ≡ false = rw h at e in rw (h, w) (digits_write 0x80))

    pub plain_length : a.count + 2 ≡ length ((party_number true).write a)
    plain_length = omega (arith, ap length plain_octets, digits_length 0x80)

  -- ---- in an element; k octets

  module _ (tag k : ℕ) (e : k ≡ length ((party_number true).write a)) where
    pub address_octets : (cons tag (party_number true)).write a ≡ lead tag k ++ (party_number true).write a
    address_octets = cons_write tag (party_number true) a ∙ element_as_lem tag k ((party_number true).write a) e

    pub address_length : k ≤ 27 → 2 + k ≡ length ((cons tag (party_number true)).write a)
    address_length h = omega (arith, ap length address_octets, length-append (lead tag k) ((party_number true).write a), lead_length_short tag k (omega arith))

    pub address_1 : {l : List ℕ} {x : ℕ} → Room l x ((cons tag (party_number true)).write a) → Room l x (lead tag k)
    address_1 r = room_head _ (room_as r address_octets)

-- a trunk takes the numbers that document 01 takes, and writes them alike
number_wider : (trunk : Bool) (a : Association) → (party_number trunk).valid a ≡ true
    → ((party_number true).valid a ≡ true) × ((party_number trunk).write a ≡ (party_number true).write a)
unfolding party_number sort
number_wider true a v = (v, refl)
number_wider false a v =
    by_number_lem a.kind 4 (λ e. absurd (true≢false (sym v ∙ number_private a e))) (λ h. (sym (number_either a h) ∙ v, rw (ne_eqb a.kind 4 h)))

-- ---- associations by a number

module _ (trunk : Bool) (a : Association) (v : (association trunk).valid a ≡ true) (k0 : a.kind ≡ 0 → ⊥) (k1 : a.kind ≡ 1 → ⊥) where
  wider : ((party_number true).valid a ≡ true) × ((party_number trunk).write a ≡ (party_number true).write a)
  wider = number_wider trunk a (sym (association_number trunk a k0 k1) ∙ v)

  pub party_valid : (party_number true).valid a ≡ true
  party_valid = wider.0

  pub party_octets : (association trunk).write a ≡ (cons 0xa0 (party_number true)).write a
  unfolding association party sort
  party_octets =
      rw (ne_eqb a.kind 1 k1, ne_eqb a.kind 0 k0)
      (cons_write 0xa0 (party_number trunk) a ∙ ap (element 0xa0) wider.1 ∙ sym (cons_write 0xa0 (party_number true) a))

  pub party_length : (r : ℕ) → ((tag : ℕ) → r ≡ length ((cons tag (party_number true)).write a)) → r ≡ length ((association trunk).write a)
  party_length r e = e 0xa0 ∙ sym (ap length party_octets)

-- ---- they are few

number_length : (a : Association) → (party_number true).valid a ≡ true → length ((party_number true).write a) ≤ 27
number_length a v =
    by_cases (is_planned true a.kind) (λ e. omega (arith, number_count a v, planned_length a v e)) (λ e. omega (arith, number_count a v, plain_length a v e))

pub association_length : (a : Association) → (association false).valid a ≡ true → length ((association false).write a) ≤ 29
association_length a v =
    by_kind a.kind (λ e. omega (arith, none_length false a e)) (λ e. omega (arith, id_size false a _ refl e, id_range a.id))
    (λ x y.
    let w = party_valid false a v x y in
    omega (arith, ap length (party_octets false a v x y), address_length a w 0xa0 _ refl (number_length a w), number_length a w))
