-- The octets of amounts, times and money, how many they are, and that each part has room where all have.
use Rattle.prelude.proofs.Prelude.{ℕ, suc, ◌+◌, ◌≤◌, ◌<◌, ◌≡◌, refl, sym, ap, ap₂, ◌∙◌, List, ◌∷◌, ◌++◌, Bool, true, false}
use Rattle.prelude.proofs.{Prelude.{arith, length, take, length-append, length-take-le, ltb, leb, leb_zero, le-ltb, ltb-true, ltb-false}, Ways.by_cases}
use Rattle.coding.specs.{Codec.{over, shape, prim, pair, leaf_over, length_octets, padded}, Leaves.{string, width}, inner.Written.{Wrote, Room, lead, full_number}}
use Rattle.coding.proofs.Basic.{and_left, and_right, and_both, unpicked}
use Rattle.coding.proofs.{Writing.{number_write, number_length, cons_write, lead_length_short, width_range, room_as, room_head}, Small.{small_length, string_length}}
use Rattle.types.specs.{declared.Money.Money, declared.Currency.Currency, declared.Scaled.Scaled, Charges.zero_octet, Charges.scaled, Charges.currency_leaf, Charges.currency, Charges.money}
use Rattle.write_elements.{specs.inner.Element.element, proofs.Parts.{element_as_lem, room_2, room_3}}
use Rattle.write_tests.proofs.{Truth.truth, Tests.{scaled_is, money_is}}

-- ---- by the time of a charge

pub by_time : {P : Type 0} (o : ℕ) → (o < 35 → P) → (35 ≤ o → P) → P
by_time o f g = by_cases (ltb o 35) (λ e. f (ltb-true o 35 e)) (λ e. g (ltb-false o 35 e))

-- ---- leads

pub lead_two : (tag n : ℕ) → 256 ≤ n → length (lead tag n) ≡ 4
unfolding lead length_octets
lead_two tag n h = ap (λ (xs : List ℕ). suc (length xs)) (unpicked _ _ (le-ltb n 128 (omega arith)) ∙ unpicked _ _ (le-ltb n 256 h))

pub lead_few : (tag n : ℕ) → (2 ≤ length (lead tag n)) × (length (lead tag n) ≤ 4)
unfolding lead length_octets
lead_few tag n = by_cases (ltb n 128) (λ q. rw q (omega arith)) (λ q. by_cases (ltb n 256) (λ r. rw (q, r) (omega arith)) (λ r. rw (q, r) (omega arith)))

-- ---- amounts and times

module _ (tag w : ℕ) (s : Scaled) (h : s.scale ≤ 6) (e : w ≡ width s.number) where
  abbrev scaled_octets : List ℕ
  scaled_octets = full_number 0x81 s.number ++ full_number 0x82 s.scale

  scaled_contents : 5 + w ≡ length scaled_octets
  scaled_contents =
      omega (arith, length-append (full_number 0x81 s.number) (full_number 0x82 s.scale), number_length 0x81 s.number, small_length 0x82 s.scale (omega arith))

  pub scaled_octets_lem : (scaled tag).write s ≡ lead tag (5 + w) ++ scaled_octets
  unfolding scaled shape over pair
  scaled_octets_lem =
      cons_write tag _ s
      ∙ ap (element tag) (ap₂ (λ (x y : List ℕ). x ++ y) (number_write 0x81 0 16777215 s.number) (number_write 0x82 0 6 s.scale))
      ∙ element_as_lem tag (5 + w) scaled_octets scaled_contents

  pub scaled_length : 7 + w ≡ length ((scaled tag).write s)
  scaled_length =
      omega (arith, ap length scaled_octets_lem, length-append (lead tag (5 + w)) scaled_octets, lead_length_short tag (5 + w) (omega (arith, width_range s.number)), scaled_contents)

  module _ {l : List ℕ} {a : ℕ} (r : Room l a ((scaled tag).write s)) where
    pub scaled_1 : Room l a (lead tag (5 + w))
    scaled_1 = room_head _ (room_as r scaled_octets_lem)

    pub scaled_2 : {m : List ℕ} {b : ℕ} → Wrote l m a (lead tag (5 + w)) b → Room m b (full_number 0x81 s.number)
    scaled_2 p = room_head (full_number 0x82 s.scale) (room_2 scaled_octets_lem r p)

    pub scaled_3 : {m n : List ℕ} {b d : ℕ} → Wrote l m a (lead tag (5 + w)) b → Wrote m n b (full_number 0x81 s.number) d → Room n d (full_number 0x82 s.scale)
    scaled_3 = room_3 scaled_octets_lem r

-- ---- money

-- a valid currency has room for its octets
currency_room : (tag : ℕ) (c : Currency) → (currency true tag).valid c ≡ true → (c.count ≤ 10) × (length c.octets ≡ 10)
unfolding currency prim currency_leaf leaf_over padded
currency_room tag c v = let g = simp truth at (and_left (padded 10 zero_octet (c.octets, c.count)) _ v) in (g.0, g.1.0)

module _ (m : Money) (v : (money true).valid m ≡ true) where
  abbrev amount : Scaled
  amount = record { number = m.number; scale = m.multiplier }

  pub money_room : (m.currency.count ≤ 10) × (length m.currency.octets ≡ 10) × (m.number ≤ 16777215) × (m.multiplier ≤ 6)
  money_room =
      let w = sym (money_is true m) ∙ v in
      let g = simp truth at (sym (scaled_is 0xa2 amount) ∙ and_left ((scaled 0xa2).valid amount) _ w) in
      let q = currency_room 0x81 m.currency (and_right ((scaled 0xa2).valid amount) _ w) in
      (q.0, q.1, g.0, g.1)

  pub money_count : m.currency.count ≤ 10
  money_count = money_room.0

  pub money_fits : m.currency.count ≤ length m.currency.octets
  money_fits = omega (arith, money_room)

  pub money_multiplier : m.multiplier ≤ 6
  money_multiplier = omega (arith, money_room)

  abbrev currency_octets : List ℕ
  currency_octets = 0x81 ∷ length_octets m.currency.count ++ take m.currency.count m.currency.octets

  pub money_octets_lem : (money true).write m ≡ currency_octets ++ (scaled 0xa2).write amount
  unfolding money shape over pair currency prim currency_leaf leaf_over string
  money_octets_lem =
      ap (λ (k : ℕ). (0x81 ∷ length_octets k ++ take m.currency.count m.currency.octets) ++ (scaled 0xa2).write amount)
      (length-take-le m.currency.count m.currency.octets money_fits)

  pub money_length : (w : ℕ) → w ≡ width m.number → 9 + m.currency.count + w ≡ length ((money true).write m)
  money_length w e =
      omega (
        arith,
        ap length money_octets_lem,
        length-append currency_octets ((scaled 0xa2).write amount),
        string_length 0x81 m.currency.count m.currency.octets money_fits,
        lead_length_short 0x81 m.currency.count (omega (arith, money_count)),
        scaled_length 0xa2 w amount money_multiplier e,
      )

  pub money_1 : {l : List ℕ} {a : ℕ} → Room l a ((money true).write m) → Room l a currency_octets
  money_1 r = room_head _ (room_as r money_octets_lem)

-- a trunk takes what document 01 takes, and writes it alike
currency_wider : (c : Currency) → (currency false 0x81).valid c ≡ true → (currency true 0x81).valid c ≡ true
unfolding currency prim currency_leaf leaf_over string
currency_wider c v =
    let p = padded 10 zero_octet (c.octets, c.count) in
    let w = and_right p _ v in
    and_both p _ (and_left p _ v) (rw (leb_zero (length (take c.count c.octets))) (and_right (leb 1 (length (take c.count c.octets))) _ w))

pub money_wider : (m : Money) → (money false).valid m ≡ true → (money true).valid m ≡ true
money_wider m v =
    let s = (scaled 0xa2).valid (record { number = m.number; scale = m.multiplier }) in
    let w = sym (money_is false m) ∙ v in
    money_is true m ∙ and_both s _ (and_left s _ w) (currency_wider m.currency (and_right s _ w))

pub money_same : (trunk : Bool) (m : Money) → (money trunk).write m ≡ (money true).write m
unfolding money shape over pair currency prim currency_leaf leaf_over string
money_same trunk m = refl
