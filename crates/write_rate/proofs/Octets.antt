-- The octets of a valid rate, part by part, and how many they are.
use Rattle.prelude.proofs.Prelude.{ℕ, ◌+◌, ◌≤◌, ◌<◌, ◌≡◌, refl, sym, ap, ap₂, ◌∙◌, List, [], ◌∷◌, ◌++◌, append-nil, Bool, true, false, cond, arith, length}
use Rattle.prelude.proofs.{Prelude.{length-append, leb, eqb, eqb-true, eq-eqb, ne_eqb, leb-true, le-leb, lt-leb}, Ways.by_cases}
use Rattle.coding.specs.{Codec.{pair, sort, maybe, over, canonical, pick_run, all, write_all}, Leaves.number, inner.Written.{lead, full_number, Wrote, Room}}
use Rattle.coding.proofs.{Small.{small_length, null_write}, Basic.{and_right, and_both}, Holds.{and_iff, cond_iff, holds, cases}}
use Rattle.coding.proofs.Writing.{cons_write, number_write, lead_length_short}
use Rattle.types.specs.{declared.Scaled.Scaled, declared.Rate.Rate, declared.Money.Money, Charges.scaled, Charges.money, Rates.money_of, Rates.time_of, Rates.step_of, Rates.duration}
use Rattle.types.specs.Rates.{is_rate, flat_rate, volume, coded, plain_rate, price, itemised, rate}
use Rattle.write_elements.specs.inner.Element.{element}
use Rattle.write_figures.proofs.Sizes.{money_wider, money_same}
use Rattle.write_tests.proofs.{Truth.kinds, Truth.other_kind, Tests.scaled_is}
use Rattle.write_rate.specs.inner.Prices.{last_kind, detail_fine, step_fine, times_fine, amount_fine, price_fine, step_octets, term_octets, priced_octets, price_octets}
use Rattle.write_rate.proofs.{Three.Three, Three.three_length, Three.room_1, Three.room_2, Three.room_3, Prices.common_kind, Prices.rate_is}

-- ---- what a valid rate holds

module _ (r : Rate) where
  abbrev pub step_time : Scaled
  step_time = record { number = r.step; scale = r.stepscale }

  detail_few : (trunk : Bool) → detail_fine trunk r.kind r.detail ≡ true → (1 ≤ r.kind) × (r.kind ≤ last_kind trunk) × (r.detail ≤ 10)
  unfolding detail_fine
  detail_few trunk h =
      let six = leb-true 6 (last_kind trunk) (common_kind trunk 6 refl) in
      cases (simp holds at h) (λ a. omega (arith, eqb-true, leb-true)) (λ a.
      cases (simp holds at a.1) (λ b. omega (arith, eqb-true, leb-true)) (λ b.
      cases (simp holds at b.1) (λ d. let e = simp holds at d.1 in omega (arith, eqb-true, leb-true)) (λ d.
      let e = simp holds at d.1 in omega (arith, eqb-true, leb-true))))

  step_few : step_fine r ≡ true → r.stepscale ≤ 6
  step_few h =
      cases (simp holds at h) (λ a. leb-true r.stepscale 6 (and_right (leb r.step 16777215) _ (sym (scaled_is 0xa5 step_time) ∙ a.1)))
      (λ a. let e = simp holds at a.1 in omega (arith, eqb-true))

  times_few : times_fine r ≡ true → (r.scale ≤ 6) × (r.stepscale ≤ 6)
  unfolding times_fine
  times_few h =
      cases (simp cond_iff at h)
      (λ a. let e = simp and_iff at a.1 in (leb-true r.scale 6 (and_right (leb r.time 16777215) _ (sym (scaled_is 0xa4 (time_of r)) ∙ e.0)), step_few e.1))
      (λ a. let e = simp holds at a.1 in omega (arith, eqb-true))

pub record Parts (trunk : Bool) (r : Rate) : Type 0 where
  pub item : r.item ≤ 4
  pub least : 1 ≤ r.kind
  pub most : r.kind ≤ last_kind trunk
  pub detail : r.detail ≤ 10
  pub scale : r.scale ≤ 6
  pub stepscale : r.stepscale ≤ 6
  pub amount : r.kind ≤ 3 → (money trunk).valid (money_of r) ≡ true

pub parts_of_lem : (trunk : Bool) (r : Rate) → (rate trunk).valid r ≡ true → Parts trunk r
unfolding price_fine amount_fine
parts_of_lem trunk r v =
    let h = simp and_iff at (sym (rate_is trunk r) ∙ v) in
    let d = detail_few r trunk h.1.0 in
    let t = times_few r h.1.1.0 in
    record { item = leb-true r.item 4 h.0; least = d.0; most = d.1; detail = d.2; scale = t.0; stepscale = t.1; amount = λ l. rw (le-leb r.kind 3 l) at h.1.1.1 }

pub rate_parts : (r : Rate) → (rate true).valid r ≡ true → Parts true r
rate_parts = parts_of_lem true

-- ---- as the type writes them

module _ (trunk : Bool) (r : Rate) where
  abbrev Form : Type 0
  Form = (price trunk).write (itemised 0 r) ≡ price_octets r

  at1 : r.kind ≡ 1 → Form
  unfolding price sort duration canonical over pair price_octets priced_octets term_octets step_octets
  at1 is =
      rw is (cons_write 0xa1 _ _
      ∙ ap₂ (λ (m x : List ℕ). element 0xa1 (m ++ (x ++ ((scaled 0xa4).write (time_of r) ++ (maybe 0xa5 (scaled 0xa5)).write (step_of r))))) (money_same trunk (money_of r))
      (number_write 0x83 0 1 r.detail))

  at2 : r.kind ≡ 2 → Form
  unfolding price sort flat_rate canonical over price_octets priced_octets term_octets
  at2 is = rw is (cons_write 0xa2 _ _ ∙ ap (element 0xa2) (money_same trunk (money_of r) ∙ sym (append-nil ((money true).write (money_of r)))))

  at3 : r.kind ≡ 3 → Form
  unfolding price sort volume canonical over pair price_octets priced_octets term_octets
  at3 is =
      rw is (cons_write 0xa3 _ _
      ∙ ap₂ (λ (m x : List ℕ). element 0xa3 (m ++ x)) (money_same trunk (money_of r)) (number_write 0x83 0 2 r.detail))

  at4 : r.kind ≡ 4 → Form
  unfolding price sort coded canonical over price_octets
  at4 is = rw is (number_write 0x02 1 10 r.detail)

  at5 : r.kind ≡ 5 → Form
  unfolding price sort plain_rate canonical over price_octets
  at5 is = rw is (null_write 0x84 tt)

  last_write : (t : Bool) → 6 ≤ r.kind → r.kind ≤ last_kind t
      → (pick_run t (sort 0x85 (is_rate 6) (plain_rate 0x85 6) (plain_rate 0x86 7)) (plain_rate 0x85 6)).write (itemised 0 r) ≡ cond (eqb r.kind 6) (lead 0x85 0) (lead 0x86 0)
  unfolding sort plain_rate canonical over
  last_write true l h = by_cases (eqb r.kind 6) (λ e. rw e (null_write 0x85 tt)) (λ e. rw e (null_write 0x86 tt))
  last_write false l h = rw (eq-eqb r.kind 6 (omega arith)) (null_write 0x85 tt)

  late : 6 ≤ r.kind → r.kind ≤ last_kind trunk → Form
  unfolding price sort price_octets
  late l h = simp (other_kind, lt-leb r.kind 3 (omega arith)) (last_write trunk l h)

  price_write : 1 ≤ r.kind → r.kind ≤ last_kind trunk → Form
  price_write l h = kinds (λ (k : ℕ). r.kind ≡ k → Form) (λ e. absurd (omega arith)) at1 at2 at3 at4 at5 (λ k g e. late (omega arith) h) r.kind refl

-- ---- as they are put

module _ (r : Rate) (k2 : r.kind ≡ 2 → ⊥) (k3 : r.kind ≡ 3 → ⊥) where
  pub terms_parts : Three (term_octets r) (full_number 0x83 r.detail) ((scaled 0xa4).write (time_of r)) (step_octets r)
  unfolding term_octets
  terms_parts = record { parts = rw (ne_eqb r.kind 2 k2, ne_eqb r.kind 3 k3) }

  pub terms_length : r.detail ≤ 10 → length (term_octets r) ≡ 3 + length ((scaled 0xa4).write (time_of r)) + length (step_octets r)
  terms_length h = omega (arith, three_length terms_parts, small_length 0x83 r.detail (omega arith))

  module _ {l : List ℕ} {a : ℕ} (h : Room l a (term_octets r)) where
    pub put_terms_1 : Room l a (full_number 0x83 r.detail)
    put_terms_1 = room_1 terms_parts h

    pub put_terms_2 : {m : List ℕ} {b : ℕ} → Wrote l m a (full_number 0x83 r.detail) b → Room m b ((scaled 0xa4).write (time_of r))
    put_terms_2 = room_2 terms_parts h

    pub put_terms_3 : {m n : List ℕ} {b d : ℕ} → Wrote l m a (full_number 0x83 r.detail) b → Wrote m n b ((scaled 0xa4).write (time_of r)) d → Room n d (step_octets r)
    put_terms_3 = room_3 terms_parts h

pub priced_length : (r : Rate) → length (priced_octets r) ≡ length ((money true).write (money_of r)) + length (term_octets r)
unfolding priced_octets
priced_length r = length-append ((money true).write (money_of r)) (term_octets r)

-- m is the amount, and k the length that its lead says
module _ (r : Rate) (m : Money) (k : ℕ) (least : r.kind ≤ 3) (is : m ≡ money_of r) (e : k ≡ length (priced_octets r)) where
  pub price_parts : Three (price_octets r) (lead (0xa0 + r.kind) k) ((money true).write m) (term_octets r)
  unfolding price_octets priced_octets
  price_parts = record { parts = rw (le-leb r.kind 3 least, is, e) }

  pub price_length : k < 128 → length (price_octets r) ≡ 2 + k
  price_length h =
      omega (arith, three_length price_parts, lead_length_short (0xa0 + r.kind) k h, e, priced_length r, ap (λ (x : Money). length ((money true).write x)) is)

  module _ {l : List ℕ} {a : ℕ} (h : Room l a (price_octets r)) where
    pub put_priced_1 : Room l a (lead (0xa0 + r.kind) k)
    put_priced_1 = room_1 price_parts h

    pub put_priced_2 : {n : List ℕ} {b : ℕ} → Wrote l n a (lead (0xa0 + r.kind) k) b → Room n b ((money true).write m)
    put_priced_2 = room_2 price_parts h

    pub put_priced_3 : {n o : List ℕ} {b d : ℕ} → Wrote l n a (lead (0xa0 + r.kind) k) b → Wrote n o b ((money true).write m) d → Room o d (term_octets r)
    put_priced_3 = room_3 price_parts h

-- a rate of either family
any_write : (trunk : Bool) (r : Rate) → (rate trunk).valid r ≡ true → (rate trunk).write r ≡ element 0x30 (full_number 0x0a r.item ++ price_octets r)
unfolding rate canonical over pair
any_write trunk r v =
    let p = parts_of_lem trunk r v in
    cons_write 0x30 _ r ∙ ap (element 0x30) (ap₂ (λ (x y : List ℕ). x ++ y) (number_write 0x0a 0 4 r.item) (price_write trunk r p.least p.most))

module _ (r : Rate) (v : (rate true).valid r ≡ true) (k : ℕ) (e : k ≡ length (price_octets r)) where
  pub rate_parts_3 : Three ((rate true).write r) (lead 0x30 (3 + k)) (full_number 0x0a r.item) (price_octets r)
  rate_parts_3 =
      let n : length (full_number 0x0a r.item ++ price_octets r) ≡ 3 + k =
      length-append (full_number 0x0a r.item) (price_octets r) ∙ omega (arith, small_length 0x0a r.item (omega (arith, (rate_parts r v).item))) in
      record { parts = any_write true r v ∙ ap (λ (j : ℕ). lead 0x30 j ++ (full_number 0x0a r.item ++ price_octets r)) n }

  pub rate_length : k < 100 → length ((rate true).write r) ≡ 5 + k
  rate_length h =
      omega (arith, three_length rate_parts_3, lead_length_short 0x30 (3 + k) (omega arith), small_length 0x0a r.item (omega (arith, (rate_parts r v).item)))

  module _ {l : List ℕ} {a : ℕ} (h : Room l a ((rate true).write r)) where
    pub put_rate_1 : Room l a (lead 0x30 (3 + k))
    put_rate_1 = room_1 rate_parts_3 h

    pub put_rate_2 : {m : List ℕ} {b : ℕ} → Wrote l m a (lead 0x30 (3 + k)) b → Room m b (full_number 0x0a r.item)
    put_rate_2 = room_2 rate_parts_3 h

    pub put_rate_3 : {m n : List ℕ} {b d : ℕ} → Wrote l m a (lead 0x30 (3 + k)) b → Wrote m n b (full_number 0x0a r.item) d → Room n d (price_octets r)
    put_rate_3 = room_3 rate_parts_3 h

-- ---- a trunk takes what document 01 takes, and writes it alike

module _ (r : Rate) (v : (rate false).valid r ≡ true) where
  detail_wider : detail_fine false r.kind r.detail ≡ true → detail_fine true r.kind r.detail ≡ true
  unfolding detail_fine
  detail_wider h =
      by_cases (eqb r.kind 1) (λ e. rw e (rw e at h)) (λ e. by_cases (eqb r.kind 3) (λ f. rw (e, f) (rw (e, f) at h)) (λ f.
      by_cases (eqb r.kind 4) (λ g. rw (e, f, g) (rw (e, f, g) at h)) (λ g. rw (e, f, g, le-leb r.kind 7 (omega (arith, (parts_of_lem false r v).most))) (
      let w = simp and_iff at (rw (e, f, g) at h) in rw (w.0.0, w.1)))))

  rate_wider : (rate true).valid r ≡ true
  unfolding price_fine amount_fine
  rate_wider =
      let h = simp and_iff at (sym (rate_is false r) ∙ v) in
      let m : amount_fine true r ≡ true = by_cases (leb r.kind 3) (λ e. rw e (money_wider (money_of r) (rw e at h.1.1.1))) (λ e. rw e (rw e at h.1.1.1)) in
      rate_is true r ∙ rw (h.0, detail_wider h.1.0, h.1.1.0, m)

  rate_same : (rate false).write r ≡ (rate true).write r
  rate_same = any_write false r v ∙ sym (any_write true r rate_wider)

pub rates_wider : (xs : List Rate) → all (rate false).valid xs ≡ true → (all (rate true).valid xs ≡ true) × (write_all (rate false).write xs ≡ write_all (rate true).write xs)
rates_wider [] v = (refl, refl)
rates_wider (x ∷ xs) v =
    let w = simp and_iff at v in
    let t = rates_wider xs w.1 in
    (and_both ((rate true).valid x) _ (rate_wider x w.0) t.0, ap₂ (λ (a b : List ℕ). a ++ b) (rate_same x w.0) t.1)
