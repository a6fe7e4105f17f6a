-- A figure in money: its octets as they are put, and how many they are.
use Rattle.prelude.proofs.Prelude.{ℕ, ◌+◌, ◌≤◌, ◌≡◌, sym, ap, ◌∙◌, List, ◌++◌, append_assoc, true, arith, length, length-append, eq-eqb, ne_eqb}
use Rattle.coding.{specs.inner.Written.Wrote, specs.inner.Written.Room, specs.inner.Written.lead, proofs.Writing.room_as, proofs.Writing.room_head}
use Rattle.types.specs.{declared.Figure.Figure, Charges.money}
use Rattle.write_elements.{specs.inner.Element.element, proofs.Parts.{element_as_lem, room_2, room_3, wrote_three}}
use Rattle.write_figures.specs.inner.Octets.{billing_octets}
use Rattle.trunk_write_charges.specs.inner.Octets.{priced_octets, figure_octets}

-- n octets of money, s of its A1, b of the billing
module _ (f : Figure) (n s b : ℕ) (e : n ≡ length ((money true).write f.money)) (g : (tag : ℕ) → s ≡ length (lead tag n) + n)
    (q : (tag billing : ℕ) → billing ≤ 7 → b ≡ length (billing_octets tag f.billed billing)) (few : f.billing ≤ 7) where
  abbrev amount : List ℕ
  amount = (money true).write f.money

  abbrev billed : List ℕ
  billed = billing_octets 0x82 f.billed f.billing

  contents : element 0xa1 amount ++ billed ≡ lead 0xa1 n ++ (amount ++ billed)
  contents = ap (λ (xs : List ℕ). xs ++ billed) (element_as_lem 0xa1 n amount e) ∙ append_assoc (lead 0xa1 n) amount billed

  contents_length : s + b ≡ length (element 0xa1 amount ++ billed)
  contents_length =
      omega (arith, ap length contents, length-append (lead 0xa1 n) (amount ++ billed), length-append amount billed, g 0xa1, q 0x82 f.billing few)

  priced_octets_lem : priced_octets f ≡ (lead 0x30 (s + b) ++ lead 0xa1 n) ++ (amount ++ billed)
  unfolding priced_octets
  priced_octets_lem =
      element_as_lem 0x30 (s + b) (element 0xa1 amount ++ billed) contents_length ∙ ap (λ (xs : List ℕ). lead 0x30 (s + b) ++ xs) contents
      ∙ sym (append_assoc (lead 0x30 (s + b)) (lead 0xa1 n) (amount ++ billed))

  pub priced_length : (r : ℕ) → ((tag : ℕ) → r ≡ length (lead tag (s + b)) + (s + b)) → r ≡ length (priced_octets f)
  priced_length r w =
      omega (
        arith,
        w 0x30,
        ap length priced_octets_lem,
        length-append (lead 0x30 (s + b) ++ lead 0xa1 n) (amount ++ billed),
        length-append (lead 0x30 (s + b)) (lead 0xa1 n),
        length-append amount billed,
        g 0xa1,
        q 0x82 f.billing few,
      )

  module _ {l : List ℕ} {a : ℕ} where
    pub priced_1 : Room l a (priced_octets f) → Room l a (lead 0x30 (s + b) ++ lead 0xa1 n)
    priced_1 r = room_head _ (room_as r priced_octets_lem)

    module _ {m : List ℕ} {d : ℕ} where
      pub priced_2 : Room l a (priced_octets f) → Wrote l m a (lead 0x30 (s + b) ++ lead 0xa1 n) d → Room m d amount
      priced_2 r p = room_head billed (room_2 priced_octets_lem r p)

      module _ {k : List ℕ} {h : ℕ} (p : Wrote l m a (lead 0x30 (s + b) ++ lead 0xa1 n) d) (t : Wrote m k d amount h) where
        pub priced_3 : Room l a (priced_octets f) → Room k h billed
        priced_3 r = room_3 priced_octets_lem r p t

        pub priced_all : {o : List ℕ} {z : ℕ} → Wrote k o h billed z → Wrote l o a (priced_octets f) z
        priced_all u = wrote_three priced_octets_lem p t u

module _ (f : Figure) where
  pub none_octets : f.kind ≡ 0 → figure_octets f ≡ lead 0x80 0
  unfolding figure_octets
  none_octets e = rw (eq-eqb f.kind 0 e)

  pub free_octets : f.kind ≡ 1 → figure_octets f ≡ lead 0x81 0
  unfolding figure_octets
  free_octets e = rw (ne_eqb f.kind 0 (λ z. omega arith), eq-eqb f.kind 1 e)

  pub money_octets_lem : (f.kind ≡ 0 → ⊥) → (f.kind ≡ 1 → ⊥) → figure_octets f ≡ priced_octets f
  unfolding figure_octets
  money_octets_lem k0 k1 = rw (ne_eqb f.kind 0 k0, ne_eqb f.kind 1 k1)

  pub money_length : {r : ℕ} → (f.kind ≡ 0 → ⊥) → (f.kind ≡ 1 → ⊥) → r ≡ length (priced_octets f) → r ≡ length (figure_octets f)
  money_length k0 k1 e = e ∙ sym (ap length (money_octets_lem k0 k1))
