-- What writing answers and leaves, by how many octets the frame holds.
use Rattle.prelude.proofs.Prelude.{ℕ, ◌+◌, ◌≤◌, ◌<◌, arith, ◌≡◌, ap, sym, ◌∙◌, Bool, true, false, List, ◌++◌, length, ltb, ltb-true, ltb-false}
use Rattle.prelude.proofs.Ways.{by_cases}
use Rattle.coding.{specs.Codec.frames, specs.inner.Written.Wrote, specs.inner.Written.Room, specs.inner.Written.lead, proofs.Basic.picked, proofs.Basic.unpicked, proofs.Writing.lead_length}
use Rattle.coding.proofs.Writing.{lead_length_short, lead_length_long, Split, split_length, room_first, room_rest, wrote_parts}
use Rattle.trunk_types.specs.Components.{trunk_component}
use Rattle.write.{specs.declared.Written.Written, specs.Outcome.done, specs.Outcome.no}
use Rattle.write.proofs.Family as Family
use Rattle.trunk_write_frames.specs.inner.Octets.{contents_of}
use Rattle.trunk_write.specs.Outcome.{Offered, trunk_write_of, trunk_left_of}

abbrev Answers : Offered → List ℕ → Written → List ℕ → Type 0
Answers o before w after = (w ≡ trunk_write_of o (length before)) × (after ≡ trunk_left_of o before)

-- where the four octets are not zero
pub not_spare : (o : Offered) (before : List ℕ) {b : Bool} {w : Written} → b ≡ o.spare → b ≡ false → w ≡ no 10 → Answers o before w before
unfolding trunk_write_of trunk_left_of
not_spare o before is e q = let z = sym is ∙ e in (q ∙ sym (unpicked _ _ z), sym (unpicked _ _ z))

-- where they are, as of any family
module _ (o : Offered) (before : List ℕ) {w : Written} {after : List ℕ} (s : o.spare ≡ true) where
  as_family : Family.Answers trunk_component o.trunk before w after → Answers o before w after
  unfolding trunk_write_of trunk_left_of
  as_family a = (a.0 ∙ sym (picked _ _ s), a.1 ∙ sym (picked _ _ s))

pub not_fine : (o : Offered) (before : List ℕ) {b : Bool} {w : Written} → o.spare ≡ true → b ≡ trunk_component.valid o.trunk → b ≡ false → w ≡ no 10
    → Answers o before w before
not_fine o before s is e q = rw q (as_family o before s (Family.refused_10 trunk_component o.trunk before (sym is ∙ e)))

-- a component that may be written and whose frame holds m octets
pub record Sized (o : Offered) (m : ℕ) : Type 0 where
  pub clear : o.spare ≡ true
  pub fine : trunk_component.valid o.trunk ≡ true
  pub contents : m ≡ length (contents_of o.trunk)

-- by the tests that the code made
pub sized_by : {o : Offered} {m : ℕ} {a b : Bool} → a ≡ o.spare → a ≡ true → b ≡ trunk_component.valid o.trunk → b ≡ true → m ≡ length (contents_of o.trunk)
    → Sized o m
sized_by e p f q l = record { clear = sym e ∙ p; fine = sym f ∙ q; contents = l }

abbrev tag : Offered → ℕ
tag o = 0xa0 + o.trunk.lead.frame

module _ {o : Offered} {m : ℕ} (c : Sized o m) where
  parts : Split (trunk_component.write o.trunk) (lead (tag o) m) (contents_of o.trunk)
  unfolding trunk_component frames lead
  parts = record { parts = ap (λ (j : ℕ). lead (tag o) j ++ contents_of o.trunk) (sym c.contents) }

  whole : length (trunk_component.write o.trunk) ≡ length (lead (tag o) m) + m
  whole = omega (arith, split_length parts, c.contents)

  pub too_long : (before : List ℕ) {w : Written} → 251 < m → w ≡ no 11 → Answers o before w before
  too_long before h e =
      rw e (as_family o before c.clear (Family.refused_11 trunk_component o.trunk before c.fine (by_cases (ltb m 256)
      (λ q. omega (arith, whole, lead_length_long (tag o) m (omega arith) (ltb-true m 256 q))) (λ q. omega (arith, whole, lead_length (tag o) m, ltb-false m 256 q)))))

-- and k in all
pub record Whole (o : Offered) (m k : ℕ) : Type 0 where
  pub sized : Sized o m
  pub most : m ≤ 251
  pub is : (x : ℕ) → k ≡ length (lead x m) + m

module _ {o : Offered} {m k : ℕ} (c : Whole o m k) where
  whole_is : (length (trunk_component.write o.trunk) ≡ k) × (k ≤ 254)
  whole_is = (
    omega (arith, whole c.sized, c.is (tag o)),
    by_cases (ltb m 128) (λ q. omega (arith, c.most, c.is (tag o), lead_length_short (tag o) m (ltb-true m 128 q)))
        (λ q. omega (arith, c.most, c.is (tag o), lead_length_long (tag o) m (ltb-false m 128 q) (omega (arith, c.most)))),
  )

  pub no_room : (before : List ℕ) {w : Written} → length before < k → w ≡ no 12 → Answers o before w before
  no_room before g e =
      rw e (as_family o before c.sized.clear (Family.refused_12 trunk_component o.trunk before c.sized.fine (omega (arith, whole_is)) (omega (arith, whole_is))))

  -- the lead, and then what the frame holds
  module _ {before : List ℕ} (g : k ≤ length before) where
    all_room : Room before 0 (trunk_component.write o.trunk)
    all_room = record { fits = omega (arith, whole_is) }

    pub lead_room : Room before 0 (lead (tag o) m)
    lead_room = room_first (parts c.sized) all_room

    module _ {mid : List ℕ} {p : ℕ} (a : Wrote before mid 0 (lead (tag o) m) p) where
      pub contents_room : Room mid p (contents_of o.trunk)
      contents_room = room_rest (parts c.sized) all_room a

      module _ {after : List ℕ} {j : ℕ} (w : Wrote mid after p (contents_of o.trunk) j) where
        pub written : Answers o before (done j) after
        written =
            as_family o before c.sized.clear (Family.wrote_all trunk_component o.trunk before _ _ c.sized.fine
            (omega (arith, whole_is)) (omega (arith, whole_is)) (wrote_parts (parts c.sized) a w))

        pub written_few : j ≤ 254
        written_few = omega (arith, whole_is, (wrote_parts (parts c.sized) a w).place)
