-- A loop that reads entries into the two arrays, for any type of entry and any rows.
use Rattle.prelude.proofs.Prelude.{ℕ, ◌+◌, ◌*◌, ◌≤◌, ◌<◌, arith, ◌≡◌, refl, ap₂, ◌∙◌, List, [], ◌∷◌, ◌++◌, length, get_or, length-append, replicate, set, sets}
use Rattle.coding.{specs.Reader.Ans, specs.Reader.Reader, specs.Reader.after, specs.Reader.list_of, specs.Reader.part, specs.Reader.Ans.got, specs.Codec.pad, specs.Rows.rows}
use Rattle.coding.{specs.inner.Shown.shown, proofs.Reading.gives, proofs.Rows.rows_more_at, proofs.Lists.Going, proofs.Lists.going_start, proofs.Lists.going_more, proofs.Lists.list_done}
use Rattle.coding.{proofs.Lists.list_fault, proofs.Lists.list_limit, proofs.Lists.list_strange, proofs.Lists.list_none}
use Rattle.types.specs.{declared.Charge.Charge, Arguments.no_charge, Arguments.list_figure, Stored.figure_in, Stored.Blank}
use Rattle.read_elements.specs.declared.Empty.{Empty}
use Rattle.read_lists.specs.inner.Answers.{whole}
use Rattle.read_figures.proofs.Answers.{refused, arrived}

-- the entries read so far are those that the arrays hold, as many as counted, and the next would be at i
pub record Kept {A : Type 0} (most : ℕ) (entry : Reader A) (low small : A → List ℕ) (s : List ℕ) (at end : ℕ) (numbers octets : List ℕ) (count i : ℕ) : Type 0 where
  pub known : List A
  pub going : Going 0x30 most entry s at end known i
  pub laid : numbers ≡ pad 32 0 (rows low known)
  pub marked : octets ≡ pad 192 0 (rows small known)
  pub counted : length known ≡ count

module _ {A : Type 0} (most : ℕ) (entry : Reader A) (low small : A → List ℕ) (s : List ℕ) (at end : ℕ) where
  -- a list of a kind as a charge
  abbrev listed : ℕ → List A → Charge
  listed kind xs = record { figure = list_figure kind (length xs); entries = record { numbers = pad 32 0 (rows low xs); octets = pad 192 0 (rows small xs) } }

  pub kept_start : {figure numbers octets : List ℕ} → at < end → Blank figure numbers octets → Kept most entry low small s at end numbers octets 0 at
  unfolding pad rows
  kept_start h z = record { known = []; going = going_start _ _ _ _ _ _ h; laid = z.numbers_blank; marked = z.rows_blank; counted = refl }

  pub kept_none : (f : List A → ℕ → Ans Charge) (figure numbers octets : List ℕ) {r : Empty} → r ≡ record { fault = 40; place = end; next = 0 } → end ≤ at →
      whole r figure numbers octets ≡ shown no_charge (after (list_of 0x30 most entry s at end) f)
  kept_none f figure numbers octets a h = refused _ _ a (λ k. omega arith) (list_none _ _ _ _ _ _ f _ h)

  module _ {numbers octets : List ℕ} {count i : ℕ} (kept : Kept most entry low small s at end numbers octets count i) where
    -- an entry more, its rows stored after the others
    pub kept_more : (m n p q : ℕ) (z : A) → ((x : A) → length (low x) ≡ m) → ((x : A) → length (small x) ≡ n) → p ≡ m * count → q ≡ n * count →
        m * count + m ≤ 32 → n * count + n ≤ 192 → i < end → count < most → {numbers' octets' : List ℕ} {k j next : ℕ} {v : A} →
        (k, j, v, next) ≡ shown z (entry s i end) → k ≡ 0 → numbers' ≡ sets numbers p (low v) → octets' ≡ sets octets q (small v) →
        Kept most entry low small s at end numbers' octets' (count + 1) next
    kept_more m n p q z wide thick ep eq room space h l {v = v} e k0 en eo = record {
      known = kept.known ++ (v ∷ []);
      going = going_more _ _ _ _ _ _ kept.known _ z kept.going h (omega (arith, kept.counted)) e k0;
      laid = en ∙ ap₂ (λ (l : List ℕ) (j : ℕ). sets l j (low v)) kept.laid ep ∙ rows_more_at low m wide 32 kept.known v count kept.counted room;
      marked = eo ∙ ap₂ (λ (l : List ℕ) (j : ℕ). sets l j (small v)) kept.marked eq ∙ rows_more_at small n thick 192 kept.known v count kept.counted space;
      counted = simp length-append (omega (arith, kept.counted));
    }

    -- each return; after a fault whatever the parts hold
    module _ (f : List A → ℕ → Ans Charge) {r : Empty} where
      pub kept_done : {b : List ℕ} (kind : ℕ) → r ≡ record { fault = 0; place = 0; next = i } → end ≤ i → b ≡ replicate 48 0 →
          ((xs : List A) (n : ℕ) → f xs n ≡ got (listed kind xs) n) →
          whole r (set (set b 42 kind) 47 count) numbers octets ≡ shown no_charge (after (list_of 0x30 most entry s at end) f)
      unfolding figure_in part
      kept_done kind a h blank fs =
          list_done _ _ _ _ _ _ f _ kept.known _ kept.going h
          (rw fs (arrived _ _ a (rw (blank, kept.laid, kept.marked, ← kept.counted) (gives _ _ _))))

      module _ (figure numbers' octets' : List ℕ) where
        pub kept_fault : (z : A) {k p n : ℕ} {v : A} → r ≡ record { fault = k; place = p; next = 0 } → i < end → count < most → (k, p, v, n) ≡ shown z (entry s i end) →
            (k ≡ 0 → ⊥) → whole r figure numbers' octets' ≡ shown no_charge (after (list_of 0x30 most entry s at end) f)
        kept_fault z a h l e k0 = refused _ _ a k0 (list_fault _ _ _ _ _ _ f _ kept.known _ kept.going z h (omega (arith, kept.counted)) e k0)

        pub kept_limit : r ≡ record { fault = 45; place = i; next = 0 } → i < end → most ≤ count → get_or s i 0 ≡ 0x30 →
            whole r figure numbers' octets' ≡ shown no_charge (after (list_of 0x30 most entry s at end) f)
        kept_limit a h l e = refused _ _ a (λ k. omega arith) (list_limit _ _ _ _ _ _ f _ kept.known _ kept.going h (omega (arith, kept.counted)) e)

        pub kept_strange : r ≡ record { fault = 41; place = i; next = 0 } → i < end → most ≤ count → (get_or s i 0 ≡ 0x30 → ⊥) →
            whole r figure numbers' octets' ≡ shown no_charge (after (list_of 0x30 most entry s at end) f)
        kept_strange a h l e = refused _ _ a (λ k. omega arith) (list_strange _ _ _ _ _ _ f _ kept.known _ kept.going h (omega (arith, kept.counted)) e)

-- what the returns of such a loop cite
pub ruleset keeping = (kept_none, kept_done, kept_fault, kept_limit, kept_strange)
