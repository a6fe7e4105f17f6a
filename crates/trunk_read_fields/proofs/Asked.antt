-- The loop over the modes: those read so far lie in the front, and the next would be at i.
use Rattle.prelude.proofs.Prelude.{ℕ, ◌+◌, ◌≤◌, ◌<◌, arith, ◌≡◌, refl, ap, sym, ◌∙◌, List, [], ◌∷◌, ◌++◌, length, get_or, length-append, length-replicate, replicate, drop, set, lt-leb, le-leb}
use Rattle.coding.specs.{Reader.{Reader, after, entries, list_of, part}, Reader.Ans.got, Codec.{prim, pad}, Leaves.number, inner.Shown.shown}
use Rattle.coding.proofs.{Reading.gives, Lists.{Going, going_start, going_more, list_done, list_fault, list_limit, list_strange}}
use Rattle.types.{specs.Charges.no_association, specs.Arguments.no_charge, proofs.Stored.by_octets}
use Rattle.read_elements.specs.declared.Empty.{Empty}
use Rattle.read_figures.proofs.{Texts.placed_more, Answers.refused, Answers.arrived}
use Rattle.trunk_types.specs.{declared.Body.Body, Extensions.no_extension, Bodies.{body_by, no_body, asking_for}, Stored.Spare}
use Rattle.trunk_read_fields.specs.inner.Fields.{inner_in, inner, in_modes}

abbrev pub mode : Reader ℕ
mode = (prim 0x0a (number 0 6)).read

abbrev pub laid_out : List ℕ → List ℕ
laid_out places = replicate 9 0 ++ (places ++ replicate 32 0)

abbrev holding : ℕ → List ℕ → Body
holding count places = body_by 0 0 (record { count = count; places = places }) no_association no_extension no_charge

pub record Asked (s : List ℕ) (at end : ℕ) (front : List ℕ) (count i : ℕ) : Type 0 where
  pub known : List ℕ
  pub going : Going 0x0a 7 mode s at end known i
  pub laid : front ≡ laid_out (pad 7 0 known)
  pub counted : length known ≡ count

module _ (s : List ℕ) (at end : ℕ) where
  pub modes_none : end ≤ at → in_modes s at end ≡ got (asking_for []) at
  unfolding in_modes entries after
  modes_none h = simp (le-leb end at h)

  pub asked_none : {r : Empty} {front : List ℕ} → front ≡ replicate 48 0 → r ≡ record { fault = 0; place = 0; next = at } → end ≤ at → inner r front no_charge ≡ shown no_body (in_modes s at end)
  unfolding inner_in part pad
  asked_none e q h = rw (e, modes_none h) (arrived _ _ q (gives _ _ _))

  listed : at < end → in_modes s at end ≡ after (list_of 0x0a 7 mode s at end) (λ xs n. got (asking_for xs) n)
  unfolding in_modes list_of
  listed h = simp (lt-leb end at h)

  pub asked_start : {front : List ℕ} → front ≡ replicate 48 0 → at < end → Asked s at end front 0 at
  unfolding pad
  asked_start e h = record { known = []; going = going_start _ _ _ _ _ _ h; laid = e; counted = refl }

  module _ {front : List ℕ} {count i : ℕ} (a : Asked s at end front count i) where
    pub asked_more : i < end → count < 7 → {k p n v : ℕ} → (k, p, v, n) ≡ shown 0 (mode s i end) → k ≡ 0 → Asked s at end (set front (9 + count) v) (count + 1) n
    asked_more h l {v = v} e k0 = record {
      known = a.known ++ (v ∷ []);
      going = going_more _ _ _ _ _ _ a.known _ 0 a.going h (omega (arith, a.counted)) e k0;
      laid = ap (λ (f : List ℕ). set f (9 + count) v) a.laid
          ∙ placed_more 7 (replicate 9 0) a.known (replicate 32 0) v (9 + count) (ap (λ (n : ℕ). 9 + n) a.counted) (omega (arith, a.counted));
      counted = simp length-append (omega (arith, a.counted));
    }

    full : length (pad 7 0 a.known) ≡ 7
    unfolding pad
    full = simp (length-append, length-replicate) (omega (arith, a.going.few))

    pub asked_spare : Spare front
    asked_spare = ap (λ (f : List ℕ). drop 44 f) a.laid ∙ by_octets 7 (λ (p : List ℕ). Spare (laid_out p)) (λ f. refl) (pad 7 0 a.known) full

    pub done_spare : Spare (set front 8 count)
    done_spare = ap (λ (f : List ℕ). drop 44 (set f 8 count)) a.laid ∙ by_octets 7 (λ (p : List ℕ). Spare (set (laid_out p) 8 count)) (λ f. refl) (pad 7 0 a.known) full

    asked_stored : inner_in (set front 8 count) no_charge ≡ asking_for a.known
    unfolding inner_in part
    asked_stored =
        ap (λ (f : List ℕ). inner_in (set f 8 count) no_charge) a.laid
        ∙ by_octets 7 (λ (p : List ℕ). inner_in (set (laid_out p) 8 count) no_charge ≡ holding count p) (λ f. refl) (pad 7 0 a.known) full
        ∙ ap (λ (n : ℕ). holding n (pad 7 0 a.known)) (sym a.counted)

    module _ {r : Empty} where
      pub asked_done : r ≡ record { fault = 0; place = 0; next = i } → end ≤ i → inner r (set front 8 count) no_charge ≡ shown no_body (in_modes s at end)
      asked_done q h =
          rw (listed a.going.begun) (list_done _ _ _ _ _ _ (λ xs n. got (asking_for xs) n) no_body a.known _ a.going h (arrived _ _ q (rw asked_stored (gives _ _ _))))

      module _ (any : List ℕ) where
        pub asked_fault : {k p n v : ℕ} → r ≡ record { fault = k; place = p; next = 0 } → i < end → count < 7 → (k, p, v, n) ≡ shown 0 (mode s i end) → (k ≡ 0 → ⊥)
            → inner r any no_charge ≡ shown no_body (in_modes s at end)
        asked_fault q h l e k0 =
            refused _ _ q k0 (rw (listed a.going.begun) (list_fault _ _ _ _ _ _ (λ xs n. got (asking_for xs) n) no_body a.known _ a.going 0 h (omega (arith, a.counted)) e k0))

        pub asked_limit : r ≡ record { fault = 45; place = i; next = 0 } → i < end → 7 ≤ count → get_or s i 0 ≡ 0x0a → inner r any no_charge ≡ shown no_body (in_modes s at end)
        asked_limit q h l e =
            refused _ _ q (λ k. omega arith) (rw (listed a.going.begun) (list_limit _ _ _ _ _ _ (λ xs n. got (asking_for xs) n) no_body a.known _ a.going h (omega (arith, a.counted)) e))

        pub asked_strange : r ≡ record { fault = 41; place = i; next = 0 } → i < end → 7 ≤ count → (get_or s i 0 ≡ 0x0a → ⊥) → inner r any no_charge ≡ shown no_body (in_modes s at end)
        asked_strange q h l e =
            refused _ _ q (λ k. omega arith) (rw (listed a.going.begun) (list_strange _ _ _ _ _ _ (λ xs n. got (asking_for xs) n) no_body a.known _ a.going h (omega (arith, a.counted)) e))

pub ruleset asking = (asked_done, asked_fault, asked_limit, asked_strange)
