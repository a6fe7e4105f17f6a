-- What stores to a figure leave: an association, from 16 up to 42.
use Rattle.prelude.proofs.Prelude.{ℕ, ◌+◌, ◌-◌, ◌/◌, ◌%◌, min, arith, add-zero, ◌≡◌, refl, sym, ap, ◌∙◌, Bool, List, ◌++◌, length, set, take, drop, replicate, length-take}
use Rattle.prelude.proofs.Prelude.{length-drop, take-append-drop, drop-drop, take_at, drop_at}
use Rattle.coding.specs.{Reader.part, Codec.pad}
use Rattle.types.{specs.Charges.no_association, specs.Charges.by_identifier, specs.Stored.association_in, proofs.Stored.{spread, halves, by_front}}
use Rattle.read_figures.{specs.inner.Beside.{Unassociated, SameBeside}, proofs.Texts.{Passed, placed_length}}

by_beside : (P : List ℕ → Type 0) → ((f : ℕ → ℕ) (back : List ℕ) → P (spread 16 f ++ (replicate 26 0 ++ back))) → (s : List ℕ) → Unassociated s → P s
unfolding part
by_beside P each s h =
    let l : length (drop 16 s) ≡ length s - 16 = length-drop 16 s in
    let t : min 26 (length (drop 16 s)) ≡ 26 = sym (length-take 26 (drop 16 s)) ∙ ap length h in
    by_front 16 P (replicate 26 0 ++ drop 42 s) (λ f. each f (drop 42 s)) s (omega arith)
    (sym (take-append-drop 26 (drop 16 s)) ∙ simp (h, drop-drop))

pub unassociated_none : (s : List ℕ) → Unassociated s → association_in s ≡ no_association
unfolding part
unassociated_none = by_beside _ (λ f back. refl)

-- an identifier
abbrev identified_in : List ℕ → ℕ → List ℕ
identified_in s i = set (set (set s 16 (i % 256)) 17 (i / 256)) 20 1

pub identified_kept : (i : ℕ) (s : List ℕ) → Unassociated s → (association_in (identified_in s i) ≡ by_identifier i) × SameBeside s (identified_in s i)
unfolding part
identified_kept i = by_beside _ (λ f back. (simp halves, (refl, refl)))

-- digits
pub digits_start : (s : List ℕ) → Unassociated s → s ≡ (take 16 s ++ replicate 6 0) ++ (replicate 20 0 ++ drop 42 s)
digits_start = by_beside _ (λ f back. refl)

pub digits_front : (s : List ℕ) → Unassociated s → length (take 16 s ++ replicate 6 0) ≡ 22
digits_front = by_beside _ (λ f back. refl)

abbrev number_in : List ℕ → ℕ → ℕ → ℕ → List ℕ
number_in s n kind plan = set (set (set s 18 n) 20 kind) 21 plan

module _ (xs : List ℕ) (long : length xs ≡ 20) (n kind plan : ℕ) where
  abbrev Digits : List ℕ → List ℕ → Type 0
  Digits entry figure =
      SameBeside entry figure × SameBeside entry (number_in figure n kind plan)
      × (association_in (number_in figure n kind plan) ≡ record { id = 0; count = n; kind = kind; plan = plan; digits = xs })

  digits_in : (s : List ℕ) → Unassociated s → Digits s ((take 16 s ++ replicate 6 0) ++ (xs ++ drop 42 s))
  unfolding part
  digits_in =
      by_beside _ (λ f back. let e = drop_at xs back 20 long in ((refl, e), (refl, e), simp (add-zero, take_at xs back 20 long)))

module _ {ok : ℕ → Bool} (entry : List ℕ) {s : List ℕ} {start stop i : ℕ} {figure : List ℕ}
    (p : Passed ok 1 20 (take 16 entry ++ replicate 6 0) (drop 42 entry) s start stop i figure) (free : Unassociated entry) where
  pub digits_kept : (n kind plan : ℕ) → Digits (pad 20 0 (part s start (start + i))) (placed_length _ _ _ _ _ _ _ _ i p) n kind plan entry figure
  digits_kept n kind plan = rw p.stored (digits_in _ (placed_length _ _ _ _ _ _ _ _ i p) n kind plan entry free)

  pub digits_beside : SameBeside entry figure
  digits_beside = (digits_kept 0 0 0).0
