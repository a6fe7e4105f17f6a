-- What is all of zeros: no extension, no modes and no user.
use Rattle.prelude.proofs.Prelude.{ℕ, ◌≡◌, refl, sym, ap, ◌∙◌, List, ◌++◌, Bool, true, not, ◌&&◌, arith, length, drop, replicate, eqb, leb_zero, take-append-drop}
use Rattle.prelude.proofs.{Prelude.drop-drop, Ways.by_cases}
use Rattle.coding.{specs.Reader.part, specs.Codec.same_list, specs.Codec.sort, specs.Codec.canonical, specs.Codec.over, specs.Codec.nothing, specs.Codec.pad}
use Rattle.types.specs.{Charges.no_association}
use Rattle.types.{specs.Stored.association_in, proofs.Stored.by_front}
use Rattle.trunk_types.specs.{Bodies.no_modes, Extensions.unextended, Extensions.any_extension, Stored.modes_in, Stored.extension_in}
use Rattle.write_tests.proofs.{Truth.list_iff, Tests.number_plain, Tests.plain_is}
use Rattle.trunk_write_tests.specs.inner.Fine.{some_modes, modes_fine, names, user_fine, extension_fine}

-- what the test of zeros says
blank : {z : Bool} {s : List ℕ} {n : ℕ} → length s ≡ n → z ≡ same_list eqb (replicate (length s) 0) s → z ≡ true → s ≡ replicate n 0
blank {s = s} e t h = sym ((list_iff (replicate (length s) 0) s).0 (sym t ∙ h)) ∙ ap (λ (k : ℕ). replicate k 0) e

-- ---- the extension

pub not_extended : {z : Bool} (k : ℕ) (s : List ℕ) → length s ≡ 244 → z ≡ same_list eqb (replicate (length s) 0) s → z ≡ true
    → z ≡ extension_fine k (extension_in s)
unfolding extension_fine any_extension sort unextended canonical over nothing
not_extended k s l t h = let b : s ≡ replicate 244 0 = blank l t h in rw (h, b, leb_zero)

-- ---- the modes and the user

no_modes_lem : (k : ℕ) → modes_fine k no_modes ≡ true
unfolding modes_fine some_modes pad
no_modes_lem k = by_cases (eqb k 59) (λ q. rw q) (λ q. rw q)

no_user : (k : ℕ) → user_fine k no_association ≡ not (names k)
unfolding user_fine
no_user k =
    by_cases (names k) (λ q. rw q (number_plain no_association refl ∙ plain_is no_association)) (λ q. rw q (by_cases (eqb k 10) (λ p. rw p) (λ p. rw p)))

none_in : (s : List ℕ) → length s ≡ 48 → part s 8 42 ≡ replicate 34 0 → (modes_in s ≡ no_modes) × (association_in s ≡ no_association)
unfolding part
none_in s l h =
    by_front 8 (λ (t : List ℕ). (modes_in t ≡ no_modes) × (association_in t ≡ no_association)) (replicate 34 0 ++ drop 42 s) (λ f. (refl, refl)) s (omega arith)
    (sym (take-append-drop 34 (drop 8 s)) ∙ simp (h, drop-drop))

pub no_people : {x z : Bool} (k : ℕ) (s : List ℕ) → length s ≡ 48 → length (part s 8 42) ≡ 34 → z ≡ same_list eqb (replicate (length (part s 8 42)) 0) (part s 8 42)
    → z ≡ true → x ≡ names k → not x ≡ modes_fine k (modes_in s) && user_fine k (association_in s)
no_people k s l m t h q =
    let (a, b) = none_in s l (blank m t h) in
    rw (a, b, no_modes_lem k, no_user k) (ap not q)
