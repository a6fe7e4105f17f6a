-- The laws of the other leaves: strings, NULL; identifiers by those of Signed.
use Rattle.prelude.proofs.Prelude.{ℕ, ◌≤◌, ◌<◌, ◌≡◌, refl, sym, List, [], ◌∷◌, Bool, true, false, true≢false, length, ltb, ltb-false, leb-true, le-ltb, le-leb}
use Rattle.coding.specs.{Contents.every, Contents.text, Contents.null, Leaves.string, Leaves.null_leaf}
use Rattle.coding.proofs.{Basic.cond_case, Basic.and_left, Basic.and_right, Basic.and_both, Basic.octets_none, Basic.octets_cons, Laws.Octets, Laws.LeafLaws, Digits.Fit, Digits.fit, Digits.out}
use Rattle.coding.proofs.{Digits.decide, Digits.leaf_laws}
pub use Rattle.coding.proofs.Signed.{identifier_laws}

every_octet : (ok : ℕ → Bool) → ((x : ℕ) → ok x ≡ true → x < 256) → (xs : List ℕ) → every ok xs ≡ true → Octets xs
unfolding every
every_octet ok low [] v = octets_none
every_octet ok low (x ∷ xs) v = cond_case (ok x) v (λ q w. octets_cons x xs (low x q) (every_octet ok low xs w)) (λ q w. absurd (true≢false (sym w)))

pub string_laws : (low high : ℕ) (ok : ℕ → Bool) → ((x : ℕ) → ok x ≡ true → x < 256) → LeafLaws (string low high ok)
unfolding string text
string_laws low high ok small =
    leaf_laws
    (λ xs os. decide (ltb (length xs) low) (λ l. out) (λ l. decide (ltb high (length xs)) (λ h. out) (λ h. decide (every ok xs) (λ o.
    let b = ltb-false (length xs) low l in
    let c = ltb-false high (length xs) h in
    fit (refl, search (and_both, le-leb))) (λ o. out))))
    (λ xs v.
    let l : low ≤ length xs = search (and_left, leb-true) in
    let h : length xs ≤ high = search (and_left, and_right, leb-true) in
    let o : every ok xs ≡ true = search and_right in
    simp (le-ltb, o))
    (λ xs v. every_octet ok small xs (search and_right))

null_fits : (xs : List ℕ) → Fit (λ x. (xs ≡ null_leaf.write x) × (null_leaf.valid x ≡ true)) (null_leaf.judge xs)
unfolding null_leaf null
null_fits [] = fit {a = tt} (refl, refl)
null_fits (y ∷ ys) = out

pub null_laws : LeafLaws null_leaf
unfolding null_leaf null
null_laws = leaf_laws (λ xs os. null_fits xs) (λ x v. refl) (λ x v. octets_none)
