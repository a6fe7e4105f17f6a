-- Contents of which only some values pass: their laws.
use Rattle.prelude.proofs.Prelude.{◌≡◌, Bool, true}
use Rattle.coding.specs.{Reader.Ruling, Reader.narrowed, Codec.Leaf, Leaves.only}
use Rattle.coding.proofs.{Basic.and_left, Basic.and_right, Basic.and_both, Laws.LeafLaws, Digits.Fit, Digits.fit, Digits.out, Digits.judged, Digits.fitting, Digits.decide}
use Rattle.coding.proofs.{Digits.leaf_laws}

narrowed_fit : {A : Type 0} {P : A → Type 0} (ok : A → Bool) {j : Ruling A} → Fit P j → Fit (λ x. P x × (ok x ≡ true)) (narrowed ok j)
unfolding narrowed
narrowed_fit ok (fit {a = a} p) = decide (ok a) (λ q. fit (p, q)) (λ q. out)
narrowed_fit ok out = out

pub only_laws : {A : Type 0} (ok : A → Bool) (l : Leaf A) → LeafLaws l → LeafLaws (only ok l)
unfolding only narrowed
only_laws ok l L =
    leaf_laws (λ xs os. judged _ (λ x r.
    let p = fitting (narrowed_fit ok (judged (l.judge xs) (λ y e. L.sound xs y os e))) r in (p.0.0, and_both (l.valid x) (ok x) p.0.1 p.1)))
    (λ x v. rw (L.complete x (and_left (l.valid x) (ok x) v), and_right (l.valid x) (ok x) v))
    (λ x v. L.octets x (and_left (l.valid x) (ok x) v))
