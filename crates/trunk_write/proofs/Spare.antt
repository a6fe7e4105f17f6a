-- The front's last four octets, one by one.
use Rattle.std.proofs.Common.{ℕ, ◌≡◌, ap, ◌∙◌, List, [], ◌∷◌, Bool, ◌&&◌, true, arith, ◌<◌, length, get_or, take, drop, drop-cons}
use Rattle.std.specs.List.{list_all}
use Rattle.coding.proofs.Tests.{and_assoc, and-true}
use Rattle.prelude.proofs.Prelude.{eqb}
use Rattle.trunk_write.specs.Outcome.{spare_zero}

four : (s : List ℕ) → length s ≡ 48 → drop 44 s ≡ get_or s 44 0 ∷ get_or s 45 0 ∷ get_or s 46 0 ∷ get_or s 47 0 ∷ drop 48 s
four s l =
    let a : 44 < length s = omega arith in let b : 45 < length s = omega arith in
    let c : 46 < length s = omega arith in let d : 47 < length s = omega arith in
    rw (drop-cons s 44 0, drop-cons s 45 0, drop-cons s 46 0, drop-cons s 47 0)

pub spare_all : (s : List ℕ) {b : Bool} → length s ≡ 48 → b ≡ list_all (λ x. eqb x 0) (take 4 (drop 44 s)) → b ≡ spare_zero s
spare_all s l e =
    e ∙ ap (λ (xs : List ℕ). list_all (λ x. eqb x 0) (take 4 xs)) (four s l)
    ∙ go (eqb (get_or s 44 0) 0) (eqb (get_or s 45 0) 0) (eqb (get_or s 46 0) 0) (eqb (get_or s 47 0) 0)
  where
    go : (a b c d : Bool) → a && (b && (c && (d && true))) ≡ (a && b) && (c && d)
    go a b c d = simp (and_assoc, and-true)
