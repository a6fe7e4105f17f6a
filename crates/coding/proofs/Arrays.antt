-- Laws of a list kept in an array.
use Rattle.prelude.proofs.Prelude.{ℕ, suc, ◌+◌, ◌-◌, ◌<◌, arith, ◌≡◌, List, [], ◌∷◌, ◌++◌, append_assoc, length, set, replicate, length-append, set_at}
use Rattle.coding.specs.Codec.{pad}

-- one entry more, stored at the first unused place
pub padded_more : {A : Type 0} (n : ℕ) (z : A) (xs : List A) (v : A) (k : ℕ) → length xs ≡ k → k < n →
    set (pad n z xs) k v ≡ pad n z (xs ++ (v ∷ []))
unfolding pad
padded_more n z xs v k e h =
    let a : n - length xs ≡ suc (n - (k + 1)) = omega arith in
    let b : n - length (xs ++ (v ∷ [])) ≡ n - (k + 1) = simp length-append (omega arith) in
    rw (b, append_assoc, a) (set_at xs z (replicate (n - (k + 1)) z) v k e)
