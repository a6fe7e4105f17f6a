-- What a valid value is: of a canonical type the value of its own octets, of a sort of two types one of the first or of the second.
use Rattle.prelude.proofs.Prelude.{ℕ, ◌≡◌, Bool, true, ◌⊎◌, inl, inr}
use Rattle.coding.specs.Codec.{Run, canonical, over, sort}
use Rattle.coding.proofs.{Basic.cond_case, Basic.and_left, Basic.and_right, Padded.Equal}

-- a valid value is the value of its own octets, which are valid
pub own : {A B : Type 0} (to : A → B) (from : B → A) (same : B → B → Bool) (f : Run A) → Equal same
    → (y : B) → (canonical to from same f).valid y ≡ true → to (from y) ≡ y
unfolding canonical over
own to from same f E y v = E.equal (to (from y)) y (and_left (same (to (from y)) y) _ v)

pub own_valid : {A B : Type 0} (to : A → B) (from : B → A) (same : B → B → Bool) (f : Run A)
    → (y : B) → (canonical to from same f).valid y ≡ true → f.valid (from y) ≡ true
unfolding canonical over
own_valid to from same f y v = and_right (same (to (from y)) y) _ v

-- a valid value is one of the first or of the second
pub sort_or : {A : Type 0} (tag : ℕ) (test : A → Bool) (f g : Run A) (x : A) → (sort tag test f g).valid x ≡ true → (f.valid x ≡ true) ⊎ (g.valid x ≡ true)
unfolding sort
sort_or tag test f g x v = cond_case (test x) v (λ q w. inl w) (λ q w. inr w)
