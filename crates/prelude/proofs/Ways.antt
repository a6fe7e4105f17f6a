-- The rules by which a search follows the tests that the code made.
use Rattle.prelude.proofs.Prelude.{ℕ, ◌≡◌, refl, sym, ◌∙◌, Bool, true, false, not, ◌&&◌, ◌||◌, cond, and-false, or-true, eqb, eq-eqb, ne_eqb, le-leb, lt-leb, not-true, not-false}

-- by how a test comes out
pub by_cases : {P : Type 0} (b : Bool) → (b ≡ true → P) → (b ≡ false → P) → P
by_cases true p q = p refl
by_cases false p q = q refl

module _ {A : Type 0} {r : A} (x y : A) (b : Bool) where
  pub goes : b ≡ true → r ≡ x → r ≡ cond b x y
  goes e h = rw e h

  pub stays : b ≡ false → r ≡ y → r ≡ cond b x y
  stays e h = rw e h

  -- by a test that the code called for
  module _ {t : Bool} (e : t ≡ b) where
    pub goes_by : t ≡ true → r ≡ x → r ≡ cond b x y
    goes_by h = goes (sym e ∙ h)

    pub stays_by : t ≡ false → r ≡ y → r ≡ cond b x y
    stays_by h = stays (sym e ∙ h)

    pub goes_not : not t ≡ false → r ≡ x → r ≡ cond b x y
    goes_not h = goes_by (not-false t h)

    pub stays_not : not t ≡ true → r ≡ y → r ≡ cond b x y
    stays_not h = stays_by (not-true t h)

    -- and by its opposite
    pub goes_opposite : not t ≡ true → r ≡ x → r ≡ cond (not b) x y
    goes_opposite h k = rw (← e, h) k

    pub stays_opposite : not t ≡ false → r ≡ y → r ≡ cond (not b) x y
    stays_opposite h k = rw (← e, h) k

-- a number that is another one
pub other : (n k : ℕ) {m : ℕ} → n ≡ m → eqb m k ≡ false → eqb n k ≡ false
other n k e h = rw e h

-- tests that are joined
module _ (a b : Bool) where
  pub both : a ≡ true → b ≡ true → a && b ≡ true
  both e h = rw (e, h)

  pub not_first : a ≡ false → a && b ≡ false
  not_first e = rw e

  pub not_second : b ≡ false → a && b ≡ false
  not_second h = rw h (and-false a)

  pub the_first : a ≡ true → a || b ≡ true
  the_first e = rw e

  pub the_second : b ≡ true → a || b ≡ true
  the_second h = rw h (or-true a)

  pub neither : a ≡ false → b ≡ false → a || b ≡ false
  neither e h = rw (e, h)

pub ruleset joined = (both, not_first, not_second, the_first, the_second, neither)

pub ruleset ways = (goes, stays, goes_by, stays_by, goes_not, stays_not, goes_opposite, stays_opposite, eq-eqb, ne_eqb, le-leb, lt-leb, other, joined)
