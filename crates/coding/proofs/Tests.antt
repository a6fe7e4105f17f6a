-- Tests joined by `and`, in any order, and the tests that the code makes: the rules by which a search finds that a function's test is a type's.
use Rattle.prelude.proofs.Prelude.{ℕ, ◌≡◌, refl, sym, Bool, true, false, ◌&&◌, and_comm, eqb, eq-eqb, ne_eqb, le-leb, lt-leb}
pub use mathlib.Core.Bool.{and_assoc, and-true, and-false}

-- ---- in any order

pub and_past : (a b c : Bool) → a && (b && c) ≡ b && (a && c)
and_past true b c = refl
and_past false b c = sym (and-false b)

pub ruleset ands = (and_assoc, and_past, and_comm, and-true, and-false)

-- ---- the tests of the code, whose numbers may stand the other way round in a type's test

pub eqb_self : (n : ℕ) → eqb n n ≡ true
eqb_self n = eq-eqb n n refl

pub eq_eqb' : (a b : ℕ) → a ≡ b → eqb b a ≡ true
eq_eqb' a b e = eq-eqb b a (sym e)

pub ne_eqb' : (a b : ℕ) → (a ≡ b → ⊥) → eqb b a ≡ false
ne_eqb' a b h = ne_eqb b a (λ e. h (sym e))

pub ruleset tests = (eq-eqb, ne_eqb, eq_eqb', ne_eqb', le-leb, lt-leb, and-false, and-true)
