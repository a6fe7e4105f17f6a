-- A refusal is no outcome that changes something: one test over the numbers, which is computed.
use Rattle.prelude.proofs.Prelude.{ℕ, ◌≤◌, ◌≡◌, refl, sym, ◌∙◌, ap, List, [], ◌∷◌, Bool, true, false, not, ◌&&◌, ◌||◌, ◌⊎◌, inl, inr, eqb, leb, arith, not-true}
use Rattle.prelude.proofs.{Prelude.{not-false, leb-true, le-leb, lt-leb}, Ways.by_cases}
use Rattle.types.{specs.Frames.read_of, proofs.Theorems.refusal}
use Rattle.octets.proofs.Each.{each_fails}
use Rattle.coding.specs.Reader.{among}
use Rattle.outcomes.specs.Outcome.{refusals, is_refusal}
use Rattle.phases.proofs.Choice.{by_number, never, first_of, second_of}
pub use Rattle.prelude.proofs.Ways.{ways}

-- a number that passes a test is none that fails it
pub apart : (t : ℕ → Bool) (n k : ℕ) → t n ≡ true → t k ≡ false → eqb n k ≡ false
apart t n k p q = by_number n k (λ e. never (sym q ∙ ap t (sym e) ∙ p)) (λ e. e)

-- no number of a list passes a test
abbrev pub none_of : (ℕ → Bool) → List ℕ → Bool
none_of t [] = true
none_of t (n ∷ l) = not (t n) && none_of t l

pub fails : (t : ℕ → Bool) (l : List ℕ) → none_of t l ≡ true → (k : ℕ) → among k l ≡ true → t k ≡ false
fails t [] q k m = never m
fails t (n ∷ l) q k m =
    by_number k n (λ e. rw e (not-true (t n) (first_of (not (t n)) (none_of t l) q))) (λ e. fails t l (second_of (not (t n)) (none_of t l) q) k (rw e at m))

-- ---- what is read is accepted, or refused by one of these numbers

abbrev decoding : ℕ → Bool
decoding n = leb n 8 || (leb 40 n && leb n 45)

in_list_lem : (n : ℕ) → n ≤ 45 → (not (decoding n) || (eqb n 0 || is_refusal n)) ≡ true
unfolding is_refusal
in_list_lem n h =
    by_cases (not (decoding n) || (eqb n 0 || is_refusal n)) (λ t. t)
    (λ f. never (sym (each_fails 46 (λ m. not (decoding m) || (eqb m 0 || is_refusal m)) n (omega arith) f)))

pub decoding_refusal : (o : List ℕ) → eqb (read_of o).number 0 ≡ false → is_refusal (read_of o).number ≡ true
decoding_refusal o q = rw q at (go (read_of o).number (refusal o))
  where
    go : (n : ℕ) → (n ≤ 8) ⊎ ((40 ≤ n) × (n ≤ 45)) → (eqb n 0 || is_refusal n) ≡ true
    go n (inl l) = rw (le-leb n 8 l) at (in_list_lem n (omega (arith, l)))
    go n (inr h) = rw (lt-leb n 8 (omega (arith, h.0)), le-leb 40 n h.0, le-leb n 45 h.1) at (in_list_lem n h.1)

-- so its number fits an octet
pub number_fits : (o : List ℕ) → (read_of o).number ≤ 255
unfolding is_refusal
number_fits o =
    by_number (read_of o).number 0 (λ e. omega arith)
    (λ e. leb-true _ _ (not-false _ (fails (λ k. not (leb k 255)) refusals refl (read_of o).number (decoding_refusal o e))))
