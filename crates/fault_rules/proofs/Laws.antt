-- The refusals as the code tests for them: one test over the numbers, which is computed.
use Rattle.prelude.proofs.{Prelude.{ℕ, ◌<◌, ◌≡◌, refl, sym, Bool, true, false, not, ◌||◌, cond}, Ways.by_cases}
use Rattle.phases.proofs.Choice.{never}
use Rattle.octets.proofs.Each.{each_fails}
use Rattle.outcomes.specs.Outcome.{is_refusal}
use Rattle.events.specs.Earliest.{within}

abbrev tested : ℕ → Bool
tested n = within 1 n 8 || (within 40 n 45 || within 13 n 14)

abbrev alike : Bool → Bool → Bool
alike a b = cond a b (not b)

alike_same : (a b : Bool) → alike a b ≡ true → a ≡ b
alike_same true true q = refl
alike_same true false q = never q
alike_same false true q = never q
alike_same false false q = refl

pub refusal_tested : (n : ℕ) → n < 256 → tested n ≡ is_refusal n
unfolding is_refusal
refusal_tested n h =
    by_cases (alike (tested n) (is_refusal n)) (alike_same (tested n) (is_refusal n))
    (λ f. never (sym (each_fails 256 (λ m. alike (tested m) (is_refusal m)) n h f)))
