-- No association is stored yet.
use Rattle.prelude.proofs.Prelude.{ℕ, ◌≡◌, refl, ◌∙◌, true, List, leb, leb-true, set, drop, replicate, length-set}
use Rattle.coding.specs.Reader.{part}
use Rattle.types.specs.Stored.{Blank}
use Rattle.types.proofs.Stored.{unassociated_stored, money_long, money_unassociated}
use Rattle.read_lists.specs.inner.Answers.{Clear}

pub blank_clear : {figure numbers octets : List ℕ} → Blank figure numbers octets → Clear figure
unfolding part
blank_clear b = rw b.figure_blank (refl, refl)

pub money_clear : (figure : List ℕ) → drop 16 figure ≡ replicate 32 0 → Clear figure
money_clear figure h = (money_long figure h, money_unassociated figure h)

pub stored_clear : (figure : List ℕ) (i x : ℕ) → leb 42 i ≡ true → Clear figure → Clear (set figure i x)
stored_clear figure i x h u = (length-set figure i x ∙ u.0, unassociated_stored figure i x (leb-true 42 i h) ∙ u.1)

pub ruleset clear = (blank_clear, money_clear, stored_clear)
