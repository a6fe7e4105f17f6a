-- An answer of one family with a record of zeros of the other is what the profile octet gives.
use Rattle.prelude.proofs.Prelude.{ℕ, ◌≡◌, sym, ◌∙◌, List, eq-eqb, ne_eqb}
use Rattle.coding.proofs.Basic.{picked, unpicked}
use Rattle.types.specs.{declared.Record.Record, declared.Answer.Answer, Frames.no_record, Frames.read_of}
use Rattle.trunk_types.specs.{declared.Trunk.Trunk, declared.TrunkAnswer.TrunkAnswer, Components.no_trunk, Components.read_trunk}
use Rattle.profile_read.specs.Profile.{Either, of_none, read_by}

pub by_none : (n : ℕ) {l : Record} {t : Trunk} → l ≡ no_record → t ≡ no_trunk → record { number = n; offset = 0; family = 0; line = l; trunk = t } ≡ of_none n
by_none n l t = λ k. record { number = n; offset = 0; family = 0; line = l k; trunk = t k }

-- a record of zeros in other parts
pub beside : {number offset family : ℕ} {l z : Record} {t : Trunk} {y : Either} → l ≡ z
    → record { number = number; offset = offset; family = family; line = z; trunk = t } ≡ y → record { number = number; offset = offset; family = family; line = l; trunk = t } ≡ y
beside {number} {offset} {family} {t = t} l e = (λ k. record { number = number; offset = offset; family = family; line = l k; trunk = t }) ∙ e

module _ (profile : ℕ) (s : List ℕ) where
  pub by_line : {a : Answer} {t : Trunk} → profile ≡ 0x91 → a ≡ read_of s → t ≡ no_trunk
      → record { number = a.number; offset = a.offset; family = 1; line = a.value; trunk = t } ≡ read_by profile s
  unfolding read_by
  by_line p a t = (λ k. record { number = (a k).number; offset = (a k).offset; family = 1; line = (a k).value; trunk = t k }) ∙ sym (picked _ _ (eq-eqb _ _ p))

  module _ (other : profile ≡ 0x91 → ⊥) where
    pub by_trunk : {l : Record} {a : TrunkAnswer} → profile ≡ 0x9f → l ≡ no_record → a ≡ read_trunk s
        → record { number = a.number; offset = a.offset; family = 2; line = l; trunk = a.value } ≡ read_by profile s
    unfolding read_by
    by_trunk p l a =
        (λ k. record { number = (a k).number; offset = (a k).offset; family = 2; line = l k; trunk = (a k).value })
        ∙ sym (unpicked _ _ (ne_eqb _ _ other) ∙ picked _ _ (eq-eqb _ _ p))

    pub by_neither : {l : Record} {t : Trunk} → (profile ≡ 0x9f → ⊥) → l ≡ no_record → t ≡ no_trunk
        → record { number = 17; offset = 0; family = 0; line = l; trunk = t } ≡ read_by profile s
    unfolding read_by
    by_neither n l t = by_none 17 l t ∙ sym (unpicked _ _ (ne_eqb _ _ other) ∙ unpicked _ _ (ne_eqb _ _ n))
