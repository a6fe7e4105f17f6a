-- What a true test says, and proofs by a test.
use Rattle.prelude.proofs.Prelude.{◌≡◌, refl, sym, Bool, true, false, ◌&&◌, cond, true≢false, ◌↔◌, ◌⊎◌, inl, inr}
use Rattle.coding.specs.Codec.{either}
use Rattle.coding.proofs.Basic.{and_left, and_right, and_both}

pub and_iff : (a b : Bool) → (a && b ≡ true) ↔ ((a ≡ true) × (b ≡ true))
and_iff a b = (λ h. (and_left a b h, and_right a b h), λ p. and_both a b p.0 p.1)

pub cond_iff : (b x y : Bool) → (cond b x y ≡ true) ↔ (((b ≡ true) × (x ≡ true)) ⊎ ((b ≡ false) × (y ≡ true)))
cond_iff true x y = (λ h. inl (refl, h), either (λ p. p.1) (λ p. absurd (true≢false p.0)))
cond_iff false x y = (λ h. inr (refl, h), either (λ p. absurd (true≢false (sym p.0))) (λ p. p.1))

pub ruleset holds = (and_iff, cond_iff)

pub cases : {A B P : Type 0} → A ⊎ B → (A → P) → (B → P) → P
cases s f g = either f g s
