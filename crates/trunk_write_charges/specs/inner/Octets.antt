-- The octets of a trunk's charge, part by part.
use Rattle.std.specs.Prelude.{ℕ, ◌≤◌, ◌≡◌, true, cond, List, ◌++◌, eqb}
use Rattle.coding.specs.inner.Written.{lead}
use Rattle.types.specs.declared.Figure.{Figure}
use Rattle.types.specs.Charges.{money}
use Rattle.write_elements.specs.inner.Element.{element}
use Rattle.write_figures.specs.inner.Octets.{billing_octets}

-- 30 {A1 {81 currency, A2 amount}; optional 82 billing}
unfoldable pub priced_octets : Figure → List ℕ
priced_octets f = element 0x30 (element 0xa1 ((money true).write f.money) ++ billing_octets 0x82 f.billed f.billing)

-- 80 00 not available, 81 00 free, or a figure
unfoldable pub figure_octets : Figure → List ℕ
figure_octets f = cond (eqb f.kind 0) (lead 0x80 0) (cond (eqb f.kind 1) (lead 0x81 0) (priced_octets f))

-- what can be written so
abbrev pub Priced : Figure → Type 0
Priced f = ((money true).valid f.money ≡ true) × (f.billing ≤ 7)

abbrev pub Figured : Figure → Type 0
Figured f = (f.kind ≡ 0 → ⊥) → (f.kind ≡ 1 → ⊥) → Priced f
