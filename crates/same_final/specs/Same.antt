-- When two finals are the same: both free; or equal currencies and thousandths; or equal unit lists, entry by entry.
-- Billing and association are not compared.
use Rattle.std.specs.Prelude.{ℕ, Bool, true, ◌&&◌, cond, eqb, leb}
use Rattle.types.specs.Entries.{unit_at, same_units}
use Rattle.types.specs.declared.Entries.{Entries}
use Rattle.types.specs.declared.Charge.{Charge}
use Rattle.octets.specs.Each.{each}
use Rattle.amounts.specs.Amounts.{equal_money}

-- how many places a count uses, of those there are
abbrev pub up_to : ℕ → ℕ → ℕ
up_to most n = cond (leb n most) n most

-- equal entries over a count
unfoldable pub equal_units : Entries → Entries → ℕ → Bool
equal_units e f n = each (up_to 32 n) (λ i. same_units (unit_at e i) (unit_at f i))

-- kinds: 1 free, 2 money, 3 units
unfoldable pub same_of : Charge → Charge → Bool
same_of a b =
    eqb a.figure.kind b.figure.kind
    && cond (eqb a.figure.kind 1) true
    (cond (eqb a.figure.kind 2) (equal_money a.figure.money b.figure.money)
    (eqb a.figure.kind 3 && (eqb a.figure.count b.figure.count && equal_units a.entries b.entries a.figure.count)))
