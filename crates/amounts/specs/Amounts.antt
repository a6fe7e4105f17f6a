-- When two amounts are equal.
use Rattle.std.specs.Prelude.{Bool, ◌&&◌, eqb}
use Rattle.types.specs.declared.Money.{Money}
use Rattle.types.specs.Thousandths.{thousandths}
use Rattle.amounts.specs.Currency.{equal_currency}

unfoldable pub equal_money : Money → Money → Bool
equal_money m n = eqb (thousandths m) (thousandths n) && equal_currency m.currency n.currency
