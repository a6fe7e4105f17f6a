-- An amount's value in thousandths: its number times the power of ten that its multiplier of 0 to 6 stands for.
use Rattle.std.specs.Prelude.{ℕ, ◌*◌, List, [], ◌∷◌, get_or}
use Rattle.types.specs.declared.Money.{Money}

abbrev pub powers : List ℕ
powers = 1 ∷ 10 ∷ 100 ∷ 1000 ∷ 10000 ∷ 100000 ∷ 1000000 ∷ []

abbrev pub thousandths : Money → ℕ
thousandths m = m.number * get_or powers m.multiplier 0
