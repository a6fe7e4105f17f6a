-- The octets of a list of rates.
use Rattle.std.specs.Prelude.{ℕ, true, List}
use Rattle.coding.specs.Codec.{write_all}
use Rattle.types.specs.declared.Entries.{Entries}
use Rattle.types.specs.Rates.{rate, rate_list}
use Rattle.write_elements.specs.inner.Element.{element}

-- 30 with rates
abbrev pub rates_charge : Entries → ℕ → List ℕ
rates_charge e n = element 0x30 (write_all (rate true).write (rate_list e n))
