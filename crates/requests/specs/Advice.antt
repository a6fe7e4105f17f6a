-- The services' numbers.
use Rattle.std.specs.Prelude.{ℕ, Option, Some, None}
use Rattle.requests.specs.declared.Advice.{Advice}
use Rattle.requests.specs.declared.Advice.TheVariants.{S, D, E}

abbrev pub service_number : Advice → ℕ
service_number S = 1
service_number D = 2
service_number E = 3

-- no service has 0
abbrev pub number_or_none : Option Advice → ℕ
number_or_none None = 0
number_or_none (Some s) = service_number s
