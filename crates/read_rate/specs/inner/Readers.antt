-- What the readers of rates say of their answers.
use Rattle.std.specs.Prelude.{ℕ}
use Rattle.coding.specs.Reader.{Reader, choice, ◌>>=◌, pure}
use Rattle.types.specs.declared.Money.{Money}
use Rattle.types.specs.declared.Scaled.{Scaled}
use Rattle.types.specs.declared.Rate.{Rate}
use Rattle.types.specs.Charges.{scaled}
use Rattle.types.specs.Rates.{no_scaled}
use Rattle.read_rate.specs.declared.Step.{Step}

-- a value and the place after it, and no fault
abbrev pub accepted : {A : Type 0} → A → ℕ → ℕ × ℕ × A × ℕ
accepted v next = (0, 0, v, next)

abbrev pub no_step : Step
no_step = record { given = 0; time = no_scaled }

-- optional A5 time
unfoldable pub step_time : Reader Step
step_time = choice 0xa5 ((scaled 0xa5).read >>= (λ t. pure (record { given = 1; time = t }))) (pure no_step)

-- a rate of a kind but for its item
abbrev pub rated_as : ℕ → Money → ℕ → Scaled → Step → Rate
rated_as kind m detail t g = record {
  item = 0;
  kind = kind;
  detail = detail;
  stepped = g.given;
  scale = t.scale;
  stepscale = g.time.scale;
  multiplier = m.multiplier;
  currency = m.currency;
  number = m.number;
  time = t.number;
  step = g.time.number;
}
