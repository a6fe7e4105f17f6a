-- What the readers of lists and of charges say of their answers.
use Rattle.std.specs.Prelude.{ℕ, ◌≡◌, List, Bool, length}
use Rattle.read_elements.specs.declared.Empty.{Empty}
use Rattle.coding.specs.Reader.{Reader, list_of, ◌>>=◌, pure}
use Rattle.types.specs.declared.Charge.{Charge}
use Rattle.types.specs.Rates.{rate, rate_rows}
use Rattle.types.specs.Arguments.{no_charge, list_figure}
use Rattle.types.specs.Stored.{stored_charge, stored}
use Rattle.read_figures.specs.inner.Beside.{Unassociated}

-- what was read: where it ended in an answer, and the charge in the caller's parts
abbrev pub whole : Empty → List ℕ → List ℕ → List ℕ → ℕ × ℕ × Charge × ℕ
whole r figure numbers octets = (r.fault, r.place, stored no_charge r.fault (stored_charge figure numbers octets), r.next)

-- a figure's 48 octets, none of an association stored yet
abbrev pub Clear : List ℕ → Type 0
Clear figure = (length figure ≡ 48) × Unassociated figure

-- 1 to 10 rates
unfoldable pub in_rates : Bool → Reader Charge
in_rates trunk = list_of 0x30 10 (rate trunk).read >>= (λ xs. pure (record { figure = list_figure 4 (length xs); entries = rate_rows xs }))
