-- Going back over the list: what an event leaves as the last counted amount of D in a currency, and the short way to it.
use Rattle.std.specs.Prelude.{ℕ, List, [], ◌∷◌, Bool, not, ◌&&◌, cond, eqb}
use Rattle.types.specs.declared.Currency.{Currency}
use Rattle.types.specs.declared.Money.{Money}
use Rattle.types.specs.Charges.{flag, no_money}
use Rattle.phases.specs.declared.Event.{Event}
use Rattle.phases.specs.declared.Outcome.{Outcome}
use Rattle.amounts.specs.Currency.{equal_currency}
use Rattle.types.specs.Thousandths.{thousandths}
use Rattle.account.specs.History.{Judged, any, last, account_by}
use Rattle.account.specs.Step.{stepped_of}
use Rattle.fault_rules.specs.inner.Breaking.{money_by}
use Rattle.fault.specs.declared.Last.{Last}
use Rattle.fault.specs.declared.Latest.{Latest}
use Rattle.fault.specs.declared.State.{State}
use Rattle.fault.specs.Rules.{charge_by, is_d, is_counted_money}

abbrev pub judging : Event → List ℕ → Outcome → Judged
judging e o r = record { event = e; octets = o; outcome = r }

abbrev pub no_last : Last
no_last = record { found = 0; amount = 0 }

abbrev pub last_next : Last → Currency → Judged → Last
last_next l c j =
    cond (is_counted_money j && equal_currency (charge_by j).figure.money.currency c) (record { found = 1; amount = thousandths (charge_by j).figure.money }) l

abbrev pub last_by : Currency → List Judged → Last
last_by c [] = no_last
last_by c (j ∷ h) = last_next (last_by c h) c j

unfoldable pub turn_of : State → Currency → Event → List ℕ → State
turn_of t c e o = record { account = (stepped_of t.account e o).account; last = last_next t.last c (judging e o (stepped_of t.account e o).outcome) }

abbrev pub state_by : Currency → List Judged → State
state_by c h = record { account = account_by h; last = last_by c h }

-- ---- the short way: the latest counted amount of all decides where its currency is equal, the latest in another currency where that one is, and nothing is found
-- where there is none

abbrev pub latest_next : Latest → Bool → ℕ → Money → Outcome → Latest
latest_next l d kind m r = cond (money_by d kind r) (record { found = 1; money = m }) l

abbrev pub latest_by : List Judged → Latest
latest_by h = record { found = flag (any is_counted_money h); money = (last is_counted_money h).figure.money }

-- the latest becomes the other where an amount in a currency that is not equal follows it
abbrev pub other_next : Latest → Latest → Bool → ℕ → Money → Outcome → Latest
other_next x l d kind m r = cond (money_by d kind r && (eqb l.found 1 && not (equal_currency l.money.currency m.currency))) l x

abbrev pub other_by : List Judged → Latest
other_by [] = record { found = 0; money = no_money }
other_by (j ∷ h) = other_next (other_by h) (latest_by h) (is_d j) (charge_by j).figure.kind (charge_by j).figure.money j.outcome

-- by one of the two, or by what is left where its currency is not equal
abbrev pub decided_by : Latest → Currency → Last → Last
decided_by l c rest =
    cond (eqb l.found 1) (cond (equal_currency l.money.currency c) (record { found = 1; amount = thousandths l.money }) rest) no_last

abbrev pub short_by : Latest → Latest → Currency → List Judged → Last
short_by l x c h = decided_by l c (decided_by x c (last_by c h))
