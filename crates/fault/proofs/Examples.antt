-- Cases of request 11, run by the definition: one statement over one table.
use Rattle.prelude.proofs.Prelude.{ℕ, ◌/◌, ◌%◌, ◌≡◌, refl, ◌∙◌, ap, List, [], ◌∷◌, ◌++◌, map, reverse_aux, length, cond, ltb}
use Rattle.coding.specs.Reader.{after, tagged, neither, choice, extent, numbered_at, endless, marker, turn, searched, find_end, spanned, length_at, opened, blamed, closed, constructed}
use Rattle.coding.specs.Reader.{entered_any, part, mapped, narrowed, ruled, primitive, optional, entries, list_of}
use Rattle.coding.specs.Contents.{number_from, value_of, negative, shortest, natural, every, text, null}
use Rattle.coding.specs.Codec.{one_of, prim, cons, nothing, pair, alt, over, maybe, some_more, leaf_over, leads, barring, marked, sort, frames, shape, canonical, pad, padded}
use Rattle.coding.specs.{Leaves.{number, string, null_leaf, integer, identifier, listing, listed, only, given}, Rows.{rows, table}}
use Rattle.types.specs.Charges.{scaled, currency_leaf, currency, money, digits_leaf, identified, planned, party_number, plain_party, party, unassociated, association}
use Rattle.types.specs.{Entries.unit, Rates.{duration, flat_rate, volume, coded, plain_rate, price, rate}}
use Rattle.types.specs.Arguments.{sign, in_money, in_units, during, subtotals, ending, settled, with_association, finals, rates, arrangement, available, charge_of}
use Rattle.types.specs.Frames.{value, carrying, request, argument, invoke, return_result, failed, return_error, caller, problem, problems, reject, frame, component, read_whole, read_of}
use Rattle.amounts.specs.{Currency.trimmed, Currency.equal_currency, Amounts.equal_money}
use Rattle.same_final.specs.Same.{equal_units, same_of}
use Rattle.phases.specs.Phases.{Setup, Connect, Clear, Released, Suspend, Resume, allowed, leads_to, Given}
use Rattle.outcomes.specs.Outcome.{is_refusal, judge_record, judge}
use Rattle.account.{specs.declared.Account.Account, specs.declared.Stepped.Stepped, specs.History.Judged, specs.History.judged, specs.History.account_by, specs.History.fresh}
use Rattle.account.{specs.Step.change_of, specs.Step.stepped_of, proofs.Demand.step_stands, proofs.Examples.moves, proofs.Examples.says}
use Rattle.fault_rules.specs.declared.FaultAnswer.{FaultAnswer}
use Rattle.fault.specs.{Rules.{fault_in, fault_of}, inner.Going.judging}

abbrev pub shown : FaultAnswer → ℕ × ℕ × ℕ
shown v = (v.number, v.rule, v.event)

-- ---- components, as their octets

abbrev element : ℕ → List ℕ → List ℕ
element tag o = tag ∷ length o ∷ o

-- an invoke with identifier 1
abbrev invoking : ℕ → List ℕ → List ℕ
invoking operation argument = element 0xa1 (0x02 ∷ 0x01 ∷ 0x01 ∷ 0x02 ∷ 0x01 ∷ operation ∷ argument)

-- an amount: a currency, a number below 32,768, multiplier 1
abbrev amount : List ℕ → ℕ → List ℕ
amount currency n =
    element 0xa1 (element 0x81 currency ++ element 0xa2 (element 0x81 (cond (ltb n 128) (n ∷ []) (n / 256 ∷ n % 256 ∷ [])) ++ element 0x82 (0x01 ∷ [])))

-- of D: a subtotal (0) or a total (1) in currency, a subtotal in units, a free mark
abbrev d_money : ℕ → List ℕ → ℕ → Given
d_money total currency n = says (invoking 0x21 (element 0x30 (amount currency n ++ element 0x82 (total ∷ []))))

abbrev d_units : List ℕ → Given
d_units entries = says (invoking 0x22 (element 0x30 (element 0xa1 entries ++ element 0x82 (0x00 ∷ []))))

abbrev d_free : Given
d_free = says (invoking 0x21 (0x81 ∷ 0x00 ∷ []))

-- an entry of units, and one that is not available
abbrev some_units : ℕ → List ℕ
some_units n = element 0x30 (element 0x02 (n ∷ []))

abbrev no_units_lem : List ℕ
no_units_lem = element 0x30 (0x05 ∷ 0x00 ∷ [])

abbrev eur : List ℕ
eur = 0x45 ∷ 0x55 ∷ 0x52 ∷ []

-- with a space more
abbrev spaced : List ℕ
spaced = eur ++ (0x20 ∷ [])

abbrev dm : List ℕ
dm = 0x44 ∷ 0x4d ∷ []

-- ---- lists of events, each with the number, rule and event of its answer: all rules kept, an event refused, and each rule broken

abbrev Case : Type 0
Case = List Given × (ℕ × ℕ × ℕ)

unfoldable pub cases : List Case
cases = (
  moves Setup ∷ moves Connect ∷ d_money 0 eur 500 ∷ d_money 0 spaced 500 ∷ moves Clear ∷ d_money 1 eur 700 ∷ d_money 1 spaced 700
      ∷ moves Released ∷ [],
  (0, 0, 0),
)
    ∷ (moves Setup ∷ moves Connect ∷ d_money 1 eur 500 ∷ says (0xa1 ∷ []) ∷ moves Clear ∷ [], (34, 0, 4))
    ∷ (moves Setup ∷ moves Connect ∷ d_money 0 eur 500 ∷ moves Suspend ∷ d_money 0 eur 600 ∷ moves Resume ∷ moves Clear ∷ moves Released ∷ [], (0, 1, 5))
    ∷ (moves Setup ∷ moves Connect ∷ d_money 0 eur 5 ∷ d_money 0 dm 3 ∷ d_money 0 eur 5 ∷ d_money 0 dm 4 ∷ moves Clear ∷ d_money 1 dm 3 ∷ [], (0, 2, 8))
    ∷ (
      moves Setup ∷ d_free ∷ moves Connect ∷ d_money 0 eur 0 ∷ d_units (some_units 0 ++ no_units_lem) ∷ d_units no_units_lem
          ∷ d_units (some_units 0 ++ some_units 1) ∷ [],
      (0, 3, 7),
    )
    ∷ (moves Setup ∷ moves Connect ∷ d_money 0 eur 500 ∷ moves Clear ∷ d_money 1 eur 600 ∷ d_money 1 eur 400 ∷ [], (0, 4, 6))
    ∷ []

abbrev answered : Case → Case
answered c = (c.0, shown (fault_of c.0))

-- an account goes along, so that what came before is judged once
abbrev ran : Account → List Judged → List Given → List Judged
ran a h [] = h
ran a h (g ∷ l) = ran (stepped_of a g.event g.octets).account (judging g.event g.octets (stepped_of a g.event g.octets).outcome ∷ h) l

ran_stands : (h l : List Given) → ran (account_by (judged h)) (judged h) l ≡ judged (reverse_aux l h)
ran_stands h [] = refl
ran_stands h (g ∷ l) = ap (λ (w : Stepped). ran w.account (judging g.event g.octets w.outcome ∷ judged h) l) (step_stands h g) ∙ ran_stands (g ∷ h) l

abbrev ran_case : Case → Case
ran_case c = (c.0, shown (fault_in (ran fresh [] c.0)))

ran_right : map ran_case cases ≡ cases
unfolding cases fault_in is_refusal allowed leads_to change_of stepped_of judge judge_record same_of equal_money equal_currency trimmed equal_units after tagged neither choice
    extent numbered_at endless marker turn searched find_end spanned length_at opened blamed closed constructed entered_any part mapped narrowed ruled primitive optional
    entries list_of number_from value_of negative shortest natural every text null one_of prim cons nothing pair alt over maybe some_more leaf_over leads barring marked
    sort frames shape canonical pad padded number string null_leaf integer identifier listing listed only given rows table scaled currency_leaf currency money
    digits_leaf identified planned party_number plain_party party unassociated association unit duration flat_rate volume coded plain_rate price rate sign in_money in_units during
    subtotals ending settled with_association finals rates arrangement available charge_of value carrying request argument invoke return_result failed return_error caller problem
    problems reject frame component read_whole read_of
ran_right = refl

each_ran : (cs : List Case) → map answered cs ≡ map ran_case cs
unfolding fault_of
each_ran [] = refl
each_ran (c ∷ cs) = rw (ran_stands [] c.0) (ap (λ (x : List Case). answered c ∷ x) (each_ran cs))

pub cases_right : map answered cases ≡ cases
cases_right = each_ran cases ∙ ran_right
