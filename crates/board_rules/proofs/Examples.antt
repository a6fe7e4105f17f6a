-- Cases of request 13, run by the table's definition: one statement over one table.
use Rattle.prelude.proofs.Prelude.{ℕ, zero, suc, ◌≡◌, refl, List, [], ◌∷◌, ◌++◌, map, replicate}
use Rattle.coding.specs.Reader.{after, tagged, neither, choice, extent, numbered_at, endless, marker, turn, searched, find_end, spanned, length_at, opened, blamed, closed, constructed}
use Rattle.coding.specs.Reader.{entered_any, part, mapped, narrowed, ruled, primitive, optional, entries, list_of}
use Rattle.coding.specs.Contents.{number_from, value_of, negative, shortest, natural, every, text, null}
use Rattle.coding.specs.Codec.{one_of, prim, cons, nothing, pair, alt, over, maybe, some_more, leaf_over, leads, barring, marked, sort, frames, shape, canonical, pad, padded}
use Rattle.coding.specs.{Leaves.{number, string, null_leaf, integer, identifier, listing, listed, only, given}, Rows.{rows, table}}
use Rattle.types.specs.Charges.{scaled, currency_leaf, currency, money, digits_leaf, identified, planned, party_number, plain_party, party, unassociated, association}
use Rattle.types.specs.{Entries.unit, Rates.{duration, flat_rate, volume, coded, plain_rate, price, rate}}
use Rattle.types.specs.Arguments.{sign, in_money, in_units, during, subtotals, ending, settled, with_association, finals, rates, arrangement, available, charge_of}
use Rattle.types.specs.Frames.{value, carrying, request, argument, invoke, return_result, failed, return_error, caller, problem, problems, reject, frame, component, read_whole, read_of}
use Rattle.amounts.specs.{Currency.trimmed, Currency.equal_currency, Amounts.equal_money}
use Rattle.same_final.specs.Same.{equal_units, same_of}
use Rattle.outcomes.specs.Outcome.{judge_record, judge}
use Rattle.phases.specs.Phases.{Setup, Connect, Clear, Released, allowed, leads_to, Given, event}
use Rattle.account.{specs.Step.change_of, specs.Step.stepped_of, proofs.Examples.moves, proofs.Examples.says}
use Rattle.board_rules.specs.Board.{lowest, held_in, fresh_board, event_on, collect_on}
use Rattle.board_rules.specs.Calls.{Operation, happens, collects, Answer, outcome, collected, viewed, Done, run_on}

-- a Setup that names two requests with one identifier
abbrev pub clashing : Given
clashing = event (record { kind = Setup; asked = record { s = 1; d = 1; e = 0 }; s = 1; d = 1; e = 0 }) []

-- D amounts, a subtotal or a total
abbrev amount : ℕ → ℕ → Given
amount n total = says (0xa1 ∷ 0x1a ∷ 0x02 ∷ 0x01 ∷ 0x01 ∷ 0x02 ∷ 0x01 ∷ 0x21 ∷ 0x30 ∷ 0x12 ∷ 0xa1 ∷ 0x0d ∷ 0x81 ∷ 0x03 ∷ 0x45 ∷ 0x55 ∷ 0x52 ∷ 0xa2 ∷ 0x06 ∷ 0x81 ∷ 0x01 ∷ n
    ∷ 0x82 ∷ 0x01 ∷ 0x00 ∷ 0x82 ∷ 0x01 ∷ total ∷ [])

-- Setups of the references from n on down to 1, the last first
abbrev pub setups : ℕ → List Operation → List Operation
setups zero l = l
setups (suc n) l = setups n (happens (suc n) (moves Setup) ∷ l)

-- an answer: its number, and of a collection the closing figure's service and its amount
abbrev pub told : Answer → ℕ × ℕ × ℕ
told (outcome o) = (o.number, 0, 0)
told (collected c) = (c.number, c.closing.service, c.closing.value.figure.money.number)
told (viewed v) = (v.number, 0, 0)

abbrev pub answered : List Operation → List (ℕ × ℕ × ℕ)
answered l = map (λ (d : Done). told d.answer) (run_on fresh_board l)

abbrev pub n : ℕ → ℕ × ℕ × ℕ
n k = (k, 0, 0)

-- ---- how many Setups come first, each answered 0; the operations, and their answers: a reference not held, or in use; a Setup refused; collections;
-- two calls by turns; a full table

abbrev Case : Type 0
Case = ℕ × (List Operation × List (ℕ × ℕ × ℕ))

abbrev after_setups : ℕ → List Operation → List (ℕ × ℕ × ℕ) → Case
after_setups first l answers = (first, (l, answers))

unfoldable pub cases : List Case
cases =
    after_setups 0 (happens 7 (moves Connect) ∷ collects 7 ∷ []) (n 37 ∷ n 37 ∷ [])
    ∷ after_setups 0 (happens 7 (moves Setup) ∷ happens 7 (moves Setup) ∷ happens 7 clashing ∷ happens 8 (moves Setup) ∷ []) (n 0 ∷ n 35 ∷ n 35 ∷ n 0 ∷ [])
    ∷ after_setups 0 (happens 7 clashing ∷ happens 7 (moves Connect) ∷ happens 7 (moves Setup) ∷ []) (n 13 ∷ n 37 ∷ n 0 ∷ [])
    ∷ after_setups 0 (happens 7 (moves Setup) ∷ collects 7 ∷ happens 7 (moves Clear) ∷ collects 7 ∷ happens 7 (moves Released) ∷ collects 7 ∷ collects 7 ∷ [])
    (n 0 ∷ n 14 ∷ n 0 ∷ n 14 ∷ n 0 ∷ n 0 ∷ n 37 ∷ [])
    ∷ after_setups 0 (happens 7 (moves Setup) ∷ happens 8 (moves Setup) ∷ happens 7 (moves Clear) ∷ happens 8 (moves Connect)
    ∷ happens 8 (amount 5 0) ∷ happens 7 (amount 9 1)
    ∷ happens 8 (moves Clear) ∷ happens 7 (moves Released) ∷ happens 8 (moves Released) ∷ collects 8 ∷ collects 7 ∷ [])
    (n 0 ∷ n 0 ∷ n 0 ∷ n 0 ∷ n 21 ∷ n 22 ∷ n 0 ∷ n 0 ∷ n 0 ∷ n 0 ∷ (0, 2, 9) ∷ [])
    ∷ after_setups 64 (happens 5 (moves Clear) ∷ happens 5 (moves Released) ∷ happens 65 (moves Setup) ∷ collects 5 ∷ happens 65 (moves Setup)
    ∷ happens 66 (moves Setup) ∷ [])
    (n 0 ∷ n 0 ∷ n 36 ∷ n 0 ∷ n 0 ∷ n 36 ∷ [])
    ∷ []

pub cases_right : map (λ (c : Case). answered (setups c.0 c.1.0)) cases ≡ map (λ (c : Case). replicate c.0 (n 0) ++ c.1.1) cases
unfolding cases allowed leads_to change_of stepped_of judge judge_record same_of equal_money equal_currency trimmed equal_units after tagged neither
    choice extent numbered_at endless marker turn searched find_end spanned length_at opened blamed closed constructed entered_any part mapped narrowed ruled primitive
    optional entries list_of number_from value_of negative shortest natural every text null one_of prim cons nothing pair alt over maybe some_more leaf_over leads barring
    marked sort frames shape canonical pad padded number string null_leaf integer identifier listing listed only given rows table scaled currency_leaf currency money
    digits_leaf identified planned party_number plain_party party unassociated association unit duration flat_rate volume coded plain_rate price rate sign in_money in_units during
    subtotals ending settled with_association finals rates arrangement available charge_of value carrying request argument invoke return_result failed return_error caller problem
    problems reject frame component read_whole read_of lowest held_in event_on collect_on
cases_right = refl
