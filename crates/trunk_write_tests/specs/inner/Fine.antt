-- Which components of a trunk may be written, part by part: what the parts may be by the component's form.
use Rattle.std.specs.Prelude.{ℕ, Bool, true, not, ◌&&◌, ◌||◌, cond, List, length, get_or, take, ltb, leb, eqb}
use Rattle.coding.specs.Codec.{one_of, all, same_list, pad}
use Rattle.types.specs.declared.Association.{Association}
use Rattle.types.specs.declared.Figure.{Figure}
use Rattle.types.specs.declared.Charge.{Charge}
use Rattle.types.specs.Charges.{no_money, no_association, same_association, party_number, association, money}
use Rattle.types.specs.Entries.{no_entries}
use Rattle.types.specs.Arguments.{same_money, same_entries}
use Rattle.types.specs.Stored.{association_in}
use Rattle.write_tests.specs.inner.Fine.{unbilled, rates_fine}
use Rattle.write_heads.specs.inner.Fronts.{problem_fine}
use Rattle.trunk_types.specs.declared.Modes.{Modes}
use Rattle.trunk_types.specs.declared.Extension.{Extension}
use Rattle.trunk_types.specs.declared.Lead.{Lead}
use Rattle.trunk_types.specs.declared.Body.{Body}
use Rattle.trunk_types.specs.declared.Trunk.{Trunk}
use Rattle.trunk_types.specs.Extensions.{any_extension}
use Rattle.trunk_types.specs.Bodies.{no_modes, same_modes}
use Rattle.trunk_types.specs.Stored.{modes_in}
use Rattle.trunk_types.specs.Components.{trunk_operations, answerable, trunk_errors}

-- ---- the lead, by the frame

-- 16 bits
abbrev pub is_pattern : ℕ → Bool
is_pattern i = ltb i 0x10000

-- a reject: NULL has no identifier
abbrev pub called_by : Lead → Bool
called_by l = cond (eqb l.unnamed 1) (eqb 0 l.id) (eqb 0 l.unnamed && is_pattern l.id)

-- what a frame does not have is zero
unfoldable pub lead_fine : Lead → Bool
lead_fine l =
    cond (eqb l.frame 4) (eqb 0 l.error && (eqb 0 l.operation && called_by l))
    (eqb 0 l.unnamed && (eqb 0 l.problem
    && cond (eqb l.frame 3) (eqb 0 l.operation && (is_pattern l.id && one_of trunk_errors l.error))
    (eqb 0 l.error
    && cond (eqb l.frame 1) (is_pattern l.id && one_of trunk_operations l.operation)
    (cond (eqb l.frame 2) (is_pattern l.id && one_of answerable l.operation) (eqb 0 l.id && (eqb 0 l.operation && eqb l.frame 10))))))

-- ---- the form: 1 and 2 the results of 59 and 64, 3 an error, 8 the error 1008, 4 a reject, 10 a network facility extension; of an argument the operation

unfoldable pub form_of : Lead → ℕ
form_of l =
    cond (eqb l.frame 1) l.operation
    (cond (eqb l.frame 2) (cond (eqb l.operation 59) 1 2)
    (cond (eqb l.frame 3) (cond (eqb l.error 1008) 8 3) l.frame))

-- ---- the body, by the form

-- a mode, an option, a diversion or an entity; of a reject the value of its problem
unfoldable pub detail_fine : ℕ → ℕ → ℕ → Bool
detail_fine k p d =
    cond (eqb k 1) (leb d 6)
    (cond (eqb k 2) (leb d 2)
    (cond (eqb k 65) (leb d 3)
    (cond (eqb k 10) (leb d 1)
    (cond (eqb k 4) (problem_fine p d) (eqb 0 d)))))

unfoldable pub entity_fine : ℕ → ℕ → Bool
entity_fine k e = cond (eqb k 10) (leb e 1) (eqb 0 e)

-- 0 to 7 modes, each 0 to 6, and zeros after them
abbrev pub modes_of : Modes → List ℕ
modes_of m = take m.count m.places

unfoldable pub some_modes : Modes → Bool
some_modes m =
    (eqb (length (modes_of m)) m.count && same_list eqb (pad 7 0 (modes_of m)) m.places)
    && (leb (length (modes_of m)) 7 && all (λ n. leb n 6) (modes_of m))

unfoldable pub modes_fine : ℕ → Modes → Bool
modes_fine k m = cond (eqb k 59) (some_modes m) (same_modes no_modes m)

-- a number, or none
abbrev pub number_if : Association → Bool
number_if a = cond (eqb a.kind 0) (same_association no_association a) ((party_number true).valid a)

abbrev pub names : ℕ → Bool
names k = eqb k 64 || eqb k 65

-- the charged or diverting user, or the source address
unfoldable pub user_fine : ℕ → Association → Bool
user_fine k a = cond (names k) ((party_number true).valid a) (cond (eqb k 10) (number_if a) (same_association no_association a))

-- the association, or the destination address
unfoldable pub other_fine : ℕ → Association → Bool
other_fine k a = cond (eqb k 61 || names k) ((association true).valid a) (cond (eqb k 10) (number_if a) (same_association no_association a))

-- 0 not available or no charge, 1 free, 2 money, 4 rates
unfoldable pub kind_fine : ℕ → ℕ → Bool
kind_fine k n = eqb n 0 || ((leb n 2 && (eqb k 61 || eqb k 62)) || (eqb n 4 && eqb k 63))

-- a billing identification: 0, 2 to 7 in 61, 0 or 2 in 62
unfoldable pub is_billing : ℕ → ℕ → Bool
is_billing k n = leb n (cond (eqb k 61) 7 2) && not (eqb n 1)

-- money may have one
unfoldable pub billed_fine : ℕ → Figure → Bool
billed_fine k f = cond (eqb f.billed 1) (eqb f.kind 2 && is_billing k f.billing) (unbilled f)

-- the small fields
unfoldable pub marked_fine : ℕ → Figure → Bool
marked_fine k f = kind_fine k f.kind && ((eqb 0 f.total && eqb 0 f.arrangement) && billed_fine k f)

unfoldable pub amount_if : Figure → Bool
amount_if f = cond (eqb f.kind 2) ((money true).valid f.money) (same_money no_money f.money)

-- rates, or none
unfoldable pub list_if : Charge → Bool
list_if c =
    cond (eqb c.figure.kind 4) (rates_fine true c.entries c.figure.count) (eqb 0 c.figure.count && same_entries no_entries c.entries)

unfoldable pub charge_fits : ℕ → Charge → Bool
charge_fits k c = (marked_fine k c.figure && (amount_if c.figure && other_fine k c.figure.association)) && list_if c

-- none after another error, a reject and in a network facility extension; one after 1008
unfoldable pub most_extension : ℕ → ℕ
most_extension k = cond (leb 59 k || leb k 2) 2 (cond (eqb k 8) 1 0)

unfoldable pub extension_fine : ℕ → Extension → Bool
extension_fine k x = leb x.kind (most_extension k) && any_extension.valid x

-- all but the extension
unfoldable pub inner_fine : ℕ → ℕ → Body → Bool
inner_fine k p b =
    (detail_fine k p b.detail && entity_fine k b.entity) && (modes_fine k b.modes && (user_fine k b.user && charge_fits k b.charge))

unfoldable pub body_fine : ℕ → ℕ → Body → Bool
body_fine k p b = inner_fine k p b && extension_fine k b.extension

-- ---- the whole

-- what lies in the front beside the lead
unfoldable pub front_fits : ℕ → ℕ → List ℕ → Bool
front_fits k p front =
    detail_fine k p (get_or front 42 0) && (entity_fine k (get_or front 43 0) && (modes_fine k (modes_in front) && user_fine k (association_in front)))

unfoldable pub trunk_fine : Trunk → Bool
trunk_fine t = lead_fine t.lead && body_fine (form_of t.lead) t.lead.problem t.body
