-- The arguments of operations 59 to 65 and the results of 59 and 64: one line for each element. Tags in hex.
use Rattle.std.specs.Prelude.{ℕ, List, Bool, true, not, ◌&&◌, length, take, replicate, eqb}
use Rattle.coding.specs.Codec.{Leaf, Run, prim, cons, pair, sort, any_more, canonical, same_list, pad, pick_run}
use Rattle.coding.specs.Leaves.{number, null_leaf, only}
use Rattle.types.specs.declared.Association.{Association}
use Rattle.types.specs.declared.Charge.{Charge}
use Rattle.types.specs.Charges.{no_association, same_association, of_kind, party_number, association, unassociated}
use Rattle.types.specs.Arguments.{no_charge, same_charge, is_kind, sign, in_money, settled, associated, with_association, rates}
use Rattle.trunk_types.specs.declared.Modes.{Modes}
use Rattle.trunk_types.specs.declared.Extension.{Extension}
use Rattle.trunk_types.specs.declared.Body.{Body}
use Rattle.trunk_types.specs.Extensions.{no_extension, same_extension, any_extension, some_extension}

-- ---- what is not there is zero

abbrev pub no_modes : Modes
no_modes = record { count = 0; places = replicate 7 0 }

abbrev pub same_modes : Modes → Modes → Bool
same_modes m n = eqb m.count n.count && same_list eqb m.places n.places

-- a body of six parts, in their order
abbrev pub body_by : ℕ → ℕ → Modes → Association → Extension → Charge → Body
body_by d e m u x c = record { detail = d; entity = e; modes = m; user = u; extension = x; charge = c }

abbrev pub no_body : Body
no_body = body_by 0 0 no_modes no_association no_extension no_charge

abbrev pub same_body : Body → Body → Bool
same_body a b =
    ((eqb a.detail b.detail && eqb a.entity b.entity) && (same_modes a.modes b.modes && same_association a.user b.user))
    && (same_extension a.extension b.extension && same_charge a.charge b.charge)

-- ---- 30 with something, and the extension that may follow it

abbrev pub with_extension : Extension → Body → Body
with_extension x b = body_by b.detail b.entity b.modes b.user x b.charge

unfoldable pub extended : Run Body → Run Body
extended f =
    cons 0x30 (canonical (λ p. with_extension p.1 p.0) (λ b. (with_extension no_extension b, b.extension)) same_body (pair f any_extension))

-- ---- 59: 30 with 0 to 7 of 0A mode 0 to 6; its result, and that of 64: 0A

abbrev pub asking_for : List ℕ → Body
asking_for xs = body_by 0 0 (record { count = length xs; places = pad 7 0 xs }) no_association no_extension no_charge

unfoldable pub modes : Run Body
modes = cons 0x30 (canonical asking_for (λ b. take b.modes.count b.modes.places) same_body (any_more 0x0a 7 (prim 0x0a (number 0 6))))

abbrev pub detailed : ℕ → Body
detailed n = body_by n 0 no_modes no_association no_extension no_charge

unfoldable pub detail : ℕ → Run Body
detail most = canonical detailed (λ b. b.detail) same_body (prim 0x0a (number 0 most))

-- ---- 60: 05 00, or the extension by itself

abbrev pub extending : Extension → Body
extending x = body_by 0 0 no_modes no_association x no_charge

unfoldable pub dummy : Run Body
dummy =
    sort 0x05 (λ b. eqb b.extension.kind 0) (canonical (λ u. no_body) (λ b. tt) same_body (prim 0x05 null_leaf))
    (canonical extending (λ b. b.extension) same_body some_extension)

-- ---- 61, 62: 80 00 not available, 81 00 free, or 30 {A1 {81 currency, A2 amount}; optional 82 billing}; for 61 the optional association

abbrev pub charging : Charge → Body
charging c = body_by 0 0 no_modes no_association no_extension c

unfoldable pub charged : Run Charge → Run Body
charged f = canonical charging (λ b. b.charge) same_body f

-- 0, 2, 3, 4, 5, 6 or 7 in 61; 0 or 2 in 62
unfoldable pub billings : ℕ → Leaf ℕ
billings most = only (λ k. not (eqb k 1)) (number 0 most)

unfoldable pub figures : ℕ → Run Charge
figures most = sort 0x80 (is_kind 0) (sign 0x80 0) (settled (billings most) (in_money true))

unfoldable pub final_charge : Run Body
final_charge = extended (charged (with_association true (figures 7)))

unfoldable pub interim : Run Body
interim = extended (charged (figures 2))

-- ---- 63: 05 00 not available, or 30 with 1 to 10 rates

unfoldable pub tariff : Run Body
tariff = extended (charged (sort 0x05 (is_kind 0) (sign 0x05 0) (rates true)))

-- the charge of 61, 62 or 63 by itself
unfoldable pub charge_for : ℕ → Run Charge
charge_for k =
    pick_run (eqb k 61) (with_association true (figures 7)) (pick_run (eqb k 62) (figures 2) (sort 0x05 (is_kind 0) (sign 0x05 0) (rates true)))

-- ---- 64: number, optional association; 65: the same and 0A diversion 0 to 3

abbrev pub naming : ℕ → ℕ → Association → Association → Body
naming d e u a = body_by d e no_modes u no_extension (associated a no_charge)

abbrev pub other_of : Body → Association
other_of b = b.charge.figure.association

unfoldable pub complete : Run Body
complete =
    extended (canonical (λ p. naming 0 0 p.0 p.1) (λ b. (b.user, other_of b)) same_body (pair (party_number true) (association true)))

unfoldable pub diverted : Run Body
diverted =
    extended (canonical (λ p. naming p.1.1 0 p.0 p.1.0) (λ b. (b.user, (other_of b, b.detail))) same_body
    (pair (party_number true) (pair (association true) (prim 0x0a (number 0 3)))))

-- ---- the network facility extension: 80 source entity 0 to 1; optional A1 with a number; 82 destination entity 0 to 1; optional A3 with a number

unfoldable pub address : ℕ → Run Association
address tag = sort tag (λ a. not (of_kind 0 a)) (cons tag (party_number true)) unassociated

unfoldable pub network : Run Body
network =
    canonical (λ p. naming p.0 p.1.1.0 p.1.0 p.1.1.1) (λ b. (b.detail, (b.user, (b.entity, other_of b)))) same_body
    (pair (prim 0x80 (number 0 1)) (pair (address 0xa1) (pair (prim 0x82 (number 0 1)) (address 0xa3))))

-- ---- by the operation

unfoldable pub argument_of : ℕ → Run Body
argument_of o =
    pick_run (eqb o 59) (extended modes)
    (pick_run (eqb o 60) dummy
    (pick_run (eqb o 61) final_charge
    (pick_run (eqb o 62) interim
    (pick_run (eqb o 63) tariff
    (pick_run (eqb o 64) complete diverted)))))

unfoldable pub result_of : ℕ → Run Body
result_of o = pick_run (eqb o 59) (extended (detail 6)) (extended (detail 2))
