-- The laws of the arguments of operations 59 to 65, of the results of 59 and 64, and of the network facility extension.
use Rattle.prelude.proofs.Prelude.{ℕ, ◌<◌, ◌≡◌, refl, sym, ap, List, true, not, arith, take, eqb, eq-eqb, ne_eqb}
use Rattle.coding.{specs.Codec.Run, specs.Codec.is_tag, specs.Codec.apart, specs.Codec.one_of, specs.Codec.prim, specs.Codec.cons, specs.Codec.pair, specs.Codec.sort}
use Rattle.coding.{specs.Codec.over, specs.Codec.canonical, specs.Codec.nothing, proofs.Laws.LeafLaws, proofs.Laws.RunLaws}
use Rattle.coding.{proofs.Combine.prim_laws, proofs.Combine.cons_laws, proofs.Combine.pair_laws, proofs.Combine.any_laws, proofs.Number.number_laws, proofs.Only.only_laws}
use Rattle.coding.{proofs.Leaves.null_laws, proofs.Padded.Equal, proofs.Padded.eqb_equal, proofs.Padded.list_equal, proofs.Padded.pair_equal, proofs.Padded.via_equal}
use Rattle.types.specs.{declared.Charge.Charge, Charges.of_kind, Charges.planned, Charges.plain_party, Charges.party_number, Charges.party, Charges.identified}
use Rattle.types.specs.{Charges.association, Charges.unassociated, Arguments.sign, Arguments.in_money, Arguments.ending, Arguments.settled, Arguments.with_association, Arguments.rates}
use Rattle.types.proofs.{Chains.Known, Chains.From, Chains.weaken, Chains.made, Chains.held, Chains.chosen, Chains.parted, Chains.sorted, PartLaws.number_at, PartLaws.apart_none}
use Rattle.types.proofs.{PartLaws.pair_left, PartLaws.taken, PartLaws.association_equal, PartLaws.numbers, PartLaws.unassociateds, PartLaws.associations, ArgumentLaws.charge_equal}
use Rattle.types.proofs.{ArgumentLaws.kind_of, ArgumentLaws.Alone, ArgumentLaws.signs, ArgumentLaws.moneys, ArgumentLaws.settleds, ArgumentLaws.associateds, ArgumentLaws.all_rates}
use Rattle.trunk_types.specs.{declared.Extension.Extension, declared.Body.Body, Extensions.no_extension, Extensions.any_extension, Extensions.extension_at}
use Rattle.trunk_types.specs.{Extensions.unextended, Extensions.some_extension, Bodies.same_modes, Bodies.same_body, Bodies.body_by, Bodies.no_body, Bodies.with_extension, Bodies.extended, Bodies.asking_for}
use Rattle.trunk_types.specs.{Bodies.modes, Bodies.detailed, Bodies.detail, Bodies.extending, Bodies.dummy, Bodies.charging, Bodies.charged, Bodies.billings, Bodies.figures, Bodies.final_charge}
use Rattle.trunk_types.specs.{Bodies.interim, Bodies.tariff, Bodies.naming, Bodies.other_of, Bodies.complete, Bodies.diverted, Bodies.address, Bodies.network, Bodies.argument_of, Bodies.result_of}
use Rattle.trunk_types.proofs.ExtensionLaws.{extension_equal, some_extensions, extensions}

modes_equal : Equal same_modes
modes_equal = via_equal (λ m. (m.count, m.places)) (λ p. record { count = p.0; places = p.1 }) (λ m. refl) _ (pair_equal _ _ eqb_equal (list_equal eqb eqb_equal))

pub body_equal : Equal same_body
body_equal =
    via_equal (λ b. (((b.detail, b.entity), (b.modes, b.user)), (b.extension, b.charge)))
    (λ p. body_by p.0.0.0 p.0.0.1 p.0.1.0 p.0.1.1 p.1.0 p.1.1) (λ b. refl) _
    (pair_equal _ _ (pair_equal _ _ (pair_equal _ _ eqb_equal eqb_equal) (pair_equal _ _ modes_equal association_equal)) (pair_equal _ _ extension_equal charge_equal))

-- ---- 30 with something without an extension, and the extension that may follow it

abbrev Bare : Run Body → Type 0
Bare = Known (λ b. b.extension ≡ no_extension)

extendeds : {f : Run Body} → Bare f → apart any_extension.first f.avoid ≡ true → RunLaws (extended f)
unfolding extended
extendeds F ok =
    cons_laws _ _ (made {P = λ b. Unit {0}} body_equal (λ p. with_extension p.1 p.0) (λ b. (with_extension no_extension b, b.extension)) _
    (λ p v. ap (λ (x : Extension). (with_extension x p.0, p.1)) (sym (F.is p.0 (pair_left _ _ p v)))) (λ p v. tt)
    (pair_laws _ _ F.laws extensions.laws ok)).laws refl

-- ---- 59, its result and that of 64

all_modes : Bare modes
unfolding modes prim apart
all_modes =
    held _ (made body_equal asking_for (λ b. take b.modes.count b.modes.places) _ (λ xs v. taken 7 xs) (λ xs v. refl)
    (any_laws 0x0a _ (number_at _ _ _ (omega arith) refl) refl refl 7)) refl

details : (most : ℕ) → most < 0x80000000 → Bare (detail most)
unfolding detail
details most h = made body_equal detailed (λ b. b.detail) _ (λ n v. refl) (λ n v. refl) (number_at _ _ most h refl)

-- ---- 60

dummies : RunLaws dummy
unfolding dummy some_extension extension_at sort canonical over cons prim apart one_of
dummies =
    (parted {P = λ b. b.extension.kind ≡ 0} {Q = λ b. b.extension.kind ≡ 0 → ⊥} {R = λ b. Unit {0}} 0x05 (λ b. eqb b.extension.kind 0)
    (made body_equal (λ u. no_body) (λ b. tt) _ (λ u v. refl) (λ u v. refl) (prim_laws _ _ null_laws refl))
    (made body_equal extending (λ b. b.extension) _ (λ x v. refl) (λ x v. some_extensions.is x v) some_extensions.laws)
    (λ b h. (eq-eqb b.extension.kind 0 h, tt)) (λ b h. (ne_eqb b.extension.kind 0 h, tt)) refl refl refl).laws

-- ---- 61 to 63

chargeds : {f : Run Charge} → RunLaws f → Bare (charged f)
unfolding charged
chargeds F = made body_equal charging (λ b. b.charge) _ (λ c v. refl) (λ c v. refl) F

billing_laws : (most : ℕ) → most < 0x80000000 → LeafLaws (billings most)
unfolding billings
billing_laws most h = only_laws _ _ (number_laws _ most h)

all_figures : (most : ℕ) → most < 0x80000000 → From kind_of Alone 0 (figures most)
unfolding figures sign settled ending canonical over sort cons prim apart
all_figures most h =
    sorted _ _ 0x80 (weaken (λ c q. (q.0, q.1.1)) (signs 0x80 0 refl)) (settleds 2 (omega arith) (in_money true) (moneys true) (billings most) (billing_laws most h)) refl refl refl

-- after a figure anything may come
figures_end : (most : ℕ) (ts : List ℕ) → apart ts (figures most).avoid ≡ true
unfolding figures settled sort sign ending canonical over cons prim
figures_end most = apart_none

finals : RunLaws final_charge
unfolding final_charge charged with_association association identified party unassociated any_extension extension_at unextended sort canonical over pair cons prim nothing apart one_of figures settled sign ending
finals = extendeds (chargeds (associateds true (all_figures 7 (omega arith)) (figures_end 7 (association true).first)).laws) refl

interims : RunLaws interim
unfolding interim charged any_extension extension_at unextended sort canonical over cons prim nothing apart one_of figures settled sign ending
interims = extendeds (chargeds (all_figures 2 (omega arith)).laws) refl

tariffs : RunLaws tariff
unfolding tariff charged any_extension extension_at unextended sign rates sort canonical over cons prim nothing apart one_of
tariffs =
    extendeds (chargeds (sorted kind_of (λ c. Unit {0}) 0x05 (weaken (λ c h. (h.0, tt)) (signs 0x05 0 refl))
    (weaken (λ c h. (omega (arith, h.0), tt)) (all_rates true)) refl refl refl).laws) refl

-- ---- 64, 65

completes : RunLaws complete
unfolding complete party_number planned plain_party association identified party unassociated any_extension extension_at unextended sort canonical over pair cons prim nothing apart one_of
completes =
    extendeds (made body_equal (λ p. naming 0 0 p.0 p.1) (λ b. (b.user, other_of b)) _ (λ p v. refl) (λ p v. refl)
    (pair_laws _ _ (numbers true).laws (associations true).laws refl)) refl

diversions : RunLaws diverted
unfolding diverted party_number planned plain_party association identified party unassociated any_extension extension_at unextended sort canonical over pair cons prim nothing apart one_of
diversions =
    extendeds (made body_equal (λ p. naming p.1.1 0 p.0 p.1.0) (λ b. (b.user, (other_of b, b.detail))) _ (λ p v. refl) (λ p v. refl)
    (pair_laws _ _ (numbers true).laws (pair_laws _ _ (associations true).laws (number_at _ _ _ (omega arith) refl) refl) refl)) refl

-- ---- the network facility extension

addresses : (tag : ℕ) → is_tag tag ≡ true → RunLaws (address tag)
unfolding address unassociated canonical over nothing cons apart
addresses tag real =
    (parted {R = λ a. Unit {0}} tag (λ a. not (of_kind 0 a)) (held tag (numbers true) real) unassociateds (λ a h. (ap not (ne_eqb a.kind 0 (λ z. omega (arith, h, z))), tt))
    (λ a h. (ap not (eq-eqb a.kind 0 h), tt)) refl refl refl).laws

pub networks : RunLaws network
unfolding network address unassociated sort canonical over pair cons prim nothing apart one_of
networks =
    (made {P = λ b. Unit {0}} body_equal (λ p. naming p.0 p.1.1.0 p.1.0 p.1.1.1) (λ b. (b.detail, (b.user, (b.entity, other_of b)))) _ (λ p v. refl) (λ p v. tt)
    (pair_laws _ _ (number_at 0x80 0 1 (omega arith) refl)
    (pair_laws _ _ (addresses 0xa1 refl) (pair_laws _ _ (number_at 0x82 0 1 (omega arith) refl) (addresses 0xa3 refl) refl) refl) refl)).laws

-- ---- by the operation

pub argument_laws : (o : ℕ) → RunLaws (argument_of o)
unfolding argument_of modes any_extension extension_at unextended sort canonical over cons prim nothing apart one_of
argument_laws o =
    chosen RunLaws (eqb o 59) (λ e. extendeds all_modes refl) (λ e. chosen RunLaws (eqb o 60) (λ e. dummies) (λ e. chosen RunLaws (eqb o 61) (λ e. finals) (λ e.
    chosen RunLaws (eqb o 62) (λ e. interims) (λ e. chosen RunLaws (eqb o 63) (λ e. tariffs) (λ e. chosen RunLaws (eqb o 64) (λ e. completes) (λ e. diversions))))))

pub result_laws : (o : ℕ) → RunLaws (result_of o)
unfolding result_of detail any_extension extension_at unextended sort canonical over cons prim nothing apart one_of
result_laws o = chosen RunLaws (eqb o 59) (λ e. extendeds (details 6 (omega arith)) refl) (λ e. extendeds (details 2 (omega arith)) refl)
