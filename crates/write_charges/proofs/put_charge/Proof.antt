use Rattle.prelude.proofs.Prelude.{ap, ◌∙◌, arith, rules, length}
use Rattle.types.specs.{declared.Charge.Charge, Arguments.charge_of, Stored.with_list}
use Rattle.write_figures.proofs.Plain.{unlisted_plain, unlisted_write}
use Rattle.coding.proofs.Writing.{room_as}
use Rattle.write_rate.proofs.Three.{named}
use Rattle.write_rates.proofs.Listed.{list_wider}
use Rattle.write_charges.proofs.{Charged.{figure_fine_lem, units_fine_lem, rates_fine_lem, units_octets, rates_octets}, put_charge.Statement.statement}
use Rattle.write_charges.proofs.put_charge.Tie as tie

abbrev held : tie.Start → Charge
held s = with_list s.args.f s.args.numbers.now s.args.rows.now

put-units-charge-requires : tie.Need-put_units_charge-requires
put-units-charge-requires c κs =
    let s = c.before.before.before.before in
    let v = s.requires.1.1 in
    let e = units_octets s.args.operation s.requires.0 (held s) v.0 (omega arith) in
    ((figure_fine_lem _ s.requires.0 (held s) v.0, units_fine_lem _ s.requires.0 (held s) v.0 (omega arith)), (omega (arith, v.1.0, ap length e), room_as v.1.1 e))

put-rates-charge-requires : tie.Need-put_rates_charge-requires
put-rates-charge-requires c κs =
    let s = c.before.before.before.before.before.before in
    let v = s.requires.1.1 in
    let e = rates_octets s.args.operation s.requires.0 (held s) v.0 (omega arith) in
    (s.requires.1.0, (list_wider _ _ (rates_fine_lem _ s.requires.0 (held s) v.0 (omega arith)), (omega (arith, v.1.0, ap length e), room_as v.1.1 e)))

put-figure-requires : tie.Need-put_figure-requires
put-figure-requires c κs =
    let c3 = c.before.before.before in
    let s = c3.before.before.before in
    let v = s.requires.1.1.0 in
    let k3 = c3.if-f-eq-UNITS.false in
    let k4 = c.before.if-f-eq-RATES.false in
    (s.requires.0, ((k3, k4), (ap (charge_of s.args.operation).valid (unlisted_plain _ s.requires.0.0 s.requires.0.1 (held s) k3 k4 v) ∙ v, search (named, unlisted_write))))

pub put_charge_spec : {M : Type 1} → statement M
put_charge_spec =
    tie.close
    (tie.spec put-units-charge-requires (λ c. search rules) (λ c. search (named, units_octets)) put-rates-charge-requires (λ c. search rules)
    (λ c. search (named, rates_octets)) put-figure-requires (λ c. search rules) (λ c. search (named, unlisted_write)))
