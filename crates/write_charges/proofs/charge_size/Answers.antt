use Rattle.std.proofs.Common.{ap, sym, ◌∙◌, arith, length}
use Rattle.types.specs.{Arguments.charge_of, Stored.with_list}
use Rattle.write_figures.proofs.Plain.{unlisted_plain, unlisted_write}
use Rattle.write_rates.proofs.Listed.{rates_length}
use Rattle.write_charges.proofs.Charged.{figure_fine_lem, units_fine_lem, units_held, rates_held, rates_fine_lem, units_octets, rates_octets}
use Rattle.write_charges.proofs.charge_size.Goals as goal

pub units_size-requires-clause-n_bound : goal.units_size-requires-clause-n_bound
units_size-requires-clause-n_bound c =
    (units_held _ _ _ c.from-n.ensures (units_fine_lem _ c.requires.le_operation (with_list c.args.f c.args.numbers.now c.args.rows.now) c.requires.rows_value (omega arith))).0

pub units_size-requires-clause-n_value : goal.units_size-requires-clause-n_value
units_size-requires-clause-n_value c =
    (units_held _ _ _ c.from-n.ensures (units_fine_lem _ c.requires.le_operation (with_list c.args.f c.args.numbers.now c.args.rows.now) c.requires.rows_value (omega arith))).1

pub priced_size-requires : goal.priced_size-requires
priced_size-requires c =
    (figure_fine_lem _ c.requires.le_operation (with_list c.args.f c.args.numbers.now c.args.rows.now) c.requires.rows_value, omega (arith, c.units_size.ensures))

pub returns-then-f-eq-UNITS-clause-value : goal.returns-then-f-eq-UNITS-clause-value
returns-then-f-eq-UNITS-clause-value c =
    c.priced_size.ensures.by_index _ (sym (rw c.from-n.ensures at c.units_size.ensures.value))
    ∙ ap length (sym (units_octets _ c.requires.le_operation (with_list c.args.f c.args.numbers.now c.args.rows.now) c.requires.rows_value (omega arith)))

pub rates_size-requires-clause-n_bound : goal.rates_size-requires-clause-n_bound
rates_size-requires-clause-n_bound c =
    ((rates_held _ _ _ c.from-n.ensures (rates_fine_lem _ c.requires.le_operation (with_list c.args.f c.args.numbers.now c.args.rows.now) c.requires.rows_value (omega arith))).0, c.requires.rows_len)

pub rates_size-requires-clause-n_value : goal.rates_size-requires-clause-n_value
rates_size-requires-clause-n_value c =
    (rates_held _ _ _ c.from-n.ensures (rates_fine_lem _ c.requires.le_operation (with_list c.args.f c.args.numbers.now c.args.rows.now) c.requires.rows_value (omega arith))).1

pub returns-then-f-eq-RATES-clause-value : goal.returns-then-f-eq-RATES-clause-value
returns-then-f-eq-RATES-clause-value c =
    c.sized.ensures.by_index 0x30
    ∙ sym (
    ap length (rates_octets _ c.requires.le_operation (with_list c.args.f c.args.numbers.now c.args.rows.now) c.requires.rows_value (omega arith))
    ∙ rates_length _ c.args.f.count _ (rw c.from-n.ensures at c.rates_size.ensures.value)
    )

pub figure_size-requires-clause-f_value : goal.figure_size-requires-clause-f_value
figure_size-requires-clause-f_value c =
    let o = c.requires.le_operation in
    ap (charge_of c.args.operation).valid
    (unlisted_plain _ o.0 o.1 (with_list c.args.f c.args.numbers.now c.args.rows.now) c.if-f-eq-UNITS.false c.if-f-eq-RATES.false c.requires.rows_value)
    ∙ c.requires.rows_value

pub returns-clause-value : goal.returns-clause-value
returns-clause-value c =
    let o = c.requires.le_operation in
    c.figure_size.ensures.value
    ∙ ap length (sym (unlisted_write _ o.0 o.1 (with_list c.args.f c.args.numbers.now c.args.rows.now) c.if-f-eq-UNITS.false c.if-f-eq-RATES.false c.requires.rows_value))
