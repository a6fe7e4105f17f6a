use Rattle.std.proofs.Common.{arith}
use Rattle.write_charges.proofs.Charged.{units_held, units_length, put_units_1, put_units_2, put_units_3, put_units_4}
use Rattle.write_charges.proofs.put_units_charge.Goals as goal

pub units_size-size-requires-clause-n_bound : goal.units_size-size-requires-clause-n_bound
units_size-size-requires-clause-n_bound c = (units_held _ _ _ c.from-n.ensures c.requires.f_value.1).0

pub units_size-size-requires-clause-n_value : goal.units_size-size-requires-clause-n_value
units_size-size-requires-clause-n_value c = (units_held _ _ _ c.from-n.ensures c.requires.f_value.1).1

pub put_before-p-requires-clause-f_value : goal.put_before-p-requires-clause-f_value
put_before-p-requires-clause-f_value c =
    (c.requires.f_value.0, omega (arith, c.requires.rows_len_bound, units_length c.args.operation c.args.f _ _ _ c.from-n.ensures c.units_size-size.ensures.value))

pub put_before-p-requires-clause-room : goal.put_before-p-requires-clause-room
put_before-p-requires-clause-room c = search put_units_1

pub put_units-q-requires-clause-n_bound : goal.put_units-q-requires-clause-n_bound
put_units-q-requires-clause-n_bound c = (units_held _ _ _ c.from-n.ensures c.requires.f_value.1).0

pub put_units-q-requires-clause-n_value : goal.put_units-q-requires-clause-n_value
put_units-q-requires-clause-n_value c = (units_held _ _ _ c.from-n.ensures c.requires.f_value.1).1

pub put_units-q-requires-clause-room : goal.put_units-q-requires-clause-room
put_units-q-requires-clause-room c = search put_units_2

pub put_after-requires : goal.put_after-requires
put_after-requires c = (c.requires.f_value.0, search put_units_3)

pub returns : goal.returns
returns c = search put_units_4
