use Rattle.std.proofs.Common.{true}
use Rattle.write_rates.proofs.Listed.{rates_valid, put_rates_3}
use Rattle.write_rates.proofs.put_rates_charge.Goals as goal

pub rates_size-size-requires-clause-n_bound : goal.rates_size-size-requires-clause-n_bound
rates_size-size-requires-clause-n_bound c = rw c.from-n.ensures ((rates_valid true _ _ c.requires.count_value).0, c.requires.rows_len)

pub rates_size-size-requires-clause-n_value : goal.rates_size-size-requires-clause-n_value
rates_size-size-requires-clause-n_value c = rw c.from-n.ensures ((rates_valid true _ _ c.requires.count_value).1)

pub put_rates-requires-clause-n_bound : goal.put_rates-requires-clause-n_bound
put_rates-requires-clause-n_bound c = rw c.from-n.ensures ((rates_valid true _ _ c.requires.count_value).0, c.requires.rows_len)

pub put_rates-requires-clause-n_value : goal.put_rates-requires-clause-n_value
put_rates-requires-clause-n_value c = rw c.from-n.ensures ((rates_valid true _ _ c.requires.count_value).1)

pub returns : goal.returns
returns c =
    put_rates_3 _ c.args.count _ (rw c.from-n.ensures at c.rates_size-size.ensures.value) c.put_lead-p.ensures (rw c.from-n.ensures at c.put_rates.ensures)
