use Rattle.prelude.proofs.Prelude.{ap, sym, ◌∙◌, ◌≡◌, true, arith, length}
use Rattle.coding.proofs.Small.{null_length}
use Rattle.trunk_types.specs.Stored.{lent_charge}
use Rattle.write_tests.specs.inner.Fine.{rates_fine}
use Rattle.write_rates.proofs.Listed.{rates_valid, rates_length}
use Rattle.trunk_write_charges.proofs.Charges.{final_figured, final_association, interim_figured, none_octets, tariff_fine, tariff_octets}
use Rattle.trunk_write_charges.proofs.charge_size.Goals as goal

pub figure_size-requires : goal.figure_size-requires
figure_size-requires c = final_figured _ _ c.figure_of-f.ensures c.requires c.if-form-eq-FINAL.true

pub association_size-requires : goal.association_size-requires
association_size-requires c = final_association _ _ c.figure_of-f.ensures c.requires c.if-form-eq-FINAL.true

pub figure_size-requires-then-form-eq-INTERIM : goal.figure_size-requires-then-form-eq-INTERIM
figure_size-requires-then-form-eq-INTERIM c = interim_figured _ _ c.figure_of-f.ensures c.requires c.if-form-eq-FINAL.false c.if-form-eq-INTERIM.true

-- the rates, which any other form has
fine : (c : goal.Else-f-eq-NONE) → rates_fine true (lent_charge c.args.parts.now).entries c.from-n.result ≡ true
fine c = rw c.from-n.ensures (tariff_fine _ _ c.figure_of-f.ensures c.requires c.if-form-eq-FINAL.false c.if-form-eq-INTERIM.false c.if-f-eq-NONE.false)

pub rates_size-requires-clause-n_bound : goal.rates_size-requires-clause-n_bound
rates_size-requires-clause-n_bound c = ((rates_valid true _ _ (fine c)).0, omega arith)

pub rates_size-requires-clause-n_value : goal.rates_size-requires-clause-n_value
rates_size-requires-clause-n_value c = (rates_valid true _ _ (fine c)).1

pub returns-then-f-eq-NONE-clause-value : goal.returns-then-f-eq-NONE-clause-value
returns-then-f-eq-NONE-clause-value c =
    sym (ap length (none_octets _ _ c.figure_of-f.ensures c.if-form-eq-FINAL.false c.if-form-eq-INTERIM.false c.if-f-eq-NONE.true) ∙ null_length 0x05)

pub returns-clause-value : goal.returns-clause-value
returns-clause-value c =
    let e = tariff_octets _ (lent_charge c.args.parts.now) c.figure_of-f.ensures c.if-form-eq-FINAL.false c.if-form-eq-INTERIM.false c.if-f-eq-NONE.false in
    c.sized.ensures.by_index 0x30 ∙ sym (ap length e ∙ rates_length _ _ c.rates_size.result (rw c.from-n.ensures at c.rates_size.ensures.value))
