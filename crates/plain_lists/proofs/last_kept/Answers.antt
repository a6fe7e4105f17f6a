use Rattle.prelude.proofs.Prelude.{ℕ, ap, sym, ◌∙◌, true, false, arith, eqb, eq-eqb, ne_eqb}
use Rattle.outcomes.specs.Status.{place_of, place_or_none}
use Rattle.account.specs.History.{last}
use Rattle.plain_lists.proofs.Figures.{whole, last_step, nothing_left}
use Rattle.plain_lists.proofs.last_kept.Goals as goal

pub loop-i-init : goal.loop-i-init
loop-i-init c = whole c.args.rows.now c.args.octets.now (last (λ j. eqb (place_or_none (place_of j.outcome)) c.args.place))

pub returns-then-number_of-place : goal.returns-then-number_of-place
returns-then-number_of-place c =
    let x = c.args in
    c.charge_at.ensures
    ∙ sym (last_step x.rows.now x.octets.now (λ r. eqb (place_or_none (place_of r)) x.place) c.loop-i.i c.loop-i-test.true c.outcome_at-o.ensures true
    (ap (λ (n : ℕ). eqb n x.place) (sym c.number_of.ensures) ∙ eq-eqb _ x.place c.if-number_of-place.true))
    ∙ c.loop-i.invariant

pub loop-i-preserved : goal.loop-i-preserved
loop-i-preserved c =
    let x = c.args in
    sym (last_step x.rows.now x.octets.now (λ r. eqb (place_or_none (place_of r)) x.place) c.loop-i.i c.loop-i-test.true c.outcome_at-o.ensures false
    (ap (λ (n : ℕ). eqb n x.place) (sym c.number_of.ensures) ∙ ne_eqb _ x.place c.if-number_of-place.false))
    ∙ c.loop-i.invariant

pub returns : goal.returns
returns c =
    let x = c.args in
    c.no_charge.ensures ∙ sym (nothing_left x.rows.now x.octets.now (last (λ j. eqb (place_or_none (place_of j.outcome)) x.place)) c.loop-i.i c.loop-i-test.false) ∙ c.loop-i.invariant
