use Rattle.prelude.proofs.Prelude.{sym, ◌∙◌, ap, true, false}
use Rattle.types.specs.Charges.{flag}
use Rattle.outcomes.specs.Outcome.{its}
use Rattle.account.specs.History.{any}
use Rattle.plain_lists.proofs.Figures.{whole, any_step, nothing_left}
use Rattle.plain_lists.proofs.told.Goals as goal

pub loop-i-init : goal.loop-i-init
loop-i-init c = whole c.args.rows.now c.args.octets.now (any (λ j. its c.args.service c.args.number j.outcome))

pub returns-then-is_its : goal.returns-then-is_its
returns-then-is_its c =
    let x = c.args in
    ap flag (sym (any_step x.rows.now x.octets.now (its x.service x.number) c.loop-i.i c.loop-i-test.true c.outcome_at-o.ensures true
    (sym c.is_its.ensures ∙ c.if-is_its.true)) ∙ c.loop-i.invariant)

pub loop-i-preserved : goal.loop-i-preserved
loop-i-preserved c =
    let x = c.args in
    sym (any_step x.rows.now x.octets.now (its x.service x.number) c.loop-i.i c.loop-i-test.true c.outcome_at-o.ensures false (sym c.is_its.ensures ∙ c.if-is_its.false))
    ∙ c.loop-i.invariant

pub returns : goal.returns
returns c =
    let x = c.args in
    ap flag (sym (nothing_left x.rows.now x.octets.now (any (λ j. its x.service x.number j.outcome)) c.loop-i.i c.loop-i-test.false) ∙ c.loop-i.invariant)
