use Rattle.std.proofs.Common.{ℕ, ◌≡◌, refl, ◌∙◌, ap, arith}
use Rattle.account.specs.History.{phase, judged}
use Rattle.events.specs.inner.Prefix.{before}
use Rattle.plain_scans.proofs.Histories.{phase_more}
use Rattle.plain_scans.proofs.phase_before.Goals as goal

pub loop-i-init : goal.loop-i-init
unfolding before
loop-i-init c = λ o. refl

pub loop-i-preserved : goal.loop-i-preserved
loop-i-preserved c = λ o. phase_more _ o c.loop-i.i c.loop-i.phase _ c.passed-phase.result (c.loop-i.invariant o) c.row_at-e.ensures c.passed-phase.ensures

pub returns : goal.returns
returns c = let e : c.loop-i.i ≡ c.args.k = omega arith in λ o. c.loop-i.invariant o ∙ ap (λ (n : ℕ). phase (judged (before c.args.rows.now o n))) e
