use Rattle.std.proofs.Common.{ℕ, ◌≡◌, refl, sym, ◌∙◌, ap, arith}
use Rattle.account.specs.History.{phase, judged}
use Rattle.events.specs.inner.Prefix.{before}
use Rattle.plain_scans.proofs.Scans.{idle_more, setup_found, setup_none}
use Rattle.plain_scans.proofs.setup_before.Goals as goal

pub loop-i-init : goal.loop-i-init
unfolding before
loop-i-init c = λ o. refl

pub returns-then-passed-ne-IDLE : goal.returns-then-passed-ne-IDLE
returns-then-passed-ne-IDLE c =
    λ o. setup_found _ o c.loop-i.i (c.loop-i.invariant o) c.row_at-e.result c.row_at-e.ensures _ c.loop-i-test.true (λ z. c.if-passed-ne-IDLE.true (c.passed.ensures ∙ z))

pub loop-i-preserved : goal.loop-i-preserved
loop-i-preserved c = λ o. idle_more _ o c.loop-i.i (c.loop-i.invariant o) c.row_at-e.result c.row_at-e.ensures (sym c.passed.ensures ∙ c.if-passed-ne-IDLE.false)

pub returns : goal.returns
returns c =
    let x = c.args in
    let e : c.loop-i.i ≡ x.k = omega arith in
    λ o. setup_none x.rows.now o x.k (ap (λ (n : ℕ). phase (judged (before x.rows.now o n))) (sym e) ∙ c.loop-i.invariant o) c.bare_event.result (rw c.bare_event.ensures refl)
