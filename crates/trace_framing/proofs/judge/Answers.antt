use Rattle.std.proofs.Common.{sym, ◌∙◌}
use Rattle.trace_framing.specs.Framing.{verdict_of}
use Rattle.trace_framing.proofs.Laws.{verdict_none, verdict_some}
use Rattle.trace_framing.proofs.judge.Goals as goal

pub returns-then-not-adds_up : goal.returns-then-not-adds_up
unfolding verdict_of
returns-then-not-adds_up c = sym (rw (sym c.adds_up.ensures ∙ c.if-not-adds_up.true))

pub returns-in-None : goal.returns-in-None
unfolding verdict_of
returns-in-None c = sym (rw (sym c.adds_up.ensures ∙ c.if-not-adds_up.false) (verdict_none _ c.in-None.ensures))

pub returns-in-Some : goal.returns-in-Some
unfolding verdict_of
returns-in-Some c = sym (rw (sym c.adds_up.ensures ∙ c.if-not-adds_up.false) (verdict_some _ _ c.in-Some.ensures))
