use Rattle.std.proofs.Common.{◌≡◌, true, ◌||◌, sym, ◌∙◌, eqb}
use Rattle.prelude.proofs.Prelude.{lt-ltb, le-ltb}
use Rattle.lines_rules.specs.inner.Machine.{answer_text}
use Rattle.lines.proofs.answer.Goals as goal

pub returns-then-not-is_whole-clause-wrote : goal.returns-then-not-is_whole-clause-wrote
unfolding answer_text
returns-then-not-is_whole-clause-wrote c = rw (sym c.is_whole.ensures ∙ c.if-not-is_whole.true) c.put_bad.ensures

pub returns-then-octets-n-clause-wrote : goal.returns-then-octets-n-clause-wrote
unfolding answer_text
returns-then-octets-n-clause-wrote c =
    let whole : eqb c.args.l.phase 0 || eqb c.args.l.phase 3 ≡ true = sym c.is_whole.ensures ∙ c.if-not-is_whole.false in
    rw (whole, lt-ltb _ _ c.if-octets-n.true) c.put_refused.ensures.wrote

pub returns-clause-wrote : goal.returns-clause-wrote
unfolding answer_text
returns-clause-wrote c =
    let whole : eqb c.args.l.phase 0 || eqb c.args.l.phase 3 ≡ true = sym c.is_whole.ensures ∙ c.if-not-is_whole.false in
    rw (whole, le-ltb _ _ c.if-octets-n.false) c.answer_to.ensures.wrote
