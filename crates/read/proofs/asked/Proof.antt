-- By how the argument ends.
use Rattle.prelude.proofs.Prelude.{arith, rules, sym, ◌∙◌}
use Rattle.coding.specs.Reader.{part}
use Rattle.types.specs.{Stored.figure_in, Frames.request}
use Rattle.read.proofs.{Tails.tail, asked.Statement.statement, asked.Tie.close, asked.Tie.spec}

pub asked_spec : {M : Type 1} → statement M
unfolding request figure_in part
asked_spec =
    close (spec (omega arith) (omega arith) (omega arith) (omega arith) (λ c κs. search rules)
    (λ c. let well = c.before.before.before in let end = well.before.before in
    rw c.keep_front.ensures (tail end.ended-r.ensures _ _ _ _ _ end.before.natural_at-n.ensures.0 (sym well.before.ends_well.ensures ∙ well.if-ends_well.true)))
    (λ c. let end = c.before.before in let read = end.before in
    rw read.before.before.requires.1 (tail end.ended-r.ensures _ _ _ _ _ read.natural_at-n.ensures.0 (sym c.before.ends_well.ensures ∙ c.if-ends_well.false))))
