-- By how the argument or result ends.
use Rattle.prelude.proofs.Prelude.{arith, rules, eqb, ◌∙◌, sym}
use Rattle.coding.{specs.Reader.part, proofs.Basic.and_left}
use Rattle.types.specs.{Frames.carrying, Stored.figure_in, Stored.stored}
use Rattle.read.proofs.{Tails.tail, carried.Statement.statement, carried.Tie.close, carried.Tie.spec}

pub carried_spec : {M : Type 1} → statement M
unfolding carrying stored figure_in part
carried_spec =
    close (spec (λ c κs. search rules) (omega arith) (omega arith) (λ c κs. search rules)
    (λ c. let well = c.before.before in let test = sym well.before.ends_well.ensures ∙ well.if-ends_well.true in let end = well.before.before in let read = end.before.charge_at-f in
    rw c.keep_front.ensures (tail end.ended-r.ensures _ _ _ _ _ (rw (and_left (eqb read.result.fault 0) _ test) at read.ensures) test))
    (λ c. let ill = c.before.before.before in let end = ill.before.before in let read = end.before in let lent = read.before.before.before in
    rw lent.before.before.requires.1.0 (tail end.ended-r.ensures _ _ _ _ _ read.charge_at-f.ensures (sym ill.before.ends_well.ensures ∙ ill.if-ends_well.false))))
