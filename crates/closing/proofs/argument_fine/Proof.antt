use Rattle.prelude.proofs.Prelude.{ap, ◌∙◌, not, rules, eqb}
use Rattle.write.specs.declared.Written.{Written}
use Rattle.closing.proofs.{Asked.asked, argument_fine.Statement.statement}
use Rattle.closing.proofs.argument_fine.Tie as tie

returns : tie.Need-returns
returns c =
    let w = c.before.before in
    let s = w.before.before in
    ap (λ (x : Written). not (eqb x.number 10)) w.write-w.ensures.0 ∙ asked s.args.c s.args.operation _ s.requires.0 s.requires.1

pub argument_fine_spec : {M : Type 1} → statement M
argument_fine_spec = tie.close (tie.spec (λ c. search rules) (λ c κs. search rules) returns)
