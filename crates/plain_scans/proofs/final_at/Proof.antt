use Rattle.prelude.proofs.Prelude.{◌∙◌, arith}
use Rattle.plain_scans.proofs.{Scans.{final_first, final_again}, final_at.Statement.statement}
use Rattle.plain_scans.proofs.final_at.Tie as tie

returns : tie.Need-returns-then-i-k
returns c =
    let f = c.before.before in
    let s = f.before.before.before in
    c.outcome_of.ensures ∙ final_first s.args.service s.requires.1 s.requires.2 f.final_before-i.ensures s.args.charge c.before.if-i-k.true

-- there is a final before it, with which it is compared
returns-2 : tie.Need-returns
returns-2 c =
    let e = c.before.before in
    let f = e.before in
    let s = f.before.before.before in
    c.beside.ensures ∙ final_again s.args.service s.requires.1 s.requires.2 f.final_before-i.ensures s.args.charge e.if-i-k.false c.before.charge_at-first.ensures

pub final_at_spec : {M : Type 1} → statement M
final_at_spec =
    tie.close (tie.spec (λ c κs. c.before.before.requires) (omega arith) returns (λ c κs. let s = c.before.before.before.before in (s.requires.0.list, omega (arith, s.requires.0.some, c.if-i-k.false)))
    (omega arith) returns-2)
