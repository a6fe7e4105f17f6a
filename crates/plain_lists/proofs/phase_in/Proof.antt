use Rattle.prelude.proofs.Prelude.{◌∙◌, arith}
use Rattle.account.specs.History.{phase}
use Rattle.plain_lists.proofs.{Figures.whole, phase_in.Statement.statement}
use Rattle.plain_lists.proofs.phase_in.Tie as tie

returns : tie.Need-returns
returns c = let x = c.before.before.before.args in c.phase_before.ensures x.octets.now ∙ whole x.rows.now x.octets.now phase

pub phase_in_spec : {M : Type 1} → statement M
phase_in_spec = tie.close (tie.spec (λ c κs. omega arith) returns)
