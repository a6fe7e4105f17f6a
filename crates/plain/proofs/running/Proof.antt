use Rattle.plain_lists.proofs.Figures.{running_kept}
use Rattle.plain.specs.Answers.{plain_charge, plain_running}
use Rattle.plain.proofs.{Cited.{ap, ◌∙◌, arith, history}, running.Statement.statement}
use Rattle.plain.proofs.running.Tie as tie

pub running_spec : {M : Type 1} → statement M
unfolding plain_running
running_spec =
    tie.close
    (tie.spec (omega arith) (λ c. let a = c.before.before.before.args in
    c.kept.ensures ∙ ap (plain_charge a.rows.now a.octets.now) (running_kept (history a.rows.now a.octets.now))))
