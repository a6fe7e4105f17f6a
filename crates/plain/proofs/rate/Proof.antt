use Rattle.plain_lists.proofs.Figures.{rate_kept}
use Rattle.plain.specs.Answers.{plain_charge, plain_current_rate}
use Rattle.plain.proofs.{Cited.{ap, ◌∙◌, arith, history}, rate.Statement.statement}
use Rattle.plain.proofs.rate.Tie as tie

pub rate_spec : {M : Type 1} → statement M
unfolding plain_current_rate
rate_spec =
    tie.close
    (tie.spec (omega arith) (λ c. let a = c.before.before.before.args in
    c.kept.ensures ∙ ap (plain_charge a.rows.now a.octets.now) (rate_kept (history a.rows.now a.octets.now))))
