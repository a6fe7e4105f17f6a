use Rattle.prelude.proofs.Prelude.{ℕ, ap, rules}
use Rattle.types.specs.declared.Rate.{Rate}
use Rattle.read_rate.proofs.no_rate.Statement.{statement}
use Rattle.read_rate.proofs.no_rate.Tie as tie

pub no_rate_spec : {M : Type 1} → statement M
no_rate_spec =
    tie.close
    (tie.spec (λ c κs. search rules)
    (λ c. let a = c.args in ap {B = ℕ × ℕ × Rate × ℕ} (λ q. (a.fault, a.place, q.2, q.3)) c.untimed-r.ensures))
