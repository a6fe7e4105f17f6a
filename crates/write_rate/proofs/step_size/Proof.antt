use Rattle.coding.specs.Codec.{maybe}
use Rattle.write_rate.specs.inner.Prices.{step_octets}
use Rattle.write_rate.proofs.{Cited.{arith, eq-eqb, ne_eqb}, Octets.rate_parts, step_size.Statement.statement}
use Rattle.write_rate.proofs.step_size.Tie as tie

pub step_size_spec : {M : Type 1} → statement M
unfolding step_octets maybe
step_size_spec =
    tie.close
    (tie.spec (λ c κs. (rate_parts _ c.before.before.requires).stepscale)
    (λ c. let e = c.scaled_size.ensures in rw (eq-eqb c.before.before.before.args.r.stepped 1 (omega arith)) (e.0 0xa5, e.1))
    (λ c. rw (ne_eqb c.before.before.args.r.stepped 1 (λ z. omega arith)) (omega arith)))
