use Rattle.coding.{proofs.Tests.tests, specs.Codec.maybe}
use Rattle.write_rate.specs.inner.Prices.{step_octets}
use Rattle.write_rate.proofs.{Cited.rules, Three.named, Octets.rate_parts, put_step.Statement.statement}
use Rattle.write_rate.proofs.put_step.Tie as tie

pub put_step_spec : {M : Type 1} → statement M
unfolding step_octets maybe
put_step_spec =
    tie.close
    (tie.spec (λ c κs. let c3 = c.before.before.before in ((rate_parts _ c3.before.requires.0).stepscale, search (named, tests))) (λ c. search rules)
    (λ c. search (named, tests)) (λ c. search (named, tests)))
