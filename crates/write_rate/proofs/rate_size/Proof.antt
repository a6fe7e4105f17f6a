use Rattle.write_rate.proofs.{Cited.{arith, rules}, Octets.rate_length, rate_size.Statement.statement}
use Rattle.write_rate.proofs.rate_size.Tie as tie

pub rate_size_spec : {M : Type 1} → statement M
rate_size_spec = tie.close (tie.spec (λ c κs. search rules) (λ c. search rules)
    (λ c. let n = c.price_size in omega (arith, n.ensures, rate_length c.before.args.r c.before.requires n.result n.ensures.0 (omega (arith, n.ensures)))))
