-- By whether the rest has a fault.
use Rattle.prelude.proofs.Prelude.{rules, le-leb, lt-leb}
use Rattle.any_elements.proofs.joined.Statement.{statement}
use Rattle.any_elements.proofs.joined.Tie as tie

pub joined_spec : {M : Type 1} → statement M
joined_spec =
    tie.close
    (tie.spec (λ c. rw (le-leb 1000 _ c.if-rest-ge-FAULTS.true)) (λ c κs. search rules) (λ c. search rules) (λ c. search rules)
    (λ c. rw (lt-leb 1000 _ c.before.if-rest-ge-FAULTS.false, c.lead_size.ensures.0)))
