use Rattle.prelude.proofs.Prelude.{arith, rules}
use Rattle.trunk_read_extensions.proofs.{Arcs.none_found, Arcs.some_found, identifier_in.Statement.statement}
use Rattle.trunk_read_extensions.proofs.identifier_in.Tie as tie

pub identifier_in_spec : {M : Type 1} → statement M
identifier_in_spec =
    tie.close
    (tie.spec (λ c. search none_found) (λ c κs. search rules) (λ c. some_found _ _ _ (omega arith) c.before.if-start-stop.false (omega arith) c.arcs_in.ensures))
