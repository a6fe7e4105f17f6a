use Rattle.prelude.proofs.Prelude.{arith}
use Rattle.coding.proofs.Laws.{Octets}
use Rattle.read_elements.proofs.{Patterns.id_one, Patterns.id_two, Patterns.id_many, Patterns.id_padded, identifier_in.Statement.statement}
use Rattle.read_elements.proofs.identifier_in.Tie as tie

pub identifier_in_spec : {M : Type 1} → statement M
identifier_in_spec =
    tie.close
    (tie.spec (omega arith) (λ c. (search id_padded, omega arith)) (omega arith) (omega arith) (omega arith) (λ c. (search id_one, omega arith))
    (omega arith) (omega arith)
    (λ c.
    let e = c.before.before.before in
    let d = e.before.before in
    let octets : Octets d.before.args.s.now = λ i. omega (arith, d.shared_slice_known-1.given i) in
    id_two _ _ _ d.before.requires.1 e.before.is_shortest.ensures e.if-not-is_shortest.false octets c.before.if-stop-start-2.true c.magnitude-value.ensures)
    (λ c.
    let d = c.before.before.before.before in
    let octets : Octets d.before.args.s.now = λ i. omega (arith, d.shared_slice_known-1.given i) in
    (search id_many, omega arith)))
