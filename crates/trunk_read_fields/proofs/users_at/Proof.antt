-- Each return by the answers that led to it.
use Rattle.coding.proofs.Reading.{reading}
use Rattle.types.specs.Stored.{association_in}
use Rattle.read_figures.proofs.Answers.{hands}
use Rattle.trunk_types.specs.Bodies.{naming, no_body}
use Rattle.trunk_read_fields.proofs.Cited.{arith, rules, storing, goes}
use Rattle.trunk_read_fields.proofs.{Stores.{zero_clear, user_spare, users_read, user_stored, other_stored}, users_at.Statement.statement}
use Rattle.trunk_read_fields.proofs.users_at.Tie as tie

pub users_at_spec : {M : Type 1} → statement M
users_at_spec =
    tie.close
    (tie.spec (λ c κs. search (rules, zero_clear)) (omega arith) (λ c. (rw users_read (search (storing, reading)), search user_spare)) (λ c κs. search (rules, zero_clear))
    (λ c.
    let n = c.before.before.before.before in
    let z = n.before.before.before.requires.1 in
    let front = n.number_at-u.new.figure in
    let figure = c.association_at.new.figure in
    let followed = hands _ (naming 0 0 (association_in front)) _ _ no_body c.association_at.ensures.0 in
    (rw (users_read, user_stored _ front z.0 n.number_at-u.ensures.1, other_stored _ figure z.1 c.association_at.ensures.1) (search (goes, followed)), search user_spare)))
