-- By the form, and by the next tag.
use Rattle.prelude.proofs.Prelude.{arith, rules, eq-eqb, ne_eqb}
use Rattle.coding.{specs.Codec.sort, proofs.Reading.picks, proofs.Reading.skips, proofs.Reading.picks_run, proofs.Reading.skips_run}
use Rattle.read_charges.proofs.Stores.{plain_stored}
use Rattle.trunk_read_bodies.specs.inner.Bodied.{charge_for}
use Rattle.trunk_read_bodies.proofs.charge_at.Statement.{statement}
use Rattle.trunk_read_bodies.proofs.charge_at.Tie as tie

ruleset forms = (picks_run, skips_run, eq-eqb, ne_eqb, picks, skips)

pub charge_at_spec : {M : Type 1} → statement M
unfolding charge_for sort
charge_at_spec =
    tie.close
    (tie.spec (λ c κs. search rules) (λ c. search (plain_stored, forms)) (λ c κs. search rules) (λ c. search (plain_stored, forms)) (omega arith)
    (λ c κs. search rules) (λ c. search (plain_stored, forms)) (λ c κs. search rules) (λ c. search forms))
