-- By the next tag.
use Rattle.prelude.proofs.Prelude.{arith, rules}
use Rattle.coding.{specs.Codec.canonical, specs.Codec.over, specs.Codec.sort, proofs.Reading.picks, proofs.Reading.skips}
use Rattle.types.specs.Arguments.{sign, charge_of}
use Rattle.read.proofs.{Tails.nulled, charge_at.Statement.statement, charge_at.Tie.close, charge_at.Tie.spec}

pub charge_at_spec : {M : Type 1} → statement M
unfolding charge_of sort sign canonical over
charge_at_spec =
    close (spec (omega arith) (omega arith)
    (λ c. let tag = c.before.before in
    picks _ _ _ _ _ _ _ tag.is_tag.ensures c.before.if-is_tag.true (nulled _ tag.before.before.requires.1 _ c.null_at.ensures))
    (λ c κs. search rules)
    (λ c. let lent = c.before.before in let other = lent.before.before in skips _ _ _ _ _ _ _ other.before.is_tag.ensures other.if-is_tag.false c.charge_into.ensures))
