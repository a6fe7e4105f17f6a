use Rattle.prelude.proofs.Prelude.{arith, sym, ◌∙◌}
use Rattle.coding.{specs.Reader.opened, proofs.Reading.picks, proofs.Reading.skips, proofs.Header.tagged_is}
use Rattle.read_lengths.proofs.open_long.Statement.{statement}
use Rattle.read_lengths.proofs.open_long.Tie as tie

pub open_long_spec : {M : Type 1} → statement M
unfolding opened
open_long_spec =
    tie.close
    (tie.spec (omega arith) (λ c. omega (arith, (tagged_is _ _ _ _ (sym c.before.is_tag.ensures ∙ c.if-is_tag.true)).0)) (omega arith)
    (λ c. (search picks, c.length_at.ensures.1)) (omega arith) (λ c. (search (skips, c.not_there.ensures.0), c.not_there.ensures.1)))
