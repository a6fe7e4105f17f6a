use Rattle.prelude.proofs.Prelude.{rules, arith, ap, sym, ◌∙◌, ne_eqb}
use Rattle.coding.{specs.Reader.opened, specs.Reader.length_at, specs.Reader.composite, proofs.Reading.picks, proofs.Reading.skips, proofs.Reading.when_no, proofs.Search.endless_simple}
use Rattle.coding.{proofs.Header.tagged_is}
use Rattle.read_lengths.proofs.open_leaf.Statement.{statement}
use Rattle.read_lengths.proofs.open_leaf.Tie as tie

pub open_leaf_spec : {M : Type 1} → statement M
unfolding opened length_at
open_leaf_spec =
    tie.close
    (tie.spec (omega arith) (λ c. search rules) (omega arith)
    (λ c. omega (arith, (tagged_is _ _ _ _ (sym c.before.is_tag.ensures ∙ c.if-is_tag.true)).0)) (omega arith)
    (λ c.
    let t = c.before in
    let h = (tagged_is _ _ _ _ (sym t.before.is_tag.ensures ∙ t.if-is_tag.true)).1 in
    let simple = endless_simple _ _ _ _ (ap composite h ∙ ne_eqb _ _ t.before.before.if-tag-eq1.false) in
    (picks _ _ _ _ _ _ _ t.before.is_tag.ensures t.if-is_tag.true (when_no _ _ _ _ simple c.numbered_at.ensures.0), c.numbered_at.ensures.1))
    (omega arith) (λ c. (search (skips, c.not_there.ensures.0), c.not_there.ensures.1)))
