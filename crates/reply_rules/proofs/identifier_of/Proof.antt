-- The identifier, at each test that stops it and where it is read.
use Rattle.prelude.proofs.Prelude.{arith}
use Rattle.read_heads.proofs.Entered.{tag_below, tag_above, tag_among}
use Rattle.reply_rules.proofs.{Ids.id_empty, Ids.id_long, Ids.id_strange, Ids.id_shut, Ids.id_over, Ids.id_found, identifier_of.Statement.statement}
use Rattle.reply_rules.proofs.identifier_of.Tie as tie

returns-6 : tie.Need-returns-then-e-n
returns-6 c =
    let f = c.before.before in
    let o = f.before.before in
    let t = o.before in
    id_over _ (omega arith) (omega arith) (tag_among _ t.before.if-tag-lt161.false t.if-tag-gt164.false) _ o.open_at-e.ensures.0 f.if-e-ne0.false c.if-e-n.true

returns-7 : tie.Need-returns
returns-7 c =
    let n = c.before.before in
    let f = n.before.before in
    let o = f.before.before in
    let t = o.before in
    id_found _ (omega arith) (omega arith) (tag_among _ t.before.if-tag-lt161.false t.if-tag-gt164.false) _ o.open_at-e.ensures.0 f.if-e-ne0.false n.if-e-n.false c.before.identifier_at-i.ensures.0

pub identifier_of_spec : {M : Type 1} → statement M
identifier_of_spec =
    tie.close
    (tie.spec (λ c. id_empty _ (omega arith) c.if-n-eq0.true) (λ c. id_long _ c.if-n-gt254.true) (omega arith)
    (λ c. id_strange _ (omega arith) (omega arith) (tag_below _ c.if-tag-lt161.true))
    (λ c. id_strange _ (omega arith) (omega arith) (tag_above _ c.if-tag-gt164.true)) (omega arith)
    (λ c. let o = c.before.before in let t = o.before in
    id_shut _ (omega arith) (omega arith) (tag_among _ t.before.if-tag-lt161.false t.if-tag-gt164.false) _ o.open_at-e.ensures.0 c.if-e-ne0.true)
    returns-6 (omega arith) (omega arith) returns-7)
