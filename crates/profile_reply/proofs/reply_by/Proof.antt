use Rattle.prelude.proofs.Prelude.{arith, refl, ap, ◌∙◌, eq-eqb, ne_eqb}
use Rattle.trunk_types.specs.declared.TrunkAnswer.{TrunkAnswer}
use Rattle.profile_reply.specs.Replies.{called_for, reply_profile, left_profile}
use Rattle.profile_reply.proofs.reply_by.Statement.{statement}
use Rattle.profile_reply.proofs.reply_by.Tie as tie

returns : tie.Need-returns-then-profile-eq145
unfolding reply_profile left_profile
returns c =
    let r = c.before.before in
    let i = r.before.before in
    rw (eq-eqb _ 0x91 i.if-profile-eq145.true) (r.reply.ensures.0, r.reply.ensures.1)

returns-2 : tie.Need-returns-then-profile-ne159
unfolding reply_profile left_profile
returns-2 c = rw (ne_eqb _ 0x91 c.before.if-profile-eq145.false, ne_eqb _ 0x9f c.if-profile-ne159.true) (refl, refl)

returns-3 : tie.Need-returns
unfolding reply_profile left_profile
returns-3 c =
    let r = c.before.before in
    let n = r.before.before in
    let a = n.before.before in
    let e = a.before.before.before.before.before.before in
    let number = ap (λ (x : TrunkAnswer). x.number) a.read_into-a.ensures.0 in
    let first = n.before.first_of.ensures in
    let called = n.called_for-number.ensures ∙ (λ k. called_for (number k) (first k)) in
    rw (ne_eqb _ 0x91 e.before.if-profile-eq145.false, eq-eqb _ 0x9f e.if-profile-ne159.false, ← called) (r.reply_to.ensures.0, r.reply_to.ensures.1)

pub reply_by_spec : {M : Type 1} → statement M
reply_by_spec =
    tie.close
    (tie.spec (omega arith) (omega arith) returns returns-2 (omega arith) (omega arith) (omega arith) (omega arith) (omega arith) returns-3)
