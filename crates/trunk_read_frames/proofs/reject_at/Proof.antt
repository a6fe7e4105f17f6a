-- Each return by the answers that led to it.
use Rattle.prelude.proofs.Prelude.{arith}
use Rattle.coding.proofs.Reading.{reading, step, gives}
use Rattle.read_figures.proofs.Answers.{storing, arrived}
use Rattle.trunk_read_fields.proofs.Stores.{zero_spare}
use Rattle.trunk_read_frames.proofs.{Leads.detail_body, Frames.rejected_read, reject_at.Statement.statement}
use Rattle.trunk_read_frames.proofs.reject_at.Tie as tie

pub reject_at_spec : {M : Type 1} → statement M
reject_at_spec =
    tie.close
    (tie.spec (omega arith) (omega arith) (λ c. (rw rejected_read (search (storing, reading)), search zero_spare)) (omega arith) (omega arith)
    (λ c. (rw rejected_read (search (storing, reading)), search zero_spare)) (omega arith)
    (λ c κs. let i = c.before.before.before.before.before.before in rw i.before.before.requires.1) (omega arith)
    (λ c.
    let k = c.before in
    let g = k.before.before in
    let p = g.before.before in
    let i = p.before.before.before in (
      rw (rejected_read, k.keep_lead.ensures.0 _ _, i.before.before.requires.1, detail_body) (arrived _ _ c.reached.ensures
          (step _ _ _ _ i.caller_at-i.ensures.0 p.before.if-i-ne0.false (step _ _ _ _ p.problems_at-p.ensures g.if-p-ne0.false
          (rw (i.caller_at-i.ensures.1 _ _) (gives _ _ _))))),
      k.keep_lead.ensures.1,
    )))
