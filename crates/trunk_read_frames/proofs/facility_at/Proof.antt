-- Each return by the answers that led to it.
use Rattle.prelude.proofs.Prelude.{arith, rules}
use Rattle.coding.proofs.Reading.{gives}
use Rattle.read_figures.proofs.Answers.{surplus, arrived}
use Rattle.trunk_types.specs.Components.{in_network}
use Rattle.trunk_read_frames.proofs.{Marked.stay_network, Marked.goes_under, Leads.unextended_body, Frames.facility_read, facility_at.Statement.statement}
use Rattle.trunk_read_frames.proofs.facility_at.Tie as tie

pub facility_at_spec : {M : Type 1} → statement M
facility_at_spec =
    tie.close
    (tie.spec (λ c κs. search rules) (omega arith) (λ c. (rw facility_read (search (surplus, stay_network)), search)) (λ c κs. search rules) (omega arith)
    (λ c.
    let k = c.before in
    let g = k.before.before in
    let read = g.before.before.network_at-b.ensures.0 in (
      rw (facility_read, k.keep_lead.ensures.0 _ _, unextended_body) (arrived _ _ c.reached.ensures
          (goes_under _ _ _ _ in_network _ read g.if-b-ne0.false (gives _ _ _))),
      k.keep_lead.ensures.1,
    )))
