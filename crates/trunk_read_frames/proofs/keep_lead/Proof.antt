-- The eight octets put, and the rest as it was.
use Rattle.prelude.proofs.Prelude.{arith}
use Rattle.trunk_read_frames.proofs.{Leads.lead_put, keep_lead.Statement.statement, keep_lead.Tie.close, keep_lead.Tie.spec}

pub keep_lead_spec : {M : Type 1} → statement M
keep_lead_spec =
    close (spec (omega arith) (omega arith) (omega arith) (omega arith) (omega arith) (omega arith) (omega arith) (omega arith) (omega arith) (omega arith) (omega arith) (omega arith)
    (λ c. let a = c.args in lead_put a.front.now c.requires a.frame a.unnamed a.id a.error a.operation a.problem))
