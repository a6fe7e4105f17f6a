use Rattle.coding.proofs.Writing.{wrote_both, room_head, room_tail}
use Rattle.write_figures.proofs.{Cited.arith, put_leads.Statement.statement}
use Rattle.write_figures.proofs.put_leads.Tie as tie

pub put_leads_spec : {M : Type 1} → statement M
put_leads_spec = tie.close (tie.spec (λ c κs. search room_head) (λ c κs. search room_tail) (omega arith) (λ c. search wrote_both))
