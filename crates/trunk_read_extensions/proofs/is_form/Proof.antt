-- Each return by the answers that led to it.
use Rattle.prelude.proofs.Prelude.{arith, rules}
use Rattle.coding.proofs.Laws.{Octets}
use Rattle.trunk_read_extensions.proofs.{Forms.form_long, Forms.form_fault, Forms.form_over, Forms.form_whole, is_form.Statement.statement}
use Rattle.trunk_read_extensions.proofs.is_form.Tie as tie

-- what is lent are octets
octets : (c : tie.After-shared_slice_known-1) → Octets c.before.args.xs.now
octets c i = omega (arith, c.shared_slice_known-1.given i)

pub is_form_spec : {M : Type 1} → statement M
is_form_spec =
    tie.close
    (tie.spec (λ c. search (form_long, octets)) (λ c κs. search rules) (λ c. search (form_fault, octets)) (λ c. search (form_over, octets))
    (λ c κs. search rules) (λ c. search (form_whole, octets)))
