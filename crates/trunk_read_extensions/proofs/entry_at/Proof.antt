-- Each return by the answers that led to it.
use Rattle.prelude.proofs.Prelude.{arith, rules}
use Rattle.coding.proofs.Reading.{reading, step}
use Rattle.read_figures.proofs.Answers.{closes}
use Rattle.trunk_read_extensions.proofs.{Told.entry_is, entry_at.Statement.statement}
use Rattle.trunk_read_extensions.proofs.entry_at.Tie as tie

pub entry_at_spec : {M : Type 1} → statement M
entry_at_spec =
    tie.close
    (tie.spec (λ c κs. search rules) (omega arith) (λ c. rw (c.halted.ensures, entry_is) (search reading)) (λ c κs. search rules) (omega arith)
    (λ c. rw entry_is (search (step, closes _ tt tt _ _ _ c.closed.ensures c.before.one_at-o.ensures))))
