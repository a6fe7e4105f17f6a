-- The loop's invariant: what is left decides, by whether a number is to begin.
use Rattle.prelude.proofs.Prelude.{◌-◌, ◌≤◌, ◌≡◌, refl, ◌∙◌, arith, true}
use Rattle.coding.specs.Reader.{part}
use Rattle.trunk_types.specs.Extensions.{arcs}
use Rattle.trunk_read_extensions.proofs.{Arcs.arcs_stop, Arcs.arcs_step, Arcs.arcs_whole, Arcs.arcs_cut, arcs_in.Statement.statement}
use Rattle.trunk_read_extensions.proofs.arcs_in.Tie as tie

abbrev invariant-loop : tie.invariant-loop-i
invariant-loop s start stop fresh₀ i₀ fresh i = (start ≤ i) × (i ≤ stop) × (arcs true (part s start stop) ≡ arcs fresh (part s i stop))

abbrev decreases-loop : tie.decreases-loop-i
decreases-loop s start stop fresh₀ i₀ fresh i = stop - i

pub arcs_in_spec : {M : Type 1} → statement M
arcs_in_spec =
    tie.close
    (tie.spec invariant-loop decreases-loop (λ c. (omega arith, omega arith, refl)) (omega arith) (omega arith)
    (λ c. let l = c.before.before.before.before.loop-i in rw l.invariant.2 (search (arcs_stop, arith))) (omega arith) (omega arith)
    (λ c. let l = c.before.before.before.before.loop-i in (omega arith, omega arith, l.invariant.2 ∙ search (arcs_step, arith)))
    (λ c. rw c.before.before.loop-i.invariant.2 (search (arcs_whole, arith)))
    (λ c. rw c.before.before.loop-i.invariant.2 (search (arcs_cut, arith))))
