-- The octets left fall.
use Rattle.prelude.proofs.Prelude.{arith, sym, ◌∙◌, ℕ, ◌-◌, Measures}
use Rattle.coding.{specs.Reader.turn, proofs.Search.marker_is, proofs.Search.endless_is, proofs.Search.unfolds}
use Rattle.read_lengths.proofs.{Sought.seeking, Sought.find_none, Sought.found_at, Sought.stepped_moves, +find_end.statement, +find_end.Tie.close}
use Rattle.octets.proofs.wide.Reads as wide_reads
use Rattle.read_lengths.proofs.find_end.Kinds as find_end_kinds
use Rattle.read_lengths.proofs.find_end.Reads as find_end_lem
use Rattle.read_lengths.proofs.is_endless.Reads as is_endless_reads
use Rattle.read_lengths.proofs.is_marker.Reads as is_marker_reads
use Rattle.read_lengths.proofs.numbered_at.Reads as numbered_at_reads
use Rattle.read_lengths.proofs.+find_end.Lts-find_end as find_end_lts

abbrev μ_find_end : Measures 1 find_end_kinds.ps ℕ
μ_find_end κs a = a.1.1.0 - a.1.0

pub +find_end_spec : {M : Type 1} → statement M
unfolding turn
+find_end_spec = close μ_find_end λ t. find_end_lts.spec (_, is_marker_reads.Learnt, _, is_endless_reads.Learnt, _, find_end_lem.Post, _, numbered_at_reads.Learnt, _, wide_reads.Learnt) _ find_end_lem.Post
    (omega arith)
    (λ c. (find_none _ _ _ c.if-end-at.true, omega arith))
    (λ c κs. omega arith)
    (λ c. (rw unfolds (search seeking), omega arith))
    (λ c. omega arith)
    (λ c κs. omega arith)
    (λ c. omega (arith, (endless_is _ _ _ _ (sym c.before.is_endless.ensures ∙ c.if-is_endless.true)).0))
    (λ c κs. (omega (arith, (endless_is _ _ _ _ (sym c.before.is_endless.ensures ∙ c.if-is_endless.true)).0), omega arith))
    (λ c. (rw unfolds (search seeking), c.before.find_end-inner.ensures.1))
    (λ c. omega arith)
    (λ c κs. let q = found_at _ _ _ c.before.find_end-inner.ensures.0 (omega (arith, c.if-inner-ge-NO_END.false)) in (omega (arith, q.1, q.2), omega arith))
    (λ c. let q = found_at _ _ _ c.before.before.find_end-inner.ensures.0 (omega (arith, c.before.if-inner-ge-NO_END.false)) in (rw unfolds (search (seeking, q.0)), c.find_end.ensures.1))
    (λ c. omega arith)
    (λ c κs. omega arith)
    (λ c κs. tt)
    (λ c. omega (arith, c.wide.ensures.1))
    (λ c. (rw unfolds (rw c.wide.ensures.0 (search seeking)), omega (arith, c.wide.ensures.1)))
    (λ c κs. let q = stepped_moves _ _ _ _ c.before.before.numbered_at-o.ensures.0 c.if-o-ne0.false in (omega arith, omega arith))
    (λ c. (rw unfolds (search seeking), c.find_end-2.ensures.1))
