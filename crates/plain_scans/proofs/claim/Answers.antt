use Rattle.types.specs.declared.Answer.{Answer}
use Rattle.outcomes.proofs.Refusals.{number_fits}
use Rattle.plain_scans.specs.inner.Claim.{claim_of}
use Rattle.plain_scans.proofs.{Cited.{◌≤◌, ap, arith, ways}, Claims.{is_allowed, not_allowed}}
use Rattle.plain_scans.proofs.claim.Goals as goal

pub returns-then-kind-ne-COMPONENT : goal.returns-then-kind-ne-COMPONENT
unfolding claim_of
returns-then-kind-ne-COMPONENT c = search ways

pub returns-then-is_none : goal.returns-then-is_none
unfolding claim_of
returns-then-is_none c = search (ways, not_allowed _ _ c.next_phase.ensures c.is_none.ensures c.if-is_none.true)

pub overflow_cast-a : goal.overflow_cast-a
overflow_cast-a c =
    let m = c.read-a in
    let h : m.result.number ≤ 255 = rw (ap (λ (x : Answer). x.number) m.ensures) (number_fits _) in
    omega arith

pub returns-then-a-ne0 : goal.returns-then-a-ne0
unfolding claim_of
returns-then-a-ne0 c = rw (← c.read-a.ensures) (search (ways, is_allowed _ _ c.next_phase.ensures c.is_none.ensures c.if-is_none.false))

pub returns : goal.returns
unfolding claim_of
returns c = rw (c.claimed.ensures, ← c.read-a.ensures) (search (ways, is_allowed _ _ c.next_phase.ensures c.is_none.ensures c.if-is_none.false))
