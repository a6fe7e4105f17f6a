use Rattle.std.proofs.Common.{arith}
use Rattle.std.proofs.KnownBytes.{Keeps-refl, Keeps-trans}
use Rattle.lines.proofs.Streams.{told_none, told_more, told_all, told_begun, run_begun, begun_kept}
use Rattle.lines.proofs.chunk.Goals as goal

pub loop-at-init : goal.loop-at-init
loop-at-init g c = (omega arith, told_none _ _ _ _, Keeps-refl _)

pub loop-at-preserved : goal.loop-at-preserved
loop-at-preserved g c = (
  c.run-d.ensures.inside,
  told_more c.loop-at.invariant.1 c.run-d.ensures (omega arith) (c.put.ensures.whole c.if-not-put.false),
  Keeps-trans _ _ _ c.loop-at.invariant.2 (c.put.ensures.quiet c.if-not-put.false),
)

pub returns-then-not-put-clause-begun : goal.returns-then-not-put-clause-begun
returns-then-not-put-clause-begun g c = run_begun c.loop-at.invariant.1 c.run-d.ensures (omega arith) c.put.ensures.begun

pub returns-clause-carried : goal.returns-clause-carried
returns-clause-carried g c e = let x = told_all (omega arith) c.loop-at.invariant.1 in (x.text, x.ran _)

pub returns-clause-told : goal.returns-clause-told
returns-clause-told g c e = told_all (omega arith) c.loop-at.invariant.1

pub returns-clause-begun : goal.returns-clause-begun
returns-clause-begun g c = told_begun (told_all (omega arith) c.loop-at.invariant.1)

pub returns-then-not-put-clause-says : goal.returns-then-not-put-clause-says
returns-then-not-put-clause-says g c e = begun_kept _ _ c.loop-at.invariant.2 (c.put.ensures.says c.if-not-put.true)

pub returns-clause-quiet : goal.returns-clause-quiet
returns-clause-quiet g c e = c.loop-at.invariant.2
