use Rattle.std.proofs.Common.{arith}
use Rattle.prelude.proofs.Prelude.{not-true, not-false, inl}
use Rattle.std.proofs.KnownBytes.{Keeps-refl, Keeps-trans}
use Rattle.lines.proofs.Streams.{passed_none, passed_more, passed_all, passed_begun, none_begun, begun_none, says_kept}
use Rattle.lines.proofs.all.Goals as goal

pub loop-init : goal.loop-init
loop-init g c = rw c.new_line-line.ensures (passed_none _ _ _ _, Keeps-refl _)

pub loop-preserved : goal.loop-preserved
loop-preserved g c =
    let m = not-false _ c.if-not-left.false in
    (passed_more c.loop.invariant.0 (c.once-left.ensures.more m), Keeps-trans _ _ _ c.loop.invariant.1 (c.once-left.ensures.quiet (c.once-left.ensures.goes_on m)))

pub returns-then-not-left-clause-whole : goal.returns-then-not-left-clause-whole
returns-then-not-left-clause-whole g c e = passed_all c.told-octets c.loop.invariant.0 (c.once-left.ensures.whole (omega arith) (not-true _ c.if-not-left.true) e)

pub returns-then-not-left-clause-begun : goal.returns-then-not-left-clause-begun
returns-then-not-left-clause-begun g c = passed_begun _ _ _ _ _ c.told-octets c.loop.invariant.0 (c.once-left.ensures.begun (omega arith))

pub returns-clause-begun : goal.returns-clause-begun
returns-clause-begun g c = passed_begun _ _ _ _ _ c.told-octets c.loop.invariant.0 (none_begun _ _ _)

pub returns-then-not-left-clause-quiet : goal.returns-then-not-left-clause-quiet
returns-then-not-left-clause-quiet g c e = Keeps-trans _ _ _ c.loop.invariant.1 (c.once-left.ensures.quiet e)

pub returns-then-not-left-clause-says : goal.returns-then-not-left-clause-says
returns-then-not-left-clause-says g c e = says_kept _ _ c.loop.invariant.1 (c.once-left.ensures.says e)

pub returns-clause-says : goal.returns-clause-says
returns-clause-says g c e = says_kept _ _ c.loop.invariant.1 (inl (begun_none _ _))
