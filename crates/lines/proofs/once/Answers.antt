use Rattle.std.proofs.Common.{arith}
use Rattle.lines.proofs.Streams.{none_begun, part_begun, end_begun}
use Rattle.lines.proofs.once.Goals as goal

pub returns-in-Ok-eq0-clause-begun : goal.returns-in-Ok-eq0-clause-begun
returns-in-Ok-eq0-clause-begun g c e =
    let r = c.in-Ok-eq0.ensures.bytes in
    end_begun _ _ _ _ _ _ c.in-Ok-eq0.field-0-test r.0 (r.1 c.in-Ok-eq0.field-0-test (omega arith)) c.close-whole.ensures.begun

pub returns-in-Ok-clause-begun : goal.returns-in-Ok-clause-begun
returns-in-Ok-clause-begun g c e = part_begun _ _ _ _ _ c.in-Ok.ensures.bytes.0 c.chunk.ensures.begun

pub returns-in-Err-clause-begun : goal.returns-in-Err-clause-begun
returns-in-Err-clause-begun g c e = none_begun _ _ _
