use Rattle.std.proofs.Common.{arith}
use Rattle.lines_rules.proofs.Steps.{Next, taken_none, taken_more, heard_left, heard_last}
use Rattle.lines_rules.proofs.take_octets.Goals as goal

pub loop-k-init : goal.loop-k-init
loop-k-init c = (omega arith, omega arith, taken_none _ _ _ _)

pub loop-k-preserved : goal.loop-k-preserved
loop-k-preserved c =
    let n : Next c.args.s.now c.args.from c.loop-k.at c.loop-k.k c.args.l c.args.octets.now c.loop-k.octets c.digit-high.result c.digit-low.result =
    record {
      ready = c.requires.1;
      few = omega arith;
      onward = omega arith;
      inside = omega arith;
      high = (c.digit-high.ensures, omega arith);
      low = (c.digit-low.ensures, omega arith);
      taken = c.loop-k.invariant.2;
    } in
    (omega arith, omega arith, taken_more n c.octet-in-loop-k.ensures c.if-not-goes_on.false)

pub returns-then-not-goes_on-clause-heard : goal.returns-then-not-goes_on-clause-heard
returns-then-not-goes_on-clause-heard c =
    let n : Next c.args.s.now c.args.from c.loop-k.at c.loop-k.k c.args.l c.args.octets.now c.loop-k.octets c.digit-high.result c.digit-low.result =
    record {
      ready = c.requires.1;
      few = omega arith;
      onward = omega arith;
      inside = omega arith;
      high = (c.digit-high.ensures, omega arith);
      low = (c.digit-low.ensures, omega arith);
      taken = c.loop-k.invariant.2;
    } in
    rw (c.went_to.ensures, c.line_of.ensures) (heard_last n c.octet.ensures c.if-next-ne10.false).0

pub returns-clause-heard : goal.returns-clause-heard
returns-clause-heard c =
    rw (c.went_to-2.ensures, c.spaced.ensures) (heard_left {s = c.args.s.now} {from = c.args.from} c.loop-k.k (omega arith) (omega arith) c.loop-k.invariant.2).0
