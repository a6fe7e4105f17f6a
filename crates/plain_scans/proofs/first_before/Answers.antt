use Rattle.std.proofs.Common.{sym, ◌∙◌, arith}
use Rattle.plain_scans.proofs.Scans.{scan_starts, scan_inside, scan_goes_on, tells_sought, found_here, found_none}
use Rattle.plain_scans.proofs.first_before.Goals as goal

pub loop-i-init : goal.loop-i-init
loop-i-init c = scan_starts

-- the octets of event i end inside
pub overflow_add-end : goal.overflow_add-end
overflow_add-end c = omega (arith, scan_inside c.loop-i.invariant c.count_at.ensures c.requires.0 c.loop-i-test.true)

pub slice_bounds-claim-end : goal.slice_bounds-claim-end
slice_bounds-claim-end c = omega (arith, scan_inside c.loop-i.invariant c.count_at.ensures c.requires.0 c.loop-i-test.true)

pub returns-then-is_sought : goal.returns-then-is_sought
returns-then-is_sought c =
    let told = tells_sought c.requires.1 c.requires.2 c.loop-i-test.true c.count_at.ensures c.row_at-e.ensures c.alone-t.result c.until-p.ensures c.alone-t.ensures c.claim-o.ensures
    c.args.finals c.loop-i.invariant c.requires.3 in
    found_here c.loop-i.invariant c.loop-i-test.true (told ∙ sym c.is_sought.ensures ∙ c.if-is_sought.true)

pub loop-i-preserved : goal.loop-i-preserved
loop-i-preserved c =
    let told = tells_sought c.requires.1 c.requires.2 c.loop-i-test.true c.count_at.ensures c.row_at-e.ensures c.alone-t.result c.until-p.ensures c.alone-t.ensures c.claim-o.ensures
    c.args.finals c.loop-i.invariant c.requires.3 in
    scan_goes_on c.loop-i.invariant c.count_at.ensures c.row_at-e.ensures c.loop-i-test.true c.passed-phase.ensures (told ∙ sym c.is_sought.ensures ∙ c.if-is_sought.false)

pub returns : goal.returns
returns c = found_none c.loop-i.invariant c.loop-i-test.false
