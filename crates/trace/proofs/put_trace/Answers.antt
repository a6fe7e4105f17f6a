use Rattle.std.proofs.Common.{refl, arith}
use Rattle.trace_framing.proofs.Laws.{passing_starts, passes_on, ends_inside, from_start, next_message, nothing_left}
use Rattle.trace_messages.proofs.Walk.{trace_more, framed_more, trace_over}
use Rattle.trace.proofs.Laying.{rooms_head, rooms_as, progress_starts, progress_as, progress_more, progress_ends}
use Rattle.trace.proofs.put_trace.Goals as goal

pub loop-i-init : goal.loop-i-init
loop-i-init c =
    let e = from_start c.args.pairs.now c.args.octets.now in
    (passing_starts _ _ c.requires.0, rw e c.requires.1, rw e (progress_starts c.requires.2))

-- the message at the loop's place lies inside
pub overflow_add-end : goal.overflow_add-end
overflow_add-end c = omega (arith, ends_inside c.loop-i.invariant.0 c.loop-i-test.true c.size.ensures)

pub slice_bounds-put_next-end : goal.slice_bounds-put_next-end
slice_bounds-put_next-end c = omega (arith, ends_inside c.loop-i.invariant.0 c.loop-i-test.true c.size.ensures)

pub slice_bounds-cleared_by-end : goal.slice_bounds-cleared_by-end
slice_bounds-cleared_by-end c = omega (arith, ends_inside c.loop-i.invariant.0 c.loop-i-test.true c.size.ensures)

pub put_next-q-requires : goal.put_next-q-requires
put_next-q-requires c =
    let i = c.loop-i.invariant in
    let next = next_message i.0 c.loop-i-test.true c.size.ensures in
    ((framed_more next i.1).0, rooms_head _ (rooms_as (trace_more c.args.call c.loop-i.cleared next refl) i.2.room))

pub cleared_by-over-requires : goal.cleared_by-over-requires
cleared_by-over-requires c = (framed_more (next_message c.loop-i.invariant.0 c.loop-i-test.true c.size.ensures) c.loop-i.invariant.1).0

pub loop-i-preserved : goal.loop-i-preserved
loop-i-preserved c =
    let i = c.loop-i.invariant in
    let next = next_message i.0 c.loop-i-test.true c.size.ensures in (
      passes_on i.0 c.loop-i-test.true c.size.ensures,
      (framed_more next i.1).1,
      progress_more _ (progress_as (trace_more c.args.call c.loop-i.cleared next c.cleared_by-over.ensures) i.2) c.put_next-q.ensures,
    )

pub returns : goal.returns
returns c =
    let none = nothing_left c.args.pairs.now c.args.octets.now c.loop-i.i c.loop-i.at c.loop-i-test.false in
    progress_ends (progress_as (trace_over c.args.call c.loop-i.cleared none) c.loop-i.invariant.2)
