-- Where a component was found, its answer is the line's, or the trunk's.
use Rattle.prelude.proofs.Prelude.{arith}
use Rattle.coding.specs.Reader.{part}
use Rattle.profile_read.proofs.Reading.{by_line, beside}
use Rattle.profile_pass.proofs.Passing.{next_none, next_some, line_here, no_line_here, inside}
use Rattle.profile_pass.proofs.next_by.Goals as goal
use Rattle.profile_pass.proofs.next_by.Goals.{then-after-ne0+else-profile, else-after-ne0}

pub bounds-octets-2 : goal.bounds-octets-2
bounds-octets-2 c = omega (arith, (inside _ _ _ c.next_into-n.ensures c.if-after-ne0.true).2)

pub slice_bounds-trunk_by-count : goal.slice_bounds-trunk_by-count
slice_bounds-trunk_by-count c = omega (arith, (inside _ _ _ c.next_into-n.ensures c.if-after-ne0.true).0)

pub slice_bounds-trunk_by-start : goal.slice_bounds-trunk_by-start
slice_bounds-trunk_by-start c = omega (arith, (inside _ _ _ c.next_into-n.ensures c.if-after-ne0.true).0)

pub slice_bounds-trunk_by-end : goal.slice_bounds-trunk_by-end
slice_bounds-trunk_by-end c = omega (arith, (inside _ _ _ c.next_into-n.ensures c.if-after-ne0.true).1)

pub returns-then-profile : goal.returns-then-profile
unfolding part
returns-then-profile c = record {
  trunk_rows_value = next_some _ _ _ c.next_into-n.ensures c.if-after-ne0.true
      (beside (no_line_here _ _ _ c.next_into-n.ensures c.if-after-ne0.true c.if-profile.true) c.trunk_by-answer.ensures.rows_value);
  spare = c.trunk_by-answer.ensures.spare;
}

pub returns : goal.returns
returns c =
    let n = c.next_into-n in
    let zero = c.no_trunk.ensures in record {
      trunk_rows_value = elim c.if-after-ne0.branch [
        | then-after-ne0+else-profile w ↦ rw (w.answer-is, w.judged_as-answer-then-after-ne0.ensures) (next_some _ _ _ n.ensures w.if-after-ne0.true
            (by_line _ _ w.if-profile.false (line_here _ _ _ n.ensures w.if-after-ne0.true w.if-profile.false) zero.rows_value))
        | else-after-ne0 w ↦ rw (w.answer-is, c.judged_as-answer.ensures, w.if-after-ne0.false) (next_none _ _ _ n.ensures w.if-after-ne0.false zero.rows_value)
      ];
      spare = zero.spare;
    }
