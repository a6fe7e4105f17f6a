use Rattle.std.proofs.Common.{◌≡◌, ◌/◌, refl, ◌∙◌, arith, length}
use Rattle.events.{specs.inner.Prefix.place_at, specs.inner.Prefix.before, proofs.Prefix.turn_inside, proofs.Prefix.next_place}
use Rattle.why.proofs.Seeing.{run_next, run_ends}
use Rattle.why.proofs.explained.Goals as goal

pub loop-i-init : goal.loop-i-init
unfolding before place_at
loop-i-init c = (refl, rw c.fresh-account.ensures refl)

-- the octets of event i end inside
pub overflow_add-end : goal.overflow_add-end
overflow_add-end c = omega (arith, turn_inside c.args.rows.now c.args.octets.now c.loop-i.i c.loop-i.invariant.0 c.count_at.ensures c.requires c.loop-i-test.true)

pub slice_bounds-turn-end : goal.slice_bounds-turn-end
slice_bounds-turn-end c = omega (arith, turn_inside c.args.rows.now c.args.octets.now c.loop-i.i c.loop-i.invariant.0 c.count_at.ensures c.requires c.loop-i-test.true)

pub loop-i-preserved : goal.loop-i-preserved
loop-i-preserved c =
    let r = c.args.rows.now in let o = c.args.octets.now in let l = c.loop-i in (
      next_place r o l.i l.invariant.0 c.count_at.ensures,
      run_next r o l.i l.invariant.0 c.count_at.ensures c.row_at-e.ensures l.invariant.1 c.turn-state.ensures,
    )

pub returns : goal.returns
returns c =
    let e : c.loop-i.i ≡ length c.args.rows.now / 6 = omega arith in
    c.concluded.ensures ∙ run_ends c.args.rows.now c.args.octets.now c.loop-i.i c.loop-i.state e c.loop-i.invariant.1
