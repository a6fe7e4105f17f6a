use Rattle.std.proofs.Common.{◌≡◌, refl, ◌∙◌, ap, arith}
use Rattle.events.{specs.inner.Prefix.place_at, proofs.Prefix.{next_place, place_fits}}
use Rattle.plain_scans.proofs.place_of.Goals as goal

pub loop-i-init : goal.loop-i-init
unfolding place_at
loop-i-init c = refl

pub overflow_add-at : goal.overflow_add-at
overflow_add-at c = omega (arith, c.count_at-at.ensures, c.loop-i.invariant, place_fits c.args.rows.now c.args.total c.requires.0 c.loop-i.i (omega arith))

pub loop-i-preserved : goal.loop-i-preserved
loop-i-preserved c = next_place _ c.args.rows.now c.loop-i.i c.loop-i.invariant c.count_at-at.ensures

pub returns : goal.returns
returns c = let e : c.loop-i.i ≡ c.args.k = omega arith in c.loop-i.invariant ∙ ap (place_at c.args.rows.now) e
