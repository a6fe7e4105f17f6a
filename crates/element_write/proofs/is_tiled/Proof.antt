use Rattle.prelude.proofs.Prelude.{◌-◌, arith, length}
use Rattle.element.proofs.Tiling.{Tile-at, tile_read}
use Rattle.element_write.proofs.{Going.Going, Going.going_start, Going.going_more, Going.going_done, Going.going_fault, is_tiled.Statement.statement}
use Rattle.element_write.proofs.is_tiled.Tie as tie

abbrev invariant-loop : tie.invariant-loop-at
invariant-loop octets end at₀ at = Going octets at

abbrev decreases-loop : tie.decreases-loop-at
decreases-loop octets end at₀ at = length octets - at

returns : tie.Need-returns-then-tile-ne0 invariant-loop decreases-loop
returns c =
    let o = c.before.before in
    let i = o.before.before in
    going_fault _ _ i.before.loop-at.invariant _ i.loop-at-test.true o.open_at-tile.ensures.0 c.if-tile-ne0.true

-- the component that is found
tile : (c : tie.Else-tile-ne0 invariant-loop decreases-loop) → let o = c.before.before in let l = o.before.before.before in
    Tile-at l.before.before.args.octets.now l.loop-at.at o.open_at-tile.result.value o.open_at-tile.result.next
tile c =
    let o = c.before.before in
    tile_read _ _ _ o.before.before.loop-at-test.true o.open_at-tile.ensures.0 c.if-tile-ne0.false

loop-again : tie.Need-loop-at-preserved invariant-loop decreases-loop
loop-again c =
    let i = c.before.before.before.before in
    let t = tile c in
    going_more _ _ i.before.loop-at.invariant i.loop-at-test.true t.0 t.1 t.2

pub is_tiled_spec : {M : Type 1} → statement M
is_tiled_spec =
    tie.close
    (tie.spec invariant-loop decreases-loop (λ c. going_start _) (λ c. omega arith) (λ c κs. omega arith) returns (λ c. omega (arith, tile c)) loop-again
    (λ c. going_done _ _ c.before.loop-at.invariant c.loop-at-test.false))
