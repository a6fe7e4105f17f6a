use Rattle.prelude.proofs.Prelude.{ℕ, ◌-◌, arith, ◌≡◌, refl, ◌∙◌, List, [], ◌∷◌, ◌++◌, length, length-append}
use Rattle.coding.{specs.Codec.pad, proofs.Arrays.padded_more}
use Rattle.element.proofs.{Tiling.{Laid, Tile-at, laid_start, laid_more, laid_done, laid_fault, tile_read}, starts_from.Statement.statement}
use Rattle.element.proofs.starts_from.Tie as tie

abbrev invariant-loop : tie.invariant-loop-at
invariant-loop octets end starts₀ count₀ at₀ starts count at =
    (xs : List ℕ) × Laid octets xs at × (starts ≡ pad 127 0 xs) × (length xs ≡ count)

abbrev decreases-loop : tie.decreases-loop-at
decreases-loop octets end starts₀ count₀ at₀ starts count at = length octets - at

loop-holds : tie.Need-loop-at-init invariant-loop decreases-loop
unfolding pad
loop-holds c = ([], laid_start _ (omega arith), refl, refl)

returns : tie.Need-returns-then-tile-ne0 invariant-loop decreases-loop
returns c =
    let d = c.before.before.before in
    let v = d.before.before.before.loop-at.invariant in
    (c.refused.ensures ∙ laid_fault v.1 _ d.before.before.loop-at-test.true d.open_at-tile.ensures.0 c.before.if-tile-ne0.true, rw c.refused.ensures (omega arith))

-- the component that is found
tile : (c : tie.Else-tile-ne0 invariant-loop decreases-loop) → let o = c.before.before in let l = o.before.before.before in
    Tile-at l.before.before.args.octets.now l.loop-at.at o.open_at-tile.result.value o.open_at-tile.result.next
tile c =
    let o = c.before.before in
    tile_read _ _ _ o.before.before.loop-at-test.true o.open_at-tile.ensures.0 c.if-tile-ne0.false

loop-again : tie.Need-loop-at-preserved invariant-loop decreases-loop
loop-again c =
    let i = c.before.before.before.before in
    let l = i.before.loop-at in
    let v = l.invariant in (
      v.0 ++ (l.at ∷ []),
      laid_more v.1 i.loop-at-test.true (tile c).0,
      rw v.2 (padded_more 127 0 v.0 l.at _ v.3 (omega (arith, tile c, v.1.few))),
      simp length-append (omega (arith, v.3)),
    )

returns-2 : tie.Need-returns invariant-loop decreases-loop
returns-2 c =
    let v = c.before.loop-at.invariant in
    (rw (v.2, ← v.3) (laid_done v.1 c.loop-at-test.false), omega arith)

pub starts_from_spec : {M : Type 1} → statement M
starts_from_spec =
    tie.close
    (tie.spec invariant-loop decreases-loop loop-holds (λ c. omega arith) (λ c κs. omega arith) (λ c κs. tt) returns (λ c. omega (arith, tile c)) (λ c. omega (arith, tile c)) (λ c. omega arith)
    (λ c. omega (arith, tile c)) loop-again (λ c. omega arith) returns-2)
