use Rattle.prelude.proofs.Prelude.{ℕ, ◌-◌, arith, ◌≡◌, refl, ap, ◌∙◌, List, [], ◌∷◌, ◌++◌, cond, eqb, length, length-append}
use Rattle.coding.{specs.Codec.pad, proofs.Arrays.padded_more}
use Rattle.element.proofs.Tiling.{Laid, Tile-at, laid_start, laid_more, laid_done, laid_fault, tile_read}
use Rattle.element_cut.specs.inner.Places.{after_in}
use Rattle.element_cut.specs.declared.Cut.{Cut}
use Rattle.element_cut.proofs.{After.{Below, below_more, after_more, starts_padded}, cut_from.Statement.statement}
use Rattle.element_cut.proofs.cut_from.Tie as tie

abbrev invariant-loop : tie.invariant-loop-at
invariant-loop octets place end starts₀ n₀ at₀ after₀ starts n at after =
    (xs : List ℕ) × Laid octets xs at × (starts ≡ pad 127 0 xs) × (length xs ≡ n) × (after ≡ after_in place at xs) × Below at xs

abbrev decreases-loop : tie.decreases-loop-at
decreases-loop octets place end starts₀ n₀ at₀ after₀ starts n at after = length octets - at

loop-holds : tie.Need-loop-at-init invariant-loop decreases-loop
unfolding pad after_in
loop-holds c = ([], laid_start _ (omega arith), refl, refl, refl, tt)

returns : tie.Need-returns-then-t-ne0 invariant-loop decreases-loop
unfolding after_in
returns c =
    let d = c.before.before.before in
    let v = d.before.before.before.loop-at.invariant in (
      ap (λ (r : Cut). r.tiles) c.uncut.ensures
          ∙ laid_fault v.1 _ d.before.before.loop-at-test.true d.open_at-t.ensures.0 c.before.if-t-ne0.true,
      rw c.uncut.ensures refl,
    )

-- the component that is found
tile : (c : tie.Else-t-ne0 invariant-loop decreases-loop) → let o = c.before.before in let l = o.before.before.before in
    Tile-at l.before.before.args.octets.now l.loop-at.at o.open_at-t.result.value o.open_at-t.result.next
tile c =
    let o = c.before.before in
    tile_read _ _ _ o.before.before.loop-at-test.true o.open_at-t.ensures.0 c.if-t-ne0.false

loop-again : tie.Need-loop-at-preserved invariant-loop decreases-loop
loop-again c =
    let e = c.before in
    let o = e.before.before in
    let i = o.before.before in
    let l = i.before.loop-at in
    let place = i.before.before.before.args.place in
    let v = l.invariant in (
      v.0 ++ (l.at ∷ []),
      laid_more v.1 i.loop-at-test.true (tile e).0,
      rw v.2 (padded_more 127 0 v.0 l.at _ v.3 (omega (arith, tile e, v.1.few))),
      simp length-append (omega (arith, v.3)),
      c.settled-after.ensures ∙ ap (λ (x : ℕ). cond (eqb l.at place) o.open_at-t.result.next x) v.4 ∙ after_more place l.at _ v.0 v.5,
      below_more _ _ v.0 (omega (arith, tile e)) v.5,
    )

returns-2 : tie.Need-returns invariant-loop decreases-loop
returns-2 c =
    let l = c.before.loop-at in
    let v = l.invariant in
    let e : l.at ≡ length c.before.before.before.args.octets.now = omega (arith, v.1.inside, c.loop-at-test.false) in
    (rw (v.2, ← v.3) (laid_done v.1 c.loop-at-test.false), rw (v.2, ← v.3, v.4, e, starts_padded v.0) refl)

pub cut_from_spec : {M : Type 1} → statement M
cut_from_spec =
    tie.close
    (tie.spec invariant-loop decreases-loop loop-holds (λ c. omega arith) (λ c κs. omega arith) (λ c κs. tt) returns (λ c κs. tt) (λ c. omega (arith, tile c.before))
    (λ c. omega (arith, tile c.before)) (λ c. omega arith) (λ c. omega (arith, tile c.before)) loop-again (λ c. omega arith) returns-2)
