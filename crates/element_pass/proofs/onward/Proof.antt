-- What is found at a place where a walk may stand is the tile there.
use Rattle.prelude.proofs.Prelude.{sym, ◌∙◌, arith, ◌<◌, get_or}
use Rattle.element_pass.proofs.{Order.element_counts, Order.find_end_lem, Going.along_inside, Going.tile_found, onward.Statement.statement}
use Rattle.element_pass.proofs.onward.Tie as tie

open-at-requires : tie.Need-open_at-tile-requires
open-at-requires c κs =
    let b = c.before.before in
    let s = b.before in
    let octet : get_or s.args.octets.now 1 0 < 256 = omega (arith, b.shared_slice_known-1.given 1) in
    (omega arith, omega (arith, octet, element_counts s.args.octets.now s.requires.fine))

pub onward_spec : {M : Type 1} → statement M
onward_spec =
    tie.close
    (tie.spec (λ c κs. omega arith) (λ c. let t = c.before in let s = t.before.before in c.found_as.ensures ∙ sym (find_end_lem _ _ s.requires.fine t.if-place-end.true))
    (λ c. let e = c.before in let s = e.before.before in omega (arith, along_inside _ _ s.requires, e.if-place-end.false)) open-at-requires (λ c κs. omega arith)
    (λ c. let o = c.before in let e = o.before.before in let s = e.before.before in
    c.found_as-2.ensures ∙ tile_found _ _ s.requires e.if-place-end.false _ o.open_at-tile.ensures.0))
