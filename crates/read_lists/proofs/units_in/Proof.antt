-- The arrays hold the entries read so far, and there are at most 32.
use Rattle.prelude.proofs.Prelude.{◌-◌, ◌*◌, arith, refl}
use Rattle.coding.specs.Codec.{canonical, over, some_more}
use Rattle.types.specs.{Entries.unit, Entries.unit_numbers, Entries.unit_octets, Entries.no_units, Arguments.in_units}
use Rattle.read_lists.proofs.{Kept.Kept, Kept.keeping, Kept.kept_start, Kept.kept_more, Clear.clear, units_in.Statement.statement}
use Rattle.read_lists.proofs.units_in.Tie as tie

abbrev invariant-loop : tie.invariant-loop-i
invariant-loop s at end figure₀ numbers₀ rows₀ count₀ i₀ numbers rows count i = Kept 32 unit.read unit_numbers unit_octets s at end numbers rows count i

abbrev decreases-loop : tie.decreases-loop-i
decreases-loop s at end figure₀ numbers₀ rows₀ count₀ i₀ numbers rows count i = 32 - count

pub units_in_spec : {M : Type 1} → statement M
unfolding in_units canonical over some_more
units_in_spec =
    tie.close
    (tie.spec invariant-loop decreases-loop (λ c. omega arith) (λ c. search (keeping, clear)) (λ c. search kept_start) (λ c. omega arith) (λ c. omega arith)
    (λ c. search (keeping, clear)) (λ c. omega arith) (λ c. search (keeping, clear)) (λ c. omega arith) (λ c. omega arith) (λ c. search (keeping, clear)) (λ c. omega arith)
    (λ c. omega arith) (λ c. omega arith)
    (λ c.
    let v = c.before.before.before in
    let u = v.before.before.before in
    let l = u.before.before.before.loop-i in
    kept_more _ _ _ _ _ _ _ l.invariant 1 2 l.count (2 * l.count) no_units (λ u. refl) (λ u. refl) (omega arith) refl (omega arith) (omega arith)
    u.before.before.loop-i-test.true (omega arith) u.unit_at-u.ensures v.before.if-u-ne0.false c.keep_unit.ensures.0 c.keep_unit.ensures.1)
    (λ c. omega arith) (λ c. omega arith) (λ c. omega arith) (λ c. omega arith) (λ c. search (keeping, clear)))
