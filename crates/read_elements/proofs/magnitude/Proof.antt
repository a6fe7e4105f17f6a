-- The loop's invariant: n is the number that the octets passed say, held at 2^24. The measure is what is left.
use Rattle.prelude.proofs.Prelude.{◌-◌, ◌≤◌, min, arith, ◌≡◌}
use Rattle.coding.{specs.Reader.part, specs.Contents.number_from, proofs.Parts.part_none, proofs.Parts.part_more, proofs.Parts.number_more}
use Rattle.read_elements.proofs.magnitude.Statement.{statement}
use Rattle.read_elements.proofs.magnitude.Tie as tie

abbrev invariant-loop : tie.invariant-loop-i
invariant-loop s start stop n₀ i₀ n i = (start ≤ i) × (i ≤ stop) × (n ≡ min (number_from 0 (part s start i)) 16777216)

abbrev decreases-loop : tie.decreases-loop-i
decreases-loop s start stop n₀ i₀ n i = stop - i

pub magnitude_spec : {M : Type 1} → statement M
unfolding number_from
magnitude_spec =
    tie.close
    (tie.spec invariant-loop decreases-loop
    (λ c.
    let a = c.before.args in
    let h : a.start ≤ a.start = omega arith in
    (omega arith, omega arith, rw (part_none a.s.now _ _ h)))
    (λ c. omega arith) (λ c κs. tt) (λ c. omega arith) (λ c. omega arith)
    (λ c.
    let c3 = c.before.before.before in
    let l = c3.loop-i in
    let a = c3.before.before.args in
    let p = part_more a.s.now a.start l.i l.invariant.0 (omega arith) in
    (omega arith, omega arith, rw (p, number_more) (omega arith)))
    (λ c.
    let e : c.before.loop-i.i ≡ c.before.before.before.args.stop = omega arith in
    rw (← e) c.before.loop-i.invariant.2))
