use Rattle.std.proofs.Common.{arith, rules, ◌≡◌, sym, ◌∙◌, true, false}
use Rattle.std.specs.Str.{bytes_eq}
use Rattle.std.proofs.Common.{take}
use Rattle.same_final.specs.Same.{equal_units}
use Rattle.same_final.proofs.Rows.{by_rows}
use Rattle.same_final.proofs.same_entries.Goals as goal

pub returns-then-eq : goal.returns-then-eq
unfolding equal_units
returns-then-eq c =
    let n = c.places-n.result in
    let t : bytes_eq (take n c.args.a.numbers) (take n c.args.b.numbers) ≡ true = sym c.eq.ensures ∙ c.if-eq.true in
    rw (← c.places-n.ensures.0, ← by_rows c.args.a c.args.b (search rules) (search rules) (search rules) (search rules) n (omega arith), t) c.eq-then-eq.ensures

pub returns-else-eq : goal.returns-else-eq
unfolding equal_units
returns-else-eq c =
    let n = c.places-n.result in
    let t : bytes_eq (take n c.args.a.numbers) (take n c.args.b.numbers) ≡ false = sym c.eq.ensures ∙ c.if-eq.false in
    rw (← c.places-n.ensures.0, ← by_rows c.args.a c.args.b (search rules) (search rules) (search rules) (search rules) n (omega arith), t) c.if-eq.false
