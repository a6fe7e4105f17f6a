use Rattle.std.proofs.Common.{ℕ, ◌≡◌, Bool, sym, ◌∙◌, arith}
use Rattle.types.specs.{Entries.unit_at, declared.Entries.Entries}
use Rattle.octets.proofs.Each.{each_fails, each_more}
use Rattle.fault_rules.specs.Figures.{nothing_by}
use Rattle.fault_rules.proofs.zero_units.Goals as goal

abbrev test : Entries → ℕ → Bool
test e k = nothing_by (unit_at e k).known (unit_at e k).number

pub returns-then-not-is_nothing : goal.returns-then-not-is_nothing
returns-then-not-is_nothing c = sym (rw (← c.places-n.ensures.0) (each_fails _ (test c.args.e) _ c.loop-i-test.true (sym c.is_nothing.ensures ∙ c.if-not-is_nothing.true)))

pub loop-i-preserved : goal.loop-i-preserved
loop-i-preserved c = each_more _ (test c.args.e) c.loop-i.invariant (sym c.is_nothing.ensures ∙ c.if-not-is_nothing.false)

pub returns : goal.returns
returns c = let done : c.loop-i.i ≡ c.places-n.result = omega arith in sym (rw (← c.places-n.ensures.0, ← done) c.loop-i.invariant)
