-- Each return by the answers that led to it.
use Rattle.prelude.proofs.Prelude.{ne_eqb}
use Rattle.coding.proofs.Reading.{reading, step, gives, stay}
use Rattle.read_figures.proofs.Answers.{surplus}
use Rattle.trunk_read_fields.proofs.{Cited.{arith, rules, storing, goes}, Stores.{zero_clear, user_spare, detailed_spare, diverting_read}}
use Rattle.trunk_read_fields.proofs.{Stores.diverting_arrived, diverting_at.Statement.statement}
use Rattle.trunk_read_fields.proofs.diverting_at.Tie as tie

-- where the number is read
abbrev numbered : tie.Else-a-ne0 → tie.After-number_at-u
numbered c = c.before.before.before.before.before.before

pub diverting_at_spec : {M : Type 1} → statement M
diverting_at_spec =
    tie.close
    (tie.spec (λ c κs. search (rules, zero_clear)) (omega arith) (λ c. (rw diverting_read (search (storing, reading)), search user_spare))
    (λ c κs. search (rules, zero_clear)) (omega arith) (λ c. (rw diverting_read (search (storing, reading)), search user_spare)) (omega arith) (omega arith)
    (λ c.
    let n = numbered c.before.before.before.before in (
      rw diverting_read (
          surplus _ _ c.halted-then-n-ne0.ensures (ne_eqb _ _ c.if-n-ne0.true)
          (goes _ _ _ _ _ c.number_at-u.ensures.0 c.if-u-ne0.false (goes _ _ _ _ _ c.association_at-a.ensures.0 c.if-a-ne0.false (stay _ _ _ _ c.natural_at-n.ensures.0 c.if-n-ne0.true)))),
      search user_spare,
    ))
    (omega arith) (omega arith) (omega arith)
    (λ c.
    let d = c.before.before.before.before.before in
    let a = d.before.before.before in
    let n = numbered d.before in
    let front = n.number_at-u.new.figure in
    let figure = a.association_at-a.new.figure in
    let value = d.natural_at-n.result.value in
    let z = n.before.before.before.requires.1 in (
      rw diverting_read (diverting_arrived _ _ front _ figure z.0 n.number_at-u.ensures.1 z.1 a.association_at-a.ensures.1 c.reached.ensures
          value
          (goes _ _ _ _ _ c.number_at-u.ensures.0 c.if-u-ne0.false (goes _ _ _ _ _ c.association_at-a.ensures.0 c.if-a-ne0.false (step _ _ _ _ c.natural_at-n.ensures.0 c.if-n-ne0.false (gives _ _ _))))),
      detailed_spare _ front z.0 n.number_at-u.ensures.1 value,
    )))
