use Rattle.prelude.proofs.Prelude.{◌∙◌, refl, sym, arith, eq-eqb, ne_eqb, List, reverse}
use Rattle.phases.specs.Phases.{Given}
use Rattle.events.specs.Events.{events_of}
use Rattle.plain_lists.proofs.{Figures.closing_kept, closing_in.Statement.statement}
use Rattle.plain_lists.proofs.closing_in.Tie as tie

module _ (p : tie.After-phase_in) where
  abbrev start : tie.Start
  start = p.before.before.before

  abbrev events : List Given
  events = reverse (events_of start.args.rows.now start.args.octets.now)

returns : tie.Need-returns-then-phase_in-ne-ENDED
returns c =
    let p = c.before.before in
    c.no_closing.ensures ∙ sym (rw (ne_eqb _ 4 c.before.if-phase_in-ne-ENDED.true)) ∙ closing_kept (events p) p.phase_in.ensures refl refl

returns-2 : tie.Need-returns-then-e-ne-NONE
returns-2 c =
    let e = c.before.before in
    let p = e.before.before in
    sym (rw (eq-eqb _ 4 e.before.if-phase_in-ne-ENDED.false, ne_eqb _ 0 c.if-e-ne-NONE.true)) ∙ closing_kept (events p) p.phase_in.ensures e.kept_at-e.ensures refl

returns-3 : tie.Need-returns-then-d-ne-NONE
returns-3 c =
    let d = c.before.before in
    let e = d.before.before.before in
    let p = e.before.before in
    sym (rw (eq-eqb _ 4 e.before.if-phase_in-ne-ENDED.false, eq-eqb _ 0 d.before.if-e-ne-NONE.false, ne_eqb _ 0 c.if-d-ne-NONE.true))
    ∙ closing_kept (events p) p.phase_in.ensures e.kept_at-e.ensures d.kept_at-d.ensures

returns-4 : tie.Need-returns
returns-4 c =
    let d = c.before.before.before in
    let e = d.before.before.before in
    let p = e.before.before in
    c.no_closing-2.ensures
    ∙ sym (rw (eq-eqb _ 4 e.before.if-phase_in-ne-ENDED.false, eq-eqb _ 0 d.before.if-e-ne-NONE.false, eq-eqb _ 0 c.before.if-d-ne-NONE.false))
    ∙ closing_kept (events p) p.phase_in.ensures e.kept_at-e.ensures d.kept_at-d.ensures

pub closing_in_spec : {M : Type 1} → statement M
closing_in_spec =
    tie.close (tie.spec (λ c κs. c.before.before.requires) (omega arith) returns (λ c κs. (start c.before).requires) returns-2
    (λ c κs. (start c.before.before.before.before).requires) returns-3 (omega arith) returns-4)
