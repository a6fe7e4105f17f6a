-- The length, then the component, then its answer.
use Rattle.prelude.proofs.Prelude.{arith, rules, refl, ap, sym, ◌∙◌}
use Rattle.coding.specs.Reader.{part}
use Rattle.types.specs.Stored.{figure_in}
use Rattle.trunk_types.specs.{Stored.body_in, Stored.trunk_in, Components.no_trunk, Components.trunk_accepted}
use Rattle.read_figures.proofs.Answers.{is_stored}
use Rattle.trunk_read.proofs.{Whole.too_long, Whole.accepts, Whole.refuses, Whole.placed, Whole.one_octet, read_into.Statement.statement}
use Rattle.trunk_read.proofs.read_into.Tie as tie

pub read_into_spec : {M : Type 1} → statement M
unfolding trunk_in body_in figure_in part
read_into_spec =
    tie.close
    (tie.spec (λ c. (too_long _ c.if-octets-gt254.true, refl))
    (λ c κs. (omega arith, record { front_bare = refl; extension_bare = refl; charge_bare = record { figure_blank = refl; numbers_blank = refl; rows_blank = refl } }))
    (λ c.
    let r = c.before.before in
    let short = r.before.before.before.before.before.before in
    let e = r.component_at-r.ensures in
    (ap trunk_accepted (sym (is_stored no_trunk _ c.if-r-eq0.true)) ∙ accepts _ short.if-octets-gt254.false e.0 c.if-r-eq0.true, e.1))
    (search rules) (search rules) (search rules)
    (λ c.
    let n = c.before in
    let bad = n.before.before.before.before.before.before in
    let r = bad.before.before in
    let short = r.before.before.before.before.before.before in
    (rw (c.offset_of-offset.ensures, one_octet _ _ (placed _ short.if-octets-gt254.false r.component_at-r.ensures.0), n.number_of-number.ensures) (refuses _ short.if-octets-gt254.false r.component_at-r.ensures.0 bad.if-r-eq0.false), refl)))
