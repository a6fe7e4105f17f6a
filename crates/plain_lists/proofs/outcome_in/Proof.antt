use Rattle.prelude.proofs.Prelude.{sym, ◌∙◌, ap, arith, []}
use Rattle.events.specs.Events.{events_of}
use Rattle.plain_lists.specs.Lists.{outcome_at}
use Rattle.plain_lists.proofs.{Numbered.{none_at_lem, outcome_numbered, outcome_past}, outcome_in.Statement.statement}
use Rattle.plain_lists.proofs.outcome_in.Tie as tie

returns : tie.Need-returns-then-k-eq0
returns c =
    let x = c.before.before.before.args in
    sym (ap (outcome_at [] (events_of x.rows.now x.octets.now)) c.if-k-eq0.true ∙ none_at_lem [] (events_of x.rows.now x.octets.now))

returns-2 : tie.Need-returns-then-k-n
returns-2 c =
    let x = c.before.before.before.before.args in
    sym (outcome_past x.rows.now x.octets.now x.k (omega (arith, c.if-k-n.true)))

outcome-at-requires : tie.Need-outcome_at-requires
outcome-at-requires c κs =
    let i = c.before in
    let s = i.before.before.before in
    (s.requires, omega (arith, c.if-k-n.false, i.if-k-eq0.false))

returns-3 : tie.Need-returns
returns-3 c =
    let j = c.before in
    let i = j.before in
    let x = i.before.before.before.args in
    outcome_numbered x.rows.now x.octets.now x.k i.if-k-eq0.false (omega (arith, j.if-k-n.false)) c.outcome_at.result c.outcome_at.ensures

pub outcome_in_spec : {M : Type 1} → statement M
outcome_in_spec = tie.close (tie.spec returns returns-2 (omega arith) outcome-at-requires returns-3)
