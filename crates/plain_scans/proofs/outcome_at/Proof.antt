use Rattle.phases.specs.declared.Event.{Event}
use Rattle.outcomes.specs.{Outcome.{Known, Requests, charge_in, judge, was}, inner.ByNumber.compared}
use Rattle.account.specs.History.{known, judged}
use Rattle.events.{specs.Events.row_at, specs.inner.Prefix.{octets_at, before}, proofs.Prefix.{turn_inside, part_at}}
use Rattle.plain_scans.specs.inner.Claim.{claim_of}
use Rattle.plain_scans.proofs.Cited.{ℕ, List, ◌+◌, ◌≤◌, ◌≡◌, refl, sym, ◌∙◌, ap, arith, eq-eqb, ne_eqb, length, true}
use Rattle.plain_scans.proofs.{Claims.{claim_service, component_outcome, phase_outcome}, outcome_at.Statement.statement}
use Rattle.plain_scans.proofs.outcome_at.Tie as tie

-- an event that is no component
returns : tie.Need-returns-then-e-ne-COMPONENT
returns c =
    let p = c.before.before.before in
    let r = p.before.before.before in
    let x = r.before.before.before.args in
    cc (
      p.phase_before.ensures x.octets.now,
      phase_outcome (known (judged (before x.rows.now x.octets.now x.k))) r.row_at-e.result (octets_at x.rows.now x.octets.now x.k)
          p.before.if-e-ne-COMPONENT.true,
    )

-- the octets of the event end inside
module _ (n : tie.After-count_at) where
  abbrev row : tie.After-row_at-e
  row = n.before.before.before.before

  abbrev start : tie.Start
  start = row.before.before.before

  ends : n.before.place_of-at.result + n.count_at.result ≤ length start.args.octets.now
  ends =
      turn_inside start.args.rows.now start.args.octets.now start.args.k n.before.place_of-at.ensures n.count_at.ensures
      start.requires.0 start.requires.1

claim_alike : {p p' : ℕ} {q q' : Requests} {o o' : List ℕ} (kind : ℕ) → p ≡ p' → q ≡ q' → o ≡ o' → claim_of p q kind o ≡ claim_of p' q' kind o'
claim_alike kind a b c = rw (a, b, c) refl

-- a component: its outcome, once a final is compared
module _ (o : tie.After-claim-o) where
  abbrev counted : tie.After-count_at
  counted = o.before.before.before

  abbrev begun : tie.Start
  begun = start counted

  abbrev knows : Known
  knows = known (judged (before begun.args.rows.now begun.args.octets.now begun.args.k))

  abbrev own : List ℕ
  own = octets_at begun.args.rows.now begun.args.octets.now begun.args.k

  heard : compared knows o.claim-o.result (charge_in own) ≡ judge knows (row_at begun.args.rows.now begun.args.k) own
  heard =
      component_outcome knows (row counted).row_at-e.result own o.claim-o.result counted.before.before.if-e-ne-COMPONENT.false
      (o.claim-o.ensures
      ∙ claim_alike _ o.before.before.status_before-t.ensures.0 o.before.before.status_before-t.ensures.1
      (part_at begun.args.rows.now begun.args.octets.now begun.args.k counted.before.place_of-at.ensures counted.count_at.ensures))
      ∙ ap (λ (e : Event). judge knows e own) (row counted).row_at-e.ensures

returns-2 : tie.Need-returns-then-o-ne-FINAL
returns-2 c = sym (simp (ne_eqb _ 22 c.if-o-ne-FINAL.true)) ∙ heard c.before.before

final-at-requires : tie.Need-final_at-requires
final-at-requires c κs =
    let o = c.before.before.before in
    let s = begun o in
    let final : was 22 o.claim-o.result ≡ true = eq-eqb _ 22 c.before.if-o-ne-FINAL.false in
    let of_d_or_e = claim_service _ _ _ _ (rw o.claim-o.ensures at final) in
    (record { list = s.requires.0; some = omega (arith, s.requires.1) }, rw o.claim-o.ensures of_d_or_e.0, rw o.claim-o.ensures of_d_or_e.1)

returns-3 : tie.Need-returns
returns-3 c =
    let o = c.before.before.before.before in
    c.final_at.ensures ∙ rw c.before.charge_at.ensures (sym (simp (eq-eqb _ 22 c.before.before.if-o-ne-FINAL.false))) ∙ heard o

pub outcome_at_spec : {M : Type 1} → statement M
outcome_at_spec =
    tie.close
    (tie.spec
    (λ c κs. c.before.before.requires.1)
    (λ c κs. omega (arith, c.before.before.before.before.before.requires.1))
    (omega arith) (omega arith) returns
    (λ c κs. let s = c.before.before.before.before.before in (s.requires.0, omega (arith, s.requires.1)))
    (λ c κs. c.before.before.before.before.before.before.requires.1)
    (λ c. omega (arith, ends c))
    (λ c κs. record { list = (start c).requires.0; some = omega (arith, (start c).requires.1) })
    (omega arith) (omega arith)
    (λ c. omega (arith, ends c.before))
    (omega arith) returns-2
    (λ c κs. (start c.before.before.before.before.before).requires)
    final-at-requires returns-3)
