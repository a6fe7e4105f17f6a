-- At each place the first request of what is left is that of the whole message.
use Rattle.prelude.proofs.Prelude.{rules, ℕ, ◌-◌, ◌≡◌, refl, sym, ◌∙◌, ap, arith, ◌++◌, length, get_or}
use Rattle.trace_framing.{specs.Framing.Elements, proofs.Laws.end_past, proofs.Laws.elements_on}
use Rattle.trace_messages.specs.Trace.{components_at, under_after, components_left, components_after, first_request}
use Rattle.trace_messages.proofs.Walk.{components_more, from_over}
use Rattle.trace_setups.specs.inner.Asked.{asked_of}
use Rattle.trace_setups.proofs.{Requests.among_first, Requests.among_rest, asked_from.Statement.statement}
use Rattle.trace_setups.proofs.asked_from.Tie as tie

abbrev invariant-loop : tie.invariant-loop-at
invariant-loop s start case end under₀ at₀ under at = Elements s at × (first_request case (components_left s at under) ≡ first_request case (components_after s start))

abbrev decreases-loop : tie.decreases-loop-at
decreases-loop s start case end under₀ at₀ under at = length s - at

-- the function's start and the loop's place, from where an element's end is known
abbrev loop : tie.After-element_end-next invariant-loop decreases-loop → tie.At-loop-at invariant-loop decreases-loop
loop e = e.before.before

abbrev start : tie.After-element_end-next invariant-loop decreases-loop → tie.Start invariant-loop decreases-loop
start e = (loop e).before.before

-- the elements after the one at the loop's place, and the requests of all that is left there
onward : (e : tie.After-element_end-next invariant-loop decreases-loop) → Elements (start e).args.s.now e.element_end-next.result
onward e = elements_on (loop e).loop-at.invariant.0 e.before.loop-at-test.true e.element_end-next.ensures

all : (e : tie.After-element_end-next invariant-loop decreases-loop) → let x = (start e).args in let l = (loop e).loop-at in
    first_request x.case (components_left x.s.now l.at l.under)
    ≡ first_request x.case (components_at x.s.now l.at l.under
    ++ components_left x.s.now e.element_end-next.result (under_after l.under (get_or x.s.now l.at 0)))
all e =
    let l = (loop e).loop-at in
    ap (first_request (start e).args.case) (components_more l.invariant.0 e.before.loop-at-test.true e.element_end-next.ensures l.under)

asked-at-requires : tie.Need-asked_at-q-requires invariant-loop decreases-loop
asked-at-requires c κs = let is = c.element_end-next.ensures in (omega (arith, is, end_past (start c).args.s.now (loop c).loop-at.at), (onward c).place, is)

returns : tie.Need-returns-then-q-ne0 invariant-loop decreases-loop
returns c =
    let q = c.before.before in
    let e = q.before in
    among_first (start e).args.case (components_at (start e).args.s.now (loop e).loop-at.at (loop e).loop-at.under) _ q.asked_at-q.ensures c.if-q-ne0.true
    ∙ ap asked_of (sym (all e) ∙ (loop e).loop-at.invariant.1)

loop-less : tie.Need-loop-at-smaller invariant-loop decreases-loop
loop-less c =
    let e = c.before.before.before.before.before in
    omega (arith, e.element_end-next.ensures, end_past (start e).args.s.now (loop e).loop-at.at, e.before.loop-at-test.true, (onward e).place)

loop-again : tie.Need-loop-at-preserved invariant-loop decreases-loop
loop-again c =
    let q = c.before.before.before.before in
    let e = q.before in
    let x = (start e).args in (
      onward e,
      ap (λ (u : ℕ). first_request x.case (components_left x.s.now e.element_end-next.result u)) c.under_after-under.ensures
          ∙ sym (among_rest x.case (components_at x.s.now (loop e).loop-at.at (loop e).loop-at.under) _ q.asked_at-q.ensures c.before.before.if-q-ne0.false)
          ∙ sym (all e) ∙ (loop e).loop-at.invariant.1,
    )

returns-2 : tie.Need-returns invariant-loop decreases-loop
returns-2 c =
    let l = c.before in
    let x = l.before.before.args in
    let over = from_over x.s.now l.loop-at.at l.loop-at.under l.loop-at.invariant.0.place c.loop-at-test.false in
    ap asked_of (sym (ap (first_request x.case) over) ∙ l.loop-at.invariant.1)

pub asked_from_spec : {M : Type 1} → statement M
asked_from_spec =
    tie.close
    (tie.spec invariant-loop decreases-loop (λ c. (c.before.requires, refl)) (λ c κs. c.loop-at-test.true) asked-at-requires returns
    (λ c. let e = c.before.before.before.before in e.before.loop-at-test.true) (search rules) loop-less loop-again returns-2)
