-- At each place the first request of what is left is that of the whole element.
use Rattle.prelude.proofs.Prelude.{rules, ℕ, List, ◌-◌, ◌≡◌, sym, ◌∙◌, ap, arith, length, not-true, not-false}
use Rattle.coding.specs.Reader.{part}
use Rattle.element.specs.{Element.element_of, Cut.starts_of, Cut.parts_of}
use Rattle.element_pass.proofs.Going.{Goes, Here, goes_first, goes_on, goes_none}
use Rattle.trace_messages.{specs.Trace.components_in, specs.Trace.first_request, proofs.Walk.in_other, proofs.Walk.in_parts}
use Rattle.trace_setups.specs.inner.Asked.{asked_of}
use Rattle.trace_setups.proofs.{Requests.{asked_here, asked_next}, asked_in.Statement.statement}
use Rattle.trace_setups.proofs.asked_in.Tie as tie

abbrev invariant-loop : tie.invariant-loop-found
invariant-loop s case place₀ found₀ place found =
    (left : List ℕ) × Goes s place found left × (first_request case (parts_of s left) ≡ first_request case (components_in s))

abbrev decreases-loop : tie.decreases-loop-found
decreases-loop s case place₀ found₀ place found = length s - place

-- the function's start, from the loop's place, and the component that is found there
abbrev start : tie.At-loop-found invariant-loop decreases-loop → tie.Start invariant-loop decreases-loop
start l = l.before.before.before.before.before

here : (c : tie.In-loop-found invariant-loop decreases-loop) → let l = c.before.before in Here (start l).args.s.now l.loop-found.place l.loop-found.found l.loop-found.invariant.0
here c = let l = c.before.before in goes_on l.loop-found.invariant.1 c.loop-found-test.true

returns : tie.Need-returns-then-not-is_profiled invariant-loop decreases-loop
returns c =
    let p = c.before in
    let x = p.before.before.args in
    sym (ap (λ (l : List (List ℕ)). asked_of (first_request x.case l)) (in_other x.s.now (sym p.is_profiled.ensures ∙ c.if-not-is_profiled.true)))

loop-holds : tie.Need-loop-found-init invariant-loop decreases-loop
loop-holds c =
    let p = c.before.before in
    let x = p.before.before.args in (
      starts_of (element_of x.s.now),
      goes_first x.s.now c.first-found.ensures,
      ap (first_request x.case) (sym (in_parts x.s.now (sym p.is_profiled.ensures ∙ c.before.if-not-is_profiled.false))),
    )

returns-2 : tie.Need-returns-then-q-ne0 invariant-loop decreases-loop
unfolding part
returns-2 c =
    let q = c.before.before in
    let t = q.before.before in
    let l = t.before.before in
    asked_here _ (here t).parts q.asked_by-q.ensures c.if-q-ne0.true ∙ ap asked_of l.loop-found.invariant.2

loop-again : tie.Need-loop-found-preserved invariant-loop decreases-loop
unfolding part
loop-again c =
    let q = c.before.before.before in
    let t = q.before.before in
    let l = t.before.before in (
      (here t).rest,
      (here t).onward c.onward-found.ensures,
      asked_next _ (here t).parts q.asked_by-q.ensures c.before.if-q-ne0.false ∙ l.loop-found.invariant.2,
    )

returns-3 : tie.Need-returns invariant-loop decreases-loop
returns-3 c =
    let l = c.before.before in
    let x = (start l).args in
    ap asked_of (sym (ap (λ (k : List ℕ). first_request x.case (parts_of x.s.now k)) (goes_none l.loop-found.invariant.1 c.loop-found-test.false)) ∙ l.loop-found.invariant.2)

pub asked_in_spec : {M : Type 1} → statement M
asked_in_spec =
    tie.close
    (tie.spec invariant-loop decreases-loop (search rules) returns (search rules) loop-holds (λ c. omega (arith, (here c).begins, (here c).ends))
    (λ c. omega (arith, (here c).begins, (here c).ends)) (λ c. omega (arith, (here c).begins, (here c).ends)) (search rules) returns-2
    (λ c κs. (here c.before.before.before.before).along)
    (λ c. let h = here c.before.before.before.before.before in omega (arith, h.begins, h.ends)) loop-again returns-3)
