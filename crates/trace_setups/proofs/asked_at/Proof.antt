use Rattle.prelude.proofs.Prelude.{rules, ◌∙◌, sym, ap, arith, List, ℕ}
use Rattle.coding.specs.Reader.{part}
use Rattle.trace_messages.{specs.Trace.first_request, proofs.Walk.at_under, proofs.Walk.at_other, proofs.Walk.at_facility}
use Rattle.trace_setups.specs.{declared.Asked.Asked, inner.Asked.asked_of}
use Rattle.trace_setups.proofs.asked_at.Statement.{statement}
use Rattle.trace_setups.proofs.asked_at.Tie as tie

-- the first request among components that are known
abbrev asked : ℕ → List (List ℕ) → Asked
asked case l = asked_of (first_request case l)

returns : tie.Need-returns-then-under-ne0
returns c = let x = c.before.before.args in sym (ap (asked x.case) (at_under x.s.now x.at x.under c.if-under-ne0.true))

returns-2 : tie.Need-returns-then-s-at-ne28
returns-2 c =
    let x = c.before.before.before.before.args in
    sym (ap (asked x.case) (at_other x.s.now x.at x.under c.before.before.if-under-ne0.false c.if-s-at-ne28.true))

returns-3 : tie.Need-returns
unfolding part
returns-3 c =
    let i = c.before.before in
    let s = i.before.before.before.before in
    let x = s.args in
    c.asked_in.ensures ∙ sym (ap (asked x.case) (at_facility x.s.now x.at x.under x.next i.before.before.if-under-ne0.false i.if-s-at-ne28.false s.requires.2))

pub asked_at_spec : {M : Type 1} → statement M
asked_at_spec =
    tie.close (tie.spec returns (λ c. let s = c.before.before.before in omega (arith, s.requires.0, s.requires.1)) returns-2 (omega arith) (omega arith) (omega arith) (search rules) returns-3)
