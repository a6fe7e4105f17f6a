-- As the number is looked up.
use Rattle.prelude.proofs.Prelude.{ℕ, arith, sym, ◌∙◌, eq-eqb, ne_eqb}
use Rattle.read_heads.specs.inner.Heads.{known_in, unknown_in, looked_up}
use Rattle.read_heads.proofs.{Codes.{has_below, known_low}, values.value_long.Statement.statement}
use Rattle.read_heads.proofs.values.value_long.Tie as tie

abbrev frame : tie.After-number_at-n → ℕ
frame n = n.before.before.args.frame

pub value_long_spec : {M : Type 1} → statement M
unfolding looked_up
value_long_spec =
    tie.close
    (tie.spec (omega arith) (omega arith)
    (λ c.
    let n = c.before.before.before in
    let looked = n.number_at-n.ensures (unknown_in (frame n)) (known_in (frame n)) (known_low (frame n)).0 in
    rw c.no_number.ensures (rw (ne_eqb _ _ c.before.if-n-ne0.true) at looked, omega arith)) (omega arith)
    (λ c.
    let k = c.before in
    let n = k.before.before.before in
    let looked = n.number_at-n.ensures (unknown_in (frame n)) (known_in (frame n)) (known_low (frame n)).0 in
    let known = sym k.is_known.ensures ∙ c.if-is_known.true in
    (rw (eq-eqb _ _ k.before.if-n-ne0.false, known) at looked, has_below 256 _ _ (known_low (frame n)).1 known)) (omega arith) (omega arith)
    (λ c.
    let e = c.before.before in
    let k = e.before in
    let n = k.before.before.before in
    let looked = n.number_at-n.ensures (unknown_in (frame n)) (known_in (frame n)) (known_low (frame n)).0 in
    let strange = sym k.is_known.ensures ∙ e.if-is_known.false in
    rw (c.no_number-2.ensures, c.before.unknown.ensures)
    (rw (eq-eqb _ _ k.before.if-n-ne0.false, strange) at looked, omega arith)))
