-- An array of ten places is its own first ten.
use Rattle.prelude.proofs.Prelude.{◌≤◌, arith, sym, ap, ◌∙◌, length, length-take, sets, take-append-le}
use Rattle.coding.specs.Codec.{pad}
use Rattle.read_rate.proofs.keep_text.Statement.{statement}
use Rattle.read_rate.proofs.keep_text.Tie as tie

pub keep_text_spec : {M : Type 1} → statement M
unfolding pad
keep_text_spec =
    tie.close
    (tie.spec (omega arith) (λ c κs. (omega arith, record { fits = omega (arith, length-take 10 c.args.text) }))
    (λ c.
    let a = c.args in
    let h : 10 ≤ length a.text = omega arith in
    c.put_octets.ensures.stored ∙ ap (sets a.rows.now a.at) (sym (take-append-le 10 a.text _ h))))
