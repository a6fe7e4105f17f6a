use Rattle.prelude.proofs.Prelude.{◌≡◌, sym, ap, ◌∙◌, arith, length}
use Rattle.coding.proofs.Basic.{picked}
use Rattle.types.specs.{Arguments.charge_of, Stored.with_list}
use Rattle.write_heads.specs.inner.Halves.{charge_octets}
use Rattle.write.proofs.{Octets.put_body_1, Octets.put_body_2, Octets.put_body_3, Octets.put_body_4, Fits.operation_range, Fits.its_front, Fits.its_charge}
use Rattle.write.proofs.{put_body.Statement.statement}
use Rattle.write.proofs.put_body.Tie as tie

put-front-requires : tie.Need-put_front-p-requires
put-front-requires c κs =
    let s = c.before.before in
    let a = s.args in
    (its_front a.f (with_list a.figure a.numbers.now a.rows.now) s.requires.0.0, s.requires.1.0.1, search put_body_1)

put-charge-requires : tie.Need-put_charge-requires
put-charge-requires c κs =
    let c3 = c.before.before.before in let c6 = c3.before.before.before in
    let s = c6.before.before in
    let a = s.args in
    let x = with_list a.figure a.numbers.now a.rows.now in
    let q = sym c.before.before.is_charged.ensures ∙ c.before.if-is_charged.true in
    let v = s.requires.0.0 in
    let e : charge_octets a.f x ≡ (charge_of a.f.operation).write x = picked _ _ q in
    (operation_range a.f (its_front a.f x v) q, (s.requires.0.1, (its_charge a.f x v q, (omega (arith, ap length e, s.requires.1.0), search put_body_2))))

pub put_body_spec : {M : Type 1} → statement M
put_body_spec =
    tie.close
    (tie.spec put-front-requires (λ c κs. omega arith) put-charge-requires (λ c. omega arith) (λ c. search put_body_3) (λ c. omega arith)
    (λ c. search put_body_4))
