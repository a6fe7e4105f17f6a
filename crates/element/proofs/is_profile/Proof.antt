use Rattle.prelude.proofs.Prelude.{eq-eqb, ne_eqb}
use Rattle.element.specs.Element.{is_profile}
use Rattle.element.proofs.is_profile.Statement.{statement}
use Rattle.element.proofs.is_profile.Tie as tie

pub is_profile_spec : {M : Type 1} → statement M
is_profile_spec =
    tie.close (tie.spec (λ c. unfold is_profile in simp (eq-eqb _ 0x91 c.if-octet-eq145.true))
    (λ c. unfold is_profile in simp (ne_eqb _ 0x91 c.if-octet-eq145.false)))
