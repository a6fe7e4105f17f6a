use Rattle.prelude.proofs.Prelude.{le-leb, lt-leb}
use Rattle.read_unit.proofs.is_tariff.Statement.{statement}
use Rattle.read_unit.proofs.is_tariff.Tie as tie

pub is_tariff_spec : {M : Type 1} → statement M
is_tariff_spec = tie.close (tie.spec (λ c. simp (le-leb _ _ c.if-operation-ge-CHARGING_REQUEST.true)) (λ c. simp (lt-leb _ _ c.if-operation-ge-CHARGING_REQUEST.false)))
