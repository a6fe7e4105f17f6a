use Rattle.plain.proofs.{Cited.{refl, arith, no_list_lem, a_list}, kept.Statement.statement}
use Rattle.plain.proofs.kept.Tie as tie

pub kept_spec : {M : Type 1} → statement M
kept_spec =
    tie.close
    (tie.spec (omega arith) (omega arith) (λ c. let i = c.before in rw (c.no_charge.ensures, no_list_lem i.before.is_list.ensures i.if-not-is_list.true) refl)
    (λ c κs. a_list c.before.is_list.ensures c.if-not-is_list.false)
    (λ c. let i = c.before in rw (c.kept_at-value.ensures, a_list i.before.is_list.ensures i.if-not-is_list.false) refl))
