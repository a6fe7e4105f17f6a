-- A final that is claimed, and then compared, is the final judged at once.
use Rattle.prelude.proofs.Prelude.{◌≡◌, Bool, true, false, cond}
use Rattle.types.specs.declared.Record.{Record}
use Rattle.phases.specs.declared.Outcome.{Outcome}
use Rattle.outcomes.specs.{Outcome.Known, Outcome.judge_record, inner.ByNumber.claim_record, inner.ByNumber.compared}

module _ (k : Known) (x : Record) where
  each_way : (b : Bool) (p q p' q' : Outcome) → compared k p x.charge ≡ p' → compared k q x.charge ≡ q' → compared k (cond b p q) x.charge ≡ cond b p' q'
  each_way true p q p' q' e f = e
  each_way false p q p' q' e f = f

  pub resolves : compared k (claim_record k.phase k.pending x.front x.charge.figure.kind x.charge.figure.total) x.charge ≡ judge_record k x
  unfolding claim_record judge_record
  resolves = search each_way depth 12 fits 3000
