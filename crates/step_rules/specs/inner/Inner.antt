-- What the inner functions of the step do with an account. Each is tied to the definition that it serves by a lemma of proofs/Changes.antt.
use Rattle.types.specs.declared.Charge.{Charge}
use Rattle.types.specs.declared.Answer.{Answer}
use Rattle.phases.specs.declared.Outcome.{Outcome}
use Rattle.account.specs.declared.Account.{Account}
use Rattle.account.specs.declared.Change.{Change}
use Rattle.outcomes.specs.Outcome.{judge_answer}
use Rattle.outcomes.specs.Status.{noted}
use Rattle.outcomes.specs.inner.ByNumber.{compared}
use Rattle.account.specs.Step.{known_of, change_by}

-- a final that is claimed is compared with the first one
abbrev pub resolved : Account → Outcome → Charge → Outcome
resolved a = compared (known_of a)

-- what a component changes
abbrev pub taken : Account → Answer → Change
taken a x = change_by (judge_answer (known_of a) x) (noted a.status (judge_answer (known_of a) x)) x.value.charge
