use Rattle.plain_lists.proofs.told_set.Statement.{statement}
use Rattle.plain_lists.proofs.told_set.Tie as tie

pub told_set_spec : {M : Type 1} → statement M
told_set_spec =
    tie.close
    (tie.spec (λ c κs. c.before.before.requires) (λ c κs. c.before.before.before.requires) (λ c κs. c.before.before.before.before.requires)
    (λ c. rw (c.told-e.ensures, c.before.told-d.ensures, c.before.before.told-s.ensures)))
