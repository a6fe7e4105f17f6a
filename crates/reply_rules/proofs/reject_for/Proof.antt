-- Each test that was taken or left picks the same branch of the definition.
use Rattle.prelude.proofs.Prelude.{arith}
use Rattle.coding.proofs.Tests.{tests}
use Rattle.reply_rules.proofs.reject_for.Statement.{statement}
use Rattle.reply_rules.proofs.reject_for.Tie as tie

pub reject_for_spec : {M : Type 1} → statement M
reject_for_spec =
    tie.close
    (tie.spec (omega arith) (λ c. search tests) (omega arith) (λ c. search tests) (omega arith) (λ c. search tests) (omega arith) (λ c. search tests)
    (omega arith) (λ c. search tests) (omega arith) (λ c. search tests) (omega arith) (λ c. search tests) (omega arith) (λ c. search tests))
