-- What the proofs of this crate cite again and again, passed on.
pub use Rattle.prelude.proofs.Prelude.{arith, rules, ne_eqb, eq-eqb}
pub use Rattle.coding.proofs.Tests.{tests}
pub use Rattle.write_tests.proofs.Truth.{zero_first}
