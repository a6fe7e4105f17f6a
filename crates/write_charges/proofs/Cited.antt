-- What the proofs of this crate cite again and again, passed on.
pub use Rattle.prelude.proofs.Prelude.{rules, arith, eq-eqb, ne_eqb, ◌-◌}
pub use Rattle.coding.proofs.Tests.{tests}
pub use Rattle.write_tests.specs.inner.Fine.{laid}
