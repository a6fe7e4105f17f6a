-- What the proofs of this crate cite again and again, passed on.
pub use Rattle.prelude.proofs.Prelude.{arith, rules}
pub use Rattle.coding.proofs.{Tests.tests, Writing.room}
unfoldable pub use Rattle.write_heads.specs.inner.Fronts.{front_fine}
