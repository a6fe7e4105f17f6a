-- What the proofs of this crate cite again and again, passed on.
pub use Rattle.prelude.proofs.Prelude.{arith}
pub use Rattle.coding.proofs.{Reading.reading, Tests.tests}
unfoldable pub use Rattle.read_heads.specs.inner.Heads.{contents_of, rest_of}
