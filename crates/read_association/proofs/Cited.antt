-- What the proofs of this crate cite again and again, passed on.
pub use Rattle.prelude.proofs.Prelude.{arith, rules, refl}
pub use Rattle.read_figures.proofs.Answers.{storing, surplus, arrived, closes}
