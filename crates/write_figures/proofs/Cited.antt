-- What the proofs of this crate cite again and again, passed on.
pub use Rattle.prelude.proofs.Prelude.{arith, rules, ap, length}
pub use Rattle.coding.proofs.Writing.{room_as}
pub use Rattle.write_elements.proofs.Parts.{room_2, room_3, wrote_is, wrote_nothing, wrote_two, wrote_three}
