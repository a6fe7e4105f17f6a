-- What the proofs of this crate cite again and again, passed on.
pub use Rattle.prelude.proofs.{Prelude.{arith, refl, ne_eqb, ◌+◌, ◌-◌, ◌≤◌, ◌≡◌, false, sym, ◌∙◌, length, eq-eqb, ap, true, ℕ, List}, Ways.ways}
unfoldable pub use Rattle.events.specs.inner.Prefix.{before}
