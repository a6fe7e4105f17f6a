-- What the proofs of this crate cite again and again, passed on.
use Rattle.prelude.proofs.Prelude.{◌≡◌, Bool, true, false}
pub use Rattle.prelude.proofs.Prelude.{sym, ◌∙◌, ap, refl, arith}
pub use Rattle.plain_lists.specs.Lists.{history}

-- whether the slices are a list, from what the code's test is told of it
pub no_list_lem : {b t : Bool} → b ≡ t → b ≡ false → t ≡ false
no_list_lem e n = sym e ∙ n

pub a_list : {b t : Bool} → b ≡ t → b ≡ true → t ≡ true
a_list e n = sym e ∙ n
