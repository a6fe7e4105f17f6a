-- What proofs take from the toolchain's libraries. Nothing is defined here.
pub use Prim.Native.Nat.{◌%◌, ◌*◌, ◌+◌, ◌-◌, ◌/◌, ◌<◌, ◌^◌, ◌≤◌, min, suc, zero, zero-le, ℕ}
pub use borrow.Author.Count.{below_more}
pub use borrow.Author.Rules.{length_unmapped, rules}
pub use borrow.Author.Tests.{eq-eqb, eqb-false, eqb-true, le-leb, le-ltb, leb-false, leb-true, lt-leb, lt-ltb, ltb-false, ltb-true, ne_eqb, not-false, not-true}
pub use borrow.Fn.PlainCycle.{Measures}
pub use lib.Arith.{digits_div, digits_lt, mod-mul}
pub use lib.Count.{leading_top, count_leading_zeros}
pub use lib.Dec.{T, eqb, eqb→eq, leb, leb-zero as leb_zero, leb→le, le→leb, lit<, ltb}
pub use lib.Ieee.{Float, binary64, down, fin, inf, nan, to_unsigned, up}
unfoldable pub use lib.Ieee.{div, in_float, of_bits, of_int, round}
pub use lib.Ieee.Back.{round_whole, unsigned_back}
pub use lib.Ieee.Bits.{is_false}
pub use lib.Ieee.Exact.{HasValue}
pub use lib.Ieee.Scale.{round_same}
pub use lib.IntN.{◌+ℤ◌, negsuc, pos, ℤ}
pub use lib.ListN.{get_or-append as List·getD-append, get_or-eq_default as List·getD-eq-default, drop, get_or, length, length-append, length-drop, length-replicate, length-set, length-take, replicate}
pub use lib.ListN.{set, take, take-append-drop}
pub use lib.Pow.{pow-add, pow_mono, pow_pos}
pub use lib.Seq.{drop-append-add, drop-append_seam, drop_at, drop-cons, drop-drop, drop-length, drop-set-add, drop-set-lt, get_or-append-add, get_or-drop}
pub use lib.Seq.{get_or-take, length-take-le, set_at, sets, sets-eq, take-add, take_all, take-append-le, take-append_seam, take_at, take-length, take-set-le}
pub use lib.Seq.{take-suc, take-suc-set, take-take}
pub use mathlib.Core.Bool.{Bool, ◌&&◌, ◌||◌, and_comm, and-false, cond, false, not, or-false, or-true, true, true≢false}
pub use mathlib.Core.List.{List, [], ◌++◌, ◌∷◌, append_assoc, append-nil, map, reverse, reverse_aux}
pub use mathlib.Core.Logic.{◌↔◌, ◌⊎◌, inl, inr}
pub use mathlib.Core.Option.{Option, none, some}
pub use mathlib.Core.Path.{◌∙◌, ◌≡◌, ap, ap₂, refl, subst, sym}
pub use native.Mathlib.Decide.{dec_lt, ℕ_discrete}
pub use native.Mathlib.Nat.{add-suc, add-zero, div-lt_iff_lt-mul, le-pred_of_lt, lt_of_not-le, mod-add-div, mod-eq_of_lt, mod_self, mul-add-div_right, mul_comm, mul-le-mul_left}
pub use native.Mathlib.Nat.{mul-le-mul_right, mul-suc, mul-zero, not-suc-le-zero, one-mul, pow-le-pow_right, pow-suc, sub-zero, suc-add, suc-mul, zero-add}
pub use native.Mathlib.Numerals.{add-one, towards_suc}
pub use native.Mathlib.Omega.{arith}
