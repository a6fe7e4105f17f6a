-- What is in an extension, passed over: where it ends, or its fault.
use Rattle.std.specs.Prelude.{ℕ, cond, eqb, List}
use Rattle.coding.specs.Reader.{Reader, got, after, entries}
use Rattle.coding.specs.Codec.{Run, cons, pick_run}
use Rattle.any_elements.specs.inner.Forms.{told}
use Rattle.trunk_types.specs.Extensions.{one_extension, in_one, many_extensions, in_list}

unfoldable pub one_told : Reader (Unit {0})
one_told s at end = told (one_extension.read s at end)

unfoldable pub entry_told : Reader (Unit {0})
entry_told s at end = told ((cons 0x30 one_extension).read s at end)

unfoldable pub list_told : Reader (Unit {0})
list_told s at end = told (many_extensions.read s at end)

-- one, or a list where the kind is 2
abbrev pub judge_of : ℕ → Reader (Unit {0})
judge_of kind = cond (eqb kind 2) list_told one_told

abbrev pub inside_of : ℕ → Run (List ℕ)
inside_of kind = pick_run (eqb kind 2) in_list in_one
