-- A manufacturer's extension: A1 with one, A2 with a list, or none. Its contents are kept in their normal form, at most 242 octets.
use Rattle.std.specs.Prelude.{ℕ, List, [], ◌∷◌, Bool, true, ◌&&◌, cond, length, take, replicate, ltb, eqb}
use Rattle.coding.specs.Reader.{Fault, Ruling}
use Rattle.coding.specs.Codec.{Run, prim, cons, nothing, pair, any_more, sort, canonical, same_list, pad}
use Rattle.coding.specs.Normal.{as_judged, Any, any_element, normal_form}
use Rattle.trunk_types.specs.declared.Extension.{Extension}

abbrev pub no_extension : Extension
no_extension = record { kind = 0; count = 0; octets = replicate 242 0 }

abbrev pub same_extension : Extension → Extension → Bool
same_extension x y = eqb x.kind y.kind && (eqb x.count y.count && same_list eqb x.octets y.octets)

-- ---- what is in one: 06 identifier, and one element of any tag

-- an identifier's numbers: each ends with an octet below 80, and none begins with 80, which would not be shortest
unfoldable pub arcs : Bool → List ℕ → Ruling (Unit {0})
arcs fresh [] = cond fresh (Ruling.good tt) (Ruling.bad Fault.contents)
arcs fresh (x ∷ xs) = cond (fresh && eqb x 0x80) (Ruling.bad Fault.shortest) (arcs (ltb x 0x80) xs)

unfoldable pub object_identifier : List ℕ → Ruling (Unit {0})
object_identifier xs = cond (eqb (length xs) 0) (Ruling.bad Fault.shortest) (arcs true xs)

unfoldable pub one_extension : Run (List ℕ × Any)
one_extension = pair (prim 0x06 (as_judged object_identifier)) any_element

unfoldable pub in_one : Run (List ℕ)
in_one = normal_form 242 one_extension

-- ---- in a list: any number of 30 with one
unfoldable pub many_extensions : Run (List (List ℕ × Any))
many_extensions = any_more 0x30 254 (cons 0x30 one_extension)

unfoldable pub in_list : Run (List ℕ)
in_list = normal_form 242 many_extensions

-- ---- the types

abbrev pub extension_by : ℕ → List ℕ → Extension
extension_by k xs = record { kind = k; count = length xs; octets = pad 242 0 xs }

abbrev pub kept_octets : Extension → List ℕ
kept_octets x = take x.count x.octets

abbrev pub is_extension : ℕ → Extension → Bool
is_extension k x = eqb x.kind k

unfoldable pub extension_at : ℕ → ℕ → Run (List ℕ) → Run Extension
extension_at tag kind inside = canonical (extension_by kind) kept_octets same_extension (cons tag inside)

unfoldable pub unextended : Run Extension
unextended = canonical (λ u. no_extension) (λ x. tt) same_extension nothing

-- one or a list
unfoldable pub some_extension : Run Extension
some_extension = sort 0xa1 (is_extension 1) (extension_at 0xa1 1 in_one) (extension_at 0xa2 2 in_list)

-- or none
unfoldable pub any_extension : Run Extension
any_extension = sort 0xa1 (is_extension 1) (extension_at 0xa1 1 in_one) (sort 0xa2 (is_extension 2) (extension_at 0xa2 2 in_list) unextended)

-- the parameter of error 1008: 30 with one, or none
unfoldable pub parameter : Run Extension
parameter = sort 0x30 (is_extension 1) (extension_at 0x30 1 in_one) unextended
