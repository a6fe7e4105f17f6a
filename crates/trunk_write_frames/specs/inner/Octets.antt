-- What a frame of a trunk's component holds, as it lies in the caller's parts. For the writer's inner functions.
use Rattle.std.specs.Prelude.{ℕ, ◌+◌, ◌*◌, ◌≤◌, ◌≡◌, true, cond, List, [], ◌∷◌, ◌++◌, length, get_or, eqb}
use Rattle.coding.specs.Codec.{Run, prim, pick_run, length_octets, write_all}
use Rattle.coding.specs.Rows.{table}
use Rattle.coding.specs.Leaves.{number, identifier}
use Rattle.coding.specs.inner.Written.{Room, lead, full_number}
use Rattle.types.specs.declared.Association.{Association}
use Rattle.types.specs.Charges.{party_number, association}
use Rattle.types.specs.Stored.{two, association_in}
use Rattle.trunk_types.specs.declared.Extension.{Extension}
use Rattle.trunk_types.specs.declared.Body.{Body}
use Rattle.trunk_types.specs.declared.Parts.{Parts}
use Rattle.trunk_types.specs.declared.Trunk.{Trunk}
use Rattle.trunk_types.specs.Extensions.{kept_octets}
use Rattle.trunk_types.specs.Bodies.{dummy, extended, address}
use Rattle.trunk_types.specs.Components.{trunk_frame}
use Rattle.trunk_types.specs.Stored.{modes_in, extension_in, body_in, lent_charge, trunk_of}
use Rattle.trunk_types.specs.inner.Forms.{inner_in, inner_of}

-- a value that may be put from a place on: it is valid, it has at most so many octets, and there is room for them
pub record Fits {A : Type 0} (f : Run A) (x : A) (most : ℕ) (buf : List ℕ) (at : ℕ) : Type 0 where
  pub valid : f.valid x ≡ true
  pub few : length (f.write x) ≤ most
  pub room : Room buf at (f.write x)

-- ---- what is in lent parts, and the whole but the lead, and but the extension too

abbrev pub inner : Parts → Body
inner p = inner_in p.front.now (lent_charge p)

abbrev pub body : Parts → Body
body p = body_in p.front.now p.extension.now (lent_charge p)

abbrev pub whole : Parts → Trunk
whole p = trunk_of p

-- ---- the extension: its octets as they were received, under a tag

abbrev pub extension_octets : ℕ → Extension → List ℕ
extension_octets tag x = tag ∷ length_octets (length (kept_octets x)) ++ kept_octets x

-- nothing where there is none; a list's tag is A2
unfoldable pub tagged_by : ℕ → Extension → List ℕ
tagged_by one x = cond (eqb x.kind 0) [] (extension_octets (cond (eqb x.kind 2) 0xa2 one) x)

-- one that is there has as many octets as it says
pub record Counted (x : Extension) : Type 0 where
  pub octets : (x.kind ≡ 0 → ⊥) → length (kept_octets x) ≡ x.count

-- ---- modes of 59: those that lie in a front, in a 30

abbrev pub mode : Run ℕ
mode = prim 0x0a (number 0 6)

abbrev pub mode_at : List ℕ → ℕ → ℕ
mode_at front i = get_or front (9 + i) 0

abbrev pub modes_of : List ℕ → List ℕ
modes_of front = table (modes_in front).count (mode_at front)

unfoldable pub modes_octets : List ℕ → List ℕ
modes_octets front = lead 0x30 (3 * (modes_in front).count) ++ write_all mode.write (modes_of front)

abbrev pub detail_in : List ℕ → ℕ
detail_in front = get_or front 42 0

-- ---- 64: a number, and an optional association

abbrev pub users_octets : Association → Association → List ℕ
users_octets u a = (party_number true).write u ++ (association true).write a

-- ---- what follows the operation, by its form

unfoldable pub body_of : ℕ → Run Body
body_of form = pick_run (eqb form 60) dummy (extended (inner_of form))

-- a result's form
abbrev pub result_form : ℕ → ℕ
result_form o = cond (eqb o 59) 1 2

-- ---- an error: identifier, value, parameter

abbrev pub id_octets : List ℕ → List ℕ
id_octets front = (prim 0x02 identifier).write (two front 2)

unfoldable pub error_octets : List ℕ → List ℕ → List ℕ
error_octets front extension = id_octets front ++ (full_number 0x02 (two front 4) ++ tagged_by 0x30 (extension_in extension))

-- ---- a reject: the identifier or NULL, and the problem

abbrev pub caller_octets : List ℕ → List ℕ
caller_octets front = cond (eqb (get_or front 1 0) 1) (lead 0x05 0) (id_octets front)

abbrev pub reject_octets : List ℕ → List ℕ
reject_octets front = caller_octets front ++ full_number (get_or front 7 0) (detail_in front)

-- ---- the network facility extension

pub record NetworkFine (front figure : List ℕ) : Type 0 where
  pub source : get_or front 42 0 ≤ 1
  pub source_address : (address 0xa1).valid (association_in front) ≡ true
  pub destination : get_or front 43 0 ≤ 1
  pub destination_address : (address 0xa1).valid (association_in figure) ≡ true

unfoldable pub network_octets : List ℕ → List ℕ → List ℕ
network_octets front figure =
    full_number 0x80 (get_or front 42 0)
    ++ ((address 0xa1).write (association_in front) ++ (full_number 0x82 (get_or front 43 0) ++ (address 0xa3).write (association_in figure)))

-- ---- what a component's frame holds

abbrev pub contents_of : Trunk → List ℕ
contents_of t = (trunk_frame (0xa0 + t.lead.frame)).write t
