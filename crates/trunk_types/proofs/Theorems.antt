-- What reading octets answers, and what is written of a component of a trunk: instances of what holds of any family.
use Rattle.prelude.proofs.Prelude.{ℕ, ◌+◌, ◌≤◌, ◌<◌, ◌≡◌, refl, List, true, ◌⊎◌, ◌↔◌, arith, length}
use Rattle.coding.{specs.Reader.Ans.got, specs.Reader.Ans.halt, specs.Reader.Fault.named, proofs.Laws.Octets, proofs.Whole.Encodes, proofs.Whole.one_meaning, proofs.Frames.frames_ends}
use Rattle.types.specs.Frames.{outside, read_family}
use Rattle.types.proofs.{Places.Ends, Faults.Told}
use Rattle.trunk_types.specs.{declared.Trunk.Trunk, declared.TrunkAnswer.TrunkAnswer, Components.no_trunk, Components.trunk_frame, Components.trunk_component, Components.tags, Components.read_whole_trunk}
use Rattle.trunk_types.specs.Components.{trunk_accepted, read_trunk}
use Rattle.trunk_types.proofs.{ComponentLaws.component_laws, Faults.whole_told}
use Rattle.coding.proofs.Whole as Whole
use Rattle.types.proofs.Family as Family

abbrev make : ℕ → ℕ → Trunk → TrunkAnswer
make n p x = record { number = n; offset = p; value = x }

-- a component that is read ends where the octets end
component_ends : (s : List ℕ) (a e n : ℕ) (x : Trunk) → trunk_component.read s a e ≡ got x n → n ≡ e
unfolding trunk_component
component_ends = frames_ends tags (λ r. 0xa0 + r.lead.frame) outside (named 5) trunk_frame

told : (s : List ℕ) → Ends Told 0 (length s) (read_family trunk_component s)
unfolding read_whole_trunk
told = whole_told

-- over 254 octets are refused with 3
pub read_long : (s : List ℕ) → 254 < length s → read_whole_trunk s ≡ halt (named 3) 0
unfolding read_whole_trunk
read_long = Family.read_long trunk_component

-- the number of an answer: 0, or 1 to 8, or 40 to 45; a refusal leaves no component
pub refusal : (s : List ℕ) → ((read_trunk s).number ≤ 8) ⊎ ((40 ≤ (read_trunk s).number) × ((read_trunk s).number ≤ 45))
unfolding read_trunk read_whole_trunk
refusal = Family.refusal make no_trunk trunk_component told (λ a. a.number) (λ a. a.value) (λ n p x. refl) (λ n p x. refl)

pub no_component_lem : (s : List ℕ) → ((read_trunk s).number ≡ 0 → ⊥) → (read_trunk s).value ≡ no_trunk
unfolding read_trunk read_whole_trunk
no_component_lem = Family.no_value make no_trunk trunk_component told (λ a. a.number) (λ a. a.value) (λ n p x. refl) (λ n p x. refl)

-- octets are accepted with a component exactly where they are at most 254 and, whole, mean it
pub reads : (s : List ℕ) (x : Trunk) → Octets s → (read_trunk s ≡ trunk_accepted x) ↔ ((length s ≤ 254) × Encodes trunk_component x s)
unfolding read_trunk read_whole_trunk
reads = Family.accepts make no_trunk trunk_component told (λ a. a.number) (λ a. a.value) (λ n p x. refl) (λ n p x. refl) component_laws component_ends

-- octets mean at most one component
pub one_component : (s : List ℕ) (x y : Trunk) → Octets s → Encodes trunk_component x s → Encodes trunk_component y s → x ≡ y
one_component = one_meaning trunk_component component_laws

-- what is written of a valid component is read back
pub reads_back : (x : Trunk) → trunk_component.valid x ≡ true → length (trunk_component.write x) ≤ 254 → read_trunk (trunk_component.write x) ≡ trunk_accepted x
unfolding read_trunk read_whole_trunk
reads_back = Family.accepts_back make no_trunk trunk_component told (λ a. a.number) (λ a. a.value) (λ n p x. refl) (λ n p x. refl) component_laws component_ends

-- a component that is read is valid, and what is written of it is no longer than what was read, so it always fits
pub read_fits : (s : List ℕ) (x : Trunk) → Octets s → read_trunk s ≡ trunk_accepted x → (trunk_component.valid x ≡ true) × (length (trunk_component.write x) ≤ length s) × (length s ≤ 254)
unfolding read_trunk read_whole_trunk
read_fits = Family.accepted_fits make no_trunk trunk_component told (λ a. a.number) (λ a. a.value) (λ n p x. refl) (λ n p x. refl) component_laws component_ends

pub reads_again : (s : List ℕ) (x : Trunk) → Octets s → read_trunk s ≡ trunk_accepted x → read_trunk (trunk_component.write x) ≡ trunk_accepted x
unfolding read_trunk read_whole_trunk
reads_again = Family.accepts_again make no_trunk trunk_component told (λ a. a.number) (λ a. a.value) (λ n p x. refl) (λ n p x. refl) component_laws component_ends

-- no octets that mean a component are fewer than those written of it, and those that are as many are those
pub none_shorter : (s : List ℕ) (x : Trunk) → Octets s → Encodes trunk_component x s → length (trunk_component.write x) ≤ length s
none_shorter = Whole.none_shorter trunk_component component_laws

pub the_shortest : (s : List ℕ) (x : Trunk) → Octets s → length s ≤ 254 → Encodes trunk_component x s → length s ≡ length (trunk_component.write x) → s ≡ trunk_component.write x
the_shortest s x os l m e = Whole.the_shortest trunk_component component_laws s x os (omega arith) m e

-- what is written of a valid component are octets; two valid components that are written alike are one
pub written_octets : (x : Trunk) → trunk_component.valid x ≡ true → length (trunk_component.write x) ≤ 254 → Octets (trunk_component.write x)
written_octets x v l = component_laws.octets x v (omega arith)

pub written_once : (x y : Trunk) → trunk_component.valid x ≡ true → trunk_component.valid y ≡ true → length (trunk_component.write x) ≤ 254
    → trunk_component.write x ≡ trunk_component.write y → x ≡ y
written_once = Family.written_once trunk_component component_laws component_ends
