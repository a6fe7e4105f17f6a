-- The laws of extensions.
use Rattle.prelude.proofs.Prelude.{ℕ, List, ◌≡◌, refl, true, arith, eqb, eq-eqb, ne_eqb}
use Rattle.coding.{specs.Codec.Run, specs.Codec.is_tag, specs.Codec.apart, specs.Codec.one_of, specs.Codec.sort, specs.Codec.over, specs.Codec.canonical}
use Rattle.coding.{specs.Codec.nothing, specs.Codec.prim, specs.Codec.cons, specs.Codec.pair, specs.Normal.up_from, specs.Normal.any_element, proofs.Laws.RunLaws, proofs.Combine.nothing_laws, proofs.Combine.prim_laws, proofs.Combine.cons_laws, proofs.Combine.pair_laws, proofs.Combine.any_laws, proofs.Normal.as_judged_laws, proofs.Normal.any_element_laws, proofs.Normal.normal_laws, proofs.Padded.Equal, proofs.Padded.eqb_equal, proofs.Padded.list_equal}
use Rattle.coding.{proofs.Padded.pair_equal, proofs.Padded.via_equal}
use Rattle.types.proofs.{Chains.Known, Chains.made, Chains.parted, PartLaws.taken}
use Rattle.trunk_types.specs.declared.Extension.{Extension}
use Rattle.trunk_types.specs.Extensions.{no_extension, same_extension, extension_by, kept_octets, is_extension, object_identifier, one_extension, in_one, many_extensions, in_list, extension_at, unextended, some_extension, any_extension, parameter}

pub extension_equal : Equal same_extension
extension_equal =
    via_equal (λ x. (x.kind, (x.count, x.octets))) (λ p. record { kind = p.0; count = p.1.0; octets = p.1.1 }) (λ x. refl) _
    (pair_equal _ _ eqb_equal (pair_equal _ _ eqb_equal (list_equal eqb eqb_equal)))

abbrev OfKind : ℕ → Run Extension → Type 0
OfKind k = Known (λ x. x.kind ≡ k)

pub one_laws : RunLaws one_extension
unfolding one_extension any_element up_from apart prim
one_laws = pair_laws _ _ (prim_laws 0x06 _ (as_judged_laws object_identifier) refl) any_element_laws refl

pub list_laws : RunLaws many_extensions
unfolding many_extensions cons apart
list_laws = any_laws 0x30 _ (cons_laws 0x30 one_extension one_laws refl) refl refl 254

pub in_one_laws : RunLaws in_one
unfolding in_one
in_one_laws = normal_laws 242 one_extension one_laws (omega arith)

pub in_list_laws : RunLaws in_list
unfolding in_list
in_list_laws = normal_laws 242 many_extensions list_laws (omega arith)

module _ (tag kind : ℕ) (inside : Run (List ℕ)) (I : RunLaws inside) (real : is_tag tag ≡ true) where
  extensions_at : OfKind kind (extension_at tag kind inside)
  unfolding extension_at
  extensions_at = made extension_equal (extension_by kind) kept_octets _ (λ xs v. taken 242 xs) (λ xs v. refl) (cons_laws tag _ I real)

pub unextendeds : OfKind 0 unextended
unfolding unextended
unextendeds = made extension_equal (λ u. no_extension) (λ x. tt) _ (λ u v. refl) (λ u v. refl) nothing_laws

pub some_extensions : Known (λ x. x.kind ≡ 0 → ⊥) some_extension
unfolding some_extension extension_at sort canonical over cons apart one_of
some_extensions =
    parted 0xa1 (is_extension 1) (extensions_at 0xa1 1 _ in_one_laws refl) (extensions_at 0xa2 2 _ in_list_laws refl) (λ x h. (eq-eqb x.kind 1 h, λ z. omega (arith, h, z)))
    (λ x h. (ne_eqb x.kind 1 (λ z. omega (arith, h, z)), λ z. omega (arith, h, z))) refl refl refl

pub extensions : Known (λ x. Unit {0}) any_extension
unfolding any_extension extension_at unextended sort canonical over cons nothing apart one_of
extensions =
    let others : Known (λ x. x.kind ≡ 1 → ⊥) (sort 0xa2 (is_extension 2) (extension_at 0xa2 2 in_list) unextended) =
    parted 0xa2 (is_extension 2) (extensions_at 0xa2 2 _ in_list_laws refl) unextendeds (λ x h. (eq-eqb x.kind 2 h, λ z. omega (arith, h, z)))
    (λ x h. (ne_eqb x.kind 2 (λ z. omega (arith, h, z)), λ z. omega (arith, h, z))) refl refl refl in
    parted 0xa1 (is_extension 1) (extensions_at 0xa1 1 _ in_one_laws refl) others (λ x h. (eq-eqb x.kind 1 h, tt)) (λ x h. (ne_eqb x.kind 1 h, tt)) refl refl refl

pub parameters : Known (λ x. Unit {0}) parameter
unfolding parameter extension_at unextended sort canonical over cons nothing apart one_of
parameters =
    parted 0x30 (is_extension 1) (extensions_at 0x30 1 _ in_one_laws refl) unextendeds (λ x h. (eq-eqb x.kind 1 h, tt))
    (λ x h. (ne_eqb x.kind 1 (λ z. omega (arith, h, z)), tt)) refl refl refl
