-- What is in an extension are elements laid end to end: read as such they have the same shortest form.
use Rattle.prelude.proofs.Prelude.{ℕ, ◌≤◌, ◌<◌, ◌≡◌, refl, sym, ap, ap₂, ◌∙◌, List, [], ◌∷◌, ◌++◌, append-nil, true, false, arith, length, leb, lt-leb, le-leb}
use Rattle.coding.{specs.Reader.got, specs.Contents.every, specs.Codec.Run, specs.Codec.prim, specs.Codec.cons, specs.Codec.pair, specs.Codec.any_more, specs.Codec.MeansAll, specs.Codec.write_all, specs.Codec.length_octets}
use Rattle.coding.specs.Normal.{is_octet, as_judged, octet_string, Any, of_octets, of_elements, Several, none, more, write_any, write_several, MeansAny, MeansSeveral, any_element, several_at}
use Rattle.coding.{proofs.Laws.Octets, proofs.Laws.RunLaws, proofs.Basic.picked, proofs.Basic.unpicked, proofs.Basic.followed, proofs.Basic.and_left, proofs.Basic.and_both, proofs.Basic.or_no}
use Rattle.coding.{proofs.Value.valued, proofs.Value.starts, proofs.Normal.any_element_laws, proofs.Normal.several_unfolds, proofs.Normal.any_unfolds}
use Rattle.any_elements.specs.inner.Forms.{sized, is_read, forms_of}
use Rattle.trunk_types.specs.Extensions.{one_extension, many_extensions}

any_starts : (x : Any) (s : List ℕ) (a n : ℕ) → MeansAny x s a n → a < n
unfolding any_element
any_starts x s a n m = (starts (valued any_element_laws x) refl s a n m).0

several_forward : (es : Several) (s : List ℕ) (a n : ℕ) → MeansSeveral es s a n → a ≤ n
several_forward none s a n m = omega (arith, m)
several_forward (more x es) s a n (m, u, v) = omega (arith, any_starts x s a m u, several_forward es s m n v)

-- elements that are meant are read to their end
several_of : (es : Several) (s : List ℕ) (a n : ℕ) → n ≤ length s → MeansSeveral es s a n → several_at s a n ≡ got es n
unfolding any_element
several_of none s a n l m = several_unfolds s a n ∙ picked _ _ (le-leb n a (omega (arith, m))) ∙ ap (got none) m
several_of (more x es) s a n l (m, u, v) =
    let h = any_starts x s a m u in
    let k = several_forward es s m n v in
    several_unfolds s a n ∙ unpicked _ _ (lt-leb n a (omega (arith, h, k)))
    ∙ followed _ (sym (any_unfolds s a n) ∙ any_element_laws.complete s a m n x k l (or_no (leb n m) false refl) u)
    ∙ followed _ (several_of es s m n l v)

-- ---- as elements

abbrev pub one_tree : List ℕ × Any → Several
one_tree y = more (of_octets 0x06 y.0) (more y.1 none)

abbrev pub list_tree : List (List ℕ × Any) → Several
list_tree [] = none
list_tree (y ∷ ys) = more (of_elements 0x30 (one_tree y)) (list_tree ys)

one_means : (y : List ℕ × Any) (s : List ℕ) (a n : ℕ) → one_extension.Means y s a n → MeansSeveral (one_tree y) s a n
unfolding one_extension pair prim as_judged octet_string any_element
one_means y s a n (m, (c, o, w, v), u) = (m, (refl, (c, o, w, and_both (every is_octet y.0) true (and_left (every is_octet y.0) _ v) refl)), (n, u, refl))

one_same : (y : List ℕ × Any) → write_several (one_tree y) ≡ one_extension.write y
unfolding one_extension pair prim as_judged any_element
one_same y = ap (λ (zs : List ℕ). write_any (of_octets 0x06 y.0) ++ zs) (append-nil (write_any y.1))

list_means : (ys : List (List ℕ × Any)) (s : List ℕ) (a n : ℕ) → MeansAll (cons 0x30 one_extension).Means ys s a n → MeansSeveral (list_tree ys) s a n
unfolding cons
list_means [] s a n m = m
list_means (y ∷ ys) s a n (m, (c, k, o, u), v) = (m, (refl, (c, k, o, one_means y s c k u)), list_means ys s m n v)

list_same : (ys : List (List ℕ × Any)) → write_several (list_tree ys) ≡ write_all (cons 0x30 one_extension).write ys
unfolding cons
list_same [] = refl
list_same (y ∷ ys) = ap₂ (λ (us vs : List ℕ). us ++ vs) (ap (λ (zs : List ℕ). 0x30 ∷ length_octets (length zs) ++ zs) (one_same y)) (list_same ys)

-- a run whose values are elements
pub record Trees {A : Type 0} (f : Run A) : Type 0 where
  pub tree : A → Several
  pub means : (x : A) (s : List ℕ) (a n : ℕ) → f.Means x s a n → MeansSeveral (tree x) s a n
  pub same : (x : A) → write_several (tree x) ≡ f.write x

pub one_trees : Trees one_extension
one_trees = record { tree = one_tree; means = one_means; same = one_same }

pub list_trees : Trees many_extensions
unfolding many_extensions any_more
list_trees = record { tree = list_tree; means = λ ys s a n m. list_means ys s a n m.1; same = list_same }

module _ {A : Type 0} (f : Run A) (F : RunLaws f) (T : Trees f) (s : List ℕ) (os : Octets s) (a e n : ℕ) (x : A) (ae : a ≤ e) (l : e ≤ length s) (r : f.read s a e ≡ got x n) where
  pub as_elements : several_at s a n ≡ got (T.tree x) n
  as_elements = let m = F.sound s a e n x os ae l r in several_of (T.tree x) s a n (omega (arith, m.0)) (T.means x s a n m.1)

  -- so what the code counts and puts is what is kept
  pub counted : sized (several_at s a n) ≡ length (f.write x)
  unfolding sized
  counted = ap sized as_elements ∙ ap length (T.same x)

  pub put : (is_read (several_at s a n) ≡ true) × (forms_of (several_at s a n) ≡ f.write x)
  unfolding forms_of
  put = (ap is_read as_elements, ap forms_of as_elements ∙ T.same x)
