-- An element of any tag, read to the bottom: a primitive one's contents are octets, a constructed one's are elements again. Its normal form is its tag, the
-- shortest length octets, and its contents: octets as they are, elements in their normal forms. Encodings that differ in their lengths alone have one.
use Rattle.std.specs.Prelude.{ℕ, zero, suc, ◌+◌, ◌-◌, ◌≤◌, ◌≡◌, List, [], ◌∷◌, ◌++◌, Bool, true, false, ◌&&◌, cond, length, get_or, ltb, leb, eqb}
use Rattle.coding.specs.Reader.{Ans, got, halt, Reader, Fault, after, Ruling, mapped, composite, constructed, primitive}
use Rattle.coding.specs.Contents.{every}
use Rattle.coding.specs.Codec.{length_octets, Spans, is_tag, simple, same_list, Leaf, Run, prim}

abbrev pub is_octet : ℕ → Bool
is_octet x = ltb x 256

abbrev pub is_good : {A : Type 0} → Ruling A → Bool
is_good (Ruling.good v) = true
is_good (Ruling.bad w) = false

-- contents that stay as they are, where a check accepts them
unfoldable pub as_judged : (List ℕ → Ruling (Unit {0})) → Leaf (List ℕ)
as_judged judge = record {
  judge = λ xs. mapped (λ u. xs) (judge xs);
  write = λ xs. xs;
  valid = λ xs. every is_octet xs && is_good (judge xs);
}

-- any contents
unfoldable pub octet_string : Leaf (List ℕ)
octet_string = as_judged (λ xs. Ruling.good tt)

-- ---- an element of any tag

mutual
  -- its tag with its octets or its elements
  pub data Any : Type 0 where
    of_octets : ℕ → List ℕ → Any
    of_elements : ℕ → Several → Any

  pub data Several : Type 0 where
    none : Several
    more : Any → Several → Several

-- a constructed element's tag; 00 is none
abbrev pub opening : ℕ → Bool
opening tag = is_tag tag && composite tag

-- ---- its normal form

abbrev mutual
  pub write_any : Any → List ℕ
  write_any (of_octets tag xs) = tag ∷ length_octets (length xs) ++ xs
  write_any (of_elements tag es) = tag ∷ length_octets (length (write_several es)) ++ write_several es

  pub write_several : Several → List ℕ
  write_several none = []
  write_several (more x es) = write_any x ++ write_several es

abbrev mutual
  pub valid_any : Any → Bool
  valid_any (of_octets tag xs) = simple tag && octet_string.valid xs
  valid_any (of_elements tag es) = opening tag && valid_several es

  pub valid_several : Several → Bool
  valid_several none = true
  valid_several (more x es) = valid_any x && valid_several es

-- ---- which octets mean it: lengths of any form, at any depth and mixed

abbrev mutual
  pub MeansAny : Any → List ℕ → ℕ → ℕ → Type 0
  MeansAny (of_octets tag xs) s a n = (simple tag ≡ true) × (prim tag octet_string).Means xs s a n
  MeansAny (of_elements tag es) s a n = (opening tag ≡ true) × ((c m : ℕ) × Spans tag s a c m n × MeansSeveral es s c m)

  pub MeansSeveral : Several → List ℕ → ℕ → ℕ → Type 0
  MeansSeveral none s a n = a ≡ n
  MeansSeveral (more x es) s a n = (m : ℕ) × MeansAny x s a m × MeansSeveral es s m n

-- ---- how it is read

-- by the bit of its tag. A constructed element's contents are read by `inner`
unfoldable pub any_by : Reader Several → Reader Any
any_by inner s at end =
    let tag : ℕ = get_or s at 0 in
    cond (leb end at) (halt Fault.missing end)
    (cond (simple tag) (after (primitive tag octet_string.judge s at end) (λ xs next. got (of_octets tag xs) next))
    (cond (opening tag) (after (constructed tag inner s at end) (λ es next. got (of_elements tag es) next)) (halt Fault.unexpected at)))

-- elements up to the end. Each takes two octets or more, and what is in it stands after these, so as many turns as there are octets are enough
unfoldable pub several_by : ℕ → Reader Several
several_by zero s at end = cond (leb end at) (got none at) (halt Fault.unexpected at)
several_by (suc turns) s at end =
    let rest : Ans Several =
    after (any_by (several_by turns) s at end) (λ x next. after (several_by turns s next end) (λ es last. got (more x es) last)) in
    cond (leb end at) (got none at) rest

unfoldable pub several_at : Reader Several
several_at s at end = several_by (end - at) s at end

-- as many numbers as n, from k on
unfoldable pub up_from : ℕ → ℕ → List ℕ
up_from k zero = []
up_from k (suc n) = k ∷ up_from (k + 1) n

-- it begins with any octet but 00
unfoldable pub any_element : Run Any
any_element = record {
  read = λ s a e. any_by (several_by (e - a)) s a e;
  write = write_any;
  valid = valid_any;
  Means = MeansAny;
  first = up_from 1 255;
  empty = false;
  avoid = λ o. false;
}

-- ---- the normal form as the value: the octets that are written of what is read

-- at most so many; the limit is one of the normal form
unfoldable pub limited : ℕ → List ℕ → ℕ → ℕ → Ans (List ℕ)
limited most xs at next = cond (leb (length xs) most) (got xs next) (halt Fault.contents at)

-- octets that are their own normal form
unfoldable pub itself : {A : Type 0} → (A → List ℕ) → List ℕ → Ans A → Bool
itself write xs (got x n) = same_list eqb (write x) xs && eqb n (length xs)
itself write xs (halt w p) = false

unfoldable pub normal_form : {A : Type 0} → ℕ → Run A → Run (List ℕ)
normal_form {A} most f = record {
  read = λ s a e. after (f.read s a e) (λ x n. limited most (f.write x) a n);
  write = λ xs. xs;
  valid = λ xs. leb (length xs) most && (every is_octet xs && itself f.write xs (f.read xs 0 (length xs)));
  Means = λ xs s a n. (x : A) × (f.write x ≡ xs) × (length xs ≤ most) × f.Means x s a n;
  first = f.first;
  empty = f.empty;
  avoid = f.avoid;
}
