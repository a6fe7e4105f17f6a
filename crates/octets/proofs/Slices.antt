-- What the library's methods on slices say, in the words of the coding.
use Rattle.prelude.proofs.Prelude.{ℕ, ◌+◌, ◌-◌, ◌≤◌, ◌≡◌, refl, ap, ◌∙◌, List, [], ◌∷◌, ◌++◌, Bool, true, false, cond, ◌&&◌, arith, length, take, replicate}
use Rattle.std.proofs.lemmas.List.Edits.{sets, sets-eq}
use Rattle.std.specs.List.{list_all}
use Rattle.std.proofs.lemmas.List.{drop-drop}
use Rattle.std.proofs.Math.Seq.{length-sets}
use Rattle.prelude.proofs.Prelude.{sym, drop, take_all, append_assoc}
use borrow.Rule.Slice.PartMut.{put_mid}
use Rattle.coding.specs.{Reader.part, Codec.same_list, Contents.every, inner.Written.Wrote}

-- a test of each octet
every_all : (p : ℕ → Bool) (xs : List ℕ) → every p xs ≡ list_all p xs
unfolding every
every_all p [] = refl
every_all p (x ∷ xs) = ap (λ (b : Bool). cond (p x) b false) (every_all p xs) ∙ ifs (p x) (list_all p xs)
  where
    ifs : (a b : Bool) → cond a b false ≡ a && b
    ifs true b = refl
    ifs false b = refl

pub every_part : (p : ℕ → Bool) (s : List ℕ) (i j : ℕ) (b : Bool) → b ≡ list_all p (take (j - i) (drop i s)) → b ≡ every p (part s i j)
unfolding part
every_part p s i j b e = e ∙ sym (every_all p (take (j - i) (drop i s)))

pub every_front : (p : ℕ → Bool) (s : List ℕ) (n : ℕ) (b : Bool) → b ≡ list_all p (take n s) → b ≡ every p (part s 0 n)
unfolding part
every_front p s n b e = e ∙ sym (ap (λ (k : ℕ). every p (take k s)) (minus-zero n) ∙ every_all p (take n s))
  where
    minus-zero : (m : ℕ) → m - 0 ≡ m
    minus-zero m = omega arith

-- the same value throughout
same_all : {A : Type 0} (eq : A → A → Bool) (x : A) (xs : List A) → same_list eq (replicate (length xs) x) xs ≡ list_all (eq x) xs
same_all eq x [] = refl
same_all eq x (y ∷ ys) = ap (λ (b : Bool). eq x y && b) (same_all eq x ys)

pub same_whole : {A : Type 0} (eq : A → A → Bool) (x : A) (xs : List A) (i : ℕ) (b : Bool) → length xs ≤ i → b ≡ list_all (eq x) (take i xs)
    → b ≡ same_list eq (replicate (length xs) x) xs
same_whole eq x xs i b h e = e ∙ ap (list_all (eq x)) (take_all i xs h) ∙ sym (same_all eq x xs)

-- what a copy into a part of a buffer leaves
pub wrote_part : (l vs xs : List ℕ) (a n : ℕ) → vs ≡ xs → length xs ≡ n → a + n ≤ length l → Wrote l (put_mid a (a + n - a) l vs) a xs (a + n)
wrote_part l vs xs a n e w h = record {
  place = omega arith;
  kept = ap length sets_is ∙ length-sets l a xs;
  stored = sets_is;
}
  where
    tail : drop (a + n - a) (drop a l) ≡ drop (a + length xs) l
    tail = drop-drop (a + n - a) a l ∙ ap (λ (k : ℕ). drop k l) (omega arith)

    sets_is : put_mid a (a + n - a) l vs ≡ sets l a xs
    sets_is = rw e (ap (λ (ys : List ℕ). take a l ++ (xs ++ ys)) tail ∙ sym (append_assoc (take a l) xs (drop (a + length xs) l)) ∙ sym (sets-eq xs l a (omega arith)))

pub ruleset slices = (same_whole, wrote_part)
