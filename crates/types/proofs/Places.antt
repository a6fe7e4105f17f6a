-- Where a reading ends, and by which faults: between its place and the end of the enclosing element.
use Rattle.prelude.proofs.Prelude.{ℕ, zero, suc, ◌+◌, ◌-◌, ◌≤◌, ◌≡◌, refl, subst, List, [], ◌∷◌, Bool, true, false, cond, arith, length, get_or, ltb, leb, eqb}
use Rattle.coding.specs.declared.Extent.{Extent}
use Rattle.coding.specs.Reader.{Ans, Reader, Fault, Ruling, after, choice, tagged, neither, extent, numbered_at, endless, marker, turn, searched, find_end, spanned, length_at, opened, closed}
use Rattle.coding.specs.{Reader.{constructed, part, mapped, narrowed, ruled, primitive, optional, entries, list_of}, Reader.Ans.{got, halt}}
use Rattle.coding.specs.{Reader.Ruling.{good, bad}, Reader.Fault.{missing, unexpected, cut, form, shortest, contents, limit, named}}
use Rattle.coding.specs.Codec.{Leaf, Run, one_of, simple, prim, cons, nothing, pair, alt, over, maybe, some_more, any_more, leaf_over, leads, barring, sort, pick_run}
use Rattle.coding.specs.Normal.{as_judged, octet_string, Several, opening, any_by, several_by, several_at, any_element, limited, normal_form}
use Rattle.coding.specs.Contents.{natural, value_of, negative, number_from, text, every, null}
use Rattle.coding.specs.Leaves.{number, string, null_leaf, in_octets, integer, identifier, listing, listed, only}
use Rattle.coding.proofs.Header.{opened_sound, spans_range, read_element, element_range}
use Rattle.coding.specs.Contents as Contents

-- one of two by a test
pub pick : {A : Type 0} (P : A → Type 0) (t : Bool) (x y : A) → (t ≡ true → P x) → (t ≡ false → P y) → P (cond t x y)
pick P true x y f g = f refl
pick P false x y f g = g refl

-- a fault that was given no number
abbrev pub Plain : Fault → Type 0
Plain missing = Unit {0}
Plain unexpected = Unit {0}
Plain cut = Unit {0}
Plain form = Unit {0}
Plain shortest = Unit {0}
Plain contents = Unit {0}
Plain limit = Unit {0}
Plain (named n) = ⊥

pub by_plain : (P : Fault → Type 0) → P missing → P unexpected → P cut → P form → P shortest → P contents → P limit → (w : Fault) → Plain w → P w
by_plain P m u c f s t l missing h = m
by_plain P m u c f s t l unexpected h = u
by_plain P m u c f s t l cut h = c
by_plain P m u c f s t l form h = f
by_plain P m u c f s t l shortest h = s
by_plain P m u c f s t l contents h = t
by_plain P m u c f s t l limit h = l
by_plain P m u c f s t l (named n) h = absurd h

-- an answer lies from a to e, and its fault has the property
abbrev pub Ends : {A : Type 0} → (Fault → ℕ → Type 0) → ℕ → ℕ → Ans A → Type 0
Ends P a e (got v n) = (a ≤ n) × (n ≤ e)
Ends P a e (halt w p) = P w p × (a ≤ p) × (p ≤ e)

-- contents are blamed by faults with the property
abbrev pub Blames : {A : Type 0} → (Fault → ℕ → Type 0) → Ruling A → Type 0
Blames P (good v) = Unit {0}
Blames P (bad w) = (p : ℕ) → P w p

-- a run read from place k on, or later
pub record Placed {A : Type 0} (P : Fault → ℕ → Type 0) (k : ℕ) (f : Run A) : Type 0 where
  pub ends : (s : List ℕ) (a e : ℕ) → k ≤ a → a ≤ e → Ends P a e (f.read s a e)

pub nearer : {A : Type 0} (P : Fault → ℕ → Type 0) (a b e : ℕ) (x : Ans A) → a ≤ b → Ends P b e x → Ends P a e x
nearer P a b e (got v n) l h = (omega (arith, h.0), h.1)
nearer P a b e (halt w p) l h = (h.0, omega (arith, h.1), h.2)

pub farther : {A : Type 0} (P : Fault → ℕ → Type 0) (a d e : ℕ) (x : Ans A) → d ≤ e → Ends P a d x → Ends P a e x
farther P a d e (got v n) l h = (h.0, omega (arith, h.1))
farther P a d e (halt w p) l h = (h.0, h.1, omega (arith, h.2))

pub weaker : {A : Type 0} (P Q : Fault → ℕ → Type 0) (a e : ℕ) (x : Ans A) → ((w : Fault) (p : ℕ) → P w p → Q w p) → Ends P a e x → Ends Q a e x
weaker P Q a e (got v n) f h = h
weaker P Q a e (halt w p) f h = (f w p h.0, h.1, h.2)

-- a value's place is before the end
pub before_end : {A : Type 0} (P : Fault → ℕ → Type 0) (a e : ℕ) (x : Ans A) {v : A} {n : ℕ} → x ≡ got v n → Ends P a e x → n ≤ e
before_end P a e x q h = (subst (Ends P a e) q h).1

-- what follows an answer
pub follows : {A B : Type 0} (P : Fault → ℕ → Type 0) (a e : ℕ) (x : Ans A) (f : A → ℕ → Ans B) → Ends P a e x
    → ((v : A) (n : ℕ) → x ≡ got v n → a ≤ n → n ≤ e → Ends P a e (f v n)) → Ends P a e (after x f)
unfolding after
follows P a e (got v n) f h g = g v n refl h.0 h.1
follows P a e (halt w p) f h g = h

-- ---- length octets

-- cut or form, at the tag
abbrev pub Lengths : {A : Type 0} → ℕ → Ans A → Type 0
Lengths tag (got v n) = Unit {0}
Lengths tag (halt w p) = Plain w × (p ≡ tag)

extent_ends : (tag start n end : ℕ) → Lengths tag (extent tag start n end)
unfolding extent
extent_ends tag start n end = pick (Lengths tag) (leb (start + n) end) _ _ (λ q. tt) (λ q. (tt, refl))

pub number_ends : (tag : ℕ) (s : List ℕ) (at end : ℕ) → Lengths tag (numbered_at tag s at end)
unfolding numbered_at
number_ends tag s at end =
    pick (Lengths tag) (leb end at) _ _ (λ q. (tt, refl)) (λ q.
    pick (Lengths tag) (ltb (get_or s at 0) 0x80) _ _ (λ q. extent_ends tag (at + 1) _ end) (λ q.
    pick (Lengths tag) (eqb (get_or s at 0) 0x81) _ _ (λ q. pick (Lengths tag) (ltb end (at + 2)) _ _ (λ q. (tt, refl)) (λ q. extent_ends tag (at + 2) _ end)) (λ q.
    pick (Lengths tag) (eqb (get_or s at 0) 0x82) _ _ (λ q. pick (Lengths tag) (ltb end (at + 3)) _ _ (λ q. (tt, refl)) (λ q. extent_ends tag (at + 3) _ end)) (λ q.
    (tt, refl)))))

-- a search's fault is plain
abbrev Searched : {A : Type 0} → Ans A → Type 0
Searched (got v n) = Unit {0}
Searched (halt w p) = Plain w

plainly : {A : Type 0} (tag : ℕ) (x : Ans A) → Lengths tag x → Searched x
plainly tag (got v n) h = tt
plainly tag (halt w p) h = h.0

further : {A B : Type 0} (x : Ans A) (f : A → ℕ → Ans B) → Searched x → ((v : A) (n : ℕ) → Searched (f v n)) → Searched (after x f)
unfolding after
further (got v n) f h g = g v n
further (halt w p) f h g = h

search_ends : (k : ℕ) (s : List ℕ) (at end : ℕ) → Searched (searched k s at end)
unfolding searched turn
search_ends zero s at end = tt
search_ends (suc k) s at end =
    pick Searched (marker s at end) _ _ (λ q. tt) (λ q.
    pick Searched (endless s at (at + 1) end) _ _
    (λ q. further (searched k s (at + 2) end) _ (search_ends k s (at + 2) end) (λ v n. search_ends k s n end))
    (λ q. further (numbered_at at s (at + 1) end) _ (plainly at (numbered_at at s (at + 1) end) (number_ends at s (at + 1) end)) (λ v n. search_ends k s n end)))

span_ends : (tag start : ℕ) (x : Ans ℕ) → Searched x → Lengths tag (spanned tag start x)
unfolding spanned
span_ends tag start (got v n) h = tt
span_ends tag start (halt w p) h = (h, refl)

pub length_ends : (tag : ℕ) (s : List ℕ) (at end : ℕ) → Lengths tag (length_at tag s at end)
unfolding length_at find_end
length_ends tag s at end =
    pick (Lengths tag) (endless s tag at end) _ _ (λ q. span_ends tag (at + 1) _ (search_ends (end - (at + 1)) s (at + 1) end)) (λ q. number_ends tag s at end)

module _ (P : Fault → ℕ → Type 0) (plain : (w : Fault) (p : ℕ) → Plain w → P w p) where
  -- where an element's contents stand
  element_ends : (s : List ℕ) (a e : ℕ) → a ≤ e → (x : Ans Extent) → length_at a s (a + 1) e ≡ x → Lengths a x → Ends P a e x
  element_ends s a e l (got v n) q h =
      let r = read_element s a e v n q in
      let g = element_range r.0 in (omega (arith, g.0, g.1, g.2), r.1)
  element_ends s a e l (halt w p) q h = (plain w p h.0, omega (arith, h.1), omega (arith, h.1, l))

  pub neither_ends : (A : Type 0) (s : List ℕ) (a e : ℕ) → a ≤ e → Ends {A = A} P a e (neither s a e)
  unfolding neither
  neither_ends A s a e l =
      pick (Ends P a e) (ltb a e) _ _ (λ q. (plain unexpected a tt, omega arith, l)) (λ q. (plain missing e tt, l, omega arith))

  pub opened_ends : (tag : ℕ) (s : List ℕ) (a e : ℕ) → a ≤ e → Ends P a e (opened tag s a e)
  unfolding opened choice
  opened_ends tag s a e l =
      pick (Ends P a e) (tagged s a e tag) _ _ (λ q. element_ends s a e l (length_at a s (a + 1) e) refl (length_ends a s (a + 1) e)) (λ q. neither_ends Extent s a e l)

  pub closed_ends : {A : Type 0} (v : A) (at end next e a : ℕ) → a ≤ at → at ≤ end → end ≤ next → next ≤ e → Ends P a e (closed v at end next)
  unfolding closed
  closed_ends v at end next e a h i j k =
      pick (Ends P a e) (eqb at end) _ _ (λ q. (omega (arith, h, i, j), k)) (λ q. (plain unexpected at tt, h, omega (arith, i, j, k)))

  pub judged_ends : {A : Type 0} (x : Ruling A) (a n e : ℕ) → a ≤ n → n ≤ e → Blames P x → Ends P a e (ruled x a n)
  unfolding ruled
  judged_ends (good v) a n e h i b = (h, i)
  judged_ends (bad w) a n e h i b = (b a, omega arith, omega (arith, h, i))

  -- ---- the types' combinators

  module _ {A : Type 0} (k : ℕ) where
    pub prim_placed : (tag : ℕ) (l : Leaf A) → ((xs : List ℕ) → Blames P (l.judge xs)) → Placed P k (prim tag l)
    unfolding prim primitive
    prim_placed tag l b = record {
      ends = λ s a e h i.
          follows P a e (opened tag s a e) _ (opened_ends tag s a e i)
          (λ v n q x y. judged_ends (l.judge (part s v.start v.stop)) a n e x y (b (part s v.start v.stop)));
    }

    pub cons_placed : (tag : ℕ) (f : Run A) → Placed P k f → Placed P k (cons tag f)
    unfolding cons constructed
    cons_placed tag f F = record {
      ends = λ s a e h i. follows P a e (opened tag s a e) _ (opened_ends tag s a e i) (λ v n q x y.
          let o = opened_sound tag s a e v n q in
          let r = spans_range o.0 in
          let body = F.ends s v.start v.stop (omega (arith, h, r.0)) r.1 in
          let inner : Ans A = f.read s v.start v.stop in
          follows P a e inner _
          (nearer P a v.start e inner (omega (arith, r.0)) (farther P v.start v.stop e inner (omega (arith, r.2, y)) body))
          (λ u last z m j. closed_ends u last v.stop n e a m (before_end P v.start v.stop inner z body) r.2 y));
    }

    pub sort_placed : (tag : ℕ) (test : A → Bool) (f g : Run A) → Placed P k f → Placed P k g → Placed P k (sort tag test f g)
    unfolding sort choice
    sort_placed tag test f g F G = record {
      ends = λ s a e h i. pick (Ends P a e) (tagged s a e tag) _ _ (λ q. F.ends s a e h i) (λ q. G.ends s a e h i);
    }

    pub either_placed : (b : Bool) (f g : Run A) → Placed P k f → Placed P k g → Placed P k (pick_run b f g)
    either_placed true f g F G = F
    either_placed false f g F G = G

    pub barring_placed : (tag : ℕ) (w : Fault) (f : Run A) → ((p : ℕ) → P w p) → Placed P k f → Placed P k (barring tag w f)
    unfolding barring choice
    barring_placed tag w f b F = record {
      ends = λ s a e h i. pick (Ends P a e) (tagged s a e tag) _ _ (λ q. (b a, omega arith, i)) (λ q. F.ends s a e h i);
    }

    pub maybe_placed : (tag : ℕ) (f : Run A) → Placed P k f → Placed P k (maybe tag f)
    unfolding maybe optional choice
    maybe_placed tag f F = record {
      ends = λ s a e h i. pick (Ends P a e) (tagged s a e tag) _ _
          (λ q. follows P a e (f.read s a e) _ (F.ends s a e h i) (λ v n z x y. (x, y)))
          (λ q. (omega arith, i));
    }

    entries_ends : (tag most : ℕ) (f : Run A) → Placed P k f → (s : List ℕ) (a e : ℕ) → k ≤ a → a ≤ e → Ends P a e (entries tag most f.read s a e)
    unfolding entries
    entries_ends tag zero f F s a e h i =
        pick (Ends P a e) (leb e a) _ _ (λ q. (omega arith, i)) (λ q.
        pick (Ends P a e) (tagged s a e tag) _ _ (λ q. (plain limit a tt, omega arith, i)) (λ q. (plain unexpected a tt, omega arith, i)))
    entries_ends tag (suc most) f F s a e h i =
        pick (Ends P a e) (leb e a) _ _ (λ q. (omega arith, i)) (λ q.
        follows P a e (f.read s a e) _ (F.ends s a e h i) (λ v n z x y.
        follows P a e (entries tag most f.read s n e) _ (nearer P a n e (entries tag most f.read s n e) x (entries_ends tag most f F s n e (omega (arith, h, x)) y))
        (λ vs last z' x' y'. (x', y'))))

    pub any_placed : (tag most : ℕ) (f : Run A) → Placed P k f → Placed P k (any_more tag most f)
    unfolding any_more
    any_placed tag most f F = record { ends = λ s a e h i. entries_ends tag most f F s a e h i }

    pub some_placed : (tag most : ℕ) (f : Run A) → Placed P k f → Placed P k (some_more tag most f)
    unfolding some_more list_of
    some_placed tag most f F = record {
      ends = λ s a e h i. pick (Ends P a e) (leb e a) _ _ (λ q. (plain missing e tt, i, omega arith)) (λ q. entries_ends tag most f F s a e h i);
    }

  pub nothing_placed : (k : ℕ) → Placed P k nothing
  unfolding nothing
  nothing_placed k = record { ends = λ s a e h i. (omega arith, i) }

  -- contents that are kept as they are, and values that are kept as octets
  pub as_judged_blames : (judge : List ℕ → Ruling (Unit {0})) → ((xs : List ℕ) → Blames P (judge xs)) → (xs : List ℕ) → Blames P ((as_judged judge).judge xs)
  unfolding as_judged mapped
  as_judged_blames judge b xs = go (judge xs) (b xs)
    where
      go : (x : Ruling (Unit {0})) → Blames P x → Blames P (mapped (λ u. xs) x)
      go (good v) h = tt
      go (bad w) h = h

  pub normal_placed : {A : Type 0} (k most : ℕ) (f : Run A) → Placed P k f → Placed P k (normal_form most f)
  unfolding normal_form limited
  normal_placed k most f F = record {
    ends = λ s a e h i. follows P a e (f.read s a e) _ (F.ends s a e h i) (λ v n q x y.
        pick (Ends P a e) (leb (length (f.write v)) most) _ _ (λ z. (x, y)) (λ z. (plain contents a tt, omega arith, i)));
  }

  -- an element of any tag
  abbrev read_by : Reader Several → Run Several
  read_by r = record { read = r; write = λ x. []; valid = λ x. true; Means = λ x s a n. Unit {0}; first = []; empty = true; avoid = λ o. false }

  any_ends : (k : ℕ) (inner : Reader Several) → Placed P k (read_by inner) → (s : List ℕ) (a e : ℕ) → k ≤ a → a ≤ e → Ends P a e (any_by inner s a e)
  unfolding any_by prim cons octet_string
  any_ends k inner I s a e h i =
      let tag : ℕ = get_or s a 0 in
      pick (Ends P a e) (leb e a) _ _ (λ q. (plain missing e tt, i, omega arith)) (λ q.
      pick (Ends P a e) (simple tag) _ _
      (λ q. follows P a e ((prim tag octet_string).read s a e) _ ((prim_placed k tag octet_string (as_judged_blames _ (λ xs. tt))).ends s a e h i) (λ v n z x y. (x, y))) (λ q.
      pick (Ends P a e) (opening tag) _ _ (λ q. follows P a e ((cons tag (read_by inner)).read s a e) _ ((cons_placed k tag (read_by inner) I).ends s a e h i) (λ v n z x y. (x, y)))
      (λ q. (plain unexpected a tt, omega arith, i))))

  several_placed : (k turns : ℕ) → Placed P k (read_by (several_by turns))
  unfolding several_by
  several_placed k zero = record { ends = λ s a e h i. pick (Ends P a e) (leb e a) _ _ (λ q. (omega arith, i)) (λ q. (plain unexpected a tt, omega arith, i)) }
  several_placed k (suc turns) = record {
    ends = λ s a e h i. pick (Ends P a e) (leb e a) _ _ (λ q. (omega arith, i)) (λ q.
        follows P a e (any_by (several_by turns) s a e) _ (any_ends k (several_by turns) (several_placed k turns) s a e h i) (λ v n z x y.
        follows P a e (several_by turns s n e) _ (nearer P a n e (several_by turns s n e) x ((several_placed k turns).ends s n e (omega (arith, h, x)) y))
        (λ vs last z' x' y'. (x', y'))));
  }

  pub several_ends : (s : List ℕ) (a e : ℕ) → a ≤ e → Ends P a e (several_at s a e)
  unfolding several_at
  several_ends s a e h = (several_placed 0 (e - a)).ends s a e (omega arith) h

  pub any_element_placed : (k : ℕ) → Placed P k any_element
  unfolding any_element
  any_element_placed k = record { ends = λ s a e h i. any_ends k (several_by (e - a)) (several_placed k (e - a)) s a e h i }

  module _ {A B : Type 0} (k : ℕ) where
    pub pair_placed : (f : Run A) (g : Run B) → Placed P k f → Placed P k g → Placed P k (pair f g)
    unfolding pair
    pair_placed f g F G = record {
      ends = λ s a e h i. follows P a e (f.read s a e) _ (F.ends s a e h i) (λ v n z x y.
          follows P a e (g.read s n e) _ (nearer P a n e (g.read s n e) x (G.ends s n e (omega (arith, h, x)) y)) (λ u m z' x' y'. (x', y')));
    }

    pub alt_placed : (tag : ℕ) (f : Run A) (g : Run B) → Placed P k f → Placed P k g → Placed P k (alt tag f g)
    unfolding alt choice
    alt_placed tag f g F G = record {
      ends = λ s a e h i. pick (Ends P a e) (tagged s a e tag) _ _
          (λ q. follows P a e (f.read s a e) _ (F.ends s a e h i) (λ v n z x y. (x, y)))
          (λ q. follows P a e (g.read s a e) _ (G.ends s a e h i) (λ v n z x y. (x, y)));
    }

    pub over_placed : (to : A → B) (from : B → A) (fine : B → Bool) (f : Run A) → Placed P k f → Placed P k (over to from fine f)
    unfolding over
    over_placed to from fine f F = record {
      ends = λ s a e h i. follows P a e (f.read s a e) _ (F.ends s a e h i) (λ v n z x y. (x, y));
    }

    -- what comes first takes so many octets at least
    pub leads_placed : (j : ℕ) (f : Run A) (head : B → A) (g : A → Run B) → Placed P k f
        → ((s : List ℕ) (a e n : ℕ) (x : A) → a ≤ n → f.read s a e ≡ got x n → a + j ≤ n) → ((x : A) → Placed P (k + j) (g x)) → Placed P k (leads f head g)
    unfolding leads
    leads_placed j f head g F takes G = record {
      ends = λ s a e h i. follows P a e (f.read s a e) _ (F.ends s a e h i) (λ v n z x y.
          nearer P a n e ((g v).read s n e) x ((G v).ends s n e (omega (arith, h, takes s a e n v x z)) y));
    }

  -- ---- contents

  pub number_blames : (low high : ℕ) (xs : List ℕ) → Blames P ((number low high).judge xs)
  unfolding number natural
  number_blames low high xs =
      pick (Blames P) (Contents.shortest xs) _ _ (λ q.
      pick (Blames P) (negative xs) _ _ (λ q. wrong) (λ q.
      pick (Blames P) (leb low (number_from 0 xs)) _ _ (λ q. pick (Blames P) (leb (number_from 0 xs) high) _ _ (λ q. tt) (λ q. wrong)) (λ q. wrong)))
      (λ q p. plain shortest p tt)
    where
      wrong : (p : ℕ) → P contents p
      wrong p = plain contents p tt

  pub string_blames : (low high : ℕ) (ok : ℕ → Bool) (xs : List ℕ) → Blames P ((string low high ok).judge xs)
  unfolding string text
  string_blames low high ok xs =
      pick (Blames P) (ltb (length xs) low) _ _ (λ q p. pick (λ w. P w p) (eqb (length xs) 0) _ _ (λ q. plain shortest p tt) (λ q. plain contents p tt)) (λ q.
      pick (Blames P) (ltb high (length xs)) _ _ (λ q p. plain contents p tt) (λ q.
      pick (Blames P) (every ok xs) _ _ (λ q. tt) (λ q p. plain contents p tt)))

  pub null_blames : (xs : List ℕ) → Blames P (null_leaf.judge xs)
  unfolding null_leaf null
  null_blames [] = tt
  null_blames (x ∷ xs) = λ p. plain contents p tt

  pub identifier_blames : (xs : List ℕ) → Blames P (identifier.judge xs)
  unfolding identifier integer
  identifier_blames xs =
      pick (Blames P) (Contents.shortest xs) _ _ (λ q. pick (Blames P) (in_octets 2 (value_of xs)) _ _ (λ q. tt) (λ q p. plain contents p tt)) (λ q p. plain shortest p tt)

  pub listed_blames : (u : ℕ) (ks : List ℕ) → ((p : ℕ) → P (named u) p) → (xs : List ℕ) → Blames P ((listed u ks).judge xs)
  unfolding listed listing
  listed_blames u ks b xs =
      pick (Blames P) (Contents.shortest xs) _ _ (λ q.
      pick (Blames P) (ltb 4 (length xs)) _ _ (λ q p. plain contents p tt) (λ q.
      pick (Blames P) (negative xs) _ _ (λ q. b) (λ q. pick (Blames P) (one_of ks (number_from 0 xs)) _ _ (λ q. tt) (λ q. b))))
      (λ q p. plain shortest p tt)

  module _ {A : Type 0} where
    pub only_blames : (ok : A → Bool) (l : Leaf A) → ((xs : List ℕ) → Blames P (l.judge xs)) → (xs : List ℕ) → Blames P ((only ok l).judge xs)
    unfolding only narrowed
    only_blames ok l b xs = go (l.judge xs) (b xs)
      where
        go : (x : Ruling A) → Blames P x → Blames P (narrowed ok x)
        go (good v) h = pick (Blames P) (ok v) _ _ (λ q. tt) (λ q p. plain contents p tt)
        go (bad w) h = h

    pub leaf_over_blames : {B : Type 0} (to : A → B) (from : B → A) (fine : B → Bool) (l : Leaf A) → ((xs : List ℕ) → Blames P (l.judge xs))
        → (xs : List ℕ) → Blames P ((leaf_over to from fine l).judge xs)
    unfolding leaf_over mapped
    leaf_over_blames to from fine l b xs = go (l.judge xs) (b xs)
      where
        go : (x : Ruling A) → Blames P x → Blames P (mapped to x)
        go (good v) h = tt
        go (bad w) h = h

-- what places the faults of a type, and blames its contents
pub ruleset blaming = (number_blames, string_blames, null_blames, identifier_blames, listed_blames, only_blames, leaf_over_blames, as_judged_blames)

pub ruleset placing = (blaming, prim_placed, cons_placed, sort_placed, barring_placed, maybe_placed, some_placed, any_placed, nothing_placed, pair_placed, alt_placed, over_placed, normal_placed, any_element_placed)
