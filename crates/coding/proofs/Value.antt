-- What the laws say of one value, and how values are put together: each combinator's laws are these.
use Rattle.prelude.proofs.Prelude.{ℕ, ◌+◌, ◌≤◌, ◌<◌, ◌≡◌, refl, sym, ap, ◌∙◌, subst, List, [], ◌∷◌, ◌++◌, Bool, true, false, not, ◌&&◌, ◌||◌, true≢false, cond, ◌⊎◌, inl, inr, arith, length}
use Rattle.prelude.proofs.Prelude.{get_or, length-append, ltb, leb, ltb-true, le-leb, eq-eqb}
use Rattle.coding.specs.{Reader.got, Codec.{length_octets, Spans, definite, Walk, here, Holds, is_tag, one_of, apart, Run}}
use Rattle.coding.proofs.{Basic.Given, Basic.granted, Basic.known, Basic.and_left, Basic.and_right, Basic.and_both, Basic.or_no, Basic.has_left, Basic.has_right, Basic.apart_has}
use Rattle.coding.proofs.{Basic.holds_split, Basic.holds_both, Basic.octets_none, Basic.octets_both, Header.opened_written, Header.spans_only, Header.element_octets, Header.spans_tag}
use Rattle.coding.proofs.{Header.spans_range, Header.spans_forward, Header.spans_shortest, Search.walk_join, Laws.Octets, Laws.clear, Laws.RunLaws}

-- M says which octets mean it
abbrev pub Meaning : Type 1
Meaning = List ℕ → ℕ → ℕ → Type 0

-- w is written of it, v says whether it is valid
pub record Contents (w : List ℕ) (v : Bool) (M : Meaning) : Type 0 where
  pub written : (s : List ℕ) (a : ℕ) → v ≡ true → length w ≤ 65535 → Holds s a w → M s a (a + length w)
  pub fine : (s : List ℕ) (a n : ℕ) → M s a n → v ≡ true
  pub shortest : (s : List ℕ) (a n : ℕ) → Octets s → M s a n → a + length w ≤ n
  pub only : (s : List ℕ) (a n : ℕ) → Octets s → n ≤ length s → length w < 256 → n ≡ a + length w → M s a n → Holds s a w
  pub octets : v ≡ true → length w ≤ 65535 → Octets w

abbrev pub Heads : List ℕ → Bool → List ℕ → ℕ → ℕ → Type 0
Heads ts b s a n = ((a < n) × (one_of ts (get_or s a 0) ≡ true)) ⊎ ((a ≡ n) × (b ≡ true))

-- and it is elements that begin with one of the tags ts, or none if b
pub record Value (w : List ℕ) (v : Bool) (M : Meaning) (ts : List ℕ) (b : Bool) : Type 0 where
  pub held : Contents w v M
  pub heads : (s : List ℕ) (a n : ℕ) → M s a n → Heads ts b s a n
  pub walked : (s : List ℕ) (a n : ℕ) → M s a n → Walk s a n

module _ {A : Type 0} {f : Run A} where
  pub valued : RunLaws f → (x : A) → Value (f.write x) (f.valid x) (f.Means x) f.first f.empty
  valued F x = record {
    held = record {
      written = λ s a. F.written s a x;
      fine = λ s a n. F.fine s a n x;
      shortest = λ s a n. F.shortest s a n x;
      only = λ s a n. F.only s a n x;
      octets = F.octets x;
    };
    heads = λ s a n. F.heads s a n x;
    walked = λ s a n. F.walked s a n x;
  }

  pub reads : RunLaws f → (s : List ℕ) (a e : ℕ) → Octets s → a ≤ e → e ≤ length s → Given (λ x n. (n ≤ e) × f.Means x s a n) (f.read s a e)
  reads F s a e os ae es = granted (f.read s a e) (λ x n r. F.sound s a e n x os ae es r)

  -- the laws of a run are that it is read exactly where it is meant, and those of each value
  pub lawful : ((s : List ℕ) (a e : ℕ) → Octets s → a ≤ e → e ≤ length s → Given (λ x n. (n ≤ e) × f.Means x s a n) (f.read s a e))
      → ((s : List ℕ) (a n e : ℕ) (x : A) → n ≤ e → e ≤ length s → clear f.avoid s n e ≡ true → f.Means x s a n → f.read s a e ≡ got x n)
      → ((x : A) → Value (f.write x) (f.valid x) (f.Means x) f.first f.empty) → RunLaws f
  lawful sound complete L = record {
    sound = λ s a e n x os ae es r. known (sound s a e os ae es) r;
    complete = complete;
    written = λ s a x. (L x).held.written s a;
    fine = λ s a n x. (L x).held.fine s a n;
    shortest = λ s a n x. (L x).held.shortest s a n;
    only = λ s a n x. (L x).held.only s a n;
    octets = λ x. (L x).held.octets;
    heads = λ s a n x. (L x).heads s a n;
    walked = λ s a n x. (L x).walked s a n;
  }

pub has_first : (tag o : ℕ) (ts : List ℕ) → o ≡ tag → one_of (tag ∷ ts) o ≡ true
unfolding one_of
has_first tag o ts q = ap (λ b. b || one_of ts o) (eq-eqb o tag q)

-- nothing comes next at the end
pub at_end_lem : (p : ℕ → Bool) (s : List ℕ) (n e : ℕ) → e ≤ n → clear p s n e ≡ true
at_end_lem p s n e h = ap (λ b. b || not (p (get_or s n 0))) (le-leb e n h)

-- nothing at all
pub none_value : {ts : List ℕ} → Value [] true (λ s a n. a ≡ n) ts true
none_value = record {
  held = record {
    written = λ s a v l h. omega arith;
    fine = λ s a n m. refl;
    shortest = λ s a n os m. omega arith;
    only = λ s a n os ns b e m. tt;
    octets = λ v b. octets_none;
  };
  heads = λ s a n m. inr (m, refl);
  walked = λ s a n m. subst (Walk s a) m here;
}

-- it begins with one of its tags if it cannot be nothing, and goes on in any case
pub starts : {w ts : List ℕ} {v b : Bool} {M : Meaning} → Value w v M ts b → b ≡ false → (s : List ℕ) (a n : ℕ) → M s a n
    → (a < n) × (one_of ts (get_or s a 0) ≡ true)
starts L full s a n m = elim (L.heads s a n m) [ inl h ↦ h | inr h ↦ absurd (true≢false (sym h.1 ∙ full)) ]

pub forwards : {w ts : List ℕ} {v b : Bool} {M : Meaning} → Value w v M ts b → (s : List ℕ) (a n : ℕ) → M s a n → a ≤ n
forwards L s a n m = elim (L.heads s a n m) [ inl h ↦ omega (arith, h.0) | inr h ↦ omega (arith, h.0) ]

module _ {w : List ℕ} {v : Bool} {M : Meaning} where
  -- what may not come next after something before it does not
  pub clears : {ts : List ℕ} {b : Bool} → Value w v M ts b → (p : ℕ → Bool) → apart ts p ≡ true → (s : List ℕ) (a n e : ℕ)
      → clear (λ o. b && p o) s n e ≡ true → M s a n → clear p s a e ≡ true
  clears {ts} L p ok s a n e cl m =
      elim (L.heads s a n m) [
        | inl h ↦ or_no (leb e a) (p (get_or s a 0)) (apart_has ts p (get_or s a 0) ok h.1)
        | inr h ↦ rw h.0 (rw h.1 at cl)
      ]

  -- the same value, meant by the same octets, said otherwise
  pub recast : {N : Meaning} {ts us : List ℕ} {b c : Bool} → ((s : List ℕ) (a n : ℕ) → M s a n → N s a n) → ((s : List ℕ) (a n : ℕ) → N s a n → M s a n)
      → ((s : List ℕ) (a n : ℕ) → M s a n → Heads us c s a n) → Value w v M ts b → Value w v N us c
  recast to from heads L = record {
    held = record {
      written = λ s a y l h. to s a _ (L.held.written s a y l h);
      fine = λ s a n m. L.held.fine s a n (from s a n m);
      shortest = λ s a n os m. L.held.shortest s a n os (from s a n m);
      only = λ s a n os ns l e m. L.held.only s a n os ns l e (from s a n m);
      octets = L.held.octets;
    };
    heads = λ s a n m. heads s a n (from s a n m);
    walked = λ s a n m. L.walked s a n (from s a n m);
  }

  pub headed : {ts us : List ℕ} {b c : Bool} → ((s : List ℕ) (a n : ℕ) → M s a n → Heads us c s a n) → Value w v M ts b → Value w v M us c
  headed heads L = recast (λ s a n m. m) (λ s a n m. m) heads L

  -- where a test passes
  pub guarded : {ts : List ℕ} {b t : Bool} {T : Type 0} → (t ≡ true → T) → (T → t ≡ true) → (T → Value w v M ts b) → Value w (t && v) (λ s a n. T × M s a n) ts b
  guarded {t = t} to from L = record {
    held = record {
      written = λ s a y l h. let p = to (and_left t v y) in (p, (L p).held.written s a (and_right t v y) l h);
      fine = λ s a n (p, m). and_both t v (from p) ((L p).held.fine s a n m);
      shortest = λ s a n os (p, m). (L p).held.shortest s a n os m;
      only = λ s a n os ns l e (p, m). (L p).held.only s a n os ns l e m;
      octets = λ y. (L (to (and_left t v y))).held.octets (and_right t v y);
    };
    heads = λ s a n (p, m). (L p).heads s a n m;
    walked = λ s a n (p, m). (L p).walked s a n m;
  }

  -- one after another
  pub joined : {w' : List ℕ} {v' b b' : Bool} {M' : Meaning} {ts ts' : List ℕ} → Value w v M ts b → Value w' v' M' ts' b'
      → Value (w ++ w') (v && v') (λ s a n. (m : ℕ) × M s a m × M' s m n) (ts ++ cond b ts' []) (b && b')
  joined {w'} {v'} {b} {b'} {M'} {ts} {ts'} L R =
      let t = length-append w w' in
      record {
        held = record {
          written = λ s a y l h. (
            a + length w,
            L.held.written s a (and_left v v' y) (omega arith) (holds_split s a w w' h).0,
            subst (M' s (a + length w)) (omega arith) (R.held.written s (a + length w) (and_right v v' y) (omega arith) (holds_split s a w w' h).1),
          );
          fine = λ s a n (m, p, q). and_both v v' (L.held.fine s a m p) (R.held.fine s m n q);
          shortest = λ s a n os (m, p, q). omega (arith, L.held.shortest s a m os p, R.held.shortest s m n os q);
          only = λ s a n os ns l e (m, p, q).
              let i = L.held.shortest s a m os p in
              let j = R.held.shortest s m n os q in
              let at : m ≡ a + length w = omega arith in
              holds_both s a w w' (L.held.only s a m os (omega arith) (omega arith) at p)
              (subst (λ (k : ℕ). Holds s k w') at (R.held.only s m n os ns (omega arith) (omega arith) q));
          octets = λ y l. octets_both w w' (L.held.octets (and_left v v' y) (omega arith)) (R.held.octets (and_right v v' y) (omega arith));
        };
        heads = λ s a n (m, p, q).
            elim (L.heads s a m p) [
              | inl h ↦ inl (omega (arith, h.0, forwards R s m n q), has_left ts _ (get_or s a 0) h.1)
              | inr h ↦ elim (R.heads s m n q) [
                | inl k ↦ inl (omega (arith, h.0, k.0), has_right ts _ (get_or s a 0) (rw h.1 (rw h.0 k.1)))
                | inr k ↦ inr (h.0 ∙ k.0, and_both b b' h.1 k.1)
              ]
            ];
        walked = λ s a n (m, p, q). walk_join (L.walked s a m p) (R.walked s m n q);
      }

  -- an element whose contents it is
  pub element : (tag : ℕ) → is_tag tag ≡ true → ((s : List ℕ) (a c m n : ℕ) → Spans tag s a c m n → M s c m → Walk s a n) → Contents w v M
      → Value (tag ∷ length_octets (length w) ++ w) v (λ s a n. (c m : ℕ) × Spans tag s a c m n × M s c m) (tag ∷ []) false
  element tag real walk L =
      let t = length-append (length_octets (length w)) w in
      record {
        held = record {
          written = λ s a y l h.
              let o = opened_written tag s a w (omega arith) h in
              (o.0, a + length (tag ∷ length_octets (length w) ++ w), definite o.1 refl, subst (M s o.0) o.3 (L.written s o.0 y (omega arith) o.2));
          fine = λ s a n (c, m, o, k). L.fine s c m k;
          shortest = λ s a n os (c, m, o, k). spans_shortest tag s a c m n w os o (L.shortest s c m os k);
          only = λ s a n os ns l e (c, m, o, k).
              spans_only tag s a c m n w os ns (omega arith) o (L.shortest s c m os k) e
              (λ q. L.only s c m os (omega (arith, (spans_range o).2)) (omega arith) (sym q) k);
          octets = λ y l. element_octets tag w (ltb-true tag 256 (and_right (ltb 0 tag) (ltb tag 256) real)) (omega arith) (L.octets y (omega arith));
        };
        heads = λ s a n (c, m, o, k). inl (spans_forward o, has_first tag (get_or s a 0) [] (spans_tag o));
        walked = λ s a n (c, m, o, k). walk s a c m n o k;
      }
