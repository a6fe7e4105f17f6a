-- Elements of any tag, and values that are kept as the octets written of them: their laws.
use Rattle.prelude.proofs.Prelude.{ℕ, zero, suc, ◌+◌, ◌-◌, ◌≤◌, ◌<◌, ◌≡◌, refl, sym, ap, ◌∙◌, List, [], ◌∷◌, ◌++◌, Bool, true, false, ◌&&◌, not, cond, true≢false, inl, arith, length, get_or}
use Rattle.prelude.proofs.Ways.{by_cases}
use Rattle.prelude.proofs.Prelude.{ltb, leb, eqb, eqb-false, and-false, ltb-true, leb-true, leb-false, eqb-true, lt-ltb, le-leb, lt-leb, eq-eqb, not-true, add-zero}
use Rattle.coding.specs.{Reader.Ans, Reader.got, Reader.halt, Reader.Reader, Reader.Ruling, Reader.mapped, Reader.composite, Reader.constructed, Reader.closed, Contents.every}
use Rattle.coding.specs.{Codec.is_tag, Codec.simple, Codec.one_of, Codec.Run, Codec.prim, Codec.same_list, Codec.definite}
use Rattle.coding.specs.Normal.{is_octet, is_good, as_judged, octet_string, Any, of_octets, of_elements, Several, none, more, opening, write_any, write_several, valid_any, valid_several, MeansAny, MeansSeveral}
use Rattle.coding.specs.{declared.Extent.Extent, Reader.Fault, Reader.after, Reader.opened, Reader.primitive, Reader.ruled, Reader.part, Codec.Spans}
use Rattle.coding.specs.Normal.{any_by, several_by, several_at, up_from, any_element, limited, itself, normal_form}
use Rattle.coding.proofs.Basic.{Given, it, void, granted, known, after_same, choose, weaken, bind, picked, unpicked, followed, cond_case, and_left, and_right, and_both, or_no, or_on, octets_none, octets_cons, holds_part}
use Rattle.coding.proofs.Header.{opens, opened_sound, length_forward, spans_tag, spans_range, spans_forward, spans_complete, spans_walk}
use Rattle.coding.proofs.Laws.{Octets, LeafLaws, RunLaws}
use Rattle.coding.proofs.Value.{Value, valued, reads, lawful, at_end_lem, none_value, starts, forwards, headed, guarded, joined, element}
use Rattle.coding.proofs.{Combine.prim_laws, Digits.{Fit, fit, out, leaf_laws}, Padded.list_equal, Padded.eqb_equal, Whole.reads_back}

-- ---- octets

pub every_octet : (xs : List ℕ) → Octets xs → every is_octet xs ≡ true
unfolding every
every_octet [] os = refl
every_octet (x ∷ xs) os = rw (lt-ltb x 256 (os 0)) (every_octet xs (λ i. os (suc i)))

pub octets_every : (xs : List ℕ) → every is_octet xs ≡ true → Octets xs
unfolding every
octets_every [] v = octets_none
octets_every (x ∷ xs) v = cond_case (ltb x 256) v (λ q w. octets_cons x xs (ltb-true x 256 q) (octets_every xs w)) (λ q w. absurd (true≢false (sym w)))

-- ---- contents that are kept as they are

module _ (judge : List ℕ → Ruling (Unit {0})) where
  passed : (xs : List ℕ) → Octets xs → (r : Ruling (Unit {0})) → judge xs ≡ r
      → Fit (λ ys. (xs ≡ ys) × (every is_octet ys && is_good (judge ys) ≡ true)) (mapped (λ u. xs) r)
  unfolding mapped
  passed xs os (Ruling.good u) q = fit (refl, and_both (every is_octet xs) _ (every_octet xs os) (ap is_good q))
  passed xs os (Ruling.bad w) q = out

  good_is : (xs : List ℕ) (r : Ruling (Unit {0})) → is_good r ≡ true → mapped (λ u. xs) r ≡ Ruling.good xs
  unfolding mapped
  good_is xs (Ruling.good u) v = refl
  good_is xs (Ruling.bad w) v = absurd (true≢false (sym v))

  pub as_judged_laws : LeafLaws (as_judged judge)
  unfolding as_judged
  as_judged_laws =
      leaf_laws (λ xs os. passed xs os (judge xs) refl) (λ xs v. good_is xs (judge xs) (and_right (every is_octet xs) _ v))
      (λ xs v. octets_every xs (and_left (every is_octet xs) _ v))

octet_strings : (tag : ℕ) → simple tag ≡ true → RunLaws (prim tag octet_string)
unfolding octet_string
octet_strings tag low = prim_laws tag octet_string (as_judged_laws (λ xs. Ruling.good tt)) low

-- ---- an element of any tag

has_any : (k n o : ℕ) → k ≤ o → o < k + n → one_of (up_from k n) o ≡ true
unfolding up_from one_of
has_any k zero o l h = absurd (omega arith)
has_any k (suc n) o l h = by_cases (eqb o k) (λ q. rw q) (λ q. let p = eqb-false o k q in or_on (eqb o k) _ (has_any (k + 1) n o (omega arith) (omega arith)))

-- a tag stands where an element of any tag may begin
begins : (o tag : ℕ) → is_tag tag ≡ true → o ≡ tag → one_of (up_from 1 255) o ≡ true
begins o tag real t =
    rw t (has_any 1 255 tag (omega (arith, ltb-true 0 tag (and_left (ltb 0 tag) (ltb tag 256) real))) (omega (arith, ltb-true tag 256 (and_right (ltb 0 tag) (ltb tag 256) real))))

mutual
  unfolding prim octet_string as_judged

  any_value : (x : Any) → Value (write_any x) (valid_any x) (MeansAny x) (up_from 1 255) false
  any_value (of_octets tag xs) =
      headed (λ s a n (q, (c, o, w, v)). inl (spans_forward (definite o refl), begins (get_or s a 0) tag (and_left (is_tag tag) _ q) o.0))
      (guarded (λ q. q) (λ q. q) (λ q. valued (octet_strings tag q) xs))
  any_value (of_elements tag es) =
      headed (λ s a n (q, (c, m, o, k)). inl (spans_forward o, begins (get_or s a 0) tag (and_left (is_tag tag) _ q) (spans_tag o)))
      (guarded (λ q. q) (λ q. q) (λ q.
      let real : is_tag tag ≡ true = and_left (is_tag tag) _ q in
      element tag real (λ s a c m n o k. spans_walk tag s a c m n (and_left (ltb 0 tag) (ltb tag 256) real) o ((several_value es).walked s c m k)) (several_value es).held))

  several_value : (es : Several) → Value (write_several es) (valid_several es) (MeansSeveral es) (up_from 1 255) true
  several_value none = none_value
  several_value (more x es) =
      headed (λ s a n (k, u, v). let h = starts (any_value x) refl s a k u in inl (omega (arith, h.0, forwards (several_value es) s k n v), h.1))
      (joined (any_value x) (several_value es))

-- what is read is meant, if what is in a constructed element is
any_sound : (inner : Reader Several) (s : List ℕ) → Octets s
    → ((a e : ℕ) → a ≤ e → e ≤ length s → Given (λ es n. (n ≡ e) × MeansSeveral es s a n) (inner s a e))
    → (a e : ℕ) → a ≤ e → e ≤ length s → Given (λ x n. (n ≤ e) × MeansAny x s a n) (any_by inner s a e)
unfolding any_by prim constructed closed
any_sound inner s os I a e ae es =
    let tag : ℕ = get_or s a 0 in
    choose (leb e a) (λ h. void) (λ h. choose (simple tag) (λ q. bind (reads (octet_strings tag q) s a e os ae es) (λ xs n p. it (p.0, (q, p.1))))
    (λ z. choose (opening tag) (λ q. bind (bind (opens tag s a e) (λ ex n o.
    let g = spans_range o.0 in
    bind (I ex.start ex.stop g.1 (omega (arith, g.2, o.1))) (λ y k i.
    choose {P = λ es n. (n ≤ e) × MeansAny (of_elements tag es) s a n} (eqb k ex.stop)
    (λ r. it (o.1, (q, (ex.start, ex.stop, o.0, rw (eqb-true k ex.stop r) at i.1)))) (λ r. void)))) (λ es n p. it p)) (λ q. void)))

several_sound : (k : ℕ) (s : List ℕ) → Octets s → (a e : ℕ) → a ≤ e → e ≤ length s → Given (λ es n. (n ≡ e) × MeansSeveral es s a n) (several_by k s a e)
unfolding several_by
several_sound zero s os a e ae es = choose (leb e a) (λ h. it (omega (arith, leb-true e a h), refl)) (λ h. void)
several_sound (suc k) s os a e ae es =
    choose (leb e a) (λ h. it (omega (arith, leb-true e a h), refl))
    (λ h. bind (any_sound (several_by k) s os (several_sound k s os) a e ae es) (λ x m p. bind (several_sound k s os m e p.0 es) (λ xs n q. it (q.0, (m, p.1, q.1)))))

-- what is meant is read, in as many turns as there are octets
mutual
  unfolding any_by several_by prim constructed closed

  any_complete : (x : Any) (k : ℕ) (s : List ℕ) (a n e : ℕ) → n ≤ e → e ≤ length s → e ≤ a + 2 + k → MeansAny x s a n → any_by (several_by k) s a e ≡ got x n
  any_complete (of_octets tag xs) k s a n e ne es few (q, m) =
      let o = m.1 in
      rw o.0 (unpicked _ _ (lt-leb e a (omega (arith, length_forward o.1, o.2))) ∙ picked _ _ q
      ∙ followed _ ((octet_strings tag q).complete s a n e xs ne es (or_no (leb e n) false refl) m))
  any_complete (of_elements tag es) k s a n e ne ls few (q, (c, m, o, u)) =
      let g = spans_range o in
      let hi : simple tag ≡ false = rw (and_right (is_tag tag) _ q) (and-false (is_tag tag)) in
      rw (spans_tag o) (unpicked _ _ (lt-leb e a (omega (arith, g.0, g.1, g.2))) ∙ unpicked _ _ hi ∙ picked _ _ q
      ∙ followed _ (followed _ (spans_complete tag s a c m n e ne o ((several_value es).walked s c m u))
      ∙ followed _ (several_complete es k s c m (omega (arith, g.2)) (omega (arith, g.0, g.2)) u) ∙ picked _ _ (eq-eqb m m refl)))

  several_complete : (es : Several) (k : ℕ) (s : List ℕ) (a e : ℕ) → e ≤ length s → e ≤ a + k → MeansSeveral es s a e → several_by k s a e ≡ got es e
  several_complete none zero s a e ls few m = picked _ _ (le-leb e a (omega arith)) ∙ ap (got none) m
  several_complete none (suc k) s a e ls few m = picked _ _ (le-leb e a (omega arith)) ∙ ap (got none) m
  several_complete (more x es) zero s a e ls few (m, u, v) =
      absurd (omega (arith, few, (starts (any_value x) refl s a m u).0, forwards (several_value es) s m e v))
  several_complete (more x es) (suc k) s a e ls few (m, u, v) =
      let h = (starts (any_value x) refl s a m u).0 in
      let me = forwards (several_value es) s m e v in
      unpicked _ _ (lt-leb e a (omega arith)) ∙ followed _ (any_complete x k s a m e me ls (omega arith) u)
      ∙ followed _ (several_complete es k s m e ls (omega arith) v)

-- more turns change nothing, so that elements up to an end are one, and then those up to the end
any_same : (inner other : Reader Several) (s : List ℕ) (a e : ℕ) → ((c m : ℕ) → a + 2 ≤ c → m ≤ e → inner s c m ≡ other s c m) → any_by inner s a e ≡ any_by other s a e
unfolding any_by constructed
any_same inner other s a e same =
    let tag : ℕ = get_or s a 0 in
    ap (λ (r : Ans Several). cond (leb e a) (halt Fault.missing e)
    (cond (simple tag) (after (primitive tag octet_string.judge s a e) (λ xs next. got (of_octets tag xs) next))
    (cond (opening tag) (after r (λ es next. got (of_elements tag es) next)) (halt Fault.unexpected a))))
    (after_same (opened tag s a e) (λ x n q.
    let o = opened_sound tag s a e x n q in
    let g = spans_range o.0 in
    ap (λ (r : Ans Several). after r (λ v last. closed v last x.stop n)) (same x.start x.stop g.0 (omega (arith, g.2, o.1)))))

any_next : (inner : Reader Several) (s : List ℕ) (a e : ℕ) → Given (λ x n. (a + 2 ≤ n) × (n ≤ e)) (any_by inner s a e)
unfolding any_by constructed primitive ruled closed octet_string as_judged mapped
any_next inner s a e =
    let tag : ℕ = get_or s a 0 in
    let next : (x : Extent) (n : ℕ) → Spans tag s a x.start x.stop n × (n ≤ e) → (a + 2 ≤ n) × (n ≤ e) =
    λ x n o. let g = spans_range o.0 in (omega (arith, g.0, g.1, g.2), o.1) in
    choose (leb e a) (λ h. void) (λ h. choose (simple tag) (λ q. bind {P = λ y m. (a + 2 ≤ m) × (m ≤ e)} (bind (opens tag s a e) (λ x n o. it (next x n o))) (λ y m p. it p))
    (λ z. choose (opening tag) (λ q. bind {P = λ y m. (a + 2 ≤ m) × (m ≤ e)} (bind (opens tag s a e) (λ x n o. bind (granted {P = λ es k. Unit {0}} (inner s x.start x.stop) (λ es k r. tt))
    (λ es k r. choose (eqb k x.stop) (λ r. it (next x n o)) (λ r. void)))) (λ y m p. it p)) (λ q. void)))

turn_same : (j : ℕ) (s : List ℕ) (a e : ℕ) (other : Reader Several) → ((c m : ℕ) → a + 2 ≤ c → m ≤ e → several_by j s c m ≡ other s c m)
    → several_by (suc j) s a e
    ≡ cond (leb e a) (got none a) (after (any_by other s a e) (λ x next. after (other s next e) (λ es last. got (more x es) last)))
unfolding several_by
turn_same j s a e other same =
    ap (λ (r : Ans Several). cond (leb e a) (got none a) r)
    (after_same (any_by (several_by j) s a e) (λ x n q. ap (λ (r : Ans Several). after r (λ es last. got (more x es) last)) (same n e (known (any_next (several_by j) s a e) q).0 (omega arith)))
    ∙ ap (λ (r : Ans Any). after r (λ x next. after (other s next e) (λ es last. got (more x es) last))) (any_same (several_by j) other s a e same))

turns_same : (j k : ℕ) (s : List ℕ) (a e : ℕ) → e ≤ a + j → e ≤ a + k → several_by j s a e ≡ several_by k s a e
unfolding several_by
turns_same zero zero s a e h l = refl
turns_same zero (suc k) s a e h l = picked _ _ (le-leb e a (omega arith)) ∙ sym (picked _ _ (le-leb e a (omega arith)))
turns_same (suc j) zero s a e h l = picked _ _ (le-leb e a (omega arith)) ∙ sym (picked _ _ (le-leb e a (omega arith)))
turns_same (suc j) (suc k) s a e h l = turn_same j s a e (several_by k) (λ c m u v. turns_same j k s c m (omega arith) (omega arith))

-- they are read to their end, and their shortest forms are no more octets than they have
pub several_reads : (s : List ℕ) → Octets s → (a e : ℕ) → a ≤ e → e ≤ length s → (es : Several) (n : ℕ) → several_at s a e ≡ got es n
    → (n ≡ e) × MeansSeveral es s a n × (a + length (write_several es) ≤ n)
unfolding several_at
several_reads s os a e ae ls es n r =
    let p = known (several_sound (e - a) s os a e ae ls) r in
    (p.0, p.1, (several_value es).held.shortest s a n os p.1)

-- and where they are as many, they are these
pub several_only : (s : List ℕ) → Octets s → (a e : ℕ) → a ≤ e → e ≤ length s → (es : Several) (n : ℕ) → several_at s a e ≡ got es n
    → length (write_several es) < 256 → e ≡ a + length (write_several es) → part s a e ≡ write_several es
unfolding part
several_only s os a e ae ls es n r few q =
    let p = several_reads s os a e ae ls es n r in
    let k : e - a ≡ length (write_several es) = omega arith in
    rw k (holds_part s a (write_several es) ((several_value es).held.only s a n os (omega (arith, p.0)) few (omega (arith, p.0)) p.1))

pub several_unfolds : (s : List ℕ) (a e : ℕ)
    → several_at s a e ≡ cond (leb e a) (got none a) (after (any_by several_at s a e) (λ x next. after (several_at s next e) (λ es last. got (more x es) last)))
unfolding several_at
several_unfolds s a e =
    turns_same (e - a) (suc (e - a)) s a e (omega arith) (omega arith)
    ∙ turn_same (e - a) s a e several_at (λ c m u v. turns_same (e - a) (m - c) s c m (omega arith) (omega arith))

pub any_unfolds : (s : List ℕ) (a e : ℕ) → any_element.read s a e ≡ any_by several_at s a e
unfolding any_element several_at
any_unfolds s a e = any_same (several_by (e - a)) several_at s a e (λ c m u v. turns_same (e - a) (m - c) s c m (omega arith) (omega arith))

pub any_element_laws : RunLaws any_element
unfolding any_element
any_element_laws =
    lawful (λ s a e os ae es. any_sound (several_by (e - a)) s os (several_sound (e - a) s os) a e ae es)
    (λ s a n e x ne es cl m. any_complete x (e - a) s a n e ne es (omega arith) m) any_value

-- ---- a value kept as the octets that are written of it

module _ {A : Type 0} (most : ℕ) (f : Run A) (F : RunLaws f) (fits : most ≤ 65535) where
  is_itself : (xs : List ℕ) (r : Ans A) → itself f.write xs r ≡ true → (x : A) × (f.write x ≡ xs) × (r ≡ got x (length xs))
  unfolding itself
  is_itself xs (got x n) v =
      (x, (list_equal eqb eqb_equal).equal (f.write x) xs (and_left (same_list eqb (f.write x) xs) _ v), ap (got x) (eqb-true n (length xs) (and_right (same_list eqb (f.write x) xs) _ v)))
  is_itself xs (halt w p) v = absurd (true≢false (sym v))

  -- octets that are kept are those of a value that they mean
  pub kept_of : (xs : List ℕ) → (normal_form most f).valid xs ≡ true → (x : A) × (f.write x ≡ xs) × (length xs ≤ most) × (f.valid x ≡ true)
  unfolding normal_form
  kept_of xs v =
      let l = leb-true (length xs) most (and_left (leb (length xs) most) _ v) in
      let w = and_right (leb (length xs) most) _ v in
      let i = is_itself xs (f.read xs 0 (length xs)) (and_right (every is_octet xs) _ w) in
      let m = (F.sound xs 0 (length xs) (length xs) i.0 (octets_every xs (and_left (every is_octet xs) _ w)) (omega arith) (omega arith) i.2).1 in
      (i.0, i.1, l, F.fine xs 0 (length xs) i.0 m)

  of_kept : (x : A) → f.valid x ≡ true → length (f.write x) ≤ most → (normal_form most f).valid (f.write x) ≡ true
  unfolding normal_form itself
  of_kept x v l =
      let o : every is_octet (f.write x) ≡ true = every_octet (f.write x) (F.octets x v (omega arith)) in
      rw (le-leb (length (f.write x)) most l, o, reads_back f F x v (omega arith), (list_equal eqb eqb_equal).self (f.write x), eq-eqb (length (f.write x)) _ refl)

  kept_value : (xs : List ℕ) → Value xs ((normal_form most f).valid xs) ((normal_form most f).Means xs) f.first f.empty
  unfolding normal_form
  kept_value xs = record {
    held = record {
      written = λ s a v b h.
          let k = kept_of xs v in
          let r : f.write k.0 ≡ xs = k.1 in
          (k.0, r, k.2, rw r at (F.written s a k.0 k.3 (rw r b) (rw r h)));
      fine = λ s a n (x, r, l, m). rw r at (of_kept x (F.fine s a n x m) (rw r l));
      shortest = λ s a n os (x, r, l, m). rw r at (F.shortest s a n x os m);
      only = λ s a n os ns b e (x, r, l, m). rw r at (F.only s a n x os ns (rw r b) (rw r e) m);
      octets = λ v b. octets_every xs (and_left (every is_octet xs) _ (and_right (leb (length xs) most) _ v));
    };
    heads = λ s a n (x, r, l, m). F.heads s a n x m;
    walked = λ s a n (x, r, l, m). F.walked s a n x m;
  }

  pub normal_laws : RunLaws (normal_form most f)
  unfolding normal_form limited
  normal_laws =
      lawful
      (λ s a e os ae es. bind (reads F s a e os ae es) (λ x n p. choose (leb (length (f.write x)) most)
      (λ q. it (p.0, (x, refl, leb-true (length (f.write x)) most q, p.1))) (λ q. void)))
      (λ s a n e xs ne es cl (x, r, l, m). followed _ (F.complete s a n e x ne es cl m) ∙ rw r (picked _ _ (le-leb (length xs) most l)))
      kept_value
