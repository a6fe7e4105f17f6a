-- An element by itself and whose tag is one of a list: its laws, that it ends where the octets end, and what the code's proofs cite.
use Rattle.prelude.proofs.Prelude.{ℕ, ◌+◌, ◌≤◌, ◌<◌, ◌≡◌, refl, sym, ap, ◌∙◌, subst, List, true, false, not, cond, inl, arith, get_or, leb, eqb, leb-true, leb-false, lt-leb, le-leb, eqb-true}
use Rattle.prelude.proofs.Prelude.{eq-eqb, ne_eqb, not-false}
use Rattle.coding.specs.{declared.Extent.Extent, Reader.Ans, Reader.Fault, Reader.got, Reader.halt, Reader.code, Reader.after, Reader.blamed, Reader.length_at, Reader.opened}
use Rattle.coding.specs.{Reader.entered_any, Reader.closed, Reader.constructed, Reader.one_of, Reader.Fault.missing, Reader.Fault.unexpected, Codec.Run, Codec.Spans, Codec.is_tag}
use Rattle.coding.specs.{Codec.apart, Codec.cons, Codec.frames, inner.Shown.shown}
use Rattle.coding.proofs.{Basic.it, Basic.void, Basic.granted, Basic.known, Basic.choose, Basic.bind, Basic.chain, Basic.picked, Basic.unpicked, Basic.followed, Basic.or-false}
use Rattle.coding.proofs.{Basic.apart_has, Laws.RunLaws, Header.opened_there, Header.spans_complete, Header.spans_tag, Header.spans_range, Header.spans_forward, Combine.cons_value}
use Rattle.coding.proofs.{Combine.cons_laws, More.blamed_got, Value.lawful, Value.at_end_lem, Value.headed, Value.guarded, Reading.got_of, Reading.halt_of}

module _ (tags : List ℕ) (m : Fault → Fault) (w : Fault) (s : List ℕ) (a e : ℕ) where
  -- where the tag is one of the list its length octets decide
  any_opens : a < e → one_of tags (get_or s a 0) ≡ true → (z : Ans Extent) → length_at a s (a + 1) e ≡ z
      → entered_any tags m w s a e ≡ after (blamed m z) (λ x next. cond (eqb next e) (got x next) (halt w next))
  unfolding entered_any
  any_opens h t z q =
      unpicked _ _ (lt-leb e a h) ∙ picked _ _ t
      ∙ ap (λ r. after (blamed m r) (λ x next. cond (eqb next e) (got x next) (halt w next))) q

  -- what is entered begins with one of the tags, is opened as that tag alone would be, and ends where the octets end
  pub any_got : {x : Extent} {n : ℕ} → entered_any tags m w s a e ≡ got x n
      → (one_of tags (get_or s a 0) ≡ true) × (opened (get_or s a 0) s a e ≡ got x n) × (n ≡ e)
  unfolding entered_any
  any_got r = known {P = λ x n. (one_of tags (get_or s a 0) ≡ true) × (opened (get_or s a 0) s a e ≡ got x n) × (n ≡ e)} (
      choose (leb e a) (λ h. void) (λ h. choose (one_of tags (get_or s a 0))
      (λ t. bind (granted (blamed m (length_at a s (a + 1) e)) (λ x n q. q)) (λ x n q. choose (eqb n e)
      (λ z. it (t, opened_there (get_or s a 0) s a e (leb-false e a h) refl ∙ blamed_got m (length_at a s (a + 1) e) q, eqb-true n e z)) (λ z. void))) (λ t. void))) r

module _ {A : Type 0} (tags : List ℕ) (tag_of : A → ℕ) (m : Fault → Fault) (w : Fault) (f : ℕ → Run A) where
  -- what is read ends where the octets end
  pub frames_ends : (s : List ℕ) (a e n : ℕ) (x : A) → (frames tags tag_of m w f).read s a e ≡ got x n → n ≡ e
  unfolding frames closed
  frames_ends s a e n x r = known (bind (granted _ (λ y k q. (any_got tags m w s a e q).2)) (λ y k q.
      bind (granted {P = λ v l. Unit {0}} _ (λ v l i. tt)) (λ v l i. choose (eqb l y.stop) (λ z. it q) (λ z. void)))) r

  -- an element of one of the tags is one of that tag, whose laws `cons` has
  pub frames_laws : ((t : ℕ) → RunLaws (f t)) → ((t : ℕ) (x : A) → one_of tags t ≡ true → (f t).valid x ≡ true → tag_of x ≡ t) → apart tags (λ t. not (is_tag t)) ≡ true
      → RunLaws (frames tags tag_of m w f)
  unfolding frames cons constructed closed after blamed
  frames_laws F own some =
      let named : (t : ℕ) → one_of tags t ≡ true → is_tag t ≡ true = λ t h. not-false (is_tag t) (apart_has tags (λ o. not (is_tag o)) t some h) in
      lawful
      (λ s a e os ae es. granted _ (λ x n r.
      let t : ℕ = get_or s a 0 in
      let c = chain (entered_any tags m w s a e) _ r in
      let g = any_got tags m w s a e c.2 in
      let C = cons_laws t (f t) (F t) (named t g.0) in
      let p = C.sound s a e n x os ae es (followed _ g.1 ∙ c.3) in
      let q : t ≡ tag_of x = sym (own t x g.0 (C.fine s a n x p.1)) in
      (p.0, subst (λ (u : ℕ). (one_of tags u ≡ true) × ((c k : ℕ) × Spans u s a c k n × (f u).Means x s c k)) q (g.0, p.1))))
      (λ s a n e x ne es cl (h, (c, l, op, k)).
      let t : ℕ = get_or s a 0 in
      let en = leb-true e n (or-false (leb e n) cl) in
      let g = spans_range op in
      let ae : a < e = omega (arith, spans_forward op) in
      let k' : (f t).Means x s c l = subst (λ (u : ℕ). (f u).Means x s c l) (sym (spans_tag op)) k in
      let op' : Spans t s a c l n = subst (λ (u : ℕ). Spans u s a c l n) (sym (spans_tag op)) op in
      let walk = (F t).walked s c l x k' in
      followed _ (any_opens tags m w s a e ae (ap (one_of tags) (spans_tag op) ∙ h) _ (sym (opened_there t s a e ae refl) ∙
      spans_complete t s a c l n e ne op' walk) ∙ picked _ _ (eq-eqb n e (omega arith)))
      ∙ followed _ ((F t).complete s c l l x (omega arith) (omega (arith, g.2)) (at_end_lem (f t).avoid s l l (omega arith)) k')
      ∙ picked _ _ (eq-eqb l l refl))
      (λ x.
      headed (λ s a n (h, (c, l, op, k)). inl (spans_forward op, ap (one_of tags) (spans_tag op) ∙ h))
      (guarded (λ h. h) (λ h. h) (λ h. cons_value (tag_of x) (f (tag_of x)) (F (tag_of x)) (named (tag_of x) h) x)))

-- ---- the code's steps: nothing there, another tag, a fault of the length octets, something after it, or its contents

module _ {B : Type 0} (tags : List ℕ) (m : Fault → Fault) (w : Fault) (s : List ℕ) (a e : ℕ) (k : Extent → ℕ → Ans B) (y : B) where
  pub any_lacks : e ≤ a → (code (m missing), e, y, 0) ≡ shown y (after (entered_any tags m w s a e) k)
  unfolding entered_any after shown
  any_lacks h = simp (le-leb e a h)

  pub any_strange : a < e → one_of tags (get_or s a 0) ≡ false → (code (m unexpected), a, y, 0) ≡ shown y (after (entered_any tags m w s a e) k)
  unfolding entered_any after shown
  any_strange h t = simp (lt-leb e a h, t)

  -- recode is m on the faults' numbers
  pub any_told : (recode : ℕ → ℕ) → ((v : Fault) → recode (code v) ≡ code (m v)) → (z : Extent) {j p n : ℕ} {x : Extent} → a < e → one_of tags (get_or s a 0) ≡ true
      → (j, p, x, n) ≡ shown z (length_at a s (a + 1) e) → (j ≡ 0 → ⊥) → (recode j, p, y, 0) ≡ shown y (after (entered_any tags m w s a e) k)
  unfolding shown after blamed
  any_told recode same z {p = p} h t q j0 =
      let r = halt_of _ z q j0 in
      rw (any_opens tags m w s a e h t _ r.1) (ap (λ i. (recode i, p, y, 0)) r.2 ∙ ap (λ i. (i, p, y, 0)) (same r.0))

  pub any_over : (z : Extent) {j p n : ℕ} {x : Extent} → a < e → one_of tags (get_or s a 0) ≡ true
      → (j, p, x, n) ≡ shown z (length_at a s (a + 1) e) → j ≡ 0 → (n ≡ e → ⊥) → (code w, n, y, 0) ≡ shown y (after (entered_any tags m w s a e) k)
  unfolding shown after blamed
  any_over z {n = n} h t q j0 ne = rw (any_opens tags m w s a e h t _ (got_of _ z q j0), ne_eqb n e ne)

  pub any_enters : (z : Extent) {j p n : ℕ} {x : Extent} {t : ℕ × ℕ × B × ℕ} → a < e → one_of tags (get_or s a 0) ≡ true
      → (j, p, x, n) ≡ shown z (length_at a s (a + 1) e) → j ≡ 0 → n ≡ e → t ≡ shown y (k x n) → t ≡ shown y (after (entered_any tags m w s a e) k)
  unfolding after blamed
  any_enters z {n = n} h b q j0 ne r = rw (any_opens tags m w s a e h b _ (got_of _ z q j0), eq-eqb n e ne) r
