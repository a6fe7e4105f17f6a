-- A loop over a list's entries: the entries so far, and that the whole list is those and then the rest.
use Rattle.prelude.proofs.Prelude.{ℕ, zero, suc, ◌-◌, ◌≤◌, ◌<◌, arith, sub-zero, ◌≡◌, refl, ap, sym, ◌∙◌, List, [], ◌∷◌, ◌++◌, append_assoc, append-nil, length, get_or, length-append, le-leb}
use Rattle.prelude.proofs.Prelude.{lt-leb, lt-ltb, eq-eqb, ne_eqb}
use Rattle.coding.specs.{Reader.Ans, Reader.Reader, Reader.after, Reader.entries, Reader.list_of, Reader.tagged, Reader.Ans.got, Reader.Ans.halt, inner.Shown.shown}
use Rattle.coding.proofs.Reading.{got_of, halt_of}

-- the entries so far in front of an answer for the rest
unfoldable pub behind : {A : Type 0} → List A → Ans (List A) → Ans (List A)
behind xs (got ys n) = got (xs ++ ys) n
behind xs (halt w p) = halt w p

pub behind_nil : {A : Type 0} (x : Ans (List A)) → behind [] x ≡ x
unfolding behind
behind_nil (got ys n) = refl
behind_nil (halt w p) = refl

pub behind_after : {A : Type 0} (xs : List A) (v : A) (x : Ans (List A)) →
    behind xs (after x (λ vs last. got (v ∷ vs) last)) ≡ behind (xs ++ (v ∷ [])) x
unfolding behind after
behind_after xs v (got ys n) = ap (λ l. got l n) (sym (append_assoc xs (v ∷ []) ys))
behind_after xs v (halt w p) = refl

module _ {A : Type 0} (tag : ℕ) (entry : Reader A) (s : List ℕ) (end : ℕ) where
  turn : (m i : ℕ) → i < end →
      entries tag (suc m) entry s i end ≡ after (entry s i end) (λ v next. after (entries tag m entry s next end) (λ vs last. got (v ∷ vs) last))
  unfolding entries
  turn m i h = simp (lt-leb end i h)

  enough : (m i : ℕ) → end ≤ i → entries tag m entry s i end ≡ got [] i
  unfolding entries
  enough zero i h = simp (le-leb end i h)
  enough (suc m) i h = simp (le-leb end i h)

-- The loop's invariant: the entries xs are read and the next would be at i.
pub record Going {A : Type 0} (tag most : ℕ) (entry : Reader A) (s : List ℕ) (at end : ℕ) (xs : List A) (i : ℕ) : Type 0 where
  pub begun : at < end
  pub few : length xs ≤ most
  pub rest : list_of tag most entry s at end ≡ behind xs (entries tag (most - length xs) entry s i end)

module _ {A : Type 0} (tag most : ℕ) (entry : Reader A) (s : List ℕ) (at end : ℕ) where
  pub going_start : at < end → Going tag most entry s at end [] at
  unfolding list_of
  going_start h = record { begun = h; few = omega arith; rest = simp (lt-leb end at h, behind_nil, sub-zero) }

  pub going_more : (xs : List A) (i : ℕ) (z : A) {k p n : ℕ} {v : A} → Going tag most entry s at end xs i → i < end → length xs < most →
      (k, p, v, n) ≡ shown z (entry s i end) → k ≡ 0 → Going tag most entry s at end (xs ++ (v ∷ [])) n
  unfolding after
  going_more xs i z {v = v} g h l e k0 =
      let a : most - length xs ≡ suc (most - length (xs ++ (v ∷ []))) = simp length-append (omega arith) in
      record {
        begun = g.begun;
        few = simp length-append (omega arith);
        rest = g.rest ∙ rw (a, turn tag entry s end _ i h, got_of _ _ e k0) (behind_after xs v _);
      }

  module _ {B : Type 0} (f : List A → ℕ → Ans B) (z : B) (xs : List A) (i : ℕ) (g : Going tag most entry s at end xs i) where
    pub list_done : {t : ℕ × ℕ × B × ℕ} → end ≤ i → t ≡ shown z (f xs i) → t ≡ shown z (after (list_of tag most entry s at end) f)
    unfolding after behind
    list_done h r = rw (g.rest, enough tag entry s end _ i h, append-nil) r

    pub list_fault : (y : A) {k p n : ℕ} {v : A} → i < end → length xs < most → (k, p, v, n) ≡ shown y (entry s i end) → (k ≡ 0 → ⊥) →
        (k, p, z, 0) ≡ shown z (after (list_of tag most entry s at end) f)
    unfolding after behind shown
    list_fault y {p = p} h l e k0 =
        let a : most - length xs ≡ suc (most - length xs - 1) = omega arith in
        let r = halt_of (entry s i end) y e k0 in
        rw (g.rest, a, turn tag entry s end _ i h, r.1) (ap (λ j. (j, p, z, 0)) r.2)

    pub list_limit : i < end → most ≤ length xs → get_or s i 0 ≡ tag → (45, i, z, 0) ≡ shown z (after (list_of tag most entry s at end) f)
    unfolding after behind entries tagged shown
    list_limit h l e =
        let a : most - length xs ≡ 0 = omega arith in
        rw (g.rest, a) (simp (lt-leb end i h, lt-ltb i end h, eq-eqb _ _ e))

    pub list_strange : i < end → most ≤ length xs → (get_or s i 0 ≡ tag → ⊥) → (41, i, z, 0) ≡ shown z (after (list_of tag most entry s at end) f)
    unfolding after behind entries tagged shown
    list_strange h l e =
        let a : most - length xs ≡ 0 = omega arith in
        rw (g.rest, a) (simp (lt-leb end i h, lt-ltb i end h, ne_eqb _ _ e))

  pub list_none : {B : Type 0} (f : List A → ℕ → Ans B) (z : B) → end ≤ at → (40, end, z, 0) ≡ shown z (after (list_of tag most entry s at end) f)
  unfolding after list_of shown
  list_none f z h = simp (le-leb end at h)
