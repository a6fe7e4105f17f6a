-- What the returns of a reader cite that stores what it reads and answers where it ended.
use Rattle.prelude.proofs.{Prelude.{ℕ, ◌≡◌, refl, ap, sym, ◌∙◌, false, eqb, eq-eqb, ne_eqb, eqb-true, eqb-false}, Ways.by_cases}
use Rattle.read_elements.specs.{declared.Empty.Empty, inner.Closing.closed_by}
use Rattle.coding.specs.{Reader.{Ans, Ans.{got, halt}, Ruling, after, ruled, closed}, inner.Shown.{shown, verdict}}
use Rattle.coding.proofs.Reading.{some_code, step, stay, passes, shut, remains}
use Rattle.types.specs.Stored.{stored}

module _ {A : Type 0} (z w : A) where
  pub is_stored : {k : ℕ} → k ≡ 0 → stored z k w ≡ w
  unfolding stored
  is_stored h = rw (eq-eqb _ _ h)

  pub not_stored : {k : ℕ} → (k ≡ 0 → ⊥) → stored z k w ≡ z
  unfolding stored
  not_stored h = rw (ne_eqb _ _ h)

  module _ {r : Empty} {t : ℕ × ℕ × A × ℕ} where
    -- a fault, whatever is stored: named by its number, or by that it is none of 0
    pub surplus : {k p : ℕ} → r ≡ record { fault = k; place = p; next = 0 } → eqb k 0 ≡ false → (k, p, z, 0) ≡ t → (r.fault, r.place, stored z r.fault w, r.next) ≡ t
    unfolding stored
    surplus e k0 h = rw (e, k0) h

    pub refused : {k p : ℕ} → r ≡ record { fault = k; place = p; next = 0 } → (k ≡ 0 → ⊥) → (k, p, z, 0) ≡ t → (r.fault, r.place, stored z r.fault w, r.next) ≡ t
    refused e k0 h = surplus e (ne_eqb _ _ k0) h

    -- what is stored
    pub arrived : {n : ℕ} → r ≡ record { fault = 0; place = 0; next = n } → (0, 0, w, n) ≡ t → (r.fault, r.place, stored z r.fault w, r.next) ≡ t
    unfolding stored
    arrived e h = rw e h

-- an answer that nothing follows
pub after_same : {A : Type 0} (x : Ans A) → after x got ≡ x
unfolding after
after_same (got v n) = refl
after_same (halt w p) = refl

-- a good answer goes on with what it stored
pub goes : {A B : Type 0} (x : Ans A) (f : A → ℕ → Ans B) (z w : A) (y : B) {k p n : ℕ} {t : ℕ × ℕ × B × ℕ} →
    (k, p, stored z k w, n) ≡ shown z x → k ≡ 0 → t ≡ shown y (f w n) → t ≡ shown y (after x f)
goes x f z w y {n = n} e k0 h = step x f z y e k0 (h ∙ ap (λ v. shown y (f v n)) (sym (is_stored z w k0)))

-- an answer that is handed on as it is, for a value of which what is stored is a part
pub hands : {A B : Type 0} (x : Ans A) (to : A → B) (z w : A) (y : B) {k p n : ℕ} →
    (k, p, stored z k w, n) ≡ shown z x → (k, p, stored y k (to w), n) ≡ shown y (after x (λ v last. got (to v) last))
unfolding shown after
hands {B = B} (got v last) to z w y {k} e =
    let k0 : k ≡ 0 = ap (λ q. q.0) e in
    rw (is_stored y (to w) k0) (rw (is_stored z w k0) at (ap {B = ℕ × ℕ × B × ℕ} (λ q. (q.0, q.1, to q.2, q.3)) e))
hands {B = B} (halt f i) to z w y {k} e =
    let k0 : k ≡ 0 → ⊥ = λ h. some_code f (sym (ap (λ q. q.0) e) ∙ h) in
    rw (not_stored y (to w) k0) (ap {B = ℕ × ℕ × B × ℕ} (λ q. (q.0, q.1, y, q.3)) e)

-- an element whose contents are stored, as such a part or as the value
module _ {A : Type 0} (x : Ans A) (z w : A) (q : Empty) {r : Empty} (stop next : ℕ) (h : r ≡ closed_by q stop next)
    (e : (q.fault, q.place, stored z q.fault w, q.next) ≡ shown z x) where
  pub closes_as : {B : Type 0} (to : A → B) (y : B) →
      (r.fault, r.place, stored y r.fault (to w), r.next) ≡ shown y (after x (λ v last. closed (to v) last stop next))
  unfolding closed_by
  closes_as to y =
      by_cases (eqb q.fault 0)
      (λ k. let k0 = eqb-true q.fault 0 k in
      by_cases (eqb q.next stop)
      (λ m. arrived y (to w) (h ∙ simp (k, m)) (goes x _ z w y e k0 (shut y (to w) q.next stop next (eqb-true q.next stop m))))
      (λ m. surplus y (to w) (h ∙ simp (k, m)) refl (goes x _ z w y e k0 (remains y (to w) q.next stop next (eqb-false q.next stop m)))))
      (λ k. surplus y (to w) (h ∙ simp k) k (stay x _ z y e (eqb-false q.fault 0 k)))

  pub closes : (r.fault, r.place, stored z r.fault w, r.next) ≡ shown z (after x (λ v last. closed v last stop next))
  closes = closes_as (λ v. v) z

-- good contents are what they stored
pub keeps : {A : Type 0} (z w : A) (j : Ruling A) (at next : ℕ) {k : ℕ} → (k, stored z k w) ≡ verdict z j → k ≡ 0 → (0, 0, w, next) ≡ shown z (ruled j at next)
keeps z w j at next e k0 = rw (is_stored z w k0) at (passes z j at next e k0)

pub ruleset storing = (refused, surplus, arrived, goes, keeps)
