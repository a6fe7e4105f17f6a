-- What the proofs of readers cite: how an answer in a struct goes with what follows it.
use Rattle.prelude.proofs.Prelude.{ℕ, arith, ◌≡◌, refl, ap, sym, ◌∙◌, Bool, true, false, cond, List, ◌<◌, ◌≤◌, le-ltb, lt-ltb, eq-eqb, ne_eqb}
use Rattle.coding.specs.{Reader.Ans, Reader.Reader, Reader.Fault, Reader.code, Reader.after, Reader.ruled, Reader.Ruling, Reader.closed, Reader.choice, Reader.neither, Reader.tagged}
use Rattle.coding.specs.{Reader.Ans.got, Reader.Ans.halt, Reader.Fault.missing, Reader.Fault.unexpected, Reader.Fault.cut, Reader.Fault.form, Reader.Fault.shortest}
use Rattle.coding.specs.{Reader.Fault.contents, Reader.Fault.limit, Reader.Fault.named, Reader.Ruling.good, Reader.Ruling.bad, inner.Shown.shown, inner.Shown.verdict, Codec.Run, Codec.pick_run}
use Rattle.prelude.proofs.Ways.{by_cases}

-- no fault has the number 0
pub some_code : (w : Fault) → code w ≡ 0 → ⊥
some_code missing e = omega arith
some_code unexpected e = omega arith
some_code cut e = omega arith
some_code form e = omega arith
some_code shortest e = omega arith
some_code contents e = omega arith
some_code limit e = omega arith
some_code (named n) e = omega arith

-- an answer from how it is shown
pub got_of : {A : Type 0} (x : Ans A) (z : A) {k p n : ℕ} {v : A} → (k, p, v, n) ≡ shown z x → k ≡ 0 → x ≡ got v n
unfolding shown
got_of (got v' n') z e k0 = sym (ap (λ q. got q.2 q.3) e)
got_of (halt w p') z e k0 = absurd (some_code w (sym (ap (λ q. q.0) e) ∙ k0))

pub halt_of : {A : Type 0} (x : Ans A) (z : A) {k p n : ℕ} {v : A} → (k, p, v, n) ≡ shown z x → (k ≡ 0 → ⊥) → (w : Fault) × (x ≡ halt w p) × (k ≡ code w)
unfolding shown
halt_of (got v' n') z e k0 = absurd (k0 (ap (λ q. q.0) e))
halt_of (halt w p') z e k0 = (w, sym (ap (λ q. halt w q.1) e), ap (λ q. q.0) e)

-- a good answer goes on
pub step : {A B : Type 0} (x : Ans A) (f : A → ℕ → Ans B) (z : A) (y : B) {k p n : ℕ} {v : A} {t : ℕ × ℕ × B × ℕ} →
    (k, p, v, n) ≡ shown z x → k ≡ 0 → t ≡ shown y (f v n) → t ≡ shown y (after x f)
unfolding after
step x f z y e k0 r = rw (got_of x z e k0) r

-- a fault stays
pub stay : {A B : Type 0} (x : Ans A) (f : A → ℕ → Ans B) (z : A) (y : B) {k p n : ℕ} {v : A} →
    (k, p, v, n) ≡ shown z x → (k ≡ 0 → ⊥) → (k, p, y, 0) ≡ shown y (after x f)
unfolding shown after
stay x f z y {p = p} e k0 = let h = halt_of x z e k0 in rw h.1 (ap (λ i. (i, p, y, 0)) h.2)

-- what follows what follows: equations by which a type's reading becomes one sequence of steps
pub after_assoc : {A B C : Type 0} (x : Ans A) (f : A → ℕ → Ans B) (g : B → ℕ → Ans C) → after (after x f) g ≡ after x (λ v n. after (f v n) g)
unfolding after
after_assoc (got v n) f g = refl
after_assoc (halt w p) f g = refl

pub assoc : {A B C : Type 0} (x : Ans A) (f : A → ℕ → Ans B) (g : B → ℕ → Ans C) (y : C) {t : ℕ × ℕ × C × ℕ} →
    t ≡ shown y (after x (λ v n. after (f v n) g)) → t ≡ shown y (after (after x f) g)
assoc x f g y r = rw (after_assoc x f g) r

pub after_got : {A B : Type 0} (v : A) (n : ℕ) (f : A → ℕ → Ans B) → after (got v n) f ≡ f v n
unfolding after
after_got v n f = refl

pub after_choice : {A B : Type 0} (tag : ℕ) (this that : Reader A) (s : List ℕ) (at end : ℕ) (f : A → ℕ → Ans B) →
    after (choice tag this that s at end) f ≡ choice tag (λ s at end. after (this s at end) f) (λ s at end. after (that s at end) f) s at end
unfolding choice
after_choice tag this that s at end f = by_cases (tagged s at end tag) (λ q. rw q) (λ q. rw q)

pub ruleset flat = (after_assoc, after_got, after_choice)

-- the last value of a constructed element, and then its end
pub ends : {A B : Type 0} (v : A) (n : ℕ) (g : A → ℕ → Ans B) (y : B) {t : ℕ × ℕ × B × ℕ} → t ≡ shown y (g v n) → t ≡ shown y (after (got v n) g)
unfolding after
ends v n g y r = r

-- one of two readings by a test
pub when_yes : {A : Type 0} (b : Bool) (x x' : Ans A) (y : A) {t : ℕ × ℕ × A × ℕ} → b ≡ true → t ≡ shown y x → t ≡ shown y (cond b x x')
when_yes b x x' y h r = rw h r

pub when_no : {A : Type 0} (b : Bool) (x x' : Ans A) (y : A) {t : ℕ × ℕ × A × ℕ} → b ≡ false → t ≡ shown y x' → t ≡ shown y (cond b x x')
when_no b x x' y h r = rw h r

-- a fault at once
pub halts : {A : Type 0} (z : A) (w : Fault) (p : ℕ) → (code w, p, z, 0) ≡ shown z (halt w p)
unfolding shown
halts z w p = refl

-- contents that are good give the value, and others a fault at the tag
pub passes : {A : Type 0} (z : A) (j : Ruling A) (at next : ℕ) {k : ℕ} {v : A} →
    (k, v) ≡ verdict z j → k ≡ 0 → (0, 0, v, next) ≡ shown z (ruled j at next)
unfolding shown ruled verdict
passes z (good v') at next e k0 = ap (λ q. (0, 0, q.1, next)) e
passes z (bad w) at next e k0 = absurd (some_code w (sym (ap (λ q. q.0) e) ∙ k0))

pub fails : {A : Type 0} (z : A) (j : Ruling A) (at next : ℕ) {k : ℕ} {v : A} →
    (k, v) ≡ verdict z j → (k ≡ 0 → ⊥) → (k, at, z, 0) ≡ shown z (ruled j at next)
unfolding shown ruled verdict
fails z (good v') at next e k0 = absurd (k0 (ap (λ q. q.0) e))
fails z (bad w) at next e k0 = ap (λ q. (q.0, at, z, 0)) e

-- nothing over, or something
pub shut : {A : Type 0} (z v : A) (at end next : ℕ) → at ≡ end → (0, 0, v, next) ≡ shown z (closed v at end next)
unfolding shown closed
shut z v at end next h = simp (eq-eqb at end h)

pub remains : {A : Type 0} (z v : A) (at end next : ℕ) → (at ≡ end → ⊥) → (41, at, z, 0) ≡ shown z (closed v at end next)
unfolding shown closed
remains z v at end next h = simp (ne_eqb at end h)

-- a value at its place
pub gives : {A : Type 0} (z v : A) (at : ℕ) → (0, 0, v, at) ≡ shown z (got v at)
unfolding shown
gives z v at = refl

-- by the next tag
pub picks : {A : Type 0} (z : A) (tag : ℕ) (this that : Reader A) (s : List ℕ) (at end : ℕ) {b : Bool} {t : ℕ × ℕ × A × ℕ} →
    b ≡ tagged s at end tag → b ≡ true → t ≡ shown z (this s at end) → t ≡ shown z (choice tag this that s at end)
unfolding choice
picks z tag this that s at end e h r = rw (← e, h) r

pub skips : {A : Type 0} (z : A) (tag : ℕ) (this that : Reader A) (s : List ℕ) (at end : ℕ) {b : Bool} {t : ℕ × ℕ × A × ℕ} →
    b ≡ tagged s at end tag → b ≡ false → t ≡ shown z (that s at end) → t ≡ shown z (choice tag this that s at end)
unfolding choice
skips z tag this that s at end e h r = rw (← e, h) r

-- the same where something follows
pub picks_in : {A B : Type 0} (z : B) (tag : ℕ) (this that : Reader A) (s : List ℕ) (at end : ℕ) (f : A → ℕ → Ans B) {b : Bool} {t : ℕ × ℕ × B × ℕ} →
    b ≡ tagged s at end tag → b ≡ true → t ≡ shown z (after (this s at end) f) → t ≡ shown z (after (choice tag this that s at end) f)
unfolding choice
picks_in z tag this that s at end f e h r = rw (← e, h) r

pub skips_in : {A B : Type 0} (z : B) (tag : ℕ) (this that : Reader A) (s : List ℕ) (at end : ℕ) (f : A → ℕ → Ans B) {b : Bool} {t : ℕ × ℕ × B × ℕ} →
    b ≡ tagged s at end tag → b ≡ false → t ≡ shown z (after (that s at end) f) → t ≡ shown z (after (choice tag this that s at end) f)
unfolding choice
skips_in z tag this that s at end f e h r = rw (← e, h) r

-- one type or another, by a test that has been made
module _ {A : Type 0} (y : A) (f g : Run A) (s : List ℕ) (at end : ℕ) {b : Bool} {t : ℕ × ℕ × A × ℕ} where
  pub picks_run : b ≡ true → t ≡ shown y (f.read s at end) → t ≡ shown y ((pick_run b f g).read s at end)
  picks_run h r = rw h r

  pub skips_run : b ≡ false → t ≡ shown y (g.read s at end) → t ≡ shown y ((pick_run b f g).read s at end)
  skips_run h r = rw h r

-- nothing that may stand here
pub lacks : {A : Type 0} (z : A) (s : List ℕ) (at end : ℕ) → end ≤ at → (40, end, z, 0) ≡ shown z (neither s at end)
unfolding shown neither
lacks z s at end h = simp (le-ltb at end h)

pub strange : {A : Type 0} (z : A) (s : List ℕ) (at end : ℕ) → at < end → (41, at, z, 0) ≡ shown z (neither s at end)
unfolding shown neither
strange z s at end h = simp (lt-ltb at end h)

-- what the returns of a reader cite
pub ruleset reading = (step, stay, assoc, ends, passes, fails, shut, remains, gives, picks, skips, picks_in, skips_in, lacks, strange)
