-- The laws of a type, with what is known of each value that is valid for it; and choices of types that are told apart by a number.
use Rattle.prelude.proofs.Prelude.{ℕ, ◌+◌, ◌≤◌, ◌≡◌, refl, subst, Bool, true, false, [], ◌∷◌, inl, inr, arith, eqb, eq-eqb, ne_eqb}
use Rattle.coding.{specs.Codec.Run, specs.Codec.sort, specs.Codec.cons, specs.Codec.canonical, specs.Codec.leads, specs.Codec.pick_run, specs.Codec.is_tag, specs.Codec.apart}
use Rattle.coding.{proofs.Basic.and_right, proofs.Laws.RunLaws, proofs.More.sort_laws, proofs.More.leads_laws, proofs.Combine.cons_laws, proofs.Padded.Equal, proofs.Padded.canonical_laws}
use Rattle.coding.{proofs.Own.own, proofs.Own.own_valid, proofs.Own.sort_or}

module _ {A : Type 0} where
  pub record Known (P : A → Type 0) (f : Run A) : Type 0 where
    pub laws : RunLaws f
    pub is : (x : A) → f.valid x ≡ true → P x

  pub weaken : {P Q : A → Type 0} {f : Run A} → ((x : A) → P x → Q x) → Known P f → Known Q f
  weaken h F = record { laws = F.laws; is = λ x v. h x (F.is x v) }

  -- made of another type's values
  pub made : {B : Type 0} {P : A → Type 0} {same : A → A → Bool} → Equal same → (to : B → A) (from : A → B) (f : Run B)
      → ((x : B) → f.valid x ≡ true → from (to x) ≡ x) → ((x : B) → f.valid x ≡ true → P (to x)) → RunLaws f → Known P (canonical to from same f)
  made {B} {P} {same} E to from f back holds F = record {
    laws = canonical_laws to from same f E back F;
    is = λ y v. subst P (own to from same f E y v) (holds (from y) (own_valid to from same f y v));
  }

  -- inside an element
  pub held : {P : A → Type 0} {f : Run A} (tag : ℕ) → Known P f → is_tag tag ≡ true → Known P (cons tag f)
  unfolding cons
  held tag F real = record { laws = cons_laws tag _ F.laws real; is = F.is }

  -- after what leads it
  pub led : {B : Type 0} {P : A → Type 0} (f : Run B) (head : A → B) (g : B → Run A) → RunLaws f → ((x : B) → Known (λ y. (head y ≡ x) × P y) (g x))
      → f.empty ≡ false → ((o : ℕ) → f.avoid o ≡ false) → Known P (leads f head g)
  unfolding leads
  led f head g F G full free = record {
    laws = leads_laws f head g F (λ x. (G x).laws) (λ x y v. ((G x).is y v).0) full free;
    is = λ y v. ((G (head y)).is y (and_right (f.valid (head y)) _ v)).1;
  }

  -- by a test
  pub chosen : (P : Run A → Type 0) {f g : Run A} (t : Bool) → (t ≡ true → P f) → (t ≡ false → P g) → P (pick_run t f g)
  chosen P true F G = F refl
  chosen P false F G = G refl

  -- by the next tag
  pub parted : {P Q R : A → Type 0} {f g : Run A} (tag : ℕ) (test : A → Bool) → Known P f → Known Q g → ((x : A) → P x → (test x ≡ true) × R x)
      → ((x : A) → Q x → (test x ≡ false) × R x) → apart g.first (λ o. eqb o tag) ≡ true → f.first ≡ tag ∷ [] → f.empty ≡ false → Known R (sort tag test f g)
  parted {P} {Q} {R} {f} {g} tag test F G here there ok one_tag full = record {
    laws = sort_laws tag test f g F.laws G.laws (λ x v. (here x (F.is x v)).0) (λ x v. (there x (G.is x v)).0) ok one_tag full;
    is = λ x v. elim (sort_or tag test f g x v) [ inl w ↦ (here x (F.is x w)).1 | inr w ↦ (there x (G.is x w)).1 ];
  }

-- key: the number; P: what else is known of every value
module _ {A : Type 0} (key : A → ℕ) (P : A → Type 0) where
  -- the values of a type have the number k; or k or a greater one
  abbrev pub Only : ℕ → Run A → Type 0
  Only k = Known (λ x. (key x ≡ k) × P x)

  abbrev pub From : ℕ → Run A → Type 0
  From k = Known (λ x. (k ≤ key x) × P x)

  pub sorted : {k : ℕ} {f g : Run A} (tag : ℕ) → Only k f → From (k + 1) g → apart g.first (λ o. eqb o tag) ≡ true → f.first ≡ tag ∷ [] → f.empty ≡ false
      → From k (sort tag (λ x. eqb (key x) k) f g)
  sorted {k} tag F G =
      parted tag _ F G (λ x h. (eq-eqb (key x) k h.0, (omega (arith, h.0), h.1))) (λ x h. (ne_eqb (key x) k (λ e. omega (arith, h.0)), (omega (arith, h.0), h.1)))

  pub last : {k j : ℕ} {f : Run A} → j ≤ k → Only k f → From j f
  last l = weaken (λ x h. (omega (arith, l, h.0), h.1))
