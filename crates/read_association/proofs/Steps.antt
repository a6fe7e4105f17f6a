-- How the numbers of associations are read, each as one sequence of steps.
use Rattle.prelude.proofs.Prelude.{ℕ, ◌≡◌, refl, sym, ◌∙◌, Bool, true, false, not, cond, List, eqb, eq-eqb, ne_eqb}
use Rattle.coding.specs.Reader.{Ans, after, opened, closed, constructed, primitive, ruled, Ruling, mapped, narrowed, Ans.{got, halt}, Fault.contents}
use Rattle.coding.specs.{Reader.Ruling.{good, bad}, inner.Shown.shown, Codec.{Leaf, prim, cons, pair, over, canonical}, Leaves.{number, only}}
use Rattle.coding.proofs.Reading.{flat, after_assoc}
use Rattle.types.specs.{declared.Association.Association, Charges.digits_leaf, Charges.is_plan, Charges.plain_party, Charges.planned}
use Rattle.read_figures.proofs.Answers.{after_same}
use Rattle.read_association.specs.inner.Numbers.{by_digits, numbered}

-- ---- contents for another type; contents of which only some values pass

judged_told : {A B C : Type 0} (to : A → B) (j : Ruling A) (at next : ℕ) (g : B → ℕ → Ans C) →
    after (ruled (mapped to j) at next) g ≡ after (ruled j at next) (λ x n. g (to x) n)
unfolding after ruled mapped
judged_told to (good v) at next g = refl
judged_told to (bad w) at next g = refl

judged_only : {A C : Type 0} (ok : A → Bool) (j : Ruling A) (at next : ℕ) (g : A → ℕ → Ans C) →
    after (ruled (narrowed ok j) at next) g ≡ after (ruled j at next) (λ x n. cond (ok x) (g x n) (halt contents at))
unfolding after ruled narrowed
judged_only ok (good v) at next g = go (ok v)
  where
    go : (b : Bool) → after (ruled (cond b (good v) (bad contents)) at next) g ≡ cond b (g v next) (halt contents at)
    go true = refl
    go false = refl
judged_only ok (bad w) at next g = refl

pub prim_only : {A C : Type 0} (tag : ℕ) (ok : A → Bool) (l : Leaf A) (s : List ℕ) (at end : ℕ) (g : A → ℕ → Ans C) →
    after ((prim tag (only ok l)).read s at end) g ≡ after ((prim tag l).read s at end) (λ x n. cond (ok x) (g x n) (halt contents at))
unfolding prim only primitive
prim_only tag ok l s at end g = simp (after_assoc, judged_only)

pub digits_told : {C : Type 0} (tag kind plan : ℕ) (s : List ℕ) (at end : ℕ) (g : Association → ℕ → Ans C) →
    after (primitive tag (numbered kind plan) s at end) g ≡ after ((prim tag digits_leaf).read s at end) (λ xs n. g (by_digits kind plan xs) n)
unfolding prim primitive numbered
digits_told tag kind plan s at end g = simp (after_assoc, judged_told)

-- ---- numbers

pub plain_steps : (s : List ℕ) (at end : ℕ) → plain_party.read s at end ≡ primitive 0x80 (numbered 2 0) s at end
unfolding plain_party canonical over
plain_steps s at end = sym (digits_told 0x80 2 0 s at end got) ∙ after_same _

pub planned_steps : (tag kind : ℕ) (s : List ℕ) (at end : ℕ) →
    (planned tag kind).read s at end ≡
    after (opened tag s at end) (λ e next.
    after ((prim 0x0a (number 0 6)).read s e.start e.stop) (λ k m.
    cond (is_plan k)
    (after (primitive 0x12 (numbered kind k) s m e.stop) (λ a last. closed a last e.stop next))
    (halt contents e.start)))
unfolding planned cons constructed canonical over pair
planned_steps tag kind s at end = simp flat (simp (prim_only, digits_told))

-- the kind 5 is none
module _ {A : Type 0} (k m : ℕ) (x x' : Ans A) (y : A) {t : ℕ × ℕ × A × ℕ} where
  pub excluded : k ≡ m → t ≡ shown y x' → t ≡ shown y (cond (not (eqb k m)) x x')
  excluded h r = rw (eq-eqb k m h) r

  pub allowed : (k ≡ m → ⊥) → t ≡ shown y x → t ≡ shown y (cond (not (eqb k m)) x x')
  allowed h r = rw (ne_eqb k m h) r
