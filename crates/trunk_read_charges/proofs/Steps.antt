-- A trunk's charges read in the code's steps: the same answers.
use Rattle.prelude.proofs.Prelude.{ℕ, ◌≡◌, refl, sym, ap, ◌∙◌, Bool, true, false, not, cond, Option, none, some, List, eqb, eq-eqb, ne_eqb}
use Rattle.coding.specs.Reader.{Ans, after, opened, closed, optional, constructed, choice, tagged, Ans.{got, halt}, Fault.contents}
use Rattle.coding.specs.{inner.Shown.{shown, refusal}, Codec.{Leaf, prim, cons, pair, maybe, canonical, over}, Leaves.{number, only, is_some, or0, given}}
use Rattle.coding.{specs.declared.Chosen.Chosen, proofs.Reading.flat}
use Rattle.types.specs.{declared.Charge.Charge, Charges.flag, Charges.money, Charges.association, Arguments.plain, Arguments.money_figure, Arguments.totalled, Arguments.in_money, Arguments.ending}
use Rattle.types.specs.Arguments.{associated, with_association}
use Rattle.read_association.proofs.Steps.{prim_only}
use Rattle.trunk_types.specs.Bodies.{billings, figures}

-- ---- billing: a value that does not pass is bad contents

given_only : (tag : ℕ) (ok : ℕ → Bool) (l : Leaf ℕ) → ok 0 ≡ true → (s : List ℕ) (at end : ℕ) →
    (given tag (only ok l)).read s at end ≡ after ((given tag l).read s at end) (λ c n. cond (ok c.value) (got c n) (halt contents at))
unfolding given over maybe optional choice after
given_only tag ok l h s at end = go (tagged s at end tag)
  where
    made : Option ℕ → Chosen
    made o = record { given = is_some o; value = or0 o }

    go : (b : Bool) →
        after (cond b (after ((prim tag (only ok l)).read s at end) (λ v n. got (some v) n)) (got none at)) (λ o n. got (made o) n)
        ≡ after (after (cond b (after ((prim tag l).read s at end) (λ v n. got (some v) n)) (got none at)) (λ o n. got (made o) n))
        (λ c n. cond (ok c.value) (got c n) (halt contents at))
    go true = simp flat (simp prim_only)
    go false = rw h

abbrev absent : Chosen
absent = record { given = false; value = 0 }

abbrev not_one : ℕ → Bool
not_one k = not (eqb k 1)

only_one : (x : Ans Chosen) (at : ℕ) →
    (let q = shown absent x in cond (eqb q.2.value 1) (refusal absent 44 at) q) ≡ shown absent (after x (λ c n. cond (not_one c.value) (got c n) (halt contents at)))
unfolding shown after
only_one (got c n) at = go (eqb c.value 1)
  where
    go : (b : Bool) → cond b (refusal absent 44 at) (0, 0, c, n) ≡ shown absent (cond (not b) (got c n) (halt contents at))
    go true = refl
    go false = refl
only_one (halt w p) at = refl

module _ (most : ℕ) (s : List ℕ) (at end : ℕ) {q : ℕ × ℕ × Chosen × ℕ} (r : q ≡ shown absent ((given 0x82 (number 0 most)).read s at end)) where
  judged : (b : Bool) → eqb q.2.value 1 ≡ b → cond b (refusal absent 44 at) q ≡ shown absent ((given 0x82 (billings most)).read s at end)
  unfolding billings
  judged b e =
      ap (λ (b : Bool). cond b (refusal absent 44 at) q) (sym e) ∙ ap (λ (p : ℕ × ℕ × Chosen × ℕ). cond (eqb p.2.value 1) (refusal absent 44 at) p) r ∙ only_one _ at
      ∙ ap (shown absent) (sym (given_only 0x82 not_one (number 0 most) refl s at end))

  pub billed_one : q.2.value ≡ 1 → refusal absent 44 at ≡ shown absent ((given 0x82 (billings most)).read s at end)
  billed_one h = judged true (eq-eqb _ 1 h)

  pub billed_other : (q.2.value ≡ 1 → ⊥) → q ≡ shown absent ((given 0x82 (billings most)).read s at end)
  billed_other h = judged false (ne_eqb _ 1 h)

-- ---- 61 and 62

-- what comes after A1
abbrev pub billed : ℕ → Charge → List ℕ → ℕ → ℕ → ℕ → Ans Charge
billed most c s at end next =
    after ((given 0x82 (billings most)).read s at end) (λ d last. closed (totalled 0 (flag d.given) d.value c) last end next)

pub priced_read : (most : ℕ) (s : List ℕ) (at end : ℕ) →
    (ending (billings most) (in_money true)).read s at end ≡
    after (opened 0x30 s at end) (λ e next.
    after (opened 0xa1 s e.start e.stop) (λ a m.
    after (after ((money true).read s a.start a.stop) (λ v last. closed (plain (money_figure v)) last a.stop m)) (λ c k.
    billed most c s k e.stop next)))
unfolding ending in_money cons constructed canonical over pair
priced_read most s at end = simp flat

pub final_read : (s : List ℕ) (at end : ℕ) →
    (with_association true (figures 7)).read s at end ≡
    after ((figures 7).read s at end) (λ c n. after ((association true).read s n end) (λ a last. got (associated a c) last))
unfolding with_association canonical over pair
final_read s at end = simp flat
