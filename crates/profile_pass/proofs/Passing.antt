-- What `next_into` answers by public lines' reader tells where a component lies for both families, and is their answer where none lies or its octet is 91.
use Rattle.prelude.proofs.Prelude.{ℕ, ◌≤◌, ◌<◌, arith, ◌≡◌, refl, sym, ap, ◌∙◌, inl, inr, List, length, get_or, ltb, ltb-true, ltb-false, eq-eqb, ne_eqb}
use Rattle.coding.{specs.Reader.part, proofs.Basic.picked, proofs.Basic.unpicked}
use Rattle.types.specs.{declared.Answer.Answer, Frames.no_record, Frames.refused, Frames.read_of}
use Rattle.trunk_types.specs.{declared.Trunk.Trunk, Components.no_trunk}
use Rattle.element_pass.specs.{declared.Found.Found, Pass.found_at, Pass.Passed, Pass.pass_with, Pass.lines}
use Rattle.prelude.proofs.Ways.{by_cases}
use Rattle.element_pass.proofs.{Order.element_long, Order.find_malformed, Order.pass_none, Order.pass_some, Through.GivesOneOfFour, Through.one_of_four}
use Rattle.profile_read.specs.Profile.{Either, read_by}
use Rattle.profile_pass.specs.Passing.{families}

module _ (s : List ℕ) (place : ℕ) (n : Passed Answer) (e : n ≡ pass_with lines s place) where
  same_after : n.after ≡ (found_at s place).after
  unfolding pass_with
  same_after = ap (λ (x : Passed Answer). x.after) e

  same_ended : n.ended ≡ (found_at s place).ended
  unfolding pass_with
  same_ended = ap (λ (x : Passed Answer). x.ended) e

  none_here : n.after ≡ 0 → n.answer ≡ refused (found_at s place).number
  unfolding pass_with
  none_here z = ap (λ (x : Passed Answer). x.answer) e ∙ picked _ _ (eq-eqb _ 0 (sym same_after ∙ z))

  pub next_none : {t : Trunk} → n.after ≡ 0 → t ≡ no_trunk
      → record { ended = n.ended; after = 0; answer = record { number = n.answer.number; offset = 0; family = 0; line = n.answer.value; trunk = t } } ≡ pass_with families s place
  next_none z t =
      let a = none_here z in
      (λ k. record { ended = same_ended k; after = 0; answer = record { number = (a k).number; offset = 0; family = 0; line = (a k).value; trunk = t k } })
      ∙ pass_none families s place (found_at s place) refl (sym same_after ∙ z)

  module _ (some : n.after ≡ 0 → ⊥) where
    pub next_some : {x : Either} → x ≡ read_by (get_or s 2 0) (part s place n.after) → record { ended = n.ended; after = n.after; answer = x } ≡ pass_with families s place
    next_some {x} y =
        (λ k. record { ended = same_ended k; after = same_after k; answer = x })
        ∙ pass_some families s place (found_at s place) x refl (λ z. some (same_after ∙ z)) (y ∙ ap (λ (q : ℕ). read_by (get_or s 2 0) (part s place q)) same_after)

    some_here : n.answer ≡ lines.by (get_or s 2 0) (part s place n.after)
    unfolding pass_with
    some_here =
        ap (λ (x : Passed Answer). x.answer) e ∙ unpicked _ _ (ne_eqb _ 0 (λ z. some (same_after ∙ z)))
        ∙ ap (λ (q : ℕ). lines.by (get_or s 2 0) (part s place q)) (sym same_after)

    pub line_here : get_or s 2 0 ≡ 0x91 → n.answer ≡ read_of (part s place n.after)
    line_here p = some_here ∙ picked _ _ (eq-eqb _ _ p)

    pub no_line_here : (get_or s 2 0 ≡ 0x91 → ⊥) → n.answer.value ≡ no_record
    no_line_here p = ap (λ (x : Answer). x.value) (some_here ∙ unpicked _ _ (ne_eqb _ _ p))

    pub inside : (place < n.after) × (n.after ≤ length s) × (3 < length s)
    inside = go (one_of_four lines s place)
      where
        after_is : {x : Passed Answer} → pass_with lines s place ≡ x → n.after ≡ x.after
        after_is q = ap (λ (x : Passed Answer). x.after) (e ∙ q)

        long : 3 < length s
        long =
            by_cases (ltb 3 (length s)) (λ t. ltb-true 3 (length s) t)
            (λ t. absurd (some (same_after ∙ ap (λ (x : Found). x.after) (find_malformed s place (λ z. omega (arith, element_long s z, ltb-false 3 (length s) t))))))

        go : GivesOneOfFour lines s place (pass_with lines s place) → (place < n.after) × (n.after ≤ length s) × (3 < length s)
        go (inl q) = absurd (some (after_is q))
        go (inr (inl q)) = absurd (some (after_is q))
        go (inr (inr (inl q))) = absurd (some (after_is q))
        go (inr (inr (inr (q, l, m, is)))) = let z : n.after ≡ q = after_is is in (omega (arith, l, z), omega (arith, m, z), long)
