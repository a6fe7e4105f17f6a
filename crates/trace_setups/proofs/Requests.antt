-- The first request for a case.
use Rattle.prelude.proofs.{Prelude.{◌≡◌, refl, sym, ap, ◌∙◌, ℕ, arith, eq-eqb, ne_eqb, List, ◌∷◌, ◌++◌}, Ways.by_cases}
use Rattle.types.specs.{declared.Answer.Answer, Frames.read_of}
use Rattle.trace_messages.{specs.Trace.is_request, specs.Trace.first_request, proofs.Theorems.first_append}
use Rattle.trace_setups.specs.{declared.Asked.Asked, inner.Asked.asked_of, inner.Asked.asked_by}

one_not_none : ◌≡◌ {A = ℕ} 1 0 → ⊥
one_not_none e = omega arith

pub asked_here : (case : ℕ) {o : List ℕ} {l all : List (List ℕ)} → all ≡ o ∷ l → {q : Asked} → q ≡ asked_by case (read_of o)
    → (q.mark ≡ 0 → ⊥) → q ≡ asked_of (first_request case all)
asked_here case {o} {l} {all} more is n =
    by_cases (is_request case (read_of o))
    (λ t. is ∙ rw t (sym (ap (λ (k : List (List ℕ)). asked_of (first_request case k)) more ∙ rw t refl)))
    (λ t. absurd (n (ap (λ (x : Asked). x.mark) is ∙ rw t refl)))

pub asked_next : (case : ℕ) {o : List ℕ} {l all : List (List ℕ)} → all ≡ o ∷ l → {q : Asked} → q ≡ asked_by case (read_of o)
    → q.mark ≡ 0 → first_request case l ≡ first_request case all
asked_next case {o} {l} {all} more {q} is z =
    by_cases (is_request case (read_of o))
    (λ t. let m : q.mark ≡ 1 = ap (λ (x : Asked). x.mark) is ∙ rw t refl in absurd (one_not_none (sym m ∙ z)))
    (λ t. sym (ap (first_request case) more ∙ rw t refl))

module _ (case : ℕ) (l m : List (List ℕ)) {q : Asked} (is : q ≡ asked_of (first_request case l)) where
  pub among_first : (q.mark ≡ 0 → ⊥) → q ≡ asked_of (first_request case (l ++ m))
  among_first n = is ∙ sym (ap asked_of (first_append case l m ∙ rw (ne_eqb (first_request case l).mark 0 (λ z. n (ap (λ (x : Asked). x.mark) is ∙ z))) refl))

  pub among_rest : q.mark ≡ 0 → first_request case (l ++ m) ≡ first_request case m
  among_rest z = first_append case l m ∙ rw (eq-eqb (first_request case l).mark 0 (sym (ap (λ (x : Asked). x.mark) is) ∙ z)) refl

module _ (case : ℕ) {a : Answer} (o : List ℕ) (read : a ≡ read_of o) where
  pub by_refused : (a.number ≡ 0 → ⊥) → record { mark = 0; id = 0 } ≡ asked_by case (read_of o)
  by_refused n = rw (← read) (sym (rw (ne_eqb a.number 0 n) refl))

  module _ (z : a.number ≡ 0) where
    pub by_frame : (a.value.front.frame ≡ 1 → ⊥) → record { mark = 0; id = 0 } ≡ asked_by case (read_of o)
    by_frame n = rw (← read) (sym (rw (eq-eqb a.number 0 z, ne_eqb a.value.front.frame 1 n) refl))

    module _ (f : a.value.front.frame ≡ 1) where
      pub by_operation : (a.value.front.operation ≡ 30 → ⊥) → record { mark = 0; id = 0 } ≡ asked_by case (read_of o)
      by_operation n = rw (← read) (sym (rw (eq-eqb a.number 0 z, eq-eqb a.value.front.frame 1 f, ne_eqb a.value.front.operation 30 n) refl))

      module _ (g : a.value.front.operation ≡ 30) where
        pub by_case : (a.value.front.detail ≡ case → ⊥) → record { mark = 0; id = 0 } ≡ asked_by case (read_of o)
        by_case n = rw (← read) (sym (rw (eq-eqb a.number 0 z, eq-eqb a.value.front.frame 1 f, eq-eqb a.value.front.operation 30 g, ne_eqb a.value.front.detail case n) refl))

        pub by_all : a.value.front.detail ≡ case → record { mark = 1; id = a.value.front.id } ≡ asked_by case (read_of o)
        by_all h = rw (← read) (sym (rw (eq-eqb a.number 0 z, eq-eqb a.value.front.frame 1 f, eq-eqb a.value.front.operation 30 g, eq-eqb a.value.front.detail case h) refl))
