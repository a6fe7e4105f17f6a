-- What is answered, by what the component's refusal and first octet are.
use Rattle.prelude.proofs.Prelude.{ℕ, ◌≡◌, refl, Bool, true, false, ◌||◌, List, length, eqb, eq-eqb, ne_eqb}
use Rattle.types.specs.declared.Record.{Record}
use Rattle.write.specs.{declared.Written.Written, Outcome.done, Outcome.write_of, Outcome.left_of}
use Rattle.reply_rules.specs.Rejects.{first_of, identifier_of, is_silent_to, reply_by}
use Rattle.reply.specs.Reply.{reply_given, left_given}

or-true : (b : Bool) → b || true ≡ true
or-true true = refl
or-true false = refl

module _ (n : ℕ) (s : List ℕ) where
  pub spoken : (n ≡ 0 → ⊥) → (first_of s ≡ 0xa4 → ⊥) → is_silent_to n s ≡ false
  spoken a b = simp (ne_eqb _ _ a, ne_eqb _ _ b)

  module _ (before : List ℕ) where
    silent_both : is_silent_to n s ≡ true → (done 0 ≡ reply_given n s (length before)) × (before ≡ left_given n s before)
    unfolding reply_given left_given
    silent_both q = (rw q, rw q)

    pub silent_accepted : n ≡ 0 → (done 0 ≡ reply_given n s (length before)) × (before ≡ left_given n s before)
    silent_accepted e = silent_both (simp (eq-eqb _ _ e))

    pub silent_reject : first_of s ≡ 0xa4 → (done 0 ≡ reply_given n s (length before)) × (before ≡ left_given n s before)
    silent_reject e = silent_both (rw (eq-eqb _ _ e) (or-true (eqb n 0)))

    pub replied : {w : Written} {after : List ℕ} (r : Record) → is_silent_to n s ≡ false → r ≡ reply_by n (first_of s) (identifier_of s)
        → w ≡ write_of r (length before) → after ≡ left_of r before → (w ≡ reply_given n s (length before)) × (after ≡ left_given n s before)
    unfolding reply_given left_given
    replied r q e a b = (rw (q, ← e) a, rw (q, ← e) b)
