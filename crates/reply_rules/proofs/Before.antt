-- Rejects sent remain the same: 40 to 45 are answered as 9 was.
use Rattle.prelude.proofs.Prelude.{ℕ, ◌≤◌, ◌≡◌, ap, sym, ◌∙◌, false, cond, List, ◌⊎◌, inl, inr, leb, eqb, le-leb, lt-leb, ne_eqb, arith}
use Rattle.types.{specs.declared.Record.Record, specs.Frames.rejects, specs.Frames.read_of, proofs.Theorems.refusal}
use Rattle.reply_rules.specs.Rejects.{first_of, identifier_of, reply_by, reply_to}

-- the one number that 40 to 45 have in document 01
abbrev pub coarse : ℕ → ℕ
coarse n = cond (leb 40 n) 9 n

-- the reject for a refusal, by document 01
abbrev pub reject_by : ℕ → ℕ → ℕ → Record
reject_by n first i =
    cond (eqb n 4) (rejects (inl tt) 0x80 0)
    (cond (eqb n 6) (rejects (inl tt) 0x80 1)
    (cond (eqb n 8) (rejects (inr i) 0x83 2)
    (cond (eqb n 7) (cond (eqb first 0xa2) (rejects (inr i) 0x82 2) (rejects (inr i) 0x81 1))
    (cond (eqb n 9) (cond (eqb first 0xa2) (rejects (inr i) 0x82 2) (rejects (inr i) 0x81 2))
    (rejects (inl tt) 0x80 2)))))

module _ (n first i : ℕ) where
  -- with the identifier, invoke 2, in a result result 2
  argued : 40 ≤ n → reply_by n first i ≡ cond (eqb first 0xa2) (rejects (inr i) 0x82 2) (rejects (inr i) 0x81 2)
  argued l =
      let other : (k : ℕ) → k ≤ 8 → eqb n k ≡ false = λ k m. ne_eqb n k (λ e. omega (arith, l, m, e)) in
      simp (le-leb 40 n l, other 4 (omega arith), other 6 (omega arith), other 8 (omega arith), other 7 (omega arith))

  as_before : (n ≤ 8) ⊎ ((40 ≤ n) × (n ≤ 45)) → reply_by n first i ≡ reject_by (coarse n) first i
  as_before (inl l) = simp (lt-leb 40 n (omega (arith, l)), ne_eqb n 9 (λ e. omega (arith, l, e)))
  as_before (inr h) =
      let nine : coarse n ≡ 9 = rw (le-leb 40 n h.0) in
      argued h.0 ∙ ap (λ k. reject_by k first i) (sym nine)

-- the reply to any octets is the one that document 01 gives for their coarse number
pub same_reject : (s : List ℕ) → reply_to s ≡ reject_by (coarse (read_of s).number) (first_of s) (identifier_of s)
unfolding reply_to
same_reject s = as_before (read_of s).number (first_of s) (identifier_of s) (refusal s)

-- 40 to 45: with the component's identifier, invoke 2, in a result result 2
pub argument_reject : (s : List ℕ) → 40 ≤ (read_of s).number
    → reply_to s ≡ cond (eqb (first_of s) 0xa2) (rejects (inr (identifier_of s)) 0x82 2) (rejects (inr (identifier_of s)) 0x81 2)
unfolding reply_to
argument_reject s = argued (read_of s).number (first_of s) (identifier_of s)
