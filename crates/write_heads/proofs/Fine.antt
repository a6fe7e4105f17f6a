-- Which fronts may be written: the rules by which a search finds that the code's tests are the front's.
use Rattle.prelude.proofs.Prelude.{◌≡◌, Bool, true, false, ◌&&◌, and_comm, or-false, eqb, leb, ne_eqb}
use Rattle.coding.{specs.Codec.one_of, proofs.Tests.and_assoc, proofs.Tests.eqb_self}
use Rattle.types.specs.{Frames.operations, Frames.errors, declared.Front.Front}
use Rattle.write_heads.specs.inner.Fronts.{front_fine, called, problem_fine}

-- by the frame
module _ (f : Front) where
  pub request_is : f.frame ≡ 1 → f.operation ≡ 30 → front_fine f ≡ eqb 0 f.unnamed && (eqb 0 f.error && (eqb 0 f.problem && leb f.detail 2))
  unfolding front_fine one_of
  request_is q o = rw (q, o) (simp (eqb_self, and_assoc))

  pub invoke_is : f.frame ≡ 1 → (f.operation ≡ 30 → ⊥)
      → front_fine f ≡ eqb 0 f.unnamed && (eqb 0 f.error && (eqb 0 f.problem && (eqb 0 f.detail && one_of operations f.operation)))
  unfolding front_fine
  invoke_is q o = rw (q, ne_eqb _ _ o) (simp (eqb_self, and_comm (one_of operations f.operation), and_assoc))

  pub result_is : f.frame ≡ 2 → front_fine f ≡ eqb 0 f.unnamed && (eqb 0 f.error && (eqb 0 f.problem && (eqb 0 f.detail && eqb f.operation 30)))
  unfolding front_fine one_of
  result_is q = rw q (simp (eqb_self, or-false, and_comm (eqb f.operation 30), and_assoc))

  pub error_is : f.frame ≡ 3 → front_fine f ≡ eqb 0 f.unnamed && (eqb 0 f.operation && (eqb 0 f.problem && (eqb 0 f.detail && one_of errors f.error)))
  unfolding front_fine
  error_is q = rw q (simp (eqb_self, and_assoc))

  pub reject_is : f.frame ≡ 4 → front_fine f ≡ called f && (eqb 0 f.operation && (eqb 0 f.error && problem_fine f.problem f.detail))
  unfolding front_fine
  reject_is q = rw q (simp (eqb_self, and_assoc))

-- with what a call has told
pub told_no : (r x y : Bool) → r ≡ x → r ≡ false → r ≡ x && y
told_no r x y e h = rw (← e, h)

pub told_yes : {t : Bool} (r x y : Bool) → r ≡ x → r ≡ true → t ≡ y → t ≡ x && y
told_yes r x y e h p = rw (← e, h) p
