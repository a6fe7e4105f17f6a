-- What the writer's refusal of an invoke says of its charge. Assumes nothing.
use Rattle.prelude.proofs.Prelude.{ℕ, ◌≤◌, ◌≡◌, refl, ◌∙◌, Bool, true, false, not, cond, arith, length, eqb, leb}
use Rattle.coding.specs.Codec.{one_of}
use Rattle.types.specs.{declared.Record.Record, declared.Charge.Charge, Arguments.charge_of, Frames.front_by, Frames.component, Frames.carries}
use Rattle.write_tests.proofs.Truth.{operations}
use Rattle.write.{specs.Outcome.done, specs.Outcome.no, specs.Outcome.write_of}
use Rattle.write_heads.{specs.inner.{Fronts.front_fine, Halves.fine_of}, proofs.Valid.valid_parts}

-- 10 is the refusal of a record that is not valid, and of no other
refused_10 : (r : Record) (room : ℕ) → not (eqb (write_of r room).number 10) ≡ component.valid r
unfolding write_of
refused_10 r room =
    let n = length (component.write r) in
    go (component.valid r) (leb n 254) (leb n room) n
  where
    go : (v s f : Bool) (n : ℕ) → not (eqb (cond v (cond s (cond f (done n) (no 12)) (no 11)) (no 10)).number 10) ≡ v
    go true true true n = refl
    go true true false n = refl
    go true false f n = refl
    go false s f n = refl

-- an invoke of an argument is valid where its charge is
invoke_valid : (c : Charge) (o : ℕ) → 31 ≤ o → o ≤ 36 → component.valid (carries 1 0 o c) ≡ (charge_of o).valid c
unfolding front_fine one_of
invoke_valid c o l h =
    valid_parts (carries 1 0 o c) (omega arith)
    ∙ operations (λ o. 31 ≤ o → fine_of (front_by 1 0 0 o 0 0 0) c ≡ (charge_of o).valid c)
    (λ z. absurd (omega arith)) (λ z. refl) (λ z. refl) (λ z. refl) (λ z. refl) (λ z. refl) (λ z. refl) o (omega arith) h l

pub asked : (c : Charge) (o room : ℕ) → 31 ≤ o → o ≤ 36 → not (eqb (write_of (carries 1 0 o c) room).number 10) ≡ (charge_of o).valid c
asked c o room l h = refused_10 (carries 1 0 o c) room ∙ invoke_valid c o l h
