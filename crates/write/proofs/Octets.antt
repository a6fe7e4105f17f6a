-- The octets of a record are those of its front and then those of its charge.
use Rattle.prelude.proofs.Prelude.{ℕ, zero, suc, ◌+◌, arith, ◌≡◌, ap, ap₂, sym, ◌∙◌, Bool, true, false, cond, ◌⊎◌, inl, inr, List, [], ◌∷◌, ◌++◌, append_assoc, append-nil, length}
use Rattle.prelude.proofs.{Prelude.{length-append, eqb}, Ways.by_cases}
use Rattle.coding.{specs.Codec.prim, specs.Codec.cons, specs.Codec.alt, specs.Codec.canonical, specs.Codec.over, specs.Codec.sort, specs.Codec.frames, specs.Codec.leads, specs.Codec.barring}
use Rattle.coding.{specs.Codec.marked, specs.Codec.length_octets, specs.Leaves.number, specs.Leaves.identifier, specs.Leaves.listed, specs.inner.Written.Wrote, specs.inner.Written.Room}
use Rattle.coding.{specs.inner.Written.lead, specs.inner.Written.full_number, proofs.Basic.picked, proofs.Basic.unpicked, proofs.Small.small_length, proofs.Small.null_write}
use Rattle.coding.{proofs.Writing.number_write, proofs.Writing.wrote_as, proofs.Writing.Split, proofs.Writing.room_first, proofs.Writing.room_rest, proofs.Writing.room_as}
use Rattle.coding.{proofs.Writing.wrote_parts}
use Rattle.types.specs.{declared.Front.Front, declared.Record.Record, declared.Charge.Charge, Arguments.charge_of, Frames.operations, Frames.errors, Frames.component, Frames.frame}
use Rattle.types.specs.{Frames.invoke, Frames.return_result, Frames.return_error, Frames.reject, Frames.value, Frames.argument, Frames.request, Frames.carrying, Frames.failed, Frames.caller}
use Rattle.types.specs.{Frames.problem, Frames.problems, Frames.front_by}
use Rattle.write_heads.specs.inner.{Fronts.{charged, front_fine, front_octets}, Halves.{front_of, record_of, charge_octets, body_of}}
use Rattle.write_heads.proofs.Sizes.{small_operation, reject_problem, problem_tag}

-- an operation or error value
value_write : (unknown : ℕ) (known : List ℕ) (n : ℕ) → (value unknown known).write n ≡ full_number 0x02 n
unfolding value barring listed number prim
value_write unknown known n = number_write 0x02 0 0 n

-- ---- by the frame

module _ (u i o e p d : ℕ) (c : Charge) where
  abbrev wid : List ℕ
  wid = (prim 0x02 identifier).write i

  abbrev Law : ℕ → Type 0
  Law k = front_fine (front_by k u i o e p d) ≡ true → (frame (0xa0 + k)).write (record_of (front_by k u i o e p d) c) ≡ body_of (front_by k u i o e p d) c

  body_1 : Law 1
  unfolding frame invoke leads argument request carrying canonical over marked front_octets
  body_1 v =
      by_cases (eqb o 30) (λ q. rw (q, value_write 7 operations o, number_write 0x0a 0 2 d, append-nil))
      (λ q. rw (q, value_write 7 operations o, append-nil) (sym (append_assoc wid (full_number 0x02 o) ((charge_of o).write c))))

  body_2 : Law 2
  unfolding frame return_result leads carrying canonical over marked front_octets cons lead
  body_2 v =
      let w = (charge_of o).write c in
      let x = full_number 0x02 o in
      let n : length (x ++ w) ≡ 3 + length w = omega (arith, length-append x w, small_length 0x02 o (small_operation (front_by 2 u i o e p d) v)) in
      rw (value_write 7 (30 ∷ []) o, n)
      (sym (append_assoc wid (lead 0x30 (3 + length w) ++ x) w ∙ ap (λ (y : List ℕ). wid ++ y) (append_assoc (lead 0x30 (3 + length w)) x w)))

  body_3 : Law 3
  unfolding frame return_error failed leads canonical over front_octets
  body_3 v = rw (value_write 8 errors e, append-nil)

  call : caller.write (cond (eqb u 1) (inl tt) (inr i)) ≡ cond (eqb u 1) (lead 0x05 0) wid
  unfolding caller alt
  call = by_cases (eqb u 1) (λ q. rw (q, null_write 0x05 tt)) (λ q. rw q)

  tagged : (p ≡ 0x80) ⊎ ((p ≡ 0x81) ⊎ ((p ≡ 0x82) ⊎ (p ≡ 0x83)))
      → (problems (cond (eqb u 1) (inl tt) (inr i))).write (record_of (front_by 4 u i o e p d) c) ≡ full_number p d
  unfolding problems sort problem canonical over
  tagged (inl q) = rw q (number_write 0x80 0 2 d)
  tagged (inr (inl q)) = rw q (number_write 0x81 0 7 d)
  tagged (inr (inr (inl q))) = rw q (number_write 0x82 0 2 d)
  tagged (inr (inr (inr q))) = rw q (number_write 0x83 0 4 d)

  body_4 : Law 4
  unfolding frame reject leads front_octets
  body_4 v =
      let t = problem_tag (front_by 4 u i o e p d) v (λ z. omega arith) (λ z. omega arith) (λ z. omega arith) in
      rw (append-nil) (ap₂ (λ (x y : List ℕ). x ++ y) call (tagged t))

  -- there is no other
  none : (k : ℕ) → (k ≡ 1 → ⊥) → (k ≡ 2 → ⊥) → (k ≡ 3 → ⊥) → (k ≡ 4 → ⊥) → Law k
  none k h1 h2 h3 h4 v = absurd (h4 (reject_problem (front_by k u i o e p d) v h1 h2 h3).0)

  any : (k : ℕ) → Law k
  any zero = none 0 (λ z. omega arith) (λ z. omega arith) (λ z. omega arith) (λ z. omega arith)
  any (suc zero) = body_1
  any (suc (suc zero)) = body_2
  any (suc (suc (suc zero))) = body_3
  any (suc (suc (suc (suc zero)))) = body_4
  any (suc (suc (suc (suc (suc k))))) = none _ (λ z. omega arith) (λ z. omega arith) (λ z. omega arith) (λ z. omega arith)

pub write_parts : (r : Record) → front_fine (front_of r) ≡ true
    → component.write r ≡ lead (0xa0 + r.front.frame) (length (body_of (front_of r) r.charge)) ++ body_of (front_of r) r.charge
unfolding component frames lead
write_parts r v =
    let f = r.front in
    ap (λ (w : List ℕ). (0xa0 + f.frame) ∷ length_octets (length w) ++ w)
    (any f.unnamed f.id f.operation f.error f.problem f.detail r.charge f.frame v)

-- ---- a frame's contents as they are put: t tells whether a charge of n octets follows

module _ (f : Front) (x : Charge) (n : ℕ) (e : n ≡ length (charge_octets f x)) where
  parts : Split (body_of f x) (front_octets f n) (charge_octets f x)
  parts = record { parts = ap (λ (k : ℕ). front_octets f k ++ charge_octets f x) (sym e) }

  module _ {l : List ℕ} {a : ℕ} where
    pub put_body_1 : Room l a (body_of f x) → Room l a (front_octets f n)
    put_body_1 h = room_first parts h

    module _ {m : List ℕ} {b : ℕ} (p : Wrote l m a (front_octets f n) b) (t : Bool) (is : t ≡ charged f) where
      pub put_body_2 : Room l a (body_of f x) → t ≡ true → Room m b ((charge_of f.operation).write x)
      put_body_2 h q = room_as (room_rest parts h p) (picked _ _ (sym is ∙ q))

      pub put_body_3 : {o : List ℕ} {d : ℕ} → t ≡ true → Wrote m o b ((charge_of f.operation).write x) d → Wrote l o a (body_of f x) d
      put_body_3 q w = wrote_parts parts p (wrote_as (sym (picked _ _ (sym is ∙ q))) w)

      pub put_body_4 : t ≡ false → Wrote l m a (body_of f x) b
      put_body_4 q = wrote_as (sym (append-nil (front_octets f n)) ∙ ap (λ (y : List ℕ). front_octets f n ++ y) (sym (unpicked _ _ (sym is ∙ q))) ∙ sym parts.parts) p
