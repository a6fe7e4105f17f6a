-- Every reply is a reject that may be written, of at most nine octets, and it is read back.
use Rattle.prelude.proofs.Prelude.{ℕ, ◌+◌, ◌≤◌, ◌<◌, arith, ◌≡◌, refl, ap, ◌∙◌, Bool, true, false, cond, ◌⊎◌, inl, inr, List, [], ◌++◌, length, length-append, ltb, leb, eqb, eq-eqb, ltb-true}
use Rattle.prelude.proofs.Prelude.{le-leb}
use Rattle.coding.{specs.Reader.Ans, specs.Reader.after, specs.Reader.entered_any, specs.Reader.Ans.got, specs.Reader.Ans.halt, specs.Reader.Fault.named, specs.Codec.prim}
use Rattle.coding.{specs.Leaves.identifier, specs.inner.Written.lead, specs.inner.Written.full_number, specs.declared.Extent.Extent, proofs.Basic.and_both, proofs.Laws.Octets, proofs.Combine.prim_laws}
use Rattle.coding.{proofs.Leaves.identifier_laws, proofs.Small.small_length, proofs.Small.id_range, proofs.Small.id_length, proofs.Small.null_length, proofs.Writing.lead_length_short}
use Rattle.types.{specs.declared.Record.Record, specs.Arguments.no_charge, specs.Frames.component, specs.Frames.outside, specs.Frames.rejects, specs.Frames.read_of, specs.Frames.accepted}
use Rattle.types.{proofs.ArgumentLaws.charge_equal, proofs.Theorems.reads_back, proofs.Places.pick}
use Rattle.write.{specs.declared.Written.Written, proofs.Octets.write_parts, specs.Outcome.write_of}
use Rattle.write_heads.{specs.inner.{Fronts.{front_fine, front_octets, id_octets, problem_fine}, Halves.{front_of, body_of}}, proofs.Valid.valid_parts}
use Rattle.read_heads.proofs.Entered.{tags, entered_ends}
use Rattle.reply_rules.specs.Rejects.{value_or0, identifier_of, first_of, is_silent_to, reply_by, reject_to, reply_to}
use Rattle.reply.specs.Reply.{reply_given, reply_of}

-- what is asked of a reply
abbrev Sent : Record → Type 0
Sent r = (component.valid r ≡ true) × (length (component.write r) ≤ 9)

-- an identifier has 16 bits
abbrev Small : Unit {0} ⊎ ℕ → Type 0
Small (inl u) = Unit {0}
Small (inr i) = i < 0x10000

-- a reject of a problem that there is, to NULL or to an identifier
module _ (tag d : ℕ) (p : problem_fine tag d ≡ true) (l : d < 128) where
  fine : (who : Unit {0} ⊎ ℕ) → front_fine (front_of (rejects who tag d)) ≡ true
  unfolding front_fine
  fine (inl u) = simp (eq-eqb tag tag refl, eq-eqb d d refl, p)
  fine (inr i) = simp (eq-eqb i i refl, eq-eqb tag tag refl, eq-eqb d d refl, p)

  valid : (who : Unit {0} ⊎ ℕ) → Small who → component.valid (rejects who tag d) ≡ true
  valid (inl u) s = valid_parts (rejects (inl u) tag d) (omega arith) ∙ and_both _ _ (fine (inl u)) (charge_equal.self no_charge)
  valid (inr i) s = valid_parts (rejects (inr i) tag d) s ∙ and_both _ _ (fine (inr i)) (charge_equal.self no_charge)

  abbrev body : Unit {0} ⊎ ℕ → List ℕ
  body who = body_of (front_of (rejects who tag d)) (rejects who tag d).charge

  short : (who : Unit {0} ⊎ ℕ) → length (body who) ≤ 7
  unfolding front_octets
  short (inl u) = omega (arith, length-append (lead 0x05 0 ++ full_number tag d) [], length-append (lead 0x05 0) (full_number tag d), null_length 0x05, small_length tag d l)
  short (inr i) =
      let f = front_of (rejects (inr i) tag d) in
      omega (arith, length-append (id_octets f ++ full_number tag d) [], length-append (id_octets f) (full_number tag d), id_length 0x02 i, id_range i, small_length tag d l)

  sent : (who : Unit {0} ⊎ ℕ) → Small who → Sent (rejects who tag d)
  sent who s =
      let r = rejects who tag d in
      let b = short who in
      let h = lead (0xa0 + r.front.frame) (length (body who)) in
      let m = lead_length_short (0xa0 + r.front.frame) (length (body who)) (omega (arith, b)) in
      (valid who s, omega (arith, ap length (write_parts r (fine who)), length-append h (body who), b, m))

when : (t : Bool) (x y : Record) → Sent x → Sent y → Sent (cond t x y)
when true x y a b = a
when false x y a b = b

-- every reply that a refusal calls for may be written and is short
pub replies : (n first i : ℕ) → i < 0x10000 → Sent (reply_by n first i)
replies n first i s =
    let named : (tag d : ℕ) → problem_fine tag d ≡ true → d < 128 → Sent (rejects (inr i) tag d) = λ tag d p l. sent tag d p l (inr i) s in
    when (eqb n 4) _ _ (sent 0x80 0 refl (omega arith) (inl tt) tt)
    (when (eqb n 6) _ _ (sent 0x80 1 refl (omega arith) (inl tt) tt)
    (when (eqb n 8) _ _ (named 0x83 2 refl (omega arith))
    (when (eqb n 7) _ _ (when (eqb first 0xa2) _ _ (named 0x82 2 refl (omega arith)) (named 0x81 1 refl (omega arith)))
    (when (leb 40 n) _ _ (when (eqb first 0xa2) _ _ (named 0x82 2 refl (omega arith)) (named 0x81 2 refl (omega arith)))
    (sent 0x80 2 refl (omega arith) (inl tt) tt)))))

-- so it is read back
pub reply_reads_back : (n first i : ℕ) → i < 0x10000 → read_of (component.write (reply_by n first i)) ≡ accepted (reply_by n first i)
reply_reads_back n first i s = let r = replies n first i s in reads_back (reply_by n first i) r.0 (omega (arith, r.1))

-- ---- of any octets: the identifier has 16 bits, so the reply may be written, is short, and is refused 12 or not at all

small_read : (s : List ℕ) (a e : ℕ) → Octets s → a ≤ e → e ≤ length s → (r : Ans ℕ) → (prim 0x02 identifier).read s a e ≡ r → value_or0 r < 0x10000
unfolding prim identifier
small_read s a e os ae es (got i m) q =
    let L = prim_laws 0x02 identifier identifier_laws refl in
    ltb-true i 0x10000 (L.fine s a m i (L.sound s a e m i os ae es q).1)
small_read s a e os ae es (halt w p) q = omega arith

small_entered : (s : List ℕ) → Octets s → (r : Ans Extent) → entered_any tags outside (named 5) s 0 (length s) ≡ r
    → value_or0 (after r (λ x next. (prim 0x02 identifier).read s x.start x.stop)) < 0x10000
unfolding after
small_entered s os (got x n) q =
    let z = entered_ends s x n q in
    small_read s x.start x.stop os z.0 z.1 ((prim 0x02 identifier).read s x.start x.stop) refl
small_entered s os (halt w p) q = omega arith

pub identifier_small : (s : List ℕ) → Octets s → identifier_of s < 0x10000
unfolding identifier_of
identifier_small s os = pick (λ i. i < 0x10000) (ltb 254 (length s)) _ _ (λ _. omega arith) (λ _. small_entered s os (entered_any tags outside (named 5) s 0 (length s)) refl)

pub reply_sent : (s : List ℕ) → Octets s → Sent (reply_to s)
unfolding reply_to
reply_sent s os = replies (read_of s).number (first_of s) (identifier_of s) (identifier_small s os)

-- by any number, of either family
pub given_12 : (n : ℕ) (s : List ℕ) (room : ℕ) → Octets s → ((reply_given n s room).number ≡ 0) ⊎ ((reply_given n s room).number ≡ 12)
unfolding reply_given write_of
given_12 n s room os =
    let q = replies n (first_of s) (identifier_of s) (identifier_small s os) in
    let l = le-leb (length (component.write (reject_to n s))) 254 (omega (arith, q.1)) in
    let P : Written → Type 0 = λ w. (w.number ≡ 0) ⊎ (w.number ≡ 12) in
    pick P (is_silent_to n s) _ _ (λ e. inl refl) (λ e. rw (q.0, l) (pick P (leb (length (component.write (reject_to n s))) room) _ _ (λ f. inl refl) (λ f. inr refl)))

pub only_12 : (s : List ℕ) (room : ℕ) → Octets s → ((reply_of s room).number ≡ 0) ⊎ ((reply_of s room).number ≡ 12)
unfolding reply_of
only_12 s room os = given_12 (read_of s).number s room os
