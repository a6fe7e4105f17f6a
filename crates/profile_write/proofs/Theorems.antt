-- Demand 2 by the profile octet: of every octet p, what is read under p, what is written under p, and what octets mean under p. Instances of both families' theorems.
use Rattle.prelude.proofs.Prelude.{ℕ, ◌≤◌, arith, ◌≡◌, refl, sym, ◌∙◌, ap, List, ◌++◌, true, cond, length, take, drop, take-append_seam, eqb, eq-eqb, ne_eqb, eqb-true, eqb-false, leb, ◌↔◌}
use Rattle.prelude.proofs.Ways.{by_cases}
use Rattle.coding.{specs.Reader.Ans, specs.Reader.Ans.got, specs.Reader.Ans.halt, specs.Codec.Run, proofs.Laws.Octets, proofs.Whole.Encodes}
use Rattle.types.{specs.declared.Record.Record, specs.declared.Answer.Answer, specs.Frames.component, specs.Frames.accepted, specs.Frames.answered, specs.Frames.read_whole, specs.Frames.read_of}
use Rattle.trunk_types.{specs.declared.Trunk.Trunk, specs.declared.TrunkAnswer.TrunkAnswer, specs.Components.trunk_component, specs.Components.trunk_accepted, specs.Components.trunk_answered, specs.Components.read_whole_trunk, specs.Components.read_trunk}
use Rattle.write.specs.{declared.Written.Written, Outcome.done, Outcome.no, Outcome.write_family, Outcome.left_family, Outcome.write_of, Outcome.left_of}
use Rattle.trunk_write.specs.Outcome.{Offered, trunk_write_of, trunk_left_of}
use Rattle.profile_read.{specs.Profile.Either, specs.Profile.of_line, specs.Profile.of_trunk, specs.Profile.of_none, specs.Profile.read_by, proofs.Answers.line_read, proofs.Answers.trunk_read, proofs.Answers.other_refused}
use Rattle.profile_write.specs.Writes.{write_by, left_by}
use Rattle.types.proofs.Theorems as Lines
use Rattle.trunk_types.proofs.Theorems as Trunks
use Rattle.write.proofs.Theorems as Line
use Rattle.trunk_write.proofs.Theorems as Trunked

-- ---- the records of both families

pub data Held : Type 0 where
  a_line : Record → Held
  a_trunk : Trunk → Held

-- octets that, whole, mean one under an octet p: 91 names the family of public lines, 9F that of trunks, and no other octet names one
abbrev pub Means : ℕ → List ℕ → Held → Type 0
Means p s (a_line r) = (p ≡ 0x91) × Encodes component r s
Means p s (a_trunk t) = (p ≡ 0x9f) × Encodes trunk_component t s

-- the shortest form of one
abbrev pub octets_of : Held → List ℕ
octets_of (a_line r) = component.write r
octets_of (a_trunk t) = trunk_component.write t

-- the answer to octets that are accepted with one: it, and a record of zeros of the other family
abbrev pub took : Held → Either
took (a_line r) = of_line (accepted r)
took (a_trunk t) = of_trunk (trunk_accepted t)

-- ---- one of three octets

by_octet : {P : Type 0} (p : ℕ) → (p ≡ 0x91 → P) → (p ≡ 0x9f → P) → ((p ≡ 0x91 → ⊥) → (p ≡ 0x9f → ⊥) → P) → P
by_octet p a b c =
    by_cases (eqb p 0x91) (λ q. a (eqb-true p 0x91 q))
    (λ q. by_cases (eqb p 0x9f) (λ h. b (eqb-true p 0x9f h)) (λ h. c (eqb-false p 0x91 q) (eqb-false p 0x9f h)))

-- an answer of one family is none of the other, and none of no family
family_not : {P : Type 0} {x y : Either} → x ≡ y → (x.family ≡ y.family → ⊥) → P
family_not e n = absurd (n (ap (λ (z : Either). z.family) e))

line_of : {a b : Answer} → of_line a ≡ of_line b → a ≡ b
line_of e = ap (λ (x : Either). record { number = x.number; offset = x.offset; value = x.line }) e

trunk_of_lem : {a b : TrunkAnswer} → of_trunk a ≡ of_trunk b → a ≡ b
trunk_of_lem e = ap (λ (x : Either). record { number = x.number; offset = x.offset; value = x.trunk }) e

-- ---- reading

-- an answer with the number 0 has no offset
line_taken : (s : List ℕ) → (read_of s).number ≡ 0 → read_of s ≡ accepted (read_of s).value
unfolding read_of
line_taken s = go (read_whole s)
  where
    go : (a : Ans Record) → (answered a).number ≡ 0 → answered a ≡ accepted (answered a).value
    go (got x n) e = refl
    go (halt w p) e = rw e refl

trunk_taken : (s : List ℕ) → (read_trunk s).number ≡ 0 → read_trunk s ≡ trunk_accepted (read_trunk s).value
unfolding read_trunk
trunk_taken s = go (read_whole_trunk s)
  where
    go : (a : Ans Trunk) → (trunk_answered a).number ≡ 0 → trunk_answered a ≡ trunk_accepted (trunk_answered a).value
    go (got x n) e = refl
    go (halt w p) e = rw e refl

module _ (p : ℕ) (s : List ℕ) where
  abbrev at : ℕ → Either
  at q = read_by q s

  -- octets are accepted under p with a record exactly where they are at most 254 and, whole, mean it under p
  pub reads : (x : Held) → Octets s → (read_by p s ≡ took x) ↔ ((length s ≤ 254) × Means p s x)
  reads (a_line r) os = (
    λ e. by_octet p
        (λ q. let f = (Lines.reads s r os).0 (line_of (sym (line_read s) ∙ ap at (sym q) ∙ e)) in (f.0, (q, f.1)))
        (λ q. family_not (sym (trunk_read s) ∙ ap at (sym q) ∙ e) (λ z. omega (arith, z)))
        (λ a b. family_not (sym (other_refused s p a b) ∙ e) (λ z. omega (arith, z))),
    λ m. ap at m.1.0 ∙ line_read s ∙ ap of_line ((Lines.reads s r os).1 (m.0, m.1.1)),
  )
  reads (a_trunk t) os = (
    λ e. by_octet p
        (λ q. family_not (sym (line_read s) ∙ ap at (sym q) ∙ e) (λ z. omega (arith, z)))
        (λ q. let f = (Trunks.reads s t os).0 (trunk_of_lem (sym (trunk_read s) ∙ ap at (sym q) ∙ e)) in (f.0, (q, f.1)))
        (λ a b. family_not (sym (other_refused s p a b) ∙ e) (λ z. omega (arith, z))),
    λ m. ap at m.1.0 ∙ trunk_read s ∙ ap of_trunk ((Trunks.reads s t os).1 (m.0, m.1.1)),
  )

  -- and 0 is answered with a record only
  pub accepted_with : (read_by p s).number ≡ 0 → (x : Held) × (read_by p s ≡ took x)
  accepted_with e =
      by_octet p
      (λ q. let k = ap at q ∙ line_read s in (a_line (read_of s).value, k ∙ ap of_line (line_taken s (sym (ap (λ (z : Either). z.number) k) ∙ e))))
      (λ q. let k = ap at q ∙ trunk_read s in (a_trunk (read_trunk s).value, k ∙ ap of_trunk (trunk_taken s (sym (ap (λ (z : Either). z.number) k) ∙ e))))
      (λ a b. absurd (omega (arith, sym (ap (λ (z : Either). z.number) (other_refused s p a b)) ∙ e)))

  -- octets mean at most one record under p
  pub one_record : (x y : Held) → Octets s → Means p s x → Means p s y → x ≡ y
  one_record (a_line r) (a_line r') os m n = ap a_line (Lines.one_record s r r' os m.1 n.1)
  one_record (a_line r) (a_trunk t) os m n = absurd (omega (arith, sym m.0 ∙ n.0))
  one_record (a_trunk t) (a_line r) os m n = absurd (omega (arith, sym m.0 ∙ n.0))
  one_record (a_trunk t) (a_trunk t') os m n = ap a_trunk (Trunks.one_component s t t' os m.1 n.1)

  -- no octets that mean a record under p are fewer than its shortest form, and none as few but these
  pub shortest : (x : Held) → Octets s → length s ≤ 254 → Means p s x → (length (octets_of x) ≤ length s) × (length s ≡ length (octets_of x) → s ≡ octets_of x)
  shortest (a_line r) os l m = (Lines.none_shorter s r os m.1, Lines.the_shortest s r os l m.1)
  shortest (a_trunk t) os l m = (Trunks.none_shorter s t os m.1, Trunks.the_shortest s t os l m.1)

-- ---- writing: the record of the family that p names, of the two that are handed over

abbrev pub named_by : ℕ → Record → Trunk → Held
named_by p r t = cond (eqb p 0x91) (a_line r) (a_trunk t)

-- what is left where a value is written
left_written : {A : Type 0} (family : Run A) (x : A) (before : List ℕ) → (write_family family x (length before)).number ≡ 0
    → left_family family x before ≡ family.write x ++ drop (length (family.write x)) before
left_written family x before e =
    by_cases (family.valid x) (λ p. by_cases (leb (length (family.write x)) 254) (λ q. by_cases (leb (length (family.write x)) (length before))
    (λ f. rw (p, q, f) refl)
    (λ f. absurd (omega (arith, rw (p, q, f) at e)))) (λ q. absurd (omega (arith, rw (p, q) at e)))) (λ p. absurd (omega (arith, rw p at e)))

line_left : (r : Record) (before : List ℕ) → (write_of r (length before)).number ≡ 0 → left_of r before ≡ component.write r ++ drop (length (component.write r)) before
unfolding write_of left_of
line_left = left_written component

trunk_left : (o : Offered) (before : List ℕ) → (trunk_write_of o (length before)).number ≡ 0
    → trunk_left_of o before ≡ trunk_component.write o.trunk ++ drop (length (trunk_component.write o.trunk)) before
unfolding trunk_write_of trunk_left_of
trunk_left o before e = by_cases o.spare (λ s. rw s (left_written trunk_component o.trunk before (rw s at e))) (λ s. absurd (omega (arith, rw s at e)))

module _ (p : ℕ) (r : Record) (o : Offered) (before : List ℕ) where
  abbrev named : Held
  named = named_by p r o.trunk

  abbrev size : ℕ
  size = length (octets_of named)

  -- where it is written: its shortest form, of at most 254 octets, and then what was there; read under p it is the record
  pub written_reads : (write_by p r o (length before)).number ≡ 0
      → ((write_by p r o (length before)).count ≡ size) × (size ≤ 254) × (left_by p r o before ≡ octets_of named ++ drop size before)
      × (read_by p (octets_of named) ≡ took named)
  unfolding write_by left_by read_by
  written_reads e =
      by_cases (eqb p 0x91)
      (λ a. rw a (
      let w = Line.written_reads r before (rw a at e) in
      let l = line_left r before (rw a at e) in
      (w.0, w.1, l, ap of_line (ap read_of (sym (take-append_seam _ _) ∙ ap (take (length (component.write r))) (sym l)) ∙ w.2))))
      (λ a. by_cases (eqb p 0x9f)
      (λ b. rw (a, b) (
      let w = Trunked.written_reads o before (rw (a, b) at e) in
      let l = trunk_left o before (rw (a, b) at e) in
      (w.0, w.1, l, ap of_trunk (ap read_trunk (sym (take-append_seam _ _) ∙ ap (take (length (trunk_component.write o.trunk))) (sym l)) ∙ w.2))))
      (λ b. absurd (omega (arith, rw (a, b) at e))))

  -- a refusal leaves the buffer as it was
  pub refused_untouched : ((write_by p r o (length before)).number ≡ 0 → ⊥) → left_by p r o before ≡ before
  unfolding write_by left_by
  refused_untouched h =
      by_cases (eqb p 0x91)
      (λ a. rw a (Line.refused_untouched r before (rw a at h)))
      (λ a. by_cases (eqb p 0x9f) (λ b. rw (a, b) (Trunked.refused_untouched o before (rw (a, b) at h))) (λ b. rw (a, b) refl))

-- what was read under p is written under p into any buffer as long as its octets were, and is not longer
pub read_writes : (p : ℕ) (s : List ℕ) (x : Held) (room : ℕ) → Octets s → read_by p s ≡ took x → length s ≤ room
    → (write_by p (took x).line (record { trunk = (took x).trunk; spare = true }) room ≡ done (length (octets_of x))) × (length (octets_of x) ≤ length s)
unfolding write_by
read_writes p s (a_line r) room os e l =
    let m = (reads p s (a_line r) os).0 e in
    let w = Line.read_writes s r room os ((Lines.reads s r os).1 (m.0, m.1.1)) l in
    (rw (eq-eqb p 0x91 m.1.0) w.0, w.1)
read_writes p s (a_trunk t) room os e l =
    let m = (reads p s (a_trunk t) os).0 e in
    let w = Trunked.read_writes s t room os ((Trunks.reads s t os).1 (m.0, m.1.1)) l in
    (rw (ne_eqb p 0x91 (λ z. omega (arith, m.1.0, z)), eq-eqb p 0x9f m.1.0) w.0, w.1)
