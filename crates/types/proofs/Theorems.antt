-- What reading octets answers, and what is written of a record: the theorems about whole components.
use Rattle.prelude.proofs.Prelude.{ℕ, ◌+◌, ◌≤◌, ◌<◌, ◌≡◌, refl, sym, ap, ◌∙◌, List, Bool, true, false, ◌⊎◌, inl, inr, ◌↔◌, arith, length, ltb, leb, ltb-true, ltb-false, leb-true, leb-false}
use Rattle.coding.{specs.Reader.Ans, specs.Reader.Fault, specs.Reader.Ans.got, specs.Reader.Ans.halt, specs.Reader.Fault.named, proofs.Laws.Octets, proofs.Whole.Encodes}
use Rattle.coding.{proofs.Basic.by_test, proofs.Whole.one_meaning, proofs.Whole.means_itself, proofs.Frames.frames_ends}
use Rattle.types.specs.{declared.Record.Record, declared.Answer.Answer, Frames.outside, Frames.number_of, Frames.no_record, Frames.frame, Frames.component, Frames.read_whole}
use Rattle.types.specs.{Frames.accepted, Frames.refused_at, Frames.refused, Frames.offset_of, Frames.answered, Frames.read_of}
use Rattle.types.proofs.{FrameLaws.component_laws, Places.Ends, Faults.Told, Faults.whole_told}
use Rattle.coding.proofs.Whole as Whole
use Rattle.types.proofs.Family as Family

-- ---- refusals

-- over 254 octets are refused with 3, and others are read
pub read_long : (s : List ℕ) → 254 < length s → read_whole s ≡ halt (named 3) 0
unfolding read_whole
read_long = Family.read_long component

pub read_short : (s : List ℕ) → length s ≤ 254 → read_whole s ≡ component.read s 0 (length s)
unfolding read_whole
read_short = Family.read_short component

-- octets are accepted with a record; or refused, with no record, by 1 to 8 and no offset; or by 40 to 45 and an offset that lies inside the octets or
-- at their end, and not before the eighth
pub data Answers (s : List ℕ) : Type 0 where
  taken : (x : Record) → read_of s ≡ accepted x → Answers s
  framed : (n : ℕ) → 1 ≤ n → n ≤ 8 → read_of s ≡ refused n → Answers s
  argued : (n p : ℕ) → 40 ≤ n → n ≤ 45 → 8 ≤ p → p ≤ length s → length s ≤ 254 → read_of s ≡ refused_at n p → Answers s

-- the place is shown with 40 to 45 alone
unplaced : (n p : ℕ) → n ≤ 8 → offset_of n p ≡ 0
unplaced n p l = by_test (λ x. x ≡ 0) (leb _ n) p 0 (λ q. absurd (omega (arith, l, leb-true _ n q))) (λ q. refl)

placed : (n p : ℕ) → 40 ≤ n → offset_of n p ≡ p
placed n p l = by_test (λ x. x ≡ p) (leb _ n) p 0 (λ q. refl) (λ q. absurd (omega (arith, l, leb-false _ n q)))

by_fault : (s : List ℕ) (w : Fault) (p : ℕ) → Told w p → p ≤ length s → read_whole s ≡ halt w p → Answers s
unfolding read_of
by_fault s w p (inl l) i e = framed (number_of w) l.0 l.1 (ap answered e ∙ ap (refused_at (number_of w)) (unplaced (number_of w) p l.1))
by_fault s w p (inr h) i e = argued (number_of w) p h.0 h.1 h.2 i (short (ltb 254 (length s)) refl)
    (ap answered e ∙ ap (refused_at (number_of w)) (placed (number_of w) p h.0))
  where
    short : (t : Bool) → ltb 254 (length s) ≡ t → length s ≤ 254
    short true q = absurd (omega (arith, h.0, ap (λ a. (answered a).number) (sym e ∙ read_long s (ltb-true 254 (length s) q))))
    short false q = ltb-false 254 (length s) q

pub answers : (s : List ℕ) → Answers s
unfolding read_of
answers s = go (read_whole s) refl (whole_told s)
  where
    go : (a : Ans Record) → read_whole s ≡ a → Ends Told 0 (length s) a → Answers s
    go (got x n) e h = taken x (ap answered e)
    go (halt w p) e h = by_fault s w p h.0 h.2 e

-- what holds of each of the three holds of the answer
by_answer : (P : Answer → Type 0) (s : List ℕ) → ((x : Record) → P (accepted x)) → ((n : ℕ) → 1 ≤ n → n ≤ 8 → P (refused n))
    → ((n p : ℕ) → 40 ≤ n → n ≤ 45 → 8 ≤ p → p ≤ length s → length s ≤ 254 → P (refused_at n p)) → P (read_of s)
by_answer P s t f g = elim (answers s) [
  | taken x e ↦ rw e (t x)
  | framed n a b e ↦ rw e (f n a b)
  | argued n p a b c d l e ↦ rw e (g n p a b c d l)
]

-- the number of an answer: 0, or 1 to 8, or 40 to 45
pub refusal : (s : List ℕ) → ((read_of s).number ≤ 8) ⊎ ((40 ≤ (read_of s).number) × ((read_of s).number ≤ 45))
refusal s = by_answer (λ a. (a.number ≤ 8) ⊎ ((40 ≤ a.number) × (a.number ≤ 45))) s (λ x. inl (omega arith)) (λ n a b. inl b) (λ n p a b c d l. inr (a, b))

-- an offset is given with 40 to 45 alone
pub no_offset : (s : List ℕ) → (read_of s).number < 40 → (read_of s).offset ≡ 0
no_offset s = by_answer (λ a. a.number < 40 → a.offset ≡ 0) s (λ x h. refl) (λ n a b h. refl) (λ n p a b c d l h. absurd (omega (arith, a, h)))

-- and one that is given lies inside the octets or at their end, and is never 0
pub offset_inside : (s : List ℕ) → 40 ≤ (read_of s).number → (8 ≤ (read_of s).offset) × ((read_of s).offset ≤ length s) × (length s ≤ 254)
offset_inside s =
    by_answer (λ a. 40 ≤ a.number → (8 ≤ a.offset) × (a.offset ≤ length s) × (length s ≤ 254)) s
    (λ x h. absurd (omega (arith, h))) (λ n a b h. absurd (omega (arith, b, h))) (λ n p a b c d l h. (c, d, l))

-- so it is an octet
pub offset_small : (s : List ℕ) → (read_of s).offset ≤ 254
offset_small s = by_answer (λ a. a.offset ≤ 254) s (λ x. omega arith) (λ n a b. omega arith) (λ n p a b c d l. omega (arith, d, l))

-- a refusal leaves no record
pub no_record_lem : (s : List ℕ) → ((read_of s).number ≡ 0 → ⊥) → (read_of s).value ≡ no_record
no_record_lem s = by_answer (λ a. (a.number ≡ 0 → ⊥) → a.value ≡ no_record) s (λ x h. absurd (h refl)) (λ n a b h. refl) (λ n p a b c d l h. refl)

-- ---- reading and meaning

-- a component that is read ends where the octets end
component_ends : (s : List ℕ) (a e n : ℕ) (x : Record) → component.read s a e ≡ got x n → n ≡ e
unfolding component
component_ends = frames_ends _ (λ r. 0xa0 + r.front.frame) outside (named 5) frame

-- no fault that is met has the number 0
answered_got : (a : Ans Record) (x : Record) (e : ℕ) → Ends Told 0 e a → answered a ≡ accepted x → (n : ℕ) × (a ≡ got x n)
answered_got (got y n) x l h e = (n, ap (λ (z : Answer). got z.value n) e)
answered_got (halt w p) x l h e =
    let z = ap (λ (z : Answer). z.number) e in elim h.0 [ inl m ↦ absurd (omega (arith, m.0, z)) | inr m ↦ absurd (omega (arith, m.0, z)) ]

-- octets are accepted with a record exactly where they are at most 254 and, whole, mean it
pub reads : (s : List ℕ) (x : Record) → Octets s → (read_of s ≡ accepted x) ↔ ((length s ≤ 254) × Encodes component x s)
unfolding read_of read_whole
reads s x os =
    let f = Family.reads component component_laws component_ends s x os in
    (λ e. f.0 (answered_got (read_whole s) x (length s) (whole_told s) e), λ p. ap answered (f.1 p).1)

-- octets mean at most one record
pub one_record : (s : List ℕ) (x y : Record) → Octets s → Encodes component x s → Encodes component y s → x ≡ y
one_record = one_meaning component component_laws

-- ---- writing

-- what is written of a valid record means it
pub written_means : (x : Record) → component.valid x ≡ true → length (component.write x) ≤ 254 → Encodes component x (component.write x)
written_means x v l = means_itself component component_laws x v (omega arith)

-- and is read back
pub reads_back : (x : Record) → component.valid x ≡ true → length (component.write x) ≤ 254 → read_of (component.write x) ≡ accepted x
unfolding read_of read_whole
reads_back x v l = ap answered (Family.reads_back component component_laws component_ends x v l)

-- a record that is read is valid, and what is written of it is no longer than what was read, so it always fits
pub read_fits : (s : List ℕ) (x : Record) → Octets s → read_of s ≡ accepted x
    → (component.valid x ≡ true) × (length (component.write x) ≤ length s) × (length s ≤ 254)
unfolding read_of read_whole
read_fits s x os e =
    let g = answered_got (read_whole s) x (length s) (whole_told s) e in
    Family.read_fits component component_laws component_ends s x g.0 os g.1

-- no octets that mean a record are fewer than those written of it
pub none_shorter : (s : List ℕ) (x : Record) → Octets s → Encodes component x s → length (component.write x) ≤ length s
none_shorter = Whole.none_shorter component component_laws

-- and those that are as many are those: of the octets that mean a record one only is shortest
pub the_shortest : (s : List ℕ) (x : Record) → Octets s → length s ≤ 254 → Encodes component x s → length s ≡ length (component.write x) → s ≡ component.write x
the_shortest s x os l m e = Whole.the_shortest component component_laws s x os (omega arith) m e

-- what is written of a valid record are octets
pub written_octets : (x : Record) → component.valid x ≡ true → length (component.write x) ≤ 254 → Octets (component.write x)
written_octets x v l = component_laws.octets x v (omega arith)

-- two valid records that are written alike are one
pub written_once : (x y : Record) → component.valid x ≡ true → component.valid y ≡ true → length (component.write x) ≤ 254
    → component.write x ≡ component.write y → x ≡ y
written_once = Family.written_once component component_laws component_ends

-- what is read, written and read again is the same record
pub reads_again : (s : List ℕ) (x : Record) → Octets s → read_of s ≡ accepted x → read_of (component.write x) ≡ accepted x
reads_again s x os e = let f = read_fits s x os e in reads_back x f.0 (omega (arith, f.1, f.2))
