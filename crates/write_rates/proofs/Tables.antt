-- Lists in rows: loops over the entries of a table, and arrays that hold the rows of a table and zeros after them.
use Rattle.prelude.proofs.Prelude.{ℕ, zero, suc, ◌+◌, ◌*◌, ◌≤◌, ◌<◌, ◌≡◌, refl, sym, ap, ap₂, ◌∙◌, List, [], ◌∷◌, ◌++◌, append-nil, append_assoc, Bool, true, false, not, ◌&&◌, arith}
use Rattle.prelude.proofs.Prelude.{mul-zero, mul-suc, add-one, length, get_or, take, drop, length-append, take-add, drop-cons, drop-length}
use Rattle.prelude.proofs.Prelude.{ltb, leb, eqb, eq-eqb, ne_eqb, leb-true, ltb-true, ltb-false}
use Rattle.coding.{specs.Codec.Run, specs.Codec.all, specs.Codec.write_all, specs.Codec.some_more, specs.Codec.same_list, specs.Codec.pad, specs.inner.Written.Wrote, specs.inner.Written.Room}
use Rattle.coding.{specs.Rows.rows, specs.Rows.table, proofs.Basic.and_left, proofs.Basic.and_right, proofs.Writing.wrote_as, proofs.Writing.wrote_both, proofs.Writing.wrote_next}
use Rattle.coding.{proofs.Writing.wrote_none, proofs.Writing.Split, proofs.Writing.split, proofs.Writing.room_first, proofs.Writing.room_rest, proofs.Rows.table_length}
use Rattle.coding.{proofs.Rows.table_more, proofs.Rows.rows_append, proofs.Tests.and-false}
use Rattle.write_tests.specs.inner.Fine.{laid, zero_past, unused_zero}
use Rattle.write_tests.proofs.Tests.{past_same}
use Rattle.types.specs.Arguments.{same_entries}

-- ---- the entries from i on

module _ {A : Type 0} where
  table_get : (n : ℕ) (g : ℕ → A) (z : A) (i : ℕ) → i < n → get_or (table n g) i z ≡ g i
  unfolding table
  table_get zero g z i h = absurd (omega arith)
  table_get (suc n) g z zero h = refl
  table_get (suc n) g z (suc i) h = table_get n (λ j. g (suc j)) z i (omega arith)

  rest_more : (n : ℕ) (g : ℕ → A) (i : ℕ) {x : A} → i < n → x ≡ g i → drop i (table n g) ≡ x ∷ drop (i + 1) (table n g)
  rest_more n g i {x} h e =
      drop-cons (table n g) i x (omega (arith, table_length n g)) ∙ ap₂ (λ (y : A) (k : ℕ). y ∷ drop k (table n g)) (table_get n g x i h ∙ sym e) (sym (add-one i))

  rest_none : (n : ℕ) (g : ℕ → A) (i : ℕ) → i ≤ n → (i < n → ⊥) → drop i (table n g) ≡ []
  rest_none n g i m h = let e : i ≡ length (table n g) = omega (arith, table_length n g) in rw e (drop-length (table n g))

-- ---- loops over n entries, of which i are done: x is entry i, taken out of the arrays

-- each is tested
pub record Passing {A : Type 0} (p : A → Bool) (g : ℕ → A) (n i : ℕ) : Type 0 where
  pub most : i ≤ n
  pub same : all p (table n g) ≡ all p (drop i (table n g))

module _ {A : Type 0} {p : A → Bool} {g : ℕ → A} {n : ℕ} where
  pub passing_none : Passing p g n 0
  passing_none = record { most = omega arith; same = refl }

  tested : {i : ℕ} {x : A} {b : Bool} → Passing p g n i → i < n → x ≡ g i → b ≡ p x → all p (table n g) ≡ b && all p (drop (i + 1) (table n g))
  tested {i} l h e f = l.same ∙ ap (all p) (rest_more n g i h e) ∙ ap (λ (t : Bool). t && all p (drop (i + 1) (table n g))) (sym f)

  pub passing_more : {i : ℕ} {x : A} {b : Bool} → Passing p g n i → i < n → x ≡ g i → b ≡ p x → b ≡ true → Passing p g n (i + 1)
  passing_more {i} {x} {b} l h e f t = record { most = omega arith; same = tested l h e f ∙ rw (t) }

  pub passing_stop : {i : ℕ} {x : A} {b : Bool} → Passing p g n i → i < n → x ≡ g i → b ≡ p x → b ≡ false → false ≡ all p (table n g)
  passing_stop {i} {x} {b} l h e f t = sym (tested l h e f ∙ rw (t))

  pub passing_done : {i : ℕ} → Passing p g n i → (i < n → ⊥) → true ≡ all p (table n g)
  passing_done {i} l h = sym (l.same ∙ ap (all p) (rest_none n g i l.most h))

-- each is valid: those from i on are
pub record Left {A : Type 0} (f : Run A) (g : ℕ → A) (n i : ℕ) : Type 0 where
  pub most : i ≤ n
  pub valid : all f.valid (drop i (table n g)) ≡ true

module _ {A : Type 0} {f : Run A} {g : ℕ → A} {n i : ℕ} {x : A} (l : Left f g n i) (h : i < n) (e : x ≡ g i) where
  both : f.valid x && all f.valid (drop (i + 1) (table n g)) ≡ true
  both = ap (all f.valid) (sym (rest_more n g i h e)) ∙ l.valid

  pub left_valid : f.valid x ≡ true
  left_valid = and_left (f.valid x) _ both

  left_more : Left f g n (i + 1)
  left_more = record { most = omega arith; valid = and_right (f.valid x) _ both }

-- their sizes are added up, each at most `each`
pub record Sizing {A : Type 0} (f : Run A) (each : ℕ) (g : ℕ → A) (n size i : ℕ) : Type 0 where
  pub left : Left f g n i
  pub few : size ≤ each * i
  pub counted : length (write_all f.write (table n g)) ≡ size + length (write_all f.write (drop i (table n g)))

module _ {A : Type 0} {f : Run A} {each : ℕ} {g : ℕ → A} {n : ℕ} where
  pub sizing_none : all f.valid (table n g) ≡ true → Sizing f each g n 0 0
  sizing_none v = record { left = record { most = omega arith; valid = v }; few = omega arith; counted = omega arith }

  pub sizing_more : {size i k : ℕ} {x : A} → Sizing f each g n size i → i < n → x ≡ g i → (k ≡ length (f.write x)) × (k ≤ each) → Sizing f each g n (size + k) (i + 1)
  sizing_more {size} {i} {k} {x} l h e q = record {
    left = left_more l.left h e;
    few = omega (arith, l.few, q.1);
    counted = omega (
      arith,
      l.counted,
      q.0,
      ap (λ (xs : List A). length (write_all f.write xs)) (rest_more n g i h e),
      length-append (f.write x) (write_all f.write (drop (i + 1) (table n g))),
    );
  }

  pub sizing_done : {size i : ℕ} → Sizing f each g n size i → (i < n → ⊥) → size ≡ length (write_all f.write (table n g))
  sizing_done {size} {i} l h = omega (arith, l.counted, ap (λ (xs : List A). length (write_all f.write xs)) (rest_none n g i l.left.most h))

-- they are written one after the other
pub record Putting {A : Type 0} (f : Run A) (g : ℕ → A) (n : ℕ) (l m : List ℕ) (a p i : ℕ) : Type 0 where
  pub left : Left f g n i
  pub done : List ℕ
  pub wrote : Wrote l m a done p
  pub parts : Split (write_all f.write (table n g)) done (write_all f.write (drop i (table n g)))

module _ {A : Type 0} {f : Run A} {g : ℕ → A} {n : ℕ} {l : List ℕ} {a : ℕ} where
  pub putting_none : all f.valid (table n g) ≡ true → Putting f g n l l a a 0
  putting_none v = record { left = record { most = omega arith; valid = v }; done = []; wrote = wrote_next (omega arith) (wrote_none l a); parts = split [] _ }

  pub putting_room : {m : List ℕ} {p i : ℕ} {x : A} → Putting f g n l m a p i → Room l a (write_all f.write (table n g)) → i < n → x ≡ g i → Room m p (f.write x)
  putting_room {i} {x} t r h e =
      room_first (record { parts = ap (write_all f.write) (rest_more n g i h e) }) (room_rest t.parts r t.wrote)

  pub putting_more : {m k : List ℕ} {p q i : ℕ} {x : A} → Putting f g n l m a p i → i < n → x ≡ g i → Wrote m k p (f.write x) q → Putting f g n l k a q (i + 1)
  putting_more {i} {x} t h e y = record {
    left = left_more t.left h e;
    done = t.done ++ f.write x;
    wrote = wrote_both t.wrote y;
    parts = record {
      parts =
          t.parts.parts ∙ ap (λ (xs : List A). t.done ++ write_all f.write xs) (rest_more n g i h e)
          ∙ sym (append_assoc t.done (f.write x) (write_all f.write (drop (i + 1) (table n g))));
    };
  }

  pub putting_done : {m : List ℕ} {p i : ℕ} → Putting f g n l m a p i → (i < n → ⊥) → Wrote l m a (write_all f.write (table n g)) p
  putting_done {i} t h =
      wrote_as (sym (t.parts.parts ∙ ap (λ (xs : List A). t.done ++ write_all f.write xs) (rest_none n g i t.left.most h) ∙ append-nil t.done)) t.wrote

-- ---- arrays

-- k places of an array from a place on
unfoldable pub picks : ℕ → ℕ → List ℕ → List ℕ
picks zero j a = []
picks (suc k) j a = get_or a j 0 ∷ picks k (suc j) a

pub picks_taken : (k j : ℕ) (a : List ℕ) → j + k ≤ length a → picks k j a ≡ take k (drop j a)
unfolding picks
picks_taken zero j a h = refl
picks_taken (suc k) j a h =
    ap (λ (xs : List ℕ). get_or a j 0 ∷ xs) (picks_taken k (suc j) a (omega arith)) ∙ ap (take (suc k)) (sym (drop-cons a j 0 (omega arith)))

-- rows of k numbers, which stand in an array one after the other
module _ {A : Type 0} (row : A → List ℕ) (k : ℕ) (a : List ℕ) (g : ℕ → A) where
  rows_taken : (c : ℕ) → ((i : ℕ) → i < c → row (g i) ≡ take k (drop (k * i) a)) → rows row (table c g) ≡ take (k * c) a
  unfolding rows table
  rows_taken zero h = ap (λ (m : ℕ). take m a) (sym (mul-zero k))
  rows_taken (suc c) h =
      ap (rows row) (table_more c g) ∙ rows_append row (table c g) (g c ∷ [])
      ∙ ap₂ (λ (xs ys : List ℕ). xs ++ ys) (rows_taken c (λ i l. h i (omega arith))) (append-nil (row (g c)) ∙ h c (omega arith))
      ∙ sym (take-add (k * c) k a)
      ∙ ap (λ (m : ℕ). take m a) (sym (mul-suc k c))

  pub rows_same : (n c m : ℕ) → length a ≡ n → k * c ≡ m → m ≤ n → ((i : ℕ) → i < c → row (g i) ≡ take k (drop (k * i) a))
      → same_list eqb (pad n 0 (rows row (table c g))) a ≡ zero_past m a
  rows_same n c m e f h r = ap (λ (xs : List ℕ). same_list eqb (pad n 0 xs) a) (rows_taken c r ∙ ap (λ (j : ℕ). take j a) f) ∙ past_same n m a e h

-- ---- a list in the two arrays: an entry's numbers stand in rows of k, its octets in rows of j

module _ {A : Type 0} (f : Run A) (most k j : ℕ) (low small : A → List ℕ) (g : ℕ → A) (numbers octets : List ℕ) where
  abbrev RowsSame : ℕ → Bool
  RowsSame n = same_entries (laid (pad 32 0 (rows low (table n g))) (pad 192 0 (rows small (table n g)))) (laid numbers octets)

  -- the used rows hold the entries by themselves, so the rest must be zero, and the entries valid
  pub list_fine : (n p q : ℕ) → k * n ≡ p → j * n ≡ q → length numbers ≡ 32 → length octets ≡ 192 → (n ≤ most → (p ≤ 32) × (q ≤ 192))
      → ((i : ℕ) → i < most → low (g i) ≡ take k (drop (k * i) numbers)) → ((i : ℕ) → i < most → small (g i) ≡ take j (drop (j * i) octets))
      → RowsSame n && (some_more 0x30 most f).valid (table n g) ≡ not (eqb n 0) && (leb n most && (unused_zero numbers octets p q && all f.valid (table n g)))
  unfolding some_more
  list_fine n p q ep eq ln lo room rn ro = rw (table_length n g) (go (ltb 0 n) (leb n most) refl refl)
    where
      go : (a b : Bool) → ltb 0 n ≡ a → leb n most ≡ b
          → RowsSame n && (a && (b && all f.valid (table n g))) ≡ not (eqb n 0) && (b && (unused_zero numbers octets p q && all f.valid (table n g)))
      go false b x y = and-false (RowsSame n) ∙ rw (eq-eqb n 0 (omega (arith, ltb-false 0 n x)))
      go true false x y = and-false (RowsSame n) ∙ rw (ne_eqb n 0 (λ z. omega (arith, ltb-true 0 n x)))
      go true true x y =
          let h = leb-true n most y in
          ap₂ (λ (s t : Bool). s && t)
          (ap₂ (λ (s t : Bool). s && t) (rows_same low k numbers g 32 n p ln ep (room h).0 (λ i l. rn i (omega (arith, h))))
          (rows_same small j octets g 192 n q lo eq (room h).1 (λ i l. ro i (omega (arith, h))))) refl
          ∙ rw (ne_eqb n 0 (λ z. omega (arith, ltb-true 0 n x)))
