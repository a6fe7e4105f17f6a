-- A list of events that is laid into slices is read off them again.
use Rattle.prelude.proofs.Prelude.{◌≡◌, refl, sym, ap, ◌∙◌, ℕ, ◌+◌, ◌-◌, ◌*◌, ◌/◌, ◌%◌, ◌≤◌, arith, add-zero, true, List, [], ◌∷◌, ◌++◌}
use Rattle.prelude.proofs.Prelude.{append_assoc, length, length-append, get_or, le-leb, eqb-false}
use Rattle.prelude.proofs.Prelude.{get_or-append-add, take-append_seam, drop-append_seam}
use Rattle.requests.specs.declared.Services.{Services}
use Rattle.phases.{specs.Phases.Given, proofs.Choice.by_number}
use Rattle.events.specs.{Events.{set_of, row_at, count_at, events_from, events_of, rows_fit, adds_up}, Laid.{bits_of, laid_row, rows_of, octets_of}}

-- ---- one list after another

pub rows_append : (l m : List Given) → rows_of (l ++ m) ≡ rows_of l ++ rows_of m
unfolding rows_of
rows_append [] m = refl
rows_append (g ∷ l) m = rw (rows_append l m) (sym (append_assoc (laid_row g.event (length g.octets)) (rows_of l) (rows_of m)))

pub octets_append : (l m : List Given) → octets_of (l ++ m) ≡ octets_of l ++ octets_of m
unfolding octets_of
octets_append [] m = refl
octets_append (g ∷ l) m = rw (octets_append l m) (sym (append_assoc g.octets (octets_of l) (octets_of m)))

-- ---- what is read off

-- an event whose kind is an octet and whose marks are 0 or 1, as those of a trace are
pub record Fine (g : Given) : Type 0 where
  pub kind : g.event.kind ≤ 255
  pub s : g.event.asked.s ≤ 1
  pub d : g.event.asked.d ≤ 1
  pub e : g.event.asked.e ≤ 1

abbrev pub AllFine : List Given → Type 0
AllFine [] = Unit {0}
AllFine (g ∷ l) = Fine g × AllFine l

by_mark : {P : Type 0} (n : ℕ) → n ≤ 1 → (n ≡ 0 → P) → (n ≡ 1 → P) → P
by_mark n h p q = by_number n 0 p (λ m. q (omega (arith, eqb-false n 0 m)))

bits_back : (t : Services) → t.s ≤ 1 → t.d ≤ 1 → t.e ≤ 1 → set_of (bits_of t) ≡ t
bits_back t s d e =
    by_mark t.s s
    (λ a. by_mark t.d d
    (λ b. by_mark t.e e (λ c. rw (a, b, c) refl) (λ c. rw (a, b, c) refl))
    (λ b. by_mark t.e e (λ c. rw (a, b, c) refl) (λ c. rw (a, b, c) refl)))
    (λ a. by_mark t.d d
    (λ b. by_mark t.e e (λ c. rw (a, b, c) refl) (λ c. rw (a, b, c) refl))
    (λ b. by_mark t.e e (λ c. rw (a, b, c) refl) (λ c. rw (a, b, c) refl)))

module _ (pre xs : List ℕ) (i : ℕ) (at : length pre ≡ i * 6) where
  get : (j : ℕ) → get_or (pre ++ xs) (i * 6 + j) 0 ≡ get_or xs j 0
  get j = rw (← at) (get_or-append-add pre xs j 0)

  get_0 : get_or (pre ++ xs) (i * 6) 0 ≡ get_or xs 0 0
  get_0 = ap (λ (n : ℕ). get_or (pre ++ xs) n 0) (sym (add-zero (i * 6))) ∙ get 0

module _ (pre : List ℕ) (g : Given) (rest : List ℕ) (i : ℕ) (at : length pre ≡ i * 6) (fine : Fine g) where
  abbrev rows : List ℕ
  rows = pre ++ (laid_row g.event (length g.octets) ++ rest)

  row_back : row_at rows i ≡ g.event
  row_back =
      rw (
        get_0 pre (laid_row g.event (length g.octets) ++ rest) i at,
        get pre (laid_row g.event (length g.octets) ++ rest) i at 1,
        get pre (laid_row g.event (length g.octets) ++ rest) i at 2,
        get pre (laid_row g.event (length g.octets) ++ rest) i at 3,
        get pre (laid_row g.event (length g.octets) ++ rest) i at 4,
        le-leb g.event.kind 255 fine.kind,
        bits_back g.event.asked fine.s fine.d fine.e,
      ) refl

  count_back : count_at rows i ≡ length g.octets
  count_back = get pre (laid_row g.event (length g.octets) ++ rest) i at 5

back : (l : List Given) (pre pre' : List ℕ) (i : ℕ) → length pre ≡ i * 6 → AllFine l → events_from (pre ++ rows_of l) (pre' ++ octets_of l) i (length l) (length pre') ≡ l
unfolding events_from rows_of octets_of
back [] pre pre' i at f = refl
back (g ∷ l) pre pre' i at f =
    let row = laid_row g.event (length g.octets) in
    let here : length (pre ++ row) ≡ (i + 1) * 6 = omega (arith, length-append pre row) in
    let there : length (pre' ++ g.octets) ≡ length pre' + length g.octets = length-append pre' g.octets in
    let rest = back l (pre ++ row) (pre' ++ g.octets) (i + 1) here f.1 in
    rw (row_back pre g (rows_of l) i at f.0, count_back pre g (rows_of l) i at f.0, drop-append_seam pre' (g.octets ++ octets_of l), take-append_seam g.octets (octets_of l))
    (ap (λ (k : List Given). g ∷ k) (rw (append_assoc pre row (rows_of l), append_assoc pre' g.octets (octets_of l), there) at rest))

pub rows_count : (l : List Given) → length (rows_of l) ≡ length l * 6
unfolding rows_of
rows_count [] = refl
rows_count (g ∷ l) = omega (arith, rows_count l, length-append (laid_row g.event (length g.octets)) (rows_of l))

pub reads_back : (l : List Given) → AllFine l → events_of (rows_of l) (octets_of l) ≡ l
unfolding events_of
reads_back l f =
    let n : length (rows_of l) / 6 ≡ length l = omega (arith, rows_count l) in
    rw n (back l [] [] 0 refl f)

fit_back : (l : List Given) (pre : List ℕ) (i : ℕ) → length pre ≡ i * 6 → AllFine l → rows_fit (pre ++ rows_of l) i (length l) (length (octets_of l)) ≡ true
unfolding rows_fit rows_of octets_of
fit_back [] pre i at f = refl
fit_back (g ∷ l) pre i at f =
    let row = laid_row g.event (length g.octets) in
    let here : length (pre ++ row) ≡ (i + 1) * 6 = omega (arith, length-append pre row) in
    let size = length-append g.octets (octets_of l) in
    let less : length g.octets + length (octets_of l) - length g.octets ≡ length (octets_of l) = omega arith in
    let rest = fit_back l (pre ++ row) (i + 1) here f.1 in
    rw (count_back pre g (rows_of l) i at f.0, size, le-leb (length g.octets) (length g.octets + length (octets_of l)) (omega arith), less) (rw (append_assoc pre row (rows_of l)) at rest)

pub adds_back : (l : List Given) → AllFine l → adds_up (rows_of l) (length (octets_of l)) ≡ true
unfolding adds_up
adds_back l f =
    let n : length (rows_of l) / 6 ≡ length l = omega (arith, rows_count l) in
    let m : length (rows_of l) % 6 ≡ 0 = omega (arith, rows_count l) in
    rw (n, m) (fit_back l [] 0 refl f)
