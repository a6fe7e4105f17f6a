-- What the program prints: the machine's text, once the input ends, is `output_of` the input, however the input comes in parts.
use Rattle.prelude.proofs.Prelude.{ℕ, ◌+◌, ◌*◌, ◌≤◌, ◌<◌, min, ◌≡◌, refl, sym, ap, ◌∙◌, List, [], ◌∷◌, ◌++◌, append-nil, append_assoc, Bool, ◌&&◌, cond, arith, mod-eq_of_lt, add-one, length}
use Rattle.prelude.proofs.Prelude.{take, set, length-append, length-set, take_all, take-append-le, take-suc-set, leb, ltb, eqb, lt-ltb, ltb-true, ltb-false, ne_eqb, eq-eqb, eqb-true}
use Rattle.types.specs.Frames.{read_whole, read_of}
use Rattle.lines_rules.specs.{declared.Line.Line, Text.refused_text, Lines.digit_of, Lines.Meant, Lines.octet_then, Lines.pairs, Lines.line_of, Lines.text_for, Lines.answer_to, Lines.before}
use Rattle.lines_rules.specs.{Lines.lines_of, Lines.answers_to, Lines.output_of, Lines.Meant.bad, Lines.Meant.octets, inner.Machine.state, inner.Machine.new_line, inner.Machine.step_line, inner.Machine.step_octets}
use Rattle.lines_rules.specs.{inner.Machine.octet_of, inner.Machine.answer_text, inner.Machine.turn, inner.Machine.turns, inner.Machine.ended}
use Rattle.prelude.proofs.Ways.{by_cases}
use Rattle.lines_rules.proofs.Steps.{fed_none, fed_first, fed_second, fed_full}

-- ---- a line's octets as its characters come, however many

-- no character yet; octets and a first digit; octets; octets and a space; bad
data Stage : Type 0 where
  begun : Stage
  half : List ℕ → ℕ → Stage
  whole : List ℕ → Stage
  parted : List ℕ → Stage
  wrong : Stage

first : List ℕ → ℕ → Stage
first os d = cond (ltb d 16) (half os d) wrong

second : List ℕ → ℕ → ℕ → Stage
second os h d = cond (ltb d 16) (whole (os ++ (h * 16 + d) ∷ [])) wrong

step : Stage → ℕ → Stage
step begun c = first [] (digit_of c)
step (half os h) c = second os h (digit_of c)
step (whole os) c = cond (eqb c 32) (parted os) wrong
step (parted os) c = first os (digit_of c)
step wrong c = wrong

steps : Stage → List ℕ → Stage
steps q [] = q
steps q (c ∷ s) = steps (step q c) s

judged : Stage → Meant
judged begun = octets []
judged (half os h) = bad
judged (whole os) = octets os
judged (parted os) = bad
judged wrong = bad

-- ---- that is what the line means

abbrev joined : List ℕ → Meant → Meant
joined os bad = bad
joined os (octets ps) = octets (os ++ ps)

steps_wrong : (s : List ℕ) → steps wrong s ≡ wrong
unfolding steps step
steps_wrong [] = refl
steps_wrong (c ∷ s) = steps_wrong s

-- two characters, and two digits before what comes
abbrev both : ℕ → ℕ → Bool
both a b = ltb (digit_of a) 16 && ltb (digit_of b) 16

abbrev with_octet : List ℕ → ℕ → ℕ → List ℕ
with_octet os a b = os ++ (digit_of a * 16 + digit_of b) ∷ []

step_both : (os : List ℕ) (a b : ℕ) → step (first os (digit_of a)) b ≡ cond (both a b) (whole (with_octet os a b)) wrong
unfolding step first second
step_both os a b = by_cases (ltb (digit_of a) 16) (λ e. rw e) (λ e. rw e)

joined_both : (os : List ℕ) (a b : ℕ) (m : Meant) → joined os (octet_then a b m) ≡ cond (both a b) (joined (with_octet os a b) m) bad
unfolding octet_then
joined_both os a b bad = by_cases (both a b) (λ e. rw e) (λ e. rw e)
joined_both os a b (octets ps) = by_cases (both a b) (λ e. rw e (ap octets (sym (append_assoc os ((digit_of a * 16 + digit_of b) ∷ []) ps)))) (λ e. rw e)

-- after a space
means_parted : (s os : List ℕ) → judged (steps (parted os) s) ≡ joined os (pairs s)
unfolding steps step judged pairs first
means_parted [] os = refl
means_parted (a ∷ []) os = by_cases (ltb (digit_of a) 16) (λ e. rw e) (λ e. rw e)
means_parted (a ∷ b ∷ []) os =
    rw (step_both os a b, joined_both os a b (octets [])) (by_cases (both a b) (λ e. rw e (ap octets (sym (append-nil (with_octet os a b))))) (λ e. rw e))
means_parted (a ∷ b ∷ c ∷ s) os =
    let ih = means_parted s (with_octet os a b) in
    let w : judged (steps wrong s) ≡ bad = ap judged (steps_wrong s) in
    rw (step_both os a b) (by_cases (eqb c 32)
    (λ e. rw (e, joined_both os a b (pairs s)) (by_cases (both a b) (λ f. rw (f, e) ih) (λ f. rw f w)))
    (λ e. rw e (by_cases (both a b) (λ f. rw (f, e) w) (λ f. rw f w))))

joined_none : (m : Meant) → joined [] m ≡ m
joined_none bad = refl
joined_none (octets ps) = refl

means : (s : List ℕ) → judged (steps begun s) ≡ line_of s
unfolding line_of steps step judged
means [] = refl
means (a ∷ s) = means_parted (a ∷ s) [] ∙ joined_none (pairs (a ∷ s))

-- ---- the program keeps as much of it as it needs

-- the number of the octets up to 255, and the first 254 of them
record Kept (os : List ℕ) (n : ℕ) (o : List ℕ) : Type 0 where
  count : n ≡ min 255 (length os)
  held : take n o ≡ take 254 os

abbrev Keeps : Stage → Line → List ℕ → Type 0
Keeps begun l o = (l.phase ≡ 0) × Kept [] l.count o
Keeps (half os h) l o = (l.phase ≡ 2) × (l.high ≡ h) × (h < 16) × Kept os l.count o
Keeps (whole os) l o = (l.phase ≡ 3) × Kept os l.count o
Keeps (parted os) l o = (l.phase ≡ 1) × Kept os l.count o
Keeps wrong l o = l.phase ≡ 4

kept_none : (o : List ℕ) → Kept [] 0 o
kept_none o = record { count = omega arith; held = refl }

-- one octet more, where there is room for it, and where there is none
kept_more : (os o : List ℕ) (n h d : ℕ) → length o ≡ 254 → h < 16 → d < 16 → n < 254 → Kept os n o
    → Kept (os ++ (h * 16 + d) ∷ []) (n + 1) (set o n (octet_of h d))
kept_more os o n h d e p q r k =
    let x = h * 16 + d in
    let m : length os ≡ n = omega (arith, k.count) in
    let w : length (os ++ x ∷ []) ≡ n + 1 = length-append os (x ∷ []) ∙ omega arith in
    let z : octet_of h d ≡ x = rw (mod-eq_of_lt p, mod-eq_of_lt q) in
    let f : take (n + 1) (set o n (octet_of h d)) ≡ take n o ++ octet_of h d ∷ [] = rw add-one (take-suc-set o n (octet_of h d) (omega arith)) in
    let g : take 254 os ≡ os = take_all 254 os (omega arith) in
    let v : take 254 (os ++ x ∷ []) ≡ os ++ x ∷ [] = take_all 254 (os ++ x ∷ []) (omega arith) in
    record { count = omega arith; held = f ∙ rw (k.held, g, z, v) }

kept_full : (os o : List ℕ) (n x : ℕ) → length o ≡ 254 → 254 ≤ n → Kept os n o → Kept (os ++ x ∷ []) 255 o
kept_full os o n x e r k =
    let w : length (os ++ x ∷ []) ≡ length os + 1 = length-append os (x ∷ []) in
    let f : take 255 o ≡ o = take_all 255 o (omega arith) in
    let g : take n o ≡ o = take_all n o (omega arith) in
    let v : take 254 (os ++ x ∷ []) ≡ take 254 os = take-append-le 254 os (x ∷ []) (omega (arith, k.count)) in
    record { count = omega (arith, k.count); held = f ∙ sym g ∙ k.held ∙ sym v }

module _ (l : Line) (o : List ℕ) (c : ℕ) where
  keeps_first : (os : List ℕ) → l.phase ≤ 1 → Kept os l.count o → Keeps (first os (digit_of c)) (step_line l c) (step_octets l c o)
  unfolding first
  keeps_first os h k = by_cases (ltb (digit_of c) 16)
      (λ e. let f = fed_first l c o (λ x. omega arith) (λ x. omega arith) (λ x. omega arith) (ltb-true (digit_of c) 16 e) in rw (e, ← f.0, ← f.1) (refl, refl, ltb-true (digit_of c) 16 e, k))
      (λ e. rw (e, ← (fed_none l c o (λ x. omega arith) (λ x. omega arith) (ltb-false (digit_of c) 16 e)).0))

  keeps_second : (os : List ℕ) (h : ℕ) → length o ≡ 254 → l.phase ≡ 2 → l.high ≡ h → h < 16 → Kept os l.count o
      → Keeps (second os h (digit_of c)) (step_line l c) (step_octets l c o)
  unfolding second
  keeps_second os h e p q r k = by_cases (ltb (digit_of c) 16)
      (λ x. let d = ltb-true (digit_of c) 16 x in by_cases (ltb l.count 254)
      (λ y. let n = ltb-true l.count 254 y in let f = fed_second l c o p n d in rw (x, ← f.0, ← f.1, q) (refl, kept_more os o l.count h (digit_of c) e r d n k))
      (λ y. let n = ltb-false l.count 254 y in let f = fed_full l c o p n d in rw (x, ← f.0, ← f.1) (refl, kept_full os o l.count (h * 16 + digit_of c) e n k)))
      (λ x. rw (x, ← (fed_none l c o (λ z. omega arith) (λ z. omega arith) (ltb-false (digit_of c) 16 x)).0))

  keeps_whole : (os : List ℕ) → l.phase ≡ 3 → Kept os l.count o → Keeps (cond (eqb c 32) (parted os) wrong) (step_line l c) (step_octets l c o)
  unfolding step_line step_octets
  keeps_whole os p k = by_cases (eqb c 32) (λ e. rw (p, e) (refl, k)) (λ e. rw (p, e))

  keeps_wrong : l.phase ≡ 4 → (step_line l c).phase ≡ 4
  unfolding step_line
  keeps_wrong p = rw (eq-eqb l.phase 4 p) p

  keeps_step : (q : Stage) → length o ≡ 254 → Keeps q l o → Keeps (step q c) (step_line l c) (step_octets l c o)
  unfolding step
  keeps_step begun e k = keeps_first [] (omega (arith, k.0)) k.1
  keeps_step (half os h) e k = keeps_second os h e k.0 k.1 k.2 k.3
  keeps_step (whole os) e k = keeps_whole os k.0 k.1
  keeps_step (parted os) e k = keeps_first os (omega (arith, k.0)) k.1
  keeps_step wrong e k = keeps_wrong k

  held_length : length (step_octets l c o) ≡ length o
  unfolding step_octets
  held_length = by_cases (eqb l.phase 2) (λ x. by_cases (leb 16 (digit_of c)) (λ y. rw (x, y)) (λ y. by_cases (ltb l.count 254)
      (λ z. rw (x, y, z) (length-set o l.count (octet_of l.high (digit_of c)))) (λ z. rw (x, y, z)))) (λ x. rw x)

  -- a line with a character is no longer at its start
  step_opens : (step_line l c).phase ≡ 0 → ⊥
  unfolding step_line
  step_opens = by_cases (eqb l.phase 4) (λ x. rw x (λ z. omega (arith, eqb-true l.phase 4 x))) (λ x. by_cases (eqb l.phase 3)
      (λ y. by_cases (eqb c 32) (λ u. rw (x, y, u) (λ z. omega arith)) (λ u. rw (x, y, u) (λ z. omega arith))) (λ y. by_cases (leb 16 (digit_of c)) (λ u. rw (x, y, u) (λ z. omega arith))
      (λ u. by_cases (eqb l.phase 2) (λ v. by_cases (ltb l.count 254) (λ w. rw (x, y, u, v, w) (λ z. omega arith)) (λ w. rw (x, y, u, v, w) (λ z. omega arith)))
      (λ v. rw (x, y, u, v) (λ z. omega arith)))))

-- ---- so its answer is the line's

reply_long : (os : List ℕ) → 254 < length os → text_for os ≡ refused_text 3
unfolding text_for read_of read_whole
reply_long os h = rw (lt-ltb 254 (length os) h)

answer_good : (l : Line) (os o : List ℕ) → length o ≡ 254 → Kept os l.count o
    → cond (ltb (length o) l.count) (refused_text 3) (text_for (take l.count o)) ≡ text_for os
answer_good l os o e k = by_cases (ltb (length o) l.count)
    (λ f. rw f (sym (reply_long os (omega (arith, k.count, ltb-true (length o) l.count f)))))
    (λ f. rw f (ap text_for (k.held ∙ take_all 254 os (omega (arith, k.count, ltb-false (length o) l.count f)))))

answer_keeps : (q : Stage) (l : Line) (o : List ℕ) → length o ≡ 254 → Keeps q l o → answer_text l o ≡ answer_to (judged q)
unfolding answer_text answer_to judged
answer_keeps begun l o e k = rw k.0 (answer_good l [] o e k.1)
answer_keeps (half os h) l o e k = rw k.0
answer_keeps (whole os) l o e k = rw k.0 (answer_good l os o e k.1)
answer_keeps (parted os) l o e k = rw k.0
answer_keeps wrong l o e k = rw k

-- ---- the lines of an input

-- characters before the first line
abbrev onto : List ℕ → List (List ℕ) → List (List ℕ)
onto [] ls = ls
onto (c ∷ p) [] = (c ∷ p) ∷ []
onto (c ∷ p) (l ∷ ls) = (c ∷ p ++ l) ∷ ls

onto_end : (p : List ℕ) (ls : List (List ℕ)) → onto p ([] ∷ ls) ≡ p ∷ ls
onto_end [] ls = refl
onto_end (c ∷ p) ls = ap (λ (x : List ℕ). x ∷ ls) (append-nil (c ∷ p))

onto_before : (p : List ℕ) (c : ℕ) (ls : List (List ℕ)) → onto (p ++ c ∷ []) ls ≡ onto p (before c ls)
unfolding before
onto_before [] c [] = refl
onto_before [] c (l ∷ ls) = refl
onto_before (d ∷ p) c [] = refl
onto_before (d ∷ p) c (l ∷ ls) = ap (λ (x : List ℕ). x ∷ ls) (append_assoc (d ∷ p) (c ∷ []) l)

steps_snoc : (p : List ℕ) (q : Stage) (c : ℕ) → steps q (p ++ c ∷ []) ≡ step (steps q p) c
unfolding steps
steps_snoc [] q c = refl
steps_snoc (d ∷ p) q c = steps_snoc p (step q d) c

-- the machine's text from any place of an input on, where the characters p of a line have come
said : (s p : List ℕ) (l : Line) (o t : List ℕ) → length o ≡ 254 → Keeps (steps begun p) l o → (l.phase ≡ 0 → length p ≡ 0)
    → ended (turns (state l o t) s) ≡ t ++ answers_to (onto p (lines_of s))
unfolding turns ended lines_of answers_to steps turn
said [] [] l o t e k n = rw k.0 (sym (append-nil t))
said [] (c ∷ p) l o t e k n =
    rw (ne_eqb l.phase 0 (λ x. omega (arith, n x)))
    (ap (λ (x : List ℕ). t ++ x) (answer_keeps (steps begun (c ∷ p)) l o e k ∙ ap answer_to (means (c ∷ p)) ∙ sym (append-nil (answer_to (line_of (c ∷ p))))))
said (c ∷ s) p l o t e k n =
    let ih = said s [] new_line o (t ++ answer_text l o) e (refl, kept_none o) (λ x. refl) in
    let jh = said s (p ++ c ∷ []) (step_line l c) (step_octets l c o) t (held_length l o c ∙ e) (rw steps_snoc (keeps_step l o c (steps begun p) e k)) (λ x. absurd (step_opens l o c x)) in
    by_cases (eqb c 10)
    (λ x. let f : turn (state l o t) c ≡ state new_line o (t ++ answer_text l o) = rw x in
    rw x (ap (λ q. ended (turns q s)) f ∙ ih ∙ append_assoc t (answer_text l o) (answers_to (lines_of s))
    ∙ ap (λ (y : List ℕ). t ++ (y ++ answers_to (lines_of s))) (answer_keeps (steps begun p) l o e k ∙ ap answer_to (means p))
    ∙ ap (λ (y : List (List ℕ)). t ++ answers_to y) (sym (onto_end p (lines_of s)))))
    (λ x. let f : turn (state l o t) c ≡ state (step_line l c) (step_octets l c o) t = rw x in
    rw x (ap (λ q. ended (turns q s)) f ∙ jh ∙ ap (λ (y : List (List ℕ)). t ++ answers_to y) (onto_before p c (lines_of s))))

-- the program's whole text for an input
pub printed : (s o : List ℕ) → length o ≡ 254 → ended (turns (state new_line o []) s) ≡ output_of s
unfolding output_of steps
printed s o e = said s [] new_line o [] e (refl, kept_none o) (λ x. refl)
