-- What is taken from a reader and what goes to a writer, part by part, and what the program prints in all.
use Rattle.prelude.proofs.Prelude.{ℕ, ◌+◌, ◌-◌, ◌≤◌, ◌≡◌, refl, sym, ap, ◌∙◌, subst, List, [], ◌∷◌, ◌++◌, append-nil, append_assoc, arith, length, take, drop, sets-eq, take-append_seam, take-append-drop, take-add, take-take, sub-zero, eqb, ne_eqb, inl, inr}
use Rattle.prelude.proofs.Ways.{by_cases}
use Rattle.std.specs.Prelude.{Option, None, Some, IfSome}
use Rattle.std.specs.Io.KnownBytes.{Appends, Consumes, IsAtEnd, Keeps}
use Rattle.std.proofs.KnownBytes.{Appends-nil, Appends-trans, Appends-kept, Consumes-nil, Consumes-trans, Consumes-whole}
use Rattle.coding.specs.{Reader.part, inner.Written.Wrote}
use Rattle.lines_rules.specs.{declared.Line.Line, Lines.output_of, inner.Machine.State, inner.Machine.state, inner.Machine.new_line, inner.Machine.turn, inner.Machine.turns, inner.Machine.ended}
use Rattle.lines_rules.proofs.{Steps.turns_none, Steps.turns_both, Steps.turns_all, Steps.turns_append, Meaning.printed}
use Rattle.lines.specs.{declared.Done.Done, inner.Ran.Ran, inner.Ran.Begun, inner.Ran.Says, inner.Ran.Told, inner.Ran.Passed, inner.Ran.Closed}

-- ---- what was printed before stays in front

abbrev after : List ℕ → State → State
after t q = state q.line q.held (t ++ q.text)

turn_after : (t : List ℕ) (q : State) (c : ℕ) → turn (after t q) c ≡ after t (turn q c)
unfolding turn
turn_after t q c = by_cases (eqb c 10) (λ e. rw (e, append_assoc)) (λ e. rw e)

turns_after : (s t : List ℕ) (q : State) → turns (after t q) s ≡ after t (turns q s)
unfolding turns
turns_after [] t q = refl
turns_after (c ∷ s) t q = ap (λ r. turns r s) (turn_after t q c) ∙ turns_after s t (turn q c)

ended_after : (t : List ℕ) (q : State) → ended (after t q) ≡ t ++ ended q
unfolding ended
ended_after t q = by_cases (eqb q.line.phase 0) (λ e. rw e) (λ e. rw e (ap (λ r. r.text) (turn_after t q 10)))

-- a state's text, and what comes after it
after_none : (l : Line) (o t : List ℕ) → state l o t ≡ after t (state l o [])
after_none l o t = ap (state l o) (sym (append-nil t))

text_grows : (s : List ℕ) (l : Line) (o t : List ℕ) → (turns (state l o t) s).text ≡ t ++ (turns (state l o []) s).text
text_grows s l o t = ap (λ q. (turns q s).text) (after_none l o t) ∙ ap (λ q. q.text) (turns_after s t (state l o []))

ended_grows : (s : List ℕ) (l : Line) (o t : List ℕ) → ended (turns (state l o t) s) ≡ t ++ ended (turns (state l o []) s)
ended_grows s l o t = ap (λ q. ended (turns q s)) (after_none l o t) ∙ ap ended (turns_after s t (state l o [])) ∙ ended_after t (turns (state l o []) s)

-- the end of an input puts nothing before it
ended_starts : (s r : List ℕ) (q : State) → ended (turns q (s ++ r)) ≡ (turns q s).text ++ ended (turns (state (turns q s).line (turns q s).held []) r)
ended_starts s r q = ap ended (turns_append s r q) ∙ ended_grows r (turns q s).line (turns q s).held (turns q s).text

-- ---- the start of a text

pub begun_none : (held : Option (List ℕ)) (text : List ℕ) → Begun held held text
begun_none held text = record { said = []; unsaid = text; parts = refl; put = Appends-nil held }

pub begun_whole : {held holds : Option (List ℕ)} {text : List ℕ} → Appends held holds text → Begun held holds text
begun_whole {text} p = record { said = text; unsaid = []; parts = sym (append-nil text); put = p }

-- nothing was written before
pub begun_kept : (held holds : Option (List ℕ)) {then : Option (List ℕ)} {text : List ℕ} → Keeps held holds → Begun holds then text → Begun held then text
begun_kept held holds {then} k b = record {
  said = b.said;
  unsaid = b.unsaid;
  parts = b.parts;
  put = Appends-trans held holds then [] b.said (Appends-kept held held holds [] (Appends-nil held) k) b.put;
}

pub says_kept : (held holds : Option (List ℕ)) {then : Option (List ℕ)} → Keeps held holds → Says holds then → Says held then
says_kept held holds k (inl b) = inl (begun_kept held holds k b)
says_kept held holds k (inr b) = inr (begun_kept held holds k b)

-- after what is written, and before what is not
begun_on : (held holds : Option (List ℕ)) (t v : List ℕ) {then : Option (List ℕ)} {u text : List ℕ} → text ≡ (t ++ u) ++ v → Appends held holds t → Begun holds then u → Begun held then text
begun_on held holds t v {then} e p b = record {
  said = t ++ b.said;
  unsaid = b.unsaid ++ v;
  parts = e ∙ rw b.parts (simp append_assoc);
  put = Appends-trans held holds then t b.said p b.put;
}

-- ---- a buffer's first octets

-- some more of them
pub written_more : (held holds then : Option (List ℕ)) (xs : List ℕ) (at used n : ℕ) → at ≤ used → n ≤ used - at → Appends held holds (take at xs)
    → Appends holds then (take n (take (used - at) (drop at xs))) → Appends held then (take (at + n) xs)
written_more held holds then xs at used n h l p q =
    rw (take-add at n xs) (Appends-trans held holds then (take at xs) (take n (drop at xs)) p (rw (take-take n (used - at) (drop at xs) l) at q))

-- no more of them
written_start : {held holds : Option (List ℕ)} (xs : List ℕ) (at used : ℕ) → at ≤ used → Appends held holds (take at xs) → Begun held holds (take used xs)
written_start xs at used h p =
    let e : used ≡ at + (used - at) = omega arith in
    record { said = take at xs; unsaid = take (used - at) (drop at xs); parts = ap (λ k. take k xs) e ∙ take-add at (used - at) xs; put = p }

pub written_none : (held holds then : Option (List ℕ)) (xs ys : List ℕ) (at used n : ℕ) → at ≤ used → n ≡ 0 → Appends held holds (take at xs) → Appends holds then (take n ys)
    → Begun held then (take used xs)
written_none held holds then xs ys at used n h e p q = written_start xs at used h (rw append-nil at (Appends-trans held holds then (take at xs) [] p (rw e at q)))

pub written_kept : (held holds then : Option (List ℕ)) (xs : List ℕ) (at used : ℕ) → at ≤ used → Appends held holds (take at xs) → Keeps holds then
    → Begun held then (take used xs)
written_kept held holds then xs at used h p k = written_start xs at used h (Appends-kept held holds then (take at xs) p k)

-- ---- a part of the input

-- what was put at a buffer's start
put_text : {before after text : List ℕ} {n : ℕ} → Wrote before after 0 text n → n ≤ length before → take n after ≡ text
put_text {before} {after} {text} {n} w h =
    let e = w.stored ∙ sets-eq text before 0 (omega (arith, w.place)) in
    let p : n ≡ length text = omega (arith, w.place) in
    rw (p, e) (take-append_seam text _)

-- none of it yet
pub told_none : (s : List ℕ) (l : Line) (o : List ℕ) (held : Option (List ℕ)) → Told (part s 0 0) l o l o held held
told_none s l o held = record { text = []; ran = λ t. turns_none s 0 (state l o t) ∙ rw append-nil; put = Appends-nil held }

-- one run more, whose answers are written
pub told_more : {s : List ℕ} {at : ℕ} {l m : Line} {o p q before after : List ℕ} {d : Done} {held holds then : Option (List ℕ)}
    → Told (part s 0 at) l o m p held holds → Ran s at m p d q before after → 65536 ≤ length before → Appends holds then (take d.used after)
    → Told (part s 0 d.at) l o d.line q held then
told_more {s} {at} {held} {holds} {then} x r h w =
    let e = put_text r.put (omega (arith, r.room)) in record {
      text = x.text ++ r.text;
      ran = λ t. turns_both s 0 at _ _ (omega arith) (omega (arith, r.onward)) (x.ran t) (r.ran (t ++ x.text)) ∙ rw append_assoc;
      put = Appends-trans held holds then x.text r.text x.put (rw e at w);
    }

-- all of it
pub told_all : {s : List ℕ} {at : ℕ} {l m : Line} {o p : List ℕ} {held holds : Option (List ℕ)} → length s ≤ at → Told (part s 0 at) l o m p held holds → Told s l o m p held holds
told_all {s} {at} h x = record { text = x.text; ran = λ t. turns_all s at _ h (x.ran t); put = x.put }

-- all of it, and what is written where a run's answers are not
pub told_begun : {s : List ℕ} {l m : Line} {o p : List ℕ} {held holds : Option (List ℕ)} → Told s l o m p held holds → Begun held holds (turns (state l o []) s).text
told_begun {held} {holds} x = begun_whole (subst (Appends held holds) (sym (ap (λ q. q.text) (x.ran []))) x.put)

pub run_begun : {s : List ℕ} {at : ℕ} {l m : Line} {o p q before after : List ℕ} {d : Done} {held holds then : Option (List ℕ)}
    → Told (part s 0 at) l o m p held holds → Ran s at m p d q before after → 65536 ≤ length before → Begun holds then (take d.used after)
    → Begun held then (turns (state l o []) s).text
unfolding part
run_begun {s} {at} {l} {o} {q} {d} {held} {holds} {then} x r h b =
    let e = put_text r.put (omega (arith, r.room)) in
    let f = turns_both s 0 at _ _ (omega arith) (omega (arith, r.onward)) (x.ran []) (r.ran x.text) in
    let rest = drop d.at s in
    let w : turns (state l o []) s ≡ turns (state d.line q (x.text ++ r.text)) rest =
    ap (turns (state l o [])) (sym (take-append-drop d.at s)) ∙ turns_append (take d.at s) rest (state l o []) ∙ ap (λ y. turns y rest) (rw sub-zero at f) in
    begun_on held holds x.text (turns (state d.line q []) rest).text (ap (λ y. y.text) w ∙ text_grows rest d.line q (x.text ++ r.text)) x.put (rw e at b)

-- ---- the end of the input

-- a line with no character
pub close_none : (l : Line) (o : List ℕ) (held : Option (List ℕ)) → l.phase ≡ 0 → Appends held held (ended (state l o []))
unfolding ended
close_none l o held e = rw e (Appends-nil held)

-- another line is ended
pub close_told : {l m : Line} {o p : List ℕ} {held holds : Option (List ℕ)} → (l.phase ≡ 0 → ⊥) → Told (10 ∷ []) l o m p held holds → Appends held holds (ended (state l o []))
unfolding ended turns
close_told {l} {held} {holds} h x = rw (ne_eqb l.phase 0 h) (subst (Appends held holds) (sym (ap (λ q. q.text) (x.ran []))) x.put)

-- and where its answer is not all written
pub close_begun : (l : Line) (o : List ℕ) {held holds : Option (List ℕ)} → (l.phase ≡ 0 → ⊥) → Begun held holds (turns (state l o []) (10 ∷ [])).text
    → Begun held holds (ended (state l o []))
unfolding ended turns
close_begun l o h b = rw (ne_eqb l.phase 0 h) b

-- ---- the whole input

pub passed_none : (l : Line) (o : List ℕ) (had held : Option (List ℕ)) → Passed had had held held l o l o
unfolding turns
passed_none l o had held = record { taken = []; read = Consumes-nil had; told = record { text = []; ran = λ t. rw append-nil; put = Appends-nil held } }

pub passed_more : {a b c d e f : Option (List ℕ)} {l m n : Line} {o p q : List ℕ} → Passed a b d e l o m p → Passed b c e f m p n q → Passed a c d f l o n q
passed_more {a} {b} {c} {d} {e} {f} {l} {o} x y = record {
  taken = x.taken ++ y.taken;
  read = Consumes-trans a b c _ _ x.read y.read;
  told = record {
    text = x.told.text ++ y.told.text;
    ran = λ t. turns_append x.taken y.taken (state l o t) ∙ ap (λ r. turns r y.taken) (x.told.ran t) ∙ y.told.ran (t ++ x.told.text) ∙ rw append_assoc;
    put = Appends-trans d e f _ _ x.told.put y.told.put;
  };
}

ended_all : (l : Line) (o t : List ℕ) → ended (state l o t) ≡ t ++ ended (state l o [])
ended_all l o t = ap ended (after_none l o t) ∙ ended_after t (state l o [])

-- the whole output
pub passed_all : {a b c d e f : Option (List ℕ)} {m : Line} {o p : List ℕ} → length o ≡ 254 → Passed a b d e new_line o m p → Closed b c e f m p
    → IfSome a (λ s. Appends d f (output_of s))
passed_all {a} {b} {c} {d} {e} {f} {m} {o} {p} h x y =
    let said : x.told.text ++ ended (state m p []) ≡ output_of x.taken =
    sym (ended_all m p x.told.text) ∙ sym (ap ended (x.told.ran [])) ∙ printed x.taken o h in
    Consumes-whole a c (x.taken ++ []) (λ s. Appends d f (output_of s)) (Consumes-trans a b c x.taken [] x.read y.read) y.done
    (rw append-nil (subst (Appends d f) said (Appends-trans d e f _ _ x.told.put y.put)))

-- ---- the start of the output

-- nothing is written
pub none_begun : (had held : Option (List ℕ)) (f : List ℕ → List ℕ) → IfSome had (λ s. Begun held held (f s))
none_begun None held f = tt
none_begun (Some s) held f = begun_none held (f s)

-- a part of what a reader had is answered
pub part_begun : (had has : Option (List ℕ)) {held holds : Option (List ℕ)} (s : List ℕ) (l : Line) (o : List ℕ) → Consumes had has s → Begun held holds (turns (state l o []) s).text
    → IfSome had (λ r. Begun held holds (ended (turns (state l o []) r)))
part_begun None has s l o c b = tt
part_begun (Some x) None s l o c b = absurd c
part_begun (Some x) (Some y) {held} {holds} s l o c b =
    begun_on held held [] _ (ap (λ r. ended (turns (state l o []) r)) c ∙ ended_starts s y (state l o [])) (Appends-nil held) b

-- a reader had no more
pub end_begun : (had has : Option (List ℕ)) {held holds : Option (List ℕ)} (l : Line) (o ys : List ℕ) (n : ℕ) → n ≡ 0 → Consumes had has (take n ys) → IsAtEnd has → Begun held holds (ended (state l o []))
    → IfSome had (λ r. Begun held holds (ended (turns (state l o []) r)))
unfolding turns
end_begun had has {held} {holds} l o ys n e c d b = Consumes-whole had has [] (λ r. Begun held holds (ended (turns (state l o []) r))) (rw e at c) d b

-- what was passed, and the start of what comes after it
pub passed_begun : (a b d e f : Option (List ℕ)) {m : Line} {o p : List ℕ} → length o ≡ 254 → Passed a b d e new_line o m p
    → IfSome b (λ s. Begun e f (ended (turns (state m p []) s))) → IfSome a (λ s. Begun d f (output_of s))
passed_begun None b d e f h x y = tt
passed_begun (Some r) None d e f h x y = absurd x.read
passed_begun (Some r) (Some s) d e f {m} {o} {p} h x y =
    let same : output_of r ≡ (x.told.text ++ ended (turns (state m p []) s)) ++ [] =
    sym (printed r o h) ∙ ap (λ k. ended (turns (state new_line o []) k)) x.read ∙ ap ended (turns_append x.taken s (state new_line o []) ∙ ap (λ q. turns q s) (x.told.ran []))
    ∙ ended_grows s m p x.told.text ∙ sym (append-nil _) in
    begun_on d e x.told.text [] same x.told.put y
