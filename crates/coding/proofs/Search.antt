-- The search for an end marker: it moves on, more turns change nothing, so it unfolds into itself; what it finds is a marker inside the end; it goes over
-- every element that has a number, and over every other whose own marker it finds.
use Rattle.prelude.proofs.Prelude.{ℕ, zero, suc, ◌+◌, ◌-◌, ◌≤◌, ◌<◌, ◌≡◌, refl, sym, ap, ap₂, ◌∙◌, List, true, false, true≢false, cond, arith, get_or, ltb-true, leb-true, eqb-true, lt-ltb}
use Rattle.prelude.proofs.Prelude.{le-ltb, le-leb, lt-leb, eq-eqb}
use Rattle.coding.specs.{declared.Extent.Extent, Reader.Ans, Reader.got, Reader.halt, Reader.after, Reader.composite, Reader.numbered_at, Reader.endless, Reader.marker, Reader.turn}
use Rattle.coding.specs.{Reader.searched, Reader.find_end, Reader.Fault.cut, Codec.LengthForm, Codec.short, Codec.one, Codec.two, Codec.Walk, Codec.here, Codec.past, Codec.nest}
use Rattle.coding.proofs.Basic.{Given, it, void, known, choose, weaken, bind, picked, unpicked, followed, after_same, unless, and_left, and_right, and_both}
use Rattle.coding.proofs.Length.{number_given, number_complete, length_forward}

-- ---- the tests

pub marker_is : (s : List ℕ) (at end : ℕ) → marker s at end ≡ true → (at + 2 ≤ end) × (get_or s at 0 ≡ 0) × (get_or s (at + 1) 0 ≡ 0)
unfolding marker
marker_is s at end h = search (and_left, and_right, leb-true, eqb-true)

pub marker_yes : (s : List ℕ) (at end : ℕ) → at + 2 ≤ end → get_or s at 0 ≡ 0 → get_or s (at + 1) 0 ≡ 0 → marker s at end ≡ true
unfolding marker
marker_yes s at end h t u = simp (le-leb, eq-eqb)

-- no marker: not inside, not both octets
pub marker_out : (s : List ℕ) (at end : ℕ) → end < at + 2 → marker s at end ≡ false
unfolding marker
marker_out s at end h = simp lt-leb

pub marker_not : (s : List ℕ) (at end : ℕ) → (get_or s at 0 ≡ 0 → get_or s (at + 1) 0 ≡ 0 → ⊥) → marker s at end ≡ false
marker_not s at end h = unless _ (λ q. let m = marker_is s at end q in h m.1 m.2)

pub endless_is : (s : List ℕ) (tag at end : ℕ) → endless s tag at end ≡ true → (at < end) × (get_or s at 0 ≡ 128) × (composite (get_or s tag 0) ≡ true)
unfolding endless
endless_is s tag at end h = search (and_left, and_right, ltb-true, eqb-true)

pub endless_yes : (s : List ℕ) (tag at end : ℕ) → at < end → get_or s at 0 ≡ 128 → composite (get_or s tag 0) ≡ true → endless s tag at end ≡ true
unfolding endless
endless_yes s tag at end h t u = search (and_both, lt-ltb, eq-eqb)

pub endless_out : (s : List ℕ) (tag at end : ℕ) → end ≤ at → endless s tag at end ≡ false
unfolding endless
endless_out s tag at end h = simp le-ltb

pub endless_octet : (s : List ℕ) (tag at end : ℕ) → (get_or s at 0 ≡ 128 → ⊥) → endless s tag at end ≡ false
endless_octet s tag at end h = unless _ (λ q. h (endless_is s tag at end q).1)

-- nor does a primitive element
pub endless_simple : (s : List ℕ) (tag at end : ℕ) → composite (get_or s tag 0) ≡ false → endless s tag at end ≡ false
endless_simple s tag at end h = unless _ (λ q. true≢false (sym (endless_is s tag at end q).2 ∙ h))

-- length octets that say a number do not begin with 80
pub form_octet : {s : List ℕ} {p k c : ℕ} → LengthForm s p k c → get_or s p 0 ≡ 128 → ⊥
form_octet (short l q r) e = omega (arith, e)
form_octet (one l q r) e = omega (arith, e)
form_octet (two l q r) e = omega (arith, e)

-- where an element with a number ends
pub over_moves : (s : List ℕ) (at end : ℕ) (x : Extent) (n : ℕ) → numbered_at at s (at + 1) end ≡ got x n → (at + 2 ≤ n) × (n ≤ end)
over_moves s at end x n e =
    let f = known (number_given at s (at + 1) end) e in
    (omega (arith, length_forward f.0, f.1), f.3)

-- ---- what is found is the marker that a walk leads to, inside the end

pub walk_forward : {s : List ℕ} {a n : ℕ} → Walk s a n → a ≤ n
walk_forward here = omega arith
walk_forward (past t f le w) = omega (arith, length_forward f, walk_forward w)
walk_forward (nest t l w z z' v) = omega (arith, walk_forward w, walk_forward v)

pub walk_join : {s : List ℕ} {a m n : ℕ} → Walk s a m → Walk s m n → Walk s a n
walk_join here v = v
walk_join (past t f le w) v = past t f le (walk_join w v)
walk_join (nest t l w z z' u) v = nest t l w z z' (walk_join u v)

abbrev pub Ends : List ℕ → ℕ → ℕ → ℕ → ℕ → Type 0
Ends s end at m n = Walk s at m × (m + 2 ≡ n) × (get_or s m 0 ≡ 0) × (get_or s (m + 1) 0 ≡ 0) × (n ≤ end)

turn_walks : (s : List ℕ) (at end : ℕ) (f : ℕ → Ans ℕ) → ((p : ℕ) → Given (Ends s end p) (f p)) → Given (Ends s end at) (turn s at end f)
unfolding turn
turn_walks s at end f rest =
    choose (marker s at end) (λ h. let k = marker_is s at end h in it (here, refl, k.1, k.2, k.0))
    (λ h. choose (endless s at (at + 1) end)
    (λ g. bind (rest (at + 2)) (λ m n u. weaken (rest n) (λ i j v.
    let k = endless_is s at (at + 1) end g in (nest {n = i} k.2 k.1 u.0 u.2 u.3 (rw u.1 v.0), v.1, v.2, v.3, v.4))))
    (λ g. bind (number_given at s (at + 1) end) (λ x n o. weaken (rest n) (λ i j v.
    let two : at + 2 ≤ end = omega (arith, length_forward o.0, o.1, o.3) in
    (past (λ z z'. true≢false (sym (marker_yes s at end two z z') ∙ h)) o.0 o.1 v.0, v.1, v.2, v.3, v.4)))))

walks_at : (k : ℕ) (s : List ℕ) (at end : ℕ) → Given (Ends s end at) (searched k s at end)
unfolding searched
walks_at zero s at end = void
walks_at (suc k) s at end = turn_walks s at end (λ p. searched k s p end) (λ p. walks_at k s p end)

pub finds : (s : List ℕ) (at end : ℕ) → Given (Ends s end at) (find_end s at end)
unfolding find_end
finds s at end = walks_at (end - at) s at end

pub search_walks : (s : List ℕ) (at end m n : ℕ) → find_end s at end ≡ got m n → Walk s at m × (m + 2 ≡ n) × (get_or s m 0 ≡ 0) × (get_or s (m + 1) 0 ≡ 0)
search_walks s at end m n r = let w = known (finds s at end) r in (w.0, w.1, w.2, w.3)

abbrev pub Inside : List ℕ → ℕ → ℕ → Ans ℕ → Type 0
Inside s at end (got stop next) = (at ≤ stop) × (stop + 2 ≡ next) × (next ≤ end) × (marker s stop end ≡ true)
Inside s at end (halt w p) = Unit {0}

pub inside : (s : List ℕ) (at end : ℕ) → Inside s at end (find_end s at end)
inside s at end = go (find_end s at end) (finds s at end)
  where
    go : (r : Ans ℕ) → Given (Ends s end at) r → Inside s at end r
    go (got m n) (it w) = (walk_forward w.0, w.1, w.4, marker_yes s m end (omega (arith, w.1, w.4)) w.2 w.3)
    go (halt w p) void = tt

-- ---- more turns change nothing, so the search unfolds into itself

-- past the end it runs out
pub turn_out : (s : List ℕ) (at end : ℕ) (f : ℕ → Ans ℕ) → end ≤ at → turn s at end f ≡ halt cut at
unfolding turn numbered_at after
turn_out s at end f h = simp (marker_out s at end (omega arith), endless_out s at (at + 1) end (omega arith), le-leb end (at + 1) (omega arith))

-- only what is asked behind the place matters
turn_same : (k : ℕ) (s : List ℕ) (at end : ℕ) (g : ℕ → Ans ℕ) → ((p : ℕ) → at + 2 ≤ p → searched k s p end ≡ g p)
    → turn s at end (λ p. searched k s p end) ≡ turn s at end g
unfolding turn
turn_same k s at end g same =
    let a : after (searched k s (at + 2) end) (λ stop next. searched k s next end) ≡ after (g (at + 2)) (λ stop next. g next) =
    after_same _ (λ m n e. let w = known (walks_at k s (at + 2) end) e in same n (omega (arith, walk_forward w.0, w.1)))
    ∙ ap (λ y. after y (λ stop next. g next)) (same (at + 2) (omega arith)) in
    let b : after (numbered_at at s (at + 1) end) (λ x next. searched k s next end) ≡ after (numbered_at at s (at + 1) end) (λ x next. g next) =
    after_same _ (λ x n e. same n (over_moves s at end x n e).0) in
    ap₂ (λ y z. cond (marker s at end) (got at (at + 2)) (cond (endless s at (at + 1) end) y z)) a b

more : (j k : ℕ) (s : List ℕ) (at end : ℕ) → end - at ≤ j → end - at ≤ k → searched j s at end ≡ searched k s at end
unfolding searched
more zero zero s at end h l = refl
more zero (suc k) s at end h l = sym (turn_out s at end (λ p. searched k s p end) (omega arith))
more (suc j) zero s at end h l = turn_out s at end (λ p. searched j s p end) (omega arith)
more (suc j) (suc k) s at end h l = turn_same j s at end (λ p. searched k s p end) (λ p m. more j k s p end (omega arith) (omega arith))

pub unfolds : (s : List ℕ) (at end : ℕ) → find_end s at end ≡ turn s at end (λ p. find_end s p end)
unfolding find_end searched
unfolds s at end =
    let k : ℕ = end - at in
    more k (suc k) s at end (omega arith) (omega arith) ∙ turn_same k s at end (λ p. find_end s p end) (λ p m. more k (end - p) s p end (omega arith) (omega arith))

-- ---- what stands at a place: the marker, an element with a number, one without

pub finds_here : (s : List ℕ) (m e : ℕ) → m + 2 ≤ e → get_or s m 0 ≡ 0 → get_or s (m + 1) 0 ≡ 0 → find_end s m e ≡ got m (m + 2)
unfolding turn
finds_here s m e h t u = unfolds s m e ∙ picked _ _ (marker_yes s m e h t u)

pub goes_over : (s : List ℕ) (a c n e : ℕ) → n ≤ e → c ≤ n → marker s a e ≡ false → LengthForm s (a + 1) (n - c) c → find_end s a e ≡ find_end s n e
unfolding turn
goes_over s a c n e h l t f =
    let sum : c + (n - c) ≡ n = omega arith in
    unfolds s a e ∙ unpicked _ _ t ∙ unpicked _ _ (endless_octet s a (a + 1) e (form_octet f))
    ∙ followed _ (number_complete a s (a + 1) e (n - c) c (omega arith) f) ∙ ap (λ (k : ℕ). find_end s k e) sum

pub goes_through : (s : List ℕ) (a m e : ℕ) → a + 1 < e → composite (get_or s a 0) ≡ true → get_or s (a + 1) 0 ≡ 128 → find_end s (a + 2) e ≡ got m (m + 2)
    → find_end s a e ≡ find_end s (m + 2) e
unfolding turn
goes_through s a m e h t u r =
    let no : get_or s a 0 ≡ 0 → get_or s (a + 1) 0 ≡ 0 → ⊥ = omega arith in
    unfolds s a e ∙ unpicked _ _ (marker_not s a e no) ∙ picked _ _ (endless_yes s a (a + 1) e h u t) ∙ followed _ r

-- ---- and a walk leads the search on

pub walk_searched : {s : List ℕ} {a n : ℕ} (e : ℕ) → n ≤ e → Walk s a n → find_end s a e ≡ find_end s n e
walk_searched e h here = refl
walk_searched {s} {a} {n} e h (past {c = c} {b = b} t f le w) =
    goes_over s a c b e (omega (arith, walk_forward w)) le (marker_not s a e t) f ∙ walk_searched e h w
walk_searched {s} {a} {n} e h (nest {m = m} t l w z z' v) =
    let mn = walk_forward v in
    let am = walk_forward w in
    goes_through s a m e (omega (arith, am, mn)) t l (walk_searched e (omega (arith, mn)) w ∙ finds_here s m e (omega (arith, mn)) z z') ∙ walk_searched e h v

pub walk_finds : {s : List ℕ} {a m : ℕ} (e : ℕ) → m + 2 ≤ e → Walk s a m → get_or s m 0 ≡ 0 → get_or s (m + 1) 0 ≡ 0 → find_end s a e ≡ got m (m + 2)
walk_finds {s} {a} {m} e h w z z' = walk_searched e (omega arith) w ∙ finds_here s m e h z z'
