-- The bound of a search: a marker that is found under one is found under every larger one, and under a smaller one the search runs out.
use Rattle.prelude.proofs.Prelude.{ℕ, ◌+◌, ◌-◌, ◌≤◌, ◌<◌, ◌≡◌, refl, sym, ap, ◌∙◌, List, arith, get_or, ltb, leb, leb-true, leb-false, le-leb, lt-leb}
use Rattle.coding.specs.{Reader.Ans, Reader.Fault, Reader.got, Reader.halt, Reader.after, Reader.extent, Reader.numbered_at, Reader.turn, Reader.find_end, Reader.Fault.cut}
use Rattle.coding.specs.{Codec.LengthForm, Codec.Walk, Codec.here, Codec.past, Codec.nest}
use Rattle.coding.proofs.{Basic.known, Basic.picked, Basic.unpicked, Basic.both, Length.numbered, Search.marker_out, Search.marker_not, Search.endless_yes}
use Rattle.prelude.proofs.Ways.{by_cases}
use Rattle.coding.proofs.{Search.endless_out, Search.endless_octet, Search.form_octet, Search.unfolds, Search.goes_over, Search.goes_through, Search.walk_finds, Search.finds}
use Rattle.coding.proofs.{Moved.search_stable}

stopped : {A B : Type 0} {r : Ans A} (f : A → ℕ → Ans B) {w : Fault} {p : ℕ} → r ≡ halt w p → after r f ≡ halt w p
unfolding after
stopped f e = ap (λ y. after y f) e

-- length octets, or the contents that they say, past the end
number_cut : (tag : ℕ) (s : List ℕ) (p e k c : ℕ) → e < c + k → LengthForm s p k c → numbered_at tag s p e ≡ halt cut tag
unfolding numbered_at extent
number_cut tag s p e k c h f =
    both (leb e p) (λ i. refl) (λ i. sym (unpicked _ _ i) ∙ numbered tag s p e k c (leb-false e p i) f ∙ both (ltb e c) (λ j. refl) (λ j. simp lt-leb))

-- no room for tag and length octet
no_room : (s : List ℕ) (a e : ℕ) → e ≤ a + 1 → find_end s a e ≡ halt cut a
unfolding turn numbered_at
no_room s a e h =
    unfolds s a e ∙ unpicked _ _ (marker_out s a e (omega arith)) ∙ unpicked _ _ (endless_out s a (a + 1) e h) ∙ stopped _ (picked _ _ (le-leb e (a + 1) h))

-- a search that cannot reach the marker to which a walk leads
runs_out : {s : List ℕ} {a m : ℕ} (e : ℕ) → e < m + 2 → Walk s a m → (p : ℕ) × (find_end s a e ≡ halt cut p)
unfolding turn
runs_out {s} {a} e h here = (a, no_room s a e (omega arith))
runs_out {s} {a} {m} e h (past {c = c} {b = b} other f le w) =
    by_cases (leb b e) (λ q. let r = runs_out e h w in (r.0, goes_over s a c b e (leb-true b e q) le (marker_not s a e other) f ∙ r.1))
    (λ q. (
      a,
      unfolds s a e ∙ unpicked _ _ (marker_not s a e other) ∙ unpicked _ _ (endless_octet s a (a + 1) e (form_octet f))
          ∙ stopped _ (number_cut a s (a + 1) e (b - c) c (omega (arith, leb-false b e q)) f),
    ))
runs_out {s} {a} {m} e h (nest {m = k} tag l w z z' v) =
    let other : get_or s a 0 ≡ 0 → get_or s (a + 1) 0 ≡ 0 → ⊥ = omega arith in
    by_cases (leb e (a + 1)) (λ u. (a, no_room s a e (leb-true e (a + 1) u))) (λ u. by_cases (leb (k + 2) e)
    (λ q. let r = runs_out e h v in (r.0, goes_through s a k e (leb-false e (a + 1) u) tag l (walk_finds e (leb-true (k + 2) e q) w z z') ∙ r.1))
    (λ q. let r = runs_out e (leb-false (k + 2) e q) w in
    (r.0, unfolds s a e ∙ unpicked _ _ (marker_not s a e other) ∙ picked _ _ (endless_yes s a (a + 1) e (leb-false e (a + 1) u) l tag) ∙ stopped _ r.1)))

-- A marker found under one bound is found under every larger one,
pub found_wider : (s : List ℕ) (at end wider m n : ℕ) → end ≤ wider → find_end s at end ≡ got m n → find_end s at wider ≡ got m n
found_wider s at end wider m n h r = search_stable s at end wider m n (omega (arith, (known (finds s at end) r).4)) r

-- and under none that is smaller than the place after it: there the search runs out, whatever it meets on its way
pub found_no_narrower : (s : List ℕ) (at end narrow m n : ℕ) → narrow < n → find_end s at end ≡ got m n → (p : ℕ) × (find_end s at narrow ≡ halt cut p)
found_no_narrower s at end narrow m n h r = let w = known (finds s at end) r in runs_out narrow (omega (arith, w.1)) w.0
