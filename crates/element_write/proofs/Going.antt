-- The loop over components that are laid end to end: what is left of them decides for all.
use Rattle.prelude.proofs.Prelude.{ℕ, suc, ◌+◌, ◌-◌, ◌≤◌, ◌<◌, arith, ◌≡◌, refl, sym, ap, ◌∙◌, true, false, List, ◌∷◌, length, get_or, eq-eqb}
use Rattle.coding.{specs.declared.Extent.Extent, specs.Reader.Ans, specs.Reader.after, specs.Reader.length_at, specs.Reader.opened, specs.Reader.Ans.got, specs.Reader.Ans.halt, specs.inner.Shown.shown}
use Rattle.coding.{proofs.Header.opened_there, proofs.Reading.halt_of}
use Rattle.element.{specs.Element.tiled, proofs.Tiling.turn}
use Rattle.element_write.specs.Round.{is_found, is_tiled}

-- the invariant: the next component would begin at i, with turns enough for the octets from there on
pub record Going (s : List ℕ) (i : ℕ) : Type 0 where
  pub inside : i ≤ length s
  pub turns : ℕ
  pub enough : length s ≤ i + turns
  pub rest : is_tiled s ≡ is_found (tiled (suc turns) s i (length s))

pub going_start : (s : List ℕ) → Going s 0
unfolding is_tiled
going_start s = record { inside = omega arith; turns = length s; enough = omega arith; rest = refl }

-- one start more does not decide
behind_found : (i : ℕ) (x : Ans (List ℕ)) → is_found (after x (λ starts last. got (i ∷ starts) last)) ≡ is_found x
unfolding is_found after
behind_found i (got starts last) = refl
behind_found i (halt w p) = refl

-- a component that is found takes one turn
one_turn : (turns : ℕ) (s : List ℕ) (i : ℕ) {v : Extent} {n : ℕ} → i < length s → length_at i s (i + 1) (length s) ≡ got v n
    → is_found (tiled (suc (suc turns)) s i (length s)) ≡ is_found (tiled (suc turns) s n (length s))
unfolding after
one_turn turns s i h e = rw (turn (suc turns) s i (length s) h, e) (behind_found i _)

module _ (s : List ℕ) (i : ℕ) (g : Going s i) where
  pub going_more : {v : Extent} {n : ℕ} → i < length s → length_at i s (i + 1) (length s) ≡ got v n → i + 2 ≤ n → n ≤ length s → Going s n
  going_more {v} {n} h e l m =
      let k : g.turns ≡ suc (g.turns - 1) = omega (arith, g.enough) in record {
        inside = m;
        turns = g.turns - 1;
        enough = omega (arith, g.enough);
        rest = g.rest ∙ ap (λ (j : ℕ). is_found (tiled (suc j) s i (length s))) k ∙ one_turn (g.turns - 1) s i h e;
      }

  pub going_done : length s ≤ i → true ≡ is_tiled s
  unfolding is_found tiled
  going_done h =
      let e : i ≡ length s = omega (arith, g.inside) in
      sym (g.rest ∙ simp (eq-eqb i (length s) e))

  pub going_fault : (z : Extent) {k p n : ℕ} {v : Extent} → i < length s → (k, p, v, n) ≡ shown z (opened (get_or s i 0) s i (length s)) → (k ≡ 0 → ⊥) → false ≡ is_tiled s
  unfolding is_found after
  going_fault z h e k0 =
      let r = halt_of (opened (get_or s i 0) s i (length s)) z e k0 in
      sym (g.rest ∙ rw (turn g.turns s i (length s) h, ← opened_there (get_or s i 0) s i (length s) h refl, r.1))
