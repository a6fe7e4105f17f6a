-- How what is left to read goes with what was read so far.
use Rattle.prelude.proofs.{Prelude.{ℕ, ◌≡◌, refl, ap, sym, ◌∙◌, List, length, eqb, eq-eqb, ne_eqb}, Ways.by_cases}
use Rattle.coding.{specs.Reader.Ans, specs.Reader.after, specs.Reader.blamed, specs.Reader.closed, specs.Reader.Ans.got, specs.Reader.Ans.halt, specs.Codec.Run, specs.inner.Shown.shown}
use Rattle.coding.proofs.{Reading.got_of, Reading.halt_of, Basic.after_same}
use Rattle.types.specs.{declared.Record.Record, Frames.in_argument}
use Rattle.read_heads.specs.{inner.Heads.argument_code, inner.Heads.fault_by, inner.Heads.tail_of, declared.Head.Head}
use Rattle.read_heads.proofs.Codes.{told}

module _ {A B : Type 0} (x : Ans A) (f : A → ℕ → Ans B) (z : A) {k p n : ℕ} {v : A} (e : (k, p, v, n) ≡ shown z x) where
  -- a good answer goes on
  pub goes : {t : Ans B} → k ≡ 0 → t ≡ f v n → t ≡ after x f
  unfolding after
  goes k0 r = rw (got_of x z e k0) r

  -- the same in the argument or result
  pub goes_in : {t : Ans B} → k ≡ 0 → t ≡ f v n → t ≡ after (blamed in_argument x) f
  unfolding after blamed
  goes_in k0 r = rw (got_of x z e k0) r

  -- a fault stays, at its place
  pub refuses : (k ≡ 0 → ⊥) → halt (fault_by k) p ≡ after x f
  unfolding after
  refuses k0 = let h = halt_of x z e k0 in rw h.1 (ap (λ i. halt (fault_by i) p) h.2 ∙ ap (λ u. halt u p) (told h.0).2)

  pub refuses_in : (k ≡ 0 → ⊥) → halt (fault_by (argument_code k)) p ≡ after (blamed in_argument x) f
  unfolding after blamed
  refuses_in k0 =
      let h = halt_of x z e k0 in
      rw h.1 (ap (λ i. halt (fault_by i) p) (ap argument_code h.2 ∙ (told h.0).1) ∙ ap (λ u. halt u p) (told (in_argument h.0)).2)

-- nothing over, or something
pub ends : (v : Record) (at end next : ℕ) → at ≡ end → got v next ≡ closed v at end next
unfolding closed
ends v at end next h = simp (eq-eqb at end h)

pub ends_with : (u v : Record) (at end next : ℕ) → v ≡ u → at ≡ end → got u next ≡ closed v at end next
ends_with u v at end next q h = ap (λ r. got r next) (sym q) ∙ ends v at end next h

pub leaves : (v : Record) (at end next : ℕ) → (at ≡ end → ⊥) → halt (fault_by 41) at ≡ closed v at end next
unfolding closed
leaves v at end next h = simp (ne_eqb at end h)

-- an element that ends where the contents end, twice
pub twice : (v : Record) (at end next whole last : ℕ) {t : Ans Record} → at ≡ end → t ≡ closed v next whole last
    → t ≡ after (closed v at end next) (λ w m. closed w m whole last)
unfolding closed after
twice v at end next whole last h r = rw (eq-eqb at end h) r

pub over_in : (v : Record) (at end next whole last : ℕ) → (at ≡ end → ⊥) → halt (fault_by 41) at ≡ after (closed v at end next) (λ w m. closed w m whole last)
unfolding closed after
over_in v at end next whole last h = rw (ne_eqb at end h)

-- an argument that ends where the contents end
pub tail_one : (f : Run Record) (h : Head) (s : List ℕ) (n : ℕ) → h.stop ≡ n → h.next ≡ n → h.end ≡ n
    → tail_of f h s ≡ after (f.read s h.at n) (λ v last. closed v last n (length s))
unfolding tail_of closed after
tail_one f h s n p q r = rw (p, q, r) (after_same (f.read s h.at n) (λ v last e. by_cases (eqb last n) (λ q. rw (q, eq-eqb n n refl)) (λ q. rw q)))

-- what the returns of a head cite
pub ruleset heading = (goes, refuses, ends, leaves)
