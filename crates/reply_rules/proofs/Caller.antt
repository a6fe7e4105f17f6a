-- A reply that names the component names it by its own identifier, which was read.
use Rattle.prelude.proofs.Prelude.{ℕ, ◌+◌, ◌≤◌, arith, ◌≡◌, refl, sym, ap, ◌∙◌, subst, List, Bool, true, false, ◌||◌, true≢false, cond, ◌⊎◌, inl, inr, length, get_or, ltb, leb, eqb}
use Rattle.prelude.proofs.Prelude.{eqb-true, eq-eqb, ne_eqb, leb-false}
use Rattle.coding.{specs.Reader.Ans, specs.Reader.Fault, specs.Reader.after, specs.Reader.blamed, specs.Reader.entered_any, specs.Reader.length_at, specs.Reader.closed, specs.Reader.Ans.got}
use Rattle.coding.{specs.Reader.Ans.halt, specs.Reader.Fault.missing, specs.Reader.Fault.unexpected, specs.Reader.Fault.cut, specs.Reader.Fault.form, specs.Reader.Fault.shortest}
use Rattle.coding.{specs.Reader.Fault.contents, specs.Reader.Fault.limit, specs.Reader.Fault.named, specs.Codec.Run, specs.Codec.prim, specs.Codec.one_of, specs.Codec.pick_run, specs.Codec.leads}
use Rattle.coding.{specs.Codec.frames, specs.Leaves.identifier, specs.declared.Extent.Extent, proofs.Basic.or-false, proofs.Header.opened_sound, proofs.Header.spans_range}
use Rattle.coding.{proofs.Frames.any_got}
use Rattle.types.specs.{declared.Record.Record, declared.Answer.Answer}
use Rattle.types.specs.Frames.{outside, number_of, no_record, caller_of, invoke, return_result, return_error, reject, frame, component, read_family, answered, read_whole, read_of}
use Rattle.types.proofs.Places.{Plain, Ends, Lengths, pick, length_ends, prim_placed, identifier_blames}
use Rattle.read_heads.proofs.Entered.{tags}
use Rattle.reply_rules.specs.Rejects.{first_of, identifier_read, value_or0, identifier_of, is_silent_to, is_silent, is_named, reply_by, reject_to, reply_to}

-- ---- the faults before the identifier give no number whose reply names the component

abbrev Nameless : Fault → Type 0
Nameless w = is_named (number_of w) ≡ false

unnamed : (w : Fault) → Plain w → Nameless w × Nameless (outside w)
unfolding one_of
unnamed missing a = (refl, refl)
unnamed unexpected a = (refl, refl)
unnamed cut a = (refl, refl)
unnamed form a = (refl, refl)
unnamed shortest a = (refl, refl)
unnamed contents a = (refl, refl)
unnamed limit a = (refl, refl)
unnamed (named n) a = absurd a

-- an answer's number
abbrev pub number_by : {A : Type 0} → Ans A → ℕ
number_by (got v n) = 0
number_by (halt w p) = number_of w

-- an answer's fault, if it has one
abbrev pub Stops : {A : Type 0} → Ans A → Type 0
Stops (got v n) = Unit {0}
Stops (halt w p) = Nameless w

entered_stops : (all s : List ℕ) → Stops (entered_any all outside (named 5) s 0 (length s))
unfolding entered_any after blamed one_of
entered_stops all s =
    pick Stops (leb (length s) 0) _ _ (λ q. refl) (λ q.
    pick Stops (one_of all (get_or s 0 0)) _ _ (λ q. go (length_at 0 s 1 (length s)) (length_ends 0 s 1 (length s))) (λ q. refl))
  where
    go : (x : Ans Extent) → Lengths 0 x → Stops (after (blamed outside x) (λ v next. cond (eqb next (length s)) (got v next) (halt (named 5) next)))
    go (got v n) h = pick Stops (eqb n (length s)) _ _ (λ q. tt) (λ q. refl)
    go (halt w p) h = (unnamed w h.0).1

identifier_plain : (s : List ℕ) (a e : ℕ) → a ≤ e → Ends (λ w p. Plain w) a e ((prim 0x02 identifier).read s a e)
identifier_plain s a e l = (prim_placed (λ w p. Plain w) (λ w p h. h) 0 0x02 identifier (identifier_blames (λ w p. Plain w) (λ w p h. h))).ends s a e (omega arith) l

-- ---- in A1, A2 and A3 the identifier comes first in the contents

module _ {A : Type 0} (s : List ℕ) (a e : ℕ) where
  -- the contents are read as the identifier, and then what follows it
  abbrev pub Led : Ans A → Type 0
  Led r = (k : ℕ → ℕ → Ans A) × (r ≡ after ((prim 0x02 identifier).read s a e) k)

  -- or no refusal of them names the component
  abbrev pub Begins : ℕ → Ans A → Type 0
  Begins t r = ((one_of tags t ≡ true) × Led r) ⊎ Stops r

  pub begins : (t : ℕ) (f g h other : Run A) → Led (f.read s a e) → Led (g.read s a e) → Led (h.read s a e)
      → (eqb t 0xa1 ≡ false → eqb t 0xa2 ≡ false → eqb t 0xa3 ≡ false → Begins t (other.read s a e))
      → Begins t ((pick_run (eqb t 0xa1) f (pick_run (eqb t 0xa2) g (pick_run (eqb t 0xa3) h other))).read s a e)
  unfolding one_of
  begins t f g h other x y z o = go (eqb t 0xa1) refl (eqb t 0xa2) refl (eqb t 0xa3) refl
    where
      go : (b : Bool) → eqb t 0xa1 ≡ b → (c : Bool) → eqb t 0xa2 ≡ c → (d : Bool) → eqb t 0xa3 ≡ d
          → Begins t ((pick_run b f (pick_run c g (pick_run d h other))).read s a e)
      go true p c q d r = inl (rw p, x)
      go false p true q d r = inl (rw (p, q), y)
      go false p false q true r = inl (rw (p, q, r), z)
      go false p false q false r = o p q r

led : (s : List ℕ) (a e t : ℕ) → one_of tags t ≡ true → (t ≡ 0xa4 → ⊥) → Begins s a e t ((frame t).read s a e)
unfolding frame invoke return_result return_error leads one_of
led s a e t h other =
    begins s a e t invoke return_result return_error reject (_, refl) (_, refl) (_, refl)
    (λ p q r. absurd (other (eqb-true t 0xa4 (or-false (eqb t 0xa4) (rw (p, q, r) at h)))))

-- ---- so it was read

closed_stops : {A : Type 0} (x : Ans A) (stop next : ℕ) → Stops x → is_named (number_by (after x (λ v last. closed v last stop next))) ≡ false
unfolding after closed one_of
closed_stops {A} (got v n) stop next h = pick (λ (r : Ans A). is_named (number_by r) ≡ false) (eqb n stop) _ _ (λ q. refl) (λ q. refl)
closed_stops (halt w p) stop next h = h

same_entered : (all s : List ℕ) → one_of all (get_or s 0 0) ≡ true → one_of tags (get_or s 0 0) ≡ true
    → entered_any tags outside (named 5) s 0 (length s) ≡ entered_any all outside (named 5) s 0 (length s)
unfolding entered_any
same_entered all s p q = rw (p, q)

module _ {A : Type 0} (all : List ℕ) (tag_of : A → ℕ) (frame_of : ℕ → Run A) (s : List ℕ)
    (heads : (a e : ℕ) → one_of all (first_of s) ≡ true → Begins s a e (first_of s) ((frame_of (first_of s)).read s a e)) where
  abbrev family : Run A
  family = frames all tag_of outside (named 5) frame_of

  read_named : is_named (number_by (family.read s 0 (length s))) ≡ true → (i n : ℕ) × (identifier_read s ≡ got i n)
  unfolding frames after
  read_named h = go (entered_any all outside (named 5) s 0 (length s)) refl (entered_stops all s) h
    where
      go : (r : Ans Extent) → entered_any all outside (named 5) s 0 (length s) ≡ r → Stops r
          → is_named (number_by (after r (λ x next. after ((frame_of (get_or s 0 0)).read s x.start x.stop) (λ v last. closed v last x.stop next)))) ≡ true
          → (i n : ℕ) × (identifier_read s ≡ got i n)
      go (halt w p) q st m = absurd (true≢false (sym m ∙ st))
      go (got x next) q st m = by_head (heads x.start x.stop (any_got all outside (named 5) s 0 (length s) q).0)
        where
          inner : (y : Ans ℕ) (k : ℕ → ℕ → Ans A) → Ends (λ w p. Plain w) x.start x.stop y
              → is_named (number_by (after (after y k) (λ v last. closed v last x.stop next))) ≡ true → (i n : ℕ) × (y ≡ got i n)
          inner (got i n) k st m = (i, n, refl)
          inner (halt w p) k st m = absurd (true≢false (sym m ∙ (unnamed w st.0).0))

          by_head : Begins s x.start x.stop (get_or s 0 0) ((frame_of (get_or s 0 0)).read s x.start x.stop) → (i n : ℕ) × (identifier_read s ≡ got i n)
          by_head (inr k) = absurd (true≢false (sym m ∙ closed_stops ((frame_of (get_or s 0 0)).read s x.start x.stop) x.stop next k))
          by_head (inl (t, k)) =
              let g = any_got all outside (named 5) s 0 (length s) q in
              let l = (spans_range (opened_sound (get_or s 0 0) s 0 (length s) x next g.1).0).1 in
              let r = inner ((prim 0x02 identifier).read s x.start x.stop) k.0 (identifier_plain s x.start x.stop l)
              (subst (λ z. is_named (number_by (after z (λ v last. closed v last x.stop next))) ≡ true) k.1 m) in
              (r.0, r.1, ap (λ (y : Ans Extent). after y (λ x next. (prim 0x02 identifier).read s x.start x.stop)) (same_entered all s g.0 t ∙ q) ∙ r.2)

-- ---- and is the one sent

sent : (n first i : ℕ) → is_named n ≡ true → caller_of (reply_by n first i) ≡ inr i
unfolding one_of
sent n first i h =
    let P : Record → Type 0 = λ r. caller_of r ≡ inr i in
    let other : (k : ℕ) → is_named k ≡ false → eqb n k ≡ true → ⊥ = λ k f e. true≢false (sym h ∙ ap is_named (eqb-true n k e) ∙ f) in
    pick P (eqb n 4) _ _ (λ e. absurd (other 4 refl e)) (λ _. pick P (eqb n 6) _ _ (λ e. absurd (other 6 refl e)) (λ _.
    pick P (eqb n 8) _ _ (λ _. refl) (λ e₈. pick P (eqb n 7) _ _ (λ _. pick P (eqb first 0xa2) _ _ (λ _. refl) (λ _. refl)) (λ e₇.
    pick P (leb 40 n) _ _ (λ _. pick P (eqb first 0xa2) _ _ (λ _. refl) (λ _. refl)) (λ e.
    let far : (k : ℕ) → 40 ≤ k → eqb n k ≡ false = λ k l. ne_eqb n k (λ z. omega (arith, leb-false 40 n e, l, z)) in
    absurd (true≢false (sym (rw (e₇, e₈, far 40 (omega arith), far 41 (omega arith), far 42 (omega arith), far 43 (omega arith), far 44 (omega arith), far 45 (omega arith)) at h))))))))

or_left_no : (a b : Bool) → a || b ≡ false → b ≡ false
or_left_no true b e = absurd (true≢false e)
or_left_no false b e = e

-- of any family: where its refusal and the number that calls for a reject name the component, the component's identifier was read, and the reject is
-- for that identifier
module _ {A : Type 0} (all : List ℕ) (tag_of : A → ℕ) (frame_of : ℕ → Run A) (n : ℕ) (s : List ℕ) (said : is_silent_to n s ≡ false) (h : is_named n ≡ true) where
  other : first_of s ≡ 0xa4 → ⊥
  other e = true≢false (sym (eq-eqb (first_of s) 0xa4 e) ∙ or_left_no (eqb n 0) _ said)

  pub named_by : is_named (number_by (read_family (frames all tag_of outside (named 5) frame_of) s)) ≡ true
      → ((first_of s ≡ 0xa4 → ⊥) → (a e : ℕ) → one_of all (first_of s) ≡ true → Begins s a e (first_of s) ((frame_of (first_of s)).read s a e))
      → (i m : ℕ) × (identifier_read s ≡ got i m) × (caller_of (reject_to n s) ≡ inr i)
  unfolding identifier_of one_of
  named_by g heads = by_length (ltb 254 (length s)) refl g
    where
      by_length : (t : Bool) → ltb 254 (length s) ≡ t → is_named (number_by (cond t (halt (named 3) 0) ((frames all tag_of outside (named 5) frame_of).read s 0 (length s)))) ≡ true
          → (i m : ℕ) × (identifier_read s ≡ got i m) × (caller_of (reject_to n s) ≡ inr i)
      by_length true l m = absurd (true≢false (sym m))
      by_length false l m =
          let r = read_named all tag_of frame_of s (heads other) m in
          let i : identifier_of s ≡ r.0 = rw l (ap value_or0 r.2) in
          (r.0, r.1, r.2, sent n (first_of s) (identifier_of s) h ∙ ap inr i)

number_read : (r : Ans Record) → (answered r).number ≡ number_by r
number_read (got x n) = refl
number_read (halt w p) = refl

-- where a reply is sent for a refusal that names the component
pub named_reply : (s : List ℕ) → is_silent s ≡ false → is_named (read_of s).number ≡ true
    → (i n : ℕ) × (identifier_read s ≡ got i n) × (caller_of (reply_to s) ≡ inr i)
unfolding is_silent reply_to read_of read_whole component
named_reply s q h =
    named_by tags (λ r. 0xa0 + r.front.frame) frame (read_of s).number s q h (subst (λ n. is_named n ≡ true) (number_read (read_whole s)) h)
    (λ other a e o. led s a e (first_of s) o other)
