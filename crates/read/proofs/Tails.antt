-- What is left to read after a head: an argument or result, and then the ends.
use Rattle.prelude.proofs.Prelude.{ℕ, ◌+◌, ◌%◌, ◌<◌, arith, ◌≡◌, refl, ap, ◌∙◌, Bool, true, false, ◌&&◌, cond, List, length, eqb, lt-leb, eqb-true, eqb-false, eq-eqb, ne_eqb}
use Rattle.coding.specs.{Reader.Ans, Reader.after, Reader.part, Reader.Ans.got, Reader.Ans.halt, Codec.Run, Codec.pick_run, Codec.canonical, Codec.over, Codec.marked, inner.Shown.shown}
use Rattle.coding.proofs.Reading.{flat}
use Rattle.types.specs.{declared.Record.Record, declared.Answer.Answer, Arguments.no_charge, Stored.Blank, Stored.figure_in, Stored.stored, Frames.no_record}
use Rattle.types.specs.Frames.{refused_at, in_argument, same_record, request, carrying, argument, answered, read_whole, read_of}
use Rattle.types.proofs.{Places.pick, Theorems.offset_small}
use Rattle.read_heads.{specs.declared.Head.Head, specs.inner.Heads.fault_by, specs.inner.Heads.tail_of, specs.inner.Heads.rest_of, proofs.Answers.goes_in, proofs.Answers.refuses_in}
use Rattle.read_elements.specs.declared.Empty.{Empty}
use Rattle.read_lists.specs.inner.Answers.{whole}
use Rattle.read.specs.{declared.Refusal.Refusal, inner.Ways.is_request, inner.Ways.held, inner.Ways.ends_well, inner.Ways.end_by, inner.Ways.end_of, inner.Ways.Ended}

-- ---- how an argument or result ends

-- what is left over is refused by 6
pub left_over : (r : Refusal) (v : Record) {p : ℕ} {x : Ans Record} → refused_at r.number r.offset ≡ held (answered (halt (fault_by 41) p))
    → halt (fault_by 41) p ≡ x → end_by r 0 v ≡ held (answered x)
left_over r v e q =
    let six : r.number ≡ 6 = ap (λ (a : Answer). a.number) e in
    rw (ne_eqb r.number 0 (λ z. omega (arith, six, z))) (e ∙ ap (λ x. held (answered x)) q)

-- the record, or a refusal with none
pub tail : {h : Head} {k p n : ℕ} {r : Refusal} → Ended r h k p n → {A : Type 0} (to : A → Record) (from : Record → A) (g : Run A) (s : List ℕ) (z : A) {v : A}
    → (k, p, v, n) ≡ shown z (g.read s h.at h.stop) → {b : Bool} → ends_well k r.number ≡ b
    → record { number = r.number; offset = r.offset; value = cond b (to v) no_record } ≡ held (answered (tail_of (canonical to from same_record (marked in_argument g)) h s))
unfolding end_of tail_of canonical over marked
tail {h} {k} {r = r} q to from g s z {v} e f =
    rw f at (q.same (to v) (length s)
    ∙ ap (λ x. held (answered x)) (pick (λ x. x ≡ tail_of (canonical to from same_record (marked in_argument g)) h s) (eqb k 0) _ _
    (λ t. simp flat (goes_in _ _ z e (eqb-true _ _ t) refl)) (λ t. simp flat (refuses_in _ _ z e (eqb-false _ _ t)))))

-- ---- what is left, by the head

-- in its argument or result, which is none of operation 30
pub rest_carried : (h : Head) (s : List ℕ) → (let f = h.front in (f.frame ≡ 0 → ⊥) → f.frame < 3 → is_request f ≡ false
    → tail_of (carrying f.frame f.id f.operation) h s ≡ rest_of h s)
unfolding rest_of argument
rest_carried h s n l r = rw (ne_eqb _ _ n, lt-leb _ _ l) (go h.front.frame h.front.id h.front.operation (eqb h.front.frame 1) refl n l r)
  where
    go : (k i o : ℕ) (b : Bool) → eqb k 1 ≡ b → (k ≡ 0 → ⊥) → k < 3 → (b && eqb o 30) ≡ false
        → tail_of (carrying k i o) h s ≡ tail_of (pick_run b (pick_run (eqb o 30) (request i) (carrying 1 i o)) (carrying 2 i o)) h s
    go k i o true q n l r = rw (r, eqb-true k 1 q)
    go k i o false q n l r = let e : k ≡ 2 = omega (arith, eqb-false k 1 q) in rw e

-- ---- what is stored

-- 05 00 leaves a charge's parts as they are
pub nulled : (r : Empty) {figure numbers rows : List ℕ} → Blank figure numbers rows → (x : Ans (Unit {0})) → (r.fault, r.place, tt, r.next) ≡ shown tt x
    → whole r figure numbers rows ≡ shown no_charge (after x (λ u n. got no_charge n))
unfolding figure_in part stored shown after
nulled r b x e =
    let same : cond (eqb r.fault 0) no_charge no_charge ≡ no_charge = pick (λ v. v ≡ no_charge) (eqb r.fault 0) _ _ (λ q. refl) (λ q. refl) in
    rw (b.figure_blank, b.numbers_blank, b.rows_blank, same) (go x e)
  where
    go : (x : Ans (Unit {0})) {k p n : ℕ} → (k, p, tt, n) ≡ shown (tt {0}) x → (k, p, no_charge, n) ≡ shown no_charge (after x (λ u n. got no_charge n))
    go (got u m) e = ap (λ q. (q.0, q.1, no_charge, q.3)) e
    go (halt w m) e = ap (λ q. (q.0, q.1, no_charge, q.3)) e

-- ---- numbers

-- an offset that is given has one octet
pub reads : (s : List ℕ) {x : Ans Record} {a : Answer} → x ≡ read_whole s → a ≡ held (answered x) → a ≡ read_of s
unfolding read_of
reads s q e = let few : (read_of s).offset % 256 ≡ (read_of s).offset = omega (arith, offset_small s) in e ∙ rw (q, few)

-- nothing is read where there is no head
pub reads_none : (h : Head) (s : List ℕ) {a : Answer} → rest_of h s ≡ read_whole s → a ≡ held (answered (halt (fault_by h.fault) h.at)) → h.front.frame ≡ 0 → a ≡ read_of s
unfolding rest_of
reads_none h s q e z = reads s q (rw (eq-eqb _ _ z) e)
