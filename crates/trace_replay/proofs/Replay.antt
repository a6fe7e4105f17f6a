-- For every trace that is not refused, the slices hold its events, and each answer of the plain engine on them is what a host that keeps an account is answered.
use Rattle.prelude.proofs.Prelude.{◌≡◌, refl, sym, ap, ◌∙◌, ℕ, ◌*◌, ◌≤◌, arith, Bool, true, false, cond, List, length, take, drop, take-append_seam, eqb, eqb-true}
use Rattle.prelude.proofs.Prelude.{eq-eqb, le-leb}
use Rattle.phases.{specs.Phases.Given, proofs.Choice.never}
use Rattle.events.{specs.Events.events_of, specs.Laid.rows_of, specs.Laid.octets_of, proofs.Laid.rows_count}
use Rattle.trace_framing.specs.Framing.{messages_of, verdict_of}
use Rattle.trace_messages.specs.Trace.{trace_events}
use Rattle.trace.proofs.Bounds.{trace_back, trace_adds_up}
use Rattle.trace.specs.{declared.Laid.Laid, Into.events_in, Into.fits_in, Into.laid, Into.laid_of, Into.rows_left, Into.octets_left}
use Rattle.plain.proofs.Equal.{SameAnswers, plain_is_account}

same_list_lem : {rows octets : List ℕ} {l m : List Given} → l ≡ m → SameAnswers rows octets l → SameAnswers rows octets m
same_list_lem e s = rw e at s

module _ (pairs octets rows out : List ℕ) where
  abbrev answer : Laid
  answer = laid_of pairs octets (length rows) (length out)

  abbrev l : List Given
  l = events_in pairs octets

  -- ---- what an answer of 0 says

  nothing_else : (a b : Bool) (n m : ℕ) → (a ≡ true → n ≡ 0) → (cond a (cond b (laid 0 0 (length l) (length (octets_of l))) (laid 12 0 0 0)) (laid n m 0 0)).number ≡ 0
      → (eqb n 0 ≡ a) → (a ≡ true) × (b ≡ true)
  nothing_else true true n m h e z = (refl, refl)
  nothing_else true false n m h e z = absurd (omega (arith, e))
  nothing_else false b n m h e z = never (sym z ∙ eq-eqb n 0 e)

  taken : answer.number ≡ 0 → (eqb (verdict_of pairs octets).number 0 ≡ true) × (fits_in (length octets) (length rows) (length out) ≡ true)
  unfolding laid_of
  taken e = nothing_else (eqb (verdict_of pairs octets).number 0) (fits_in (length octets) (length rows) (length out)) (verdict_of pairs octets).number (verdict_of pairs octets).message (λ t. eqb-true _ _ t) e refl

  counts : answer.number ≡ 0 → answer ≡ laid 0 0 (length l) (length (octets_of l))
  unfolding laid_of
  counts e = rw ((taken e).0, (taken e).1) refl

  module _ (fine : answer.number ≡ 0) where
    -- the rows and the octets that the answer counts
    abbrev pub held_rows : List ℕ
    held_rows = take (answer.events * 6) (rows_left pairs octets rows out)

    abbrev pub held_octets : List ℕ
    held_octets = take answer.octets (octets_left pairs octets rows out)

    rows_held : held_rows ≡ rows_of l
    unfolding rows_left
    rows_held =
        let n : answer.events * 6 ≡ length (rows_of l) = ap (λ (r : Laid). r.events * 6) (counts fine) ∙ sym (rows_count l) in
        rw (n, fine) (take-append_seam (rows_of l) (drop (length (rows_of l)) rows))

    octets_held : held_octets ≡ octets_of l
    unfolding octets_left
    octets_held =
        let n : answer.octets ≡ length (octets_of l) = ap (λ (r : Laid). r.octets) (counts fine) in
        rw (n, fine) (take-append_seam (octets_of l) (drop (length (octets_of l)) out))

    pub slices_hold : events_of held_rows held_octets ≡ trace_events (messages_of pairs octets)
    slices_hold = rw (rows_held, octets_held) (trace_back (messages_of pairs octets))

    pub replay_is_account : SameAnswers held_rows held_octets (trace_events (messages_of pairs octets))
    replay_is_account =
        rw (rows_held, octets_held)
        (same_list_lem (trace_back (messages_of pairs octets)) (plain_is_account (rows_of l) (octets_of l) (trace_adds_up (messages_of pairs octets))))

  -- six numbers and an octet for each octet of the trace are always enough
  pub room_enough : (verdict_of pairs octets).number ≡ 0 → length octets * 6 ≤ length rows → length octets ≤ length out → answer.number ≡ 0
  unfolding laid_of
  room_enough e a b = rw (eq-eqb (verdict_of pairs octets).number 0 e, le-leb (length octets * 6) (length rows) a, le-leb (length octets) (length out) b) refl
