-- Events laid into slices, one run after another.
use Rattle.prelude.proofs.Prelude.{◌≡◌, refl, sym, ap, ◌∙◌, ℕ, arith, List, [], ◌∷◌, ◌++◌, append_assoc, append-nil, length, length-append, take, take-length}
use Rattle.coding.{specs.inner.Written.Wrote, specs.inner.Written.Room, proofs.Writing.wrote_both, proofs.Writing.wrote_as, proofs.Writing.wrote_none, proofs.Writing.wrote_next}
use Rattle.phases.specs.{declared.Event.Event, Phases.Given, Phases.event}
use Rattle.trace.specs.{declared.Put.Put, inner.Putting.{Puts, Rooms, Progress, RowsFor}}
use Rattle.events.{specs.Laid.laid_row, specs.Laid.rows_of, specs.Laid.octets_of, proofs.Laid.rows_append, proofs.Laid.octets_append}

pub puts_none : (rows out : List ℕ) (p : Put) → Puts rows rows out out p [] p
unfolding rows_of octets_of
puts_none rows out p = record {
  in_rows = wrote_next (omega arith) (wrote_none rows p.rows);
  in_out = wrote_next (omega arith) (wrote_none out p.octets);
}

pub puts_both : {a b c x y z : List ℕ} {p q r : Put} {l m : List Given} → Puts a b x y p l q → Puts b c y z q m r → Puts a c x z p (l ++ m) r
puts_both {l} {m} f g = record {
  in_rows = wrote_as (sym (rows_append l m)) (wrote_both f.in_rows g.in_rows);
  in_out = wrote_as (sym (octets_append l m)) (wrote_both f.in_out g.in_out);
}

pub puts_as : {a b x y : List ℕ} {p q : Put} {l m : List Given} → l ≡ m → Puts a b x y p l q → Puts a b x y p m q
puts_as {a} {b} {x} {y} {p} {q} {l} {m} e f = rw e at f

pub rooms_as : {a x : List ℕ} {p : Put} {l m : List Given} → l ≡ m → Rooms a x p l → Rooms a x p m
rooms_as e f = rw e at f

pub rooms_head : {a x : List ℕ} {p : Put} {l : List Given} (m : List Given) → Rooms a x p (l ++ m) → Rooms a x p l
rooms_head {l} m h = record {
  for_rows = record { fits = omega (arith, h.for_rows.fits, length-append (rows_of l) (rows_of m), ap length (rows_append l m)) };
  for_out = record { fits = omega (arith, h.for_out.fits, length-append (octets_of l) (octets_of m), ap length (octets_append l m)) };
}

pub rooms_tail : {a b x y : List ℕ} {p q : Put} {l m : List Given} → Puts a b x y p l q → Rooms a x p (l ++ m) → Rooms b y q m
rooms_tail {l} {m} f h = record {
  for_rows = record { fits = omega (arith, f.in_rows.place, f.in_rows.kept, h.for_rows.fits, length-append (rows_of l) (rows_of m), ap length (rows_append l m)) };
  for_out = record { fits = omega (arith, f.in_out.place, f.in_out.kept, h.for_out.fits, length-append (octets_of l) (octets_of m), ap length (octets_append l m)) };
}

-- ---- one event

module _ (e : Event) (o : List ℕ) where
  one_row : rows_of (event e o ∷ []) ≡ laid_row e (length o)
  unfolding rows_of
  one_row = append-nil (laid_row e (length o))

  one_run : octets_of (event e o ∷ []) ≡ o
  unfolding octets_of
  one_run = append-nil o

  pub row_room : {rows out : List ℕ} {p : Put} (n : ℕ) → n ≡ length o → Rooms rows out p (event e o ∷ []) → Room rows p.rows (laid_row e n)
  row_room n z h = record { fits = omega (arith, h.for_rows.fits, ap length one_row) }

  pub run_room : {rows out : List ℕ} {p : Put} → Rooms rows out p (event e o ∷ []) → Room out p.octets (take (length o) o)
  run_room h = record { fits = omega (arith, h.for_out.fits, ap length one_run, ap length (take-length o)) }

  pub event_put : (rows rows' out out' : List ℕ) (p q : Put) (n : ℕ) → n ≡ length o → Wrote rows rows' p.rows (laid_row e n) q.rows → Wrote out out' p.octets (take (length o) o) q.octets
      → Puts rows rows' out out' p (event e o ∷ []) q
  event_put rows rows' out out' p q n z a b = record {
    in_rows = wrote_as (ap (laid_row e) z ∙ sym one_row) a;
    in_out = wrote_as (take-length o ∙ sym one_run) b;
  }

-- ---- a loop that lays events

pub progress_starts : {rows out : List ℕ} {p : Put} {total : List Given} → Rooms rows out p total → Progress rows rows out out p p total total
progress_starts {rows} {out} {p} h = record { done = []; laid = puts_none rows out p; room = h; all = refl }

pub progress_more : {a b c x y z : List ℕ} {p q r : Put} {l : List Given} (m : List Given) {total : List Given} → Progress a b x y p q (l ++ m) total → Puts b c y z q l r
    → Progress a c x z p r m total
progress_more {l} m g f = record {
  done = g.done ++ l;
  laid = puts_both g.laid f;
  room = rooms_tail f g.room;
  all = append_assoc g.done l m ∙ g.all;
}

pub progress_ends : {a b x y : List ℕ} {p q : Put} {total : List Given} → Progress a b x y p q [] total → Puts a b x y p total q
progress_ends {a} {b} {x} {y} {p} {q} g = puts_as (sym (append-nil g.done) ∙ g.all) g.laid

pub progress_as : {a b x y : List ℕ} {p q : Put} {l m total : List Given} → l ≡ m → Progress a b x y p q l total → Progress a b x y p q m total
progress_as e g = rw e at g

-- ---- one event without octets

pub bare_put : (e : Event) (rows rows' : List ℕ) (p q : Put) → Wrote rows rows' p.rows (laid_row e 0) q.rows → q.octets ≡ p.octets → (out : List ℕ)
    → Puts rows rows' out out p (event e [] ∷ []) q
unfolding rows_of octets_of
bare_put e rows rows' p q a z out = record {
  in_rows = wrote_as (sym (append-nil (laid_row e 0))) a;
  in_out = wrote_next (omega arith) (wrote_none out p.octets);
}

pub bare_room : (e : Event) {rows : List ℕ} {p : Put} → RowsFor rows p (event e [] ∷ []) → Room rows p.rows (laid_row e 0)
unfolding rows_of
bare_room e h = record { fits = omega (arith, h.for_rows.fits, ap length (append-nil (laid_row e 0))) }

pub rows_head : {a x : List ℕ} {p : Put} {l : List Given} (m : List Given) → Rooms a x p (l ++ m) → RowsFor a p l
rows_head m h = record { for_rows = (rooms_head m h).for_rows }

pub rows_whole : {a x : List ℕ} {p : Put} {l : List Given} → Rooms a x p l → RowsFor a p l
rows_whole h = record { for_rows = h.for_rows }
