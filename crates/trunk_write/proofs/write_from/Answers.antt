use Rattle.prelude.proofs.Prelude.{sym, ◌∙◌, arith, ℕ, List}
use Rattle.std.specs.Borrow.{Bor}
use Rattle.trunk_types.specs.{declared.Parts.Parts, Stored.trunk_in, Stored.trunk_of}
use Rattle.trunk_write_frames.proofs.Frames.{known_frame}
use Rattle.trunk_write.specs.Outcome.{spare_zero, Offered}
use Rattle.trunk_write.proofs.Outcomes.{Sized, Whole, sized_by, not_spare, not_fine, too_long, no_room, lead_room, contents_room, written, written_few}
use Rattle.trunk_write.proofs.write_from.Goals as goal

-- the lent arrays, as the code has them in one struct, and what lies in them
abbrev parts : (front extension figure numbers rows : Bor (List ℕ)) → Parts
parts front extension figure numbers rows = record { front = front; extension = extension; figure = figure; numbers = numbers; rows = rows }

abbrev held : Parts → Offered
held p = record { trunk = trunk_of p; spare = spare_zero p.front.now }

pub returns-then-not-spare_zero : goal.returns-then-not-spare_zero
returns-then-not-spare_zero c =
    let r = not_spare (held (parts c.args.front c.args.extension c.args.figure c.args.numbers c.args.rows)) _ c.spare_zero.ensures c.if-not-spare_zero.true c.refuse.ensures in
    record { value = r.0; left = r.1 }

pub returns-then-not-trunk_fine : goal.returns-then-not-trunk_fine
returns-then-not-trunk_fine c =
    let r = not_fine (held (parts c.args.front c.args.extension c.args.figure c.args.numbers c.args.rows)) _ (sym c.spare_zero.ensures ∙ c.if-not-spare_zero.false) c.trunk_fine.ensures c.if-not-trunk_fine.true c.refuse-then-not-trunk_fine.ensures in
    record { value = r.0; left = r.1 }

pub returns-then-m-gt251 : goal.returns-then-m-gt251
returns-then-m-gt251 c =
    let s : Sized (held (parts c.args.front c.args.extension c.args.figure c.args.numbers c.args.rows)) c.contents_size-m.result = sized_by c.spare_zero.ensures c.if-not-spare_zero.false c.trunk_fine.ensures c.if-not-trunk_fine.false c.contents_size-m.ensures.value in
    let r = too_long s _ c.if-m-gt251.true c.refuse-then-m-gt251.ensures in
    record { value = r.0; left = r.1 }

pub returns-then-buf-whole : goal.returns-then-buf-whole
returns-then-buf-whole c =
    let s : Sized (held (parts c.args.front c.args.extension c.args.figure c.args.numbers c.args.rows)) c.contents_size-m.result = sized_by c.spare_zero.ensures c.if-not-spare_zero.false c.trunk_fine.ensures c.if-not-trunk_fine.false c.contents_size-m.ensures.value in
    let w : Whole (held (parts c.args.front c.args.extension c.args.figure c.args.numbers c.args.rows)) c.contents_size-m.result c.element_size-whole.result = record { sized = s; most = c.if-m-gt251.false; is = c.element_size-whole.ensures.by_index } in
    let r = no_room w _ c.if-buf-whole.true c.refuse-then-buf-whole.ensures in
    record { value = r.0; left = r.1 }

pub overflow_add-front : goal.overflow_add-front
overflow_add-front c =
    omega (arith, known_frame (parts c.args.front c.args.extension c.args.figure c.args.numbers c.args.rows) (sym c.trunk_fine.ensures ∙ c.if-not-trunk_fine.false))

pub put_lead-p-requires : goal.put_lead-p-requires
unfolding trunk_in
put_lead-p-requires c =
    let s : Sized (held (parts c.args.front c.args.extension c.args.figure c.args.numbers c.args.rows)) c.contents_size-m.result = sized_by c.spare_zero.ensures c.if-not-spare_zero.false c.trunk_fine.ensures c.if-not-trunk_fine.false c.contents_size-m.ensures.value in
    let w : Whole (held (parts c.args.front c.args.extension c.args.figure c.args.numbers c.args.rows)) c.contents_size-m.result c.element_size-whole.result = record { sized = s; most = c.if-m-gt251.false; is = c.element_size-whole.ensures.by_index } in
    (omega arith, lead_room w c.if-buf-whole.false)

pub put_contents-q-requires : goal.put_contents-q-requires
unfolding trunk_in
put_contents-q-requires c =
    let s : Sized (held (parts c.args.front c.args.extension c.args.figure c.args.numbers c.args.rows)) c.contents_size-m.result = sized_by c.spare_zero.ensures c.if-not-spare_zero.false c.trunk_fine.ensures c.if-not-trunk_fine.false c.contents_size-m.ensures.value in
    let w : Whole (held (parts c.args.front c.args.extension c.args.figure c.args.numbers c.args.rows)) c.contents_size-m.result c.element_size-whole.result = record { sized = s; most = c.if-m-gt251.false; is = c.element_size-whole.ensures.by_index } in
    record {
      rows_value = s.fine;
      rows_len_bound = omega (arith, w.most, s.contents);
      room = contents_room w c.if-buf-whole.false c.put_lead-p.ensures;
    }

pub overflow_cast-count : goal.overflow_cast-count
unfolding trunk_in
overflow_cast-count c =
    let s : Sized (held (parts c.args.front c.args.extension c.args.figure c.args.numbers c.args.rows)) c.contents_size-m.result = sized_by c.spare_zero.ensures c.if-not-spare_zero.false c.trunk_fine.ensures c.if-not-trunk_fine.false c.contents_size-m.ensures.value in
    let w : Whole (held (parts c.args.front c.args.extension c.args.figure c.args.numbers c.args.rows)) c.contents_size-m.result c.element_size-whole.result = record { sized = s; most = c.if-m-gt251.false; is = c.element_size-whole.ensures.by_index } in
    omega (arith, written_few w c.if-buf-whole.false c.put_lead-p.ensures c.put_contents-q.ensures)

pub returns : goal.returns
unfolding trunk_in
returns c =
    let s : Sized (held (parts c.args.front c.args.extension c.args.figure c.args.numbers c.args.rows)) c.contents_size-m.result = sized_by c.spare_zero.ensures c.if-not-spare_zero.false c.trunk_fine.ensures c.if-not-trunk_fine.false c.contents_size-m.ensures.value in
    let w : Whole (held (parts c.args.front c.args.extension c.args.figure c.args.numbers c.args.rows)) c.contents_size-m.result c.element_size-whole.result = record { sized = s; most = c.if-m-gt251.false; is = c.element_size-whole.ensures.by_index } in
    let r = written w c.if-buf-whole.false c.put_lead-p.ensures c.put_contents-q.ensures in
    record { value = r.0; left = r.1 }
