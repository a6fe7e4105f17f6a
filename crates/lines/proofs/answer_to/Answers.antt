-- A record that was read is valid and its shortest form is no longer than what was read, so the writer never refuses it.
use Rattle.std.proofs.Common.{arith}
use Rattle.coding.proofs.Writing.{wrote_as}
use Rattle.lines.proofs.Replies.{number_below, reply_refused, written_of}
use Rattle.lines.proofs.answer_to.Goals as goal

pub put_refused-requires : goal.put_refused-requires
put_refused-requires c = (omega (arith, number_below _ _ c.read_into-a.ensures), omega arith)

pub returns-then-number-ne0-clause-wrote : goal.returns-then-number-ne0-clause-wrote
returns-then-number-ne0-clause-wrote c = wrote_as (reply_refused _ _ c.read_into-a.ensures c.if-number-ne0.true) c.put_refused.ensures.wrote

pub put_refused-requires-then-refusal-ne0 : goal.put_refused-requires-then-refusal-ne0
put_refused-requires-then-refusal-ne0 c =
    let r = c.read_into-a.new in
    let w = c.write_from-w.ensures in
    let f = written_of r.front r.figure r.numbers r.rows _ c.read_into-a.ensures c.front_of-front.ensures (λ i. omega (arith, c.type_inv.octets i)) c.if-number-ne0.false (omega arith) w.value w.left in
    absurd (c.if-refusal-ne0.true f.accepted)

pub returns-then-refusal-ne0-clause-wrote : goal.returns-then-refusal-ne0-clause-wrote
returns-then-refusal-ne0-clause-wrote c =
    let r = c.read_into-a.new in
    let w = c.write_from-w.ensures in
    let f = written_of r.front r.figure r.numbers r.rows _ c.read_into-a.ensures c.front_of-front.ensures (λ i. omega (arith, c.type_inv.octets i)) c.if-number-ne0.false (omega arith) w.value w.left in
    absurd (c.if-refusal-ne0.true f.accepted)

pub put_octets-requires : goal.put_octets-requires
put_octets-requires c =
    let r = c.read_into-a.new in
    let w = c.write_from-w.ensures in
    let f = written_of r.front r.figure r.numbers r.rows _ c.read_into-a.ensures c.front_of-front.ensures (λ i. omega (arith, c.type_inv.octets i)) c.if-number-ne0.false (omega arith) w.value w.left in
    (f.inside, f.few, omega (arith, c.requires))

pub returns-clause-wrote : goal.returns-clause-wrote
returns-clause-wrote c =
    let r = c.read_into-a.new in
    let w = c.write_from-w.ensures in
    let f = written_of r.front r.figure r.numbers r.rows _ c.read_into-a.ensures c.front_of-front.ensures (λ i. omega (arith, c.type_inv.octets i)) c.if-number-ne0.false (omega arith) w.value w.left in
    wrote_as f.text c.put_octets.ensures.wrote
