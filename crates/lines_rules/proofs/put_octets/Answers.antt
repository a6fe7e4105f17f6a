-- What is put and the text of the octets left make the whole text.
use Rattle.std.proofs.Common.{◌≡◌, ◌-◌, [], refl, arith}
use Rattle.coding.proofs.Writing.{wrote_none, wrote_next, wrote_as, wrote_both}
use Rattle.lines_rules.specs.Text.{hex_text}
use Rattle.lines_rules.proofs.Texts.{hex_more, hex_last}
use Rattle.lines_rules.proofs.put_octets.Goals as goal

pub returns-then-n-eq0-clause-wrote : goal.returns-then-n-eq0-clause-wrote
unfolding hex_text
returns-then-n-eq0-clause-wrote c = rw c.if-n-eq0.true (wrote_next (omega arith) (wrote_none _ _))

pub loop-i-init : goal.loop-i-init
loop-i-init c = (omega arith, omega arith, [], wrote_next (omega arith) (wrote_none _ _), refl)

pub loop-i-preserved : goal.loop-i-preserved
loop-i-preserved c =
    let i = c.loop-i.invariant in
    (omega arith, omega (arith, c.put_octet-at.ensures.place), _, wrote_both i.3 c.put_octet-at.ensures, hex_more _ _ _ c.requires.0 i.2 i.4 (omega arith))

pub returns-clause-wrote : goal.returns-clause-wrote
returns-clause-wrote c =
    let i = c.loop-i.invariant in
    let z : c.loop-i.i ≡ c.args.n - 1 = omega arith in
    wrote_as (hex_last _ _ _ c.requires.0 i.2 (rw z at i.4) (omega arith)) (wrote_both i.3 c.put_octet.ensures)
