use Rattle.write_elements.proofs.Parts.{room_2, wrote_two}
use Rattle.write_figures.proofs.Sizes.{money_multiplier, money_octets_lem, money_1}
use Rattle.write_figures.proofs.put_money.Goals as goal

pub put_string-p-requires-clause-room : goal.put_string-p-requires-clause-room
put_string-p-requires-clause-room c = rw c.from-n.ensures (search money_1)

pub put_scaled-requires : goal.put_scaled-requires
put_scaled-requires c =
    let p = rw c.from-n.ensures at c.put_string-p.ensures in (money_multiplier _ c.requires.0, room_2 (money_octets_lem _ c.requires.0) c.requires.1 p)

pub returns : goal.returns
returns c = let p = rw c.from-n.ensures at c.put_string-p.ensures in wrote_two (money_octets_lem _ c.requires.0) p c.put_scaled.ensures
