use Rattle.types.specs.{declared.Answer.Answer, Frames.read_of}
use Rattle.events.proofs.Prefix.{turn_inside, part_at}
use Rattle.plain_scans.proofs.{Cited.{◌+◌, ◌≤◌, ◌∙◌, ap, arith, length}, charge_at.Statement.statement}
use Rattle.plain_scans.proofs.charge_at.Tie as tie

-- the octets of the event end inside
module _ (n : tie.After-count_at) where
  abbrev start : tie.Start
  start = n.before.before.before.before

  ends : n.before.place_of-at.result + n.count_at.result ≤ length start.args.octets.now
  ends =
      turn_inside start.args.rows.now start.args.octets.now start.args.k n.before.place_of-at.ensures n.count_at.ensures
      start.requires.0 start.requires.1

returns : tie.Need-returns
returns c =
    let n = c.before.before.before in
    ap (λ (a : Answer). a.value.charge)
    (c.before.read-a.ensures
    ∙ ap read_of (part_at (start n).args.rows.now (start n).args.octets.now (start n).args.k n.before.place_of-at.ensures n.count_at.ensures))

pub charge_at_spec : {M : Type 1} → statement M
charge_at_spec =
    tie.close (tie.spec (λ c κs. (c.before.before.requires.0, omega (arith, c.before.before.requires.1))) (λ c κs. c.before.before.before.requires.1)
    (λ c. omega (arith, ends c))
    (omega arith) (omega arith) (λ c. omega (arith, ends c)) (omega arith) returns)
