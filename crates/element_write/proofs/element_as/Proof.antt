use Rattle.prelude.proofs.Prelude.{rules, arith, ℕ, ◌≤◌, ◌≡◌, sym, ◌∙◌, true, List, length, not-true, not-false}
use Rattle.element_write.specs.Round.{element_holds}
use Rattle.element_write.proofs.{Left.not_held, Left.no_room, Left.room_behind, Left.wrote_few, Left.wrote_all, element_as.Statement.statement}
use Rattle.element_write.proofs.element_as.Tie as tie

abbrev start : tie.After-is_held → tie.Start
start c = c.before.before.before

held : (c : tie.Else-not-is_held) → (element_holds (start c.before).args.octets.now ≡ true) × (length (start c.before).args.octets.now ≤ 254)
held c =
    let t = c.if-not-is_held.false in
    (sym c.before.is_held.ensures.0 ∙ t, c.before.is_held.ensures.1 t)

-- the three octets are stored
abbrev headed : tie.After-put_octets-arg-1 → tie.After-put_head-p
headed c = c.before.before.before

abbrev roomy : tie.After-put_head-p → tie.Else-buf-n
roomy c = c.before.before

abbrev given : tie.After-put_head-p → List ℕ
given h = (start (roomy h).before.before).args.octets.now

put-octets-requires : tie.Need-put_octets-q-requires
put-octets-requires c κs =
    let h = headed c in
    (omega arith, room_behind _ (given h) _ (roomy h).if-buf-n.false h.put_head-p.ensures)

cast-count : tie.Need-overflow_cast-count
cast-count c =
    let o = c.before.before in
    let h = headed o.before in
    omega (arith, wrote_few _ (given h) _ (roomy h).if-buf-n.false h.put_head-p.ensures o.put_octets-q.ensures (held (roomy h).before).1)

returns-3 : tie.Need-returns
returns-3 c =
    let o = c.before.before in
    let h = headed o.before in
    wrote_all _ (given h) _ (roomy h).if-buf-n.false h.put_head-p.ensures o.put_octets-q.ensures (held (roomy h).before).0

pub element_as_spec : {M : Type 1} → statement M
element_as_spec =
    tie.close
    (tie.spec (search rules) (search rules)
    (λ c. let f = c.before.before in not_held _ _ _ (sym f.is_held.ensures.0 ∙ c.before.if-not-is_held.true) c.refuse.ensures)
    (search rules) (search rules)
    (λ c. no_room _ _ _ (held c.before.before).0 c.before.if-buf-n.true c.refuse-then-buf-n.ensures)
    (λ c κs. ((held c.before.before).1, record { fits = omega (arith, c.before.if-buf-n.false) })) put-octets-requires cast-count (search rules) returns-3)
