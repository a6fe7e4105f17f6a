-- Each return by the answers that led to it.
use Rattle.prelude.proofs.Prelude.{arith, rules, ◌≡◌, refl, ◌∙◌, replicate}
use Rattle.coding.{specs.Reader.after, specs.Reader.Ans.got, specs.Codec.prim, specs.Leaves.number, specs.inner.Shown.shown, proofs.Reading.reading, proofs.Reading.step, proofs.Reading.gives}
use Rattle.types.specs.Stored.{association_in}
use Rattle.read_lengths.specs.inner.Bounds.{Bounded}
use Rattle.read_figures.{specs.inner.Beside.SameBeside, proofs.Answers.storing, proofs.Answers.goes}
use Rattle.trunk_types.specs.{Bodies.no_body, Bodies.naming, Bodies.address, Bodies.network, Stored.Spare}
use Rattle.trunk_read_fields.proofs.{Stores.zero_clear, Stores.zero_spare, Stores.user_spare, Stores.entities_spare, Stores.network_read, Stores.network_arrived, network_at.Statement.statement}
use Rattle.trunk_read_fields.proofs.network_at.Tie as tie

-- what is left to read where the first address is read, and what is known there
addressed : (c : tie.Else-u-ne0) →
    let u = c.before.before in
    let n = u.before.before.before.before.before in
    let g = n.before.before.args in
    let front = u.address_at-u.new.figure in
    (shown no_body (after ((prim 0x82 (number 0 1)).read g.s.now u.address_at-u.result.next g.end) (λ i l.
    after ((address 0xa3).read g.s.now l g.end) (λ a last. got (naming n.natural_at-d.result.value i (association_in front) a) last)))
    ≡ shown no_body (network.read g.s.now g.at g.end))
    × (g.front.now ≡ replicate 48 0) × SameBeside g.front.now front × (g.figure.now ≡ replicate 48 0) × Bounded g.s.now g.end × Spare front
addressed c =
    let u = c.before.before in
    let n = u.before.before.before.before.before in
    let p = n.before.before.requires in
    let k = u.address_at-u.ensures.1 in
    (rw network_read (search (goes, step, refl) depth 8), p.1.0, k, p.1.1, p.0, user_spare _ u.address_at-u.new.figure p.1.0 k)

pub network_at_spec : {M : Type 1} → statement M
network_at_spec =
    tie.close
    (tie.spec (omega arith) (omega arith) (λ c. (rw network_read (search (storing, reading)), search zero_spare)) (omega arith)
    (λ c κs. search (rules, zero_clear)) (omega arith) (λ c. (rw network_read (search (storing, reading)), search user_spare)) (omega arith) (omega arith)
    (λ c. let m = addressed c.before.before.before.before in (search (storing, reading) ∙ m.0, m.5)) (omega arith)
    (λ c κs. let m = addressed c.before.before.before.before.before in (m.4, zero_clear _ m.3)) (omega arith)
    (λ c.
    let h = c.before.before.before.before.before.before in
    let m = addressed h.before.before.before in
    (search (storing, reading) ∙ m.0, m.5)) (omega arith) (omega arith) (omega arith)
    (λ c.
    let a = c.before.before.before.before in
    let e = a.before.before.before.before.before in
    let u = e.before.before.before in
    let n = u.before.before.before.before.before in
    let front = u.address_at-u.new.figure in
    let figure = a.address_at-a.new.figure in
    let source = n.natural_at-d.result.value in
    let destination = e.natural_at-e.result.value in
    let m = addressed e.before in (
      network_arrived _ _ front _ figure m.1 m.2 m.3 a.address_at-a.ensures.1 c.reached.ensures source destination
          (search (goes, step, gives) ∙ m.0),
      entities_spare _ front m.1 m.2 source destination,
    )))
