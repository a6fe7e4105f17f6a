-- Each return by the answers that led to it.
use Rattle.prelude.proofs.Prelude.{arith, ◌≡◌, refl, ◌∙◌}
use Rattle.coding.{specs.Reader.after, specs.Reader.closed, specs.inner.Shown.shown, proofs.Reading.reading, proofs.Reading.remains, proofs.Reading.shut, proofs.Reading.stay, proofs.Reading.step}
use Rattle.types.specs.{Charges.scaled, Rates.no_rate, Rates.duration}
use Rattle.read_lengths.specs.inner.Bounds.{Bounded}
use Rattle.read_rate.specs.inner.Readers.{step_time, rated_as}
use Rattle.read_rate.proofs.{Steps.duration_read, duration_at.Statement.statement}
use Rattle.read_rate.proofs.duration_at.Tie as tie

-- what is left to read where the type is read, and what is known there
typed : (c : tie.Else-d-ne0) →
    let d = c.before.before in
    let m = d.before.before.before in
    let e = m.before.before.before in
    let g = e.args in
    let o = e.open_at-e.result in
    (shown no_rate (after ((scaled 0xa4).read g.s.now d.natural_at-d.result.next o.value.stop) (λ t n.
    after (step_time g.s.now n o.value.stop) (λ h last.
    closed (rated_as 1 m.money_at-m.result.value d.natural_at-d.result.value t h) last o.value.stop o.next)))
    ≡ shown no_rate ((duration g.trunk).read g.s.now g.at g.end))
    × Bounded g.s.now o.value.stop
typed c = (rw duration_read (search (step, refl) depth 8), omega arith)

pub duration_at_spec : {M : Type 1} → statement M
duration_at_spec =
    tie.close
    (tie.spec (omega arith) (omega arith) (λ c. rw duration_read (c.no_rate.ensures ∙ search reading)) (omega arith) (omega arith)
    (λ c. rw duration_read (c.no_rate-then-m-ne0.ensures ∙ search reading depth 8)) (omega arith) (omega arith)
    (λ c. rw duration_read (c.no_rate-then-d-ne0.ensures ∙ search (step, stay) depth 8)) (omega arith) (omega arith)
    (λ c. let k = c.before.before.before in c.no_rate-then-t-ne0.ensures ∙ search stay ∙ (typed k.before).0)
    (λ c κs. let k = c.before.before.before in (typed k).1) (omega arith)
    (λ c.
    let t = c.before.before.before in
    let k = t.before.before.before in
    c.no_rate-then-g-ne0.ensures ∙ search (step, stay) ∙ (typed k.before).0)
    (omega arith)
    (λ c.
    let l = c.before.before.before in
    let t = l.before.before.before in
    let k = t.before.before.before in
    c.no_rate-then-g-e.ensures ∙ search (step, remains) depth 8 ∙ (typed k.before).0)
    (omega arith) (omega arith)
    (λ c.
    let k = c.before.before.before.before.before.before.before.before.before.before.before in
    c.rate_read.ensures ∙ search (step, shut) depth 8 ∙ (typed k.before.before.before).0))
