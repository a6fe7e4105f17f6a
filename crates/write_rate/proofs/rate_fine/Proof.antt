use Rattle.prelude.proofs.Prelude.{le-leb}
use Rattle.write_tests.proofs.Truth.{told_no, told_yes}
use Rattle.write_rate.specs.inner.Prices.{price_fine}
use Rattle.write_rate.proofs.{Cited.{rules, tests}, Prices.rate_is, rate_fine.Statement.statement}
use Rattle.write_rate.proofs.rate_fine.Tie as tie

returns : tie.Need-returns-then-times_fine
unfolding price_fine
returns c =
    let t = c.before in
    let d = t.before.before in
    rw (rate_is, le-leb _ _ d.before.before.if-r-le4.true)
    (told_yes _ _ _ _ d.before.detail_fine.ensures d.if-detail_fine.true (told_yes _ _ _ _ t.before.times_fine.ensures t.if-times_fine.true c.amount_fine.ensures))

returns-2 : tie.Need-returns-else-times_fine
unfolding price_fine
returns-2 c =
    let d = c.before.before in
    rw (rate_is, le-leb _ _ d.before.before.if-r-le4.true)
    (told_yes _ _ _ _ d.before.detail_fine.ensures d.if-detail_fine.true (told_no _ _ _ c.before.times_fine.ensures c.if-times_fine.false))

pub rate_fine_spec : {M : Type 1} → statement M
unfolding price_fine
rate_fine_spec =
    tie.close
    (tie.spec (λ c κs. search rules) (λ c κs. search rules) (λ c κs. search rules) returns returns-2
    (λ c. rw (rate_is, le-leb _ _ c.before.before.if-r-le4.true) (told_no _ _ _ c.before.detail_fine.ensures c.if-detail_fine.false)) (λ c. search (tests, rate_is)))
