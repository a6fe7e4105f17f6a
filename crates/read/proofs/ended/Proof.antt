-- Each return by what is left to read.
use Rattle.prelude.proofs.Prelude.{arith, eq-eqb, ne_eqb, ap}
use Rattle.types.specs.Frames.{answered}
use Rattle.read_heads.proofs.Answers.{ends, leaves, twice, over_in}
use Rattle.read.specs.inner.Ways.{held, end_of}
use Rattle.read.proofs.{Tails.left_over, ended.Statement.statement, ended.Tie.close, ended.Tie.spec}

pub ended_spec : {M : Type 1} → statement M
unfolding end_of
ended_spec =
    close (spec (omega arith) (omega arith)
    (λ c. record { same = λ v m. rw (ne_eqb _ 0 c.before.before.if-fault-ne0.true, ← c.before.inner.ensures) c.refused.ensures })
    (omega arith)
    (λ c. let over = c.before in record {
      same = λ v m. rw (eq-eqb _ _ over.before.before.if-fault-ne0.false)
          (left_over _ v c.refused-then-next-h.ensures (over_in _ _ _ _ _ _ over.if-next-h.true));
    })
    (omega arith)
    (λ c. let whole = c.before.before.before in record {
      same = λ v m. rw (eq-eqb _ _ whole.before.before.if-fault-ne0.false)
          (left_over _ v c.refused-then-h.ensures (twice _ _ _ _ _ _ whole.if-next-h.false (leaves _ _ _ _ c.before.if-h.true)));
    })
    (λ c. let whole = c.before.before in record {
      same = λ v m. rw (eq-eqb _ _ whole.before.before.if-fault-ne0.false)
          (ap (λ x. held (answered x)) (twice _ _ _ _ _ _ whole.if-next-h.false (ends _ _ _ _ c.if-h.false)));
    }))
