-- A duration read in the code's steps: the same answers.
use Rattle.prelude.proofs.Prelude.{ℕ, ◌≡◌, List, Bool}
use Rattle.coding.{specs.Reader.after, specs.Reader.opened, specs.Reader.closed, specs.Reader.optional, specs.Reader.constructed, specs.Codec.prim, specs.Codec.cons, specs.Codec.pair}
use Rattle.coding.{specs.Codec.maybe, specs.Codec.canonical, specs.Codec.over, specs.Leaves.number, proofs.Reading.flat}
use Rattle.types.specs.{Charges.scaled, Charges.money, Rates.duration}
use Rattle.read_rate.specs.inner.Readers.{step_time, rated_as}

pub duration_read : (trunk : Bool) (s : List ℕ) (at end : ℕ) →
    (duration trunk).read s at end ≡
    after (opened 0xa1 s at end) (λ e next.
    after ((money trunk).read s e.start e.stop) (λ m a.
    after ((prim 0x83 (number 0 1)).read s a e.stop) (λ d b.
    after ((scaled 0xa4).read s b e.stop) (λ t c.
    after (step_time s c e.stop) (λ g last.
    closed (rated_as 1 m d t g) last e.stop next)))))
unfolding duration cons constructed canonical over pair maybe optional step_time
duration_read trunk s at end = simp flat
