-- An entry of units read in the code's steps: the same answers.
use Rattle.prelude.proofs.Prelude.{ℕ, ◌≡◌, List}
use Rattle.coding.{specs.Reader.after, specs.Reader.opened, specs.Reader.closed, specs.Reader.optional, specs.Reader.constructed, specs.Codec.cons, specs.Codec.pair, specs.Codec.alt}
use Rattle.coding.{specs.Codec.maybe, specs.Codec.canonical, specs.Codec.over, specs.Leaves.number, specs.Leaves.given, proofs.Reading.flat}
use Rattle.types.specs.Entries.{unit}
use Rattle.read_unit.specs.inner.Readers.{unit_number}

pub unit_read : (s : List ℕ) (at end : ℕ) →
    unit.read s at end ≡
    after (opened 0x30 s at end) (λ e next.
    after (unit_number s e.start e.stop) (λ u m.
    after ((given 0x02 (number 1 16)).read s m e.stop) (λ k last.
    closed (record { number = u.number; known = u.known; kind = k.value }) last e.stop next)))
unfolding unit cons constructed canonical over pair alt maybe optional given unit_number
unit_read s at end = simp flat
