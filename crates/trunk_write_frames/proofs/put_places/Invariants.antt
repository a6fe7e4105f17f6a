use Rattle.prelude.proofs.Prelude.{length, get_or}
use Rattle.write_rates.proofs.Tables.{Putting}
use Rattle.trunk_write_frames.specs.inner.Octets.{mode}
use Rattle.trunk_write_frames.proofs.put_places.Given as goal

abbrev pub invariant-loop-x : goal.invariant-loop-x
invariant-loop-x l = Putting mode (λ i. get_or l.places i 0) (length l.places) l.fn.buf l.buf l.at l.p l.x-index
