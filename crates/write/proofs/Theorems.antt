-- What the writer's answer and what it leaves say of reading.
use Rattle.prelude.proofs.Prelude.{ℕ, ◌≤◌, ◌≡◌, List, length, take}
use Rattle.coding.proofs.Laws.{Octets}
use Rattle.types.specs.{declared.Record.Record, Frames.component, Frames.read_of, Frames.accepted}
use Rattle.write.specs.Outcome.{done, write_of, left_of}
use Rattle.types.proofs.Theorems as Types
use Rattle.write.proofs.Family as Family

-- the answer's number is 0 only where the record may be written, is at most 254 octets, and fits
module _ (r : Record) (before : List ℕ) where
  abbrev size : ℕ
  size = length (component.write r)

  -- what is left where it is written: the shortest form first, of at most 254 octets, read back as the same record
  pub written_reads : (write_of r (length before)).number ≡ 0
      → ((write_of r (length before)).count ≡ size) × (size ≤ 254) × (read_of (take size (left_of r before)) ≡ accepted r)
  unfolding write_of left_of
  written_reads = Family.written_reads component r before read_of accepted (Types.reads_back r)

  -- a refusal is 10, 11 or 12 and leaves the buffer as it was
  pub refused_untouched : ((write_of r (length before)).number ≡ 0 → ⊥) → left_of r before ≡ before
  unfolding write_of left_of
  refused_untouched = Family.refused_untouched component r before

-- a record that was read is never refused 10 or 11, and its written form is not longer than what was read
pub read_writes : (s : List ℕ) (r : Record) (room : ℕ) → Octets s → read_of s ≡ accepted r → length s ≤ room
    → (write_of r room ≡ done (length (component.write r))) × (length (component.write r) ≤ length s)
unfolding write_of
read_writes s r room os e l = Family.fits_writes component r room (length s) (Types.read_fits s r os e) l
