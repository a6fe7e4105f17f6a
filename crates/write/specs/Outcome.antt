-- What writing a record answers, and what it leaves in the buffer.
use Rattle.std.specs.Prelude.{ℕ, List, ◌++◌, ◌&&◌, cond, length, drop, leb}
use Rattle.coding.specs.Codec.{Run}
use Rattle.types.specs.declared.Record.{Record}
use Rattle.types.specs.Frames.{component}
use Rattle.write.specs.declared.Written.{Written}

abbrev pub done : ℕ → Written
done n = record { number = 0; count = n }

abbrev pub no : ℕ → Written
no n = record { number = n; count = 0 }

-- of a value of any family of frames
-- 10: a field out of range, or an unused place or field not zero; 11: the shortest form is over 254 octets; 12: it is over the buffer's length
abbrev pub write_family : {A : Type 0} → Run A → A → ℕ → Written
write_family family x room =
    cond (family.valid x)
    (cond (leb (length (family.write x)) 254)
    (cond (leb (length (family.write x)) room) (done (length (family.write x))) (no 12))
    (no 11))
    (no 10)

-- the shortest form and then what was there; or all that was there
abbrev pub left_family : {A : Type 0} → Run A → A → List ℕ → List ℕ
left_family family x before =
    cond (family.valid x && (leb (length (family.write x)) 254 && leb (length (family.write x)) (length before)))
    (family.write x ++ drop (length (family.write x)) before)
    before

unfoldable pub write_of : Record → ℕ → Written
write_of = write_family component

unfoldable pub left_of : Record → List ℕ → List ℕ
left_of = left_family component
