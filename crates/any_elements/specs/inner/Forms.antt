-- The shortest forms of elements up to an end: how many octets they have, and the octets. What calls itself by the octets answers one number.
use Rattle.std.specs.Prelude.{ℕ, ◌+◌, ◌*◌, List, [], Bool, true, false, cond, length, get_or, eqb}
use Rattle.coding.specs.declared.Extent.{Extent}
use Rattle.coding.specs.Reader.{Ans, got, halt, Reader, Fault, code, after, opened}
use Rattle.coding.specs.Normal.{Several, write_several}

-- a fault: past every size
unfoldable pub fault_number : Fault → ℕ → ℕ
fault_number w p = 1000 + code w + 256 * p

-- how many octets the shortest forms have, or the fault
unfoldable pub sized : Ans Several → ℕ
sized (got es n) = length (write_several es)
sized (halt w p) = fault_number w p

-- an element of any tag, opened; 00 is none
unfoldable pub opened_any : Reader Extent
opened_any s at end = cond (eqb (get_or s at 0) 0) (halt Fault.unexpected at) (opened (get_or s at 0) s at end)

-- where its contents begin and end, and the place after it: past every fault
unfoldable pub span_number : Ans Extent → ℕ
span_number (got x n) = x.start + 512 * x.stop + 0x40000 * n
span_number (halt w p) = fault_number w p

-- elements that are read, and the octets of their shortest forms
abbrev pub is_read : {A : Type 0} → Ans A → Bool
is_read (got v n) = true
is_read (halt w p) = false

unfoldable pub forms_of : Ans Several → List ℕ
forms_of (got es n) = write_several es
forms_of (halt w p) = []

-- where an element ends, whatever it is
unfoldable pub told : {A : Type 0} → Ans A → Ans (Unit {0})
told r = after r (λ x n. got tt n)
