-- The octets of a charge, part by part.
use Rattle.std.specs.Prelude.{false, cond, ℕ, ◌+◌, List, [], ◌++◌, length, ltb, eqb}
use Rattle.coding.specs.Codec.{pair, prim, write_all}
use Rattle.coding.specs.Leaves.{number, given}
use Rattle.coding.specs.inner.Written.{lead, full_number}
use Rattle.types.specs.declared.Figure.{Figure}
use Rattle.types.specs.declared.Charge.{Charge}
use Rattle.types.specs.Charges.{money, association}
use Rattle.types.specs.Entries.{unit, unit_list}
use Rattle.types.specs.Rates.{rate, rate_list}
use Rattle.types.specs.Arguments.{plain, billing_of}
use Rattle.write_elements.specs.inner.Element.{element}

-- an optional billing identification
unfoldable pub billing_octets : ℕ → ℕ → ℕ → List ℕ
billing_octets tag billed billing = cond (eqb billed 1) (full_number tag billing) []

-- after a figure's A1: 82 type, optional 83 billing; at the end of the call an optional 82 billing
unfoldable pub marks : ℕ → Figure → List ℕ
marks o f =
    cond (ltb o 35) ((pair (prim 0x82 (number 0 1)) (given 0x83 (number 0 2))).write (f.total, billing_of (plain f)))
    ((given 0x82 (number 0 7)).write (billing_of (plain f)))

-- a figure whose A1 holds these octets
unfoldable pub framed : ℕ → Figure → List ℕ → List ℕ
framed o f xs = element 0x30 (element 0xa1 xs ++ marks o f)

-- at the end of the call, with its association
unfoldable pub ended : ℕ → Figure → List ℕ → List ℕ
ended o f xs = cond (ltb o 35) xs (element 0x30 (xs ++ (association false).write f.association))

-- a charge whose A1 or list holds these octets
unfoldable pub written : ℕ → Figure → List ℕ → List ℕ
written o f xs =
    cond (eqb f.kind 0) (lead 0x05 0)
    (cond (eqb f.kind 1) (ended o f (lead 0x81 0))
    (cond (eqb f.kind 4) (element 0x30 xs)
    (cond (eqb f.kind 5) (full_number 0x02 f.arrangement) (ended o f (framed o f xs)))))

-- what the A1 or the list of a charge holds
unfoldable pub contents : Charge → List ℕ
contents c =
    cond (eqb c.figure.kind 2) ((money false).write c.figure.money)
    (cond (eqb c.figure.kind 3) (write_all unit.write (unit_list c.entries c.figure.count))
    (cond (eqb c.figure.kind 4) (write_all (rate false).write (rate_list c.entries c.figure.count)) []))

-- what comes before the octets that an A1 holds, n of them, and after them
unfoldable pub frame_lead : ℕ → Figure → ℕ → List ℕ
frame_lead o f n = lead 0x30 (length (lead 0xa1 n) + n + length (marks o f)) ++ lead 0xa1 n

unfoldable pub before : ℕ → Figure → ℕ → List ℕ
before o f n =
    cond (ltb o 35) (frame_lead o f n)
    (lead 0x30 (length (frame_lead o f n) + n + length (marks o f) + length ((association false).write f.association)) ++ frame_lead o f n)

unfoldable pub after : ℕ → Figure → List ℕ
after o f = cond (ltb o 35) (marks o f) (marks o f ++ (association false).write f.association)
