-- All of a record but its charge: which may be written, and its octets. For the writer's inner functions.
use Rattle.std.specs.Prelude.{ℕ, ◌+◌, List, [], ◌∷◌, ◌++◌, Bool, false, not, ◌&&◌, ◌||◌, cond, leb, eqb}
use Rattle.coding.specs.Codec.{one_of, prim}
use Rattle.coding.specs.Leaves.{identifier}
use Rattle.coding.specs.inner.Written.{lead, full_number}
use Rattle.types.specs.Frames.{operations, errors, front_by, same_front}
use Rattle.types.specs.declared.Front.{Front}

-- a charge follows
abbrev pub charged : Front → Bool
charged f = (eqb f.frame 1 && not (eqb f.operation 30)) || eqb f.frame 2

-- a reject: NULL has no identifier; the problems 80 general (0 to 2), 81 invoke (0 to 7), 82 result (0 to 2), 83 error (0 to 4)
abbrev pub called : Front → Bool
called f = cond (eqb f.unnamed 1) (eqb 0 f.id) (eqb 0 f.unnamed)

abbrev pub problem_fine : ℕ → ℕ → Bool
problem_fine p d =
    cond (eqb p 0x80) (leb d 2) (cond (eqb p 0x81) (leb d 7) (cond (eqb p 0x82) (leb d 2) (eqb 0x83 p && leb d 4)))

unfoldable pub front_fine : Front → Bool
front_fine f =
    cond (eqb f.frame 1)
    (one_of operations f.operation && cond (eqb f.operation 30) (same_front (front_by 1 0 f.id 30 0 0 f.detail) f && leb f.detail 2) (same_front (front_by 1 0 f.id f.operation 0 0 0) f))
    (cond (eqb f.frame 2) (one_of (30 ∷ []) f.operation && same_front (front_by 2 0 f.id f.operation 0 0 0) f)
    (cond (eqb f.frame 3) (same_front (front_by 3 0 f.id 0 f.error 0 0) f && one_of errors f.error)
    (cond (eqb f.frame 4) (called f && (same_front (front_by 4 f.unnamed f.id 0 0 f.problem f.detail) f && problem_fine f.problem f.detail))
    false)))

-- what is written before a charge of n octets
abbrev pub id_octets : Front → List ℕ
id_octets f = (prim 0x02 identifier).write f.id

unfoldable pub front_octets : Front → ℕ → List ℕ
front_octets f n =
    cond (eqb f.frame 1) (id_octets f ++ (full_number 0x02 f.operation ++ cond (eqb f.operation 30) (full_number 0x0a f.detail) []))
    (cond (eqb f.frame 2) (id_octets f ++ (lead 0x30 (3 + n) ++ full_number 0x02 f.operation))
    (cond (eqb f.frame 3) (id_octets f ++ full_number 0x02 f.error)
    (cond (eqb f.unnamed 1) (lead 0x05 0) (id_octets f) ++ full_number f.problem f.detail)))
