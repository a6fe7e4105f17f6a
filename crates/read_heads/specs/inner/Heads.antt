-- What comes before an argument or result, and what is left to read once it is known. For the reader's inner functions.
use Rattle.std.specs.Prelude.{cond, ℕ, ◌+◌, ◌-◌, List, [], ◌∷◌, ◌⊎◌, length, ltb, leb, eqb}
use Rattle.std.proofs.Common.{inl, inr}
use Rattle.coding.specs.Reader.{Ans, Reader, Fault, after, closed, choice}
use Rattle.coding.specs.Reader.Ans.{got, halt}
use Rattle.coding.specs.Reader.Fault.{missing, unexpected, cut, form, shortest, contents, limit, named}
use Rattle.coding.specs.Codec.{Run, pick_run, prim, one_of}
use Rattle.coding.specs.Leaves.{number}
use Rattle.read_elements.specs.declared.NumberRead.{NumberRead}
use Rattle.types.specs.declared.Front.{Front}
use Rattle.types.specs.declared.Record.{Record}
use Rattle.types.specs.Frames.{front_by, no_front, uncharged, operations, errors, argument, carrying}
use Rattle.read_heads.specs.declared.Head.{Head}
use Rattle.read_heads.specs.declared.Caller.{Caller}
use Rattle.read_heads.specs.declared.Problem.{Problem}

-- ---- the numbers by which the code reports a fault

abbrev pub outside_code : ℕ → ℕ
outside_code k =
    cond (leb 100 k) k (cond (eqb k 40) 101 (cond (eqb k 41) 104 (cond (eqb k 42) 101 (cond (eqb k 2) 102 106))))

abbrev pub argument_code : ℕ → ℕ
argument_code k = cond (ltb k 100) (100 + k) k

-- the fault that such a number reports
abbrev pub fault_by : ℕ → Fault
fault_by k =
    cond (leb 100 k) (named (k - 100))
    (cond (eqb k 2) form
    (cond (eqb k 40) missing
    (cond (eqb k 41) unexpected
    (cond (eqb k 42) cut
    (cond (eqb k 43) shortest
    (cond (eqb k 45) limit contents))))))

-- ---- the values known in a frame (1 invoke, 2 return result, 3 return error), and the refusal of the others

abbrev pub known_in : ℕ → List ℕ
known_in k = cond (eqb k 1) operations (cond (eqb k 2) (30 ∷ []) errors)

abbrev pub unknown_in : ℕ → ℕ
unknown_in k = cond (eqb k 3) 8 7

-- a number that is read, looked up in a list: another is refused at its place
unfoldable pub looked_up : ℕ → List ℕ → ℕ → NumberRead → ℕ × ℕ × ℕ × ℕ
looked_up unknown known at r =
    cond (eqb r.fault 0) (cond (one_of known r.value) (r.fault, r.place, r.value, r.next) (100 + unknown, at, 0, 0))
    (r.fault, r.place, 0, 0)

-- ---- a frame's contents, from a place up to another, in octets that end with the component

unfoldable pub contents_of : Run Record → List ℕ → ℕ → ℕ → Ans Record
contents_of f s start stop = after (f.read s start stop) (λ v last. closed v last stop (length s))

-- ---- what is left to read

-- reading stopped at a place
abbrev pub no_head : ℕ → ℕ → Head
no_head fault at = record { fault = fault; at = at; stop = 0; next = 0; end = 0; front = no_front }

-- the argument or result lies from at to stop, in an element that ends at next, in contents that end at end
unfoldable pub tail_of : Run Record → Head → List ℕ → Ans Record
tail_of f h s =
    after (f.read s h.at h.stop) (λ v last. after (closed v last h.stop h.next) (λ w m. closed w m h.end (length s)))

unfoldable pub rest_of : Head → List ℕ → Ans Record
rest_of h s =
    let f : Front = h.front in
    cond (eqb f.frame 0) (halt (fault_by h.fault) h.at)
    (cond (leb 3 f.frame) (got (uncharged f) (length s))
    (tail_of (pick_run (eqb f.frame 1) (argument f.id f.operation) (carrying 2 f.id f.operation)) h s))

-- ---- a reject's parts

abbrev pub caller_by : Caller → Unit {0} ⊎ ℕ
caller_by c = cond (eqb c.unnamed 1) (inl tt) (inr c.id)

abbrev pub rejected_by : Caller → ℕ → ℕ → Record
rejected_by c tag n = uncharged (front_by 4 c.unnamed c.id 0 0 tag n)

unfoldable pub problem_in : ℕ → ℕ → Reader Problem
problem_in tag most s at end = after ((prim tag (number 0 most)).read s at end) (λ n next. got (record { tag = tag; detail = n }) next)

unfoldable pub problems_in : Reader Problem
problems_in = choice 0x80 (problem_in 0x80 2) (choice 0x81 (problem_in 0x81 7) (choice 0x82 (problem_in 0x82 2) (problem_in 0x83 4)))
