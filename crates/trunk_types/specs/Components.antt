-- Components of a trunk: frames, and what reading octets answers.
use Rattle.std.specs.Prelude.{ℕ, ◌+◌, List, [], ◌∷◌, Bool, ◌&&◌, eqb}
use Rattle.coding.specs.Reader.{Ans, Fault}
use Rattle.coding.specs.Reader.Fault.{named}
use Rattle.coding.specs.Codec.{Run, prim, cons, canonical, frames, leads, marked, pick_run}
use Rattle.coding.specs.Leaves.{identifier}
use Rattle.types.specs.declared.Record.{Record}
use Rattle.types.specs.Frames.{outside, in_argument, front_by, uncharged, value, reject, read_family, answer_of}
use Rattle.trunk_types.specs.declared.Lead.{Lead}
use Rattle.trunk_types.specs.declared.Body.{Body}
use Rattle.trunk_types.specs.declared.Trunk.{Trunk}
use Rattle.trunk_types.specs.declared.TrunkAnswer.{TrunkAnswer}
use Rattle.trunk_types.specs.Extensions.{parameter, unextended}
use Rattle.trunk_types.specs.Bodies.{no_body, same_body, extending, detailed, network, argument_of, result_of}

-- a lead of six numbers, in their order
abbrev pub lead_by : ℕ → ℕ → ℕ → ℕ → ℕ → ℕ → Lead
lead_by k u i e o p = record { frame = k; unnamed = u; id = i; error = e; operation = o; problem = p }

abbrev pub trunk_by : Lead → Body → Trunk
trunk_by l b = record { lead = l; body = b }

abbrev pub no_trunk : Trunk
no_trunk = trunk_by (lead_by 0 0 0 0 0 0) no_body

abbrev pub same_lead : Lead → Lead → Bool
same_lead l m =
    ((eqb l.frame m.frame && eqb l.unnamed m.unnamed) && (eqb l.id m.id && eqb l.error m.error))
    && (eqb l.operation m.operation && eqb l.problem m.problem)

abbrev pub same_trunk : Trunk → Trunk → Bool
same_trunk r q = same_lead r.lead q.lead && same_body r.body q.body

abbrev pub id_of : Trunk → ℕ
id_of r = r.lead.id

-- ---- A1 and A2: what the operation has

abbrev pub trunk_operations : List ℕ
trunk_operations = 59 ∷ 60 ∷ 61 ∷ 62 ∷ 63 ∷ 64 ∷ 65 ∷ []

abbrev pub answerable : List ℕ
answerable = 59 ∷ 64 ∷ []

unfoldable pub carrying_body : ℕ → ℕ → ℕ → Run Body → Run Trunk
carrying_body k i o f = canonical (trunk_by (lead_by k 0 i 0 o 0)) (λ r. r.body) same_trunk (marked in_argument f)

unfoldable pub trunk_invoke : Run Trunk
trunk_invoke = leads (prim 0x02 identifier) id_of (λ i. leads (value 7 trunk_operations) (λ r. r.lead.operation) (λ o. carrying_body 1 i o (argument_of o)))

unfoldable pub trunk_result : Run Trunk
trunk_result =
    leads (prim 0x02 identifier) id_of (λ i. cons 0x30 (leads (value 7 answerable) (λ r. r.lead.operation) (λ o. carrying_body 2 i o (result_of o))))

-- ---- A3: identifier, error; after 1008 alone an optional parameter

abbrev pub trunk_errors : List ℕ
trunk_errors = 3 ∷ 10 ∷ 1008 ∷ 1016 ∷ []

unfoldable pub failing : ℕ → ℕ → Run Trunk
failing i e =
    canonical (λ x. trunk_by (lead_by 3 0 i e 0 0) (extending x)) (λ r. r.body.extension) same_trunk (pick_run (eqb e 1008) parameter unextended)

unfoldable pub trunk_error : Run Trunk
trunk_error = leads (prim 0x02 identifier) id_of (λ i. leads (value 8 trunk_errors) (λ r. r.lead.error) (failing i))

-- ---- A4: as document 01 has it

abbrev pub of_reject : Record → Trunk
of_reject r = trunk_by (lead_by r.front.frame r.front.unnamed r.front.id 0 0 r.front.problem) (detailed r.front.detail)

abbrev pub reject_of : Trunk → Record
reject_of r = uncharged (front_by r.lead.frame r.lead.unnamed r.lead.id 0 0 r.lead.problem r.body.detail)

unfoldable pub rejected : Run Trunk
rejected = canonical of_reject reject_of same_trunk reject

-- ---- AA: every failure inside is 6

abbrev pub in_network : Fault → Fault
in_network w = named 6

unfoldable pub facility : Run Trunk
facility = canonical (trunk_by (lead_by 10 0 0 0 0 0)) (λ r. r.body) same_trunk (marked in_network network)

-- ---- a component by its first octet; octets left over are 5

abbrev pub tags : List ℕ
tags = 0xa1 ∷ 0xa2 ∷ 0xa3 ∷ 0xa4 ∷ 0xaa ∷ []

unfoldable pub trunk_frame : ℕ → Run Trunk
trunk_frame tag =
    pick_run (eqb tag 0xa1) trunk_invoke
    (pick_run (eqb tag 0xa2) trunk_result
    (pick_run (eqb tag 0xa3) trunk_error
    (pick_run (eqb tag 0xa4) rejected facility)))

unfoldable pub trunk_component : Run Trunk
trunk_component = frames tags (λ r. 0xa0 + r.lead.frame) outside (named 5) trunk_frame

-- ---- what reading octets answers

abbrev pub trunk_accepted : Trunk → TrunkAnswer
trunk_accepted x = record { number = 0; offset = 0; value = x }

abbrev pub trunk_refused : ℕ → ℕ → TrunkAnswer
trunk_refused n p = record { number = n; offset = p; value = no_trunk }

abbrev pub trunk_answered : Ans Trunk → TrunkAnswer
trunk_answered = answer_of (λ n p x. record { number = n; offset = p; value = x }) no_trunk

unfoldable pub read_whole_trunk : List ℕ → Ans Trunk
read_whole_trunk = read_family trunk_component

unfoldable pub read_trunk : List ℕ → TrunkAnswer
read_trunk s = trunk_answered (read_whole_trunk s)
