-- One layer 3 message: 08; 00, or 01 or 02 with that many reference octets; a type octet; elements to the exact end. And a trace of them.
use Rattle.std.specs.Prelude.{ℕ, zero, suc, ◌+◌, ◌-◌, ◌*◌, ◌/◌, ◌%◌, ◌≤◌, ◌≡◌, List, [], ◌∷◌, Option, None, Some, Bool, true, false, not, ◌&&◌, cond, length, get_or, take, drop, eqb, leb}
use Rattle.trace_framing.specs.declared.TraceVerdict.{TraceVerdict}

-- ---- one message

-- the place after the element at a place: one octet where the top bit is set, else with a length octet, a plain number
abbrev pub element_end : List ℕ → ℕ → ℕ
element_end s at = cond (leb 0x80 (get_or s at 0)) (at + 1) (at + 2 + get_or s (at + 1) 0)

-- elements from a place to the exact end. Each has an octet at least, so that as many turns as octets and one are enough
unfoldable pub elements_fit : ℕ → List ℕ → ℕ → Bool
elements_fit zero s at = false
elements_fit (suc turns) s at = cond (eqb at (length s)) true (leb (element_end s at) (length s) && elements_fit turns s (element_end s at))

abbrev pub fit_from : List ℕ → ℕ → Bool
fit_from s at = elements_fit (suc (length s)) s at

-- where the type octet is: after the reference, whose count of octets is the second octet
abbrev pub type_place : List ℕ → ℕ
type_place s = 2 + get_or s 1 0

abbrev pub type_of : List ℕ → ℕ
type_of s = get_or s (type_place s) 0

abbrev pub headed : List ℕ → Bool
headed s = leb 3 (length s) && (eqb (get_or s 0 0) 0x08 && (leb (get_or s 1 0) 2 && leb (type_place s + 1) (length s)))

unfoldable pub framed : List ℕ → Bool
framed s = headed s && fit_from s (type_place s + 1)

-- ---- a trace: the messages' octets end to end, and for each a pair of length and direction

pub record Message : Type 0 where
  pub octets : List ℕ
  pub network : Bool

abbrev pub message : List ℕ → Bool → Message
message s n = record { octets = s; network = n }

abbrev pub message_length : List ℕ → ℕ → ℕ
message_length pairs i = get_or pairs (i * 2) 0

-- direction 0 is the user, any other the network
abbrev pub by_network : List ℕ → ℕ → Bool
by_network pairs i = not (eqb (get_or pairs (i * 2 + 1) 0) 0)

-- whether the lengths of k pairs from i on add up to the octets that are left
unfoldable pub lengths_fit : List ℕ → ℕ → ℕ → ℕ → Bool
lengths_fit pairs i zero left = eqb left 0
lengths_fit pairs i (suc k) left = leb (message_length pairs i) left && lengths_fit pairs (i + 1) k (left - message_length pairs i)

unfoldable pub lengths_add_up : List ℕ → ℕ → Bool
lengths_add_up pairs total = eqb (length pairs % 2) 0 && lengths_fit pairs 0 (length pairs / 2) total

unfoldable pub messages_from : List ℕ → List ℕ → ℕ → ℕ → ℕ → List Message
messages_from pairs octets i zero at = []
messages_from pairs octets i (suc k) at =
    record { octets = take (message_length pairs i) (drop at octets); network = by_network pairs i } ∷ messages_from pairs octets (i + 1) k (at + message_length pairs i)

unfoldable pub messages_of : List ℕ → List ℕ → List Message
messages_of pairs octets = messages_from pairs octets 0 (length pairs / 2) 0

-- ---- what a trace is refused for

-- the number of the first message that is not framed, counted on from n; 0 if all are
abbrev pub first_unframed : ℕ → List Message → ℕ
first_unframed n [] = 0
first_unframed n (m ∷ l) = cond (framed m.octets) (first_unframed (n + 1) l) n

-- that number, if there is such a message
abbrev pub numbered : ℕ → Option ℕ
numbered n = cond (eqb n 0) None (Some n)

abbrev pub judged_so : ℕ → ℕ → TraceVerdict
judged_so number message = record { number = number; message = message }

abbrev pub framed_verdict : ℕ → TraceVerdict
framed_verdict n = cond (eqb n 0) (judged_so 0 0) (judged_so 49 n)

-- lengths that do not add up 48, then a message not framed 49 with the first such message
unfoldable pub verdict_of : List ℕ → List ℕ → TraceVerdict
verdict_of pairs octets = cond (lengths_add_up pairs (length octets)) (framed_verdict (first_unframed 1 (messages_of pairs octets))) (judged_so 48 0)

-- a place in a message from which elements stand to the exact end
pub record Elements (s : List ℕ) (at : ℕ) : Type 0 where
  pub place : at ≤ length s
  pub fit : fit_from s at ≡ true

-- what a loop over the messages knows before message i, whose octets begin at a place
pub record Passing (pairs octets : List ℕ) (i at : ℕ) : Type 0 where
  pub row : i ≤ length pairs / 2
  pub place : at ≤ length octets
  pub rest : lengths_fit pairs i (length pairs / 2 - i) (length octets - at) ≡ true

-- and the messages that are left to it
abbrev pub messages_left : List ℕ → List ℕ → ℕ → ℕ → List Message
messages_left pairs octets i at = messages_from pairs octets i (length pairs / 2 - i) at
