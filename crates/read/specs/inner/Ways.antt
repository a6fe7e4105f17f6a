-- Which way the reader takes after a head, and what its inner functions answer.
use Rattle.std.specs.Prelude.{ℕ, ◌%◌, ◌≡◌, Bool, ◌&&◌, cond, List, replicate, eqb}
use Rattle.coding.specs.Reader.{Ans, after, closed}
use Rattle.coding.specs.Reader.Ans.{halt}
use Rattle.types.specs.declared.Front.{Front}
use Rattle.types.specs.declared.Record.{Record}
use Rattle.types.specs.declared.Answer.{Answer}
use Rattle.types.specs.Frames.{no_record, answered}
use Rattle.read_heads.specs.declared.Head.{Head}
use Rattle.read_heads.specs.inner.Heads.{argument_code, fault_by}
use Rattle.read.specs.declared.Refusal.{Refusal}
use Rattle.read.specs.Whole.{whole_answer}

-- an invoke of operation 30
abbrev pub is_request : Front → Bool
is_request f = eqb f.frame 1 && eqb f.operation 30

-- the offset's low octet is kept; an offset has no other (`offset_small`)
abbrev pub held : Answer → Answer
held a = record { number = a.number; offset = a.offset % 256; value = a.value }

-- no charge is stored
abbrev pub plain_answer : Refusal → List ℕ → Answer
plain_answer r front = whole_answer r front (replicate 48 0) (replicate 32 0) (replicate 192 0)

-- ---- how an argument or result ends

-- after a reader's fault and place, or 0 and the place after it: that fault, or what is left over, or the record and the place m
unfoldable pub end_of : Head → ℕ → ℕ → ℕ → Record → ℕ → Ans Record
end_of h fault place next v m =
    cond (eqb fault 0) (after (closed v next h.stop h.next) (λ w n. closed w n h.end m)) (halt (fault_by (argument_code fault)) place)

-- by a reader's fault and a refusal's number
abbrev pub ends_well : ℕ → ℕ → Bool
ends_well fault number = eqb fault 0 && eqb number 0

-- the refusal with the record, or with none
abbrev pub end_by : Refusal → ℕ → Record → Answer
end_by r fault v = record { number = r.number; offset = r.offset; value = cond (ends_well fault r.number) v no_record }

-- the two are the same, whatever the record is
pub record Ended (r : Refusal) (h : Head) (fault place next : ℕ) : Type 0 where
  pub same : (v : Record) (m : ℕ) → end_by r fault v ≡ held (answered (end_of h fault place next v m))
