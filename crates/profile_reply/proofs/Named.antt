-- A reject that names a component of a trunk names it by its own identifier, which was read.
use Rattle.prelude.proofs.Prelude.{ℕ, ◌+◌, ◌≡◌, refl, sym, subst, List, Bool, true, false, true≢false, cond, ◌&&◌, inr, eqb, eqb-true}
use Rattle.coding.specs.{Reader.Ans, Reader.after, Reader.blamed, Reader.Ans.got, Reader.Ans.halt, Codec.one_of, Codec.pick_run, Codec.leads, Codec.over, Codec.marked, Codec.canonical}
use Rattle.types.specs.Frames.{caller_of}
use Rattle.trunk_types.specs.{declared.Body.Body, declared.Trunk.Trunk, Bodies.network, Components.trunk_answered, Components.trunk_invoke, Components.trunk_result}
use Rattle.trunk_types.specs.Components.{trunk_by, lead_by, trunk_error, rejected, facility, in_network, tags, trunk_frame, trunk_component, read_whole_trunk, read_trunk}
use Rattle.reply_rules.specs.Rejects.{first_of, identifier_read, is_silent_to, is_named, reject_to}
use Rattle.reply_rules.proofs.Caller.{Stops, Begins}
use Rattle.reply_rules.proofs.Caller.{number_by, begins, named_by}
use Rattle.profile_reply.specs.Replies.{trunk_calls}

-- every failure inside a network facility extension is 6
facility_stops : (s : List ℕ) (a e : ℕ) → Stops (facility.read s a e)
unfolding facility canonical over marked blamed after one_of
facility_stops s a e = go (network.read s a e)
  where
    go : (x : Ans Body) → Stops (after (blamed in_network x) (λ v n. got (trunk_by (lead_by 10 0 0 0 0 0) v) n))
    go (got v n) = tt
    go (halt w p) = refl

led : (s : List ℕ) (a e t : ℕ) → (t ≡ 0xa4 → ⊥) → Begins s a e t ((trunk_frame t).read s a e)
unfolding trunk_frame trunk_invoke trunk_result trunk_error leads
led s a e t other =
    begins s a e t trunk_invoke trunk_result trunk_error (pick_run (eqb t 0xa4) rejected facility) (_, refl) (_, refl) (_, refl) (λ p q r. go (eqb t 0xa4) refl)
  where
    go : (b : Bool) → eqb t 0xa4 ≡ b → Begins s a e t ((pick_run b rejected facility).read s a e)
    go true q = absurd (other (eqb-true t 0xa4 q))
    go false q = inr (facility_stops s a e)

called : (b : Bool) (n : ℕ) → is_named (cond b 0 n) ≡ true → is_named n ≡ true
unfolding one_of
called true n h = absurd (true≢false (sym h))
called false n h = h

number_read : (r : Ans Trunk) → (trunk_answered r).number ≡ number_by r
number_read (got x n) = refl
number_read (halt w p) = refl

-- where a reply is sent for a refusal that names the component, the component's identifier was read, and the reject is for that identifier
pub named_reply_by : (s : List ℕ) → is_silent_to (trunk_calls s) s ≡ false → is_named (trunk_calls s) ≡ true
    → (i n : ℕ) × (identifier_read s ≡ got i n) × (caller_of (reject_to (trunk_calls s) s) ≡ inr i)
unfolding read_trunk read_whole_trunk trunk_component
named_reply_by s q h =
    named_by tags (λ r. 0xa0 + r.lead.frame) trunk_frame (trunk_calls s) s q h
    (subst (λ n. is_named n ≡ true) (number_read (read_whole_trunk s))
    (called (eqb (first_of s) 0xaa && eqb (read_trunk s).number 6) (read_trunk s).number h))
    (λ other a e o. led s a e (first_of s) other)
