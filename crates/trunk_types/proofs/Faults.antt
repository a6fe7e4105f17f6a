-- Which faults a component's reading can have, and where: the argument's lie after the eighth octet; those of a network facility extension are all 6.
use Rattle.prelude.proofs.Prelude.{ℕ, zero, suc, ◌+◌, ◌≤◌, ◌≡◌, refl, List, [], ◌∷◌, Bool, true, ◌&&◌, inl, arith, length, ltb, leb, eqb}
use Rattle.coding.{specs.Reader.Ans, specs.Reader.Fault, specs.Reader.blamed, specs.Reader.Ans.got, specs.Reader.Ans.halt, specs.Reader.Fault.named, specs.Reader.Fault.shortest}
use Rattle.coding.{specs.Reader.Fault.contents, specs.Codec.Run, specs.Codec.shape, specs.Codec.canonical, specs.Codec.marked, specs.Leaves.given}
use Rattle.types.specs.Charges.{scaled, currency_leaf, currency, money, digits_leaf, identified, planned, plain_party, party_number, party, unassociated, association}
use Rattle.types.specs.Rates.{duration, flat_rate, volume, coded, plain_rate, price, rate}
use Rattle.types.specs.Arguments.{sign, in_money, ending, settled, with_association, rates}
use Rattle.types.proofs.{Places.Plain, Places.Ends, Places.Blames, Places.Placed, Places.pick, Places.either_placed, Faults.Unnamed, Faults.unnamed}
use Rattle.types.proofs.{Faults.Told, Faults.Inside, Faults.framed, Faults.marked_placed, Faults.id_led, Faults.value_led, Faults.value_placed, Faults.seven, Faults.eight, Faults.reject_placed}
use Rattle.types.proofs.{Faults.placed, Faults.family_told}
use Rattle.trunk_types.specs.Extensions.{arcs, object_identifier, one_extension, in_one, many_extensions, in_list, extension_at, unextended, some_extension, any_extension, parameter}
use Rattle.trunk_types.specs.Bodies.{extended, modes, detail, dummy, charged, billings, figures, final_charge, interim, tariff, complete, diverted, address, network, argument_of, result_of}
use Rattle.trunk_types.specs.Components.{carrying_body, trunk_invoke, trunk_result, failing, trunk_error, rejected, in_network, facility, tags, trunk_frame, trunk_component, read_whole_trunk}

-- ---- bodies: no fault of theirs has a number yet

module _ (P : Fault → ℕ → Type 0) (plain : (w : Fault) (p : ℕ) → Plain w → P w p) where
  pub object_blames : (xs : List ℕ) → Blames P (object_identifier xs)
  unfolding object_identifier arcs
  object_blames xs = pick (Blames P) (eqb (length xs) 0) _ _ (λ q p. plain shortest p tt) (λ q. go true xs)
    where
      go : (fresh : Bool) (ys : List ℕ) → Blames P (arcs fresh ys)
      go fresh [] = pick (Blames P) fresh _ _ (λ q. tt) (λ q p. plain contents p tt)
      go fresh (y ∷ ys) = pick (Blames P) (fresh && eqb y 0x80) _ _ (λ q p. plain shortest p tt) (λ q. go (ltb y 0x80) ys)

ruleset parts = (placed, either_placed, object_blames)

extension_placed : (k : ℕ) → Placed Unnamed k any_extension
unfolding canonical any_extension unextended extension_at one_extension in_one many_extensions in_list
extension_placed k = search parts depth 20

figures_placed : (k most : ℕ) → Placed Unnamed k (figures most)
unfolding canonical shape figures sign settled ending given billings in_money money scaled currency currency_leaf
figures_placed k most = search parts depth 40

association_placed : (k : ℕ) (trunk : Bool) → Placed Unnamed k (association trunk)
unfolding canonical association identified party party_number planned plain_party digits_leaf unassociated
association_placed k trunk = search parts depth 40

number_placed : (k : ℕ) (trunk : Bool) → Placed Unnamed k (party_number trunk)
unfolding canonical party_number planned plain_party digits_leaf
number_placed k trunk = search parts depth 40

rates_placed : (k : ℕ) (trunk : Bool) → Placed Unnamed k (rates trunk)
unfolding canonical shape rates rate price duration flat_rate volume coded plain_rate money scaled currency currency_leaf
rates_placed k trunk = search parts depth 60 fits 30000

ruleset bodies = (parts, extension_placed, figures_placed, association_placed, number_placed, rates_placed)

argument_placed : (k o : ℕ) → Placed Unnamed k (argument_of o)
unfolding canonical argument_of extended modes dummy some_extension extension_at one_extension in_one many_extensions in_list final_charge interim tariff complete diverted charged with_association sign
argument_placed k o = search bodies depth 60 fits 30000

result_placed : (k o : ℕ) → Placed Unnamed k (result_of o)
unfolding canonical result_of extended detail
result_placed k o = search bodies depth 40

network_placed : (k : ℕ) → Placed Unnamed k network
unfolding canonical network address unassociated
network_placed k = search bodies depth 40

-- ---- frames

six : (p : ℕ) → Inside (named 6) p
six p = (inl (omega arith), omega arith)

inner_placed : {A : Type 0} (k : ℕ) (f : Run A) → Placed Unnamed k f → Placed Inside k (marked in_network f)
unfolding marked blamed
inner_placed {A} k f F = record { ends = λ s a e h i. go a e (f.read s a e) (F.ends s a e h i) }
  where
    go : (a e : ℕ) (x : Ans A) → Ends Unnamed a e x → Ends Inside a e (blamed in_network x)
    go a e (got v n) q = q
    go a e (halt w p) q = (six p, q.1, q.2)

parameter_placed : (k : ℕ) → Placed Inside k parameter
unfolding canonical parameter unextended extension_at one_extension in_one
parameter_placed k = search (framed, object_blames) depth 20

absent_placed : (k : ℕ) → Placed Inside k unextended
unfolding canonical unextended
absent_placed k = search framed depth 20

pub frame_placed : (tag : ℕ) → Placed Inside 2 (trunk_frame tag)
unfolding canonical trunk_frame trunk_invoke trunk_result carrying_body trunk_error failing rejected facility
frame_placed tag =
    search (framed, either_placed, id_led, value_led, value_placed, seven, eight, marked_placed, inner_placed, unnamed, argument_placed, result_placed, network_placed, parameter_placed, absent_placed, reject_placed)
    depth 24

pub whole_told : (s : List ℕ) → Ends Told 0 (length s) (read_whole_trunk s)
unfolding read_whole_trunk trunk_component
whole_told = family_told tags (λ r. 0xa0 + r.lead.frame) trunk_frame frame_placed
