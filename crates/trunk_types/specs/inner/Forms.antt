-- What comes before the extension in the 30, by a form: 1 the result of 59, 2 that of 64, or the operation.
use Rattle.std.specs.Prelude.{ℕ, true, List, get_or, eqb}
use Rattle.coding.specs.Codec.{Run, pick_run, pair, prim, canonical}
use Rattle.coding.specs.Leaves.{number}
use Rattle.types.specs.declared.Charge.{Charge}
use Rattle.types.specs.Charges.{party_number, association}
use Rattle.types.specs.Stored.{association_in}
use Rattle.trunk_types.specs.declared.Body.{Body}
use Rattle.trunk_types.specs.Extensions.{no_extension}
use Rattle.trunk_types.specs.Stored.{modes_in}
use Rattle.trunk_types.specs.Bodies.{body_by, same_body, modes, detail, charged, charge_for, naming, other_of}

-- all of a body but its extension
unfoldable pub inner_in : List ℕ → Charge → Body
inner_in front charge = body_by (get_or front 42 0) (get_or front 43 0) (modes_in front) (association_in front) no_extension charge

unfoldable pub users : Run Body
users = canonical (λ p. naming 0 0 p.0 p.1) (λ b. (b.user, other_of b)) same_body (pair (party_number true) (association true))

unfoldable pub diverting : Run Body
diverting =
    canonical (λ p. naming p.1.1 0 p.0 p.1.0) (λ b. (b.user, (other_of b, b.detail))) same_body
    (pair (party_number true) (pair (association true) (prim 0x0a (number 0 3))))

unfoldable pub inner_of : ℕ → Run Body
inner_of k =
    pick_run (eqb k 1) (detail 6)
    (pick_run (eqb k 2) (detail 2)
    (pick_run (eqb k 59) modes
    (pick_run (eqb k 64) users
    (pick_run (eqb k 65) diverting (charged (charge_for k))))))
