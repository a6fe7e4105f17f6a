-- How an element ends whose contents are read.
use Rattle.std.specs.Prelude.{ℕ, cond, eqb}
use Rattle.read_elements.specs.declared.Empty.{Empty}

unfoldable pub closed_by : Empty → ℕ → ℕ → Empty
closed_by contents stop next =
    cond (eqb contents.fault 0)
    (cond (eqb contents.next stop) (record { fault = 0; place = 0; next = next }) (record { fault = 41; place = contents.next; next = 0 }))
    (record { fault = contents.fault; place = contents.place; next = 0 })
