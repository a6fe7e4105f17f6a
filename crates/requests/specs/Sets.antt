-- Sets of services. Services are numbered 1 S, 2 D, 3 E; another number is no service and in no set.
use Rattle.std.specs.Prelude.{ℕ, Bool, false, cond, not, ◌||◌, ◌==◌}
use Rattle.requests.specs.declared.Services.{Services}

abbrev pub is_service : ℕ → Bool
is_service u = u == 1 || (u == 2 || u == 3)

abbrev pub empty_set : Services
empty_set = record { s = 0; d = 0; e = 0 }

-- whether a service is in a set: its mark is not 0
abbrev pub has : Services → ℕ → Bool
has x u =
    cond (u == 1) (not (x.s == 0))
    (cond (u == 2) (not (x.d == 0))
    (cond (u == 3) (not (x.e == 0)) false))

-- the set with one service more: its mark is 1
abbrev pub with : Services → ℕ → Services
with x t = record {
  s = cond (t == 1) 1 x.s;
  d = cond (t == 2) 1 x.d;
  e = cond (t == 3) 1 x.e;
}
