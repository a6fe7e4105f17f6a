-- A record in four parts, as it lies in a host's memory: a front of 8 octets, a figure of 48, and its list's two arrays.
-- Numbers lie low octet first.
use Rattle.std.specs.Prelude.{ℕ, ◌+◌, ◌*◌, ◌≡◌, cond, List, get_or, replicate, eqb}
use Rattle.coding.specs.Reader.{part}
use Rattle.types.specs.declared.Money.{Money}
use Rattle.types.specs.declared.Association.{Association}
use Rattle.types.specs.declared.Figure.{Figure}
use Rattle.types.specs.declared.Charge.{Charge}
use Rattle.types.specs.declared.Front.{Front}
use Rattle.types.specs.declared.Record.{Record}

abbrev pub two : List ℕ → ℕ → ℕ
two s i = get_or s i 0 + 256 * get_or s (1 + i) 0

abbrev pub four : List ℕ → ℕ → ℕ
four s i = two s i + 65536 * two s (2 + i)

-- ---- the figure

abbrev pub money_in : List ℕ → Money
money_in s = record { currency = record { count = get_or s 0 0; octets = part s 1 11 }; multiplier = get_or s 11 0; number = four s 12 }

abbrev pub association_in : List ℕ → Association
association_in s = record { id = two s 16; count = two s 18; kind = get_or s 20 0; plan = get_or s 21 0; digits = part s 22 42 }

unfoldable pub figure_in : List ℕ → Figure
figure_in s = record {
  money = money_in s;
  association = association_in s;
  kind = get_or s 42 0;
  total = get_or s 43 0;
  billed = get_or s 44 0;
  billing = get_or s 45 0;
  arrangement = get_or s 46 0;
  count = get_or s 47 0;
}

-- ---- the record

-- a charge whose list lies in two arrays
abbrev pub with_list : Figure → List ℕ → List ℕ → Charge
with_list f numbers rows = record { figure = f; entries = record { numbers = numbers; octets = rows } }

abbrev pub stored_charge : List ℕ → List ℕ → List ℕ → Charge
stored_charge figure numbers rows = record { figure = figure_in figure; entries = record { numbers = numbers; octets = rows } }

abbrev pub front_in : List ℕ → Front
front_in s = record {
  frame = get_or s 0 0;
  unnamed = get_or s 1 0;
  id = two s 2;
  operation = get_or s 4 0;
  error = get_or s 5 0;
  problem = get_or s 6 0;
  detail = get_or s 7 0;
}

abbrev pub record_in : List ℕ → List ℕ → List ℕ → List ℕ → Record
record_in front figure numbers rows = record { front = front_in front; charge = stored_charge figure numbers rows }

-- ---- what a reader leaves in the caller's parts

-- a charge's parts that hold nothing yet
pub record Blank (figure numbers rows : List ℕ) : Type 0 where
  pub figure_blank : figure ≡ replicate 48 0
  pub numbers_blank : numbers ≡ replicate 32 0
  pub rows_blank : rows ≡ replicate 192 0

-- the value that was stored; after a fault what is stored does not count, and it is the type's zero
unfoldable pub stored : {A : Type 0} → A → ℕ → A → A
stored z fault v = cond (eqb fault 0) v z
