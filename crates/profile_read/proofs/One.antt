-- An answer and the parts of both records are told apart by what they say together: so `read_by` has one outcome.
use Rattle.prelude.proofs.Prelude.{ℕ, ◌≡◌, ap, List}
use Rattle.read.{specs.declared.Refusal.Refusal, proofs.One.Filled, proofs.One.one_answer}
use Rattle.types.specs.{declared.Record.Record, Stored.record_in, Stored.stored_charge}
use Rattle.trunk_types.specs.{declared.Trunk.Trunk, Stored.Spare, Stored.trunk_in}
use Rattle.trunk_read.proofs.One.{one_trunk}
use Rattle.profile_read.specs.{declared.Judged.Judged, Profile.Either, Profile.either_in}

-- the parts of both records, as arrays have them
pub record Parts : Type 0 where
  pub front : List ℕ
  pub figure : List ℕ
  pub numbers : List ℕ
  pub rows : List ℕ
  pub trunk_front : List ℕ
  pub extension : List ℕ
  pub trunk_figure : List ℕ
  pub trunk_numbers : List ℕ
  pub trunk_rows : List ℕ
  pub front_filled : Filled 8 front
  pub figure_filled : Filled 48 figure
  pub trunk_front_filled : Filled 48 trunk_front
  pub trunk_front_spare : Spare trunk_front
  pub extension_filled : Filled 244 extension
  pub trunk_filled : Filled 48 trunk_figure

abbrev pub Equal : Parts → Parts → Type 0
Equal p q =
    (p.front ≡ q.front) × (p.figure ≡ q.figure) × (p.numbers ≡ q.numbers) × (p.rows ≡ q.rows)
    × (p.trunk_front ≡ q.trunk_front) × (p.extension ≡ q.extension) × (p.trunk_figure ≡ q.trunk_figure) × (p.trunk_numbers ≡ q.trunk_numbers) × (p.trunk_rows ≡ q.trunk_rows)

abbrev pub line_of : Parts → Record
line_of p = record_in p.front p.figure p.numbers p.rows

abbrev pub trunk_of : Parts → Trunk
trunk_of p = trunk_in p.trunk_front p.extension (stored_charge p.trunk_figure p.trunk_numbers p.trunk_rows)

abbrev read_in : Judged → Parts → Either
read_in r p = either_in r (line_of p) (trunk_of p)

abbrev refusal : Judged → Refusal
refusal r = record { number = r.number; offset = r.offset }

module _ (p q : Parts) where
  pub one_either : (r r' : Judged) → read_in r p ≡ read_in r' q → (r ≡ r') × Equal p q
  one_either r r' e =
      let o = one_answer (refusal r) (refusal r') p.front_filled q.front_filled p.figure_filled q.figure_filled
      (ap (λ (x : Either). record { number = x.number; offset = x.offset; value = x.line }) e) in
      let t = one_trunk (refusal r) (refusal r') p.trunk_front_filled q.trunk_front_filled p.trunk_front_spare q.trunk_front_spare p.extension_filled q.extension_filled p.trunk_filled q.trunk_filled
      (ap (λ (x : Either). record { number = x.number; offset = x.offset; value = x.trunk }) e) in
      (ap (λ (x : Either). record { number = x.number; offset = x.offset; family = x.family }) e, (o.1, o.2, o.3, o.4, t.1, t.2, t.3, t.4, t.5))
