use Rattle.write_figures.proofs.{Cited.arith, Frames.{fine_total, fine_billing, fine_association, priced_during_length, priced_ending_length}}
use Rattle.write_figures.proofs.priced_size.Statement.{statement}
use Rattle.write_figures.proofs.priced_size.Tie as tie

returns : tie.Need-returns-then-operation-lt-E_CURRENCY
returns c = (
  priced_during_length _ _ _ _ _ c.before.before.before.sized.ensures.0 c.before.before.marks_size.ensures.0 _ c.before.sized-k.ensures.0
      c.if-operation-lt-E_CURRENCY.true,
  omega arith,
)

returns-2 : tie.Need-returns
returns-2 c =
    let d = c.before.before.before in (
      priced_ending_length _ _ _ _ _ d.before.before.sized.ensures.0 d.before.marks_size.ensures.0 _ d.sized-k.ensures.0 _
          c.before.association_size.ensures.0 c.before.before.if-operation-lt-E_CURRENCY.false _ c.sized-2.ensures.0,
      omega arith,
    )

pub priced_size_spec : {M : Type 1} → statement M
priced_size_spec =
    tie.close
    (tie.spec (omega arith) (λ c κs. search (fine_total, fine_billing)) (omega arith) (omega arith) returns (λ c κs. search fine_association) (omega arith)
    (omega arith) returns-2)
