use Rattle.prelude.proofs.{Prelude.{sym, ◌∙◌, arith}, Ways.ways}
use Rattle.closing.proofs.Small.{small}
use Rattle.price.specs.Price.{price_of}
use Rattle.price.proofs.price.Statement.{statement}
use Rattle.price.proofs.price.Tie as tie

priced-money-requires : tie.Need-priced_money-requires
priced-money-requires c κs =
    let two = c.before in
    small _ _ (sym two.before.in_range.ensures ∙ two.if-not-in_range.false)

pub price_spec : {M : Type 1} → statement M
unfolding price_of
price_spec =
    tie.close
    (tie.spec (omega arith) (λ c. search ways) (omega arith) (omega arith) (λ c. search ways) (omega arith) (omega arith) priced-money-requires
    (λ c. search ways) (λ c. search ways) (λ c. search ways))
