-- The loop's invariant: the octets passed are below 80 (hex) and stored from 1 on.
use Rattle.prelude.proofs.Prelude.{ℕ, ◌-◌, ◌≤◌, arith, refl, Bool, [], ◌∷◌, replicate, ltb, le-ltb, lt-ltb}
use Rattle.coding.specs.{Codec.leaf_over, Leaves.string}
use Rattle.types.specs.{Charges.least, Charges.kept, Charges.currency_leaf, Stored.stored}
use Rattle.read_figures.proofs.{Texts.Passed, Texts.passed_start, Texts.passed_more, Texts.text_empty, Texts.text_long, Texts.texts, Texts.text_kept, Kept.currency_beside, Kept.currency_kept}
use Rattle.read_figures.proofs.{currency_in.Statement.statement}
use Rattle.read_figures.proofs.currency_in.Tie as tie

abbrev low : ℕ → Bool
low x = ltb x 0x80

abbrev invariant-loop : tie.invariant-loop-i
invariant-loop s start stop trunk figure₀ n i₀ figure i = Passed low (least trunk) 10 (0 ∷ []) (replicate 37 0) s start stop i figure

abbrev decreases-loop : tie.decreases-loop-i
decreases-loop s start stop trunk figure₀ n i₀ figure i = n - i

pub currency_in_spec : {M : Type 1} → statement M
unfolding currency_leaf leaf_over string stored
currency_in_spec =
    tie.close
    (tie.spec invariant-loop decreases-loop (omega arith) (omega arith) (λ c.
    let l = c.before.least.ensures in
    let d = c.before.before.before in
    (text_empty low _ 10 _ _ _ _ kept d.requires.0.1 (omega (arith, l.0, l.1)) (omega (arith, l.0, c.if-n-least.true)), rw d.requires.1)) (λ c.
    let e = c.before.before in
    let l = e.least.ensures in
    let d = e.before.before in
    (text_long low _ 10 _ _ _ _ kept d.requires.0.1 (omega (arith, l.0, c.before.if-n-least.false)) (omega (arith, c.if-n-gt10.true)), rw d.requires.1))
    (λ c.
    let e = c.before.before in
    let l = e.least.ensures in
    let d = e.before.before in
    let enough : least d.args.trunk ≤ d.args.stop - d.args.start = omega (arith, l.0, c.before.if-n-least.false) in
    search passed_start) (omega arith) (omega arith)
    (λ c. let d = c.before.before.before in (search (texts, le-ltb), (currency_beside d.loop-i.invariant).0)) (omega arith) (omega arith)
    (omega arith) (omega arith) (λ c. search (passed_more, refl, lt-ltb)) (omega arith) (omega arith)
    (λ c.
    let l = c.before.loop-i in (
      rw (currency_kept l.invariant)
          (text_kept low _ 10 _ _ _ _ l.i l.invariant (λ n octets. record { count = n; octets = octets }) (omega arith)),
      (currency_beside l.invariant).1 _,
    )))
