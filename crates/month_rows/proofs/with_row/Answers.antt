use Rattle.std.proofs.Common.{rules, ◌≡◌, sym, ◌∙◌, ap, ap₂, arith, ℕ, length, get_or, set}
use Rattle.month_rows.specs.Rows.{one_more, row_of}
use Rattle.month_rows.proofs.Search.{no_row, stored_new, stored_old, at_most}
use Rattle.month_rows.proofs.with_row.Goals as goal

pub returns-then-i-n : goal.returns-then-i-n
returns-then-i-n c =
    let a = c.args in let here = c.if-i-n.true in
    let size : length a.rows ≡ 16 = search rules in
    ap₂ (set a.rows) here c.new_row.ensures ∙ sym (stored_new a.c a.t a.n a.rows (omega arith) (sym c.requires.2 ∙ here))

pub returns : goal.returns
returns c =
    let a = c.args in
    let size : length a.rows ≡ 16 = search rules in
    let most = at_most a.c a.n a.rows in
    let other : row_of a.c a.n a.rows ≡ a.n → ⊥ = λ e. c.if-i-n.false (c.requires.2 ∙ e) in
    ap (set a.rows a.i) c.raised_row.ensures
    ∙ ap (λ (k : ℕ). set a.rows k (one_more (get_or a.rows k no_row) a.t)) c.requires.2
    ∙ sym (stored_old a.c a.t a.n a.rows (omega arith) (omega (arith, most, other)))
