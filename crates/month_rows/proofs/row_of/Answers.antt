use Rattle.std.proofs.Common.{rules, ◌≡◌, ◌∙◌, arith, length}
use Rattle.month_rows.proofs.Search.{found_or_next}
use Rattle.month_rows.proofs.row_of.Goals as goal

pub returns : goal.returns
returns c =
    let size : length c.args.rows ≡ 16 = search rules in
    c.unwrap_or.ensures ∙ found_or_next c.args.c c.args.n c.args.rows (omega arith) c.found.ensures
