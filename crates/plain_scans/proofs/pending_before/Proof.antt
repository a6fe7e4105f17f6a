use Rattle.plain_rules.specs.inner.Deciding.{ask_of}
use Rattle.plain_scans.specs.inner.Scan.{Requested}
use Rattle.plain_scans.proofs.{Cited.{sym, ◌∙◌, ap, arith, false}, Scans.{for_answer, pending_last}, pending_before.Statement.statement}
use Rattle.plain_scans.proofs.pending_before.Tie as tie

-- the function's start, from where it is known what was asked for
module _ (g : tie.After-asked_for-q) where
  abbrev start : tie.Start
  start = g.before.before.before.before

  asked : let x = start.args in Requested false x.rows.now x.octets.now x.k x.service g.asked_for-q.result x.k
  asked = for_answer _ _ _ start.args.k (g.before.setup_before-setup.ensures start.args.octets.now) g.asked_for-q.ensures

returns : tie.Need-returns
returns c =
    let f = c.before in
    c.until.ensures ∙ ap ask_of (sym (pending_last _ _ _ (start f.before).args.k _ (asked f.before).names _ f.first_before-place.ensures))

pub pending_before_spec : {M : Type 1} → statement M
pending_before_spec =
    tie.close (tie.spec (λ c κs. c.before.before.requires.0.some) (omega arith)
    (λ c κs. ((start c).requires.0, (start c).requires.1, (start c).requires.2, asked c)) (omega arith) returns)
