use Rattle.trace.proofs.{Cited.arith, Whole.{no_call, first_inside, first_framed, first_call}, call_of.Statement.statement}
use Rattle.trace.proofs.call_of.Tie as tie

-- the function's start, from where the first message's size is known
abbrev start : tie.After-size-end → tie.Start
start z = z.before.before.before.before.before

reference-of-requires : tie.Need-reference_of-requires
reference-of-requires c κs = let z = c.before in let p = (start z).requires in first_framed _ _ p.0 p.1 z.before.before.if-pairs-lt2.false z.size-end.ensures

returns-2 : tie.Need-returns
returns-2 c =
    let z = c.before.before in
    let p = (start z).requires in
    first_call _ _ p.0 p.1 z.before.before.if-pairs-lt2.false z.size-end.ensures c.reference_of.ensures

pub call_of_spec : {M : Type 1} → statement M
call_of_spec =
    tie.close
    (tie.spec (λ c. let x = c.before.before.before.args in no_call x.pairs.now x.octets.now 0 (omega (arith, c.if-pairs-lt2.true)))
    (omega arith) (omega arith) (omega arith) (omega arith)
    (λ c. let s = start c in let more = c.before.before.if-pairs-lt2.false in
    omega (arith, first_inside s.args.pairs.now s.args.octets.now s.requires.0 s.requires.1 more c.size-end.ensures))
    reference-of-requires returns-2)
