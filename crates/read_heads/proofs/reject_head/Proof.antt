-- A reject's contents: who is answered, then the problem. Each return by what was read so far.
use Rattle.prelude.proofs.Prelude.{arith, ℕ, ◌≡◌, List, length}
use Rattle.coding.{specs.Reader.after, specs.Reader.closed, specs.Codec.sort, specs.Codec.canonical, specs.Codec.over, specs.Codec.leads, proofs.Reading.flat}
use Rattle.types.specs.Frames.{rejects, problem, problems, caller, reject}
use Rattle.read_heads.specs.inner.Heads.{problem_in, problems_in, contents_of, rest_of}
use Rattle.read_heads.proofs.{Answers.heading, Answers.ends_with, reject_head.Statement.statement}
use Rattle.read_heads.proofs.reject_head.Tie as tie

reject_by_lem : (s : List ℕ) (start stop : ℕ) → contents_of reject s start stop
    ≡ after (caller.read s start stop) (λ c m. after (problems_in s m stop) (λ p n. closed (rejects c p.tag p.detail) n stop (length s)))
unfolding contents_of reject leads problems sort problem canonical over problems_in problem_in
reject_by_lem s start stop = simp flat

pub reject_head_spec : {M : Type 1} → statement M
unfolding rest_of
reject_head_spec =
    tie.close (tie.spec
    (omega arith) (omega arith) (λ c. (rw (c.no_head.ensures, reject_by_lem _ _ _) (search heading), rw c.no_head.ensures (omega arith))) (omega arith) (omega arith)
    (λ c. (rw (c.no_head-then-p-ne0.ensures, reject_by_lem _ _ _) (search heading), rw c.no_head-then-p-ne0.ensures (omega arith))) (omega arith)
    (λ c. (rw (c.no_head-then-p-n.ensures, reject_by_lem _ _ _) (search heading), rw c.no_head-then-p-n.ensures (omega arith)))
    (omega arith) (λ c. let problem = c.before.before.before.before.before.before in
    let answered = problem.before.before.before in
    rw c.alone.ensures (rw (reject_by_lem _ _ _) (search (heading, ends_with, answered.before.caller_at-i.ensures.1)), omega arith)))
