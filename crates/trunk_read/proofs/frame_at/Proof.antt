-- By the first octet.
use Rattle.prelude.proofs.Prelude.{rules, eq-eqb, ne_eqb}
use Rattle.coding.proofs.Reading.{picks_run, skips_run}
use Rattle.trunk_types.specs.Components.{trunk_frame}
use Rattle.trunk_read.proofs.{Frames.uncharged, Frames.front_alone, Frames.figure_alone, frame_at.Statement.statement}
use Rattle.trunk_read.proofs.frame_at.Tie as tie

ruleset tags = (picks_run, skips_run, eq-eqb, ne_eqb)

pub frame_at_spec : {M : Type 1} → statement M
unfolding trunk_frame
frame_at_spec =
    tie.close
    (tie.spec (λ c κs. search rules) (λ c κs. search rules) (λ c κs. search rules) (λ c κs. search rules) (λ c κs. search rules) (λ c. (search tags, search))
    (λ c. (search (tags, c.before.before.before.before.before.before.in-162.is), search))
    (λ c. (search (uncharged, tags, c.before.before.before.in-163.is) depth 8, search))
    (λ c. (search (front_alone, tags, c.before.before.in-164.is) depth 8, search)) (λ c. (search (figure_alone, tags) depth 8, search)))
