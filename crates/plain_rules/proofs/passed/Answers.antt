use Rattle.prelude.proofs.{Prelude.{ℕ, ◌≡◌, ◌∙◌, ap, ◌&&◌, eqb}, Ways.by_cases}
use Rattle.phases.specs.{declared.Moving.Moving, declared.Event.Event, Phases.{Setup, allowed, clashes}, inner.ByNumber.moving_of}
use Rattle.plain_rules.specs.inner.Deciding.{next_by, bare}
use Rattle.plain_rules.proofs.passed.Goals as goal

-- by the step of events that are no components
moving_phase : (p : ℕ) (e : Event) → (moving_of (bare p) e).status.phase ≡ next_by p e
unfolding moving_of
moving_phase p e =
    by_cases (allowed e.kind p)
    (λ a. by_cases (eqb e.kind Setup && clashes e) (λ u. rw (a, u)) (λ u. rw (a, u)))
    (λ a. rw a)

pub returns : goal.returns
returns c = ap (λ (m : Moving). m.status.phase) c.phase_step-m.ensures ∙ rw c.bare.ensures (moving_phase c.args.phase c.args.e)
