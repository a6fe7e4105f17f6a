-- Document 02, request 5: while a call is parked, whatever comes leaves every figure, mark and pending request as it was.
use Rattle.prelude.proofs.{Prelude.{ℕ, ◌≡◌, ap, List, true, false, eqb, eqb-true}, Ways.by_cases}
use Rattle.phases.specs.{declared.Event.Event, Phases.Suspended, Phases.Setup, Phases.Component, Phases.allowed}
use Rattle.types.specs.Frames.{read_of}
use Rattle.outcomes.{specs.Outcome.is_refusal, specs.Outcome.judge, specs.Outcome.judge_record, proofs.Refusals.decoding_refusal}
use Rattle.account.specs.{declared.Account.Account, Step.known_of, Step.change_of, Step.stepped_of, Noise.is_noise}
use Rattle.account.proofs.Noise.{noise_nothing}

-- an account but for its phase
abbrev pub unphased : Account → Account
unphased a = record {
  status = record {
    phase = 0;
    asked = a.status.asked;
    s = a.status.s;
    d = a.status.d;
    e = a.status.e;
    absent = a.status.absent;
    conflict = a.status.conflict;
  };
  rate = a.rate;
  running = a.running;
  dfinal = a.dfinal;
  efinal = a.efinal;
}

-- a component is noise then: 27, or refused
component_noise : (a : Account) (e : Event) (o : List ℕ) → a.status.phase ≡ Suspended → e.kind ≡ Component → is_noise (judge (known_of a) e o) ≡ true
unfolding judge judge_record is_noise is_refusal allowed
component_noise a e o p k =
    by_cases (eqb (read_of o).number 0) (λ z. rw (k, p, z)) (λ z. rw (k, p, z, decoding_refusal o z))

setup_noise : (a : Account) (e : Event) (o : List ℕ) → a.status.phase ≡ Suspended → e.kind ≡ Setup → is_noise (judge (known_of a) e o) ≡ true
unfolding judge is_noise is_refusal allowed
setup_noise a e o p k = rw (k, p)

-- a phase event that is refused is noise; one that is not is no Setup, and moves the phase alone
moved_kept : (a : Account) (e : Event) (o : List ℕ) → a.status.phase ≡ Suspended → eqb e.kind Component ≡ false → unphased (stepped_of a e o).account ≡ unphased a
unfolding judge stepped_of change_of
moved_kept a e o p k =
    by_cases (eqb e.kind Setup)
    (λ s. let n : is_noise (judge (known_of a) e o) ≡ true = setup_noise a e o p (eqb-true e.kind Setup s) in ap unphased (noise_nothing a e o n))
    (λ s. by_cases (allowed e.kind a.status.phase) (λ t. rw (t, k, s)) (λ t. rw (t, k)))

pub parked_kept : (a : Account) (e : Event) (o : List ℕ) → a.status.phase ≡ Suspended → unphased (stepped_of a e o).account ≡ unphased a
unfolding stepped_of change_of
parked_kept a e o p =
    by_cases (eqb e.kind Component)
    (λ q. ap unphased (noise_nothing a e o (component_noise a e o p (eqb-true e.kind Component q))))
    (λ q. moved_kept a e o p q)
