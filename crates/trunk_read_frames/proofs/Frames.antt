-- Frames read in the code's steps.
use Rattle.prelude.proofs.Prelude.{ℕ, ◌≡◌, refl, List}
use Rattle.coding.{specs.Reader.after, specs.Reader.blamed, specs.Reader.Ans.got, specs.Codec.prim, specs.Codec.sort, specs.Codec.canonical, specs.Codec.over, specs.Codec.leads, specs.Codec.marked}
use Rattle.coding.{specs.Leaves.identifier, proofs.Reading.flat}
use Rattle.types.specs.Frames.{value, caller, problem, problems, reject, rejects}
use Rattle.read_heads.specs.inner.Heads.{problem_in, problems_in}
use Rattle.trunk_types.specs.Bodies.{extending, network}
use Rattle.trunk_types.specs.Components.{lead_by, trunk_by, trunk_errors, failing, trunk_error, of_reject, rejected, in_network, facility}
use Rattle.trunk_read_frames.specs.inner.Framed.{failure}

module _ (s : List ℕ) (at end : ℕ) where
  pub error_read :
      trunk_error.read s at end ≡
      after ((prim 0x02 identifier).read s at end) (λ i m. after ((value 8 trunk_errors).read s m end) (λ e n.
      after ((failure e).read s n end) (λ x last. got (trunk_by (lead_by 3 0 i e 0 0) (extending x)) last)))
  unfolding trunk_error leads failing canonical over
  error_read = refl

  pub rejected_read :
      rejected.read s at end ≡
      after (caller.read s at end) (λ c m. after (problems_in s m end) (λ p n. got (of_reject (rejects c p.tag p.detail)) n))
  unfolding rejected reject leads problems sort problem canonical over problems_in problem_in
  rejected_read = simp flat

  pub facility_read : facility.read s at end ≡ after (blamed in_network (network.read s at end)) (λ b n. got (trunk_by (lead_by 10 0 0 0 0 0) b) n)
  unfolding facility canonical over marked
  facility_read = refl
