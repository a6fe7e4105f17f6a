-- What a reply answers, by the profile octet.
use Rattle.prelude.proofs.Prelude.{ℕ, arith, ◌≡◌, ◌⊎◌, inl, inr, List, eq-eqb, ne_eqb}
use Rattle.coding.proofs.Laws.{Octets}
use Rattle.reply.proofs.Replies.{only_12, given_12}
use Rattle.profile_reply.specs.Replies.{trunk_calls, reply_profile}

-- a reply is refused 12 or 17, or not at all
pub reply_numbers : (s : List ℕ) (profile room : ℕ) → Octets s → (profile ≡ 0x91) ⊎ (profile ≡ 0x9f) → ((reply_profile profile s room).number ≡ 0) ⊎ ((reply_profile profile s room).number ≡ 12)
unfolding reply_profile
reply_numbers s profile room os (inl e) = rw (eq-eqb _ _ e) (only_12 s room os)
reply_numbers s profile room os (inr e) = rw (ne_eqb profile 0x91 (λ z. omega (arith, e, z)), eq-eqb _ _ e) (given_12 (trunk_calls s) s room os)
