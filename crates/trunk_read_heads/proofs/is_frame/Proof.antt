-- The tags are those from A1 to A4, and AA.
use Rattle.prelude.proofs.Prelude.{ℕ, ◌≤◌, ◌<◌, ◌≡◌, arith, refl, sym, true, false, ◌||◌, ltb, leb, eqb, le-ltb, lt-leb, ne_eqb}
use Rattle.coding.specs.Codec.{one_of}
use Rattle.trunk_types.specs.Components.{tags}
use Rattle.read_heads.proofs.Codes.{none_of, count, counted}
use Rattle.trunk_read_heads.proofs.is_frame.Statement.{statement}
use Rattle.trunk_read_heads.proofs.is_frame.Tie as tie

among : (n : ℕ) → 0xa1 ≤ n → n < 0xa5 → true ≡ one_of tags n
unfolding one_of count
among n l h = rw (ne_eqb n 0xaa (λ e. omega (arith, e))) (sym (counted 0xa1 4 n l h))

above : (n : ℕ) → (n ≡ 0xaa → ⊥) → 0xa5 ≤ n → false ≡ one_of tags n
above n h l = sym (none_of (λ k. ltb k 0xa5 || eqb k 0xaa) tags n refl (rw (le-ltb n 0xa5 l, ne_eqb n 0xaa h)))

pub is_frame_spec : {M : Type 1} → statement M
unfolding one_of
is_frame_spec =
    tie.close (tie.spec
    (λ c. rw c.in-170.is)
    (λ c. among c.args.tag (omega arith) (omega arith))
    (λ c. sym (none_of (leb 0xa1) tags c.args.tag refl (lt-leb 0xa1 c.args.tag (omega arith))))
    (λ c. above c.args.tag (omega arith) (omega arith)))
