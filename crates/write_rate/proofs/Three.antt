-- Octets in three parts, and octets under another name: room for each part after those before it, and what was stored in all.
use Rattle.prelude.proofs.Prelude.{ℕ, ◌+◌, ◌≡◌, ap, ◌∙◌, List, ◌++◌, length, length-append}
use Rattle.coding.{specs.inner.Written.{Wrote, Room}, proofs.Writing.{wrote_both, room_as, split, room_first, room_rest, wrote_parts}}
use Rattle.write_elements.proofs.Parts.{wrote_is, wrote_nothing}

pub record Three (all xs ys zs : List ℕ) : Type 0 where
  pub parts : all ≡ xs ++ (ys ++ zs)

module _ {all xs ys zs : List ℕ} (t : Three all xs ys zs) where
  pub three_length : length all ≡ length xs + (length ys + length zs)
  three_length = ap length t.parts ∙ simp length-append

  module _ {l : List ℕ} {a : ℕ} where
    pub room_1 : Room l a all → Room l a xs
    room_1 h = room_first (record { parts = t.parts }) h

    pub room_2 : {m : List ℕ} {b : ℕ} → Room l a all → Wrote l m a xs b → Room m b ys
    room_2 h p = room_first (split ys zs) (room_rest (record { parts = t.parts }) h p)

    pub room_3 : {m n : List ℕ} {b d : ℕ} → Room l a all → Wrote l m a xs b → Wrote m n b ys d → Room n d zs
    room_3 h p q = room_rest (split ys zs) (room_rest (record { parts = t.parts }) h p) q

    pub wrote_3 : {m n o : List ℕ} {b d e : ℕ} → Wrote l m a xs b → Wrote m n b ys d → Wrote n o d zs e → Wrote l o a all e
    wrote_3 p q w = wrote_parts (record { parts = t.parts }) p (wrote_both q w)

pub ruleset named = (room_as, wrote_is, wrote_nothing)
