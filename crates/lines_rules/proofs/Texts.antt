-- The text of octets, put one after the other, and a text that stands at the start of a buffer.
use Rattle.prelude.proofs.Prelude.{ℕ, ◌+◌, ◌/◌, ◌%◌, ◌≤◌, ◌<◌, ◌≡◌, ap, ◌∙◌, List, [], ◌∷◌, ◌++◌, append_assoc, arith, sub-zero, length, get_or, take}
use Rattle.coding.{specs.Reader.part, proofs.Parts.part_none, proofs.Parts.part_cons}
use Rattle.lines_rules.specs.Text.{glyph, hex_text}

-- an octet's two digits and what comes after them
abbrev digits : ℕ → ℕ → List ℕ
digits x m = glyph (x / 16) ∷ glyph (x % 16) ∷ m ∷ []

module _ (os : List ℕ) (i n : ℕ) (l : n ≤ length os) (pre : List ℕ) (e : pre ++ hex_text (part os i n) ≡ hex_text (part os 0 n)) where
  -- an octet that others follow
  pub hex_more : i + 1 < n → (pre ++ digits (get_or os i 0) 32) ++ hex_text (part os (i + 1) n) ≡ hex_text (part os 0 n)
  unfolding hex_text
  hex_more h =
      let p : part os i n ≡ get_or os i 0 ∷ part os (i + 1) n = part_cons os i n (omega arith) l in
      let q : part os (i + 1) n ≡ get_or os (i + 1) 0 ∷ part os (i + 1 + 1) n = part_cons os (i + 1) n h l in
      append_assoc pre (digits (get_or os i 0) 32) (hex_text (part os (i + 1) n)) ∙ rw q (rw (p, q) at e)

  -- the last one
  pub hex_last : i + 1 ≡ n → pre ++ digits (get_or os i 0) 10 ≡ hex_text (take n os)
  unfolding hex_text part
  hex_last h =
      let p : part os i n ≡ get_or os i 0 ∷ part os (i + 1) n = part_cons os i n (omega arith) l in
      let q : part os (i + 1) n ≡ [] = part_none os (i + 1) n (omega arith) in
      let w : part os 0 n ≡ take n os = rw sub-zero in
      rw (p, q) at e ∙ ap hex_text w
