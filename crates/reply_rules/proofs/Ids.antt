-- An identifier from how it was read.
use Rattle.prelude.proofs.Prelude.{ℕ, ◌≤◌, ◌<◌, arith, ◌≡◌, refl, ap, ◌∙◌, true, false, List, [], ◌∷◌, length, get_or, lt-ltb, le-ltb}
use Rattle.coding.{specs.Reader.Ans, specs.Reader.choice, specs.Reader.length_at, specs.Reader.opened, specs.Reader.one_of, specs.Reader.Ans.got, specs.Reader.Ans.halt}
use Rattle.coding.{specs.Reader.Fault.named, specs.Codec.prim, specs.Leaves.identifier, specs.inner.Shown.shown, specs.declared.Extent.Extent, proofs.Basic.picked, proofs.Header.tagged_yes}
use Rattle.coding.{proofs.Frames.any_lacks, proofs.Frames.any_strange, proofs.Frames.any_told, proofs.Frames.any_over, proofs.Frames.any_enters}
use Rattle.types.specs.Frames.{outside}
use Rattle.read_heads.{specs.inner.Heads.outside_code, proofs.Codes.outside_code_lem, proofs.Entered.tags}
use Rattle.reply_rules.specs.Rejects.{identifier_read, value_or0, identifier_of}

pub no_first : (s : List ℕ) → length s ≡ 0 → 0 ≡ get_or s 0 0
no_first [] e = refl
no_first (x ∷ xs) e = absurd (omega arith)

value_shown : (y : Ans ℕ) {k p n v : ℕ} → (k, p, v, n) ≡ shown 0 y → v ≡ value_or0 y
unfolding shown
value_shown (got i n') e = ap (λ q. q.2) e
value_shown (halt w p') e = ap (λ q. q.2) e

pub id_long : (s : List ℕ) → 254 < length s → 0 ≡ identifier_of s
unfolding identifier_of
id_long s l = simp (lt-ltb 254 (length s) l)

-- of at most 254 octets
module _ (s : List ℕ) (few : length s ≤ 254) where
  opened_up : value_or0 (identifier_read s) ≡ identifier_of s
  unfolding identifier_of
  opened_up = simp (le-ltb 254 (length s) few)

  abbrev inside : Extent → ℕ → Ans ℕ
  inside x next = (prim 0x02 identifier).read s x.start x.stop

  pub id_empty : length s ≡ 0 → 0 ≡ identifier_of s
  id_empty e = value_shown _ (any_lacks tags outside (named 5) s 0 (length s) inside 0 (omega arith)) ∙ opened_up

  module _ (some : 0 < length s) where
    pub id_strange : one_of tags (get_or s 0 0) ≡ false → 0 ≡ identifier_of s
    id_strange t = value_shown _ (any_strange tags outside (named 5) s 0 (length s) inside 0 some t) ∙ opened_up

    -- a component that begins with one of the tags is opened as that tag alone would be
    opens : opened (get_or s 0 0) s 0 (length s) ≡ length_at 0 s 1 (length s)
    unfolding opened choice
    opens = picked _ _ (tagged_yes s 0 (length s) (get_or s 0 0) some refl)

    module _ (t : one_of tags (get_or s 0 0) ≡ true) (z : Extent) {k p n : ℕ} {v : Extent} (e : (k, p, v, n) ≡ shown z (opened (get_or s 0 0) s 0 (length s))) where
      pub id_shut : (k ≡ 0 → ⊥) → 0 ≡ identifier_of s
      id_shut h = value_shown _ (any_told tags outside (named 5) s 0 (length s) inside 0 outside_code outside_code_lem z some t (e ∙ ap (shown z) opens) h) ∙ opened_up

      pub id_over : k ≡ 0 → (n ≡ length s → ⊥) → 0 ≡ identifier_of s
      id_over h o = value_shown _ (any_over tags outside (named 5) s 0 (length s) inside 0 z some t (e ∙ ap (shown z) opens) h o) ∙ opened_up

      pub id_found : k ≡ 0 → n ≡ length s → {j q i m : ℕ} → (j, q, i, m) ≡ shown 0 ((prim 0x02 identifier).read s v.start v.stop) → i ≡ identifier_of s
      id_found h o r = value_shown _ (any_enters tags outside (named 5) s 0 (length s) inside 0 z some t (e ∙ ap (shown z) opens) h o r) ∙ opened_up
