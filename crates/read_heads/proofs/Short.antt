-- An operation or error value of one octet.
use Rattle.prelude.proofs.Prelude.{ℕ, ◌+◌, ◌≤◌, ◌<◌, arith, ◌≡◌, refl, ap, sym, ◌∙◌, true, List, [], ◌∷◌, length, get_or, lt-leb, lt-ltb, ne_eqb}
use Rattle.coding.{specs.Reader.tagged, specs.Reader.choice, specs.Reader.one_of, specs.Contents.shortest, specs.Contents.negative, specs.Contents.number_from, specs.Codec.barring}
use Rattle.coding.{specs.Leaves.listed, specs.inner.Shown.shown, specs.inner.Shortcut.Tiny}
use Rattle.read_elements.proofs.Shortcut.{tiny_read}
use Rattle.types.specs.Frames.{value}
use Rattle.read_heads.proofs.Codes.{number_known}

pub tiny_value : (s : List ℕ) (at end x : ℕ) → end ≤ length s → Tiny s at end 0x02 x → (u : ℕ) (ks : List ℕ) → x < 128 → one_of ks x ≡ true
    → (0, 0, x, at + 3) ≡ shown 0 ((value u ks).read s at end)
unfolding value barring choice listed tagged shortest negative number_from
tiny_value s at end x es t u ks l h =
    let a : at < end = omega (arith, t.inside) in
    rw (lt-ltb at end a, ne_eqb (get_or s at 0) 0x06 (λ e. omega (arith, t.named, e)))
    (number_known u ks at (at + 3) (x ∷ []) refl (omega arith) (lt-leb 0x80 x l) (omega arith) h
    ∙ sym (ap (shown 0) (tiny_read s at end 0x02 (listed u ks) es t)))
