-- Octets under another name, and in parts: what is written part by part is written whole, and each part has room where all have.
use Rattle.prelude.proofs.Prelude.{ℕ, ◌≡◌, sym, ap, List, [], ◌++◌, length, arith}
use Rattle.coding.{specs.inner.Written.{Wrote, Room, lead}, proofs.Writing.{wrote_as, wrote_both, wrote_next, wrote_none, room_as, room_tail}}
use Rattle.write_elements.specs.inner.Element.{element}

pub wrote_is : {l m xs ys : List ℕ} {a b : ℕ} → xs ≡ ys → Wrote l m a ys b → Wrote l m a xs b
wrote_is e p = wrote_as (sym e) p

pub wrote_nothing : {l xs : List ℕ} {a : ℕ} → xs ≡ [] → Wrote l l a xs a
wrote_nothing {l} {xs} {a} e = wrote_is e (wrote_next (omega arith) (wrote_none l a))

module _ {all xs ys : List ℕ} (e : all ≡ xs ++ ys) where
  pub room_2 : {l m : List ℕ} {a b : ℕ} → Room l a all → Wrote l m a xs b → Room m b ys
  room_2 r p = room_tail p (room_as r e)

  pub wrote_two : {l m n : List ℕ} {a b c : ℕ} → Wrote l m a xs b → Wrote m n b ys c → Wrote l n a all c
  wrote_two p q = wrote_is e (wrote_both p q)

module _ {all xs ys zs : List ℕ} (e : all ≡ xs ++ (ys ++ zs)) {l m n : List ℕ} {a b c : ℕ} where
  pub room_3 : Room l a all → Wrote l m a xs b → Wrote m n b ys c → Room n c zs
  room_3 r p q = room_tail q (room_2 e r p)

  pub wrote_three : {k : List ℕ} {d : ℕ} → Wrote l m a xs b → Wrote m n b ys c → Wrote n k c zs d → Wrote l k a all d
  wrote_three p q t = wrote_two e p (wrote_both q t)

-- an element whose contents are n octets
pub element_as_lem : (tag n : ℕ) (xs : List ℕ) → n ≡ length xs → element tag xs ≡ lead tag n ++ xs
element_as_lem tag n xs e = ap (λ (k : ℕ). lead tag k ++ xs) (sym e)
