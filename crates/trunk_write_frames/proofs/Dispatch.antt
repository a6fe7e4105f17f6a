-- A writer that chooses by a form: all its octets are those of the choice.
use Rattle.prelude.proofs.Prelude.{ℕ, ◌≤◌, ◌≡◌, sym, ap, ◌∙◌, List, ◌++◌, true, arith, length}
use Rattle.coding.{specs.Codec.Run, specs.inner.Written.Wrote, specs.inner.Written.Room, proofs.Writing.{room_as, room_head}}
use Rattle.write_elements.proofs.Parts.{wrote_is, room_2}
use Rattle.trunk_write_frames.specs.inner.Octets.{Fits}

-- octets in parts: the first has room where all have, and so has the second
pub room_1 : {all xs l : List ℕ} {a : ℕ} (ys : List ℕ) → all ≡ xs ++ ys → Room l a all → Room l a xs
room_1 ys e r = room_head ys (room_as r e)

pub room_mid : {all xs ys l m : List ℕ} {a b : ℕ} (zs : List ℕ) → all ≡ xs ++ (ys ++ zs) → Room l a all → Wrote l m a xs b → Room m b ys
room_mid zs e r p = room_head zs (room_2 e r p)

-- what the function that puts the choice asks for, and its octets
pub record Form (all : List ℕ) (Asked : Type 0) (xs : List ℕ) : Type 0 where
  pub asked : Asked
  pub octets : all ≡ xs

module _ {all xs : List ℕ} {Asked : Type 0} (f : Form all Asked xs) where
  pub form_room : {l : List ℕ} {a : ℕ} → Room l a all → Asked × Room l a xs
  form_room r = (f.asked, room_as r f.octets)

  pub form_wrote : {l m : List ℕ} {a b : ℕ} → Wrote l m a xs b → Wrote l m a all b
  form_wrote w = wrote_is f.octets w

  pub form_size : {n : ℕ} → n ≡ length xs → n ≡ length all
  form_size q = q ∙ sym (ap length f.octets)

-- a choice in a choice
pub form_then : {all xs ys : List ℕ} {A B : Type 0} → Form all A xs → (A → Form xs B ys) → Form all B ys
form_then f g = let h = g f.asked in record { asked = h.asked; octets = f.octets ∙ h.octets }

pub form_fits : {A : Type 0} {g : Run A} {x : A} {all l : List ℕ} {a most : ℕ} → Form all (g.valid x ≡ true) (g.write x) → length all ≤ most → Room l a all → Fits g x most l a
form_fits f h r = record { valid = f.asked; few = omega (arith, ap length f.octets); room = room_as r f.octets }
