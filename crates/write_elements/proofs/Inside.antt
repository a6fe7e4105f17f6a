-- Where there is room for a lead or an identifier, its places are inside the buffer.
use Rattle.prelude.proofs.Prelude.{ℕ, ◌+◌, ◌≤◌, ◌<◌, ◌≡◌, sym, ap, arith, List, [], ◌∷◌, ◌++◌, ◌%◌, length, set, length-set}
use Rattle.coding.{specs.Codec.prim, specs.Codec.length_octets, specs.Leaves.{identifier, width, digits}, specs.inner.Written.{Room, Wrote, lead, full_number}, proofs.Small.{small_number, id_low, id_high, id_two, id_low_write, id_high_write, id_two_write}, proofs.Writing.lead_length, proofs.Writing.lead_long}
use Rattle.coding.proofs.{Number.length_digits, Writing.{room_as, room_first, room_rest, wrote_parts, string_split, number_split, width_range}}

module _ {l : List ℕ} {a : ℕ} (tag n : ℕ) (h : Room l a (lead tag n)) where
  pub lead_begin : a < length l
  lead_begin = omega (arith, lead_length tag n)

  pub lead_inside : (x : ℕ) → a + 1 < length (set l a x)
  lead_inside x = simp length-set (omega (arith, lead_length tag n))

  pub lead_inside_long : (x y : ℕ) → 128 ≤ n → n < 256 → a + 2 < length (set (set l a x) (a + 1) y)
  lead_inside_long x y p q = simp length-set (omega (arith, room_as h (lead_long tag n p q)))

module _ {l : List ℕ} {a : ℕ} (tag p : ℕ) (h : Room l a ((prim tag identifier).write p)) (low : 128 ≤ p) (high : p < 65408) where
  pub id_begin : a < length l
  id_begin = omega (arith, room_as h (id_two tag p low high))

  pub id_next : (x : ℕ) → a + 1 < length (set l a x)
  id_next x = simp length-set (omega (arith, room_as h (id_two tag p low high)))

  pub id_inside : (i : ℕ) → i < 4 → a + i < length l
  id_inside i k = omega (arith, room_as h (id_two tag p low high))

-- a lead and what follows it
module _ {l : List ℕ} {a : ℕ} (tag n : ℕ) (xs : List ℕ) (h : Room l a (tag ∷ length_octets n ++ xs)) where
  pub string_room : Room l a (lead tag n)
  string_room = room_first (string_split tag n xs) h

  pub string_rest : {m : List ℕ} {b : ℕ} → Wrote l m a (lead tag n) b → Room m b xs
  string_rest w = room_rest (string_split tag n xs) h w

pub string_wrote : {l m k : List ℕ} {a b c : ℕ} (tag n : ℕ) {xs : List ℕ} → Wrote l m a (lead tag n) b → Wrote m k b xs c → Wrote l k a (tag ∷ length_octets n ++ xs) c
string_wrote tag n {xs} p q = wrote_parts (string_split tag n xs) p q

module _ {l : List ℕ} {a : ℕ} (tag n w : ℕ) (e : w ≡ width n) (h : Room l a (full_number tag n)) where
  pub number_room : Room l a (lead tag w)
  number_room = room_first (number_split tag n e) h

  pub number_rest : {m : List ℕ} {b : ℕ} → Wrote l m a (lead tag w) b → b + w ≤ length m
  number_rest q = let r = room_rest (number_split tag n e) h q in omega (arith, length_digits w n)

pub number_wrote : {l m k : List ℕ} {a b c : ℕ} (tag n w : ℕ) → w ≡ width n → Wrote l m a (lead tag w) b → Wrote m k b (digits w n) c → Wrote l k a (full_number tag n) c
number_wrote tag n w e p q = wrote_parts (number_split tag n e) p q

pub width_few : (n w : ℕ) → w ≡ width n → w ≤ 4
width_few n w e = omega (arith, width_range n)

pub width_small : (n w : ℕ) → w ≡ width n → w < 256
width_small n w e = omega (arith, width_range n)

-- an element of one octet
module _ {l : List ℕ} {a : ℕ} (tag x : ℕ) where
  pub small_room : x < 128 → Room l a (full_number tag x) → Room l a (tag ∷ 1 ∷ x ∷ [])
  small_room p h = room_as h (small_number tag x p)

  pub low_room : x < 128 → Room l a ((prim tag identifier).write x) → Room l a (tag ∷ 1 ∷ x ∷ [])
  low_room p h = room_as h (id_low tag x p)

  pub high_room : 65408 ≤ x → x < 65536 → Room l a ((prim tag identifier).write x) → Room l a (tag ∷ 1 ∷ x % 256 ∷ [])
  high_room p q h = room_as h (id_high tag x p q)

-- how many octets an identifier's contents have
pub id_one_low : (p : ℕ) → p < 128 → 1 ≡ length (identifier.write p)
id_one_low p h = sym (ap length (id_low_write p h))

pub id_one_high : (p : ℕ) → 65408 ≤ p → p < 65536 → 1 ≡ length (identifier.write p)
id_one_high p l h = sym (ap length (id_high_write p l h))

pub id_two_octets : (p : ℕ) → 128 ≤ p → p < 65408 → 2 ≡ length (identifier.write p)
id_two_octets p l h = sym (ap length (id_two_write p l h))
