-- What comes before the extension, by its form: what a valid one holds, and its octets.
use Rattle.prelude.proofs.Prelude.{ℕ, ◌+◌, ◌*◌, ◌≤◌, ◌<◌, ◌≡◌, refl, sym, ap, ◌∙◌, List, [], ◌∷◌, ◌++◌, append_assoc, ◌⊎◌, inl, inr, Bool, true, ◌&&◌, arith, length, get_or, take, drop, ◌-◌, take-take}
use Rattle.prelude.proofs.Prelude.{length-append, length-take, length-drop, length-take-le, get_or-take, get_or-drop, eqb, eqb-true, ne_eqb, leb-true, leb}
use Rattle.coding.specs.{Reader.part, Codec.{canonical, over, pair, prim, cons, any_more, all, write_all}, Rows.table, Leaves.number}
use Rattle.coding.{specs.inner.Written.{lead, full_number}, proofs.Basic.{and_left, and_right}, proofs.Rows.{rows_table, table_length}}
use Rattle.coding.proofs.{Small.small_length, Writing.{number_write, cons_write, lead_length_short}}
use Rattle.types.specs.{declared.Charge.Charge, Charges.party_number, Charges.association, Stored.association_in, Stored.figure_in}
use Rattle.types.specs.Arguments.{no_charge, same_charge}
use Rattle.trunk_types.specs.{declared.Parts.Parts, Extensions.{no_extension, same_extension}, Stored.modes_in, Stored.lent_charge, Bodies.{same_body, same_modes, asking_for, modes, detail, detailed}}
use Rattle.trunk_types.specs.{Bodies.{charged, charging, naming, charge_for}, inner.Forms.{inner_in, users, diverting, inner_of}}
use Rattle.trunk_write_frames.specs.inner.Octets.{inner, mode, mode_at, modes_of, modes_octets, detail_in, users_octets}
use Rattle.trunk_write_frames.proofs.Dispatch.{Form, form_size}

-- ---- modes

pub mode_low : (n : ℕ) → mode.valid n ≡ true → n < 128
unfolding prim number
mode_low n v = omega (arith, leb-true n 6 (and_right (leb 0 n) _ v))

pub mode_write : (n : ℕ) → mode.write n ≡ full_number 0x0a n
mode_write n = number_write 0x0a 0 6 n

modes_length : (xs : List ℕ) → all mode.valid xs ≡ true → length (write_all mode.write xs) ≡ 3 * length xs
modes_length [] v = refl
modes_length (x ∷ xs) v =
    omega (
      arith,
      length-append (mode.write x) (write_all mode.write xs),
      ap length (mode_write x),
      small_length 0x0a x (mode_low x (and_left (mode.valid x) _ v)),
      modes_length xs (and_right (mode.valid x) _ v),
    )

-- those of a front are those of its array
module _ (front : List ℕ) (n : ℕ) (long : length front ≡ 48) (few : n ≤ 7) where
  places_length : length (take n (part front 9 16)) ≡ n
  unfolding part
  places_length = length-take-le n _ (omega (arith, length-take 7 (drop 9 front), length-drop 9 front))

  pub places : table n (mode_at front) ≡ take n (part front 9 16)
  unfolding part
  places =
      ap (λ (k : ℕ). table k (mode_at front)) (sym places_length)
      ∙ rows_table (take n (part front 9 16)) 0 (mode_at front) (λ i h. let l : i < n = omega (arith, places_length) in let m : i < 7 = omega arith in
      sym (get_or-take n _ i 0 l ∙ get_or-take 7 (drop 9 front) i 0 m ∙ get_or-drop 9 front i 0))

  -- where the code takes them out
  pub places_slice : table n (mode_at front) ≡ take (9 + n - 9) (drop 9 front)
  unfolding part
  places_slice = let k : 9 + n - 9 ≡ n = omega arith in places ∙ take-take n 7 (drop 9 front) few ∙ ap (λ (i : ℕ). take i (drop 9 front)) (sym k)

-- the elements of a list, by their places
pub placed : (xs : List ℕ) → table (length xs) (λ i. get_or xs i 0) ≡ xs
placed xs = rows_table xs 0 (λ i. get_or xs i 0) (λ i h. refl)

-- a front that holds modes
abbrev pub Asking : List ℕ → Type 0
Asking front = ((modes_in front).count ≤ 7) × (all mode.valid (modes_of front) ≡ true)

pub modes_size : (front : List ℕ) → Asking front → length (write_all mode.write (modes_of front)) ≡ 3 * (modes_in front).count
modes_size front a = modes_length (modes_of front) a.1 ∙ ap (λ (k : ℕ). 3 * k) (table_length (modes_in front).count (mode_at front))

module _ (front : List ℕ) (c : Charge) (long : length front ≡ 48) (v : modes.valid (inner_in front c) ≡ true) where
  abbrev held : List ℕ
  held = take (modes_in front).count (part front 9 16)

  -- the last two parts of a body that holds them
  abbrev rest : Bool
  rest = same_extension no_extension no_extension && same_charge no_charge c

  held_few : (modes_in front).count ≤ 7
  unfolding modes cons canonical over any_more inner_in
  held_few =
      let s = and_left (same_body (asking_for held) (inner_in front c)) _ v in
      let m = and_left (same_modes (asking_for held).modes (modes_in front)) _ (and_right (eqb 0 (detail_in front) && eqb 0 (get_or front 43 0)) _ (and_left _ rest s)) in
      let w = leb-true (length held) 7 (and_left (leb (length held) 7) _ (and_right (same_body (asking_for held) (inner_in front c)) _ v)) in
      omega (arith, w, eqb-true (length held) (modes_in front).count (and_left (eqb (length held) (modes_in front).count) _ m))

  pub modes_asking : Asking front
  unfolding modes cons canonical over any_more inner_in
  modes_asking = (
    held_few,
    ap (all mode.valid) (places front (modes_in front).count long held_few)
        ∙ and_right (leb (length held) 7) _ (and_right (same_body (asking_for held) (inner_in front c)) _ v),
  )

  pub modes_write : modes.write (inner_in front c) ≡ modes_octets front
  unfolding modes modes_octets canonical over any_more inner_in
  modes_write =
      cons_write 0x30 _ (inner_in front c)
      ∙ ap (λ (xs : List ℕ). lead 0x30 (length (write_all mode.write xs)) ++ write_all mode.write xs) (sym (places front (modes_in front).count long held_few))
      ∙ ap (λ (k : ℕ). lead 0x30 k ++ write_all mode.write (modes_of front)) (modes_size front modes_asking)

-- ---- by the form

abbrev Users : List ℕ → List ℕ → Type 0
Users front figure = ((party_number true).valid (association_in front) ≡ true) × ((association true).valid (association_in figure) ≡ true)

detail_form : (front : List ℕ) (c : Charge) (most : ℕ) → most < 128 → (detail most).valid (inner_in front c) ≡ true
    → Form ((detail most).write (inner_in front c)) (detail_in front < 128) (full_number 0x0a (detail_in front))
unfolding inner_in detail canonical over prim number
detail_form front c most h v =
    let w = and_right (same_body (detailed (detail_in front)) (inner_in front c)) _ v in
    record { asked = omega (arith, h, leb-true (detail_in front) most (and_right (leb 0 (detail_in front)) _ w)); octets = number_write 0x0a 0 most (detail_in front) }

module _ {form : ℕ} (p : Parts) (v : (inner_of form).valid (inner p) ≡ true) where
  pub form_detail : (form ≡ 1) ⊎ (form ≡ 2) → Form ((inner_of form).write (inner p)) (detail_in p.front.now < 128) (full_number 0x0a (detail_in p.front.now))
  unfolding inner_of
  form_detail (inl e) = rw e (detail_form p.front.now _ 6 (omega arith) (rw e at v))
  form_detail (inr e) = rw e (detail_form p.front.now _ 2 (omega arith) (rw e at v))

  pub form_59 : length p.front.now ≡ 48 → form ≡ 59 → Form ((inner_of form).write (inner p)) (Asking p.front.now) (modes_octets p.front.now)
  unfolding inner_of
  form_59 long e = record { asked = modes_asking p.front.now _ long (rw e at v); octets = rw e (modes_write p.front.now _ long (rw e at v)) }

  pub form_64 : form ≡ 64
      → Form ((inner_of form).write (inner p)) (Users p.front.now p.figure.now) (users_octets (association_in p.front.now) (association_in p.figure.now))
  unfolding inner_of inner_in users canonical over pair figure_in
  form_64 e =
      let n = (party_number true).valid (association_in p.front.now) in
      let a = (association true).valid (association_in p.figure.now) in
      let w = and_right (same_body (naming 0 0 (association_in p.front.now) (association_in p.figure.now)) (inner p)) (n && a) (rw e at v) in
      record { asked = (and_left n a w, and_right n a w); octets = rw e }

  pub form_65 : form ≡ 65
      → Form ((inner_of form).write (inner p)) (Users p.front.now p.figure.now × (detail_in p.front.now < 128))
      (users_octets (association_in p.front.now) (association_in p.figure.now) ++ full_number 0x0a (detail_in p.front.now))
  unfolding inner_of inner_in diverting canonical over pair prim number figure_in
  form_65 e =
      let n = (party_number true).valid (association_in p.front.now) in
      let a = (association true).valid (association_in p.figure.now) in
      let d = detail_in p.front.now in
      let w = and_right (same_body (naming d 0 (association_in p.front.now) (association_in p.figure.now)) (inner p)) (n && (a && (leb 0 d && leb d 3))) (rw e at v) in
      let q = and_right n _ w in
      record {
        asked = ((and_left n _ w, and_left a _ q), omega (arith, leb-true d 3 (and_right (leb 0 d) _ (and_right a _ q))));
        octets = rw (e, number_write 0x0a 0 3 d)
            (sym (append_assoc ((party_number true).write (association_in p.front.now)) ((association true).write (association_in p.figure.now)) (full_number 0x0a d)));
      }

  -- any other
  pub form_charge : (form ≡ 1 → ⊥) → (form ≡ 2 → ⊥) → (form ≡ 59 → ⊥) → (form ≡ 64 → ⊥) → (form ≡ 65 → ⊥)
      → Form ((inner_of form).write (inner p)) ((charge_for form).valid (lent_charge p) ≡ true) ((charge_for form).write (lent_charge p))
  unfolding inner_of inner_in charged canonical over
  form_charge h1 h2 h59 h64 h65 =
      let n1 = ne_eqb form 1 h1 in
      let n2 = ne_eqb form 2 h2 in
      let n59 = ne_eqb form 59 h59 in
      let n64 = ne_eqb form 64 h64 in
      let n65 = ne_eqb form 65 h65 in
      record {
        asked = and_right (same_body (charging (lent_charge p)) (inner p)) _ (rw (n1, n2, n59, n64, n65) at v);
        octets = rw (n1, n2, n59, n64, n65);
      }

-- ---- how many octets

pub size_detail : {all : List ℕ} {d : ℕ} → Form all (d < 128) (full_number 0x0a d) → 3 ≡ length all
size_detail {all} {d} f = form_size f (sym (small_length 0x0a d f.asked))

pub size_59 : (front : List ℕ) {all : List ℕ} {n : ℕ} → Form all (Asking front) (modes_octets front) → n ≡ (modes_in front).count → 2 + 3 * n ≡ length all
unfolding modes_octets
size_59 front f q =
    let few = f.asked.0 in
    let l = simp length-append at (ap length f.octets) in
    omega (arith, l, lead_length_short 0x30 (3 * (modes_in front).count) (omega arith), modes_size front f.asked)

pub size_65 : {form n : ℕ} (p : Parts) → (inner_of form).valid (inner p) ≡ true → form ≡ 65
    → n ≡ length (users_octets (association_in p.front.now) (association_in p.figure.now))
    → n + 3 ≡ length ((inner_of form).write (inner p))
size_65 p v e q =
    let f = form_65 p v e in
    let d = detail_in p.front.now in
    let l = length-append (users_octets (association_in p.front.now) (association_in p.figure.now)) (full_number 0x0a d) in
    form_size f (omega (arith, small_length 0x0a d f.asked.1))
