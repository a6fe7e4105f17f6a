-- A figure's 48 octets: what a store does to the fields that lie in them.
use Rattle.prelude.proofs.Prelude.{ℕ, zero, suc, ◌+◌, ◌-◌, ◌*◌, ◌/◌, ◌%◌, ◌≤◌, ◌<◌, arith, add-one, mod-add-div, ◌≡◌, refl, sym, ap, subst, ◌∙◌, List, [], ◌∷◌, ◌++◌, append-nil, length, get_or, set, take, drop}
use Rattle.prelude.proofs.Prelude.{replicate, length-drop, take-append-drop, length-take-le, take-set-le, drop-set-add, take-suc, take-take, get_or-take, get_or-drop}
use Rattle.coding.{specs.Codec.pad, proofs.Arrays.padded_more, specs.Reader.part}
use Rattle.types.specs.{declared.Money.Money, declared.Association.Association, declared.Figure.Figure, Charges.no_association, Stored.money_in, Stored.association_in, Stored.figure_in}

-- ---- numbers in octets, low first, over how many there are

-- the low k octets of a number, and what is above them
abbrev low_first : ℕ → ℕ → List ℕ
low_first zero n = n ∷ []
low_first (suc k) n = n % 256 ∷ low_first k (n / 256)

abbrev together : List ℕ → ℕ
together [] = 0
together (x ∷ []) = x
together (x ∷ y ∷ ys) = x + 256 * together (y ∷ ys)

-- put together they are the number
put_together : (k n : ℕ) → together (low_first k n) ≡ n
put_together zero n = refl
put_together (suc zero) n = mod-add-div n 256
put_together (suc (suc k)) n = ap (λ (m : ℕ). n % 256 + 256 * m) (put_together (suc k) (n / 256)) ∙ mod-add-div n 256

-- as two octets are stored, and four
pub halves : (n : ℕ) → n % 256 + 256 * (n / 256) ≡ n
halves = put_together 1

pub quarters : (n : ℕ) → n % 256 + 256 * (n / 256 % 256) + 65536 * (n / 65536 % 256 + 256 * (n / 16777216)) ≡ n
quarters n = let e : n % 256 + 256 * (n / 256 % 256) + 65536 * (n / 65536 % 256 + 256 * (n / 16777216)) ≡ together (low_first 3 n) = omega arith in e ∙ put_together 3 n

-- ---- a list is the list of its elements, so a law of 48 octets holds where it holds of 48 elements written out

abbrev pub spread : ℕ → (ℕ → ℕ) → List ℕ
spread zero f = []
spread (suc n) f = f 0 ∷ spread n (λ i. f (suc i))

spread_own : (s : List ℕ) → spread (length s) (λ i. get_or s i 0) ≡ s
spread_own [] = refl
spread_own (x ∷ xs) = ap (λ (t : List ℕ). x ∷ t) (spread_own xs)

pub by_octets : (n : ℕ) (P : List ℕ → Type 0) → ((f : ℕ → ℕ) → P (spread n f)) → (s : List ℕ) → length s ≡ n → P s
by_octets n P each s e = subst P (spread_own s) (subst (λ (k : ℕ). P (spread k (λ i. get_or s i 0))) (sym e) (each (λ i. get_or s i 0)))

-- the same where the octets from k on are known
pub by_front : (k : ℕ) (P : List ℕ → Type 0) (tail : List ℕ) → ((f : ℕ → ℕ) → P (spread k f ++ tail)) → (s : List ℕ) → k ≤ length s → drop k s ≡ tail → P s
by_front k P tail each s h e =
    subst P (ap (λ (r : List ℕ). take k s ++ r) (sym e) ∙ take-append-drop k s) (by_octets k (λ (m : List ℕ). P (m ++ tail)) each (take k s) (length-take-le k s h))

-- ---- a loop that copies n octets from a place on

module _ (n : ℕ) (s : List ℕ) (from : ℕ) (room : from + n ≤ length s) where
  pub copy_more : (i : ℕ) → i < n → set (pad n 0 (take i (drop from s))) i (get_or s (from + i) 0) ≡ pad n 0 (take (i + 1) (drop from s))
  copy_more i h =
      let l : i < length (drop from s) = omega (arith, length-drop from s) in
      rw (add-one, take-suc (drop from s) i 0 l, get_or-drop) (padded_more n 0 (take i (drop from s)) _ i (length-take-le i (drop from s) (omega arith)) h)

  pub copy_done : (i : ℕ) → i ≡ n → pad n 0 (take i (drop from s)) ≡ take n (drop from s)
  unfolding pad
  copy_done i e =
      let l = length-take-le n (drop from s) (omega (arith, length-drop from s)) in
      let z : n - length (take n (drop from s)) ≡ 0 = omega (arith, l) in
      rw (e, z) (append-nil (take n (drop from s)))

-- ---- stores from 42 on

abbrev pub figure_with : Money → Association → ℕ → ℕ → ℕ → ℕ → ℕ → ℕ → Figure
figure_with m a k t d b r n = record { money = m; association = a; kind = k; total = t; billed = d; billing = b; arrangement = r; count = n }

-- the figure of 48 octets after a store
abbrev Stored : ℕ → ℕ → (Figure → Figure) → Type 0
Stored i x change = (s : List ℕ) → length s ≡ 48 → figure_in (set s i x) ≡ change (figure_in s)

pub kind_stored : (x : ℕ) → Stored 42 x (λ g. figure_with g.money g.association x g.total g.billed g.billing g.arrangement g.count)
unfolding figure_in part
kind_stored x = by_octets 48 _ (λ f. refl)

pub totalled_stored : (s : List ℕ) (t d b : ℕ) → length s ≡ 48 → (let g = figure_in s in
    figure_in (set (set (set s 43 t) 44 d) 45 b) ≡ figure_with g.money g.association g.kind t d b g.arrangement g.count)
unfolding figure_in part
totalled_stored s t d b =
    by_octets 48 (λ (s : List ℕ). let g = figure_in s in
    figure_in (set (set (set s 43 t) 44 d) 45 b) ≡ figure_with g.money g.association g.kind t d b g.arrangement g.count) (λ f. refl) s

-- ---- a part, after a store beside it

pub unassociated_stored : (s : List ℕ) (i x : ℕ) → 42 ≤ i → part (set s i x) 16 42 ≡ part s 16 42
unfolding part
unassociated_stored s i x h =
    let e : i ≡ 16 + (i - 16) = omega arith in
    let l : 26 ≤ i - 16 = omega arith in
    rw (e, drop-set-add) (take-set-le 26 (drop 16 s) (i - 16) x l)

-- ---- figures of which a part is known

-- money lies below 16
pub money_front : (s : List ℕ) → money_in (take 16 s) ≡ money_in s
unfolding part
money_front [] = refl
money_front (x ∷ s) =
    let at : (i : ℕ) → i < 15 → get_or (take 15 s) i 0 ≡ get_or s i 0 = λ i h. get_or-take 15 s i 0 h in
    simp (take-take 10 15 s (omega arith), at 10 (omega arith), at 11 (omega arith), at 12 (omega arith), at 13 (omega arith), at 14 (omega arith))

-- all but the association stays where the octets beside it stay
pub beside_figure : (s t : List ℕ) → take 16 t ≡ take 16 s → drop 42 t ≡ drop 42 s → (let g = figure_in s in
    figure_in t ≡ figure_with g.money (association_in t) g.kind g.total g.billed g.billing g.arrangement g.count)
unfolding figure_in
beside_figure s t m r =
    let after : (i : ℕ) → get_or t (42 + i) 0 ≡ get_or s (42 + i) 0 = λ i. sym (get_or-drop 42 t i 0) ∙ ap (λ (l : List ℕ). get_or l i 0) r ∙ get_or-drop 42 s i 0 in
    simp (sym (money_front t) ∙ ap money_in m ∙ money_front s, after 0, after 1, after 2, after 3, after 4, after 5)

-- nothing but money
module _ (s : List ℕ) (rest : drop 16 s ≡ replicate 32 0) where
  pub money_long : length s ≡ 48
  money_long = omega (arith, length-drop 16 s, ap length rest)

  pub money_figure_lem : figure_in s ≡ figure_with (money_in s) no_association 0 0 0 0 0 0
  unfolding figure_in part
  money_figure_lem =
      by_front 16 (λ (t : List ℕ). figure_in t ≡ figure_with (money_in t) no_association 0 0 0 0 0 0) (replicate 32 0) (λ f. refl) s (omega (arith, money_long)) rest

  pub money_unassociated : part s 16 42 ≡ replicate 26 0
  unfolding part
  money_unassociated = rw rest
