-- A figure that is laid out in 48 octets is read back from them.
use Rattle.prelude.proofs.Prelude.{ℕ, ◌+◌, ◌*◌, ◌/◌, ◌%◌, ◌^◌, ◌<◌, arith, ◌≡◌, refl, ap, ◌∙◌, List, [], ◌∷◌, ◌++◌, length, get_or}
use Rattle.coding.specs.Reader.{part}
use Rattle.types.specs.{declared.Figure.Figure, Stored.figure_in}
use Rattle.types.proofs.Stored.{spread, by_octets, halves, quarters}
use Rattle.std.specs.Int.{to_le_bytes, w16, w32}

-- a list of n is the list of its first n
abbrev first : ℕ → List ℕ → List ℕ
first n s = spread n (λ i. get_or s i 0)

module _ (g : Figure) where
  abbrev os : List ℕ
  os = g.money.currency.octets

  abbrev ds : List ℕ
  ds = g.association.digits

  abbrev pub laid : List ℕ
  laid =
      let m = g.money in let a = g.association in
      (m.currency.count ∷ first 10 os)
      ++ ((m.multiplier ∷ m.number % 256 ∷ m.number / 256 % 256 ∷ m.number / 65536 % 256 ∷ m.number / 16777216 ∷ [])
      ++ ((a.id % 256 ∷ a.id / 256 ∷ a.count % 256 ∷ a.count / 256 ∷ a.kind ∷ a.plan ∷ first 20 ds)
      ++ (g.kind ∷ g.total ∷ g.billed ∷ g.billing ∷ g.arrangement ∷ g.count ∷ [])))

  -- the figure with other arrays and wide numbers
  abbrev made : List ℕ → ℕ → List ℕ → ℕ → ℕ → Figure
  made octets number digits id count = record {
    money = record { currency = record { count = g.money.currency.count; octets = octets }; multiplier = g.money.multiplier; number = number };
    association = record { id = id; count = count; kind = g.association.kind; plan = g.association.plan; digits = digits };
    kind = g.kind;
    total = g.total;
    billed = g.billed;
    billing = g.billing;
    arrangement = g.arrangement;
    count = g.count;
  }

  pub figure_laid : length os ≡ 10 → length ds ≡ 20 → figure_in laid ≡ g
  unfolding figure_in part
  figure_laid e h =
      let n = g.money.number in
      let i = g.association.id in
      let k = g.association.count in
      let n' = n % 256 + 256 * (n / 256 % 256) + 65536 * (n / 65536 % 256 + 256 * (n / 16777216)) in
      let i' = i % 256 + 256 * (i / 256) in
      let k' = k % 256 + 256 * (k / 256) in
      ap (λ (x : List ℕ). made x n' (first 20 ds) i' k') (by_octets 10 (λ (s : List ℕ). first 10 s ≡ s) (λ f. refl) os e)
      ∙ ap (λ (x : ℕ). made os x (first 20 ds) i' k') (quarters n)
      ∙ ap (λ (x : List ℕ). made os n x i' k') (by_octets 20 (λ (s : List ℕ). first 20 s ≡ s) (λ f. refl) ds h)
      ∙ ap (λ (x : ℕ). made os n ds x k') (halves i)
      ∙ ap (λ (x : ℕ). made os n ds i x) (halves k)

-- ---- the same where the wide numbers are laid out by their octets

module _ (g : Figure) (n i k : List ℕ) where
  abbrev pub laid_in : List ℕ
  laid_in =
      let m = g.money in let a = g.association in
      (m.currency.count ∷ first 10 (os g))
      ++ ((m.multiplier ∷ get_or n 0 0 ∷ get_or n 1 0 ∷ get_or n 2 0 ∷ get_or n 3 0 ∷ [])
      ++ ((get_or i 0 0 ∷ get_or i 1 0 ∷ get_or k 0 0 ∷ get_or k 1 0 ∷ a.kind ∷ a.plan ∷ first 20 (ds g))
      ++ (g.kind ∷ g.total ∷ g.billed ∷ g.billing ∷ g.arrangement ∷ g.count ∷ [])))

  pub figure_laid_in : length (os g) ≡ 10 → length (ds g) ≡ 20 → n ≡ to_le_bytes w32 g.money.number → i ≡ to_le_bytes w16 g.association.id → k ≡ to_le_bytes w16 g.association.count
      → g.money.number < 2 ^ 32 → g.association.id < 2 ^ 16 → g.association.count < 2 ^ 16 → figure_in laid_in ≡ g
  figure_laid_in e h p q r l m o =
      let n0 : get_or n 0 0 ≡ g.money.number % 256 = rw p (omega arith) in
      let n1 : get_or n 1 0 ≡ g.money.number / 256 % 256 = rw p (omega arith) in
      let n2 : get_or n 2 0 ≡ g.money.number / 65536 % 256 = rw p (omega arith) in
      let n3 : get_or n 3 0 ≡ g.money.number / 16777216 = rw p (omega arith) in
      let i0 : get_or i 0 0 ≡ g.association.id % 256 = rw q (omega arith) in
      let i1 : get_or i 1 0 ≡ g.association.id / 256 = rw q (omega arith) in
      let k0 : get_or k 0 0 ≡ g.association.count % 256 = rw r (omega arith) in
      let k1 : get_or k 1 0 ≡ g.association.count / 256 = rw r (omega arith) in
      rw (n0, n1, n2, n3, i0, i1, k0, k1) (figure_laid g e h)
