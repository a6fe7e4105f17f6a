-- Adding a figure, way by way. Assumes nothing.
use Rattle.prelude.proofs.Prelude.{ℕ, ◌<◌, ◌≤◌, ◌≡◌, refl, ◌∙◌, ap, true, false, not, ◌&&◌, cond, leb, eqb-true, eq-eqb, ne_eqb, le-leb, lt-leb, leb-true, arith}
use Rattle.coding.proofs.Basic.{picked, unpicked}
use Rattle.prelude.proofs.Ways.{by_cases}
use Rattle.types.specs.{declared.Charge.Charge, declared.Currency.Currency, Arguments.is_kind}
use Rattle.same_final.specs.Same.{up_to}
use Rattle.month_rows.{specs.Rows.row_of, proofs.Search.at_most}
use Rattle.month_rules.specs.declared.{Month.Month, Added.Added}
use Rattle.month_rules.specs.Month.{used, is_new, with_money, with_free, with_units, with_figure, with_place, added, add_figure}
use Rattle.month_rules.proofs.Adding.{up_to_most}
use Rattle.closing.specs.Range.{in_range}
use Rattle.month.specs.Add.{add_of}

module _ (m : Month) (service : ℕ) (c : Charge) where
  pub add_10 : in_range service c ≡ false → add_of m service c ≡ added 10 m
  unfolding add_of
  add_10 q = picked _ _ (ap not q)

  pub add_in : in_range service c ≡ true → add_of m service c ≡ add_figure m service c
  unfolding add_of add_figure
  add_in q = unpicked _ _ (ap not q)

  module _ (q : in_range service c ≡ true) where
    pub add_46 : 4096 ≤ m.added → add_of m service c ≡ added 46 m
    unfolding add_of
    add_46 h = unpicked _ _ (ap not q) ∙ picked _ _ (le-leb 4096 m.added h)

    module _ (h : m.added < 4096) where
      abbrev x : Currency
      x = c.figure.money.currency

      abbrev done : Month → Added
      done n = added 0 (with_place n service c.figure.billed c.figure.billing)

      third : add_of m service c ≡ cond (is_kind 2 c && (is_new m x && leb 16 (used m))) (added 47 m) (done (with_figure m c))
      unfolding add_of
      third = unpicked _ _ (ap not q) ∙ unpicked _ _ (lt-leb 4096 m.added h)

      module _ (k : c.figure.kind ≡ 2) (i n : ℕ) (p : n ≡ used m) (r : i ≡ row_of x n m.rows) where
        found : i ≡ row_of x (used m) m.rows
        found = r ∙ ap (λ (j : ℕ). row_of x j m.rows) p

        pub add_47 : i ≡ 16 → add_of m service c ≡ added 47 m
        add_47 e =
            let z = at_most x (used m) m.rows in let y = up_to_most 16 m.count in
            let a : row_of x (used m) m.rows ≡ used m = omega (arith, z, y, found, e) in
            let b : 16 ≤ used m = omega (arith, z, y, found, e) in
            let t : (is_kind 2 c && (is_new m x && leb 16 (used m))) ≡ true =
            rw (eq-eqb c.figure.kind 2 k, eq-eqb (row_of x (used m) m.rows) (used m) a, le-leb 16 (used m) b) refl in
            third ∙ picked _ _ t

        pub add_money : (i ≡ 16 → ⊥) → add_of m service c ≡ done (with_money m c.figure.money)
        add_money e =
            let none : (is_new m x && leb 16 (used m)) ≡ false =
            by_cases (is_new m x)
            (λ t. let a = eqb-true (row_of x (used m) m.rows) (used m) t in let y = up_to_most 16 m.count in
            by_cases (leb 16 (used m)) (λ l. absurd (e (let b = leb-true 16 (used m) l in omega (arith, a, b, y, found)))) (λ l. rw (t, l) refl))
            (λ t. rw t refl) in
            let t : (is_kind 2 c && (is_new m x && leb 16 (used m))) ≡ false = rw (eq-eqb c.figure.kind 2 k) none in
            third ∙ unpicked _ _ t ∙ ap done (picked _ _ (eq-eqb c.figure.kind 2 k))

      module _ (k : c.figure.kind ≡ 2 → ⊥) where
        other : add_of m service c ≡ done (cond (is_kind 1 c) (with_free m) (with_units m c.entries (up_to 32 c.figure.count)))
        other =
            let t : (is_kind 2 c && (is_new m x && leb 16 (used m))) ≡ false = rw (ne_eqb c.figure.kind 2 k) refl in
            third ∙ unpicked _ _ t ∙ ap done (unpicked _ _ (ne_eqb c.figure.kind 2 k))

        pub add_free : c.figure.kind ≡ 1 → add_of m service c ≡ done (with_free m)
        add_free f = other ∙ ap done (picked _ _ (eq-eqb c.figure.kind 1 f))

        pub add_units : (c.figure.kind ≡ 1 → ⊥) → add_of m service c ≡ done (with_units m c.entries (up_to 32 c.figure.count))
        add_units f = other ∙ ap done (unpicked _ _ (ne_eqb c.figure.kind 1 f))
