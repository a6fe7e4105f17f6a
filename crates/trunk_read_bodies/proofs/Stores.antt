-- A body with its extension, read in the code's steps.
use Rattle.prelude.proofs.{Prelude.{ℕ, ◌≡◌, refl, ap, sym, ◌∙◌, true, true≢false, List, replicate, cond, eqb, eqb-true, ne_eqb}, Ways.by_cases}
use Rattle.coding.{specs.Reader.Ans, specs.Reader.part, specs.Reader.after, specs.Reader.code, specs.Reader.opened, specs.Reader.closed, specs.Reader.constructed, specs.Reader.Ans.got}
use Rattle.coding.{specs.Reader.Ans.halt, specs.Codec.Run, specs.Codec.one_of, specs.Codec.cons, specs.Codec.pair, specs.Codec.canonical, specs.Codec.over, specs.inner.Shown.shown}
use Rattle.coding.proofs.Reading.{flat, some_code}
use Rattle.types.specs.{declared.Charge.Charge, Arguments.no_charge, Stored.figure_in, Stored.stored_charge, Stored.Blank, Stored.stored}
use Rattle.read_elements.specs.declared.Empty.{Empty}
use Rattle.trunk_types.specs.{declared.Body.Body, Extensions.any_extension, Components.trunk_operations, Bodies.no_body, Bodies.charging, Bodies.charged, Bodies.extended, Bodies.extending, Bodies.with_extension}
use Rattle.trunk_types.specs.{Bodies.{dummy, argument_of, result_of, final_charge, interim, tariff, complete, diverted}, Stored.{extension_in, body_in}}
use Rattle.read_lists.specs.inner.Answers.{whole}
use Rattle.trunk_read_fields.specs.inner.Fields.{inner_in, inner, users, diverting}
use Rattle.trunk_read_bodies.specs.inner.Bodied.{inner_of, charge_for}

-- ---- a charge alone, and none

pub blank_none : {figure numbers rows : List ℕ} → Blank figure numbers rows → stored_charge figure numbers rows ≡ no_charge
unfolding figure_in part
blank_none b = rw (b.figure_blank, b.numbers_blank, b.rows_blank)

front_none : (front : List ℕ) → front ≡ replicate 48 0 → (c : Charge) → inner_in front c ≡ charging c
unfolding inner_in part
front_none front e c = rw e

-- what is read becomes a part of something else
pub inner_on : {A B : Type 0} (g : A → B) (z : A) (y : B) (r : Empty) (v : A) (x : Ans A) → (r.fault, r.place, stored z r.fault v, r.next) ≡ shown z x
    → (r.fault, r.place, stored y r.fault (g v), r.next) ≡ shown y (after x (λ c n. got (g c) n))
unfolding shown after stored
inner_on {A} {B} g z y r v x e = fix ∙ go x e
  where
    fix : ◌≡◌ {A = ℕ × ℕ × B × ℕ} (r.fault, r.place, cond (eqb r.fault 0) (g v) y, r.next) (r.fault, r.place, cond (eqb r.fault 0) (g (cond (eqb r.fault 0) v z)) y, r.next)
    fix = by_cases (eqb r.fault 0) (λ q. rw q) (λ q. rw q)

    go : (x : Ans A) → (r.fault, r.place, cond (eqb r.fault 0) v z, r.next) ≡ shown z x
        → (r.fault, r.place, cond (eqb r.fault 0) (g (cond (eqb r.fault 0) v z)) y, r.next) ≡ shown y (after x (λ c n. got (g c) n))
    go (got c n) e = ap (λ (q : ℕ × ℕ × A × ℕ). (q.0, q.1, cond (eqb q.0 0) (g q.2) y, q.3)) e
    go (halt w p) e = ap (λ (q : ℕ × ℕ × A × ℕ). (q.0, q.1, cond (eqb q.0 0) (g q.2) y, q.3)) e ∙ rw (ne_eqb (code w) 0 (some_code w))

charged_read : (f : Run Charge) (s : List ℕ) (at end : ℕ) → (charged f).read s at end ≡ after (f.read s at end) (λ c n. got (charging c) n)
unfolding charged canonical over
charged_read f s at end = refl

-- a body without its extension: no charge, a figure alone, a charge alone
module _ (front figure numbers rows : List ℕ) {r : Empty} where
  pub uncharged : {t : ℕ × ℕ × Body × ℕ} → Blank figure numbers rows → inner r front no_charge ≡ t → inner r front (stored_charge figure numbers rows) ≡ t
  uncharged b h = rw (blank_none b) h

  pub unlisted : {f : List ℕ} {t : ℕ × ℕ × Body × ℕ} → Blank f numbers rows → inner r front (stored_charge figure (replicate 32 0) (replicate 192 0)) ≡ t
      → inner r front (stored_charge figure numbers rows) ≡ t
  unlisted b h = rw (b.numbers_blank, b.rows_blank) h

  pub charge_alone : (f : Run Charge) (s : List ℕ) (at end : ℕ) → front ≡ replicate 48 0 → whole r figure numbers rows ≡ shown no_charge (f.read s at end)
      → inner r front (stored_charge figure numbers rows) ≡ shown no_body ((charged f).read s at end)
  charge_alone f s at end z e = rw (front_none front z, charged_read) (inner_on charging no_charge no_body _ _ _ e)

-- ---- the 30 with its extension

pub extended_read : (f : Run Body) (s : List ℕ) (at end : ℕ) →
    (extended f).read s at end ≡
    after (opened 0x30 s at end) (λ x next. after (f.read s x.start x.stop) (λ b m. after (any_extension.read s m x.stop) (λ y n. closed (with_extension y b) n x.stop next)))
unfolding extended cons constructed canonical over pair
extended_read f s at end = simp flat

pub body_stored : (front extension : List ℕ) (c : Charge) → body_in front extension c ≡ with_extension (extension_in extension) (inner_in front c)
unfolding body_in inner_in
body_stored front extension c = refl

-- ---- an operation's argument, by its form

pub argument_form : (o : ℕ) → one_of trunk_operations o ≡ true → (o ≡ 60 → ⊥) → (s : List ℕ) (at end : ℕ) → (argument_of o).read s at end ≡ (extended (inner_of o)).read s at end
unfolding one_of argument_of inner_of charge_for final_charge interim tariff complete diverted users diverting
argument_form o h n s at end =
    by_cases (eqb o 59) (λ q. rw (eqb-true o 59 q)) (λ q. by_cases (eqb o 61) (λ q. rw (eqb-true o 61 q)) (λ q61. by_cases (eqb o 62) (λ q. rw (eqb-true o 62 q)) (λ q62.
    by_cases (eqb o 63) (λ q. rw (eqb-true o 63 q)) (λ q63. by_cases (eqb o 64) (λ q. rw (eqb-true o 64 q)) (λ q64. by_cases (eqb o 65) (λ q. rw (eqb-true o 65 q))
    (λ q65. absurd (true≢false (sym h ∙ rw (q, ne_eqb o 60 n, q61, q62, q63, q64, q65)))))))))

pub argument_dummy : (o : ℕ) → o ≡ 60 → (s : List ℕ) (at end : ℕ) → (argument_of o).read s at end ≡ dummy.read s at end
unfolding argument_of
argument_dummy o e s at end = rw e

-- ---- results, by their form

module _ (o : ℕ) (s : List ℕ) (at end : ℕ) where
  pub result_59 : o ≡ 59 → (result_of o).read s at end ≡ (extended (inner_of 1)).read s at end
  unfolding result_of inner_of
  result_59 e = rw e

  pub result_64 : (o ≡ 59 → ⊥) → (result_of o).read s at end ≡ (extended (inner_of 2)).read s at end
  unfolding result_of inner_of
  result_64 n = rw (ne_eqb o 59 n)

-- ---- 60: nothing, or an extension by itself

pub nothing_there : (r : Empty) (extension : List ℕ) → extension ≡ replicate 244 0 → (x : Ans (Unit {0})) → (r.fault, r.place, tt, r.next) ≡ shown tt x
    → (r.fault, r.place, stored no_body r.fault (extending (extension_in extension)), r.next) ≡ shown no_body (after x (λ u n. got no_body n))
unfolding stored shown after
nothing_there r extension e x q = rw e (fix ∙ go x q)
  where
    fix : ◌≡◌ {A = ℕ × ℕ × Body × ℕ} (r.fault, r.place, cond (eqb r.fault 0) no_body no_body, r.next) (r.fault, r.place, no_body, r.next)
    fix = by_cases (eqb r.fault 0) (λ q. rw q) (λ q. rw q)

    go : (x : Ans (Unit {0})) {k p n : ℕ} → (k, p, tt, n) ≡ shown (tt {0}) x → ◌≡◌ {A = ℕ × ℕ × Body × ℕ} (k, p, no_body, n) (shown no_body (after x (λ u n. got no_body n)))
    go (got u m) e = ap (λ q. (q.0, q.1, no_body, q.3)) e
    go (halt w m) e = ap (λ q. (q.0, q.1, no_body, q.3)) e
