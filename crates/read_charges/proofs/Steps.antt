-- Types read in the code's steps: the same answers; what the returns cite beside the laws of readers and of stores.
use Rattle.prelude.proofs.Prelude.{ℕ, ◌≤◌, arith, ◌≡◌, refl, sym, Bool, true, false, ◌&&◌, ◌||◌, cond, List, leb, eqb, eqb-true, eqb-false, eq-eqb, ne_eqb, leb-true, le-ltb}
use Rattle.coding.{specs.Reader.Ans, specs.Reader.after, specs.Reader.opened, specs.Reader.closed, specs.Reader.constructed, specs.Reader.choice, specs.Reader.tagged}
use Rattle.coding.{specs.Reader.Ans.got, specs.Reader.Ans.halt, specs.inner.Shown.shown, specs.Codec.Run, specs.Codec.cons, specs.Codec.nothing, specs.Codec.pair, specs.Codec.sort}
use Rattle.coding.{specs.Codec.canonical, specs.Codec.over, specs.Codec.pick_run, proofs.Basic.and_left, proofs.Basic.and_right}
use Rattle.coding.proofs.Reading.{flat}
use Rattle.types.specs.{declared.Charge.Charge, Charges.flag, Charges.no_association, Charges.unassociated, Charges.association, Arguments.no_charge, Arguments.totalled}
use Rattle.types.specs.{Arguments.during, Arguments.ending, Arguments.sign, Arguments.subtotals, Arguments.settled, Arguments.with_association, Arguments.finals, Arguments.associated}
use Rattle.types.specs.{Arguments.in_money, Arguments.in_units, Arguments.arrangement, Arguments.rates, Arguments.available}
use Rattle.read_figures.proofs.Answers.{after_same}
use Rattle.read_unit.specs.inner.Readers.{is_tariff, type_by, billing_by, framed_by}
use Rattle.read_charges.specs.inner.Readers.{amount_by, priced_by, settled_by, figure_by, figure_of}

-- what follows changes nothing
pub ended : {A : Type 0} (x : Ans A) (f : A → ℕ → Ans A) (y : A) {t : ℕ × ℕ × A × ℕ} → ((v : A) (n : ℕ) → f v n ≡ got v n) → t ≡ shown y x → t ≡ shown y (after x f)
unfolding after
ended (got v n) f y g h = rw g h
ended (halt w p) f y g h = h

-- ---- 33 to 36

pub pick_read : (b : Bool) (f g : Run Charge) (s : List ℕ) (at end : ℕ) → (pick_run b f g).read s at end ≡ cond b (f.read s at end) (g.read s at end)
pick_read true f g s at end = refl
pick_read false f g s at end = refl

-- what comes after A1
abbrev pub totals : Bool → Charge → List ℕ → ℕ → ℕ → ℕ → Ans Charge
totals b c s at end next =
    after (type_by b s at end) (λ t n.
    after (billing_by b s n end) (λ d last.
    closed (totalled t (flag d.given) d.value c) last end next))

pub priced_read : (b : Bool) (f : Run Charge) (s : List ℕ) (at end : ℕ) →
    (priced_by b f).read s at end ≡
    after (opened 0x30 s at end) (λ e next.
    after (constructed 0xa1 f.read s e.start e.stop) (λ c k.
    totals b c s k e.stop next))
unfolding priced_by type_by billing_by during ending cons constructed canonical over pair
priced_read true f s at end = simp flat
priced_read false f s at end = simp flat

pub settled_read : (b : Bool) (f : Run Charge) (s : List ℕ) (at end : ℕ) →
    (settled_by b f).read s at end ≡ choice 0x81 (sign 0x81 1).read (priced_by b f).read s at end
unfolding settled_by priced_by subtotals settled sort
settled_read true f s at end = refl
settled_read false f s at end = refl

-- what comes after the charge of 35 and 36
abbrev pub parties : Charge → List ℕ → ℕ → ℕ → ℕ → Ans Charge
parties c s at end next = after ((association false).read s at end) (λ a last. closed (associated a c) last end next)

pub parties_none : (c : Charge) (s : List ℕ) (at end next : ℕ) → at ≡ end → (0, 0, associated no_association c, next) ≡ shown no_charge (parties c s at end next)
unfolding association unassociated sort canonical over nothing choice tagged after closed shown
parties_none c s at end next e =
    let l : end ≤ at = omega arith in
    simp (le-ltb at end l, eq-eqb at end e)

pub figure_read : (b : Bool) (f : Run Charge) (s : List ℕ) (at end : ℕ) →
    (figure_by b f).read s at end ≡
    after (framed_by b s at end) (λ e next.
    after ((settled_by b f).read s e.start e.stop) (λ c m.
    cond b (got c m)
    (parties c s m e.stop next)))
unfolding figure_by settled_by framed_by finals with_association cons constructed canonical over pair after
figure_read true f s at end = sym (after_same _)
figure_read false f s at end = simp flat

-- ---- by the operation

differs : (p : ℕ → Bool) (n k : ℕ) → p n ≡ false → p k ≡ true → eqb n k ≡ false
differs p n k h e = ne_eqb n k (λ q. let z : ◌≡◌ {A = ℕ} 0 1 = cc in omega arith)

pub figure_of_lem : (o : ℕ) → is_tariff o ≡ false → available o ≡ figure_of o
unfolding available figure_by amount_by
figure_of_lem o h =
    simp (differs is_tariff o 30 h refl, differs is_tariff o 31 h refl, differs is_tariff o 32 h refl)
    (go (eqb o 33) (eqb o 34) (eqb o 35) (λ e. ne_eqb o 35 (λ q. omega (arith, eqb-true o 34 e))))
  where
    go : (a b d : Bool) → (b ≡ true → d ≡ false) →
        pick_run a (subtotals (in_money false)) (pick_run b (subtotals in_units) (pick_run d (finals (in_money false)) (finals in_units))) ≡
        pick_run (a || b) (subtotals (pick_run (d || a) (in_money false) in_units)) (finals (pick_run (d || a) (in_money false) in_units))
    go true b true u = refl
    go true b false u = refl
    go false true d u = rw (u refl)
    go false false true u = refl
    go false false false u = refl

pub tariff_read : (o : ℕ) (s : List ℕ) (at end : ℕ) → is_tariff o ≡ true →
    (available o).read s at end ≡ cond (eqb o 32 || eqb o 30 && tagged s at end 0x02) (arrangement.read s at end) ((rates false).read s at end)
unfolding available sort choice
tariff_read o s at end h = go (eqb o 30) (eqb o 31) refl refl
  where
    go : (a b : Bool) → eqb o 30 ≡ a → eqb o 31 ≡ b →
        (available o).read s at end ≡ cond (eqb o 32 || eqb o 30 && tagged s at end 0x02) (arrangement.read s at end) ((rates false).read s at end)
    go true b p q = rw (eqb-true o 30 p)
    go false true p q = rw (eqb-true o 31 q)
    go false false p q =
        let l = leb-true 30 o (and_left (leb 30 o) (leb o 32) h) in
        let m = leb-true o 32 (and_right (leb 30 o) (leb o 32) h) in
        let e : o ≡ 32 = omega (arith, eqb-false o 30 p, eqb-false o 31 q) in
        rw e
