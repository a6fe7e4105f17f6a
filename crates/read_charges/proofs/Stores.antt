-- What was stored last into the parts of a charge, and the charge that it makes.
use Rattle.prelude.proofs.Prelude.{ℕ, ◌≡◌, Bool, List, set, drop, replicate}
use Rattle.read_elements.specs.declared.Empty.{Empty}
use Rattle.types.specs.{declared.Charge.Charge, Charges.{flag, no_association}, Arguments.{plain, money_figure, no_charge, totalled, associated}}
use Rattle.types.specs.Stored.{money_in, association_in, figure_in, stored_charge, Blank, stored}
use Rattle.types.proofs.Stored.{kind_stored, totalled_stored, money_long, money_figure_lem, beside_figure}
use Rattle.read_figures.{specs.inner.Beside.Unassociated, specs.inner.Beside.SameBeside, proofs.Answers.arrived}
use Rattle.read_association.proofs.Kept.{unassociated_none}
use Rattle.read_lists.specs.inner.Answers.{whole, Clear}

module _ (s numbers octets : List ℕ) {r : Empty} {v : ℕ × ℕ × Charge × ℕ} where
  -- a charge without a list
  pub plain_stored : {b : List ℕ} → Blank b numbers octets → (r.fault, r.place, stored no_charge r.fault (plain (figure_in s)), r.next) ≡ v → whole r s numbers octets ≡ v
  plain_stored b h = rw (b.numbers_blank, b.rows_blank) h

  -- an association, whether or not there is a fault
  pub association_stored : (u : List ℕ) → SameBeside s u →
      (r.fault, r.place, stored no_charge r.fault (associated (association_in u) (stored_charge s numbers octets)), r.next) ≡ v → whole r u numbers octets ≡ v
  association_stored u b h = rw (beside_figure s u b.0 b.1) h

  module _ {n : ℕ} (at : r ≡ record { fault = 0; place = 0; next = n }) where
    pub money_stored : {b : List ℕ} → Blank b numbers octets → drop 16 s ≡ replicate 32 0 → (0, 0, plain (money_figure (money_in s)), n) ≡ v → whole r (set s 42 2) numbers octets ≡ v
    money_stored b m h = arrived _ _ at (rw (kind_stored 2 s (money_long s m), money_figure_lem s m, b.numbers_blank, b.rows_blank) h)

    pub totals_stored : (g : Bool) (t d b : ℕ) → Clear s → d ≡ flag g → (0, 0, totalled t (flag g) b (stored_charge s numbers octets), n) ≡ v →
        whole r (set (set (set s 43 t) 44 d) 45 b) numbers octets ≡ v
    totals_stored g t d b l e h = arrived _ _ at (rw (totalled_stored s t d b l.0, e) h)

    pub none_stored : Unassociated s → (0, 0, associated no_association (stored_charge s numbers octets), n) ≡ v → whole r s numbers octets ≡ v
    unfolding figure_in
    none_stored u h = arrived _ _ at (rw (← unassociated_none s u) at h)
