-- Lists of rates: how many there are in a fine one, and its octets as they are put.
use Rattle.prelude.proofs.Prelude.{ℕ, ◌+◌, ◌≤◌, ◌≡◌, sym, ap, ◌∙◌, Bool, true, false, List, ◌++◌, arith, length, length-append, ltb, leb, leb-true}
use Rattle.coding.{specs.Codec.Run, specs.Codec.all, specs.Codec.write_all, specs.Codec.some_more, specs.Rows.table, specs.inner.Written.Wrote, specs.inner.Written.Room, specs.inner.Written.lead}
use Rattle.coding.{proofs.Basic.and_left, proofs.Basic.and_right, proofs.Basic.and_both, proofs.Rows.table_length, proofs.Writing.Split, proofs.Writing.room_first}
use Rattle.coding.{proofs.Writing.room_rest, proofs.Writing.wrote_parts}
use Rattle.types.specs.{declared.Entries.Entries, Rates.rate, Rates.rate_at, Rates.rate_rows, Rates.rate_list, Arguments.same_entries}
use Rattle.write_tests.specs.inner.Fine.{rates_fine}
use Rattle.write_rate.proofs.Octets.{rates_wider}
use Rattle.write_rates.specs.inner.Arrays.{rates_charge}

-- how many entries a list has, and that they are valid
pub few_valid : {A : Type 0} (f : Run A) (most n : ℕ) (g : ℕ → A) → (some_more 0x30 most f).valid (table n g) ≡ true → (n ≤ most) × (all f.valid (table n g) ≡ true)
unfolding some_more
few_valid f most n g v =
    let w = and_right (ltb 0 (length (table n g))) _ v in
    (omega (arith, table_length n g, leb-true (length (table n g)) most (and_left (leb (length (table n g)) most) _ w)), and_right (leb (length (table n g)) most) _ w)

pub rates_valid : (trunk : Bool) (e : Entries) (n : ℕ) → rates_fine trunk e n ≡ true → (n ≤ 10) × (all (rate trunk).valid (rate_list e n) ≡ true)
unfolding rates_fine
rates_valid trunk e n v = few_valid (rate trunk) 10 n (rate_at e) (and_right (same_entries (rate_rows (rate_list e n)) e) _ v)

-- a trunk takes a list that document 01 takes, and writes it alike
module _ (e : Entries) (n : ℕ) (v : rates_fine false e n ≡ true) where
  pub list_wider : rates_fine true e n ≡ true
  unfolding rates_fine some_more
  list_wider =
      let xs = rate_list e n in
      let s = same_entries (rate_rows xs) e in
      let w = and_right s _ v in
      let u = and_right (ltb 0 (length xs)) _ w in
      and_both s _ (and_left s _ v) (and_both (ltb 0 (length xs)) _ (and_left (ltb 0 (length xs)) _ w)
      (and_both (leb (length xs) 10) _ (and_left (leb (length xs) 10) _ u) (rates_wider xs (rates_valid false e n v).1).0))

  pub list_same : write_all (rate false).write (rate_list e n) ≡ write_all (rate true).write (rate_list e n)
  list_same = (rates_wider (rate_list e n) (rates_valid false e n v).1).1

-- k octets, of which a lead says how many
module _ (e : Entries) (n k : ℕ) (q : k ≡ length (write_all (rate true).write (rate_list e n))) where
  rates_parts : Split (rates_charge e n) (lead 0x30 k) (write_all (rate true).write (rate_list e n))
  rates_parts = record { parts = ap (λ (j : ℕ). lead 0x30 j ++ write_all (rate true).write (rate_list e n)) (sym q) }

  pub rates_length : length (rates_charge e n) ≡ length (lead 0x30 k) + k
  rates_length = ap length rates_parts.parts ∙ length-append (lead 0x30 k) (write_all (rate true).write (rate_list e n)) ∙ omega arith

  module _ {l : List ℕ} {a : ℕ} (h : Room l a (rates_charge e n)) where
    pub put_rates_1 : Room l a (lead 0x30 k)
    put_rates_1 = room_first rates_parts h

    pub put_rates_2 : {m : List ℕ} {b : ℕ} → Wrote l m a (lead 0x30 k) b → Room m b (write_all (rate true).write (rate_list e n))
    put_rates_2 = room_rest rates_parts h

  pub put_rates_3 : {l m o : List ℕ} {a b d : ℕ} → Wrote l m a (lead 0x30 k) b → Wrote m o b (write_all (rate true).write (rate_list e n)) d → Wrote l o a (rates_charge e n) d
  put_rates_3 = wrote_parts rates_parts
