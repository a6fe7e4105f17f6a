-- Currencies that differ in trailing spaces alone are equal, and no others; so equality is an equivalence. Assumes nothing.
use Rattle.prelude.proofs.Prelude.{ℕ, zero, suc, ◌≤◌, ◌<◌, ◌≡◌, refl, sym, ap, ◌∙◌, List, [], ◌∷◌, ◌++◌, append_assoc, append-nil, Bool, true, false, ◌↔◌, arith, dec_lt, ℕ_discrete}
use Rattle.prelude.proofs.Prelude.{not-suc-le-zero, length, get_or, replicate, length-take, List·getD-eq-default, get_or-take, eqb, eq-eqb, ne_eqb, eqb-true, true≢false}
use Rattle.std.specs.List.{list_all, range_with_len}
use Rattle.prelude.proofs.Ways.{by_cases}
use Rattle.amounts.proofs.Range.{all_in_range, each_in_range}
use Rattle.coding.proofs.Padded.{eqb_equal, list_equal}
use Rattle.types.specs.declared.Currency.{Currency}
use Rattle.amounts.specs.Currency.{ahead, trimmed, counted, equal_currency}

-- ---- spaces at the end

one_more_lem : (xs : List ℕ) → trimmed (xs ++ (0x20 ∷ [])) ≡ trimmed xs
unfolding trimmed
one_more_lem [] = refl
one_more_lem (y ∷ xs) = ap (ahead y) (one_more_lem xs)

abbrev pub spaces : ℕ → List ℕ
spaces k = replicate k 0x20

pub spaces_more : (xs : List ℕ) (k : ℕ) → trimmed (xs ++ spaces k) ≡ trimmed xs
spaces_more xs zero = ap trimmed (append-nil xs)
spaces_more xs (suc k) = ap trimmed (sym (append_assoc xs (0x20 ∷ []) (spaces k))) ∙ (spaces_more (xs ++ (0x20 ∷ [])) k ∙ one_more_lem xs)

in_front : (x : ℕ) (xs ts : List ℕ) (k : ℕ) → xs ≡ ts ++ spaces k → (j : ℕ) × (x ∷ xs ≡ ahead x ts ++ spaces j)
in_front x xs [] k e = elim (ℕ_discrete x 0x20) [ yes h ↦ (suc k, cc (eq-eqb x 0x20 h)) | no h ↦ (k, cc (ne_eqb x 0x20 h)) ]
in_front x xs (t ∷ ts) k e = (k, ap (λ (l : List ℕ). x ∷ l) e)

-- what is taken off is spaces
pub only_spaces : (xs : List ℕ) → (k : ℕ) × (xs ≡ trimmed xs ++ spaces k)
unfolding trimmed
only_spaces [] = (0, refl)
only_spaces (x ∷ xs) = in_front x xs (trimmed xs) (only_spaces xs).0 (only_spaces xs).1

-- ---- currencies

-- one text with so many spaces after it, and the same text with so many
pub record Alike (xs ys : List ℕ) : Type 0 where
  pub text : List ℕ
  pub first : ℕ
  pub second : ℕ
  pub one : xs ≡ text ++ spaces first
  pub other : ys ≡ text ++ spaces second

means : (c d : Currency) → (equal_currency c d ≡ true) ↔ (trimmed (counted c) ≡ trimmed (counted d))
unfolding equal_currency
means c d = ((list_equal eqb eqb_equal).equal _ _, λ e. rw e ((list_equal eqb eqb_equal).self (trimmed (counted d))))

pub alike : (c d : Currency) → (equal_currency c d ≡ true) ↔ Alike (counted c) (counted d)
alike c d = (
  λ e. record {
    text = trimmed (counted c);
    first = (only_spaces (counted c)).0;
    second = (only_spaces (counted d)).0;
    one = (only_spaces (counted c)).1;
    other = rw ((means c d).0 e) (only_spaces (counted d)).1;
  },
  λ a. (means c d).1 (ap trimmed a.one ∙ (spaces_more a.text a.first ∙ (sym (spaces_more a.text a.second) ∙ ap trimmed (sym a.other)))),
)

pub reflexive : (c : Currency) → equal_currency c c ≡ true
reflexive c = (means c c).1 refl

pub symmetric : (c d : Currency) → equal_currency c d ≡ true → equal_currency d c ≡ true
symmetric c d e = (means d c).1 (sym ((means c d).0 e))

pub transitive : (b c d : Currency) → equal_currency b c ≡ true → equal_currency c d ≡ true → equal_currency b d ≡ true
transitive b c d e f = (means b d).1 ((means b c).0 e ∙ (means c d).0 f)

-- ---- place by place, as if spaces went on for ever

stays_ahead : (x : ℕ) (ts : List ℕ) (i : ℕ) → get_or (ahead x ts) i 0x20 ≡ get_or (x ∷ ts) i 0x20
stays_ahead x [] zero = elim (ℕ_discrete x 0x20) [ yes h ↦ rw h | no h ↦ rw (ne_eqb x 0x20 h) ]
stays_ahead x [] (suc i) = elim (ℕ_discrete x 0x20) [ yes h ↦ rw h | no h ↦ rw (ne_eqb x 0x20 h) ]
stays_ahead x (t ∷ ts) i = refl

pub stays : (xs : List ℕ) (i : ℕ) → get_or (trimmed xs) i 0x20 ≡ get_or xs i 0x20
unfolding trimmed
stays [] i = refl
stays (x ∷ xs) zero = stays_ahead x (trimmed xs) zero
stays (x ∷ xs) (suc i) = stays_ahead x (trimmed xs) (suc i) ∙ stays xs i

pub same_places : (xs ys : List ℕ) → ((i : ℕ) → get_or xs i 0x20 ≡ get_or ys i 0x20) → trimmed xs ≡ trimmed ys
unfolding trimmed
same_places [] [] h = refl
same_places [] (y ∷ ys) h = simp (sym (h 0), ← same_places [] ys (λ i. h (suc i)))
same_places (x ∷ xs) [] h = simp (h 0, same_places xs [] (λ i. h (suc i)))
same_places (x ∷ xs) (y ∷ ys) h = simp (h 0, same_places xs ys (λ i. h (suc i)))

is_false : (b : Bool) → (b ≡ true → ⊥) → b ≡ false
is_false true h = absurd (h refl)
is_false false h = refl

pub few : (c : Currency) (n : ℕ) → length c.octets ≡ n → length (counted c) ≤ n
few c n h = simp length-take (omega arith)

-- the first n places, which have all their octets, are the same
pub agree : (c d : Currency) (n : ℕ) → length (counted c) ≤ n → length (counted d) ≤ n → ((i : ℕ) → i < n → get_or (counted c) i 0x20 ≡ get_or (counted d) i 0x20) →
    equal_currency c d ≡ true
agree c d n p q h = (means c d).1 (same_places (counted c) (counted d) (λ i. elim (dec_lt i n) [
  | yes l ↦ h i l
  | no m ↦ List·getD-eq-default (counted c) 0x20 (omega arith) ∙ sym (List·getD-eq-default (counted d) 0x20 (omega arith))
]))

pub agreed : (c d : Currency) → equal_currency c d ≡ true → (i : ℕ) → get_or (counted c) i 0x20 ≡ get_or (counted d) i 0x20
agreed c d e i = sym (stays (counted c) i) ∙ (ap (λ (l : List ℕ). get_or l i 0x20) ((means c d).0 e) ∙ stays (counted d) i)

-- whether the octets at a place are the same
abbrev pub same_at : Currency → Currency → ℕ → Bool
same_at c d i = eqb (get_or (counted c) i 0x20) (get_or (counted d) i 0x20)

-- a test of the ten places there are
pub ten_places : (c d : Currency) → length c.octets ≡ 10 → length d.octets ≡ 10 → list_all (same_at c d) (range_with_len 0 10) ≡ equal_currency c d
ten_places c d p q =
    by_cases (equal_currency c d)
    (λ e. rw e (all_in_range (same_at c d) 0 10 (λ i _ _. eq-eqb _ _ (agreed c d e i))))
    (λ e. rw e (is_false _ (λ t. true≢false (sym (agree c d 10 (few c 10 p) (few d 10 q) (λ i l. eqb-true _ _ (each_in_range (same_at c d) 0 10 t i (omega arith) l))) ∙ e))))

-- ---- the octet at a place

any_default : (l : List ℕ) (i d e : ℕ) → i < length l → get_or l i d ≡ get_or l i e
any_default [] i d e h = absurd (not-suc-le-zero h)
any_default (x ∷ xs) zero d e h = refl
any_default (x ∷ xs) (suc i) d e h = any_default xs i d e (omega arith)

pub place_in : (c : Currency) (i : ℕ) → i < c.count → i < length c.octets → get_or c.octets i 0 ≡ get_or (counted c) i 0x20
place_in c i p h = any_default c.octets i 0 0x20 h ∙ sym (get_or-take c.count c.octets i 0x20 p)

pub place_past : (c : Currency) (i : ℕ) → c.count ≤ i → 0x20 ≡ get_or (counted c) i 0x20
place_past c i p = sym (List·getD-eq-default (counted c) 0x20 (simp length-take (omega arith)))
