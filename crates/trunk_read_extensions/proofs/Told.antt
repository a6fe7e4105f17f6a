-- What is in an extension, read in the code's steps.
use Rattle.prelude.proofs.{Prelude.{ℕ, zero, suc, ◌≡◌, refl, sym, ◌∙◌, List, ◌∷◌, leb, eqb}, Ways.by_cases}
use Rattle.coding.{specs.Reader.Ans, specs.Reader.Reader, specs.Reader.Ruling, specs.Reader.got, specs.Reader.halt, specs.Reader.after, specs.Reader.opened, specs.Reader.closed, specs.Reader.constructed}
use Rattle.coding.{specs.Reader.primitive, specs.Reader.ruled, specs.Reader.mapped, specs.Reader.part, specs.Reader.tagged, specs.Reader.entries, specs.Codec.prim, specs.Codec.cons, specs.Codec.pair}
use Rattle.coding.{specs.Codec.any_more, specs.Normal.as_judged, specs.Normal.Any, specs.Normal.any_element, proofs.Basic.after_same, proofs.Reading.after_assoc}
use Rattle.any_elements.specs.inner.Forms.{told}
use Rattle.trunk_types.specs.Extensions.{object_identifier, one_extension, many_extensions}
use Rattle.trunk_read_extensions.specs.inner.Judges.{one_told, entry_told, list_told}

-- ---- 06 identifier, and one element

ruled_same : {B : Type 0} (r : Ruling (Unit {0})) (xs : List ℕ) (a n : ℕ) (k : ℕ → Ans B) → after (ruled (mapped (λ u. xs) r) a n) (λ x m. k m) ≡ after (ruled r a n) (λ u m. k m)
unfolding ruled mapped after
ruled_same (Ruling.good u) xs a n k = refl
ruled_same (Ruling.bad w) xs a n k = refl

told_pair : {A B : Type 0} (r : Ans A) (f : A → B) → told (after r (λ y n. got (f y) n)) ≡ told r
unfolding told after
told_pair (got y n) f = refl
told_pair (halt w p) f = refl

pub one_is : (s : List ℕ) (a e : ℕ) → one_told s a e ≡ after (primitive 0x06 object_identifier s a e) (λ u m. told (any_element.read s m e))
unfolding one_told one_extension pair prim primitive as_judged told
one_is s a e =
    after_assoc (after (opened 0x06 s a e) _) _ _
    ∙ after_assoc (opened 0x06 s a e) _ _
    ∙ after_same (opened 0x06 s a e) (λ x n q. after_same _ (λ v m r. told_pair {B = List ℕ × Any} (any_element.read s m e) (λ y. (v, y))) ∙ ruled_same (object_identifier (part s x.start x.stop)) (part s x.start x.stop) a n (λ m. told (any_element.read s m e)))
    ∙ sym (after_assoc (opened 0x06 s a e) _ _)

-- ---- 30 with one

closed_told : {A : Type 0} (v : A) (last stop n : ℕ) → after (closed v last stop n) (λ z m. got tt m) ≡ closed {A = Unit {0}} tt last stop n
unfolding closed after
closed_told v last stop n = by_cases (eqb last stop) (λ q. rw q) (λ q. rw q)

pub entry_is : (s : List ℕ) (a e : ℕ)
    → entry_told s a e ≡ after (opened 0x30 s a e) (λ x n. after (one_told s x.start x.stop) (λ u last. closed u last x.stop n))
unfolding entry_told one_told cons constructed told after
entry_is s a e =
    after_assoc (opened 0x30 s a e) _ _
    ∙ after_same (opened 0x30 s a e) (λ x n q.
    after_assoc (one_extension.read s x.start x.stop) _ _
    ∙ after_same (one_extension.read s x.start x.stop) (λ v last r. closed_told v last x.stop n)
    ∙ sym (after_assoc (one_extension.read s x.start x.stop) _ _))

-- ---- any number of entries

entry_told_lem : {A : Type 0} (r : Reader A) (o : Reader (Unit {0})) (tag most : ℕ) (s : List ℕ) (e : ℕ) (x : Ans A)
    → ((n : ℕ) → told (entries tag most r s n e) ≡ told (entries tag most o s n e))
    → told (after x (λ v n. after (entries tag most r s n e) (λ vs l. got (v ∷ vs) l))) ≡ told (after (told x) (λ u n. after (entries tag most o s n e) (λ us l. got (u ∷ us) l)))
unfolding told after
entry_told_lem r o tag most s e (got v n) ih = told_pair (entries tag most r s n e) (λ vs. v ∷ vs) ∙ ih n ∙ sym (told_pair (entries tag most o s n e) (λ us. tt ∷ us))
entry_told_lem r o tag most s e (halt w p) ih = refl

entries_told : {A : Type 0} (tag most : ℕ) (r : Reader A) (s : List ℕ) (a e : ℕ)
    → told (entries tag most r s a e) ≡ told (entries tag most (λ s a e. told (r s a e)) s a e)
unfolding told entries after
entries_told tag zero r s a e = by_cases (leb e a) (λ q. rw q) (λ q. rw q (by_cases (tagged s a e tag) (λ p. rw p) (λ p. rw p)))
entries_told tag (suc most) r s a e = by_cases (leb e a) (λ q. rw q) (λ q. rw q (entry_told_lem r (λ s a e. told (r s a e)) tag most s e (r s a e) (λ n. entries_told tag most r s n e)))

pub list_is : (s : List ℕ) (a e : ℕ) → list_told s a e ≡ after (entries 0x30 254 entry_told s a e) (λ us n. got tt n)
unfolding list_told many_extensions any_more entry_told told
list_is s a e = entries_told 0x30 254 (cons 0x30 one_extension).read s a e
