-- Elements up to an end that are read: their shortest forms, by the first of them.
use Rattle.prelude.proofs.Prelude.{ℕ, ◌-◌, ◌≤◌, ◌<◌, ◌≡◌, refl, sym, ap, ◌∙◌, List, [], ◌++◌, append_assoc, true, false, true≢false, arith, length, length-append, get_or, take, drop}
use Rattle.prelude.proofs.{Prelude.{leb, leb-true, leb-false, le-leb, take-length, add-zero}, Ways.by_cases}
use Rattle.coding.{specs.declared.Extent.Extent, specs.Reader.Ans, specs.Reader.got, specs.Reader.halt, specs.Reader.after, specs.Reader.composite}
use Rattle.coding.{specs.Reader.part, specs.inner.Written.lead, specs.inner.Written.Wrote, proofs.Parts.part_length}
use Rattle.coding.specs.Normal.{Any, of_octets, of_elements, Several, more, write_any, several_at}
use Rattle.coding.proofs.{Normal.several_unfolds, Normal.several_only, Writing.Split, Writing.split_length, Writing.wrote_as, Writing.wrote_next, Writing.wrote_none}
use Rattle.any_elements.specs.inner.Forms.{sized, opened_any, span_number, is_read, forms_of}
use Rattle.any_elements.proofs.Sizes.{Limit, Within, Element, Spanned, goes, stopped, span_fault, span_got, reading_of, inner_limit, leaf_is, leaf_length, node_is, node_read}

-- the first, and the rest
rest_read : (y : Any) (r : Ans Several) → is_read (after r (λ es l. got (more y es) l)) ≡ true → is_read r ≡ true
unfolding after
rest_read y (got es n) g = refl
rest_read y (halt w p) g = g

rest_forms : (y : Any) (r : Ans Several) → is_read r ≡ true → forms_of (after r (λ es l. got (more y es) l)) ≡ write_any y ++ forms_of r
unfolding after forms_of
rest_forms y (got es n) g = refl
rest_forms y (halt w p) g = absurd (true≢false (sym g))

pub size_is : (r : Ans Several) {m : ℕ} → is_read r ≡ true → m ≡ sized r → m ≡ length (forms_of r)
unfolding sized forms_of
size_is (got es n) g q = q
size_is (halt w p) g q = absurd (true≢false (sym g))

-- a part that was lent, whole
abbrev pub lent : List ℕ → ℕ → ℕ → List ℕ
lent s c m = take (m - c) (take (m - c) (drop c s))

pub lent_part : (s : List ℕ) (c m : ℕ) → m ≤ length s → (m - c ≤ length (take (m - c) (drop c s))) × (lent s c m ≡ part s c m)
unfolding part
lent_part s c m l =
    let k : length (part s c m) ≡ m - c = part_length s c m l in
    (omega (arith, k), rw k at (take-length (part s c m)))

-- what is put of elements that are read and have few octets: tag and length octets for k octets, the octets xs, and what is read from n on
pub record Puts (s : List ℕ) (a e n k : ℕ) (xs : List ℕ) : Type 0 where
  pub parts : Split (forms_of (several_at s a e)) (lead (get_or s a 0) k) (xs ++ forms_of (several_at s n e))
  pub few : (k < 256) × (length xs < 256) × (length (forms_of (several_at s n e)) < 256)
  pub rest : is_read (several_at s n e) ≡ true

-- its number is a span
pub span_read : {s : List ℕ} {a e m : ℕ} → Within s a e → is_read (several_at s a e) ≡ true → m ≡ span_number (opened_any s a e) → Spanned s a e m
span_read {s} {a} {e} {m} i g q =
    by_cases (leb 0x40000 m) (λ t. span_got i q (leb-true 0x40000 m t))
    (λ t. absurd (true≢false (sym g ∙ ap is_read (stopped i (span_fault i q (leb-false 0x40000 m t)).2))))

module _ {s : List ℕ} {a e : ℕ} {x : Extent} {n : ℕ} (i : Element s a e x n) (g : is_read (several_at s a e) ≡ true) where
  -- by the first of them, y, whose contents xs have k octets
  puts : (y : Any) (k : ℕ) (xs : List ℕ) → write_any y ≡ lead (get_or s a 0) k ++ xs → k ≡ length xs
      → several_at s a e ≡ after (several_at s n e) (λ es l. got (more y es) l)
      → length (forms_of (several_at s a e)) < 256 → Puts s a e n k xs
  puts y k xs w c q small =
      let r = rest_read y (several_at s n e) (ap is_read (sym q) ∙ g) in
      let d : Split (forms_of (several_at s a e)) (lead (get_or s a 0) k) (xs ++ forms_of (several_at s n e)) = record {
        parts = ap forms_of q ∙ rest_forms y (several_at s n e) r
            ∙ ap (λ (zs : List ℕ). zs ++ forms_of (several_at s n e)) w ∙ append_assoc (lead (get_or s a 0) k) xs _;
      } in
      let l = split_length d in
      let j = length-append xs (forms_of (several_at s n e)) in
      record { parts = d; few = (omega arith, omega arith, omega arith); rest = r }

  -- primitive
  pub leaf_puts : composite (get_or s a 0) ≡ false → length (forms_of (several_at s a e)) < 256 → Puts s a e n (x.stop - x.start) (lent s x.start x.stop)
  unfolding lead
  leaf_puts c =
      let p = (lent_part s x.start x.stop (inner_limit i).inside).1 in
      let l = leaf_length i c in
      puts (of_octets (get_or s a 0) (part s x.start x.stop)) (x.stop - x.start) (lent s x.start x.stop) (rw (l, p)) (rw (p, l)) (leaf_is i c)

  -- constructed
  module _ (c : composite (get_or s a 0) ≡ true) where
    inner_is : (es : Several) × (several_at s x.start x.stop ≡ got es x.stop)
    unfolding after
    inner_is =
        reading_of (inner_limit i) (goes i).1 (λ es q l. (es, q))
        (λ w p q h l. let f : is_read (several_at s a e) ≡ false = rw (node_is i c, q) in absurd (true≢false (sym g ∙ f)))

    pub node_inner : is_read (several_at s x.start x.stop) ≡ true
    node_inner = ap is_read inner_is.1

    pub node_puts : {k : ℕ} → k ≡ sized (several_at s x.start x.stop) → length (forms_of (several_at s a e)) < 256
        → Puts s a e n k (forms_of (several_at s x.start x.stop))
    unfolding lead forms_of
    node_puts {k} q =
        let l = size_is (several_at s x.start x.stop) node_inner q in
        puts (of_elements (get_or s a 0) inner_is.0) k (forms_of (several_at s x.start x.stop)) (rw (l, inner_is.1)) l
        (node_read i c inner_is.0 inner_is.1)

-- elements that have no more octets than their shortest forms are these
abbrev pub Copied : List ℕ → ℕ → ℕ → ℕ → Type 0
Copied s a e m = (m ≤ length (take (e - a) (drop a s))) × (take m (take (e - a) (drop a s)) ≡ forms_of (several_at s a e))

pub copied : {s : List ℕ} {a e m : ℕ} → Limit s e → a ≤ e → is_read (several_at s a e) ≡ true → m ≡ sized (several_at s a e) → m < 256 → m ≡ e - a → Copied s a e m
unfolding sized forms_of
copied {s} {a} {e} {m} i ae g q few k =
    let p = lent_part s a e i.inside in
    (omega (arith, k, p.0), ap (λ (j : ℕ). take j (take (e - a) (drop a s))) k ∙ p.1 ∙ go (several_at s a e) refl g q)
  where
    go : (r : Ans Several) → several_at s a e ≡ r → is_read r ≡ true → m ≡ sized r → part s a e ≡ forms_of r
    go (got es n) c j d = several_only s i.octets a e ae i.inside es n c (omega (arith, d, few)) (omega (arith, d, k, ae))
    go (halt w p) c j d = absurd (true≢false (sym j))

pub wrote_nothing : (l : List ℕ) (to : ℕ) (s : List ℕ) (a e : ℕ) → e ≤ a → Wrote l l to (forms_of (several_at s a e)) to
unfolding forms_of
wrote_nothing l to s a e h =
    let f : forms_of (several_at s a e) ≡ [] = rw (several_unfolds s a e, le-leb e a h) in
    wrote_as (sym f) (wrote_next (add-zero to) (wrote_none l to))
