-- What the laws say of a whole type: written octets read back as the value, octets read have one meaning, no octets are shorter and no others as short.
use Rattle.prelude.proofs.Prelude.{ℕ, ◌+◌, ◌≤◌, ◌<◌, ◌≡◌, refl, sym, ◌∙◌, List, ◌++◌, true, ◌↔◌, arith, zero-add, length, take-length}
use Rattle.coding.specs.{Reader.got, Codec.Run}
use Rattle.coding.proofs.{Basic.holds_there, Basic.holds_part, Basic.part_holds, Basic.same_got, Value.at_end_lem, Laws.Octets, Laws.clear, Laws.RunLaws}

-- the octets, whole, mean the value
abbrev pub Encodes : {A : Type 0} → Run A → A → List ℕ → Type 0
Encodes f x bs = f.Means x bs 0 (length bs)

module _ {A : Type 0} (f : Run A) (F : RunLaws f) where
  -- at any place, with anything before it and anything after it that it could not go on with
  pub reads_there : (pre post : List ℕ) (e : ℕ) (x : A) → f.valid x ≡ true → length (f.write x) ≤ 65535
      → length pre + length (f.write x) ≤ e → e ≤ length (pre ++ (f.write x ++ post))
      → clear f.avoid (pre ++ (f.write x ++ post)) (length pre + length (f.write x)) e ≡ true
      → f.read (pre ++ (f.write x ++ post)) (length pre) e ≡ got x (length pre + length (f.write x))
  reads_there pre post e x v b ne es cl =
      F.complete _ (length pre) _ e x ne es cl (F.written _ (length pre) x v b (holds_there pre (f.write x) post))

  meaning_read : (bs : List ℕ) (x : A) → Encodes f x bs → f.read bs 0 (length bs) ≡ got x (length bs)
  meaning_read bs x m =
      F.complete bs 0 (length bs) (length bs) x (omega arith) (omega arith)
      (at_end_lem f.avoid bs (length bs) (length bs) (omega arith)) m

  -- (1) a valid value that fits is written so that it means the value, and is read back
  pub means_itself : (x : A) → f.valid x ≡ true → length (f.write x) ≤ 65535 → Encodes f x (f.write x)
  means_itself x v b = rw zero-add at (F.written (f.write x) 0 x v b (part_holds (f.write x) 0 (f.write x) (omega arith) (take-length (f.write x))))

  pub reads_back : (x : A) → f.valid x ≡ true → length (f.write x) ≤ 65535 → f.read (f.write x) 0 (length (f.write x)) ≡ got x (length (f.write x))
  reads_back x v b = meaning_read (f.write x) x (means_itself x v b)

  -- (2) what is read is valid, and what is written of it is no longer than what was read
  pub no_longer : (s : List ℕ) (a e n : ℕ) (x : A) → Octets s → a ≤ e → e ≤ length s → f.read s a e ≡ got x n
      → (f.valid x ≡ true) × (a + length (f.write x) ≤ n) × (n ≤ e)
  no_longer s a e n x os ae es r =
      let m = F.sound s a e n x os ae es r in
      (F.fine s a n x m.1, F.shortest s a n x os m.1, m.0)

  -- (3) the reading is the meaning
  pub reads_meaning : (bs : List ℕ) (x : A) → Octets bs → (f.read bs 0 (length bs) ≡ got x (length bs)) ↔ Encodes f x bs
  reads_meaning bs x os = (
    (λ r. (F.sound bs 0 (length bs) (length bs) x os (omega arith) (omega arith) r).1),
    meaning_read bs x,
  )

  -- octets mean at most one value
  pub one_meaning : (bs : List ℕ) (x y : A) → Octets bs → Encodes f x bs → Encodes f y bs → x ≡ y
  one_meaning bs x y os p q =
      same_got (λ z k. x ≡ z) (sym ((reads_meaning bs x os).1 p) ∙ (reads_meaning bs y os).1 q) refl

  -- no octets that mean the value are fewer than those written
  pub none_shorter : (bs : List ℕ) (x : A) → Octets bs → Encodes f x bs → length (f.write x) ≤ length bs
  none_shorter bs x os m = omega (arith, F.shortest bs 0 (length bs) x os m)

  -- and those that are as many are those written
  pub the_shortest : (bs : List ℕ) (x : A) → Octets bs → length bs < 256 → Encodes f x bs → length bs ≡ length (f.write x) → bs ≡ f.write x
  the_shortest bs x os b m e =
      let h = F.only bs 0 (length bs) x os (omega arith) (omega arith) (omega arith) m in
      sym (take-length bs) ∙ rw e (holds_part bs 0 (f.write x) h)

-- a statement that is an equation leaves one outcome: two results that meet it are equal
pub one_outcome : {A : Type 0} {x y z : A} → x ≡ z → y ≡ z → x ≡ y
one_outcome p q = p ∙ sym q
