-- Who is in a set of services.
use Rattle.prelude.proofs.Prelude.{ℕ, ◌≡◌, refl, sym, subst, Bool, true, false, not, ◌&&◌, ◌||◌, true≢false, cond, eqb, eqb-true}
use Rattle.requests.specs.{declared.Services.Services, Sets.empty_set, Sets.is_service, Sets.has, Sets.with}

-- what is no service is in no set
pub no_service_lem : (x : Services) (u : ℕ) → is_service u ≡ false → has x u ≡ false
no_service_lem x u = go (eqb u 1) (eqb u 2) (eqb u 3)
  where
    go : (a b d : Bool) → a || (b || d) ≡ false
        → cond a (not (eqb x.s 0)) (cond b (not (eqb x.d 0)) (cond d (not (eqb x.e 0)) false)) ≡ false
    go true b d h = absurd (true≢false h)
    go false true d h = absurd (true≢false h)
    go false false true h = absurd (true≢false h)
    go false false false h = refl

-- nothing is in the empty set
pub nothing : (u : ℕ) → has empty_set u ≡ false
nothing u = simp same
  where
    same : (b : Bool) → cond b false false ≡ false
    same true = refl
    same false = refl

marked : (b : Bool) (mark : ℕ) → not (eqb (cond b 1 mark) 0) ≡ b || not (eqb mark 0)
marked true mark = refl
marked false mark = refl

abbrev Grown : Services → ℕ → ℕ → Type 0
Grown x t u = has (with x t) u ≡ is_service u && eqb t u || has x u

-- a service is in a set with one more exactly if it is that one or was in the set before
pub members : (x : Services) (t u : ℕ) → has (with x t) u ≡ is_service u && eqb t u || has x u
members x t u = go (eqb u 1) refl (eqb u 2) refl (eqb u 3) refl
  where
    go : (a : Bool) → eqb u 1 ≡ a → (b : Bool) → eqb u 2 ≡ b → (d : Bool) → eqb u 3 ≡ d → Grown x t u
    go true p b q d r = subst (Grown x t) (sym (eqb-true u 1 p)) (marked (eqb t 1) x.s)
    go false p true q d r = subst (Grown x t) (sym (eqb-true u 2 q)) (marked (eqb t 2) x.d)
    go false p false q true r = subst (Grown x t) (sym (eqb-true u 3 r)) (marked (eqb t 3) x.e)
    go false p false q false r = simp (p, q, r)

-- the same of what is known to be that set
pub grown : (x r : Services) (t : ℕ) → r ≡ with x t → (r ≡ with x t) × ((u : ℕ) → has r u ≡ is_service u && eqb t u || has x u)
grown x r t e = (e, λ u. rw e (members x t u))
