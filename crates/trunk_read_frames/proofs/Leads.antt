-- A lead put into the first eight octets of a front: the body stays.
use Rattle.prelude.proofs.Prelude.{ℕ, ◌+◌, ◌*◌, ◌/◌, ◌%◌, arith, ◌≡◌, refl, ap, ap₂, ◌∙◌, List, set, drop, replicate, length, length-drop}
use Rattle.coding.specs.Reader.{part}
use Rattle.types.specs.{declared.Charge.Charge, Arguments.no_charge}
use Rattle.types.proofs.Stored.{halves, by_octets}
use Rattle.trunk_types.specs.{Components.{lead_by, trunk_by}, Bodies.detailed, Stored.{Spare, body_in, trunk_in}}
use Rattle.trunk_read_fields.specs.inner.Fields.{inner_in}
use Rattle.trunk_read_fields.proofs.Stores.{detail_stored}

long : (s : List ℕ) → Spare s → length s ≡ 48
long s e = omega (arith, length-drop 44 s, ap length e)

abbrev put : List ℕ → ℕ → ℕ → ℕ → ℕ → ℕ → ℕ → ℕ → ℕ → List ℕ
put s k u i₀ i₁ e₀ e₁ o p = set (set (set (set (set (set (set (set s 0 k) 1 u) 2 i₀) 3 i₁) 4 e₀) 5 e₁) 6 o) 7 p

put_is : (k u i₀ i₁ e₀ e₁ o p : ℕ) (s : List ℕ) → length s ≡ 48 →
    ((extension : List ℕ) (c : Charge) → trunk_in (put s k u i₀ i₁ e₀ e₁ o p) extension c ≡ trunk_by (lead_by k u (i₀ + 256 * i₁) (e₀ + 256 * e₁) o p) (body_in s extension c))
    × (drop 44 (put s k u i₀ i₁ e₀ e₁ o p) ≡ drop 44 s)
unfolding trunk_in body_in part
put_is k u i₀ i₁ e₀ e₁ o p s l =
    by_octets 48 (λ (s : List ℕ).
    ((extension : List ℕ) (c : Charge) → trunk_in (put s k u i₀ i₁ e₀ e₁ o p) extension c ≡ trunk_by (lead_by k u (i₀ + 256 * i₁) (e₀ + 256 * e₁) o p) (body_in s extension c))
    × (drop 44 (put s k u i₀ i₁ e₀ e₁ o p) ≡ drop 44 s)) (λ f. (λ extension c. refl, refl)) s l

pub lead_put : (s : List ℕ) → Spare s → (k u i e o p : ℕ) →
    ((extension : List ℕ) (c : Charge) → trunk_in (put s k u (i % 256) (i / 256) (e % 256) (e / 256) o p) extension c ≡ trunk_by (lead_by k u i e o p) (body_in s extension c))
    × Spare (put s k u (i % 256) (i / 256) (e % 256) (e / 256) o p)
lead_put s z k u i e o p =
    let q = put_is k u (i % 256) (i / 256) (e % 256) (e / 256) o p s (long s z) in
    (λ extension c. q.0 extension c ∙ ap₂ (λ (a b : ℕ). trunk_by (lead_by k u a b o p) (body_in s extension c)) (halves i) (halves e), q.1 ∙ z)

-- ---- bodies without an extension

pub unextended_body : (front : List ℕ) (c : Charge) → body_in front (replicate 244 0) c ≡ inner_in front c
unfolding body_in inner_in
unextended_body front c = refl

pub detail_body : (d : ℕ) → body_in (set (replicate 48 0) 42 d) (replicate 244 0) no_charge ≡ detailed d
detail_body d = unextended_body (set (replicate 48 0) 42 d) no_charge ∙ detail_stored d no_charge
