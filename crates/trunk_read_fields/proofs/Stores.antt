-- What stores into the front make of a body; bodies read in the code's steps.
use Rattle.prelude.proofs.Prelude.{ℕ, ◌+◌, arith, ◌≡◌, refl, ap, sym, ◌∙◌, true, List, ◌++◌, set, take, drop, replicate, length, get_or, get_or-drop, length-drop, take-append-drop}
use Rattle.coding.{specs.Reader.part, specs.Reader.after, specs.Reader.opened, specs.Reader.closed, specs.Reader.constructed, specs.Reader.Ans.got, specs.Codec.cons, specs.Codec.pair, specs.Codec.prim}
use Rattle.coding.{specs.Codec.canonical, specs.Codec.over, specs.Codec.any_more, specs.Leaves.number, proofs.Reading.flat}
use Rattle.types.specs.{declared.Charge.Charge, Charges.{no_association, party_number, association}, Arguments.no_charge}
use Rattle.types.{specs.Stored.{association_in, figure_in, stored_charge}, proofs.Stored.{by_octets, by_front, beside_figure}}
use Rattle.read_elements.specs.declared.Empty.{Empty}
use Rattle.read_figures.{specs.inner.Beside.Unassociated, specs.inner.Beside.SameBeside, proofs.Answers.arrived}
use Rattle.trunk_types.specs.{declared.Body.Body, Extensions.no_extension, Bodies.{body_by, no_modes, naming, modes, extending, address, network}}
use Rattle.trunk_types.specs.Stored.{extension_in, modes_in, body_in, Spare}
use Rattle.trunk_read_fields.specs.inner.Fields.{inner_in, inner, in_modes, users, diverting}

-- a detail alone
pub detail_stored : (d : ℕ) (c : Charge) → inner_in (set (replicate 48 0) 42 d) c ≡ body_by d 0 no_modes no_association no_extension c
unfolding inner_in part
detail_stored d c = refl

pub detail_spare : (d : ℕ) → Spare (set (replicate 48 0) 42 d)
detail_spare d = refl

pub zero_spare : {s : List ℕ} → s ≡ replicate 48 0 → Spare s
zero_spare e = rw e

pub zero_clear : (s : List ℕ) → s ≡ replicate 48 0 → Unassociated s
unfolding part
zero_clear s e = rw e

-- a user alone
module _ (b s : List ℕ) (e : b ≡ replicate 48 0) (k : SameBeside b s) where
  pub modes_none : modes_in s ≡ no_modes
  unfolding part
  modes_none = ap modes_in (sym (take-append-drop 16 s)) ∙ ap (λ (l : List ℕ). modes_in (l ++ drop 16 s)) (k.0 ∙ ap (take 16) e)

  ends : drop 42 s ≡ replicate 6 0
  ends = k.1 ∙ ap (drop 42) e

  pub user_long : length s ≡ 48
  user_long = omega (arith, length-drop 42 s, ap length ends)

  past : (i : ℕ) → get_or s (42 + i) 0 ≡ get_or (replicate 6 0) i 0
  past i = sym (get_or-drop 42 s i 0) ∙ ap (λ (l : List ℕ). get_or l i 0) ends

  pub user_stored : (c : Charge) → inner_in s c ≡ body_by 0 0 no_modes (association_in s) no_extension c
  unfolding inner_in
  user_stored c = simp (past 0, past 1, modes_none)

  pub user_detailed : (d : ℕ) (c : Charge) → inner_in (set s 42 d) c ≡ body_by d 0 no_modes (association_in s) no_extension c
  unfolding inner_in part
  user_detailed d c =
      by_octets 48 (λ (t : List ℕ). inner_in (set t 42 d) c ≡ body_by d (get_or t 43 0) (modes_in t) (association_in t) no_extension c) (λ f. refl) s user_long
      ∙ simp (past 1, modes_none)

  pub user_entities : (d i : ℕ) (c : Charge) → inner_in (set (set s 42 d) 43 i) c ≡ body_by d i no_modes (association_in s) no_extension c
  unfolding inner_in part
  user_entities d i c =
      by_octets 48 (λ (t : List ℕ). inner_in (set (set t 42 d) 43 i) c ≡ body_by d i (modes_in t) (association_in t) no_extension c) (λ f. refl) s user_long
      ∙ simp modes_none

  pub user_spare : Spare s
  user_spare = by_front 42 Spare (replicate 6 0) (λ f. refl) s (omega (arith, user_long)) ends

  pub detailed_spare : (d : ℕ) → Spare (set s 42 d)
  detailed_spare d = by_front 42 (λ (t : List ℕ). Spare (set t 42 d)) (replicate 6 0) (λ f. refl) s (omega (arith, user_long)) ends

  pub entities_spare : (d i : ℕ) → Spare (set (set s 42 d) 43 i)
  entities_spare d i = by_front 42 (λ (t : List ℕ). Spare (set (set t 42 d) 43 i)) (replicate 6 0) (λ f. refl) s (omega (arith, user_long)) ends

  pub other_stored : stored_charge s (replicate 32 0) (replicate 192 0) ≡ (naming 0 0 no_association (association_in s)).charge
  unfolding figure_in part
  other_stored = rw (beside_figure (replicate 48 0) s (k.0 ∙ ap (take 16) e) (k.1 ∙ ap (drop 42) e))

pub users_read : (s : List ℕ) (at end : ℕ) →
    users.read s at end ≡
    after ((party_number true).read s at end) (λ u m. after ((association true).read s m end) (λ a n. got (naming 0 0 u a) n))
unfolding users canonical over pair
users_read s at end = simp flat

pub diverting_read : (s : List ℕ) (at end : ℕ) →
    diverting.read s at end ≡
    after ((party_number true).read s at end) (λ u m. after ((association true).read s m end) (λ a n.
    after ((prim 0x0a (number 0 3)).read s n end) (λ d last. got (naming d 0 u a) last)))
unfolding diverting canonical over pair
diverting_read s at end = simp flat

pub network_read : (s : List ℕ) (at end : ℕ) →
    network.read s at end ≡
    after ((prim 0x80 (number 0 1)).read s at end) (λ d m. after ((address 0xa1).read s m end) (λ u n.
    after ((prim 0x82 (number 0 1)).read s n end) (λ i l. after ((address 0xa3).read s l end) (λ a last. got (naming d i u a) last))))
unfolding network canonical over pair
network_read s at end = simp flat

-- ---- where a number, an association and a detail have been stored
module _ (r : Empty) (b front b' figure : List ℕ) {n : ℕ} {t : ℕ × ℕ × Body × ℕ} (e : b ≡ replicate 48 0) (k : SameBeside b front) (e' : b' ≡ replicate 48 0)
    (k' : SameBeside b' figure) (q : r ≡ record { fault = 0; place = 0; next = n }) where
  pub diverting_arrived : (d : ℕ) → (0, 0, naming d 0 (association_in front) (association_in figure), n) ≡ t
      → inner r (set front 42 d) (stored_charge figure (replicate 32 0) (replicate 192 0)) ≡ t
  diverting_arrived d h = arrived _ _ q (rw (user_detailed b front e k d (stored_charge figure (replicate 32 0) (replicate 192 0)), other_stored b' figure e' k') h)

  pub network_arrived : (d i : ℕ) → (0, 0, naming d i (association_in front) (association_in figure), n) ≡ t
      → inner r (set (set front 42 d) 43 i) (stored_charge figure (replicate 32 0) (replicate 192 0)) ≡ t
  network_arrived d i h = arrived _ _ q (rw (user_entities b front e k d i (stored_charge figure (replicate 32 0) (replicate 192 0)), other_stored b' figure e' k') h)

pub modes_read : (s : List ℕ) (at end : ℕ) →
    modes.read s at end ≡ after (opened 0x30 s at end) (λ x next. after (in_modes s x.start x.stop) (λ b n. closed b n x.stop next))
unfolding modes cons constructed canonical over any_more in_modes
modes_read s at end = simp flat

-- a front of zeros, with an extension
pub bare_body : (front : List ℕ) → front ≡ replicate 48 0 → (extension : List ℕ) → body_in front extension no_charge ≡ extending (extension_in extension)
unfolding body_in part
bare_body front e extension = rw e
