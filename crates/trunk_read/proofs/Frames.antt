-- Frames read in the code's steps, and what they store.
use Rattle.prelude.proofs.Prelude.{ℕ, ◌≡◌, refl, List, length, get_or, replicate}
use Rattle.coding.{specs.Reader.after, specs.Reader.blamed, specs.Reader.opened, specs.Reader.closed, specs.Reader.constructed, specs.Reader.entered_any, specs.Reader.Ans.got, specs.Reader.Fault.named}
use Rattle.coding.{specs.Codec.prim, specs.Codec.cons, specs.Codec.canonical, specs.Codec.over, specs.Codec.leads, specs.Codec.marked, specs.Codec.frames, specs.Leaves.identifier, proofs.Reading.flat}
use Rattle.types.specs.{Frames.outside, Frames.in_argument, Frames.value, Arguments.no_charge, Stored.{stored, stored_charge}}
use Rattle.read_elements.specs.declared.Empty.{Empty}
use Rattle.read_figures.proofs.Answers.{arrived}
use Rattle.trunk_types.specs.{declared.Trunk.Trunk, Bodies.argument_of, Bodies.result_of}
use Rattle.trunk_types.specs.Components.{lead_by, trunk_by, trunk_operations, answerable, carrying_body, trunk_invoke, trunk_result, tags, trunk_frame, trunk_component}
use Rattle.trunk_read_bodies.{specs.inner.Bodied.Bare, proofs.Stores.blank_none}
use Rattle.trunk_read_frames.specs.inner.Framed.{framed}

module _ (s : List ℕ) (at end : ℕ) where
  pub invoke_read :
      trunk_invoke.read s at end ≡
      after ((prim 0x02 identifier).read s at end) (λ i m. after ((value 7 trunk_operations).read s m end) (λ o n.
      after (blamed in_argument ((argument_of o).read s n end)) (λ b last. got (trunk_by (lead_by 1 0 i 0 o 0) b) last)))
  unfolding trunk_invoke leads carrying_body canonical over marked
  invoke_read = refl

  pub answer_read :
      trunk_result.read s at end ≡
      after ((prim 0x02 identifier).read s at end) (λ i m. after (opened 0x30 s m end) (λ x next. after ((value 7 answerable).read s x.start x.stop) (λ o n.
      after (blamed in_argument ((result_of o).read s n x.stop)) (λ b last. closed (trunk_by (lead_by 2 0 i 0 o 0) b) last x.stop next))))
  unfolding trunk_result leads cons constructed carrying_body canonical over marked
  answer_read = simp flat

-- what is stored where the last step stored the value v
pub arrived_as : {A : Type 0} (z w : A) {v : A} {r : Empty} {n : ℕ} {t : ℕ × ℕ × A × ℕ} → r ≡ record { fault = 0; place = 0; next = n } → w ≡ v → (0, 0, v, n) ≡ t
    → (r.fault, r.place, stored z r.fault w, r.next) ≡ t
arrived_as z w e q h = arrived z w e (rw q h)

pub component_read : (s : List ℕ) →
    trunk_component.read s 0 (length s) ≡
    after (entered_any tags outside (named 5) s 0 (length s)) (λ x next. after ((trunk_frame (get_or s 0 0)).read s x.start x.stop) (λ v last. closed v last x.stop next))
unfolding trunk_component frames
component_read s = refl

-- what a frame stores that has no charge, only a front, or no list and no extension
module _ (front extension figure numbers rows : List ℕ) {r : Empty} {f : List ℕ} {t : ℕ × ℕ × Trunk × ℕ} where
  pub uncharged : {x : List ℕ} → Bare f x figure numbers rows → framed r front extension no_charge ≡ t → framed r front extension (stored_charge figure numbers rows) ≡ t
  uncharged b h = rw (blank_none b.charge_bare) h

  pub front_alone : Bare f extension figure numbers rows → framed r front (replicate 244 0) no_charge ≡ t
      → framed r front extension (stored_charge figure numbers rows) ≡ t
  front_alone b h = rw (blank_none b.charge_bare, b.extension_bare) h

  pub figure_alone : {x : List ℕ} → Bare f extension x numbers rows → framed r front (replicate 244 0) (stored_charge figure (replicate 32 0) (replicate 192 0)) ≡ t
      → framed r front extension (stored_charge figure numbers rows) ≡ t
  figure_alone b h = rw (b.extension_bare, b.charge_bare.numbers_blank, b.charge_bare.rows_blank) h
