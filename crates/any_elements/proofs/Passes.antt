-- One element of any tag, and where it ends.
use Rattle.prelude.proofs.Prelude.{ℕ, ◌-◌, ◌/◌, ◌%◌, ◌≤◌, ◌<◌, ◌≡◌, refl, ◌∙◌, List, true, false, get_or}
use Rattle.prelude.proofs.Prelude.{lt-leb, le-leb, eq-eqb}
use Rattle.coding.{specs.declared.Extent.Extent, specs.Reader.Ans, specs.Reader.Fault, specs.Reader.halt, specs.Reader.after, specs.Reader.composite}
use Rattle.coding.{specs.Reader.constructed, specs.Reader.closed, specs.Reader.primitive, specs.Reader.ruled, specs.Reader.mapped, specs.inner.Shown.shown, specs.Normal.as_judged, specs.Normal.octet_string}
use Rattle.coding.{specs.Normal.any_by, specs.Normal.several_at, specs.Normal.any_element, proofs.Normal.any_unfolds}
use Rattle.types.proofs.Places.{Plain}
use Rattle.any_elements.specs.inner.Forms.{fault_number, sized, opened_any, span_number, told}
use Rattle.any_elements.proofs.Sizes.{fault_told, Within, Element, goes, leaf_tag, node_tag, stops, span_fault, sized_got, sized_halt, inner_limit}

-- the fault that a number tells
tells : {A : Type 0} (r : Ans A) (w : Fault) (p : ℕ) {m : ℕ} → r ≡ halt w p → m ≡ fault_number w p → Plain w → p ≤ 257 → ((m - 1000) % 256, (m - 1000) / 256, tt, 0) ≡ shown tt (told r)
unfolding told after shown
tells r w p e q h l = let f = fault_told w p h l in rw (e, q, f.2, f.3)

pub passes_none : (s : List ℕ) (a e : ℕ) → e ≤ a → (40, e, tt, 0) ≡ shown tt (told (any_element.read s a e))
unfolding told any_by after shown
passes_none s a e h = rw (any_unfolds s a e, le-leb e a h)

pub passes_fault : {s : List ℕ} {a e m : ℕ} → Within s a e → m ≡ span_number (opened_any s a e) → m < 0x40000
    → ((m - 1000) % 256, (m - 1000) / 256, tt, 0) ≡ shown tt (told (any_element.read s a e))
passes_fault {s} {a} {e} i q k =
    let f = span_fault i q k in
    tells (any_element.read s a e) f.0 f.1 (any_unfolds s a e ∙ stops i f.2) f.3 f.4 f.5

module _ {s : List ℕ} {a e : ℕ} {x : Extent} {n : ℕ} (i : Element s a e x n) where
  pub passes_leaf : composite (get_or s a 0) ≡ false → (0, 0, tt, n) ≡ shown tt (told (any_element.read s a e))
  unfolding told any_by primitive octet_string as_judged mapped ruled after shown
  passes_leaf c = rw (any_unfolds s a e, lt-leb e a i.place.ahead, leaf_tag i.place i.tagged c, i.opens)

  module _ (c : composite (get_or s a 0) ≡ true) {m : ℕ} (q : m ≡ sized (several_at s x.start x.stop)) where
    pub passes_in : 1000 ≤ m → ((m - 1000) % 256, (m - 1000) / 256, tt, 0) ≡ shown tt (told (any_element.read s a e))
    unfolding any_by constructed after
    passes_in k =
        let t = node_tag i.place i.tagged c in
        let f = sized_halt (inner_limit i) (goes i).1 q k in
        let r : any_element.read s a e ≡ halt f.0 f.1 = rw (any_unfolds s a e, lt-leb e a i.place.ahead, t.0, t.1, i.opens, f.2) in
        tells (any_element.read s a e) f.0 f.1 r f.3 f.4 f.5

    pub passes_node : m < 1000 → (0, 0, tt, n) ≡ shown tt (told (any_element.read s a e))
    unfolding told any_by constructed closed after shown
    passes_node k =
        let t = node_tag i.place i.tagged c in
        let w = sized_got (inner_limit i) (goes i).1 q k in
        rw (any_unfolds s a e, lt-leb e a i.place.ahead, t.0, t.1, i.opens, w.1, eq-eqb x.stop x.stop refl)
