-- An answer and a component's five parts are told apart by what they say together, the front's last four octets being zero: so `read_into` has one outcome.
use Rattle.prelude.proofs.Prelude.{ℕ, zero, suc, ◌+◌, ◌*◌, ◌/◌, ◌%◌, ◌<◌, arith, ◌≡◌, refl, ap, sym, ◌∙◌, List, [], ◌∷◌, ◌++◌, drop, replicate, length}
use Rattle.coding.{specs.Reader.part, proofs.Laws.Octets, proofs.Basic.octets_none, proofs.Basic.octets_cons}
use Rattle.types.{specs.declared.Charge.Charge, specs.Stored.front_in, specs.Stored.stored_charge, proofs.Stored.by_octets}
use Rattle.read.{specs.declared.Refusal.Refusal, proofs.One.Filled, proofs.One.one_answer}
use Rattle.trunk_types.specs.{declared.Extension.Extension, declared.Trunk.Trunk, declared.TrunkAnswer.TrunkAnswer, Stored.extension_in, Stored.body_in, Stored.trunk_in}
use Rattle.trunk_types.specs.Stored.{Spare}
use Rattle.trunk_read.specs.Whole.{whole_trunk}

-- the octets of a front: those of a number, of the component, and the last four
abbrev both : ℕ → List ℕ → List ℕ
both n s = n % 256 ∷ n / 256 ∷ s

abbrev front_out : Trunk → List ℕ → List ℕ
front_out t last =
    let l = t.lead in
    let b = t.body in
    let u = b.user in
    l.frame ∷ l.unnamed ∷ both l.id (both l.error (l.operation ∷ l.problem ∷ b.modes.count ∷ (b.modes.places
    ++ both u.id (both u.count (u.kind ∷ u.plan ∷ (u.digits ++ (b.detail ∷ b.entity ∷ last)))))))

apart : (x y : ℕ) → x < 256 → ((x + 256 * y) % 256 ≡ x) × ((x + 256 * y) / 256 ≡ y)
apart x y h = (omega arith, omega arith)

front_back : (extension : List ℕ) (c : Charge) (s : List ℕ) → length s ≡ 48 → Octets s → front_out (trunk_in s extension c) (drop 44 s) ≡ s
unfolding trunk_in body_in part
front_back extension c = by_octets 48 (λ s. Octets s → front_out (trunk_in s extension c) (drop 44 s) ≡ s) (λ f o.
    let id = apart (f 2) (f 3) (o 2) in
    let error = apart (f 4) (f 5) (o 4) in
    let user = apart (f 16) (f 17) (o 16) in
    let count = apart (f 18) (f 19) (o 18) in
    simp (id.0, id.1, error.0, error.1, user.0, user.1, count.0, count.1))

-- those of an extension
abbrev extension_out : Extension → List ℕ
extension_out x = x.kind ∷ x.count ∷ x.octets

extension_back : (s : List ℕ) → length s ≡ 244 → extension_out (extension_in s) ≡ s
extension_back [] l = absurd (omega arith)
extension_back (x ∷ []) l = absurd (omega arith)
extension_back (x ∷ y ∷ s) l = refl

-- a front of zeros, for a record that has the same charge
zeros : (n : ℕ) → Octets (replicate n 0)
zeros zero = octets_none
zeros (suc n) = octets_cons 0 (replicate n 0) (omega arith) (zeros n)

empty : Filled 8 (replicate 8 0)
empty = record { count = refl; octets = zeros 8 }

pub one_trunk : (r r' : Refusal) {front front' extension extension' figure figure' numbers numbers' rows rows' : List ℕ}
    → Filled 48 front → Filled 48 front' → Spare front → Spare front' → Filled 244 extension → Filled 244 extension' → Filled 48 figure → Filled 48 figure'
    → whole_trunk r front extension figure numbers rows ≡ whole_trunk r' front' extension' figure' numbers' rows'
    → (r ≡ r') × (front ≡ front') × (extension ≡ extension') × (figure ≡ figure') × (numbers ≡ numbers') × (rows ≡ rows')
unfolding trunk_in body_in
one_trunk r r' {front} {front'} {extension} {extension'} {figure} {figure'} {numbers} {numbers'} {rows} {rows'} a a' z z' b b' c c' e =
    let v = ap (λ (x : TrunkAnswer). x.value) e in
    let o = one_answer r r' empty empty c c'
    (ap (λ (x : TrunkAnswer). record { number = x.number; offset = x.offset; value = record { front = front_in (replicate 8 0); charge = x.value.body.charge } }) e) in (
      o.0,
      sym (front_back extension (stored_charge figure numbers rows) front a.count a.octets) ∙ ap (λ (x : Trunk). front_out x (drop 44 front)) v
          ∙ ap (λ (last : List ℕ). front_out (trunk_in front' extension' (stored_charge figure' numbers' rows')) last) (z ∙ sym z')
          ∙ front_back extension' (stored_charge figure' numbers' rows') front' a'.count a'.octets,
      sym (extension_back extension b.count) ∙ ap (λ (x : Trunk). extension_out x.body.extension) v ∙ extension_back extension' b'.count,
      o.2,
      o.3,
      o.4,
    )
