-- How elements are read: a reader is given all the octets, a place, and the end of the enclosing element, and answers a value with the place
-- after it, or the first fault with its place. Places count from the octets' start, so a fault names its octet whatever the depth.
use Rattle.std.specs.Prelude.{ℕ, zero, suc, ◌+◌, ◌-◌, ◌*◌, ◌/◌, ◌%◌, List, [], ◌∷◌, Bool, false, ◌&&◌, ◌||◌, cond, get_or, take, drop, ltb, leb, eqb}
use Rattle.std.proofs.Math.Option.{Option, none, some}
use Rattle.coding.specs.declared.Extent.{Extent}

infixl 20 ◌>>=◌
-- Why a reading stops.
--   missing     no element where one must be           (placed at the enclosing end)
--   unexpected  another tag, or something left over    (placed at that tag, as all below)
--   cut         length octets, contents or the end marker run past the enclosing element
--   form        a length octet of 80 on a primitive element, or of 83 to FF
--   shortest    an INTEGER's contents empty or not shortest
--   contents    any other bad contents
--   limit       an entry past its list's limit
--   named n     refused by the number n of the paper above
pub data Fault : Type 0 where
  missing unexpected cut form shortest contents limit : Fault
  named : ℕ → Fault

-- the numbers by which the code reports them; 0 is no fault
abbrev pub code : Fault → ℕ
code missing = 40
code unexpected = 41
code cut = 42
code form = 2
code shortest = 43
code contents = 44
code limit = 45
code (named n) = 100 + n

pub data Ans (A : Type 0) : Type 0 where
  got : A → ℕ → Ans A
  halt : Fault → ℕ → Ans A

abbrev pub Reader : Type 0 → Type 0
Reader A = List ℕ → ℕ → ℕ → Ans A

-- what follows an answer: go on from its place, or stay with its fault
unfoldable pub after : {A B : Type 0} → Ans A → (A → ℕ → Ans B) → Ans B
after (got v next) f = f v next
after (halt w p) f = halt w p

abbrev pub ◌>>=◌ : {A B : Type 0} → Reader A → (A → Reader B) → Reader B
◌>>=◌ r f s at end = after (r s at end) (λ v next. f v s next end)

abbrev pub pure : {A : Type 0} → A → Reader A
pure v s at end = got v at

-- Tags. The next tag is none at the end of the enclosing element, which no tag equals.
unfoldable pub tagged : List ℕ → ℕ → ℕ → ℕ → Bool
tagged s at end tag = cond (ltb at end) (eqb (get_or s at 0) tag) false

abbrev pub among : ℕ → List ℕ → Bool
among n [] = false
among n (x ∷ l) = eqb n x || among n l

-- one of the tags: `among`, kept folded
unfoldable pub one_of : List ℕ → ℕ → Bool
one_of tags o = among o tags

-- nothing that is allowed here is there: missing at the end, else an unexpected tag
unfoldable pub neither : {A : Type 0} → Reader A
neither s at end = cond (ltb at end) (halt unexpected at) (halt missing end)

-- by the next tag: this, or else that
unfoldable pub choice : {A : Type 0} → ℕ → Reader A → Reader A → Reader A
choice tag this that s at end = cond (tagged s at end tag) (this s at end) (that s at end)

-- Length octets with a number, at a place, of the element whose tag is at `tag`: the contents' extent and the place after the element.
unfoldable pub extent : ℕ → ℕ → ℕ → ℕ → Ans Extent
extent tag start n end =
    cond (leb (start + n) end) (got (record { start = start; stop = start + n }) (start + n)) (halt cut tag)

unfoldable pub numbered_at : ℕ → Reader Extent
numbered_at tag s at end =
    cond (leb end at) (halt cut tag)
    (cond (ltb (get_or s at 0) 0x80) (extent tag (at + 1) (get_or s at 0) end)
    (cond (eqb (get_or s at 0) 0x81)
    (cond (ltb end (at + 2)) (halt cut tag) (extent tag (at + 2) (get_or s (at + 1) 0) end))
    (cond (eqb (get_or s at 0) 0x82)
    (cond (ltb end (at + 3)) (halt cut tag)
    (extent tag (at + 3) (get_or s (at + 1) 0 * 256 + get_or s (at + 2) 0) end))
    (halt form tag))))

-- Lengths without a number. A constructed tag has the bit 20. Its length octet may be 80, and then its contents end where their end marker, 00 00, begins.
abbrev pub composite : ℕ → Bool
composite o = eqb (o / 32 % 2) 1

-- at a place, inside the enclosing element, 80 stands for the length of the element whose tag is at `tag`
unfoldable pub endless : List ℕ → ℕ → ℕ → ℕ → Bool
endless s tag at end = ltb at end && (eqb (get_or s at 0) 0x80 && composite (get_or s tag 0))

-- an end marker is at a place, both its octets inside the enclosing element
unfoldable pub marker : List ℕ → ℕ → ℕ → Bool
marker s at end = leb (at + 2) end && (eqb (get_or s at 0) 0 && eqb (get_or s (at + 1) 0) 0)

-- One turn of the search for the end marker of contents that go on at a place. It is here; or it comes after an element without a number, whose own marker is
-- searched first; or after one with a number, which is stepped over whole, whatever is in it. Where nothing is left there are no length octets: the search has run
-- out. A length that is bad stops it by its form. The search from another place is given as `rest`.
unfoldable pub turn : List ℕ → ℕ → ℕ → (ℕ → Ans ℕ) → Ans ℕ
turn s at end rest =
    cond (marker s at end) (got at (at + 2))
    (cond (endless s at (at + 1) end) (after (rest (at + 2)) (λ stop next. rest next))
    (after (numbered_at at s (at + 1) end) (λ x next. rest next)))

-- each turn goes on two octets or more, so as many turns as there are octets left are enough
unfoldable pub searched : ℕ → Reader ℕ
searched zero s at end = halt cut at
searched (suc turns) s at end = turn s at end (λ p. searched turns s p end)

-- the marker's place, and the place after it
unfoldable pub find_end : Reader ℕ
find_end s at end = searched (end - at) s at end

-- contents from start up to their end marker; a search that fails is a fault of the element whose marker is sought, placed at its tag
unfoldable pub spanned : ℕ → ℕ → Ans ℕ → Ans Extent
spanned tag start (got stop next) = got (record { start = start; stop = stop }) next
spanned tag start (halt w p) = halt w tag

-- Length octets of any form, with a number or without.
unfoldable pub length_at : ℕ → Reader Extent
length_at tag s at end =
    cond (endless s tag at end) (spanned tag (at + 1) (find_end s (at + 1) end)) (numbered_at tag s at end)

-- An element's tag and length octets.
unfoldable pub opened : ℕ → Reader Extent
opened tag = choice tag (λ s at end. length_at at s (at + 1) end) neither

-- the same answer with its fault reported in another way
unfoldable pub blamed : {A : Type 0} → (Fault → Fault) → Ans A → Ans A
blamed m (got v next) = got v next
blamed m (halt w p) = halt (m w) p

-- nothing over
unfoldable pub closed : {A : Type 0} → A → ℕ → ℕ → ℕ → Ans A
closed v at end next = cond (eqb at end) (got v next) (halt unexpected at)

unfoldable pub constructed : {A : Type 0} → ℕ → Reader A → Reader A
constructed tag body s at end =
    after (opened tag s at end) (λ e next.
    after (body s e.start e.stop) (λ v last.
    closed v last e.stop next))

-- An element by itself and whose tag is one of a list: its tag, its length octets, its end and that nothing comes after it are checked
-- before its contents.
unfoldable pub entered_any : List ℕ → (Fault → Fault) → Fault → Reader Extent
entered_any tags m over s at end =
    cond (leb end at) (halt (m missing) end)
    (cond (one_of tags (get_or s at 0))
    (after (blamed m (length_at at s (at + 1) end)) (λ e next. cond (eqb next end) (got e next) (halt over next)))
    (halt (m unexpected) at))

-- A primitive element's contents are checked as a list of octets.
pub data Ruling (A : Type 0) : Type 0 where
  good : A → Ruling A
  bad : Fault → Ruling A

unfoldable pub part : List ℕ → ℕ → ℕ → List ℕ
part s start stop = take (stop - start) (drop start s)

-- the same contents for another type
unfoldable pub mapped : {A B : Type 0} → (A → B) → Ruling A → Ruling B
mapped f (good v) = good (f v)
mapped f (bad w) = bad w

-- the same contents where only some values pass
unfoldable pub narrowed : {A : Type 0} → (A → Bool) → Ruling A → Ruling A
narrowed ok (good v) = cond (ok v) (good v) (bad contents)
narrowed ok (bad w) = bad w

unfoldable pub ruled : {A : Type 0} → Ruling A → ℕ → ℕ → Ans A
ruled (good v) tag next = got v next
ruled (bad w) tag next = halt w tag

unfoldable pub primitive : {A : Type 0} → ℕ → (List ℕ → Ruling A) → Reader A
primitive tag judge s at end = after (opened tag s at end) (λ e next. ruled (judge (part s e.start e.stop)) at next)

-- An optional element is absent when its tag does not come next.
unfoldable pub optional : {A : Type 0} → ℕ → Reader A → Reader (Option A)
optional tag r = choice tag (r >>= (λ v. pure (some v))) (pure none)

-- Entries to the end of the enclosing element, at most as many as `most`; each begins with the tag.
unfoldable pub entries : {A : Type 0} → ℕ → ℕ → Reader A → Reader (List A)
entries tag zero entry s at end =
    cond (leb end at) (got [] at) (cond (tagged s at end tag) (halt limit at) (halt unexpected at))
entries tag (suc most) entry s at end =
    let rest : Ans (List _) =
    after (entry s at end) (λ v next. after (entries tag most entry s next end) (λ vs last. got (v ∷ vs) last)) in
    cond (leb end at) (got [] at) rest

-- A list of one entry or more.
unfoldable pub list_of : {A : Type 0} → ℕ → ℕ → Reader A → Reader (List A)
list_of tag most entry s at end =
    cond (leb end at) (halt missing end) (entries tag most entry s at end)
