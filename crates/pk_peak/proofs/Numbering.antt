-- The items of an order, place by place.
use Rattle.std.proofs.Common.{◌≡◌, ◌≢◌, ℕ, ◌+◌, ◌-◌, ◌<◌, ◌==◌, ◌||◌, List, [], ◌∷◌, ◌++◌, length, get_or, fold, cond, Bool, true, false, refl, sym, ap, subst, ◌∙◌, arith, All, AllPairs, Contains, append_assoc, get_or-set_other, get_or-set_same}
use lib.ListN.{set}
use Rattle.std.proofs.lemmas.Bool.{eqb-true, eqb-false, ne_eqb}
use Rattle.std.proofs.lemmas.List.{length-set}
use Rattle.std.proofs.lemmas.List.Elements.{All-contains}
use Rattle.std.proofs.lemmas.List.Sums.{fold-append}
use Rattle.pk_plan.specs.declared.places.Role.TheVariants.{Vertex, Head, Exit}
use Rattle.pk_plan.specs.declared.places.Place.{Place}
use Rattle.pk_plan.specs.Order.{Level, Empty, Vertex_then, Component_then, places_of}
use Rattle.pk_plan.specs.Linear.{elements_of, Item, component_item, items_of}
use Rattle.pk_plan.specs.Shape.{has}
use Rattle.pk_peak.specs.Peak.{item_of}
use Rattle.pk_plan.proofs.Apart.{Apart, apart_of}
use Rattle.pk_peak.specs.Items.{AreNumbered, depth_then}
use Rattle.pk_peak.proofs.Listing.{has_of, of_has, has_append}

-- what is numbered of an order so far: the items of its elements, the item that was begun last, how many there are, and how many brackets are open
pub record Numbered : Type 0 where
  pub of : List ℕ
  pub item : ℕ
  pub count : ℕ
  pub depth : ℕ

abbrev at_place : Bool → Numbered → Place → Numbered
at_place true n place = record { of = set n.of place.element n.count; item = n.count; count = n.count + 1; depth = depth_then n.depth place.role }
at_place false n place = record { of = set n.of place.element n.item; item = n.item; count = n.count; depth = depth_then n.depth place.role }

abbrev pub numbered_then : Numbered → Place → Numbered
numbered_then n place = at_place (n.depth == 0) n place

-- the same item for each of these elements
abbrev pub put_all : ℕ → List ℕ → List ℕ → List ℕ
put_all n es of = fold (λ (xs : List ℕ) (e : ℕ). set xs e n) of es

-- the items from this number on
abbrev pub put_items : ℕ → List Item → List ℕ → List ℕ
put_items n [] of = of
put_items n (i ∷ items) of = put_items (n + 1) items (put_all n i.elements of)

within : (n : Numbered) (place : Place) → 0 < n.depth → numbered_then n place ≡ record { of = set n.of place.element n.item; item = n.item; count = n.count; depth = depth_then n.depth place.role }
within n place some = ap (λ (t : Bool). at_place t n place) (ne_eqb n.depth 0 (λ e. absurd (omega (arith, e, some))))

outside : (n : Numbered) (place : Place) → n.depth ≡ 0 → numbered_then n place ≡ record { of = set n.of place.element n.count; item = n.count; count = n.count + 1; depth = depth_then n.depth place.role }
outside n place none = ap (λ (t : Bool). at_place t n place) (ap (λ (k : ℕ). k == 0) none)

abbrev numbers : List ℕ → ℕ → ℕ → ℕ → Numbered
numbers of item count depth = record { of = of; item = item; count = count; depth = depth }

-- a level within brackets belongs to the item that was begun
level_within : (level : Level) (of : List ℕ) (item count depth : ℕ) (more : List Place) → 0 < depth
    → fold numbered_then (numbers of item count depth) (places_of level ++ more) ≡ fold numbered_then (numbers (put_all item (elements_of level) of) item count depth) more
level_within Empty of item count depth more some = refl
level_within (Vertex_then v level) of item count depth more some =
    ap (λ (n : Numbered). fold numbered_then n (places_of level ++ more)) (within (numbers of item count depth) (record { element = v; role = Vertex }) some)
    ∙ level_within level (set of v item) item count depth more some
level_within (Component_then head exit rest level) of item count depth more some =
    let x : Place = record { element = exit; role = Exit (length (places_of rest) + 1) } in
    let first = set of head item in
    let inner = put_all item (elements_of rest) first in
    let back : depth + 1 - 1 ≡ depth = omega arith in
    ap (λ (n : Numbered). fold numbered_then n ((places_of rest ++ (x ∷ places_of level)) ++ more)) (within (numbers of item count depth) (record { element = head; role = Head }) some)
    ∙ ap (fold numbered_then (numbers first item count (depth + 1))) (append_assoc (places_of rest) (x ∷ places_of level) more)
    ∙ level_within rest first item count (depth + 1) (x ∷ (places_of level ++ more)) (omega arith)
    ∙ ap (λ (n : Numbered). fold numbered_then n (places_of level ++ more)) (within (numbers inner item count (depth + 1)) x (omega arith))
    ∙ ap (λ (k : ℕ). fold numbered_then (numbers (set inner exit item) item count k) (places_of level ++ more)) back
    ∙ level_within level (set inner exit item) item count depth more some
    ∙ ap (λ (xs : List ℕ). fold numbered_then (numbers xs item count depth) more) (sym (fold-append (λ (xs : List ℕ) (e : ℕ). set xs e item) first (elements_of rest) (exit ∷ elements_of level)))

pub record IsNumbered (level : Level) (of : List ℕ) (count : ℕ) (made : Numbered) : Type 0 where
  pub made_of : made.of ≡ put_items count (items_of level) of
  pub made_count : made.count ≡ count + length (items_of level)

-- a level outside of all brackets begins an item at each vertex and each head
pub level_outside : (level : Level) (of : List ℕ) (item count depth : ℕ) → depth ≡ 0 → IsNumbered level of count (fold numbered_then (numbers of item count depth) (places_of level))
level_outside Empty of item count depth none = record { made_of = refl; made_count = omega arith }
level_outside (Vertex_then v level) of item count depth none =
    let n = numbers of item count depth in
    let later = level_outside level (set of v count) count (count + 1) depth none in
    let here : IsNumbered (Vertex_then v level) of count (fold numbered_then (numbers (set of v count) count (count + 1) depth) (places_of level)) =
    record { made_of = later.made_of; made_count = let is = later.made_count in omega (arith, is) } in
    subst (λ (m : Numbered). IsNumbered (Vertex_then v level) of count (fold numbered_then m (places_of level))) (sym (outside n (record { element = v; role = Vertex }) none)) here
level_outside (Component_then head exit rest level) of item count depth none =
    let n = numbers of item count depth in
    let x : Place = record { element = exit; role = Exit (length (places_of rest) + 1) } in
    let first = set of head count in
    let inner = put_all count (elements_of rest) first in
    let later = level_outside level (set inner exit count) count (count + 1) (depth + 1 - 1) (omega (arith, none)) in
    let whole : fold numbered_then n (places_of (Component_then head exit rest level)) ≡ fold numbered_then (numbers (set inner exit count) count (count + 1) (depth + 1 - 1)) (places_of level) =
    ap (λ (m : Numbered). fold numbered_then m (places_of rest ++ (x ∷ places_of level))) (outside n (record { element = head; role = Head }) none)
    ∙ level_within rest first count (count + 1) (depth + 1) (x ∷ places_of level) (omega arith)
    ∙ ap (λ (m : Numbered). fold numbered_then m (places_of level)) (within (numbers inner count (count + 1) (depth + 1)) x (omega arith)) in
    let puts : put_all count (component_item head exit rest).elements of ≡ set inner exit count = fold-append (λ (xs : List ℕ) (e : ℕ). set xs e count) first (elements_of rest) (exit ∷ []) in
    let here : IsNumbered (Component_then head exit rest level) of count (fold numbered_then (numbers (set inner exit count) count (count + 1) (depth + 1 - 1)) (places_of level)) =
    record { made_of = later.made_of ∙ ap (put_items (count + 1) (items_of level)) (sym puts); made_count = let is = later.made_count in omega (arith, is) } in
    subst (IsNumbered (Component_then head exit rest level) of count) (sym whole) here

-- ---- what was put where

length-put_all : (n : ℕ) (es of : List ℕ) → length (put_all n es of) ≡ length of
length-put_all n [] of = refl
length-put_all n (e ∷ es) of = length-put_all n es (set of e n) ∙ length-set of e n

pub length-put_items : (n : ℕ) (items : List Item) (of : List ℕ) → length (put_items n items of) ≡ length of
length-put_items n [] of = refl
length-put_items n (i ∷ items) of = length-put_items (n + 1) items (put_all n i.elements of) ∙ length-put_all n i.elements of

or_false : (s t : Bool) → (s || t) ≡ false → (s ≡ false) × (t ≡ false)
or_false true t h = absurd (cc)
or_false false t h = (refl, h)

put_other : (n : ℕ) (es of : List ℕ) (e : ℕ) → has e es ≡ false → get_or (put_all n es of) e 0 ≡ get_or of e 0
put_other n [] of e h = refl
put_other n (x ∷ es) of e h =
    let both = or_false (e == x) (has e es) h in
    put_other n es (set of x n) e both.1 ∙ get_or-set_other of x e n 0 (eqb-false e x both.0)

put_same : (n : ℕ) (es of : List ℕ) (e : ℕ) → has e es ≡ true → e < length of → get_or (put_all n es of) e 0 ≡ n
put_same n [] of e h low = absurd (cc)
put_same n (x ∷ es) of e h low = by_later (has e es) refl h (λ q. put_same n es (set of x n) e q (let l = length-set of x n in omega (arith, l, low)))
  where
    by_first : (t : Bool) → (e == x) ≡ t → (t || false) ≡ true → e ≡ x
    by_first true q h = eqb-true e x q
    by_first false q h = absurd (cc)

    by_later : (t : Bool) → has e es ≡ t → ((e == x) || t) ≡ true → (has e es ≡ true → get_or (put_all n es (set of x n)) e 0 ≡ n) → get_or (put_all n es (set of x n)) e 0 ≡ n
    by_later true q h ih = ih q
    by_later false q h ih =
        let same = by_first (e == x) refl h in
        put_other n es (set of x n) e q ∙ ap (λ (k : ℕ). get_or (set of x n) k 0) same ∙ get_or-set_same of x n 0 (subst (λ (k : ℕ). k < length of) same low)

-- the elements of items, one item after another
abbrev pub elements_in : List Item → List ℕ
elements_in [] = []
elements_in (i ∷ items) = i.elements ++ elements_in items

pub elements_in-items_of : (level : Level) → elements_in (items_of level) ≡ elements_of level
elements_in-items_of Empty = refl
elements_in-items_of (Vertex_then v level) = ap (λ (xs : List ℕ). v ∷ xs) (elements_in-items_of level)
elements_in-items_of (Component_then head exit rest level) =
    ap (λ (xs : List ℕ). head ∷ xs) (append_assoc (elements_of rest) (exit ∷ []) (elements_in (items_of level)) ∙ ap (λ (xs : List ℕ). elements_of rest ++ exit ∷ xs) (elements_in-items_of level))

put_elsewhere : (n : ℕ) (items : List Item) (of : List ℕ) (e : ℕ) → has e (elements_in items) ≡ false → get_or (put_items n items of) e 0 ≡ get_or of e 0
put_elsewhere n [] of e h = refl
put_elsewhere n (i ∷ items) of e h =
    let both = or_false (has e i.elements) (has e (elements_in items)) (sym (has_append i.elements (elements_in items) e) ∙ h) in
    put_elsewhere (n + 1) items (put_all n i.elements of) e both.1 ∙ put_other n i.elements of e both.0

-- no element stands in two items, or twice in one
abbrev pub StandOnce : List ℕ → Type 0
StandOnce [] = Unit {0}
StandOnce (x ∷ xs) = (has x xs ≡ false) × StandOnce xs

once_later : (xs ys : List ℕ) → StandOnce (xs ++ ys) → StandOnce ys
once_later [] ys once = once
once_later (x ∷ xs) ys once = once_later xs ys once.1

once_first : (xs ys : List ℕ) (e : ℕ) → StandOnce (xs ++ ys) → has e xs ≡ true → has e ys ≡ false
once_first [] ys e once h = absurd (cc)
once_first (x ∷ xs) ys e once h = by_test (e == x) refl h (once_first xs ys e once.1)
  where
    by_test : (t : Bool) → (e == x) ≡ t → (t || has e xs) ≡ true → (has e xs ≡ true → has e ys ≡ false) → has e ys ≡ false
    by_test true q h ih =
        let both = or_false (has x xs) (has x ys) (sym (has_append xs ys x) ∙ once.0) in
        ap (λ (k : ℕ). has k ys) (eqb-true e x q) ∙ both.1
    by_test false q h ih = ih h

pub put_at : (n : ℕ) (items : List Item) (of : List ℕ) (e : ℕ) → StandOnce (elements_in items) → has e (elements_in items) ≡ true → e < length of → get_or (put_items n items of) e 0 ≡ n + item_of items e
put_at n [] of e once h low = absurd (cc)
put_at n (i ∷ items) of e once h low =
    by_test (has e i.elements) refl (sym (has_append i.elements (elements_in items) e) ∙ h)
    (λ later. put_at (n + 1) items (put_all n i.elements of) e (once_later i.elements (elements_in items) once) later (let l = length-put_all n i.elements of in omega (arith, l, low)))
  where
    by_test : (t : Bool) → has e i.elements ≡ t → (has e i.elements || has e (elements_in items)) ≡ true → (has e (elements_in items) ≡ true → get_or (put_items (n + 1) items (put_all n i.elements of)) e 0 ≡ n + 1 + item_of items e) → get_or (put_items (n + 1) items (put_all n i.elements of)) e 0 ≡ n + cond (has e i.elements) 0 (item_of items e + 1)
    by_test true q both ih =
        let here : get_or (put_items (n + 1) items (put_all n i.elements of)) e 0 ≡ n =
        put_elsewhere (n + 1) items (put_all n i.elements of) e (once_first i.elements (elements_in items) e once q) ∙ put_same n i.elements of e q low in
        omega (arith, here, ap {B = ℕ} (λ (c : Bool). cond c 0 (item_of items e + 1)) q)
    by_test false q both ih =
        let later = ih (ap (λ (t : Bool). t || has e (elements_in items)) (sym q) ∙ both) in
        omega (arith, later, ap {B = ℕ} (λ (c : Bool). cond c 0 (item_of items e + 1)) q)

once_of : (xs : List ℕ) → Apart xs → StandOnce xs
once_of [] apart = tt
once_of (x ∷ xs) apart = (not_there (has x xs) (λ h. apart.0 (of_has xs x h)), once_of xs apart.1)
  where
    not_there : (t : Bool) → (t ≡ true → ⊥) → t ≡ false
    not_there true h = absurd (h refl)
    not_there false h = refl

-- all places of an order
pub numbered_all : (level : Level) (elements : ℕ) (zeros of : List ℕ) (item count depth : ℕ) → All (λ e. e < elements) (elements_of level) → AllPairs (λ a b. a ≢ b) (elements_of level) → length zeros ≡ elements
    → fold numbered_then (record { of = zeros; item = 0; count = 0; depth = 0 }) (places_of level) ≡ record { of = of; item = item; count = count; depth = depth } → AreNumbered level elements of count
numbered_all level elements zeros of item count depth within once long made =
    let all = level_outside level zeros 0 0 0 refl in
    let of_is : of ≡ put_items 0 (items_of level) zeros = ap (λ (n : Numbered). n.of) (sym made) ∙ all.made_of in
    let count_is : count ≡ 0 + length (items_of level) = ap (λ (n : Numbered). n.count) (sym made) ∙ all.made_count in
    let apart = subst StandOnce (sym (elements_in-items_of level)) (once_of (elements_of level) (apart_of (elements_of level) once)) in
    record {
      long = ap (λ (xs : List ℕ). length xs) of_is ∙ length-put_items 0 (items_of level) zeros ∙ long;
      many = omega (arith, count_is);
      each = λ e there.
          let stands = ap (has e) (elements_in-items_of level) ∙ has_of (elements_of level) e there in
          let low = All-contains (λ (n : ℕ). n < elements) (elements_of level) e within there in
          let at = put_at 0 (items_of level) zeros e apart stands (omega (arith, low, long)) in
          ap (λ (xs : List ℕ). get_or xs e 0) of_is ∙ omega (arith, at);
    }

-- an element's item is one of them
item_low : (items : List Item) (e : ℕ) → has e (elements_in items) ≡ true → item_of items e < length items
item_low [] e h = absurd (cc)
item_low (i ∷ items) e h = by_test (has e i.elements) refl (sym (has_append i.elements (elements_in items) e) ∙ h) (item_low items e)
  where
    by_test : (t : Bool) → has e i.elements ≡ t → (has e i.elements || has e (elements_in items)) ≡ true → (has e (elements_in items) ≡ true → item_of items e < length items) → cond (has e i.elements) 0 (item_of items e + 1) < length (i ∷ items)
    by_test true q both ih = omega (arith, ap {B = ℕ} (λ (c : Bool). cond c 0 (item_of items e + 1)) q)
    by_test false q both ih = omega (arith, ih (ap (λ (t : Bool). t || has e (elements_in items)) (sym q) ∙ both), ap {B = ℕ} (λ (c : Bool). cond c 0 (item_of items e + 1)) q)

pub numbered_low : (order : Level) (elements : ℕ) (of : List ℕ) (count e : ℕ) → AreNumbered order elements of count → Contains (elements_of order) e → get_or of e 0 < count
numbered_low order elements of count e numbered there =
    let low = item_low (items_of order) e (ap (has e) (elements_in-items_of order) ∙ has_of (elements_of order) e there) in
    omega (arith, low, numbered.each e there, numbered.many)
