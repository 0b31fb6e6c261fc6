-- No two places of a linear form are opposite.
use Rattle.std.specs.Prelude.{◌≡◌, ◌≢◌, ℕ, ◌*◌, ◌==◌, nat_le, Bool, true, false, if◌then◌else◌, pos, List, [], ◌∷◌, length, map, Option, Some, None, option_map}
use Rattle.std.proofs.Common.{arith, refl, ap, sym, subst, ◌∙◌}
use Rattle.std.proofs.lemmas.Bool.Decides.{nat_tests}
use Rattle.pk_ctypes.specs.declared.types.Op.TheVariants.{Add, Sub, Mul, Div, Rem, Shl, Shr, And, Or, Xor, Lt, Gt, Le, Ge, Eq, Ne, Neg, BitNot, Not}
use Rattle.pk_ctypes.specs.declared.types.Op.{Op}
use Rattle.pk_octmat.specs.Octagon.{bar}
use Rattle.pk_octmat.proofs.Bars.{bar_bar}
use Rattle.pk_octagons.specs.Packs.{is_chosen}
use Rattle.pk_graph.specs.Trees.{TreeOf, constant, variable, converted, unary, binary}
use Rattle.pk_value.specs.Known.{Known}
use Rattle.pk_transfer.specs.Trees.{tree_known}
use Rattle.pk_transfer.specs.Linear.{Linear, with_place, with_places, negative, sum, difference, if_few, both, where_known, where_both, is_inside, is_exact, if_negative, if_sum, linear, IsNone, ArePlaces, IsGuardOn, HasPlaces, is_near, with_constant}

none_with : (q p : ℕ) (ps : List ℕ) → p ≢ q → IsNone q ps → IsNone q (with_place p ps)
none_with q p [] d h = (d, tt)
none_with q p (r ∷ ps) d h = by (r == bar p) (none_with q p ps d h.1)
  where
    by : (b : Bool) → IsNone q (with_place p ps) → IsNone q (if b then ps else r ∷ with_place p ps)
    by true i = h.1
    by false i = (h.0, i)

places_with : (p : ℕ) (ps : List ℕ) → ArePlaces ps → ArePlaces (with_place p ps)
places_with p [] h = (tt, tt)
places_with p (q ∷ ps) h = by (q == bar p) refl (places_with p ps h.1)
  where
    other : (q == bar p) ≡ false → p ≢ bar q
    other e = λ same. let turned : q ≡ bar p = sym (ap bar same ∙ bar_bar q) in let test : (q == bar p) ≡ true = grind (arith, nat_tests) in absurd (cc)

    by : (b : Bool) → (q == bar p) ≡ b → ArePlaces (with_place p ps) → ArePlaces (if b then ps else q ∷ with_place p ps)
    by true e i = h.1
    by false e i = (none_with (bar q) p ps (other e) h.0, i)

places_all : (ps qs : List ℕ) → ArePlaces ps → ArePlaces qs → ArePlaces (with_places ps qs)
places_all [] qs h g = g
places_all (p ∷ ps) qs h g = places_with p (with_places ps qs) (places_all ps qs h.1 g)

none_negative : (q : ℕ) (ps : List ℕ) → IsNone q ps → IsNone (bar q) (map bar ps)
none_negative q [] h = tt
none_negative q (p ∷ ps) h = (λ e. h.0 (sym (bar_bar p) ∙ ap bar e ∙ bar_bar q), none_negative q ps h.1)

places_negative : (ps : List ℕ) → ArePlaces ps → ArePlaces (map bar ps)
places_negative [] h = tt
places_negative (p ∷ ps) h = (none_negative (bar p) ps h.0, places_negative ps h.1)

-- ---- forms

few_places : (l : Linear) → ArePlaces l.places → HasPlaces (if_few l)
few_places l h = by (nat_le (length l.places) 2)
  where
    near : (b : Bool) → HasPlaces (if b then Some l else None)
    near true = h
    near false = tt

    by : (b : Bool) → HasPlaces (with_constant l.constant (if b then Some l.places else None))
    by true = near (is_near l.constant)
    by false = tt

both_places : (f : Linear → Linear → Linear) → ((l m : Linear) → ArePlaces l.places → ArePlaces m.places → ArePlaces (f l m).places) → (o p : Option Linear) → HasPlaces o → HasPlaces p → HasPlaces (both f o p)
both_places f g None p h k = tt
both_places f g (Some l) None h k = tt
both_places f g (Some l) (Some m) h k = few_places (f l m) (g l m h k)

where_places : (o : Option Known) (f : Known → Bool) (l : Option Linear) → HasPlaces l → HasPlaces (where_known o f l)
where_places None f l h = tt
where_places (Some k) f l h = by (f k)
  where
    by : (b : Bool) → HasPlaces (if b then l else None)
    by true = h
    by false = tt

where_both_places : (o p : Option Known) (f : Known → Known → Bool) (l : Option Linear) → HasPlaces l → HasPlaces (where_both o p f l)
where_both_places None p f l h = tt
where_both_places (Some j) p f l h = where_places p (f j) l h

negative_places : (o : Option Linear) → HasPlaces o → HasPlaces (option_map negative o)
negative_places None h = tt
negative_places (Some l) h = places_negative l.places h

pub difference_places : (l m : Linear) → ArePlaces l.places → ArePlaces m.places → ArePlaces (difference l m).places
difference_places l m h k = places_all l.places (map bar m.places) h (places_negative m.places k)

if_negative_places : (op : Op) (l : Option Linear) → HasPlaces l → HasPlaces (if_negative op l)
if_negative_places Add l h = tt
if_negative_places Sub l h = tt
if_negative_places Mul l h = tt
if_negative_places Div l h = tt
if_negative_places Rem l h = tt
if_negative_places Shl l h = tt
if_negative_places Shr l h = tt
if_negative_places And l h = tt
if_negative_places Or l h = tt
if_negative_places Xor l h = tt
if_negative_places Lt l h = tt
if_negative_places Gt l h = tt
if_negative_places Le l h = tt
if_negative_places Ge l h = tt
if_negative_places Eq l h = tt
if_negative_places Ne l h = tt
if_negative_places Neg l h = h
if_negative_places BitNot l h = tt
if_negative_places Not l h = tt

if_sum_places : (op : Op) (l m : Option Linear) → HasPlaces l → HasPlaces m → HasPlaces (if_sum op l m)
if_sum_places Add l m h k = h
if_sum_places Sub l m h k = k
if_sum_places Mul l m h k = tt
if_sum_places Div l m h k = tt
if_sum_places Rem l m h k = tt
if_sum_places Shl l m h k = tt
if_sum_places Shr l m h k = tt
if_sum_places And l m h k = tt
if_sum_places Or l m h k = tt
if_sum_places Xor l m h k = tt
if_sum_places Lt l m h k = tt
if_sum_places Gt l m h k = tt
if_sum_places Le l m h k = tt
if_sum_places Ge l m h k = tt
if_sum_places Eq l m h k = tt
if_sum_places Ne l m h k = tt
if_sum_places Neg l m h k = tt
if_sum_places BitNot l m h k = tt
if_sum_places Not l m h k = tt

pub tree_places : (packs : List (List ℕ)) (g : ℕ → Option Known) (e : TreeOf ℕ) → HasPlaces (linear packs g e)
tree_places packs g (variable x) = by (is_chosen packs x)
  where
    by : (b : Bool) → HasPlaces (if b then Some (record { constant = pos 0; places = 2 * x ∷ [] }) else None)
    by true = (tt, tt)
    by false = tt
tree_places packs g (constant t c) = tt
tree_places packs g (converted t e) = where_places (tree_known g e) (λ k. is_inside t k.range) (linear packs g e) (tree_places packs g e)
tree_places packs g (unary op s t e) =
    if_negative_places op (where_known (tree_known g e) (λ k. is_exact Neg t k k) (option_map negative (linear packs g e)))
    (where_places (tree_known g e) (λ k. is_exact Neg t k k) (option_map negative (linear packs g e)) (negative_places (linear packs g e) (tree_places packs g e)))
tree_places packs g (binary op s t a b) =
    if_sum_places op (where_both (tree_known g a) (tree_known g b) (is_exact Add t) (both sum (linear packs g a) (linear packs g b))) (where_both (tree_known g a) (tree_known g b) (is_exact Sub t) (both difference (linear packs g a) (linear packs g b)))
    (where_both_places (tree_known g a) (tree_known g b) (is_exact Add t) (both sum (linear packs g a) (linear packs g b))
    (both_places sum (λ l m h k. places_all l.places m.places h k) (linear packs g a) (linear packs g b) (tree_places packs g a) (tree_places packs g b)))
    (where_both_places (tree_known g a) (tree_known g b) (is_exact Sub t) (both difference (linear packs g a) (linear packs g b))
    (both_places difference difference_places (linear packs g a) (linear packs g b) (tree_places packs g a) (tree_places packs g b)))

pub guard_on : (ps : List ℕ) → ArePlaces ps → IsGuardOn ps
guard_on [] h = tt
guard_on (a ∷ []) h = tt
guard_on (a ∷ (b ∷ [])) h = h.0.0
guard_on (a ∷ (b ∷ (c ∷ ps))) h = tt

pub differences_guards : (packs : List (List ℕ)) (g : ℕ → Option Known) (d e : TreeOf ℕ) (l r : Linear) → linear packs g d ≡ Some l → linear packs g e ≡ Some r → IsGuardOn (difference l r).places
differences_guards packs g d e l r p q =
    guard_on (difference l r).places
    (difference_places l r (subst HasPlaces p (tree_places packs g d)) (subst HasPlaces q (tree_places packs g e)))
