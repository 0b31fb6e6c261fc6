-- Linear forms: a constant and at most two signed variables of octagons. Place 2x is variable x, place 2x + 1 its negative.
use Rattle.std.specs.Prelude.{◌≡◌, ◌≢◌, ℕ, ◌-◌, ◌*◌, ◌^◌, ◌==◌, nat_le, Bool, ◌&&◌, ◌||◌, if◌then◌else◌, ℤ, pos, negsuc, ◌+ℤ◌, ◌-ℤ◌, ◌≤ℤ◌, neg_ℤ, int_le, int_lt, List, [], ◌∷◌, ◌++◌, length, map, Option, Some, None, option_map, Ok}
use Rattle.pk_ctypes.specs.declared.types.IntType.{IntType}
use Rattle.pk_ctypes.specs.declared.types.Op.{Op}
use Rattle.pk_ctypes.specs.declared.types.Op.TheVariants.{Add, Sub, Neg}
use Rattle.pk_ctypes.specs.Types.{low_of, high_of, is_signed_of}
use Rattle.pk_interval.specs.declared.outcome.Outcome.{Outcome}
use Rattle.pk_interval.specs.declared.outcome.Outcome.TheVariants.{Empty, Within, TooLarge}
use Rattle.pk_interval.specs.Ranges.{Range}
use Rattle.pk_interval.specs.Operators.{range_of}
use Rattle.pk_octmat.specs.Octagon.{bar, side}
use Rattle.pk_octops.specs.Guards.{Obeys}
use Rattle.pk_octagons.specs.Packs.{pack_at, is_chosen, is_over}
use Rattle.pk_octagons.specs.Changes.{AreTerms}
use Rattle.pk_graph.specs.Trees.{TreeOf, constant, variable, converted, unary, binary}
use Rattle.pk_graph.specs.Kinds.{IsTyped}
use Rattle.pk_graph.specs.Steps.{tree_value}
use Rattle.pk_graph.specs.Stores.{Stored, storing, number_of}
use Rattle.pk_value.specs.Known.{Known}
use Rattle.pk_state.specs.Layouts.{Layout}
use Rattle.pk_state.specs.Facts.{Facts, AreFactsIf}
use Rattle.pk_state.specs.Members.{Member}
use Rattle.pk_state.specs.Changes.{known_in}
use Rattle.pk_transfer.specs.Trees.{tree_known, kinds_of}

-- ---- forms

pub record Linear : Type 0 where
  pub constant : ℤ
  pub places : List ℕ

-- the sum of the places' numbers
abbrev pub sum_of : (ℕ → ℤ) → List ℕ → ℤ
sum_of x [] = pos 0
sum_of x (p ∷ ps) = side x p +ℤ sum_of x ps

abbrev pub linear_value : (ℕ → ℤ) → Linear → ℤ
linear_value x l = l.constant +ℤ sum_of x l.places

-- one place more, or its opposite less
abbrev pub with_place : ℕ → List ℕ → List ℕ
with_place p [] = p ∷ []
with_place p (q ∷ qs) = if q == bar p then qs else q ∷ with_place p qs

abbrev pub with_places : List ℕ → List ℕ → List ℕ
with_places [] qs = qs
with_places (p ∷ ps) qs = with_place p (with_places ps qs)

abbrev pub negative : Linear → Linear
negative l = record { constant = neg_ℤ l.constant; places = map bar l.places }

abbrev pub sum : Linear → Linear → Linear
sum l m = record { constant = l.constant +ℤ m.constant; places = with_places l.places m.places }

abbrev pub difference : Linear → Linear → Linear
difference l m = sum l (negative m)

-- ---- of a tree

-- at most two places
abbrev pub if_two : List ℕ → Option (List ℕ)
if_two ps = if nat_le (length ps) 2 then Some ps else None

-- A constant within 2^126 of 0, as every one in an analysed text is: it is at most a sum of constants of the text.
abbrev pub is_near : ℤ → Bool
is_near c = int_lt (negsuc (2 ^ 126 - 1)) c && int_lt c (pos (2 ^ 126))

abbrev pub if_near : ℤ → List ℕ → Option Linear
if_near c ps = if is_near c then Some (record { constant = c; places = ps }) else None

abbrev pub with_constant : ℤ → Option (List ℕ) → Option Linear
with_constant c None = None
with_constant c (Some ps) = if_near c ps

-- such a form
abbrev pub if_few : Linear → Option Linear
if_few l = with_constant l.constant (if_two l.places)

abbrev pub both : (Linear → Linear → Linear) → Option Linear → Option Linear → Option Linear
both f None m = None
both f (Some l) None = None
both f (Some l) (Some m) = if_few (f l m)

-- the form, where what is known passes a test
abbrev pub where_known : Option Known → (Known → Bool) → Option Linear → Option Linear
where_known None f l = None
where_known (Some k) f l = if f k then l else None

abbrev pub where_both : Option Known → Option Known → (Known → Known → Bool) → Option Linear → Option Linear
where_both None k f l = None
where_both (Some j) k f l = where_known k (f j) l

-- the range lies in the type, so that a conversion changes no number of it
abbrev pub is_inside : IntType → Range → Bool
is_inside t r = int_le (low_of t) r.lo && int_le r.hi (high_of t)

abbrev pub stays : IntType → Outcome → Bool
stays t Empty = is_signed_of t
stays t (Within r) = is_signed_of t || is_inside t r
stays t TooLarge = is_signed_of t

-- the operator's numbers are not wrapped
abbrev pub is_exact : Op → IntType → Known → Known → Bool
is_exact op t j k = stays t (range_of op t j.range k.range)

-- a form that only a negative has, and two that only a sum and a difference have
abbrev pub if_negative : Op → Option Linear → Option Linear
if_negative Neg l = l
if_negative op l = None

abbrev pub if_sum : Op → Option Linear → Option Linear → Option Linear
if_sum Add l m = l
if_sum Sub l m = m
if_sum op l m = None

-- the variables that a tree reads
abbrev pub variables_of : TreeOf ℕ → List ℕ
variables_of (constant t c) = []
variables_of (variable x) = x ∷ []
variables_of (converted t e) = variables_of e
variables_of (unary op s t e) = variables_of e
variables_of (binary op s t a b) = variables_of a ++ variables_of b

-- The linear form of a tree over the packs' variables, where it has one and g says what is known of each variable.
abbrev pub linear : List (List ℕ) → (ℕ → Option Known) → TreeOf ℕ → Option Linear
linear packs g (constant t c) = Some (record { constant = c; places = [] })
linear packs g (variable x) =
    if is_chosen packs x then Some (record { constant = pos 0; places = 2 * x ∷ [] }) else None
linear packs g (converted t e) = where_known (tree_known g e) (λ k. is_inside t k.range) (linear packs g e)
linear packs g (unary op s t e) =
    if_negative op (where_known (tree_known g e) (λ k. is_exact Neg t k k) (option_map negative (linear packs g e)))
linear packs g (binary op s t a b) =
    if_sum op (where_both (tree_known g a) (tree_known g b) (is_exact Add t)
    (both sum (linear packs g a) (linear packs g b)))
    (where_both (tree_known g a) (tree_known g b) (is_exact Sub t)
    (both difference (linear packs g a) (linear packs g b)))

-- the bound c on the sum of at most two places, as a guard has it
abbrev pub IsBounded : (ℕ → ℤ) → List ℕ → ℤ → Type 0
IsBounded x [] c = Obeys x None None c
IsBounded x (a ∷ []) c = Obeys x (Some a) None c
IsBounded x (a ∷ (b ∷ [])) c = Obeys x (Some a) (Some b) c
IsBounded x (a ∷ (b ∷ (d ∷ ps))) c = Unit {0}

-- q isn't among the places
abbrev pub IsNone : ℕ → List ℕ → Type 0
IsNone q [] = Unit {0}
IsNone q (p ∷ ps) = (p ≢ q) × IsNone q ps

-- none of the places is the opposite of another
abbrev pub ArePlaces : List ℕ → Type 0
ArePlaces [] = Unit {0}
ArePlaces (p ∷ ps) = IsNone (bar p) ps × ArePlaces ps

abbrev pub HasPlaces : Option Linear → Type 0
HasPlaces None = Unit {0}
HasPlaces (Some l) = ArePlaces l.places

-- a guard on the places
abbrev pub IsGuardOn : List ℕ → Type 0
IsGuardOn [] = AreTerms None None
IsGuardOn (a ∷ []) = AreTerms (Some a) None
IsGuardOn (a ∷ (b ∷ [])) = AreTerms (Some a) (Some b)
IsGuardOn (a ∷ (b ∷ (c ∷ ps))) = Unit {0}

-- Where a typed tree has a value in a store of a state, and a linear form, the value is that of the form; where the left of two forms is at most the right, their
-- difference is bounded by that of the constants; and the difference of two trees' forms is a guard. By the variables of one pack, a tree has the same form where the pack has
-- each variable that the tree reads, and else none.
pub record FormsAreExact : Type 0 where
  pub values : (y : Layout) (f : Option Facts) (s : Stored) (e : TreeOf ℕ) (z : ℤ) (l : Linear) → AreFactsIf y f →
      Member y f s → IsTyped (kinds_of y) e → tree_value storing e s ≡ Ok z →
      linear y.packs (known_in f) e ≡ Some l → z ≡ linear_value (number_of s) l
  pub bounded : (x : ℕ → ℤ) (l r : Linear) → linear_value x l ≤ℤ linear_value x r →
      IsBounded x (difference l r).places (r.constant -ℤ l.constant)
  pub guards : (packs : List (List ℕ)) (g : ℕ → Option Known) (d e : TreeOf ℕ) (l r : Linear) →
      linear packs g d ≡ Some l → linear packs g e ≡ Some r → IsGuardOn (difference l r).places
  pub by_pack : (packs : List (List ℕ)) (p : ℕ) (g : ℕ → Option Known) (e : TreeOf ℕ) →
      linear (pack_at packs p ∷ []) g e
      ≡ if is_over (variables_of e) (pack_at packs p) then linear packs g e else None
