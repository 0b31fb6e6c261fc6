-- Of a layout's facts an instruction makes facts of the layout.
use Rattle.std.specs.Prelude.{◌≡◌, ℕ, zero, suc, ◌-◌, ◌<◌, ◌*◌, ◌/◌, ◌^◌, Bool, true, false, if◌then◌else◌, ℤ, pos, ◌+ℤ◌, ◌-ℤ◌, ◌≤ℤ◌, int_le, unsigned_abs, List, [], ◌∷◌, ◌++◌, length, Option, Some, None, IfSome}
use Rattle.std.specs.Ordering.{int_eq}
use Rattle.std.specs.Int.{int_min, int_max}
use Rattle.std.proofs.Common.{arith, refl, ap, sym, subst, inr, ◌∙◌}
use Rattle.std.proofs.lemmas.Int.{ints, clamps}
use Rattle.pk_ctypes.specs.declared.types.IntType.{IntType}
use Rattle.pk_ctypes.specs.declared.types.Op.{Op}
use Rattle.pk_ctypes.specs.declared.types.Op.TheVariants.{Add, Sub, Mul, Div, Rem, Shl, Shr, And, Or, Xor, Lt, Gt, Le, Ge, Eq, Ne, Neg, BitNot, Not}
use Rattle.pk_ctypes.specs.Types.{Represents}
use Rattle.pk_ctypes.proofs.Wrapped.{zero_in}
use Rattle.pk_ctypes.proofs.Whole.{rest_from, rest_below}
use Rattle.pk_interval.specs.Ranges.{Range, IsIn, range_from, met}
use Rattle.pk_interval.proofs.Keeping.{stays}
use Rattle.pk_congr.specs.Classes.{Class, IsReduced, is_held, rest_modulo, class_of, are_apart, int_gcd, int_lcm, gcd, first_in, met_of}
use Rattle.pk_congr.specs.Classes as classes
use Rattle.pk_congr.proofs.Numbers.{test_held, rest_of_some, tested_some}
use Rattle.pk_congr.proofs.Meets.{lcm_by_left, some_abs}
use Rattle.pk_congr.proofs.Gcd.{gcd_left}
use Rattle.pk_congr.proofs.Solutions.{part_some}
use Rattle.pk_graph.specs.Trees.{TreeOf, constant, variable, converted, unary, binary, ArrayOf, InstrOf, Skip, Set, Havoc, Clear, Load, Store, Guard, Check}
use Rattle.pk_graph.specs.Kinds.{Kinds, count_of, count_at, type_of, IsArray, IsTyped, IsTypedInstr}
use Rattle.pk_graph.specs.Kinds as kinds
use Rattle.pk_value.specs.Known.{Known, any_of, exactly, joined}
use Rattle.pk_octagons.specs.Values.{type_at, IsValue}
use Rattle.pk_octagons.specs.Reduced.{with_range}
use Rattle.pk_state.specs.Layouts.{Layout, is_spread, slot_of}
use Rattle.pk_state.specs.Facts.{Facts, AreFactsIf}
use Rattle.pk_state.specs.Reduced.{reduced}
use Rattle.pk_state.specs.Changes.{known_in, with_known}
use Rattle.pk_state.proofs.Changed.{changes_stay}
use Rattle.pk_state.proofs.Held.{facts_stay}
use Rattle.pk_transfer.specs.Trees.{tree_known, known_with, kinds_of, IsOver}
use Rattle.pk_transfer.specs.Linear.{Linear, variables_of, linear, difference, IsGuardOn}
use Rattle.pk_transfer.specs.Guards.{flipped, condition_of, Condition, with_both, at_most, at_least, other_than, refined}
use Rattle.pk_transfer.specs.Assignments.{term_of, with_form, with_known_if, set_in}
use Rattle.pk_transfer.specs.Assumptions.{places_in, le_in, compared_in, with_operand, if_some, refined_in, holds_in, guard_in}
use Rattle.pk_transfer.specs.Transfers.{misses, at_index, may_be, may_be_below, either, known_below, stored_at, stored_below, known_each, forgotten_in, loaded, stored, applied}
use Rattle.pk_transfer.proofs.Slotting.{own_there, own_type, slot_there, slot_type}
use Rattle.pk_transfer.proofs.Told.{in_wider}
use Rattle.pk_transfer.proofs.Over.{tree_over, fits_over}
use Rattle.pk_transfer.proofs.Apart.{differences_guards}
use Rattle.pk_transfer.proofs.Refining.{part_in, met_in}
use Rattle.pk_transfer.proofs.Passing.{condition_typed}
use Rattle.pk_value.specs.Values.{is_constant}
use Rattle.pk_sound.specs.Staying.{TransfersStay}
use Rattle.pk_sound.proofs.Values_stay.{Reduced, if_reduced, exactly_value, variable_value, tree_stays}
use Rattle.pk_state.proofs.Tops.{any_value}

-- ---- meets of classes

product_some : (a b : ℕ) → 0 < a → 0 < b → 0 < a * b
product_some zero b h k = absurd (omega arith)
product_some (suc a) b h k = omega arith

lcm_some : (m n : ℕ) → 0 < m → 0 < n → 0 < m * n / gcd m n
lcm_some m n h k =
    let part = part_some m n (gcd m n) h refl in
    let some : 0 < m / gcd m n = by (m / gcd m n) part.1 in
    let is : m * n / gcd m n ≡ m / gcd m n * n = lcm_by_left m n (gcd m n) part.0 (gcd_left (pos m) (pos n)) in
    subst (λ (x : ℕ). 0 < x) (sym is) (product_some (m / gcd m n) n some k)
  where
    by : (q : ℕ) → q * gcd m n ≡ m → 0 < q
    by zero e = absurd (omega arith)
    by (suc q) e = omega arith

positive_reduced : (m : ℕ) (r : ℤ) → 0 < m → unsigned_abs (pos m) < 2 ^ 127 → IsReduced (pos m) (rest_modulo r (pos m))
positive_reduced m r h k =
    let from = rest_from r m h in
    let below = rest_below r m h in
    subst (IsReduced (pos m)) (sym (rest_of_some r (pos m) (λ e. absurd (omega (arith, ints, h, e)))))
    (record { from = omega (arith, ints); rest = inr (from, below); modulus_held = k; rest_held = omega (arith, ints, from, below, k) })

met_of_reduced : (a b : Class) → (a.m ≡ pos 0 → ⊥) → (b.m ≡ pos 0 → ⊥) → Reduced a → Reduced (met_of a b)
met_of_reduced a b g i h = by (is_held (int_lcm a.m b.m)) refl
  where
    by : (w : Bool) → is_held (int_lcm a.m b.m) ≡ w → Reduced (if w then class_of (int_lcm a.m b.m) (first_in b a.m (unsigned_abs b.m) a.r) else a)
    by true f =
        positive_reduced (unsigned_abs a.m * unsigned_abs b.m / gcd (unsigned_abs a.m) (unsigned_abs b.m)) (first_in b a.m (unsigned_abs b.m) a.r)
        (lcm_some (unsigned_abs a.m) (unsigned_abs b.m) (some_abs a.m g) (some_abs b.m i)) (test_held (int_lcm a.m b.m) f)
    by false f = h

met_reduced : (a b : Class) → Reduced a → Reduced b → IfSome (classes.met a b) Reduced
met_reduced a b h k = by (are_apart a b) (int_eq a.m (pos 0)) (int_eq b.m (pos 0)) refl refl
  where
    by : (d m n : Bool) → int_eq a.m (pos 0) ≡ m → int_eq b.m (pos 0) ≡ n → IfSome (if d then None else (if m then Some a else (if n then Some b else Some (met_of a b)))) Reduced
    by true m n e f = tt
    by false true n e f = h
    by false false true e f = k
    by false false false e f = met_of_reduced a b (tested_some a.m e) (tested_some b.m f) h

-- ---- refining

ranged_value : (t : IntType) (k : Known) (lo hi : ℤ) → IsValue t k → k.range.lo ≤ℤ lo → hi ≤ℤ k.range.hi → IfSome (with_range k (range_from lo hi)) (IsValue t)
ranged_value t k lo hi v h i = by (int_le lo hi) refl
  where
    by : (b : Bool) → int_le lo hi ≡ b → IfSome (with_range k (let r : Range = record { lo = lo; hi = hi } in if b then Some r else None)) (IsValue t)
    by true e = let some : lo ≤ℤ hi = omega (arith, ints, e) in record { inside = part_in t k.range lo hi v.inside h some i; some = some; class = v.class }
    by false e = tt

most_value : (t : IntType) (k : Known) (z : ℤ) → IsValue t k → IfSome (at_most k z) (IsValue t)
most_value t k z v = ranged_value t k k.range.lo (int_min k.range.hi z) v (omega (arith, ints)) (omega (arith, ints, clamps))

least_value : (t : IntType) (k : Known) (z : ℤ) → IsValue t k → IfSome (at_least k z) (IsValue t)
least_value t k z v = ranged_value t k (int_max k.range.lo z) k.range.hi v (omega (arith, ints, clamps)) (omega (arith, ints))

other_value : (t : IntType) (k : Known) (z : ℤ) → IsValue t k → IfSome (other_than k z) (IsValue t)
other_value t k z v = ranged_value t k (if int_eq k.range.lo z then k.range.lo +ℤ pos 1 else k.range.lo) (if int_eq k.range.hi z then k.range.hi -ℤ pos 1 else k.range.hi) v (low (int_eq k.range.lo z)) (high (int_eq k.range.hi z))
  where
    low : (b : Bool) → k.range.lo ≤ℤ (if b then k.range.lo +ℤ pos 1 else k.range.lo)
    low true = omega (arith, ints)
    low false = omega (arith, ints)

    high : (b : Bool) → (if b then k.range.hi -ℤ pos 1 else k.range.hi) ≤ℤ k.range.hi
    high true = omega (arith, ints)
    high false = omega (arith, ints)

met_some : (a b : Range) → IfSome (met a b) (λ r. r.lo ≤ℤ r.hi)
met_some a b = by (int_le (int_max a.lo b.lo) (int_min a.hi b.hi)) refl
  where
    by : (m : Bool) → int_le (int_max a.lo b.lo) (int_min a.hi b.hi) ≡ m → IfSome (let r : Range = record { lo = int_max a.lo b.lo; hi = int_min a.hi b.hi } in if m then Some r else None) (λ r. r.lo ≤ℤ r.hi)
    by true e = omega (arith, ints, e)
    by false e = tt

both_value : (t : IntType) (o : Option Range) (c : Option Class) → IfSome o (IsIn t) → IfSome o (λ r. r.lo ≤ℤ r.hi) → IfSome c Reduced → IfSome (with_both o c) (IsValue t)
both_value t None c i s h = tt
both_value t (Some r) None i s h = tt
both_value t (Some r) (Some c) i s h = record { inside = i; some = s; class = h }

refined_value : (op : Op) (t u : IntType) (x v : Known) → IsValue t x → IsValue u v → IfSome (refined op x v) (IsValue t)
refined_value Lt t u x v h k = most_value t x (v.range.hi -ℤ pos 1) h
refined_value Le t u x v h k = most_value t x v.range.hi h
refined_value Gt t u x v h k = least_value t x (v.range.lo +ℤ pos 1) h
refined_value Ge t u x v h k = least_value t x v.range.lo h
refined_value Eq t u x v h k = both_value t (met x.range v.range) (classes.met x.class v.class) (met_in t x.range v.range h.inside) (met_some x.range v.range) (met_reduced x.class v.class h.class k.class)
refined_value Ne t u x v h k = by (is_constant v)
  where
    by : (b : Bool) → IfSome (if b then other_than x v.range.lo else Some x) (IsValue t)
    by true = other_value t x v.range.lo h
    by false = h
refined_value Add t u x v h k = h
refined_value Sub t u x v h k = h
refined_value Mul t u x v h k = h
refined_value Div t u x v h k = h
refined_value Rem t u x v h k = h
refined_value Shl t u x v h k = h
refined_value Shr t u x v h k = h
refined_value And t u x v h k = h
refined_value Or t u x v h k = h
refined_value Xor t u x v h k = h
refined_value Neg t u x v h k = h
refined_value BitNot t u x v h k = h
refined_value Not t u x v h k = h

-- ---- writing

written_stays : (y : Layout) (f : Option Facts) (x : ℕ) (o : Option Known) → AreFactsIf y f → x < length y.types → IfSome o (IsValue (type_at y.types x)) → AreFactsIf y (with_known_if f x o)
written_stays y f x None a h i = tt
written_stays y f x (Some k) a h i = changes_stay.written y f x k a h i

form_stays : (y : Layout) (f : Option Facts) (x : ℕ) (o : Option Linear) (over : List ℕ) → AreFactsIf y f → AreFactsIf y (with_form y f x o over)
form_stays y f x None over a = changes_stay.assigned y f x None (pos 0) [] a
form_stays y f x (Some l) over a = changes_stay.assigned y f x (term_of l.places) l.constant over a

-- a value of a narrower type
wider_value : (t u : IntType) (o : Option Known) → Represents t u → IfSome o (IsValue u) → IfSome o (IsValue t)
wider_value t u None w h = tt
wider_value t u (Some k) w h = record { inside = in_wider t u k.range w h.inside; some = h.some; class = h.class }

set_stays : (y : Layout) (f : Option Facts) (x : ℕ) (e : TreeOf ℕ) → AreFactsIf y f → x < length y.types → IsTyped (kinds_of y) e → Represents (type_at y.types x) (type_of (kinds_of y) e) → AreFactsIf y (set_in y f x e)
set_stays y f x e a h t w =
    written_stays y (with_form y f x (linear y.packs (known_in f) e) (variables_of e)) x (tree_known (known_in f) e) (form_stays y f x (linear y.packs (known_in f) e) (variables_of e) a) h
    (wider_value (type_at y.types x) (type_of (kinds_of y) e) (tree_known (known_in f) e) w (tree_stays y f e a t))

chosen_stays : (y : Layout) (b : Bool) (f g : Option Facts) → AreFactsIf y f → AreFactsIf y g → AreFactsIf y (if b then f else g)
chosen_stays y true f g a h = a
chosen_stays y false f g a h = h

forgotten_stays : (y : Layout) (f : Option Facts) (x : ℕ) (o : Option Known) → AreFactsIf y f → x < length y.types → IfSome o (IsValue (type_at y.types x)) → AreFactsIf y (forgotten_in y f x o)
forgotten_stays y f x o a h i = written_stays y (with_form y f x None []) x o (form_stays y f x None [] a) h i

index_stays : (y : Layout) (n : ℕ) (o : Option Known) (f : Known → Option Facts) → ((k : Known) → AreFactsIf y (f k)) → AreFactsIf y (at_index n o f)
index_stays y n None f a = tt
index_stays y n (Some k) f a = chosen_stays y (misses n k) None (f k) tt (a k)

pub joined_value : (t : IntType) (a b : Known) → IsValue t a → IsValue t b → IsValue t (joined a b)
joined_value t a b h k = record { inside = stays.joins t a.range b.range h.inside k.inside; some = omega (arith, ints, clamps, h.some, k.some); class = if_reduced (int_gcd (int_gcd a.class.m b.class.m) (a.class.r -ℤ b.class.r)) a.class.r (omega (arith, ints)) }

-- ---- slots

each_stays : (ks : Kinds) (y : Layout) (f : Option Facts) (x : ℕ) (k : Known) (m : ℕ) → IsOver ks y → AreFactsIf y f → x < length ks → IsValue (kinds.type_at ks x) k → ((i : ℕ) → i < m → suc i < count_at ks x) → AreFactsIf y (known_each y f x k m)
each_stays ks y f x k zero over a h v inside = changes_stay.written y f x k a (own_there ks y over x h) (subst (λ (t : IntType). IsValue t k) (sym (own_type ks y over x h)) v)
each_stays ks y f x k (suc m) over a h v inside =
    let here = inside m (omega arith) in
    changes_stay.written y (known_each y f x k m) (slot_of y x (suc m)) k (each_stays ks y f x k m over a h v (λ i p. inside i (omega (arith, p)))) (slot_there ks y over x (suc m) h here)
    (subst (λ (t : IntType). IsValue t k) (sym (slot_type ks y over x (suc m) h here)) v)

less_one : (n i : ℕ) → i < n - 1 → suc i < n
less_one n i h = omega (arith, h)

either_stays : (t : IntType) (o p : Option Known) → IfSome o (IsValue t) → IfSome p (IsValue t) → IfSome (either o p) (IsValue t)
either_stays t None p h k = k
either_stays t (Some a) None h k = h
either_stays t (Some a) (Some b) h k = joined_value t a b h k

below_value : (ks : Kinds) (y : Layout) (f : Option Facts) (x : ℕ) (k : Known) (n : ℕ) → IsOver ks y → AreFactsIf y f → x < length ks → ((i : ℕ) → i < n → i < count_at ks x) → IfSome (known_below y f x k n) (IsValue (kinds.type_at ks x))
below_value ks y f x k zero over a h inside = tt
below_value ks y f x k (suc n) over a h inside = by (below_value ks y f x k n over a h (λ i p. inside i (omega (arith, p)))) (may_be k n)
  where
    there : slot_of y x n < length y.types
    there = slot_there ks y over x n h (inside n (omega arith))

    one : IfSome (known_in f (slot_of y x n)) (IsValue (kinds.type_at ks x))
    one = subst (λ (t : IntType). IfSome (known_in f (slot_of y x n)) (IsValue t)) (slot_type ks y over x n h (inside n (omega arith))) (variable_value y f (slot_of y x n) a there)

    by : IfSome (known_below y f x k n) (IsValue (kinds.type_at ks x)) → (b : Bool) → IfSome (if b then either (known_below y f x k n) (known_in f (slot_of y x n)) else known_below y f x k n) (IsValue (kinds.type_at ks x))
    by before true = either_stays (kinds.type_at ks x) (known_below y f x k n) (known_in f (slot_of y x n)) before one
    by before false = before

loaded_value : (ks : Kinds) (y : Layout) (f : Option Facts) (r : ArrayOf ℕ) (k : Known) → IsOver ks y → AreFactsIf y f → IsArray ks r → IfSome (loaded y f r k) (IsValue (kinds.type_at ks r.variable))
loaded_value ks y f r k over a h = by (is_spread y r.variable)
  where
    count : count_at ks r.variable ≡ r.length
    count = ap count_of h.array

    by : (b : Bool) → IfSome (if b then known_below y f r.variable k r.length else known_in f r.variable) (IsValue (kinds.type_at ks r.variable))
    by true = below_value ks y f r.variable k r.length over a h.there (λ i p. omega (arith, p, count))
    by false = subst (λ (t : IntType). IfSome (known_in f r.variable) (IsValue t)) (own_type ks y over r.variable h.there) (variable_value y f r.variable a (own_there ks y over r.variable h.there))

stored_stays : (y : Layout) (f : Option Facts) (j : ℕ) (surely : Bool) (v : Known) → AreFactsIf y f → j < length y.types → IsValue (type_at y.types j) v → AreFactsIf y (stored_at f j surely v)
stored_stays y f j surely v a h w =
    written_stays y f j (known_with (known_in f j) (λ k. Some (if surely then v else joined k v))) a h (one (known_in f j) (variable_value y f j a h))
  where
    some_of : (b : Bool) (k : Known) → IsValue (type_at y.types j) k → IsValue (type_at y.types j) (if b then v else joined k v)
    some_of true k i = w
    some_of false k i = joined_value (type_at y.types j) k v i w

    one : (o : Option Known) → IfSome o (IsValue (type_at y.types j)) → IfSome (known_with o (λ k. Some (if surely then v else joined k v))) (IsValue (type_at y.types j))
    one None i = tt
    one (Some k) i = some_of surely k i

below_stays : (ks : Kinds) (y : Layout) (f : Option Facts) (x : ℕ) (k v : Known) (n : ℕ) → IsOver ks y → AreFactsIf y f → x < length ks → IsValue (kinds.type_at ks x) v → ((i : ℕ) → i < n → i < count_at ks x) → AreFactsIf y (stored_below y f x k v n)
below_stays ks y f x k v zero over a h w inside = a
below_stays ks y f x k v (suc n) over a h w inside = by (below_stays ks y f x k v n over a h w (λ i p. inside i (omega (arith, p)))) (may_be k n)
  where
    by : AreFactsIf y (stored_below y f x k v n) → (b : Bool) → AreFactsIf y (if b then stored_at (stored_below y f x k v n) (slot_of y x n) (is_constant k) v else stored_below y f x k v n)
    by before true =
        stored_stays y (stored_below y f x k v n) (slot_of y x n) (is_constant k) v before (slot_there ks y over x n h (inside n (omega arith)))
        (subst (λ (t : IntType). IsValue t v) (sym (slot_type ks y over x n h (inside n (omega arith)))) w)
    by before false = before

array_stays : (ks : Kinds) (y : Layout) (f : Option Facts) (r : ArrayOf ℕ) (k : Known) (o : Option Known) → IsOver ks y → AreFactsIf y f → IsArray ks r → IfSome o (IsValue (kinds.type_at ks r.variable)) → AreFactsIf y (stored y f r k o)
array_stays ks y f r k None over a h w = tt
array_stays ks y f r k (Some v) over a h w =
    let count : count_at ks r.variable ≡ r.length = ap count_of h.array in
    chosen_stays y (is_spread y r.variable) (if may_be_below k r.length then stored_below y f r.variable k v r.length else None) (stored_at f r.variable false v)
    (chosen_stays y (may_be_below k r.length) (stored_below y f r.variable k v r.length) None (below_stays ks y f r.variable k v r.length over a h.there w (λ i p. omega (arith, p, count))) tt)
    (stored_stays y f r.variable false v a (own_there ks y over r.variable h.there) (subst (λ (t : IntType). IsValue t v) (sym (own_type ks y over r.variable h.there)) w))

-- ---- guards

places_stay : (y : Layout) (f : Option Facts) (ps : List ℕ) (c : ℤ) (over : List ℕ) → AreFactsIf y f → IsGuardOn ps → AreFactsIf y (places_in y f ps c over)
places_stay y f [] c over a g = changes_stay.guarded y f None None c over a g
places_stay y f (p ∷ []) c over a g = changes_stay.guarded y f (Some p) None c over a g
places_stay y f (p ∷ (q ∷ [])) c over a g = changes_stay.guarded y f (Some p) (Some q) c over a g
places_stay y f (p ∷ (q ∷ (r ∷ ps))) c over a g = a

abbrev AreGuards : Option Linear → Option Linear → Type 0
AreGuards o p = (l r : Linear) → o ≡ Some l → p ≡ Some r → IsGuardOn (difference l r).places

le_stays : (y : Layout) (f : Option Facts) (o p : Option Linear) (n : ℤ) (over : List ℕ) → AreFactsIf y f → AreGuards o p → AreFactsIf y (le_in y f o p n over)
le_stays y f None p n over a g = a
le_stays y f (Some l) None n over a g = a
le_stays y f (Some l) (Some r) n over a g = places_stay y f (difference l r).places ((r.constant -ℤ n) -ℤ l.constant) over a (g l r refl refl)

compared_stays : (op : Op) (y : Layout) (f : Option Facts) (o p : Option Linear) (over : List ℕ) → AreFactsIf y f → AreGuards o p → AreGuards p o → AreFactsIf y (compared_in op y f o p over)
compared_stays Add y f o p over a g h = a
compared_stays Sub y f o p over a g h = a
compared_stays Mul y f o p over a g h = a
compared_stays Div y f o p over a g h = a
compared_stays Rem y f o p over a g h = a
compared_stays Shl y f o p over a g h = a
compared_stays Shr y f o p over a g h = a
compared_stays And y f o p over a g h = a
compared_stays Or y f o p over a g h = a
compared_stays Xor y f o p over a g h = a
compared_stays Lt y f o p over a g h = le_stays y f o p (pos 1) over a g
compared_stays Gt y f o p over a g h = le_stays y f p o (pos 1) over a h
compared_stays Le y f o p over a g h = le_stays y f o p (pos 0) over a g
compared_stays Ge y f o p over a g h = le_stays y f p o (pos 0) over a h
compared_stays Eq y f o p over a g h = le_stays y (le_in y f o p (pos 0) over) p o (pos 0) over (le_stays y f o p (pos 0) over a g) h
compared_stays Ne y f o p over a g h = a
compared_stays Neg y f o p over a g h = a
compared_stays BitNot y f o p over a g h = a
compared_stays Not y f o p over a g h = a

with_stays : (t : IntType) (o : Option Known) (f : Known → Option Known) → IfSome o (IsValue t) → ((k : Known) → IsValue t k → IfSome (f k) (IsValue t)) → IfSome (known_with o f) (IsValue t)
with_stays t None f h g = tt
with_stays t (Some k) f h g = g k h

there_in : (ks : Kinds) (y : Layout) (x : ℕ) → IsOver ks y → x < length ks → x < length y.types
there_in ks y x o h = own_there ks y o x h

operand_stays : (ks : Kinds) (y : Layout) (f : Option Facts) (e : TreeOf ℕ) (op : Op) (u : IntType) (v : Known) → IsOver ks y → AreFactsIf y f → IsTyped ks e → IsValue u v → AreFactsIf y (with_operand f e op v)
operand_stays ks y f (constant t n) op u v o a h i = a
operand_stays ks y f (variable x) op u v o a h i =
    let here = there_in ks y x o h.there in
    written_stays y f x (known_with (known_in f x) (λ k. refined op k v)) a here
    (with_stays (type_at y.types x) (known_in f x) (λ k. refined op k v) (variable_value y f x a here) (λ k j. refined_value op (type_at y.types x) u k v j i))
operand_stays ks y f (converted t e) op u v o a h i = a
operand_stays ks y f (unary q s t e) op u v o a h i = a
operand_stays ks y f (binary q s t d e) op u v o a h i = a

if_some_stays : (y : Layout) (o : Option Known) (f : Option Facts) → AreFactsIf y f → AreFactsIf y (if_some o f)
if_some_stays y None f a = tt
if_some_stays y (Some k) f a = a

refined_stays : (ks : Kinds) (y : Layout) (f : Option Facts) (c : Condition) (o p : Option Known) (t u : IntType) → IsOver ks y → AreFactsIf y f → IsTyped ks c.left → IsTyped ks c.right → IfSome o (IsValue t) → IfSome p (IsValue u) → AreFactsIf y (refined_in f c o p)
refined_stays ks y f c None p t u over a h i j k = tt
refined_stays ks y f c (Some m) None t u over a h i j k = tt
refined_stays ks y f c (Some m) (Some n) t u over a h i j k =
    if_some_stays y (refined c.op m n) (with_operand (with_operand f c.left c.op n) c.right (flipped c.op) m)
    (operand_stays ks y (with_operand f c.left c.op n) c.right (flipped c.op) t m over (operand_stays ks y f c.left c.op u n over a h k) i j)

holds_stay : (ks : Kinds) (y : Layout) (f : Option Facts) (c : Condition) → IsOver ks y → AreFactsIf y f → IsTyped ks c.left → IsTyped ks c.right → AreFactsIf y (holds_in y f c)
holds_stay ks y f c over a h i =
    let read = variables_of c.left ++ variables_of c.right in
    refined_stays ks y (compared_in c.op y f (linear y.packs (known_in f) c.left) (linear y.packs (known_in f) c.right) read) c (tree_known (known_in f) c.left) (tree_known (known_in f) c.right)
    (type_of (kinds_of y) c.left) (type_of (kinds_of y) c.right) over
    (compared_stays c.op y f (linear y.packs (known_in f) c.left) (linear y.packs (known_in f) c.right) read a (differences_guards y.packs (known_in f) c.left c.right) (differences_guards y.packs (known_in f) c.right c.left))
    h i (tree_stays y f c.left a (tree_over ks y c.left over h)) (tree_stays y f c.right a (tree_over ks y c.right over i))

pub guard_stays : (ks : Kinds) (y : Layout) (f : Option Facts) (e : TreeOf ℕ) (b : Bool) → IsOver ks y → AreFactsIf y f → IsTyped ks e → AreFactsIf y (guard_in y f e b)
guard_stays ks y f e b over a h = let c = condition_typed ks e b h in holds_stay ks y f (condition_of e b) over a c.0 c.1

-- ---- instructions

applied_by : (ks : Kinds) (y : Layout) (f : Option Facts) (i : InstrOf ℕ) → IsOver ks y → AreFactsIf y f → IsTypedInstr ks i → AreFactsIf y (applied y f i)
applied_by ks y f Skip over a h = a
applied_by ks y f (Set x e) over a h = set_stays y f x e a (there_in ks y x over h.0.there) (tree_over ks y e over h.1.typed) (fits_over ks y x e over h.0.there h.1)
applied_by ks y f (Havoc x t n) over a h =
    let value : IsValue (kinds.type_at ks x) (any_of t) = subst (λ (u : IntType). IsValue u (any_of t)) (sym h.1) (any_value t) in
    chosen_stays y (is_spread y x) (known_each y f x (any_of t) (n - 1)) (forgotten_in y f x (Some (any_of t)))
    (each_stays ks y f x (any_of t) (n - 1) over a h.0 value (λ i p. subst (λ (m : ℕ). suc i < m) (sym h.2) (less_one n i p)))
    (forgotten_stays y f x (Some (any_of t)) a (there_in ks y x over h.0) (subst (λ (u : IntType). IsValue u (any_of t)) (sym (own_type ks y over x h.0)) value))
applied_by ks y f (Clear r) over a h =
    let zero = zero_in (kinds.type_at ks r.variable) in
    let value : IsValue (kinds.type_at ks r.variable) (exactly (pos 0)) = exactly_value (kinds.type_at ks r.variable) (pos 0) (record { from = zero.0; to = zero.1 }) in
    let count : count_at ks r.variable ≡ r.length = ap count_of h.array in
    chosen_stays y (is_spread y r.variable) (known_each y f r.variable (exactly (pos 0)) (r.length - 1)) (with_known f r.variable (exactly (pos 0)))
    (each_stays ks y f r.variable (exactly (pos 0)) (r.length - 1) over a h.there value (λ i p. subst (λ (m : ℕ). suc i < m) (sym count) (less_one r.length i p)))
    (changes_stay.written y f r.variable (exactly (pos 0)) a (there_in ks y r.variable over h.there) (subst (λ (u : IntType). IsValue u (exactly (pos 0))) (sym (own_type ks y over r.variable h.there)) value))
applied_by ks y f (Load x r s b i) over a h =
    let same : kinds.type_at ks r.variable ≡ type_at y.types x = sym h.2 ∙ sym (own_type ks y over x h.0.there) in
    index_stays y r.length (tree_known (known_in f) i) (λ k. forgotten_in y f x (loaded y f r k))
    (λ k. forgotten_stays y f x (loaded y f r k) a (there_in ks y x over h.0.there) (subst (λ (t : IntType). IfSome (loaded y f r k) (IsValue t)) same (loaded_value ks y f r k over a h.1)))
applied_by ks y f (Store r s b i e) over a h =
    let same = own_type ks y over r.variable h.0.there in
    let given = subst (λ (t : IntType). IfSome (tree_known (known_in f) e) (IsValue t)) same
    (wider_value (type_at y.types r.variable) (type_of (kinds_of y) e) (tree_known (known_in f) e) (fits_over ks y r.variable e over h.0.there h.2) (tree_stays y f e a (tree_over ks y e over h.2.typed))) in
    index_stays y r.length (tree_known (known_in f) i) (λ k. stored y f r k (tree_known (known_in f) e)) (λ k. array_stays ks y f r k (tree_known (known_in f) e) over a h.0 given)
applied_by ks y f (Guard e b) over a h = guard_stays ks y f e b over a h
applied_by ks y f (Check s e) over a h = guard_stays ks y f e true over a h

pub transfers_stay : TransfersStay
transfers_stay = record {
  applied = λ y f i a h. applied_by h.kinds y f i h.over a h.typed;
  transferred = λ y f i l a h.
      let before = facts_stay.reductions y f l a in
      facts_stay.reductions y (applied y (reduced y f) i) l (applied_by h.kinds y (reduced y f) i h.over before h.typed);
}
