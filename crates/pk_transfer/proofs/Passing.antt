-- Guards keep the stores in which their trees have the wanted truth.
use Rattle.std.specs.Prelude.{◌≡◌, ℕ, ◌<◌, Bool, true, false, not, if◌then◌else◌, ℤ, pos, ◌+ℤ◌, ◌-ℤ◌, ◌≤ℤ◌, List, [], ◌∷◌, ◌++◌, length, Option, Some, None, Ok}
use Rattle.std.proofs.Common.{arith, refl, sym, subst, ◌∙◌, length-set}
use Rattle.std.proofs.lemmas.Int.{ints}
use Rattle.pk_ctypes.specs.declared.types.IntType.TheVariants.{Int}
use Rattle.pk_ctypes.specs.declared.types.Op.{Op}
use Rattle.pk_ctypes.specs.declared.types.Op.TheVariants.{Add, Sub, Mul, Div, Rem, Shl, Shr, And, Or, Xor, Lt, Gt, Le, Ge, Eq, Ne, Neg, BitNot, Not}
use Rattle.pk_ctypes.specs.Operators.{is_not}
use Rattle.pk_graph.specs.Trees.{TreeOf, constant, variable, converted, unary, binary}
use Rattle.pk_graph.specs.Kinds.{Kinds, IsTyped, IsScalar}
use Rattle.pk_graph.specs.Steps.{number_at, tree_value}
use Rattle.pk_graph.specs.Stores.{Stored, storing, numbers_of, number_of}
use Rattle.pk_value.specs.Known.{Known, IsOf, IsOneOf}
use Rattle.pk_value.proofs.Sound.{equal_by_test}
use Rattle.pk_octagons.specs.Values.{known_at}
use Rattle.pk_state.specs.Layouts.{Layout}
use Rattle.pk_state.specs.Facts.{Facts, AreFactsIf}
use Rattle.pk_state.specs.Members.{Member}
use Rattle.pk_state.specs.Changes.{known_in, with_known, AreNumbersOf}
use Rattle.pk_state.proofs.Changed.{changes_sound, changes_stay, refined_values}
use Rattle.pk_transfer.specs.Slots.{spread}
use Rattle.pk_transfer.specs.Trees.{tree_known, IsOver}
use Rattle.pk_transfer.specs.Linear.{Linear, difference, variables_of, linear, IsBounded, IsGuardOn}
use Rattle.pk_transfer.specs.Guards.{is_comparison, is_zero, negated, condition_of, Condition, test_of, HoldsIn, flipped, refined}
use Rattle.pk_transfer.specs.Assignments.{with_known_if}
use Rattle.pk_transfer.specs.Assumptions.{places_in, le_in, compared_in, with_operand, if_some, refined_in, GuardsPass}
use Rattle.pk_transfer.proofs.Slotting.{own_there, counts_of}
use Rattle.pk_transfer.proofs.Spreading.{tree_spread, scalar_counts}
use Rattle.pk_transfer.proofs.Told.{trees_sound}
use Rattle.pk_transfer.proofs.Apart.{differences_guards}
use Rattle.pk_transfer.proofs.Forms.{Tells, tree_tells, forms_exact}
use Rattle.pk_transfer.proofs.Refining.{turned, guards_keep}

-- ---- the octagons

places_keep : (y : Layout) (f : Option Facts) (s : Stored) (ps : List ℕ) (c : ℤ) (over : List ℕ) → AreFactsIf y f → Member y f s → IsGuardOn ps → IsBounded (number_of s) ps c → AreFactsIf y (places_in y f ps c over) × Member y (places_in y f ps c over) s
places_keep y f s [] c over a m g o = (changes_stay.guarded y f None None c over a g, changes_sound.guarded y f s None None c over a m g o)
places_keep y f s (p ∷ []) c over a m g o = (changes_stay.guarded y f (Some p) None c over a g, changes_sound.guarded y f s (Some p) None c over a m g o)
places_keep y f s (p ∷ (q ∷ [])) c over a m g o = (changes_stay.guarded y f (Some p) (Some q) c over a g, changes_sound.guarded y f s (Some p) (Some q) c over a m g o)
places_keep y f s (p ∷ (q ∷ (r ∷ ps))) c over a m g o = (a, m)

le_forms : (y : Layout) (f : Option Facts) (s : Stored) (o p : Option Linear) (n v w : ℤ) (over : List ℕ) → AreFactsIf y f → Member y f s → ((l r : Linear) → o ≡ Some l → p ≡ Some r → IsGuardOn (difference l r).places) → Tells (number_of s) o v → Tells (number_of s) p w → (v +ℤ n) ≤ℤ w
    → AreFactsIf y (le_in y f o p n over) × Member y (le_in y f o p n over) s
le_forms y f s None p n v w over a m g t u h = (a, m)
le_forms y f s (Some l) None n v w over a m g t u h = (a, m)
le_forms y f s (Some l) (Some r) n v w over a m g t u h =
    places_keep y f s (difference l r).places ((r.constant -ℤ n) -ℤ l.constant) over a m (g l r refl refl)
    (forms_exact.bounded (number_of s) l (record { constant = r.constant -ℤ n; places = r.places }) (omega (arith, ints, t, u, h)))

-- the two trees' forms, for any state that is known of them
record AreForms (y : Layout) (s : Stored) (o p : Option Linear) (v w : ℤ) : Type 0 where
  left : Tells (number_of s) o v
  right : Tells (number_of s) p w
  there : (l r : Linear) → o ≡ Some l → p ≡ Some r → IsGuardOn (difference l r).places
  back : (l r : Linear) → p ≡ Some l → o ≡ Some r → IsGuardOn (difference l r).places

compared_keep : (op : Op) (y : Layout) (f : Option Facts) (s : Stored) (o p : Option Linear) (v w : ℤ) (over : List ℕ) → AreFactsIf y f → Member y f s → AreForms y s o p v w → test_of op v w ≡ true → AreFactsIf y (compared_in op y f o p over) × Member y (compared_in op y f o p over) s
compared_keep Add y f s o p v w over a m g h = (a, m)
compared_keep Sub y f s o p v w over a m g h = (a, m)
compared_keep Mul y f s o p v w over a m g h = (a, m)
compared_keep Div y f s o p v w over a m g h = (a, m)
compared_keep Rem y f s o p v w over a m g h = (a, m)
compared_keep Shl y f s o p v w over a m g h = (a, m)
compared_keep Shr y f s o p v w over a m g h = (a, m)
compared_keep And y f s o p v w over a m g h = (a, m)
compared_keep Or y f s o p v w over a m g h = (a, m)
compared_keep Xor y f s o p v w over a m g h = (a, m)
compared_keep Lt y f s o p v w over a m g h = le_forms y f s o p (pos 1) v w over a m g.there g.left g.right (omega (arith, ints, h))
compared_keep Gt y f s o p v w over a m g h = le_forms y f s p o (pos 1) w v over a m g.back g.right g.left (omega (arith, ints, h))
compared_keep Le y f s o p v w over a m g h = le_forms y f s o p (pos 0) v w over a m g.there g.left g.right (omega (arith, ints, h))
compared_keep Ge y f s o p v w over a m g h = le_forms y f s p o (pos 0) w v over a m g.back g.right g.left (omega (arith, ints, h))
compared_keep Eq y f s o p v w over a m g h =
    let same = equal_by_test v w h in
    let once = le_forms y f s o p (pos 0) v w over a m g.there g.left g.right (omega (arith, ints, same)) in
    le_forms y (le_in y f o p (pos 0) over) s p o (pos 0) w v over once.0 once.1 g.back g.right g.left (omega (arith, ints, same))
compared_keep Ne y f s o p v w over a m g h = (a, m)
compared_keep Neg y f s o p v w over a m g h = (a, m)
compared_keep BitNot y f s o p v w over a m g h = (a, m)
compared_keep Not y f s o p v w over a m g h = (a, m)

-- ---- the operands

refined_one : (y : Layout) (f : Option Facts) (s : Stored) (x : ℕ) (k : Known) → Member y f s → AreNumbersOf k (numbers_of s x) → Member y (with_known f x k) s
refined_one y None s x k m n = absurd m
refined_one y (Some f) s x k m n = record { values = refined_values f.values s x k m.values n; scalars = m.scalars; octagons = m.octagons }

-- a scalar's number is its only one
abbrev pub HasScalars : Kinds → Stored → Type 0
HasScalars ks s = (x : ℕ) → IsScalar ks x → length (numbers_of s x) ≡ 1

scalar_numbers : (ks : Kinds) (s : Stored) (x : ℕ) (k : Known) → HasScalars ks s → IsScalar ks x → IsOf k (number_of s x) → AreNumbersOf k (numbers_of s x)
scalar_numbers ks s x k st sc h =
    let one = st x sc in
    record { each = λ i p. at i (omega (arith, p, one)); some = omega (arith, one) }
  where
    at : (i : ℕ) → i ≡ 0 → IsOf k (number_at (numbers_of s x) i)
    at i e = subst (λ j. IsOf k (number_at (numbers_of s x) j)) (sym e) h

-- there is a value for each variable
abbrev HasSize : Layout → Option Facts → Type 0
HasSize y None = Unit {0}
HasSize y (Some f) = length f.values ≡ length y.types

size_of : (y : Layout) (f : Option Facts) → AreFactsIf y f → HasSize y f
size_of y None a = tt
size_of y (Some f) a = a.values.size

variable_keeps : (ks : Kinds) (y : Layout) (f : Option Facts) (s : Stored) (x : ℕ) (op : Op) (v : Known) (w : ℤ) → IsOver ks y → HasScalars ks s → HasSize y f → Member y f s → IsScalar ks x → IsOf v w → test_of op (number_of s x) w ≡ true
    → HasSize y (with_operand f (variable x) op v) × Member y (with_operand f (variable x) op v) s
variable_keeps ks y None s x op v w over st z m sc i t = absurd m
variable_keeps ks y (Some f) s x op v w over st z m sc i t = go (refined op (known_at f.values x) v) (guards_keep.left op (known_at f.values x) v (number_of s x) w held i t)
  where
    here : x < length f.values
    here = omega (arith, own_there ks y over x sc.there, z)

    held : IsOf (known_at f.values x) (number_of s x)
    held = m.values.each x 0 here (m.values.some x here)

    go : (o : Option Known) → IsOneOf o (number_of s x) → HasSize y (with_known_if (Some f) x o) × Member y (with_known_if (Some f) x o) s
    go None h = absurd h
    go (Some k) h = (length-set f.values x k ∙ z, refined_one y (Some f) s x k m (scalar_numbers ks s x k st sc h))

operand_keeps : (ks : Kinds) (y : Layout) (f : Option Facts) (s : Stored) (e : TreeOf ℕ) (op : Op) (v : Known) (z w : ℤ) → IsOver ks y → HasScalars ks s → HasSize y f → Member y f s → IsTyped ks e → tree_value storing e s ≡ Ok z → IsOf v w → test_of op z w ≡ true
    → HasSize y (with_operand f e op v) × Member y (with_operand f e op v) s
operand_keeps ks y f s (constant t n) op v z w over st g m h e i r = (g, m)
operand_keeps ks y f s (variable x) op v z w over st g m h e i r =
    let same : number_of s x ≡ z = cc in
    variable_keeps ks y f s x op v w over st g m h i (subst (λ u. test_of op u w ≡ true) (sym same) r)
operand_keeps ks y f s (converted t e') op v z w over st g m h e i r = (g, m)
operand_keeps ks y f s (unary q p t e') op v z w over st g m h e i r = (g, m)
operand_keeps ks y f s (binary q p t a b) op v z w over st g m h e i r = (g, m)

if_some_keeps : (y : Layout) (s : Stored) (o : Option Known) (f : Option Facts) (z : ℤ) → IsOneOf o z → Member y f s → Member y (if_some o f) s
if_some_keeps y s None f z h m = absurd h
if_some_keeps y s (Some k) f z h m = m

refined_keep : (ks : Kinds) (y : Layout) (f : Option Facts) (s : Stored) (c : Condition) (o p : Option Known) (h : HoldsIn s c) → IsOver ks y → HasScalars ks s → HasSize y f → Member y f s → IsTyped ks c.left → IsTyped ks c.right → IsOneOf o h.x → IsOneOf p h.y
    → Member y (refined_in f c o p) s
refined_keep ks y f s c None p h over st g m l r i j = absurd i
refined_keep ks y f s c (Some k) None h over st g m l r i j = absurd j
refined_keep ks y f s c (Some k) (Some v) h over st g m l r i j =
    let left = operand_keeps ks y f s c.left c.op v h.x h.y over st g m l h.left_is j h.holds in
    let both = operand_keeps ks y (with_operand f c.left c.op v) s c.right (flipped c.op) k h.y h.x over st left.0 left.1 r h.right_is i (turned c.op h.x h.y h.holds) in
    if_some_keeps y s (refined c.op k v) (with_operand (with_operand f c.left c.op v) c.right (flipped c.op) k) h.x (guards_keep.left c.op k v h.x h.y i j h.holds) both.1

-- ---- conditions

pub zero_typed : (ks : Kinds) → IsTyped ks (constant Int (pos 0))
zero_typed ks = record { from = omega (arith, ints); to = omega (arith, ints) }

abbrev pub AreTyped : Kinds → Condition → Type 0
AreTyped ks c = IsTyped ks c.left × IsTyped ks c.right

pub condition_typed : (ks : Kinds) (e : TreeOf ℕ) (b : Bool) → IsTyped ks e → AreTyped ks (condition_of e b)
condition_typed ks (constant t n) b h = (h, zero_typed ks)
condition_typed ks (variable x) b h = (h, zero_typed ks)
condition_typed ks (converted t e) b h = (h, zero_typed ks)
condition_typed ks (unary op p t e) b h = by (is_not op) (condition_typed ks e (not b) h.1)
  where
    by : (n : Bool) → AreTyped ks (condition_of e (not b)) → AreTyped ks (if n then condition_of e (not b) else is_zero (unary op p t e) b)
    by true i = i
    by false i = (h, zero_typed ks)
condition_typed ks (binary op p t d e) b h = by (is_comparison op)
  where
    by : (n : Bool) → AreTyped ks (let c : Condition = record { op = if b then op else negated op; left = d; right = e } in if n then c else is_zero (binary op p t d e) b)
    by true = (h.0, h.1)
    by false = (h, zero_typed ks)

holds_keep : (ks : Kinds) (y : Layout) (f : Option Facts) (s : Stored) (c : Condition) → IsOver ks y → HasScalars ks s → AreFactsIf y f → Member y f s → AreTyped ks c → HoldsIn s c
    → Member y (refined_in (compared_in c.op y f (linear y.packs (known_in f) c.left) (linear y.packs (known_in f) c.right) (variables_of c.left ++ variables_of c.right)) c (tree_known (known_in f) c.left) (tree_known (known_in f) c.right)) s
holds_keep ks y f s c over st a m h i =
    let left = trees_sound.typed ks y c.left over h.0 in
    let right = trees_sound.typed ks y c.right over h.1 in
    let forms : AreForms y s (linear y.packs (known_in f) c.left) (linear y.packs (known_in f) c.right) i.x i.y = record {
      left = tree_tells y f s c.left i.x a m left i.left_is;
      right = tree_tells y f s c.right i.y a m right i.right_is;
      there = differences_guards y.packs (known_in f) c.left c.right;
      back = differences_guards y.packs (known_in f) c.right c.left;
    } in
    let read = variables_of c.left ++ variables_of c.right in
    let first = compared_keep c.op y f s (linear y.packs (known_in f) c.left) (linear y.packs (known_in f) c.right) i.x i.y read a m forms i.holds in
    let g = compared_in c.op y f (linear y.packs (known_in f) c.left) (linear y.packs (known_in f) c.right) read in
    refined_keep ks y g s c (tree_known (known_in f) c.left) (tree_known (known_in f) c.right) i over st (size_of y g first.0) first.1 h.0 h.1
    (trees_sound.values y f s c.left i.x a m left i.left_is) (trees_sound.values y f s c.right i.y a m right i.right_is)

pub guards_pass : GuardsPass
guards_pass = λ ks y f s e b z over st a m h v t.
    let scalars : HasScalars ks (spread s) = scalar_counts ks y s over (counts_of ks s st) in
    holds_keep ks y f (spread s) (condition_of e b) over scalars a m (condition_typed ks e b h) (guards_keep.condition e b (spread s) z (tree_spread ks s e (counts_of ks s st) h ∙ v) t)
