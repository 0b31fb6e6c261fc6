-- A tree is a constant only where its expression's shape says so.
use Rattle.std.proofs.Common.{◌≡◌, ℕ, Bool, true, false, refl, sym, ap, ◌∙◌, ℤ, Option, Some, None}
use Rattle.std.specs.Prelude.{Result, Ok, Err, option_map}
use Rattle.std.specs.Option.{option_and_then}
use Rattle.pk_ctypes.specs.declared.faults.Fault.{Fault}
use Rattle.pk_ctypes.specs.declared.types.IntType.{IntType}
use Rattle.pk_ctypes.specs.declared.types.Op.{Op}
use Rattle.pk_ctypes.specs.Types.{represents, wrapped}
use Rattle.pk_ctypes.specs.Operators.{value_of, result_type}
use Rattle.pk_typed.specs.Trees.{ValueTree}
use Rattle.pk_typed.specs.Trees as tree
use Rattle.pk_typed.specs.Types.{type_of}
use Rattle.pk_graph.specs.declared.trees.Site.{Site}
use Rattle.pk_graph.specs.Trees.{constant, variable, converted, unary, binary}
use Rattle.pk_draft.specs.Drafts.{Given}
use Rattle.pk_draft.specs.Folding.{number_in, conversion, kept_if, folded, unary_tree, operated_tree, right_type}
use Rattle.pk_lower_row.specs.declared.shapes.Shape.{Shape}
use Rattle.pk_lower_row.specs.declared.shapes.Shape.TheVariants.{Fixed, Temporary, Named, Other}
use Rattle.pk_lower_row.specs.declared.shapes.Waiting.{Waiting}
use Rattle.pk_lower_row.specs.declared.shapes.Waiting.TheVariants.{Loose, Strong, Weak}
use Rattle.pk_lower_row.specs.Shapes.{number_in_shape, kept_shape_if, folded_shape, converted_shape, unary_shape, operated_shape, shape_of, is_plain, makes, strong_if}
use Rattle.pk_lower_row.specs.Contexts.{Context, site}
use Rattle.pk_lower_row.specs.Rows as rows
use Rattle.pk_lower_expression.specs.Expressions.{target, ways, performed}
use Rattle.pk_visits.proofs.Slots.{Slot, slots, SlotTree, Draft}
use Rattle.pk_visits.proofs.Grows.Rows.{held_grows}
use Rattle.pk_visits.proofs.Stands.{IsNumber}
use Rattle.pk_visits.proofs.Steps.Tells.{Tells, shapes, sane, sane_effect, Any}

-- the tree has the number of the shape, or neither has one
abbrev pub Alike : Shape → SlotTree → Type 0
Alike s e = number_in_shape s ≡ number_in e

plain_number : (n : ℕ) (s : Shape) (e : SlotTree) → is_plain s ≡ true → Tells n s e → Alike s e
plain_number n (Fixed z) e h k = sym (ap number_in k.1)
plain_number n Temporary e h k = sym (ap number_in k.2)
plain_number n Named e h k = sym (ap number_in k.1)
plain_number n Other e h k = absurd (cc h)

-- ---- conversions

kept_tree : (b : Bool) (t : IntType) (e : SlotTree) → number_in e ≡ None → number_in (kept_if b t e) ≡ None
kept_tree true t e h = h
kept_tree false t e h = refl

abbrev HasNone : Bool → Shape → Type 0
HasNone b s = number_in_shape (kept_shape_if b s) ≡ None

kept_none : (b : Bool) → HasNone b Temporary × HasNone b Named × HasNone b Other
kept_none true = (refl, refl, refl)
kept_none false = (refl, refl, refl)

tree_number : (u t : IntType) (e : SlotTree) → number_in (conversion u t e) ≡ option_map (wrapped t) (number_in e)
tree_number u t (constant r z) = refl
tree_number u t (variable x) = kept_tree (represents t u) t (variable x) refl
tree_number u t (converted r e) = kept_tree (represents t u) t (converted r e) refl
tree_number u t (unary op s r e) = kept_tree (represents t u) t (unary op s r e) refl
tree_number u t (binary op s r a b) = kept_tree (represents t u) t (binary op s r a b) refl

shape_number : (u t : IntType) (s : Shape) → number_in_shape (converted_shape u t s) ≡ option_map (wrapped t) (number_in_shape s)
shape_number u t (Fixed z) = refl
shape_number u t Temporary = (kept_none (represents t u)).0
shape_number u t Named = (kept_none (represents t u)).1
shape_number u t Other = (kept_none (represents t u)).2

converted_number : (u t : IntType) (s : Shape) (e : SlotTree) → Alike s e → Alike (converted_shape u t s) (conversion u t e)
converted_number u t s e h = shape_number u t s ∙ ap (option_map (wrapped t)) h ∙ sym (tree_number u t e)

-- ---- operators

folded_number : (t : IntType) (e : SlotTree) (o : Option (Result ℤ Fault)) → number_in e ≡ None → number_in_shape (folded_shape Other o) ≡ number_in (folded t e o)
folded_number t e None h = sym h
folded_number t e (Some (Ok z)) h = refl
folded_number t e (Some (Err f)) h = sym h

unary_number : (op : Op) (q : Site) (t : IntType) (s : Shape) (e : SlotTree) → Alike s e → Alike (unary_shape op t s) (unary_tree op q t e)
unary_number op q t s e h =
    ap (λ (o : Option ℤ). number_in_shape (folded_shape Other (option_map (λ z. value_of op t z z) o))) h
    ∙ folded_number (result_type op t) (unary op q t e) (option_map (λ z. value_of op t z z) (number_in e)) refl

abbrev both_of : Op → IntType → Option ℤ → Option ℤ → Option (Result ℤ Fault)
both_of op t y x = option_and_then (λ z. option_map (λ w. value_of op t z w) x) y

operated_number : (op : Op) (q : Site) (t u v : IntType) (r s : Shape) (a b : SlotTree) → Alike r a → Alike s b → Alike (operated_shape op t u v r s) (operated_tree op q t u v a b)
operated_number op q t u v r s a b h k =
    let c = conversion u t a in
    let d = conversion v (right_type op v t) b in
    let i = converted_number u t r a h in
    let j = converted_number v (right_type op v t) s b k in
    ap (λ (o : Option ℤ). number_in_shape (folded_shape Other (both_of op t o (number_in_shape (converted_shape v (right_type op v t) s))))) i
    ∙ ap (λ (o : Option ℤ). number_in_shape (folded_shape Other (both_of op t (number_in c) o))) j
    ∙ folded_number (result_type op t) (binary op q t c d) (both_of op t (number_in c) (number_in d)) refl

-- a tree that waits
pub held_number : (how : Waiting) (s : Shape) (t : IntType) (r : Given Slot) → Alike s r.0 → Alike s (rows.held how s t r).0
held_number Loose s t r h = h
held_number Strong (Fixed z) t r h = h
held_number Strong Temporary t r h = h
held_number Strong Named t r h = refl
held_number Strong Other t r h = refl
held_number Weak (Fixed z) t r h = h
held_number Weak Temporary t r h = h
held_number Weak Named t r h = h
held_number Weak Other t r h = refl

-- ---- expressions

pub numbers : (c : Context) (e : ValueTree) (d : Draft) → d.names ≡ slots → Alike (shape_of e) ((ways c e).value d).0
unfolding target ways
numbers c (tree.constant t z) d n = refl
numbers c (tree.read (tree.scalar t x)) d n = plain_number 0 Named _ refl (shapes c (tree.read (tree.scalar t x)) d n)
numbers c (tree.read (tree.element t x at i)) d n = plain_number _ Temporary _ refl (shapes c (tree.read (tree.element t x at i)) d n)
numbers c (tree.assign at (tree.scalar t x) e) d n = plain_number 0 Named _ refl (shapes c (tree.assign at (tree.scalar t x) e) d n)
numbers c (tree.assign at (tree.element t x q i) e) d n = plain_number _ Temporary _ refl (shapes c (tree.assign at (tree.element t x q i) e) d n)
numbers c (tree.update op at o (tree.scalar t x) e) d n = plain_number 0 Named _ refl (shapes c (tree.update op at o (tree.scalar t x) e) d n)
numbers c (tree.update op at o (tree.element t x q i) e) d n = plain_number _ Temporary _ refl (shapes c (tree.update op at o (tree.element t x q i) e) d n)
numbers c (tree.step op at o (tree.scalar t x) true) d n = plain_number 0 Named _ refl (shapes c (tree.step op at o (tree.scalar t x) true) d n)
numbers c (tree.step op at o (tree.scalar t x) false) d n = plain_number _ Temporary _ refl (shapes c (tree.step op at o (tree.scalar t x) false) d n)
numbers c (tree.step op at o (tree.element t x q i) true) d n = plain_number _ Temporary _ refl (shapes c (tree.step op at o (tree.element t x q i) true) d n)
numbers c (tree.step op at o (tree.element t x q i) false) d n = plain_number _ Temporary _ refl (shapes c (tree.step op at o (tree.element t x q i) false) d n)
numbers c (tree.call t f m at es) d n = plain_number 0 Named _ refl (shapes c (tree.call t f m at es) d n)
numbers c (tree.any t at) d n = plain_number _ Temporary _ refl (shapes c (tree.any t at) d n)
numbers c (tree.unary op at t e) d n =
    unary_number op (site c at) t (converted_shape (type_of e) t (shape_of e)) (conversion (type_of e) t ((ways c e).value d).0)
    (converted_number (type_of e) t (shape_of e) ((ways c e).value d).0 (numbers c e d n))
numbers c (tree.convert t e) d n = converted_number (type_of e) t (shape_of e) ((ways c e).value d).0 (numbers c e d n)
numbers c (tree.binary op at t a b) d n =
    let how = strong_if (makes b) in
    let r = (ways c a).value d in
    let v = rows.held how (shape_of a) (type_of a) r in
    operated_number op (site c at) t (type_of a) (type_of b) (shape_of a) (shape_of b) v.0 ((ways c b).value v.1).0 (held_number how (shape_of a) (type_of a) r (numbers c a d n))
    (numbers c b v.1 ((held_grows Any how (shape_of a) (type_of a) r).names ∙ (((sane c a).value d).names ∙ n)))
numbers c (tree.and a b) d n = plain_number _ Temporary _ refl (shapes c (tree.and a b) d n)
numbers c (tree.or a b) d n = plain_number _ Temporary _ refl (shapes c (tree.or a b) d n)
numbers c (tree.conditional t e a b) d n = plain_number _ Temporary _ refl (shapes c (tree.conditional t e a b) d n)
numbers c (tree.then_value f v) d n = numbers c v (performed c f d) ((sane_effect c f d).names ∙ n)

-- the shape of a constant
pub fixed_of : (s : Shape) (e : SlotTree) → Alike s e → IsNumber e → (z : ℤ) × (s ≡ Fixed z)
fixed_of (Fixed z) e h i = (z, refl)
fixed_of Temporary (constant t y) h i = absurd (cc h)
fixed_of Temporary (variable x) h i = absurd i
fixed_of Temporary (converted t e) h i = absurd i
fixed_of Temporary (unary op q t e) h i = absurd i
fixed_of Temporary (binary op q t a b) h i = absurd i
fixed_of Named (constant t y) h i = absurd (cc h)
fixed_of Named (variable x) h i = absurd i
fixed_of Named (converted t e) h i = absurd i
fixed_of Named (unary op q t e) h i = absurd i
fixed_of Named (binary op q t a b) h i = absurd i
fixed_of Other (constant t y) h i = absurd (cc h)
fixed_of Other (variable x) h i = absurd i
fixed_of Other (converted t e) h i = absurd i
fixed_of Other (unary op q t e) h i = absurd i
fixed_of Other (binary op q t a b) h i = absurd i
