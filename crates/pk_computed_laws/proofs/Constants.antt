-- An expression whose shape is a number is a constant.
use Rattle.std.proofs.Common.{◌≡◌, Bool, true, false, refl, ℤ}
use Rattle.pk_ctypes.specs.declared.types.IntType.{IntType}
use Rattle.pk_ctypes.specs.declared.types.Op.{Op}
use Rattle.pk_ctypes.specs.Types.{represents}
use Rattle.pk_typed.specs.Trees.{PlaceTree, ValueTree}
use Rattle.pk_typed.specs.Trees as tree
use Rattle.pk_typed.specs.Types.{type_of}
use Rattle.pk_draft.specs.Folding.{right_type}
use Rattle.pk_lower_row.specs.declared.shapes.Shape.{Shape}
use Rattle.pk_lower_row.specs.declared.shapes.Shape.TheVariants.{Fixed, Temporary, Named, Other}
use Rattle.pk_lower_row.specs.Shapes.{kept_shape_if, converted_shape, unary_shape, binary_shape, shape_of_place, shape_of}
use Rattle.pk_computed_laws.specs.Computed.{IsConstant}

place_not : (q : PlaceTree) (z : ℤ) → shape_of_place q ≡ Fixed z → ⊥
place_not (tree.scalar t x) z h = absurd (cc h)
place_not (tree.element t x at i) z h = absurd (cc h)

kept_not : (b : Bool) (s : Shape) (z : ℤ) → (s ≡ Fixed z → ⊥) → kept_shape_if b s ≡ Fixed z → ⊥
kept_not true s z h k = h k
kept_not false s z h k = absurd (cc k)

converted_back : (u t : IntType) (s : Shape) (z : ℤ) → converted_shape u t s ≡ Fixed z → (y : ℤ) × (s ≡ Fixed y)
converted_back u t (Fixed y) z h = (y, refl)
converted_back u t Temporary z h = absurd (kept_not (represents t u) Temporary z (λ k. absurd (cc k)) h)
converted_back u t Named z h = absurd (kept_not (represents t u) Named z (λ k. absurd (cc k)) h)
converted_back u t Other z h = absurd (kept_not (represents t u) Other z (λ k. absurd (cc k)) h)

unary_back : (op : Op) (t : IntType) (s : Shape) (z : ℤ) → unary_shape op t s ≡ Fixed z → (y : ℤ) × (s ≡ Fixed y)
unary_back op t (Fixed y) z h = (y, refl)
unary_back op t Temporary z h = absurd (cc h)
unary_back op t Named z h = absurd (cc h)
unary_back op t Other z h = absurd (cc h)

second_back : (op : Op) (t : IntType) (x : ℤ) (s : Shape) (z : ℤ) → binary_shape op t (Fixed x) s ≡ Fixed z → (y : ℤ) × (s ≡ Fixed y)
second_back op t x (Fixed y) z h = (y, refl)
second_back op t x Temporary z h = absurd (cc h)
second_back op t x Named z h = absurd (cc h)
second_back op t x Other z h = absurd (cc h)

binary_back : (op : Op) (t : IntType) (r s : Shape) (z : ℤ) → binary_shape op t r s ≡ Fixed z → ((x : ℤ) × (r ≡ Fixed x)) × ((y : ℤ) × (s ≡ Fixed y))
binary_back op t (Fixed x) s z h = ((x, refl), second_back op t x s z h)
binary_back op t Temporary s z h = absurd (cc h)
binary_back op t Named s z h = absurd (cc h)
binary_back op t Other s z h = absurd (cc h)

pub is_constant : (e : ValueTree) (z : ℤ) → shape_of e ≡ Fixed z → IsConstant e
is_constant (tree.constant t y) z h = tt
is_constant (tree.read q) z h = place_not q z h
is_constant (tree.assign at q e) z h = place_not q z h
is_constant (tree.update op at o q e) z h = place_not q z h
is_constant (tree.step op at o q true) z h = place_not q z h
is_constant (tree.step op at o q false) z h = absurd (cc h)
is_constant (tree.call t f n at es) z h = absurd (cc h)
is_constant (tree.any t at) z h = absurd (cc h)
is_constant (tree.unary op at t e) z h =
    let a = unary_back op t (converted_shape (type_of e) t (shape_of e)) z h in
    let b = converted_back (type_of e) t (shape_of e) a.0 a.1 in is_constant e b.0 b.1
is_constant (tree.convert t e) z h = let b = converted_back (type_of e) t (shape_of e) z h in is_constant e b.0 b.1
is_constant (tree.binary op at t a b) z h =
    let both = binary_back op t (converted_shape (type_of a) t (shape_of a)) (converted_shape (type_of b) (right_type op (type_of b) t) (shape_of b)) z h in
    let c = converted_back (type_of a) t (shape_of a) both.0.0 both.0.1 in
    let d = converted_back (type_of b) (right_type op (type_of b) t) (shape_of b) both.1.0 both.1.1 in
    (is_constant a c.0 c.1, is_constant b d.0 d.1)
is_constant (tree.and a b) z h = absurd (cc h)
is_constant (tree.or a b) z h = absurd (cc h)
is_constant (tree.conditional t e a b) z h = absurd (cc h)
is_constant (tree.then_value e v) z h = is_constant v z h
