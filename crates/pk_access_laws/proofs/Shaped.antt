-- What the trees of a draft count, by their shapes: one of a plain shape counts nothing.
use Rattle.std.specs.Prelude.{ℕ, ◌+◌, ◌≤◌, Bool, true, false, Option, Some, None, option_map, Result, Ok, Err, ℤ}
use Rattle.std.specs.Option.{option_and_then}
use Rattle.std.proofs.Common.{◌≡◌, refl, ap, sym, subst, arith}
use Rattle.pk_ctypes.specs.declared.faults.Fault.{Fault}
use Rattle.pk_ctypes.specs.declared.types.IntType.{IntType}
use Rattle.pk_ctypes.specs.declared.types.Op.{Op}
use Rattle.pk_ctypes.specs.Operators.{value_of, result_type}
use Rattle.pk_ctypes.specs.Types.{represents, wrapped}
use Rattle.pk_graph.specs.declared.trees.Site.{Site}
use Rattle.pk_graph.specs.Trees.{TreeOf, constant, variable, converted, unary, binary}
use Rattle.pk_draft.specs.Folding.{number_in, folded, kept_if, conversion, right_type, unary_tree, binary_tree, operated_tree, updated_tree}
use Rattle.pk_lower_row.specs.declared.shapes.Shape.{Shape}
use Rattle.pk_lower_row.specs.declared.shapes.Shape.TheVariants.{Fixed, Temporary, Named, Other}
use Rattle.pk_lower_row.specs.Shapes.{folded_shape, kept_shape_if, converted_shape, unary_shape, binary_shape, operated_shape}
use Rattle.pk_access_laws.proofs.Spent.{Asked, in_tree, can_fault, count_if, less_if}
use Rattle.pk_access_laws.specs.Kept.{unless_fixed}

-- ---- what is made of trees counts no more

folded_less : {V : Type 0} (w : Asked) (t : IntType) (e : TreeOf V) (o : Option (Result ℤ Fault)) → in_tree w (folded t e o) ≤ in_tree w e
folded_less w t e None = omega arith
folded_less w t e (Some (Ok n)) = omega arith
folded_less w t e (Some (Err f)) = omega arith

kept_less : {V : Type 0} (w : Asked) (b : Bool) (t : IntType) (e : TreeOf V) → in_tree w (kept_if b t e) ≤ in_tree w e
kept_less w true t e = omega arith
kept_less w false t e = omega arith

pub conversion_less : {V : Type 0} (w : Asked) (u t : IntType) (e : TreeOf V) → in_tree w (conversion u t e) ≤ in_tree w e
conversion_less w u t e =
    omega (arith, folded_less w t (kept_if (represents t u) t e) (option_map (λ z. Ok (wrapped t z)) (number_in e)), kept_less w (represents t u) t e)

pub unary_less : {V : Type 0} (w : Asked) (op : Op) (s : Site) (t : IntType) (e : TreeOf V) → in_tree w (unary_tree op s t e) ≤ in_tree w e + count_if (can_fault op) (w.count s)
unary_less w op s t e = folded_less w (result_type op t) (unary op s t e) (option_map (λ z. value_of op t z z) (number_in e))

pub binary_less : {V : Type 0} (w : Asked) (op : Op) (s : Site) (t : IntType) (a b : TreeOf V) → in_tree w (binary_tree op s t a b) ≤ in_tree w a + in_tree w b + count_if (can_fault op) (w.count s)
binary_less w op s t a b =
    folded_less w (result_type op t) (binary op s t a b) (option_and_then (λ z. option_map (λ v. value_of op t z v) (number_in b)) (number_in a))

pub operated_less : {V : Type 0} (w : Asked) (op : Op) (s : Site) (t u v : IntType) (a b : TreeOf V) → in_tree w (operated_tree op s t u v a b) ≤ in_tree w a + in_tree w b + w.count s
operated_less w op s t u v a b =
    omega (arith, binary_less w op s t (conversion u t a) (conversion v (right_type op v t) b), conversion_less w u t a, conversion_less w v (right_type op v t) b, less_if (can_fault op) (w.count s))

pub updated_less : {V : Type 0} (w : Asked) (op : Op) (s : Site) (t u v : IntType) (a b : TreeOf V) → in_tree w (updated_tree op s t u v a b) ≤ in_tree w a + in_tree w b + w.count s
updated_less w op s t u v a b =
    omega (arith, conversion_less w (result_type op t) u (operated_tree op s t u v a b), operated_less w op s t u v a b)

-- ---- shapes

-- a tree of a fixed shape is that number; a temporary and a name count nothing
abbrev pub HasShape : {V : Type 0} → Asked → Shape → TreeOf V → Type 0
HasShape w (Fixed z) e = number_in e ≡ Some z
HasShape w Temporary e = in_tree w e ≡ 0
HasShape w Named e = in_tree w e ≡ 0
HasShape w Other e = Unit {0}

pub fixed_counts : {V : Type 0} (w : Asked) (z : ℤ) (e : TreeOf V) → number_in e ≡ Some z → in_tree w e ≡ 0
fixed_counts w z (constant t n) h = refl
fixed_counts w z (variable x) h = absurd (cc h)
fixed_counts w z (converted t e) h = absurd (cc h)
fixed_counts w z (unary op s t e) h = absurd (cc h)
fixed_counts w z (binary op s t a b) h = absurd (cc h)

-- what is folded counts nothing itself
pub at_most_kept : {V : Type 0} (w : Asked) (s : Shape) (e : TreeOf V) (x m n : ℕ) → HasShape w s e → x ≤ m → in_tree w e + x ≤ n + m → in_tree w e + x ≤ unless_fixed s n 0 + m
at_most_kept w (Fixed z) e x m n h k l = omega (arith, fixed_counts w z e h, k)
at_most_kept w Temporary e x m n h k l = l
at_most_kept w Named e x m n h k l = l
at_most_kept w Other e x m n h k l = l

nothing_in : {V : Type 0} (w : Asked) (u t : IntType) (e : TreeOf V) → in_tree w e ≡ 0 → in_tree w (conversion u t e) ≡ 0
nothing_in w u t e h = omega (arith, conversion_less w u t e, h)

pub conversion_shaped : {V : Type 0} (w : Asked) (u t : IntType) (s : Shape) (e : TreeOf V) → HasShape w s e → HasShape w (converted_shape u t s) (conversion u t e)
conversion_shaped w u t (Fixed z) e h =
    ap (λ (o : Option ℤ). number_in (folded t (kept_if (represents t u) t e) (option_map (λ y. Ok (wrapped t y)) o))) h
conversion_shaped {V = V} w u t Temporary e h = by (represents t u)
  where
    by : (b : Bool) → HasShape w (kept_shape_if b Temporary) (conversion u t e)
    by true = nothing_in w u t e h
    by false = tt
conversion_shaped {V = V} w u t Named e h = by (represents t u)
  where
    by : (b : Bool) → HasShape w (kept_shape_if b Named) (conversion u t e)
    by true = nothing_in w u t e h
    by false = tt
conversion_shaped {V = V} w u t Other e h = by (represents t u)
  where
    by : (b : Bool) → HasShape w (kept_shape_if b Other) (conversion u t e)
    by true = tt
    by false = tt

folded_shaped : {V : Type 0} (w : Asked) (t : IntType) (e : TreeOf V) (o : Option (Result ℤ Fault)) → HasShape w (folded_shape Other o) (folded t e o)
folded_shaped w t e None = tt
folded_shaped w t e (Some (Ok n)) = refl
folded_shaped w t e (Some (Err f)) = tt

pub unary_shaped : {V : Type 0} (w : Asked) (op : Op) (at : Site) (t : IntType) (s : Shape) (e : TreeOf V) → HasShape w s e → HasShape w (unary_shape op t s) (unary_tree op at t e)
unary_shaped w op at t (Fixed z) e h =
    subst (λ (o : Option ℤ). HasShape w (unary_shape op t (Fixed z)) (folded (result_type op t) (unary op at t e) (option_map (λ y. value_of op t y y) o))) (sym h)
    (folded_shaped w (result_type op t) (unary op at t e) (Some (value_of op t z z)))
unary_shaped w op at t Temporary e h = tt
unary_shaped w op at t Named e h = tt
unary_shaped w op at t Other e h = tt

binary_shaped : {V : Type 0} (w : Asked) (op : Op) (at : Site) (t : IntType) (r s : Shape) (a b : TreeOf V) → HasShape w r a → HasShape w s b → HasShape w (binary_shape op t r s) (binary_tree op at t a b)
binary_shaped w op at t (Fixed y) (Fixed z) a b h k =
    subst (λ (o : Option ℤ). HasShape w (binary_shape op t (Fixed y) (Fixed z)) (folded (result_type op t) (binary op at t a b) (option_and_then (λ m. option_map (λ n. value_of op t m n) (number_in b)) o))) (sym h)
    (subst (λ (o : Option ℤ). HasShape w (binary_shape op t (Fixed y) (Fixed z)) (folded (result_type op t) (binary op at t a b) (option_map (λ n. value_of op t y n) o))) (sym k)
    (folded_shaped w (result_type op t) (binary op at t a b) (Some (value_of op t y z))))
binary_shaped w op at t (Fixed y) Temporary a b h k = tt
binary_shaped w op at t (Fixed y) Named a b h k = tt
binary_shaped w op at t (Fixed y) Other a b h k = tt
binary_shaped w op at t Temporary s a b h k = tt
binary_shaped w op at t Named s a b h k = tt
binary_shaped w op at t Other s a b h k = tt

pub operated_shaped : {V : Type 0} (w : Asked) (op : Op) (at : Site) (t u v : IntType) (r s : Shape) (a b : TreeOf V) → HasShape w r a → HasShape w s b → HasShape w (operated_shape op t u v r s) (operated_tree op at t u v a b)
operated_shaped w op at t u v r s a b h k =
    binary_shaped w op at t (converted_shape u t r) (converted_shape v (right_type op v t) s) (conversion u t a) (conversion v (right_type op v t) b)
    (conversion_shaped w u t r a h) (conversion_shaped w v (right_type op v t) s b k)
