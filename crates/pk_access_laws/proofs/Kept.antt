-- What is kept and what is folded count what all operators count.
use Rattle.std.specs.Prelude.{◌≡◌, ℕ, ◌+◌, List, [], ◌∷◌, Option, Some, None}
use Rattle.std.proofs.Common.{arith, refl}
use Rattle.pk_typed.specs.Trees.{PlaceTree, ValueTree, EffectTree, ValueTrees, DeclaredTree, ForStartTree, StatementTree, ItemTrees}
use Rattle.pk_typed.specs.Trees as tree
use Rattle.pk_typed.specs.Types.{type_of}
use Rattle.pk_lower_row.specs.declared.shapes.Shape.{Shape}
use Rattle.pk_lower_row.specs.declared.shapes.Shape.TheVariants.{Fixed, Temporary, Named, Other}
use Rattle.pk_lower_row.specs.Shapes.{converted_shape, unary_shape, operated_shape, shape_of}
use Rattle.pk_access_laws.specs.Operators.{Counting, in_place, in_value, in_effect, in_values, if_some, in_declared, in_all_declared, in_start, in_statement, in_items}
use Rattle.pk_access_laws.specs.Kept.{unless_fixed, counts_in_place, counts_in_value, counts_in_effect, counts_in_values, counts_in_statement, counts_in_items, kept_in_place, kept_in_value, kept_in_effect, kept_in_values, kept_in_declared, kept_in_all_declared, kept_in_start, kept_in_statement, kept_in_items, folded_in_place, folded_in_value, folded_in_effect, folded_in_values, folded_in_declared, folded_in_all_declared, folded_in_start, folded_in_statement, folded_in_items}

by_shape : (s : Shape) (m : ℕ) → unless_fixed s m 0 + unless_fixed s 0 m ≡ m
by_shape (Fixed z) m = omega arith
by_shape Temporary m = omega arith
by_shape Named m = omega arith
by_shape Other m = omega arith

mutual
  unfolding in_place in_value in_effect in_values counts_in_place counts_in_value counts_in_effect counts_in_values

  split_place : (q : Counting) (p : PlaceTree) → kept_in_place q p + folded_in_place q p ≡ in_place q p
  split_place q (tree.scalar t x) = refl
  split_place q (tree.element t x at i) = omega (arith, split_value q i)

  split_value : (q : Counting) (e : ValueTree) → kept_in_value q e + folded_in_value q e ≡ in_value q e
  split_value q (tree.constant t z) = refl
  split_value q (tree.read p) = split_place q p
  split_value q (tree.assign at p e) = omega (arith, split_place q p, split_value q e)
  split_value q (tree.update op at t p e) = omega (arith, split_place q p, split_value q e)
  split_value q (tree.step op at t p prefix) = omega (arith, split_place q p)
  split_value q (tree.call t f n at es) = split_values q es
  split_value q (tree.any t at) = refl
  split_value q (tree.unary op at t e) = omega (arith, by_shape (unary_shape op t (converted_shape (type_of e) t (shape_of e))) (q at), split_value q e)
  split_value q (tree.convert t e) = split_value q e
  split_value q (tree.binary op at t a b) =
      omega (arith, by_shape (operated_shape op t (type_of a) (type_of b) (shape_of a) (shape_of b)) (q at), split_value q a, split_value q b)
  split_value q (tree.and a b) = omega (arith, split_value q a, split_value q b)
  split_value q (tree.or a b) = omega (arith, split_value q a, split_value q b)
  split_value q (tree.conditional t c a b) = omega (arith, split_value q c, split_value q a, split_value q b)
  split_value q (tree.then_value e v) = omega (arith, split_effect q e, split_value q v)

  split_effect : (q : Counting) (e : EffectTree) → kept_in_effect q e + folded_in_effect q e ≡ in_effect q e
  split_effect q (tree.unused v) = split_value q v
  split_effect q (tree.run f n at es) = split_values q es
  split_effect q (tree.assume at v) = split_value q v
  split_effect q (tree.assert at v) = omega (arith, split_value q v)
  split_effect q (tree.abort at) = refl
  split_effect q (tree.then_effect a b) = omega (arith, split_effect q a, split_effect q b)

  split_values : (q : Counting) (es : ValueTrees) → kept_in_values q es + folded_in_values q es ≡ in_values q es
  split_values q tree.no_values = refl
  split_values q (tree.value_before e es) = omega (arith, split_value q e, split_values q es)

split_if : {A : Type 0} (f g h : A → ℕ) → ((x : A) → f x + g x ≡ h x) → (o : Option A) → if_some f o + if_some g o ≡ if_some h o
split_if f g h e None = refl
split_if f g h e (Some x) = e x

split_declared : (q : Counting) (x : DeclaredTree) → kept_in_declared q x + folded_in_declared q x ≡ in_declared q x
split_declared q (tree.scalar_object i at e) = split_if (kept_in_value q) (folded_in_value q) (in_value q) (split_value q) e
split_declared q (tree.array_object i at es) = split_if (kept_in_values q) (folded_in_values q) (in_values q) (split_values q) es
split_declared q (tree.static_object n at) = refl
split_declared q (tree.hiding_constant x at) = refl

split_all_declared : (q : Counting) (xs : List DeclaredTree) → kept_in_all_declared q xs + folded_in_all_declared q xs ≡ in_all_declared q xs
split_all_declared q [] = refl
split_all_declared q (x ∷ xs) = omega (arith, split_declared q x, split_all_declared q xs)

split_start : (q : Counting) (s : ForStartTree) → kept_in_start q s + folded_in_start q s ≡ in_start q s
split_start q (tree.declarations xs) = split_all_declared q xs
split_start q (tree.expression e) = split_if (kept_in_effect q) (folded_in_effect q) (in_effect q) (split_effect q) e

mutual
  unfolding in_statement in_items counts_in_statement counts_in_items

  split_statement : (q : Counting) (s : StatementTree) → kept_in_statement q s + folded_in_statement q s ≡ in_statement q s
  split_statement q (tree.block p is) = split_items q is
  split_statement q (tree.empty p) = refl
  split_statement q (tree.effect p e) = split_effect q e
  split_statement q (tree.label p l s) = split_statement q s
  split_statement q (tree.case p i s) = split_statement q s
  split_statement q (tree.default p s) = split_statement q s
  split_statement q (tree.if_then p e s) = omega (arith, split_value q e, split_statement q s)
  split_statement q (tree.if_else p e s r) = omega (arith, split_value q e, split_statement q s, split_statement q r)
  split_statement q (tree.switch p t e zs has_default s) = omega (arith, split_value q e, split_statement q s)
  split_statement q (tree.while p e s) = omega (arith, split_value q e, split_statement q s)
  split_statement q (tree.do_while p s e) = omega (arith, split_value q e, split_statement q s)
  split_statement q (tree.for_loop p start e third s) =
      omega (arith, split_start q start, split_if (kept_in_value q) (folded_in_value q) (in_value q) (split_value q) e, split_if (kept_in_effect q) (folded_in_effect q) (in_effect q) (split_effect q) third, split_statement q s)
  split_statement q (tree.goto p l) = refl
  split_statement q (tree.continue p) = refl
  split_statement q (tree.break p) = refl
  split_statement q (tree.return p e) = split_if (kept_in_value q) (folded_in_value q) (in_value q) (split_value q) e

  pub split_items : (q : Counting) (is : ItemTrees) → kept_in_items q is + folded_in_items q is ≡ in_items q is
  split_items q tree.no_items = refl
  split_items q (tree.declared_before x is) = omega (arith, split_declared q x, split_items q is)
  split_items q (tree.statement_before s is) = omega (arith, split_statement q s, split_items q is)
