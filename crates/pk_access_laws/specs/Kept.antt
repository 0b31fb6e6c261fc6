-- What the operators of typed trees count, by their places, where those that the lowering folds count by a counting of their own.
use Rattle.std.specs.Prelude.{ℕ, ◌+◌, List, [], ◌∷◌}
use Rattle.pk_typed.specs.Trees.{PlaceTree, ValueTree, EffectTree, ValueTrees, DeclaredTree, ForStartTree, StatementTree, ItemTrees}
use Rattle.pk_typed.specs.Trees as tree
use Rattle.pk_typed.specs.Types.{type_of}
use Rattle.pk_lower_row.specs.declared.shapes.Shape.{Shape}
use Rattle.pk_lower_row.specs.declared.shapes.Shape.TheVariants.{Fixed, Temporary, Named, Other}
use Rattle.pk_lower_row.specs.Shapes.{converted_shape, unary_shape, operated_shape, shape_of}
use Rattle.pk_access_laws.specs.Operators.{Counting, if_some}

abbrev pub nothing : Counting
nothing at = 0

-- the second of what is folded, whose shape is a number
abbrev pub unless_fixed : Shape → ℕ → ℕ → ℕ
unless_fixed (Fixed z) m n = n
unless_fixed Temporary m n = m
unless_fixed Named m n = m
unless_fixed Other m n = m

-- kept operators, elements and assertions count by the first, folded operators by the second
unfoldable mutual
  pub counts_in_place : Counting → Counting → PlaceTree → ℕ
  counts_in_place q r (tree.scalar t x) = 0
  counts_in_place q r (tree.element t x at i) = counts_in_value q r i + q at

  pub counts_in_value : Counting → Counting → ValueTree → ℕ
  counts_in_value q r (tree.constant t z) = 0
  counts_in_value q r (tree.read p) = counts_in_place q r p
  counts_in_value q r (tree.assign at p e) = counts_in_place q r p + counts_in_value q r e
  counts_in_value q r (tree.update op at t p e) = q at + (counts_in_place q r p + counts_in_value q r e)
  counts_in_value q r (tree.step op at t p prefix) = q at + counts_in_place q r p
  counts_in_value q r (tree.call t f n at es) = counts_in_values q r es
  counts_in_value q r (tree.any t at) = 0
  counts_in_value q r (tree.unary op at t e) =
      unless_fixed (unary_shape op t (converted_shape (type_of e) t (shape_of e))) (q at) (r at) + counts_in_value q r e
  counts_in_value q r (tree.convert t e) = counts_in_value q r e
  counts_in_value q r (tree.binary op at t a b) =
      unless_fixed (operated_shape op t (type_of a) (type_of b) (shape_of a) (shape_of b)) (q at) (r at)
      + counts_in_value q r a + counts_in_value q r b
  counts_in_value q r (tree.and a b) = counts_in_value q r a + counts_in_value q r b
  counts_in_value q r (tree.or a b) = counts_in_value q r a + counts_in_value q r b
  counts_in_value q r (tree.conditional t c a b) = counts_in_value q r c + counts_in_value q r a + counts_in_value q r b
  counts_in_value q r (tree.then_value e v) = counts_in_effect q r e + counts_in_value q r v

  pub counts_in_effect : Counting → Counting → EffectTree → ℕ
  counts_in_effect q r (tree.unused v) = counts_in_value q r v
  counts_in_effect q r (tree.run f n at es) = counts_in_values q r es
  counts_in_effect q r (tree.assume at v) = counts_in_value q r v
  counts_in_effect q r (tree.assert at v) = q at + counts_in_value q r v
  counts_in_effect q r (tree.abort at) = 0
  counts_in_effect q r (tree.then_effect a b) = counts_in_effect q r a + counts_in_effect q r b

  pub counts_in_values : Counting → Counting → ValueTrees → ℕ
  counts_in_values q r tree.no_values = 0
  counts_in_values q r (tree.value_before e es) = counts_in_value q r e + counts_in_values q r es

abbrev pub counts_in_declared : Counting → Counting → DeclaredTree → ℕ
counts_in_declared q r (tree.scalar_object i at e) = if_some (counts_in_value q r) e
counts_in_declared q r (tree.array_object i at es) = if_some (counts_in_values q r) es
counts_in_declared q r (tree.static_object n at) = 0
counts_in_declared q r (tree.hiding_constant x at) = 0

abbrev pub counts_in_all_declared : Counting → Counting → List DeclaredTree → ℕ
counts_in_all_declared q r [] = 0
counts_in_all_declared q r (x ∷ xs) = counts_in_declared q r x + counts_in_all_declared q r xs

abbrev pub counts_in_start : Counting → Counting → ForStartTree → ℕ
counts_in_start q r (tree.declarations xs) = counts_in_all_declared q r xs
counts_in_start q r (tree.expression e) = if_some (counts_in_effect q r) e

unfoldable mutual
  pub counts_in_statement : Counting → Counting → StatementTree → ℕ
  counts_in_statement q r (tree.block p is) = counts_in_items q r is
  counts_in_statement q r (tree.empty p) = 0
  counts_in_statement q r (tree.effect p e) = counts_in_effect q r e
  counts_in_statement q r (tree.label p l s) = counts_in_statement q r s
  counts_in_statement q r (tree.case p i s) = counts_in_statement q r s
  counts_in_statement q r (tree.default p s) = counts_in_statement q r s
  counts_in_statement q r (tree.if_then p e s) = counts_in_value q r e + counts_in_statement q r s
  counts_in_statement q r (tree.if_else p e s f) =
      counts_in_value q r e + counts_in_statement q r s + counts_in_statement q r f
  counts_in_statement q r (tree.switch p t e zs has_default s) = counts_in_value q r e + counts_in_statement q r s
  counts_in_statement q r (tree.while p e s) = counts_in_value q r e + counts_in_statement q r s
  counts_in_statement q r (tree.do_while p s e) = counts_in_statement q r s + counts_in_value q r e
  counts_in_statement q r (tree.for_loop p start e third s) =
      counts_in_start q r start + if_some (counts_in_value q r) e + if_some (counts_in_effect q r) third
      + counts_in_statement q r s
  counts_in_statement q r (tree.goto p l) = 0
  counts_in_statement q r (tree.continue p) = 0
  counts_in_statement q r (tree.break p) = 0
  counts_in_statement q r (tree.return p e) = if_some (counts_in_value q r) e

  pub counts_in_items : Counting → Counting → ItemTrees → ℕ
  counts_in_items q r tree.no_items = 0
  counts_in_items q r (tree.declared_before x is) = counts_in_declared q r x + counts_in_items q r is
  counts_in_items q r (tree.statement_before s is) = counts_in_statement q r s + counts_in_items q r is

-- ---- those that are kept alone, and those that are folded

abbrev pub kept_in_place : Counting → PlaceTree → ℕ
kept_in_place q e = counts_in_place q nothing e

abbrev pub kept_in_value : Counting → ValueTree → ℕ
kept_in_value q e = counts_in_value q nothing e

abbrev pub kept_in_effect : Counting → EffectTree → ℕ
kept_in_effect q e = counts_in_effect q nothing e

abbrev pub kept_in_values : Counting → ValueTrees → ℕ
kept_in_values q e = counts_in_values q nothing e

abbrev pub kept_in_declared : Counting → DeclaredTree → ℕ
kept_in_declared q e = counts_in_declared q nothing e

abbrev pub kept_in_all_declared : Counting → List DeclaredTree → ℕ
kept_in_all_declared q e = counts_in_all_declared q nothing e

abbrev pub kept_in_start : Counting → ForStartTree → ℕ
kept_in_start q e = counts_in_start q nothing e

abbrev pub kept_in_statement : Counting → StatementTree → ℕ
kept_in_statement q e = counts_in_statement q nothing e

abbrev pub kept_in_items : Counting → ItemTrees → ℕ
kept_in_items q e = counts_in_items q nothing e

abbrev pub folded_in_place : Counting → PlaceTree → ℕ
folded_in_place q e = counts_in_place nothing q e

abbrev pub folded_in_value : Counting → ValueTree → ℕ
folded_in_value q e = counts_in_value nothing q e

abbrev pub folded_in_effect : Counting → EffectTree → ℕ
folded_in_effect q e = counts_in_effect nothing q e

abbrev pub folded_in_values : Counting → ValueTrees → ℕ
folded_in_values q e = counts_in_values nothing q e

abbrev pub folded_in_declared : Counting → DeclaredTree → ℕ
folded_in_declared q e = counts_in_declared nothing q e

abbrev pub folded_in_all_declared : Counting → List DeclaredTree → ℕ
folded_in_all_declared q e = counts_in_all_declared nothing q e

abbrev pub folded_in_start : Counting → ForStartTree → ℕ
folded_in_start q e = counts_in_start nothing q e

abbrev pub folded_in_statement : Counting → StatementTree → ℕ
folded_in_statement q e = counts_in_statement nothing q e

abbrev pub folded_in_items : Counting → ItemTrees → ℕ
folded_in_items q e = counts_in_items nothing q e
