-- What the operators of typed trees count, where each counts the number that its place is given.
use Rattle.std.specs.Prelude.{ℕ, ◌+◌, List, [], ◌∷◌, Option, Some, None}
use Rattle.pk_ctypes.specs.declared.places.Pos.{Pos}
use Rattle.pk_typed.specs.Trees.{PlaceTree, ValueTree, EffectTree, ValueTrees, DeclaredTree, ForStartTree, StatementTree, ItemTrees}
use Rattle.pk_typed.specs.Trees as tree

-- the number of each place
abbrev pub Counting : Type 0
Counting = Pos → ℕ

-- an element is one, at its `[`, and an assertion, at its name; `=`, a conversion and a call are none
unfoldable mutual
  pub in_place : Counting → PlaceTree → ℕ
  in_place q (tree.scalar t x) = 0
  in_place q (tree.element t x at i) = in_value q i + q at

  pub in_value : Counting → ValueTree → ℕ
  in_value q (tree.constant t z) = 0
  in_value q (tree.read p) = in_place q p
  in_value q (tree.assign at p e) = in_place q p + in_value q e
  in_value q (tree.update op at t p e) = q at + (in_place q p + in_value q e)
  in_value q (tree.step op at t p prefix) = q at + in_place q p
  in_value q (tree.call t f n at es) = in_values q es
  in_value q (tree.any t at) = 0
  in_value q (tree.unary op at t e) = q at + in_value q e
  in_value q (tree.convert t e) = in_value q e
  in_value q (tree.binary op at t a b) = q at + in_value q a + in_value q b
  in_value q (tree.and a b) = in_value q a + in_value q b
  in_value q (tree.or a b) = in_value q a + in_value q b
  in_value q (tree.conditional t c a b) = in_value q c + in_value q a + in_value q b
  in_value q (tree.then_value e v) = in_effect q e + in_value q v

  pub in_effect : Counting → EffectTree → ℕ
  in_effect q (tree.unused v) = in_value q v
  in_effect q (tree.run f n at es) = in_values q es
  in_effect q (tree.assume at v) = in_value q v
  in_effect q (tree.assert at v) = q at + in_value q v
  in_effect q (tree.abort at) = 0
  in_effect q (tree.then_effect a b) = in_effect q a + in_effect q b

  pub in_values : Counting → ValueTrees → ℕ
  in_values q tree.no_values = 0
  in_values q (tree.value_before e es) = in_value q e + in_values q es

abbrev pub if_some : {A : Type 0} → (A → ℕ) → Option A → ℕ
if_some f None = 0
if_some f (Some x) = f x

abbrev pub in_declared : Counting → DeclaredTree → ℕ
in_declared q (tree.scalar_object i at e) = if_some (in_value q) e
in_declared q (tree.array_object i at es) = if_some (in_values q) es
in_declared q (tree.static_object n at) = 0
in_declared q (tree.hiding_constant x at) = 0

abbrev pub in_all_declared : Counting → List DeclaredTree → ℕ
in_all_declared q [] = 0
in_all_declared q (x ∷ xs) = in_declared q x + in_all_declared q xs

abbrev pub in_start : Counting → ForStartTree → ℕ
in_start q (tree.declarations xs) = in_all_declared q xs
in_start q (tree.expression e) = if_some (in_effect q) e

unfoldable mutual
  pub in_statement : Counting → StatementTree → ℕ
  in_statement q (tree.block p is) = in_items q is
  in_statement q (tree.empty p) = 0
  in_statement q (tree.effect p e) = in_effect q e
  in_statement q (tree.label p l s) = in_statement q s
  in_statement q (tree.case p i s) = in_statement q s
  in_statement q (tree.default p s) = in_statement q s
  in_statement q (tree.if_then p e s) = in_value q e + in_statement q s
  in_statement q (tree.if_else p e s r) = in_value q e + in_statement q s + in_statement q r
  in_statement q (tree.switch p t e zs has_default s) = in_value q e + in_statement q s
  in_statement q (tree.while p e s) = in_value q e + in_statement q s
  in_statement q (tree.do_while p s e) = in_statement q s + in_value q e
  in_statement q (tree.for_loop p start e third s) =
      in_start q start + if_some (in_value q) e + if_some (in_effect q) third + in_statement q s
  in_statement q (tree.goto p l) = 0
  in_statement q (tree.continue p) = 0
  in_statement q (tree.break p) = 0
  in_statement q (tree.return p e) = if_some (in_value q) e

  pub in_items : Counting → ItemTrees → ℕ
  in_items q tree.no_items = 0
  in_items q (tree.declared_before x is) = in_declared q x + in_items q is
  in_items q (tree.statement_before s is) = in_statement q s + in_items q is
