-- What stands in typed trees, in the order of the text: how many objects are declared, and which calls are made, with their numbers.
use Rattle.std.specs.Prelude.{ℕ, ◌+◌, List, [], ◌∷◌, ◌++◌, Option, Some, None}
use Rattle.pk_ctypes.specs.declared.places.Pos.{Pos}
use Rattle.pk_typed.specs.declared.units.CallSite.{CallSite}
use Rattle.pk_typed.specs.Trees.{PlaceTree, ValueTree, EffectTree, ValueTrees, DeclaredTree, ForStartTree, StatementTree, ItemTrees}
use Rattle.pk_typed.specs.Trees as tree

-- ---- objects of the function: a static one is of the file

abbrev pub objects_in_declared : DeclaredTree → ℕ
objects_in_declared (tree.scalar_object i at e) = 1
objects_in_declared (tree.array_object i at es) = 1
objects_in_declared (tree.static_object n at) = 0
objects_in_declared (tree.hiding_constant x at) = 0

abbrev pub objects_in_all_declared : List DeclaredTree → ℕ
objects_in_all_declared [] = 0
objects_in_all_declared (d ∷ ds) = objects_in_declared d + objects_in_all_declared ds

abbrev pub objects_at_start : ForStartTree → ℕ
objects_at_start (tree.declarations ds) = objects_in_all_declared ds
objects_at_start (tree.expression e) = 0

unfoldable mutual
  pub objects_in : StatementTree → ℕ
  objects_in (tree.block at is) = objects_in_items is
  objects_in (tree.empty at) = 0
  objects_in (tree.effect at e) = 0
  objects_in (tree.label at l s) = objects_in s
  objects_in (tree.case at i s) = objects_in s
  objects_in (tree.default at s) = objects_in s
  objects_in (tree.if_then at c s) = objects_in s
  objects_in (tree.if_else at c s r) = objects_in s + objects_in r
  objects_in (tree.switch at t e zs b s) = objects_in s
  objects_in (tree.while at c s) = objects_in s
  objects_in (tree.do_while at s c) = objects_in s
  objects_in (tree.for_loop at start c e s) = objects_at_start start + objects_in s
  objects_in (tree.goto at l) = 0
  objects_in (tree.continue at) = 0
  objects_in (tree.break at) = 0
  objects_in (tree.return at e) = 0

  pub objects_in_items : ItemTrees → ℕ
  objects_in_items tree.no_items = 0
  objects_in_items (tree.declared_before d is) = objects_in_declared d + objects_in_items is
  objects_in_items (tree.statement_before s is) = objects_in s + objects_in_items is

-- ---- calls

-- a call with its number in its function
pub record Numbered : Type 0 where
  pub number : ℕ
  pub call : CallSite

-- calls that are numbered from n on
abbrev pub numbered : ℕ → List CallSite → List Numbered
numbered n [] = []
numbered n (c ∷ cs) = record { number = n; call = c } ∷ numbered (n + 1) cs

-- call n, of function f
abbrev pub call_of : (f n : ℕ) → Pos → Numbered
call_of f n at = record { number = n; call = record { function = f; at = at } }

unfoldable mutual
  pub calls_at_place : PlaceTree → List Numbered
  calls_at_place (tree.scalar t x) = []
  calls_at_place (tree.element t x at i) = calls_in i

  pub calls_in : ValueTree → List Numbered
  calls_in (tree.constant t z) = []
  calls_in (tree.read p) = calls_at_place p
  calls_in (tree.assign at p e) = calls_at_place p ++ calls_in e
  calls_in (tree.update op at t p e) = calls_at_place p ++ calls_in e
  calls_in (tree.step op at t p prefix) = calls_at_place p
  calls_in (tree.call t f n at es) = call_of f n at ∷ calls_in_values es
  calls_in (tree.any t at) = []
  calls_in (tree.unary op at t e) = calls_in e
  calls_in (tree.convert t e) = calls_in e
  calls_in (tree.binary op at t x y) = calls_in x ++ calls_in y
  calls_in (tree.and x y) = calls_in x ++ calls_in y
  calls_in (tree.or x y) = calls_in x ++ calls_in y
  calls_in (tree.conditional t c x y) = calls_in c ++ calls_in x ++ calls_in y
  calls_in (tree.then_value e v) = calls_in_effect e ++ calls_in v

  pub calls_in_effect : EffectTree → List Numbered
  calls_in_effect (tree.unused v) = calls_in v
  calls_in_effect (tree.run f n at es) = call_of f n at ∷ calls_in_values es
  calls_in_effect (tree.assume at v) = calls_in v
  calls_in_effect (tree.assert at v) = calls_in v
  calls_in_effect (tree.abort at) = []
  calls_in_effect (tree.then_effect x y) = calls_in_effect x ++ calls_in_effect y

  pub calls_in_values : ValueTrees → List Numbered
  calls_in_values tree.no_values = []
  calls_in_values (tree.value_before e es) = calls_in e ++ calls_in_values es

abbrev pub calls_if : Option ValueTree → List Numbered
calls_if None = []
calls_if (Some e) = calls_in e

abbrev pub calls_in_values_if : Option ValueTrees → List Numbered
calls_in_values_if None = []
calls_in_values_if (Some es) = calls_in_values es

abbrev pub calls_in_effect_if : Option EffectTree → List Numbered
calls_in_effect_if None = []
calls_in_effect_if (Some e) = calls_in_effect e

abbrev pub calls_in_declared : DeclaredTree → List Numbered
calls_in_declared (tree.scalar_object i at e) = calls_if e
calls_in_declared (tree.array_object i at es) = calls_in_values_if es
calls_in_declared (tree.static_object n at) = []
calls_in_declared (tree.hiding_constant x at) = []

abbrev pub calls_in_all_declared : List DeclaredTree → List Numbered
calls_in_all_declared [] = []
calls_in_all_declared (d ∷ ds) = calls_in_declared d ++ calls_in_all_declared ds

abbrev pub calls_at_start : ForStartTree → List Numbered
calls_at_start (tree.declarations ds) = calls_in_all_declared ds
calls_at_start (tree.expression e) = calls_in_effect_if e

unfoldable mutual
  pub calls_in_statement : StatementTree → List Numbered
  calls_in_statement (tree.block at is) = calls_in_items is
  calls_in_statement (tree.empty at) = []
  calls_in_statement (tree.effect at e) = calls_in_effect e
  calls_in_statement (tree.label at l s) = calls_in_statement s
  calls_in_statement (tree.case at i s) = calls_in_statement s
  calls_in_statement (tree.default at s) = calls_in_statement s
  calls_in_statement (tree.if_then at c s) = calls_in c ++ calls_in_statement s
  calls_in_statement (tree.if_else at c s r) = calls_in c ++ calls_in_statement s ++ calls_in_statement r
  calls_in_statement (tree.switch at t e zs b s) = calls_in e ++ calls_in_statement s
  calls_in_statement (tree.while at c s) = calls_in c ++ calls_in_statement s
  calls_in_statement (tree.do_while at s c) = calls_in_statement s ++ calls_in c
  calls_in_statement (tree.for_loop at start c e s) =
      calls_at_start start ++ calls_if c ++ calls_in_effect_if e ++ calls_in_statement s
  calls_in_statement (tree.goto at l) = []
  calls_in_statement (tree.continue at) = []
  calls_in_statement (tree.break at) = []
  calls_in_statement (tree.return at e) = calls_if e

  pub calls_in_items : ItemTrees → List Numbered
  calls_in_items tree.no_items = []
  calls_in_items (tree.declared_before d is) = calls_in_declared d ++ calls_in_items is
  calls_in_items (tree.statement_before s is) = calls_in_statement s ++ calls_in_items is
