-- The typed tree that a value of the code stands for.
use Rattle.std.specs.Prelude.{List, [], ◌∷◌, Option, option_map, map}
use Rattle.std.specs.declared.alloc.Global.{Global}
use Rattle.std.specs.declared.vec.Vec.{Vec}
use Rattle.pk_typed.specs.declared.values.Place.{Place}
use Rattle.pk_typed.specs.declared.values.Place.TheVariants.{Scalar, Element'}
use Rattle.pk_typed.specs.declared.values.Value.{Value, Row_of-Value, end_of-Value, more_of-Value}
use Rattle.pk_typed.specs.declared.values.Value.TheVariants as values
use Rattle.pk_typed.specs.declared.values.Effect.{Effect}
use Rattle.pk_typed.specs.declared.values.Effect.TheVariants as effects
use Rattle.pk_typed.specs.declared.statements.Declared.{Declared}
use Rattle.pk_typed.specs.declared.statements.Declared.TheVariants as declared
use Rattle.pk_typed.specs.declared.statements.ForStart.{ForStart}
use Rattle.pk_typed.specs.declared.statements.ForStart.TheVariants as starts
use Rattle.pk_typed.specs.declared.statements.Statement.{Statement, Row_of-Item, end_of-Item, more_of-Item}
use Rattle.pk_typed.specs.declared.statements.Statement.TheVariants as statements
use Rattle.pk_typed.specs.declared.statements.Item.{Item}
use Rattle.pk_typed.specs.declared.statements.Item.TheVariants as items
use Rattle.pk_typed.specs.declared.units.Body.{Body}
use Rattle.pk_typed.specs.declared.units.FileObject.{FileObject}
use Rattle.pk_typed.specs.declared.units.Function.{Function}
use Rattle.pk_typed.specs.declared.units.Local.{Local}
use Rattle.pk_typed.specs.declared.units.Start.{Start}
use Rattle.pk_typed.specs.declared.units.Start.TheVariants as file_starts
use Rattle.pk_typed.specs.declared.units.Unit as declared_unit
use Rattle.pk_typed.specs.Trees.{PlaceTree, ValueTree, EffectTree, ValueTrees, DeclaredTree, ForStartTree, StatementTree, ItemTrees, LocalTree, BodyTree, FunctionTree, StartTree, FileObjectTree, UnitTree}
use Rattle.pk_typed.specs.Trees as tree

unfoldable mutual
  pub place_tree : Place → PlaceTree
  place_tree (Scalar t x) = tree.scalar t x
  place_tree (Element' t x at p v) = tree.element t x at (value_tree v)

  pub value_tree : Value → ValueTree
  value_tree (values.Constant t n) = tree.constant t n
  value_tree (values.Read p) = tree.read (place_tree p)
  value_tree (values.Assign' at p q v) = tree.assign at (place_tree p) (value_tree v)
  value_tree (values.Update' op at t p q v) = tree.update op at t (place_tree p) (value_tree v)
  value_tree (values.Step op at t p prefix) = tree.step op at t (place_tree p) prefix
  value_tree (values.Call' t f n at shape vs) = tree.call t f n at (values_of_row vs)
  value_tree (values.Any t at) = tree.any t at
  value_tree (values.Unary' op at t q v) = tree.unary op at t (value_tree v)
  value_tree (values.Convert' t q v) = tree.convert t (value_tree v)
  value_tree (values.Binary' op at t q v r w) = tree.binary op at t (value_tree v) (value_tree w)
  value_tree (values.And' q v r w) = tree.and (value_tree v) (value_tree w)
  value_tree (values.Or' q v r w) = tree.or (value_tree v) (value_tree w)
  value_tree (values.Conditional' t o u q v r w) = tree.conditional t (value_tree u) (value_tree v) (value_tree w)
  value_tree (values.Then' q e r v) = tree.then_value (effect_tree e) (value_tree v)

  pub effect_tree : Effect → EffectTree
  effect_tree (effects.Unused v) = tree.unused (value_tree v)
  effect_tree (effects.Call' f n at shape vs) = tree.run f n at (values_of_row vs)
  effect_tree (effects.Assume' at q v) = tree.assume at (value_tree v)
  effect_tree (effects.Assert' at q v) = tree.assert at (value_tree v)
  effect_tree (effects.Abort at) = tree.abort at
  effect_tree (effects.Then' q e r f) = tree.then_effect (effect_tree e) (effect_tree f)

  -- those of a `Vec`, which is a row of them
  pub values_of_row : {n : _} → Row_of-Value n → ValueTrees
  values_of_row end_of-Value = tree.no_values
  values_of_row (more_of-Value v rest) = tree.value_before (value_tree v) (values_of_row rest)

abbrev pub value_trees : List Value → ValueTrees
value_trees [] = tree.no_values
value_trees (v ∷ vs) = tree.value_before (value_tree v) (value_trees vs)

abbrev pub optional_values : Option (Vec Value Global) → Option ValueTrees
optional_values = option_map (λ vs. value_trees vs.items)

unfoldable pub declared_tree : Declared → DeclaredTree
declared_tree (declared.Scalar i at v) = tree.scalar_object i at (option_map value_tree v)
declared_tree (declared.Array i at vs) = tree.array_object i at (optional_values vs)
declared_tree (declared.Static n at) = tree.static_object n at
declared_tree (declared.Hiding x at) = tree.hiding_constant x at

abbrev pub declared_trees : List Declared → List DeclaredTree
declared_trees = map declared_tree

unfoldable pub for_start_tree : ForStart → ForStartTree
for_start_tree (starts.Declared ds) = tree.declarations (declared_trees ds.items)
for_start_tree (starts.Effect e) = tree.expression (option_map effect_tree e)

unfoldable mutual
  pub statement_tree : Statement → StatementTree
  statement_tree (statements.Block' at shape list) = tree.block at (items_of_row list)
  statement_tree (statements.Empty at) = tree.empty at
  statement_tree (statements.Effect at e) = tree.effect at (effect_tree e)
  statement_tree (statements.Label' at n p s) = tree.label at n (statement_tree s)
  statement_tree (statements.Case' at n p s) = tree.case at n (statement_tree s)
  statement_tree (statements.Default' at p s) = tree.default at (statement_tree s)
  statement_tree (statements.If' at v p s) = tree.if_then at (value_tree v) (statement_tree s)
  statement_tree (statements.IfElse' at v p s q t) =
      tree.if_else at (value_tree v) (statement_tree s) (statement_tree t)
  statement_tree (statements.Switch' at t v cs d p s) = tree.switch at t (value_tree v) cs.items d (statement_tree s)
  statement_tree (statements.While' at v p s) = tree.while at (value_tree v) (statement_tree s)
  statement_tree (statements.Do' at p s v) = tree.do_while at (statement_tree s) (value_tree v)
  statement_tree (statements.For' at head p s) =
      let h = head.value in tree.for_loop at (for_start_tree h.start) (option_map value_tree h.test)
      (option_map effect_tree h.step) (statement_tree s)
  statement_tree (statements.Goto at n) = tree.goto at n
  statement_tree (statements.Continue at) = tree.continue at
  statement_tree (statements.Break at) = tree.break at
  statement_tree (statements.Return at v) = tree.return at (option_map value_tree v)

  -- those of a `Vec`, which is a row of them
  pub items_of_row : {n : _} → Row_of-Item n → ItemTrees
  items_of_row end_of-Item = tree.no_items
  items_of_row (more_of-Item (items.Declared d) rest) = tree.declared_before (declared_tree d) (items_of_row rest)
  items_of_row (more_of-Item (items.Statement s) rest) = tree.statement_before (statement_tree s) (items_of_row rest)

abbrev pub item_trees : List Item → ItemTrees
item_trees [] = tree.no_items
item_trees (items.Declared d ∷ rest) = tree.declared_before (declared_tree d) (item_trees rest)
item_trees (items.Statement s ∷ rest) = tree.statement_before (statement_tree s) (item_trees rest)

unfoldable pub local_tree : Local → LocalTree
local_tree x = record { name = x.name; int_type = x.int_type; length = x.length }

unfoldable pub body_tree : Body → BodyTree
body_tree b = record {
  opened = b.open;
  closed = b.close;
  locals = map local_tree b.locals.items;
  visible = b.visible;
  labels = b.labels;
  calls = b.calls.items;
  items = item_trees b.items.items;
}

unfoldable pub function_tree : Function → FunctionTree
function_tree f = record {
  name = f.name;
  returns = f.returns;
  parameters = f.parameters.items;
  body = option_map body_tree f.body;
}

unfoldable pub start_tree : Start → StartTree
start_tree (file_starts.Scalar n) = tree.scalar_start n
start_tree (file_starts.Array n ns) = tree.array_start n ns.items

unfoldable pub file_object_tree : FileObject → FileObjectTree
file_object_tree o = record { name = o.name; int_type = o.int_type; start = start_tree o.start }

unfoldable pub unit_tree : declared_unit.Unit → UnitTree
unit_tree u = record { objects = map file_object_tree u.objects.items; functions = map function_tree u.functions.items }
