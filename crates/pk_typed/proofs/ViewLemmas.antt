-- A `Vec` inside a tree lies there as a row: the trees of the row are those of the `Vec`.
use Rattle.std.proofs.Common.{◌≡◌, ℕ, refl, ap, ◌∙◌, Vec, Global}
use mathlib.Core.Former.{Count}
use Rattle.pk_ctypes.specs.declared.places.Pos.{Pos}
use Rattle.pk_ctypes.specs.declared.types.IntType.{IntType}
use Rattle.pk_typed.specs.declared.values.Value.{Value, Row_of-Value, end_of-Value, more_of-Value, items-the_row-Value, items_hidden-the_row-Value-0}
use Rattle.pk_typed.specs.declared.values.Value.TheVariants as values
use Rattle.pk_typed.specs.declared.values.Effect.{Effect}
use Rattle.pk_typed.specs.declared.values.Effect.TheVariants as effects
use Rattle.pk_typed.specs.declared.statements.Statement.{Statement, Row_of-Item, end_of-Item, more_of-Item, items-the_row-Item, items_hidden-the_row-Item-0}
use Rattle.pk_typed.specs.declared.statements.Statement.TheVariants as statements
use Rattle.pk_typed.specs.declared.statements.Item.{Item}
use Rattle.pk_typed.specs.declared.statements.Item.TheVariants as items
use Rattle.pk_typed.specs.Trees.{call, run, block, value_before, declared_before, statement_before}
use Rattle.pk_typed.specs.Views.{value_tree, effect_tree, value_trees, values_of_row, declared_tree, statement_tree, items_of_row, item_trees}

values_of_row_items : (n : _) (row : Row_of-Value n) → values_of_row row ≡ value_trees (items-the_row-Value n row)
unfolding value_tree values_of_row
values_of_row_items n end_of-Value = refl
values_of_row_items n (more_of-Value v rest) = ap (value_before (value_tree v)) (values_of_row_items _ rest)

abbrev value_row : Value → (n : Count) × Row_of-Value n
value_row (values.Call' t f s at _ row) = (_, row)
value_row _ = (_, end_of-Value)

pub tree_of_call : (t : IntType) (f s : ℕ) (at : Pos) (arguments : Vec Value Global) → value_tree (values.Call t f s at arguments) ≡ call t f s at (value_trees arguments.items)
unfolding value_tree values_of_row
tree_of_call t f s at arguments =
    let row = value_row (values.Call t f s at arguments) in
    ap (call t f s at) (values_of_row_items row.0 row.1 ∙ ap value_trees (items_hidden-the_row-Value-0 arguments))

abbrev effect_row : Effect → (n : Count) × Row_of-Value n
effect_row (effects.Call' f s at _ row) = (_, row)
effect_row _ = (_, end_of-Value)

pub tree_of_run : (f s : ℕ) (at : Pos) (arguments : Vec Value Global) → effect_tree (effects.Call f s at arguments) ≡ run f s at (value_trees arguments.items)
unfolding effect_tree values_of_row
tree_of_run f s at arguments =
    let row = effect_row (effects.Call f s at arguments) in
    ap (run f s at) (values_of_row_items row.0 row.1 ∙ ap value_trees (items_hidden-the_row-Value-0 arguments))

items_of_row_items : (n : _) (row : Row_of-Item n) → items_of_row row ≡ item_trees (items-the_row-Item n row)
unfolding statement_tree items_of_row
items_of_row_items n end_of-Item = refl
items_of_row_items n (more_of-Item (items.Declared d) rest) = ap (declared_before (declared_tree d)) (items_of_row_items _ rest)
items_of_row_items n (more_of-Item (items.Statement s) rest) = ap (statement_before (statement_tree s)) (items_of_row_items _ rest)

abbrev item_row : Statement → (n : Count) × Row_of-Item n
item_row (statements.Block' _ _ row) = (_, row)
item_row _ = (_, end_of-Item)

pub tree_of_block : (at : Pos) (list : Vec Item Global) → statement_tree (statements.Block at list) ≡ block at (item_trees list.items)
unfolding statement_tree items_of_row
tree_of_block at list =
    let row = item_row (statements.Block at list) in
    ap (block at) (items_of_row_items row.0 row.1 ∙ ap item_trees (items_hidden-the_row-Item-0 list))
