-- Items of a block after others.
use Rattle.std.proofs.Common.{◌≡◌, ◌∙◌, List, [], ◌∷◌, ◌++◌, map, refl, ap}
use Rattle.pk_typed.specs.declared.statements.Declared.{Declared}
use Rattle.pk_typed.specs.declared.statements.Item.{Item}
use Rattle.pk_typed.specs.declared.statements.Item.TheVariants as items
use Rattle.pk_typed.specs.declared.statements.Statement.{Statement}
use Rattle.pk_ctypes.specs.declared.places.Pos.{Pos}
use Rattle.pk_typed.specs.Trees as trees
use Rattle.pk_typed.specs.Trees.{no_items, declared_before, statement_before}
use Rattle.pk_typed.specs.Views.{declared_tree, declared_trees, statement_tree, item_trees}
use Rattle.pk_type_statement.specs.Items.{append_items}
use Rattle.pk_type_statement.specs.Trees.{declared_all}

pub items_append : (xs ys : List Item) → item_trees (xs ++ ys) ≡ append_items (item_trees xs) (item_trees ys)
items_append [] ys = refl
items_append (items.Declared d ∷ xs) ys = ap (declared_before (declared_tree d)) (items_append xs ys)
items_append (items.Statement s ∷ xs) ys = ap (statement_before (statement_tree s)) (items_append xs ys)

objects_as_items : (ds : List Declared) → item_trees (map items.Declared ds) ≡ declared_all (declared_trees ds) no_items
objects_as_items [] = refl
objects_as_items (d ∷ ds) = ap (declared_before (declared_tree d)) (objects_as_items ds)

pub objects_added : (xs : List Item) (ds : List Declared) → item_trees (xs ++ map items.Declared ds) ≡ append_items (item_trees xs) (declared_all (declared_trees ds) no_items)
objects_added xs ds = items_append xs (map items.Declared ds) ∙ ap (append_items (item_trees xs)) (objects_as_items ds)

pub statement_added : (xs : List Item) (s : Statement) → item_trees (xs ++ items.Statement s ∷ []) ≡ append_items (item_trees xs) (statement_before (statement_tree s) no_items)
statement_added xs s = items_append xs (items.Statement s ∷ [])

pub empty_added : (xs : List Item) (s : Statement) (at : Pos) → statement_tree s ≡ trees.empty at → item_trees (xs ++ items.Statement s ∷ []) ≡ append_items (item_trees xs) (statement_before (trees.empty at) no_items)
empty_added xs s at e = statement_added xs s ∙ ap (λ t. append_items (item_trees xs) (statement_before t no_items)) e
