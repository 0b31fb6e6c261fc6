-- A `Vec` inside a tree lies there as a row: the trees of the row are those of the `Vec`.
use Rattle.std.proofs.Common.{◌≡◌, refl, ap, ◌∙◌, Vec, Global}
use mathlib.Core.Former.{Count}
use Rattle.pk_ast.specs.declared.expressions.Identifier.{Identifier}
use Rattle.pk_ast.specs.declared.expressions.Expression.{Expression, Row_of-Expression, end_of-Expression, more_of-Expression, items-the_row-Expression, items_hidden-the_row-Expression-0}
use Rattle.pk_ast.specs.declared.expressions.Expression.TheVariants.{Call, Call'}
use Rattle.pk_ast.specs.declared.statements.Statement.{Statement}
use Rattle.pk_ast.specs.declared.statements.Statement.TheVariants as statements
use Rattle.pk_ast.specs.declared.statements.Block as declared_block
use Rattle.pk_ast.specs.declared.statements.Block.{Row_of-BlockItem, end_of-BlockItem, more_of-BlockItem, items-the_row-BlockItem, items_hidden-the_row-BlockItem-0}
use Rattle.pk_ast.specs.declared.statements.BlockItem.TheVariants as items
use Rattle.pk_ast.specs.Trees.{call, block, expression_then, declaration_then, statement_then}
use Rattle.pk_ast.specs.Views.{expression_tree, expression_trees, expressions_of_row, declaration_tree, statement_tree, items_of_row, item_trees}

expressions_of_row_items : (n : _) (row : Row_of-Expression n) → expressions_of_row row ≡ expression_trees (items-the_row-Expression n row)
unfolding expression_tree expressions_of_row
expressions_of_row_items n end_of-Expression = refl
expressions_of_row_items n (more_of-Expression e rest) = ap (expression_then (expression_tree e)) (expressions_of_row_items _ rest)

abbrev expression_row : Expression → (n : Count) × Row_of-Expression n
expression_row (Call' x _ row) = (_, row)
expression_row _ = (_, end_of-Expression)

pub tree_of_call : (x : Identifier) (arguments : Vec Expression Global) → expression_tree (Call x arguments) ≡ call x (expression_trees arguments.items)
unfolding expression_tree expressions_of_row
tree_of_call x arguments =
    let row = expression_row (Call x arguments) in
    ap (call x) (expressions_of_row_items row.0 row.1 ∙ ap expression_trees (items_hidden-the_row-Expression-0 arguments))

items_of_row_items : (n : _) (row : Row_of-BlockItem n) → items_of_row row ≡ item_trees (items-the_row-BlockItem n row)
unfolding statement_tree items_of_row
items_of_row_items n end_of-BlockItem = refl
items_of_row_items n (more_of-BlockItem (items.Declaration s d) rest) = ap (declaration_then s (declaration_tree d.value)) (items_of_row_items _ rest)
items_of_row_items n (more_of-BlockItem (items.Statement s) rest) = ap (statement_then (statement_tree s)) (items_of_row_items _ rest)

abbrev item_row : Statement → (n : Count) × Row_of-BlockItem n
item_row (statements.Block' _ _ row _) = (_, row)
item_row _ = (_, end_of-BlockItem)

pub tree_of_block : (b : declared_block.Block) → statement_tree (statements.Block b) ≡ block b.open (item_trees b.items.items) b.close
unfolding statement_tree items_of_row
tree_of_block b =
    let row = item_row (statements.Block b) in
    ap (λ list. block b.open list b.close) (items_of_row_items row.0 row.1 ∙ ap item_trees (items_hidden-the_row-BlockItem-0 b.items))
