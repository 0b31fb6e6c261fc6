-- Items of a block after others.
use Rattle.std.specs.Prelude.{Option, List}
use Rattle.pk_typed.specs.Trees.{DeclaredTree, StatementTree, ItemTrees, no_items, declared_before, statement_before}
use Rattle.pk_type_expression.specs.Typed.{of_both}
use Rattle.pk_type_statement.specs.Trees.{declared_all}

abbrev pub append_items : ItemTrees → ItemTrees → ItemTrees
append_items no_items more = more
append_items (declared_before d items) more = declared_before d (append_items items more)
append_items (statement_before s items) more = statement_before s (append_items items more)

abbrev pub and_objects : Option ItemTrees → Option (List DeclaredTree) → Option ItemTrees
and_objects = of_both (λ items ds. append_items items (declared_all ds no_items))

abbrev pub and_statement : Option ItemTrees → Option StatementTree → Option ItemTrees
and_statement = of_both (λ items s. append_items items (statement_before s no_items))

abbrev pub and_items : Option ItemTrees → Option ItemTrees → Option ItemTrees
and_items = of_both append_items
