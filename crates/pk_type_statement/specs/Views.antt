-- What the values of the code stand for.
use Rattle.std.specs.Prelude.{Option, option_map}
use Rattle.std.specs.declared.alloc.Global.{Global}
use Rattle.std.specs.declared.boxed.Box.{Box}
use Rattle.pk_typed.specs.declared.statements.ForHead.{ForHead}
use Rattle.pk_typed.specs.declared.statements.Item.{Item}
use Rattle.pk_typed.specs.declared.statements.Statement.{Statement}
use Rattle.pk_typed.specs.declared.values.Value.{Value}
use Rattle.pk_typed.specs.Trees.{ValueTree, StatementTree, ItemTrees}
use Rattle.pk_typed.specs.Views.{value_tree, effect_tree, for_start_tree, statement_tree, item_trees}
use Rattle.pk_type_scope.specs.declared.failures.Failure.{Failure}
use Rattle.pk_type_declaration.specs.declared.parts.Parts.{Parts}
use Rattle.pk_type_declaration.specs.Parts.{parts_in}
use Rattle.pk_type_declaration.specs.Views.{walked_in}
use Rattle.pk_type_statement.specs.declared.cases.Ended.{Ended}
use Rattle.pk_type_statement.specs.declared.statements.Statements.{Statements}
use Rattle.pk_type_statement.specs.Statements.{Passed}
use Rattle.pk_type_statement.specs.Trees.{HeadTree, EndedTree}

abbrev pub passed_in : Statements → Passed (Option Failure)
passed_in s = record { walked = walked_in s.walk; cases = s.cases.items; has_default = s.has_default }

abbrev pub value_in : Option (Box Value Global) → Option ValueTree
value_in = option_map (λ b. value_tree b.value)

abbrev pub statement_in : Option (Box Statement Global) → Option StatementTree
statement_in = option_map (λ b. statement_tree b.value)

abbrev pub items_in : Parts Item → Option ItemTrees
items_in p = option_map item_trees (parts_in p)

abbrev pub head_tree : ForHead → HeadTree
head_tree h =
    record {
      start = for_start_tree h.start;
      test = option_map value_tree h.test;
      step = option_map effect_tree h.step;
    }

abbrev pub head_in : Option (Box ForHead Global) → Option HeadTree
head_in = option_map (λ b. head_tree b.value)

abbrev pub ended_tree : Ended → EndedTree
ended_tree e = record { int_type = e.int_type; numbers = e.numbers.items; has_default = e.has_default }

abbrev pub ended_in : Option (Box Ended Global) → Option EndedTree
ended_in = option_map (λ b. ended_tree b.value)
