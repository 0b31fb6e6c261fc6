-- What the parser keeps of the tokens that it has read: the constructs that are open, innermost first, each with what was read of it.
use Rattle.std.specs.Prelude.{ℕ, List, Option}
use Rattle.pk_ctypes.specs.declared.places.Pos.{Pos}
use Rattle.pk_ast.specs.declared.declarations.Specifier.{Specifier}
use Rattle.pk_ast.specs.declared.expressions.Identifier.{Identifier}
use Rattle.pk_ast.specs.declared.operators.BinaryOperator.{BinaryOperator}
use Rattle.pk_ast.specs.declared.operators.UnaryOperator.{UnaryOperator}
use Rattle.pk_ast.specs.declared.operators.StepOperator.{StepOperator}
use Rattle.pk_ast.specs.declared.operators.AssignmentOperator.{AssignmentOperator}
use Rattle.pk_ast.specs.declared.units.Storage.{Storage}
use Rattle.pk_ast.specs.Trees.{OneOrMore, ExpressionTree, ExpressionTrees, InitializerItemTree, DimensionsTree, DeclaratorTree, EnumeratorTree, EnumerationTree, ForStartTree, StatementTree, ItemTrees, ParameterTree, ExternalTree}
use Rattle.pk_grammar.specs.declared.states.Testing.{Testing}

-- a function of which everything before its parameters was read, and what stands before it
pub record Head : Type 0 where
  pub before : List ExternalTree
  pub storage : Option Storage
  pub specifiers : OneOrMore Specifier
  pub name : Identifier

mutual
  -- a block whose items are being read: a function's, or one that is a statement
  pub data OpenBlock : Type 0 where
    function_block : Head → List ParameterTree → Pos → ItemTrees → OpenBlock
    inner_block : ℕ → Pos → ItemTrees → Outer → OpenBlock

  -- what a statement that is being read is part of; the numbers are the nesting outside
  pub data Outer : Type 0 where
    in_block : OpenBlock → Outer
    in_label : ℕ → Identifier → Outer → Outer
    in_case : ℕ → Pos → ExpressionTree → Outer → Outer
    in_default : ℕ → Pos → Outer → Outer
    in_if : ℕ → Pos → ExpressionTree → Outer → Outer
    in_else : ℕ → Pos → ExpressionTree → StatementTree → Outer → Outer
    in_switch : ℕ → Pos → ExpressionTree → Outer → Outer
    in_while : ℕ → Pos → ExpressionTree → Outer → Outer
    in_do : ℕ → Pos → Outer → Outer
    in_for : ℕ → Pos → ForStartTree → Option ExpressionTree → Option ExpressionTree → Outer → Outer

-- where a declaration stands, in a block with the place of its `static`
pub data Site : Type 0 where
  in_a_block : OpenBlock → Option Pos → Site
  in_a_for : ℕ → Pos → Outer → Site
  outside : List ExternalTree → Option Storage → Site

-- a declaration, and the declarators read so far, behind which another one is to come
pub record Declaring : Type 0 where
  pub site : Site
  pub specifiers : OneOrMore Specifier
  pub enumeration : Option EnumerationTree
  pub declarators : List DeclaratorTree

-- the same, behind a declarator
pub record Declared : Type 0 where
  pub site : Site
  pub specifiers : OneOrMore Specifier
  pub enumeration : Option EnumerationTree
  pub declarators : OneOrMore DeclaratorTree

-- where an enumeration's braces stand: in a declaration, or in one of type names
pub data EnumerationSite : Type 0 where
  in_declaration : Site → EnumerationSite
  in_typedef : List ExternalTree → EnumerationSite

-- an enumeration, and the enumerators read so far, behind which another one is to come
pub record Enumerating : Type 0 where
  pub site : EnumerationSite
  pub specifiers : OneOrMore Specifier
  pub enumerators : List EnumeratorTree

-- the same, behind an enumerator
pub record Enumerated : Type 0 where
  pub site : EnumerationSite
  pub specifiers : OneOrMore Specifier
  pub enumerators : OneOrMore EnumeratorTree

-- a declarator whose name was read, and its dimensions
pub record Naming : Type 0 where
  pub declaring : Declaring
  pub name : Identifier
  pub dimensions : Option DimensionsTree

-- an initializer's braces, and the items read so far, behind which another one is to come
pub record Initializing : Type 0 where
  pub naming : Naming
  pub brace : Pos
  pub items : List InitializerItemTree

-- the same, behind an item
pub record Initialized : Type 0 where
  pub naming : Naming
  pub brace : Pos
  pub items : OneOrMore InitializerItemTree

-- a parameter of which everything before its brackets was read, and the parameters before it
pub record Receiving : Type 0 where
  pub head : Head
  pub before : List ParameterTree
  pub specifiers : OneOrMore Specifier
  pub name : Option Identifier

-- what an expression is for that isn't part of another one
pub data Purpose : Type 0 where
  as_statement : ℕ → Outer → Purpose
  as_label : ℕ → Pos → Outer → Purpose
  as_test : Testing → ℕ → Pos → Outer → Purpose
  as_last_test : ℕ → Pos → StatementTree → Outer → Purpose
  as_first : ℕ → Pos → Outer → Purpose
  as_second : ℕ → Pos → ForStartTree → Outer → Purpose
  as_third : ℕ → Pos → ForStartTree → Option ExpressionTree → Outer → Purpose
  as_result : ℕ → Pos → Outer → Purpose
  as_length : Declaring → Identifier → Purpose
  as_columns : Declaring → Identifier → ExpressionTree → Purpose
  as_value : Naming → Purpose
  as_item : Initializing → Purpose
  as_row_item : Initializing → Pos → ExpressionTrees → Purpose
  as_enumerator : Enumerating → Identifier → Purpose
  as_parameter_length : Receiving → Purpose
  as_parameter_columns : Receiving → Option ExpressionTree → Purpose

-- what an expression that is being read is part of; the numbers are the nesting outside
pub data Context : Type 0 where
  as_whole : Purpose → Context
  in_parentheses : ℕ → Pos → Context → Context
  in_index : ℕ → Identifier → Pos → Context → Context
  in_column : ℕ → Identifier → Pos → ExpressionTree → Pos → Context → Context
  in_call : ℕ → Identifier → ExpressionTrees → Context → Context
  in_prefix : ℕ → StepOperator → Pos → Context → Context
  in_unary : ℕ → UnaryOperator → Pos → Context → Context
  in_cast : ℕ → Pos → OneOrMore Specifier → Context → Context
  in_binary : ℕ → BinaryOperator → Pos → ExpressionTree → Context → Context
  in_choice : ℕ → Pos → ExpressionTree → Context → Context
  in_alternative : ℕ → Pos → ExpressionTree → ExpressionTree → Context → Context
  in_assignment : ℕ → AssignmentOperator → Pos → ExpressionTree → Context → Context
  in_comma : ℕ → Pos → ExpressionTree → Context → Context

pub data State : Type 0 where
  -- between external definitions
  top : List ExternalTree → State
  after_storage : List ExternalTree → Storage → State
  -- in a declaration of type names
  after_typedef : List ExternalTree → State
  type_specifiers : List ExternalTree → OneOrMore Specifier → State
  after_type_name : List ExternalTree → OneOrMore Specifier → Option EnumerationTree → OneOrMore Identifier → State
  type_name_comma : List ExternalTree → OneOrMore Specifier → Option EnumerationTree → OneOrMore Identifier → State
  -- in an enumeration, where an enumerator may come, behind its name, and behind its braces
  at_enumerator : Enumerating → State
  after_enumerator_name : Enumerating → Identifier → State
  after_braces : EnumerationSite → OneOrMore Specifier → EnumerationTree → State
  -- in a declaration
  after_specifiers : Site → OneOrMore Specifier → State
  after_name : Declaring → Identifier → State
  after_length : Declaring → Identifier → ExpressionTree → State
  after_columns : Naming → State
  after_assign : Naming → State
  -- in an initializer's braces where an item may come, in a row's where a value may, and behind an item
  at_initializer_item : Initializing → State
  at_row_item : Initializing → Pos → ExpressionTrees → State
  after_item : Initialized → State
  after_initializer : Declared → State
  after_comma : Declaring → State
  -- in a function's head
  parameters_open : Head → State
  parameter_specifiers : Head → List ParameterTree → OneOrMore Specifier → State
  parameter_name : Receiving → State
  parameter_bracket : Receiving → State
  parameter_length : Receiving → Option ExpressionTree → State
  parameter_end : Head → List ParameterTree → ParameterTree → State
  parameter_comma : Head → List ParameterTree → State
  parameters_closed : Head → List ParameterTree → State
  -- in a block and its statements
  block_item : OpenBlock → State
  after_static : OpenBlock → Pos → State
  at_statement : ℕ → Outer → State
  after_statement : StatementTree → Outer → State
  test_open : Testing → ℕ → Pos → Outer → State
  do_open : ℕ → Pos → StatementTree → Outer → State
  for_open : ℕ → Pos → Outer → State
  for_first : ℕ → Pos → Outer → State
  for_second : ℕ → Pos → ForStartTree → Outer → State
  for_third : ℕ → Pos → ForStartTree → Option ExpressionTree → Outer → State
  default_colon : ℕ → Pos → Outer → State
  goto_name : ℕ → Pos → Outer → State
  returning : ℕ → Pos → Outer → State
  statement_end : ℕ → StatementTree → Outer → State
  -- in an expression
  operand : ℕ → Context → State
  named : ℕ → Identifier → Context → State
  indexed : ℕ → Identifier → Pos → ExpressionTree → Context → State
  arguments : ℕ → Identifier → Context → State
  opened : ℕ → Pos → Context → State
  cast_specifiers : ℕ → Pos → OneOrMore Specifier → Context → State
  complete : ℕ → ExpressionTree → Context → State
