-- Trees without where they lie in memory.
use Rattle.std.specs.Prelude.{ℕ, ℤ, List, Option}
use Rattle.pk_ctypes.specs.declared.places.Pos.{Pos}
use Rattle.pk_ctypes.specs.declared.types.IntType.{IntType}
use Rattle.pk_ast.specs.declared.declarations.Specifier.{Specifier}
use Rattle.pk_ast.specs.declared.expressions.Identifier.{Identifier}
use Rattle.pk_ast.specs.declared.operators.BinaryOperator.{BinaryOperator}
use Rattle.pk_ast.specs.declared.operators.UnaryOperator.{UnaryOperator}
use Rattle.pk_ast.specs.declared.operators.StepOperator.{StepOperator}
use Rattle.pk_ast.specs.declared.operators.AssignmentOperator.{AssignmentOperator}
use Rattle.pk_ast.specs.declared.units.Storage.{Storage}

-- a list that has an element
pub record OneOrMore (A : Type 0) : Type 0 where
  pub first : A
  pub more : List A

mutual
  -- expressions (C99 6.5)
  pub data ExpressionTree : Type 0 where
    name : Identifier → ExpressionTree
    call : Identifier → ExpressionTrees → ExpressionTree
    index : Identifier → Pos → ExpressionTree → ExpressionTree
    element : Identifier → Pos → ExpressionTree → Pos → ExpressionTree → ExpressionTree
    constant : Pos → IntType → ℕ → ExpressionTree
    character : Pos → ℤ → ExpressionTree
    parenthesized : Pos → ExpressionTree → ExpressionTree
    postfix : StepOperator → Pos → ExpressionTree → ExpressionTree
    prefix : StepOperator → Pos → ExpressionTree → ExpressionTree
    unary : UnaryOperator → Pos → ExpressionTree → ExpressionTree
    cast : Pos → OneOrMore Specifier → ExpressionTree → ExpressionTree
    binary : BinaryOperator → Pos → ExpressionTree → ExpressionTree → ExpressionTree
    conditional : Pos → ExpressionTree → ExpressionTree → ExpressionTree → ExpressionTree
    assignment : AssignmentOperator → Pos → ExpressionTree → ExpressionTree → ExpressionTree
    comma : Pos → ExpressionTree → ExpressionTree → ExpressionTree

  -- expressions in order
  pub data ExpressionTrees : Type 0 where
    no_expressions : ExpressionTrees
    expression_then : ExpressionTree → ExpressionTrees → ExpressionTrees

-- an item of an initialiser's braces: a value, or a row of values in braces of its own
pub data InitializerItemTree : Type 0 where
  item_value : ExpressionTree → InitializerItemTree
  item_row : Pos → ExpressionTree → ExpressionTrees → InitializerItemTree

-- what a declared object begins with (C99 6.7.8)
pub data InitializerTree : Type 0 where
  single : ExpressionTree → InitializerTree
  braced : Pos → OneOrMore InitializerItemTree → InitializerTree

-- how many elements an array has, or rows and columns (C99 6.7.5.2)
pub record DimensionsTree : Type 0 where
  pub length : ExpressionTree
  pub columns : Option ExpressionTree

pub record DeclaratorTree : Type 0 where
  pub name : Identifier
  pub dimensions : Option DimensionsTree
  pub initializer : Option InitializerTree

pub record EnumeratorTree : Type 0 where
  pub name : Identifier
  pub value : Option ExpressionTree

-- the braces of an enumeration (C99 6.7.2.2), and the `const`s behind them
pub record EnumerationTree : Type 0 where
  pub enumerators : OneOrMore EnumeratorTree
  pub qualifiers : List Specifier

-- the words of a type, the enumeration that ends them if it has braces, and the names that are declared with it: none only behind an enumeration
pub record DeclarationTree : Type 0 where
  pub specifiers : OneOrMore Specifier
  pub enumeration : Option EnumerationTree
  pub declarators : List DeclaratorTree

-- what the parentheses of a `for` begin with
pub data ForStartTree : Type 0 where
  declaration : DeclarationTree → ForStartTree
  expression : Option ExpressionTree → ForStartTree

mutual
  -- statements (C99 6.8)
  pub data StatementTree : Type 0 where
    block : Pos → ItemTrees → Pos → StatementTree
    empty : Pos → StatementTree
    expression_statement : ExpressionTree → StatementTree
    label : Identifier → StatementTree → StatementTree
    case : Pos → ExpressionTree → StatementTree → StatementTree
    default : Pos → StatementTree → StatementTree
    if_then : Pos → ExpressionTree → StatementTree → StatementTree
    if_else : Pos → ExpressionTree → StatementTree → StatementTree → StatementTree
    switch : Pos → ExpressionTree → StatementTree → StatementTree
    while : Pos → ExpressionTree → StatementTree → StatementTree
    do_while : Pos → StatementTree → ExpressionTree → StatementTree
    for_loop : Pos → ForStartTree → Option ExpressionTree → Option ExpressionTree → StatementTree → StatementTree
    goto : Pos → Identifier → StatementTree
    continue : Pos → StatementTree
    break : Pos → StatementTree
    return : Pos → Option ExpressionTree → StatementTree

  -- the declarations, each with the place of its `static` if it has one, and statements of a block, in order
  pub data ItemTrees : Type 0 where
    no_items : ItemTrees
    declaration_then : Option Pos → DeclarationTree → ItemTrees → ItemTrees
    statement_then : StatementTree → ItemTrees → ItemTrees

-- a block, with the places of its braces
pub record BlockTree : Type 0 where
  pub opened : Pos
  pub items : ItemTrees
  pub closed : Pos

-- what makes a parameter one of an array: its length, which may be left out, and its columns (C99 6.7.5.3)
pub record BracketsTree : Type 0 where
  pub length : Option ExpressionTree
  pub columns : Option ExpressionTree

pub record ParameterTree : Type 0 where
  pub specifiers : OneOrMore Specifier
  pub name : Option Identifier
  pub brackets : Option BracketsTree

pub record FunctionTree : Type 0 where
  pub storage : Option Storage
  pub specifiers : OneOrMore Specifier
  pub name : Identifier
  pub parameters : List ParameterTree
  pub body : Option BlockTree

-- names that are declared to be type names (C99 6.7.7)
pub record TypedefTree : Type 0 where
  pub specifiers : OneOrMore Specifier
  pub enumeration : Option EnumerationTree
  pub names : OneOrMore Identifier

-- external definitions (C99 6.9)
pub data ExternalTree : Type 0 where
  function : FunctionTree → ExternalTree
  objects : Option Storage → DeclarationTree → ExternalTree
  type_names : TypedefTree → ExternalTree
