-- Typed trees without where they lie in memory.
use Rattle.std.specs.Prelude.{ℕ, ℤ, Bool, List, Option}
use Rattle.pk_ctypes.specs.declared.places.Pos.{Pos}
use Rattle.pk_ctypes.specs.declared.types.IntType.{IntType}
use Rattle.pk_ctypes.specs.declared.types.Op.{Op}
use Rattle.pk_typed.specs.declared.units.CallSite.{CallSite}
use Rattle.pk_typed.specs.declared.values.Variable.{Variable}

mutual
  -- what is read or assigned, with its type: a scalar, or an element of an array, at its `[`
  pub data PlaceTree : Type 0 where
    scalar : IntType → Variable → PlaceTree
    element : IntType → Variable → Pos → ValueTree → PlaceTree

  -- expressions of an integer type; an operator has the type to which its operands are converted
  pub data ValueTree : Type 0 where
    constant : IntType → ℤ → ValueTree
    read : PlaceTree → ValueTree
    assign : Pos → PlaceTree → ValueTree → ValueTree
    update : Op → Pos → IntType → PlaceTree → ValueTree → ValueTree
    -- whether the value is the new one
    step : Op → Pos → IntType → PlaceTree → Bool → ValueTree
    -- the function's number, the call's in its function, the name's place
    call : IntType → ℕ → ℕ → Pos → ValueTrees → ValueTree
    any : IntType → Pos → ValueTree
    unary : Op → Pos → IntType → ValueTree → ValueTree
    convert : IntType → ValueTree → ValueTree
    binary : Op → Pos → IntType → ValueTree → ValueTree → ValueTree
    and : ValueTree → ValueTree → ValueTree
    or : ValueTree → ValueTree → ValueTree
    conditional : IntType → ValueTree → ValueTree → ValueTree → ValueTree
    then_value : EffectTree → ValueTree → ValueTree

  -- expressions that are evaluated for their effect: without a value, or with one that isn't used
  pub data EffectTree : Type 0 where
    unused : ValueTree → EffectTree
    run : ℕ → ℕ → Pos → ValueTrees → EffectTree
    assume : Pos → ValueTree → EffectTree
    assert : Pos → ValueTree → EffectTree
    abort : Pos → EffectTree
    then_effect : EffectTree → EffectTree → EffectTree

  -- values in order
  pub data ValueTrees : Type 0 where
    no_values : ValueTrees
    value_before : ValueTree → ValueTrees → ValueTrees

-- a declared object, at its name: by its number in the function, and what it begins with; one that is static by its number among the file's objects (C99 6.2.4); and a constant whose name hides an object's (C99 6.2.1)
pub data DeclaredTree : Type 0 where
  scalar_object : ℕ → Pos → Option ValueTree → DeclaredTree
  array_object : ℕ → Pos → Option ValueTrees → DeclaredTree
  static_object : ℕ → Pos → DeclaredTree
  hiding_constant : Variable → Pos → DeclaredTree

-- what the parentheses of a `for` begin with
pub data ForStartTree : Type 0 where
  declarations : List DeclaredTree → ForStartTree
  expression : Option EffectTree → ForStartTree

mutual
  -- statements, each at its first token; labels by their number in the function, cases by theirs in the `switch`
  pub data StatementTree : Type 0 where
    block : Pos → ItemTrees → StatementTree
    empty : Pos → StatementTree
    effect : Pos → EffectTree → StatementTree
    label : Pos → ℕ → StatementTree → StatementTree
    case : Pos → ℕ → StatementTree → StatementTree
    default : Pos → StatementTree → StatementTree
    if_then : Pos → ValueTree → StatementTree → StatementTree
    if_else : Pos → ValueTree → StatementTree → StatementTree → StatementTree
    -- the promoted type, the value, the cases' values in order, whether there is a default
    switch : Pos → IntType → ValueTree → List ℤ → Bool → StatementTree → StatementTree
    while : Pos → ValueTree → StatementTree → StatementTree
    do_while : Pos → StatementTree → ValueTree → StatementTree
    for_loop : Pos → ForStartTree → Option ValueTree → Option EffectTree → StatementTree → StatementTree
    goto : Pos → ℕ → StatementTree
    continue : Pos → StatementTree
    break : Pos → StatementTree
    return : Pos → Option ValueTree → StatementTree

  -- declared objects and statements in order
  pub data ItemTrees : Type 0 where
    no_items : ItemTrees
    declared_before : DeclaredTree → ItemTrees → ItemTrees
    statement_before : StatementTree → ItemTrees → ItemTrees

-- an object of a function: a parameter may have no name, a scalar has no length
pub record LocalTree : Type 0 where
  pub name : Option (List ℕ)
  pub int_type : IntType
  pub length : Option ℕ

-- a function's block, with the places of its braces; how many objects are declared in the file before it
pub record BodyTree : Type 0 where
  pub opened : Pos
  pub closed : Pos
  pub locals : List LocalTree
  pub visible : ℕ
  pub labels : ℕ
  pub calls : List CallSite
  pub items : ItemTrees

pub record FunctionTree : Type 0 where
  pub name : List ℕ
  pub returns : Option IntType
  pub parameters : List IntType
  pub body : Option BodyTree

-- what an object of the file holds when a run begins: an array's first elements, the others are 0
pub data StartTree : Type 0 where
  scalar_start : ℤ → StartTree
  array_start : ℕ → List ℤ → StartTree

pub record FileObjectTree : Type 0 where
  pub name : List ℕ
  pub int_type : IntType
  pub start : StartTree

-- the objects that are declared in the file, and behind them those that functions declare static
pub record UnitTree : Type 0 where
  pub objects : List FileObjectTree
  pub functions : List FunctionTree
