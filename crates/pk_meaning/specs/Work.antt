-- The work that waits in a run.
use Rattle.std.specs.Prelude.{ℕ, ℤ, Bool, List, Option}
use Rattle.pk_ctypes.specs.declared.places.Pos.{Pos}
use Rattle.pk_ctypes.specs.declared.types.IntType.{IntType}
use Rattle.pk_ctypes.specs.declared.types.Op.{Op}
use Rattle.pk_typed.specs.Trees.{ValueTree, EffectTree, ValueTrees, DeclaredTree, StatementTree, ItemTrees}
use Rattle.pk_meaning.specs.Objects.{Object, Scope, Array}

-- where a run stands in a function: the statement at hand, by its first token, a declaration by its name; the names in scope
pub record Place : Type 0 where
  pub at : Pos
  pub scope : Scope

-- a loop, of a `for` without its first part
pub data Loop : Type 0 where
  While : ValueTree → StatementTree → Loop
  DoWhile : StatementTree → ValueTree → Loop
  For : Option ValueTree → Option EffectTree → StatementTree → Loop

mutual
  -- where a test or a jump leads: on at a place; behind a false assumption; nowhere, where a jump has no target
  pub data Way : Type 0 where
    Onward : Place → Work → Way
    Refused : Way
    Lost : Way

  -- what waits for the end of a function: nothing behind the entry, else its caller
  pub data Caller : Type 0 where
    Nobody : Caller
    Path : ℕ → Place → Work → Caller

  -- what comes behind a statement
  pub data Ahead : Type 0 where
    -- the rest of its block
    Rest : Scope → ItemTrees → Ahead → Ahead
    -- the end of an `if`
    Join : Place → Ahead → Ahead
    -- the end of a loop's body; the loop's place, and that behind it
    Again : Place → Loop → (behind : Place) → Ahead → Ahead
    -- the end of a `switch`
    Close : Place → Ahead → Ahead
    -- the end of the function's body
    End : Caller → Ahead

  -- Each kind ends with what is done next. Values wait on a stack; the topmost was computed last.
  pub data Work : Type 0 where
    Go : Ahead → Work
    -- trees
    Do : StatementTree → Ahead → Work
    Declare : List DeclaredTree → Work → Work
    Perform : EffectTree → Work → Work
    Evaluate : ValueTree → Work → Work  -- its value is laid on top
    Test : ValueTree → (yes no : Way) → Work
    -- operators
    Keep : Work → Work  -- the topmost waits for another operand
    Branch : (yes no : Way) → Work  -- by the topmost
    Apply : Op → Pos → IntType → Work → Work  -- to the topmost
    Operate : Op → Pos → IntType → Work → Work  -- on the two topmost
    Convert : IntType → Work → Work  -- the topmost
    Settle : IntType → Work → Work  -- the same, as a value of its own
    Truth : ℤ → Work → Work  -- a truth is laid on top
    Drop : Work → Work  -- the topmost isn't used
    -- scalars
    Assign : IntType → Object → Work → Work  -- the topmost, which stays
    Put : IntType → Object → Work → Work  -- the topmost, which goes
    Update : Op → Pos → (operator own : IntType) → Object → Work → Work  -- by the topmost
    Advance : Op → Pos → (operator own : IntType) → Object → Work → Work  -- by 1
    Fetch : IntType → Object → Work → Work  -- its value is laid on top
    -- elements, at the place of their `[`: of the values on top the index lies below
    Load : Pos → Array → Work → Work  -- in place of the index
    Reload : Pos → Array → Work → Work  -- above the index and the right side
    Store : Pos → Array → Work → Work  -- the topmost; both go
    StoreKept : Pos → Array → Work → Work  -- the topmost, which stays
    Renew : Op → Pos → IntType → Pos → Array → Work → Work  -- the element by the right side; all three go
    Renewed : Op → Pos → (operator own : IntType) → Work → Work  -- the same as a value, which isn't stored yet
    Replace : Op → Pos → IntType → Pos → Array → Work → Work  -- the element by 1; its old value stays
    Fill : Array → ℕ → ValueTrees → Work → Work  -- a braced list, from an element on
    Item : Array → ℕ → Work → Work  -- the topmost goes into an element
    Claim : Pos → Work → Work  -- an assertion of the topmost
    -- calls
    Pass : ValueTrees → Work → Work  -- arguments that aren't evaluated yet
    Bind : (path i : ℕ) → List IntType → Work → Work  -- parameters of a path that have no value yet
    Enter : (path : ℕ) → Work → Work
    Leave : Caller → Work  -- the way to the function's exit
    Return : Caller → Work  -- the exit
    -- loops and switches
    Turn : Place → Loop → (behind : Place) → Ahead → Work  -- where a loop begins again
    Back : Place → Loop → (behind : Place) → Ahead → Work  -- the way there
    Choose : IntType → List ℤ → ℕ → Bool → StatementTree → Place → Ahead → Work  -- the cases left, from a number on
