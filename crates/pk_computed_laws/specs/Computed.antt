-- What the next step of a run computes, as far as it can fault.
use Rattle.std.specs.Prelude.{◌≡◌, ℤ, List}
use Rattle.pk_ctypes.specs.declared.places.Pos.{Pos}
use Rattle.pk_ctypes.specs.declared.types.IntType.{IntType}
use Rattle.pk_ctypes.specs.declared.types.Op.{Op}
use Rattle.pk_ctypes.specs.declared.faults.Fault.{Fault}
use Rattle.pk_ctypes.specs.declared.faults.Fault.TheVariants.{Index, Assert}
use Rattle.pk_ctypes.specs.Laws.{FaultsWith}
use Rattle.pk_typed.specs.Trees.{ValueTree}
use Rattle.pk_typed.specs.Trees as tree
use Rattle.pk_graph.specs.declared.trees.Site.{Site}
use Rattle.pk_graph.specs.Steps.{Numbers}
use Rattle.pk_lower_row.specs.declared.shapes.Shape.TheVariants.{Fixed}
use Rattle.pk_lower_row.specs.Shapes.{shape_of}
use Rattle.pk_welltyped.specs.WellTyped.{operands}
use Rattle.pk_meaning.specs.Objects.{Object, Array}
use Rattle.pk_meaning.specs.Programs.{Program}
use Rattle.pk_meaning.specs.Work as work
use Rattle.pk_meaning.specs.Work.{Work}
use Rattle.pk_meaning.specs.Steps.{Config, To, Faulted, step}
use Rattle.pk_meaning.specs.Runs.{Visit, Runs}

-- an operator with one operand or two, in the type to which they are converted; an index; an assertion
pub data Operation : Type 0 where
  one : Op → IntType → Operation
  two : Op → IntType → Operation
  index : Operation
  assertion : Operation

-- an operator takes so many operands
abbrev pub IsTaken : Operation → Type 0
IsTaken (one op t) = operands op ≡ 1
IsTaken (two op t) = operands op ≡ 2
IsTaken index = Unit {0}
IsTaken assertion = Unit {0}

-- A fault that it can come to: of an operator one that the table of operators has at some numbers; an index outside of its array (C99 6.5.6); an assertion that is false.
abbrev pub CanFault : Operation → Fault → Type 0
CanFault (one op t) f = IsTaken (one op t) × (a : ℤ) × FaultsWith t a a op f
CanFault (two op t) f = IsTaken (two op t) × (a : ℤ) × (b : ℤ) × FaultsWith t a b op f
CanFault index f = f ≡ Index
CanFault assertion f = f ≡ Assert

-- what the next step computes where this work is at hand, and at which place
pub data Computes : Work → Pos → Operation → Type 0 where
  apply : {op : Op} {at : Pos} {t : IntType} {w : Work} → Computes (work.Apply op at t w) at (one op t)
  operate : {op : Op} {at : Pos} {t : IntType} {w : Work} → Computes (work.Operate op at t w) at (two op t)
  update : {op : Op} {at : Pos} {o t : IntType} {x : Object} {w : Work} →
      Computes (work.Update op at o t x w) at (two op o)
  advance : {op : Op} {at : Pos} {o t : IntType} {x : Object} {w : Work} →
      Computes (work.Advance op at o t x w) at (two op o)
  load : {at : Pos} {a : Array} {w : Work} → Computes (work.Load at a w) at index
  reload : {at : Pos} {a : Array} {w : Work} → Computes (work.Reload at a w) at index
  store : {at : Pos} {a : Array} {w : Work} → Computes (work.Store at a w) at index
  store_kept : {at : Pos} {a : Array} {w : Work} → Computes (work.StoreKept at a w) at index
  renew : {op : Op} {at r : Pos} {o : IntType} {a : Array} {w : Work} →
      Computes (work.Renew op at o r a w) at (two op o)
  renew_index : {op : Op} {at r : Pos} {o : IntType} {a : Array} {w : Work} →
      Computes (work.Renew op at o r a w) r index
  renewed : {op : Op} {at : Pos} {o t : IntType} {w : Work} → Computes (work.Renewed op at o t w) at (two op o)
  replace : {op : Op} {at r : Pos} {o : IntType} {a : Array} {w : Work} →
      Computes (work.Replace op at o r a w) at (two op o)
  replace_index : {op : Op} {at r : Pos} {o : IntType} {a : Array} {w : Work} →
      Computes (work.Replace op at o r a w) r index
  claim : {at : Pos} {w : Work} → Computes (work.Claim at w) at assertion

abbrev pub site : Config → Pos → Site
site c at = record { path = c.path; at = at }

-- ---- operators on constants

-- an expression whose value is a constant, whatever it does before
abbrev pub IsConstant : ValueTree → Type 0
IsConstant (tree.constant t z) = Unit {0}
IsConstant (tree.unary op at t e) = IsConstant e
IsConstant (tree.convert t e) = IsConstant e
IsConstant (tree.binary op at t a b) = IsConstant a × IsConstant b
IsConstant (tree.then_value e v) = IsConstant v
IsConstant e = ⊥

-- the work at hand computes the operator of this expression, whose operands are constants; the work behind it
pub data IsOfConstants : Work → ValueTree → Work → Type 0 where
  one_constant : {op : Op} {at : Pos} {t : IntType} {e : ValueTree} {w : Work} → IsConstant e →
      IsOfConstants (work.Apply op at t w) (tree.unary op at t e) w
  two_constants : {op : Op} {at : Pos} {t : IntType} {a b : ValueTree} {w : Work} → IsConstant a → IsConstant b →
      IsOfConstants (work.Operate op at t w) (tree.binary op at t a b) w

-- a configuration of the run from one to another
pub record IsOn (p : Program) (first last c : Config) : Type 0 where
  pub visits : List Visit
  pub before : Runs p first visits c
  pub others : List Visit
  pub after : Runs p c others last

-- The run began to evaluate the operator on its path as one of constants, with the same work behind it, and it doesn't fault.
pub record IsOnConstants (p : Program) (first last : Config) : Type 0 where
  pub expression : ValueTree
  pub behind : Work
  pub constants : IsOfConstants last.work expression behind
  pub begun : Config
  pub on : IsOn p first last begun
  pub path : begun.path ≡ last.path
  pub begins : begun.work ≡ work.Evaluate expression behind
  pub next : Config
  pub goes_on : (chosen : Numbers) → step p chosen last ≡ To next

-- And the lowering knows the operator's value. Then the graph has that in its place.
pub record IsFolded (p : Program) (first last : Config) : Type 0 where
  pub operator : IsOnConstants p first last
  pub value : ℤ
  pub folded : shape_of operator.expression ≡ Fixed value

-- ---- nothing is left out

-- Where a step fails it computes an operation at that place, which can come to that fault.
abbrev pub FaultsAreComputed : Type 0
FaultsAreComputed =
    (p : Program) (chosen : Numbers) (c : Config) (fault : Fault) (place : Site) →
    step p chosen c ≡ Faulted fault place →
    (at : Pos) × (operation : Operation) × Computes c.work at operation × (place ≡ site c at)
    × (IsTaken operation → CanFault operation fault)
