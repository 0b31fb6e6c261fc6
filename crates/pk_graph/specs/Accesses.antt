-- The accesses of a graph: its operations that can fault, in order of evaluation.
use Rattle.std.specs.Prelude.{ℕ, ◌+◌, Bool, true, false, List, [], ◌∷◌, ◌++◌}
use Rattle.pk_ctypes.specs.declared.faults.Fault.{Fault}
use Rattle.pk_ctypes.specs.declared.faults.Fault.TheVariants as faults
use Rattle.pk_ctypes.specs.declared.types.IntType.{IntType}
use Rattle.pk_ctypes.specs.declared.types.Op.{Op}
use Rattle.pk_ctypes.specs.declared.types.Op.TheVariants.{Add, Sub, Mul, Div, Rem, Shl, Shr, Neg}
use Rattle.pk_ctypes.specs.Types.{is_signed_of}
use Rattle.pk_graph.specs.declared.trees.Site.{Site}
use Rattle.pk_graph.specs.Trees.{TreeOf, constant, variable, converted, unary, binary, InstrOf, Skip, Set, Havoc, Clear, Load, Store, Guard, Check}
use Rattle.pk_graph.specs.Graphs.{EdgeOf, PointOf, GraphOf}

-- how an operation can fault, with its operands
pub data OperationOf : Type 0 where
  -- an index of an array of so many elements
  Index : ℕ → TreeOf ℕ → OperationOf
  -- a division: its dividend and its divisor
  Divisor : TreeOf ℕ → TreeOf ℕ → OperationOf
  -- signed operators whose result may lie outside of the type
  Negation : IntType → TreeOf ℕ → OperationOf
  Result : Op → IntType → TreeOf ℕ → TreeOf ℕ → OperationOf
  -- a shift: the left operand and the count
  Shift : Op → IntType → TreeOf ℕ → TreeOf ℕ → OperationOf
  Assertion : TreeOf ℕ → OperationOf

-- the fault that it can come to
abbrev pub fault_of : OperationOf → Fault
fault_of (Index n i) = faults.Index
fault_of (Divisor a b) = faults.DivZero
fault_of (Negation t e) = faults.Overflow
fault_of (Result op t a b) = faults.Overflow
fault_of (Shift op t a b) = faults.Shift
fault_of (Assertion e) = faults.Assert

-- an access of a point
pub record AccessOf : Type 0 where
  pub point : ℕ
  pub site : Site
  pub operation : OperationOf

abbrev pub access : ℕ → Site → OperationOf → AccessOf
access p s o = record { point = p; site = s; operation = o }

abbrev pub if_signed : IntType → AccessOf → List AccessOf
if_signed t a = signed_only (is_signed_of t) a
  where
    signed_only : Bool → AccessOf → List AccessOf
    signed_only true a = a ∷ []
    signed_only false a = []

-- those of an operator with one operand itself
abbrev pub of_unary : ℕ → Op → Site → IntType → TreeOf ℕ → List AccessOf
of_unary p Neg s t e = if_signed t (access p s (Negation t e))
of_unary p op s t e = []

-- those of an operator with two; a division by 0 comes before its overflow
abbrev pub of_binary : ℕ → Op → Site → IntType → TreeOf ℕ → TreeOf ℕ → List AccessOf
of_binary p Add s t a b = if_signed t (access p s (Result Add t a b))
of_binary p Sub s t a b = if_signed t (access p s (Result Sub t a b))
of_binary p Mul s t a b = if_signed t (access p s (Result Mul t a b))
of_binary p Div s t a b = access p s (Divisor a b) ∷ if_signed t (access p s (Result Div t a b))
of_binary p Rem s t a b = access p s (Divisor a b) ∷ if_signed t (access p s (Result Rem t a b))
of_binary p Shl s t a b = access p s (Shift Shl t a b) ∷ []
of_binary p Shr s t a b = access p s (Shift Shr t a b) ∷ []
of_binary p op s t a b = []

-- operands from left to right, then the operator
unfoldable pub of_tree : ℕ → TreeOf ℕ → List AccessOf
of_tree p (constant t n) = []
of_tree p (variable x) = []
of_tree p (converted t e) = of_tree p e
of_tree p (unary op s t e) = of_tree p e ++ of_unary p op s t e
of_tree p (binary op s t a b) = of_tree p a ++ of_tree p b ++ of_binary p op s t a b

-- an index, if it is an access
abbrev pub of_index : ℕ → Bool → Site → ℕ → TreeOf ℕ → List AccessOf
of_index p true s n i = access p s (Index n i) ∷ []
of_index p false s n i = []

-- an index is tested where the element is read or written, behind all operands
unfoldable pub of_instr : ℕ → InstrOf ℕ → List AccessOf
of_instr p Skip = []
of_instr p (Set x e) = of_tree p e
of_instr p (Havoc x t n) = []
of_instr p (Clear a) = []
of_instr p (Load x a s b i) = of_tree p i ++ of_index p b s a.length i
of_instr p (Store a s b i e) = of_tree p i ++ of_tree p e ++ of_index p b s a.length i
of_instr p (Guard e b) = of_tree p e
of_instr p (Check s e) = of_tree p e ++ access p s (Assertion e) ∷ []

-- A point has one edge, or the two guards of one test, which share their accesses: those of its first edge.
abbrev pub of_edges : ℕ → List EdgeOf → List AccessOf
of_edges p [] = []
of_edges p (e ∷ es) = of_instr p e.instr

-- by number of their points
abbrev pub of_points : ℕ → List PointOf → List AccessOf
of_points p [] = []
of_points p (x ∷ xs) = of_edges p x.edges ++ of_points (p + 1) xs

abbrev pub accesses_of : GraphOf → List AccessOf
accesses_of g = of_points 0 g.points
