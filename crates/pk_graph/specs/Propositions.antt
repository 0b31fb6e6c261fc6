-- What is said of a graph is a fact: there is at most one way in which it holds.
use Rattle.std.proofs.Common.{ℕ}
use Rattle.std.proofs.Props.{props}
use Rattle.pk_ctypes.specs.declared.types.IntType.{IntType}
use Rattle.pk_ctypes.specs.declared.types.Op.{Op}
use Rattle.pk_ctypes.specs.declared.types.Op.TheVariants.{Add, Sub, Mul, Div, Rem, Shl, Shr, And, Or, Xor, Lt, Gt, Le, Ge, Eq, Ne, Neg, BitNot, Not}
use Rattle.pk_graph.specs.Trees.{TreeOf, constant, variable, converted, unary, binary, InstrOf, Skip, Set, Havoc, Clear, Load, Store, Guard, Check}
use Rattle.pk_graph.specs.Kinds.{Kinds, IsUnary, IsRight, IsTyped, IsTypedInstr}
use Rattle.pk_graph.specs.Graphs.{VariableOf, StartOf, any_start, number_start, GraphOf}
use Rattle.pk_graph.specs.WellMade.{IsStartOf, IsGraph}

IsUnary-prop : (op : Op) → IsProp (IsUnary op)
IsUnary-prop Neg = hlevel props
IsUnary-prop BitNot = hlevel props
IsUnary-prop Not = hlevel props
IsUnary-prop Add = hlevel props
IsUnary-prop Sub = hlevel props
IsUnary-prop Mul = hlevel props
IsUnary-prop Div = hlevel props
IsUnary-prop Rem = hlevel props
IsUnary-prop Shl = hlevel props
IsUnary-prop Shr = hlevel props
IsUnary-prop And = hlevel props
IsUnary-prop Or = hlevel props
IsUnary-prop Xor = hlevel props
IsUnary-prop Lt = hlevel props
IsUnary-prop Gt = hlevel props
IsUnary-prop Le = hlevel props
IsUnary-prop Ge = hlevel props
IsUnary-prop Eq = hlevel props
IsUnary-prop Ne = hlevel props

IsRight-prop : (op : Op) (t u : IntType) → IsProp (IsRight op t u)
IsRight-prop Add t u = hlevel props
IsRight-prop Sub t u = hlevel props
IsRight-prop Mul t u = hlevel props
IsRight-prop Div t u = hlevel props
IsRight-prop Rem t u = hlevel props
IsRight-prop Shl t u = hlevel props
IsRight-prop Shr t u = hlevel props
IsRight-prop And t u = hlevel props
IsRight-prop Or t u = hlevel props
IsRight-prop Xor t u = hlevel props
IsRight-prop Lt t u = hlevel props
IsRight-prop Gt t u = hlevel props
IsRight-prop Le t u = hlevel props
IsRight-prop Ge t u = hlevel props
IsRight-prop Eq t u = hlevel props
IsRight-prop Ne t u = hlevel props
IsRight-prop Neg t u = hlevel props
IsRight-prop BitNot t u = hlevel props
IsRight-prop Not t u = hlevel props

IsTyped-prop : (ks : Kinds) (e : TreeOf ℕ) → IsProp (IsTyped ks e)
IsTyped-prop ks (constant t n) = hlevel props
IsTyped-prop ks (variable x) = hlevel props
IsTyped-prop ks (converted t e) = IsTyped-prop ks e
IsTyped-prop ks (unary op s t e) = hlevel (props, IsUnary-prop op, IsTyped-prop ks e)
IsTyped-prop ks (binary op s t a b) = hlevel (props, IsRight-prop op, IsTyped-prop ks a, IsTyped-prop ks b)

IsTypedInstr-prop : (ks : Kinds) (i : InstrOf ℕ) → IsProp (IsTypedInstr ks i)
IsTypedInstr-prop ks Skip = hlevel props
IsTypedInstr-prop ks (Set x e) = hlevel (props, IsTyped-prop ks e)
IsTypedInstr-prop ks (Havoc x t n) = hlevel props
IsTypedInstr-prop ks (Clear a) = hlevel props
IsTypedInstr-prop ks (Load x a s b i) = hlevel (props, IsTyped-prop ks i)
IsTypedInstr-prop ks (Store a s b i e) = hlevel (props, IsTyped-prop ks i, IsTyped-prop ks e)
IsTypedInstr-prop ks (Guard e b) = hlevel (props, IsTyped-prop ks e)
IsTypedInstr-prop ks (Check s e) = hlevel (props, IsTyped-prop ks e)

IsStartOf-prop : (x : VariableOf) (s : StartOf) → IsProp (IsStartOf x s)
IsStartOf-prop x any_start = hlevel props
IsStartOf-prop x (number_start zs) = hlevel props

pub IsGraph-prop : (g : GraphOf) → IsProp (IsGraph g)
IsGraph-prop g = hlevel (props, IsTypedInstr-prop, IsStartOf-prop)
