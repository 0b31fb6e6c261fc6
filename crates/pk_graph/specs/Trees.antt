-- Trees and instructions over variables of some kind, without where they lie in memory.
use Rattle.std.specs.Prelude.{ℕ, Bool, ℤ}
use Rattle.pk_ctypes.specs.declared.types.IntType.{IntType}
use Rattle.pk_ctypes.specs.declared.types.Op.{Op}
use Rattle.pk_graph.specs.declared.trees.Site.{Site}

-- expressions without effects; an operator has the type to which its operands were converted
pub data TreeOf (V : Type 0) : Type 0 where
  constant : IntType → ℤ → TreeOf V
  variable : V → TreeOf V
  converted : IntType → TreeOf V → TreeOf V
  unary : Op → Site → IntType → TreeOf V → TreeOf V
  binary : Op → Site → IntType → TreeOf V → TreeOf V → TreeOf V

-- an array by its variable, with the number of its elements
pub record ArrayOf (V : Type 0) : Type 0 where
  pub variable : V
  pub length : ℕ

-- what an edge does; an index has its place, and whether it is an access that the report lists
pub data InstrOf (V : Type 0) : Type 0 where
  Skip : InstrOf V
  Set : V → TreeOf V → InstrOf V
  -- as many numbers of the type
  Havoc : V → IntType → ℕ → InstrOf V
  Clear : ArrayOf V → InstrOf V
  Load : V → ArrayOf V → Site → Bool → TreeOf V → InstrOf V
  Store : ArrayOf V → Site → Bool → TreeOf V → TreeOf V → InstrOf V
  Guard : TreeOf V → Bool → InstrOf V
  Check : Site → TreeOf V → InstrOf V
