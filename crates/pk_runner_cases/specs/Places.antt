-- Where runs of graphs are.
use Rattle.std.specs.Prelude.{◌≡◌, ℕ, ◌<◌, length}
use Rattle.pk_ctypes.specs.declared.types.IntType.{IntType}
use Rattle.pk_ctypes.specs.Types.{InType}
use Rattle.pk_graph.specs.Graphs.{GraphOf, kinds_of}
use Rattle.pk_graph.specs.Steps.{Numbers, number_at}
use Rattle.pk_graph.specs.Stores.{Stored, IsStore}

-- so many numbers, each of the type
pub record AreNumbers (t : IntType) (n : ℕ) (zs : Numbers) : Type 0 where
  pub count : length zs ≡ n
  pub fits : (i : ℕ) → i < n → InType t (number_at zs i)

-- a point of the graph, with a store of its variables
pub record IsAt (g : GraphOf) (p : ℕ) (s : Stored) : Type 0 where
  pub point : p < length g.points
  pub store : IsStore (kinds_of g) s
