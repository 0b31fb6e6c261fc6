-- Where runs of a graph begin.
use Rattle.std.specs.Prelude.{◌≡◌, ℕ, ◌<◌, ◌-◌, true, pos, ◌++◌, length, replicate}
use Rattle.pk_graph.specs.Kinds.{count_of}
use Rattle.pk_graph.specs.Graphs.{VariableOf, StartOf, any_start, number_start, GraphOf, variable_at}
use Rattle.pk_graph.specs.Steps.{Numbers, are_any}
use Rattle.pk_graph.specs.Stores.{Stored, numbers_of}

-- what a variable may hold when a run begins: any numbers of its type, as many as it has, or the given ones and 0 for the others
abbrev pub BeginsWith : VariableOf → StartOf → Numbers → Type 0
BeginsWith x any_start zs = are_any x.kind.int_type (count_of x.kind.length) zs ≡ true
BeginsWith x (number_start ns) zs = zs ≡ ns ++ replicate (count_of x.kind.length - length ns) (pos 0)

-- a store with which a run begins
pub record Begins (g : GraphOf) (s : Stored) : Type 0 where
  pub size : length s ≡ length g.variables
  pub each : (x : ℕ) → x < length g.variables → BeginsWith (variable_at g x) (variable_at g x).start (numbers_of s x)
