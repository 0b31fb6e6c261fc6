-- What holds of every graph.
use Rattle.std.specs.Prelude.{◌<◌, ◌≤◌, ◌^◌, length, All}
use Rattle.pk_ctypes.specs.Types.{InType}
use Rattle.pk_graph.specs.declared.graphs.Entry.{Entry}
use Rattle.pk_graph.specs.Kinds.{count_of, IsTypedInstr}
use Rattle.pk_graph.specs.Graphs.{StartOf, any_start, number_start, VariableOf, EdgeOf, PointOf, GraphOf, kinds_of}

-- numbers of the variable's type, no more than it has
abbrev pub IsStartOf : VariableOf → StartOf → Type 0
IsStartOf x any_start = Unit {0}
IsStartOf x (number_start zs) = (length zs ≤ count_of x.kind.length) × All (InType x.kind.int_type) zs

pub record IsEdgeOf (g : GraphOf) (e : EdgeOf) : Type 0 where
  pub leads_to_a_point : e.to < length g.points
  pub typed : IsTypedInstr (kinds_of g) e.instr

pub record IsPointOf (g : GraphOf) (p : PointOf) : Type 0 where
  pub path : p.path < length g.paths
  pub scope : All (λ (e : Entry). e.variable < length g.variables) p.scope
  pub edges : All (IsEdgeOf g) p.edges

-- Its trees are typed, its edges lead to its points, and what it names is there. Point 0 is the entry.
pub record IsGraph (g : GraphOf) : Type 0 where
  pub entry : 0 < length g.points
  pub few : length g.points < 2 ^ 31
  pub points : All (IsPointOf g) g.points
  pub starts : All (λ (x : VariableOf). IsStartOf x x.start) g.variables
