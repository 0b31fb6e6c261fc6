-- What holds of each name: P of those of a typed unit, and of those of a graph.
use Rattle.std.specs.Prelude.{ℕ, List, All, IfSome}
use Rattle.pk_typed.specs.Trees.{LocalTree, BodyTree, FunctionTree, FileObjectTree, UnitTree}
use Rattle.pk_graph.specs.Graphs.{PathOf, VariableOf, GraphOf}

abbrev pub OfNames : Type 1
OfNames = List ℕ → Type 0

-- a parameter may have no name
abbrev pub InLocals : OfNames → BodyTree → Type 0
InLocals P b = All (λ (x : LocalTree). IfSome x.name P) b.locals

pub record InFunction (P : OfNames) (f : FunctionTree) : Type 0 where
  pub name : P f.name
  pub locals : IfSome f.body (InLocals P)

pub record InUnit (P : OfNames) (u : UnitTree) : Type 0 where
  pub objects : All (λ (x : FileObjectTree). P x.name) u.objects
  pub functions : All (InFunction P) u.functions

-- temporaries and results have no name
pub record InGraph (P : OfNames) (g : GraphOf) : Type 0 where
  pub paths : All (λ (p : PathOf). P p.name) g.paths
  pub variables : All (λ (x : VariableOf). IfSome x.name P) g.variables
