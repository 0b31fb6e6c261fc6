-- What is told is true of the points of the program's graph, which the lowering makes of it.
use Rattle.std.specs.Prelude.{◌≡◌, ℕ, List}
use Rattle.pk_typed.specs.Trees.{UnitTree}
use Rattle.pk_calls.specs.declared.listings.CallPath.{CallPath}
use Rattle.pk_front.specs.Programs.{IsProgram}
use Rattle.pk_graph.specs.Accesses.{accesses_of}
use Rattle.pk_lower.specs.Graphs.{graph_of}
use Rattle.pk_plan.specs.Order.{Level}
use Rattle.pk_plan.specs.Plans.{PlanView}
use Rattle.pk_order.specs.Ordered.{IsOrdered, heads_of}
use Rattle.pk_head_laws.specs.Entries.{ends_of}
use Rattle.pk_visits.specs.Turning.{graph_turns}
use Rattle.pk_report_laws.specs.Programs.Told.{Told}
use Rattle.pk_report_laws.specs.Programs.TrueOfPrograms.{IsTrueOfProgram}

-- the heads are those of the weak partial order that is made of the graph
pub record AreHeadsOf (t : Told) : Type 0 where
  pub plan : PlanView
  pub order : Level
  pub ordered : IsOrdered (ends_of t.graph) plan order
  pub heads : t.heads ≡ heads_of plan

-- The text, begun with this function, is a program; what is told so is told of the points, the accesses and the loops of its graph, and is true of it.
pub record TrueOfText (text entry : List ℕ) (AreBytes : Told → Type 0) : Type 0 where
  pub unit : UnitTree
  pub paths : List CallPath
  pub program : IsProgram text entry unit paths
  pub told : Told
  pub bytes : AreBytes told
  pub graph : told.graph ≡ graph_of unit paths
  pub accesses : told.accesses ≡ accesses_of (graph_of unit paths)
  pub turns : told.turns ≡ graph_turns unit paths
  pub holds : IsTrueOfProgram (record { unit = unit; paths = paths }) told
