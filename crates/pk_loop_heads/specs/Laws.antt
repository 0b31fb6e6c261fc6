-- Where a loop into which nothing jumps begins again is a head.
use Rattle.std.specs.Prelude.{◌≡◌, ℕ, List, slice_get, Contains, Option, Some}
use Rattle.std.specs.Option.{option_and_then}
use Rattle.pk_ctypes.specs.declared.places.Pos.{Pos}
use Rattle.pk_typed.specs.Trees.{StatementTree, BodyTree, UnitTree}
use Rattle.pk_calls.specs.declared.listings.CallPath.{CallPath}
use Rattle.pk_calls.specs.Calls.{body_of}
use Rattle.pk_calls.specs.Answers.{HasPaths}
use Rattle.pk_graph.specs.Graphs.{GraphOf}
use Rattle.pk_lower.specs.Graphs.{graph_of}
use Rattle.pk_welltyped.specs.WellTyped.{IsUnit}
use Rattle.pk_welltyped.specs.Marks.{AreMarked}
use Rattle.pk_plan.specs.Order.{Level}
use Rattle.pk_plan.specs.Plans.{PlanView}
use Rattle.pk_order.specs.Ordered.{IsOrdered, heads_of}
use Rattle.pk_head_laws.specs.Entries.{ends_of, IsLedToTwice, IsReturnedTo}
use Rattle.pk_visits.specs.Turns.{TurnPoint, turning}
use Rattle.pk_visits.specs.Turning.{graph_turns}
use Rattle.pk_loop_heads.specs.Loops.{IsClosed, HasLoopIn}

-- the body of the path's function
abbrev pub body_on : UnitTree → List CallPath → (path : ℕ) → Option BodyTree
body_on u paths k = option_and_then (λ (p : CallPath). body_of u p.function) (slice_get paths k)

-- At this place in the body of the path's function stands a loop into which nothing jumps from outside.
pub record IsPlainLoop (u : UnitTree) (paths : List CallPath) (path : ℕ) (at : Pos) : Type 0 where
  pub body : BodyTree
  pub is_body : body_on u paths path ≡ Some body
  pub inner : StatementTree
  pub loop : HasLoopIn at inner body.items
  pub closed : IsClosed body.items inner

-- t is a head exactly if edges lead to it from two points: from one before the loop that begins again there, and back. So it is wherever one turn can follow another without leaving the loop: a way leads back to t over points
-- none of which is before it, as none of the loop's is, and the one is from which the loop is entered.
pub record IsHeadIfTurned (g : GraphOf) (t : ℕ) : Type 0 where
  pub head : (p : PlanView) (order : Level) → IsOrdered (ends_of g) p order → IsLedToTwice (ends_of g) t →
      Contains (heads_of p) t
  pub turned : (p : PlanView) (order : Level) → IsOrdered (ends_of g) p order → Contains (heads_of p) t →
      IsLedToTwice (ends_of g) t
  pub followed : (p : PlanView) (order : Level) → IsOrdered (ends_of g) p order → IsReturnedTo (ends_of g) t →
      Contains (heads_of p) t

-- each plain loop of a path begins again at such a point
abbrev pub PlainLoopsHaveHeads : GraphOf → (IsPlain : ℕ → Pos → Type 0) → (turns : ℕ → List TurnPoint) → Type 0
PlainLoopsHaveHeads g IsPlain turns =
    (path : ℕ) (at : Pos) → IsPlain path at → (t : ℕ) × Contains (turns path) (turning at t) × IsHeadIfTurned g t

-- Every typed unit, in which each label stands once, with its call paths, and the graph that the lowering makes of it.
abbrev pub LoopsHaveHeads : Type 0
LoopsHaveHeads =
    (u : UnitTree) (name : List ℕ) (paths : List CallPath) → IsUnit u → AreMarked u →
    HasPaths u name paths
    → PlainLoopsHaveHeads (graph_of u paths) (IsPlainLoop u paths) (graph_turns u paths)
