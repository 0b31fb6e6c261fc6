-- The edges of a point: none, one, or the two guards of one test.
use Rattle.std.specs.Prelude.{◌≡◌, ℕ, ◌≤◌, List, [], ◌∷◌, true, false, All}
use Rattle.pk_typed.specs.Trees.{UnitTree}
use Rattle.pk_calls.specs.declared.listings.CallPath.{CallPath}
use Rattle.pk_calls.specs.Answers.{HasPaths}
use Rattle.pk_graph.specs.Trees.{TreeOf, Guard}
use Rattle.pk_graph.specs.Graphs.{EdgeOf, PointOf, point_at}
use Rattle.pk_graph.specs.Accesses.{of_instr, of_edges}
use Rattle.pk_lower.specs.Parts.{point_count}
use Rattle.pk_welltyped.specs.WellTyped.{IsUnit}
use Rattle.pk_welltyped.specs.Marks.{AreMarked}
use Rattle.pk_lower.specs.Graphs.{graph_of}
use Rattle.pk_lower.specs.Answers.{point_limit}

-- the guard where the test holds, and the one where it doesn't
abbrev pub AreGuards : EdgeOf → EdgeOf → Type 0
AreGuards e f = (t : TreeOf ℕ) × (e.instr ≡ Guard t true) × (f.instr ≡ Guard t false)

abbrev pub IsOneWay : List EdgeOf → Type 0
IsOneWay [] = Unit {0}
IsOneWay (e ∷ []) = Unit {0}
IsOneWay (e ∷ f ∷ []) = AreGuards e f
IsOneWay (e ∷ f ∷ g ∷ es) = ⊥

-- Every typed unit with its call paths, and the graph that the lowering makes of it.
abbrev pub PointsHaveOneWay : Type 0
PointsHaveOneWay =
    (u : UnitTree) (name : List ℕ) (paths : List CallPath) → IsUnit u → AreMarked u → HasPaths u name paths →
    point_count u paths ≤ point_limit
    → All (λ (p : PointOf). IsOneWay p.edges) (graph_of u paths).points

-- each edge has the accesses that are listed of the point: those of its first edge
abbrev pub SharesAccesses : ℕ → List EdgeOf → Type 0
SharesAccesses p es = All (λ (e : EdgeOf). of_instr p e.instr ≡ of_edges p es) es

abbrev pub PointsShareAccesses : Type 0
PointsShareAccesses =
    (u : UnitTree) (name : List ℕ) (paths : List CallPath) → IsUnit u → AreMarked u → HasPaths u name paths →
    point_count u paths ≤ point_limit
    → (p : ℕ) → SharesAccesses p (point_at (graph_of u paths) p).edges
