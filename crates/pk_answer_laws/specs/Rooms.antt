-- Which graphs memory has room for.
use Rattle.std.specs.Prelude.{ℕ, ◌+◌, ◌<◌, ◌^◌, List, [], ◌∷◌, length, All}
use Rattle.pk_graph.specs.Graphs.{StartOf, any_start, number_start, VariableOf, PointOf, GraphOf}
use Rattle.pk_graph.specs.WellMade.{IsGraph}
use Rattle.pk_answer_laws.specs.Analyses.{HasRoom}

abbrev pub IsShortStart : StartOf → Type 0
IsShortStart any_start = Unit {0}
IsShortStart (number_start zs) = length zs < 2 ^ 63

-- how many entries the scopes of points have, all together
abbrev pub entries_in_scope : List PointOf → ℕ
entries_in_scope [] = 0
entries_in_scope (p ∷ ps) = length p.scope + entries_in_scope ps

-- no list is as long as 2^63
pub record IsShortGraph (g : GraphOf) : Type 0 where
  pub paths : length g.paths < 2 ^ 63
  pub variables : length g.variables < 2 ^ 63
  pub starts : All (λ (x : VariableOf). IsShortStart x.start) g.variables
  pub edges : All (λ (p : PointOf). length p.edges < 2 ^ 63) g.points
  pub scopes : entries_in_scope g.points < 2 ^ 63

abbrev pub ShortGraphsHaveRoom : Type 0
ShortGraphsHaveRoom = (g : GraphOf) → IsGraph g → IsShortGraph g → HasRoom g
