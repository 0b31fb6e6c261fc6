-- The numbers at which widening stops (Cousot and Cousot 1992): each constant of a graph's trees, and those next to it.
use Rattle.std.specs.Prelude.{ℕ, ℤ, pos, ◌+ℤ◌, ◌-ℤ◌, List, [], ◌∷◌, ◌++◌, ◌↔◌, Contains}
use Rattle.std.specs.List.{flat_map}
use Rattle.std.specs.List.Sorted.{IsSorted, IsStrictlySortedBy}
use Rattle.std.specs.Ordering.{int_cmp}
use Rattle.pk_graph.specs.Trees.{TreeOf, constant, variable, converted, unary, binary, InstrOf, Skip, Set, Havoc, Clear, Load, Store, Guard, Check}
use Rattle.pk_graph.specs.Graphs.{EdgeOf, PointOf, GraphOf}

unfoldable pub constants_in : TreeOf ℕ → List ℤ
constants_in (constant t n) = n ∷ []
constants_in (variable x) = []
constants_in (converted t e) = constants_in e
constants_in (unary op s t e) = constants_in e
constants_in (binary op s t a b) = constants_in a ++ constants_in b

unfoldable pub constants_on : InstrOf ℕ → List ℤ
constants_on Skip = []
constants_on (Set x e) = constants_in e
constants_on (Havoc x t n) = []
constants_on (Clear a) = []
constants_on (Load x a s b i) = constants_in i
constants_on (Store a s b i e) = constants_in i ++ constants_in e
constants_on (Guard e b) = constants_in e
constants_on (Check s e) = constants_in e

abbrev pub constants_along : List EdgeOf → List ℤ
constants_along = flat_map (λ (e : EdgeOf). constants_on e.instr)

abbrev pub constants_at : PointOf → List ℤ
constants_at p = constants_along p.edges

-- the constants of the trees on a graph's edges
abbrev pub constants_of : GraphOf → List ℤ
constants_of g = flat_map constants_at g.points

abbrev pub around : ℤ → List ℤ
around c = (c -ℤ pos 1) ∷ c ∷ (c +ℤ pos 1) ∷ []

abbrev pub numbers_around : List ℤ → List ℤ
numbers_around cs = flat_map around cs

-- these numbers in rising order, each once
pub record AreThresholds (g : GraphOf) (ts : List ℤ) : Type 0 where
  pub rising : IsStrictlySortedBy int_cmp ts
  pub sorted : IsSorted int_cmp ts
  pub each : (z : ℤ) → Contains ts z ↔ Contains (numbers_around (constants_of g)) z
