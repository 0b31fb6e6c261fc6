-- The variables over which octagons stand: the first named scalars, by number, that occur in a guard, an assertion or an index.
use Rattle.std.specs.Prelude.{◌≡◌, ℕ, zero, suc, ◌+◌, ◌<◌, nat_eq, Bool, false, not, ◌&&◌, ◌||◌, if◌then◌else◌, List, [], ◌∷◌, length, slice_index_or, is_some}
use Rattle.std.specs.List.{list_any}
use Rattle.pk_graph.specs.Trees.{TreeOf, constant, variable, converted, unary, binary, InstrOf, Skip, Set, Havoc, Clear, Load, Store, Guard, Check}
use Rattle.pk_graph.specs.Graphs.{VariableOf, EdgeOf, PointOf, GraphOf}

-- whether a variable occurs in a tree
unfoldable pub occurs : ℕ → TreeOf ℕ → Bool
occurs x (constant t n) = false
occurs x (variable y) = nat_eq x y
occurs x (converted t e) = occurs x e
occurs x (unary op s t e) = occurs x e
occurs x (binary op s t a b) = occurs x a || occurs x b

-- in a guard, an assertion or an index of an instruction
unfoldable pub is_asked_by : ℕ → InstrOf ℕ → Bool
is_asked_by x Skip = false
is_asked_by x (Set y e) = false
is_asked_by x (Havoc y t n) = false
is_asked_by x (Clear a) = false
is_asked_by x (Load y a s b i) = occurs x i
is_asked_by x (Store a s b i e) = occurs x i
is_asked_by x (Guard e b) = occurs x e
is_asked_by x (Check s e) = occurs x e

abbrev pub is_asked_on : ℕ → List EdgeOf → Bool
is_asked_on x = list_any (λ (e : EdgeOf). is_asked_by x e.instr)

abbrev pub is_asked_in : ℕ → List PointOf → Bool
is_asked_in x = list_any (λ (p : PointOf). is_asked_on x p.edges)

abbrev pub is_named_scalar : VariableOf → Bool
is_named_scalar v = not (is_some v.kind.length) && is_some v.name

-- the first n of these variables, which are numbered from k on
unfoldable pub first_asked : List PointOf → (n k : ℕ) → List VariableOf → List ℕ
first_asked ps zero k vs = []
first_asked ps (suc n) k [] = []
first_asked ps (suc n) k (v ∷ vs) =
    if is_asked_in k ps && is_named_scalar v then k ∷ first_asked ps n (k + 1) vs else first_asked ps (suc n) (k + 1) vs

abbrev pub octagon_variables_of : GraphOf → ℕ → List ℕ
octagon_variables_of g n = first_asked g.points n 0 g.variables

-- marks of variables: those that were there, and those of which f says so
pub record AreMarked (f : ℕ → Bool) (old new : List Bool) : Type 0 where
  pub size : length new ≡ length old
  pub each : (x : ℕ) → x < length old → slice_index_or new x false ≡ slice_index_or old x false || f x

-- for each of n variables whether it is asked in these points
pub record AreMarks (ps : List PointOf) (n : ℕ) (marks : List Bool) : Type 0 where
  pub size : length marks ≡ n
  pub each : (x : ℕ) → x < n → slice_index_or marks x false ≡ is_asked_in x ps
