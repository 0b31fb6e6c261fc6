-- Packs of variables, over each of which a small octagon stands (after B. Blanchet and others, A static analyzer for large safety-critical software, 2003).
use Rattle.std.specs.Prelude.{ℕ, ◌+◌, Bool, List, [], ◌∷◌, length, map}
use Rattle.std.specs.List.{filter}
use Rattle.pk_graph.specs.Graphs.{EdgeOf, PointOf, GraphOf}
use Rattle.pk_graph.specs.OctagonVariables.{first_asked}
use Rattle.pk_plan.specs.declared.components.Component.{Component}
use Rattle.pk_plan.specs.Plans.{PlanView}
use Rattle.pk_packs.specs.Belongs.{lies_in, lies_in_none}

-- points, numbered from n on, with those of their edges alone that f takes
abbrev pub with_edges : (f : (from : ℕ) → EdgeOf → Bool) → ℕ → List PointOf → List PointOf
with_edges f n [] = []
with_edges f n (p ∷ ps) = record p { edges = filter (f n) p.edges } ∷ with_edges f (n + 1) ps

-- the octagon's variables, had the graph no other edges: the first n named scalars, by number, that occur in a guard, an assertion or an index of these
abbrev pub variables_over : GraphOf → (f : (from : ℕ) → EdgeOf → Bool) → ℕ → List ℕ
variables_over g f n = first_asked (with_edges f 0 g.points) n 0 g.variables

-- pack 0, and one for each component, by its head's number
abbrev pub packs_of : GraphOf → PlanView → ℕ → List (List ℕ)
packs_of g p n =
    variables_over g (lies_in_none p) n ∷ map (λ (c : Component). variables_over g (lies_in p c) n) p.components

-- the most packs, pack 0 among them
abbrev pub pack_limit : ℕ
pack_limit = 256

-- how many a plan has
abbrev pub pack_count : PlanView → ℕ
pack_count p = length p.components + 1
