-- The walk through the places of a nest, with the heads of the components that are open, the innermost first.
use Rattle.std.specs.Prelude.{ℕ, ◌<◌, ◌==◌, Bool, false, Option, None, Some, List, [], ◌∷◌}
use Rattle.pk_plan.specs.declared.nests.NestPlace.{NestPlace}
use Rattle.pk_plan.specs.declared.nests.NestPlace.TheVariants.{Vertex, Head, Exit}

abbrev pub first_of : List ℕ → Option ℕ
first_of [] = None
first_of (h ∷ opened) = Some h

-- the elements at the places; an end where nothing is open has none
abbrev pub walk_elements : (ℕ → ℕ) → List NestPlace → List ℕ → List ℕ
walk_elements exit [] opened = []
walk_elements exit (Vertex v ∷ places) opened = v ∷ walk_elements exit places opened
walk_elements exit (Head h ∷ places) opened = h ∷ walk_elements exit places (h ∷ opened)
walk_elements exit (Exit ∷ places) [] = walk_elements exit places []
walk_elements exit (Exit ∷ places) (h ∷ opened) = exit h ∷ walk_elements exit places opened

-- and the components that they stand in
abbrev pub walk_homes : List NestPlace → List ℕ → List (Option ℕ)
walk_homes [] opened = []
walk_homes (Vertex v ∷ places) opened = first_of opened ∷ walk_homes places opened
walk_homes (Head h ∷ places) opened = first_of opened ∷ walk_homes places (h ∷ opened)
walk_homes (Exit ∷ places) [] = walk_homes places []
walk_homes (Exit ∷ places) (h ∷ opened) = first_of opened ∷ walk_homes places opened

-- the head at a place is below a number
abbrev pub HeadBelow : ℕ → NestPlace → Type 0
HeadBelow n (Vertex v) = Unit {0}
HeadBelow n (Head h) = h < n
HeadBelow n Exit = Unit {0}

-- whether v is the head at a place
abbrev pub is_head_at : ℕ → NestPlace → Bool
is_head_at v (Vertex u) = false
is_head_at v (Head h) = v == h
is_head_at v Exit = false
