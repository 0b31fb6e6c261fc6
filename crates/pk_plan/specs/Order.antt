-- The bracketed order in which elements are run.
use Rattle.std.specs.Prelude.{◌≡◌, ℕ, List, [], ◌∷◌, ◌++◌, ◌+◌, length}
use Rattle.pk_plan.specs.declared.places.Role.{Role}
use Rattle.pk_plan.specs.declared.places.Role.TheVariants.{Vertex, Head, Exit}
use Rattle.pk_plan.specs.declared.places.Place.{Place}

-- A level of the order, from left to right: vertices, and components, each with its head, its exit and the level of its rest.
pub data Level : Type 0 where
  Empty : Level
  Vertex_then : (v : ℕ) → Level → Level
  Component_then : (head exit : ℕ) → Level → Level → Level

-- the places of a level, one for each element, a component's exit after its rest
abbrev pub places_of : Level → List Place
places_of Empty = []
places_of (Vertex_then v more) = record { element = v; role = Vertex } ∷ places_of more
places_of (Component_then head exit rest more) =
    record { element = head; role = Head }
    ∷ (places_of rest ++ (record { element = exit; role = Exit (length (places_of rest) + 1) } ∷ places_of more))

-- what is read of places, from the right: a level, and the components whose heads are still to come, the innermost first,
-- each by its exit and the level that comes after it
pub record Reading : Type 0 where
  pub level : Level
  pub waiting : List (ℕ × Level)

-- A head begins the innermost component that waits for one. Where none waits the places spell no level, and a head is read as a vertex.
abbrev pub read_head : ℕ → Level → List (ℕ × Level) → Reading
read_head head rest [] = record { level = Vertex_then head rest; waiting = [] }
read_head head rest (w ∷ waiting) = record { level = Component_then head w.0 rest w.1; waiting = waiting }

-- one place more, to the left of what was read
abbrev pub read_place : ℕ → Role → Reading → Reading
read_place e Vertex read = record { level = Vertex_then e read.level; waiting = read.waiting }
read_place e Head read = read_head e read.level read.waiting
read_place e (Exit back) read = record { level = Empty; waiting = (e, read.level) ∷ read.waiting }

abbrev pub reading_of : List Place → Reading
reading_of [] = record { level = Empty; waiting = [] }
reading_of (place ∷ places) = read_place place.element place.role (reading_of places)

-- the level that places spell
abbrev pub level_of : List Place → Level
level_of places = (reading_of places).level

-- the places are those of the level that they spell
abbrev pub IsBracketed : List Place → Type 0
IsBracketed places = places ≡ places_of (level_of places)
