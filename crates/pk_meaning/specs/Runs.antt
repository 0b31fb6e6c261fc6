-- Runs of a program, and what is seen of them.
use Rattle.std.specs.Prelude.{◌≡◌, ℕ, ◌+◌, true, if◌then◌else◌, List, [], ◌∷◌, map, Option, Some, None, option_map}
use Rattle.pk_ctypes.specs.declared.places.Pos.{Pos}
use Rattle.pk_ctypes.specs.declared.types.IntType.{IntType}
use Rattle.pk_ctypes.specs.Types.{is_in_type}
use Rattle.pk_graph.specs.Steps.{Numbers}
use Rattle.pk_meaning.specs.Objects.{Object, local, Objects, numbers_of, with_numbers}
use Rattle.pk_meaning.specs.Programs.{Program, function_of, name_of, first_objects}
use Rattle.pk_meaning.specs.Work.{Nobody}
use Rattle.pk_meaning.specs.Steps.{Config, To, step, body_place, body_work}

-- the parameters of the entry from number i on hold these numbers, one of each type
abbrev pub with_arguments : ℕ → List IntType → Numbers → Objects → Option Objects
with_arguments i [] [] s = Some s
with_arguments i [] (z ∷ zs) s = None
with_arguments i (t ∷ ts) [] s = None
with_arguments i (t ∷ ts) (z ∷ zs) s =
    if is_in_type t z then with_arguments (i + 1) ts zs (with_numbers (local 0 i) (z ∷ []) s) else None

abbrev pub begins : Program → Objects → Config
begins p s =
    record { path = 0; here = body_place p 0; work = body_work p 0 Nobody; values = []; objects = s; is_visit = true }

-- Where a run begins, if the choice is a number for each parameter of the entry (C99 5.1.2.2.1).
abbrev pub start : Program → Numbers → Option Config
start p ch = option_map (begins p) (with_arguments 0 (function_of p 0).parameters ch (first_objects p))

-- ---- visits

-- a name in scope, and what its object holds; a name hides the same name behind it
pub record Known : Type 0 where
  pub name : List ℕ
  pub numbers : Numbers

-- a visit: call path, place, and the names in scope there, newest first
pub record Visit : Type 0 where
  pub path : ℕ
  pub at : Pos
  pub known : List Known

abbrev pub known_of : Program → Objects → Object → Known
known_of p s x = record { name = name_of p x; numbers = numbers_of x s }

abbrev pub visit_of : Program → Config → Visit
visit_of p c = record { path = c.path; at = c.here.at; known = map (known_of p c.objects) c.here.scope }

-- a visit before the others, where the configuration is one
abbrev pub visits_if : Program → Config → List Visit → List Visit
visits_if p c vs = if c.is_visit then visit_of p c ∷ vs else vs

-- A run from one configuration to another, with the visits behind the first in order: each step with numbers where some are chosen.
pub data Runs (p : Program) : Config → List Visit → Config → Type 0 where
  ends : {c : Config} → Runs p c [] c
  steps : {c d e : Config} {vs : List Visit} (chosen : Numbers) → step p chosen c ≡ To d → Runs p d vs e →
      Runs p c (visits_if p d vs) e
