-- What a state stands for, and what a step says of it.
use Rattle.std.specs.Prelude.{◌≡◌, ℕ, zero, suc, ◌<◌, Bool, true, false, ℤ, List, [], ◌∷◌, length, map, reverse, get_or, Option, Some, None}
use Rattle.pk_typed.specs.Views.{unit_tree}
use Rattle.pk_meaning.specs.Objects.{Objects, is_in_scope}
use Rattle.pk_meaning.specs.Programs.{Program}
use Rattle.pk_meaning.specs.Steps as steps
use Rattle.pk_meaning.specs.Steps.{Config, Next}
use Rattle.pk_runner_state.specs.declared.objects.Objects as code_objects
use Rattle.pk_runner_state.specs.declared.programs.Program as code_program
use Rattle.pk_runner_state.specs.declared.states.Answer.{Answer}
use Rattle.pk_runner_state.specs.declared.states.Answer.TheVariants as answers
use Rattle.pk_runner_state.specs.declared.states.State.{State}
use Rattle.pk_runner_state.specs.declared.states.Visited.{Visited}
use Rattle.pk_runner_state.specs.declared.states.Visited.TheVariants as visits
use Rattle.pk_runner_state.specs.declared.tables.Row.{Row}
use Rattle.pk_runner_frame.specs.Frames.{Reading, scope_in, place_in, object_in, held, work_in}

abbrev pub program_in : code_program.Program → Program
program_in p = record { unit = unit_tree p.unit.now; paths = p.paths.now }

abbrev pub is_named : Option (List ℕ) → Bool
is_named None = false
is_named (Some name) = true

unfoldable pub objects_in : code_objects.Objects → Objects
objects_in x = record {
  files = map (λ v. v.items) x.files.items;
  locals = map (λ vs. map (λ v. v.items) vs.items) x.locals.items;
  results = map (λ v. v.items) x.results.items;
}

-- a reading of the rows that agrees with the table
abbrev pub Agrees : Reading → List Row → Type 0
Agrees s rows =
    (i : ℕ) (r : Row) → i < length rows → get_or rows i r ≡ r → s i ≡ object_in r.object ∷ scope_in s r.parent

abbrev pub is_visit : Reading → State → Visited → Bool
is_visit s c visits.No = false
is_visit s c visits.Yes = true
is_visit s c (visits.Wrote x) = is_in_scope (object_in x) (scope_in s c.here.scope)

unfoldable pub shown : Reading → State → Config
shown s c = record {
  path = c.path;
  here = place_in s c.here;
  work = work_in s (held s c.frames.items) c.work;
  values = reverse c.values.items;
  objects = objects_in c.objects;
  is_visit = is_visit s c c.visited;
}

-- a list without the element at a place
abbrev pub without_one : ℕ → List ℤ → List ℤ
without_one k [] = []
without_one zero (z ∷ zs) = zs
without_one (suc k) (z ∷ zs) = z ∷ without_one k zs

-- what is answered, and where the run is then: where it can't go on, anywhere
pub record Outcome : Type 0 where
  pub answer : Answer
  pub after : Option Config

abbrev pub outcome : Next → Config → Outcome
outcome (steps.To d) c = record { answer = answers.Next; after = Some d }
outcome (steps.Faulted f at) c = record { answer = answers.Faulted f at; after = Some c }
outcome steps.Assumed c = record { answer = answers.Assumed; after = Some c }
outcome (steps.Returned z) c = record { answer = answers.Returned z; after = Some c }
outcome (steps.Wants t n) c = record { answer = answers.Wants t n; after = Some c }
outcome steps.Stuck c = record { answer = answers.Stuck; after = None }

abbrev pub told : Answer → Config → Outcome
told answers.Next c = record { answer = answers.Next; after = Some c }
told (answers.Faulted f at) c = record { answer = answers.Faulted f at; after = Some c }
told answers.Assumed c = record { answer = answers.Assumed; after = Some c }
told (answers.Returned z) c = record { answer = answers.Returned z; after = Some c }
told (answers.Wants t n) c = record { answer = answers.Wants t n; after = Some c }
told answers.Stuck c = record { answer = answers.Stuck; after = None }

-- what a step answers and leaves is what the definition says of the configuration before
abbrev pub Told : Reading → (old new : State) → Answer → Next → Type 0
Told s old new r n = told r (shown s new) ≡ outcome n (shown s old)
