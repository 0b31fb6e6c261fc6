-- The whole graph of a unit over slots, and when a label shows a place.
use Rattle.std.proofs.Common.{◌≡◌, ℕ, ◌<◌, List, length, slice_set}
use Rattle.pk_typed.specs.Trees.{UnitTree}
use Rattle.pk_calls.specs.declared.listings.CallPath.{CallPath}
use Rattle.pk_draft.specs.declared.drafts.Label.{Label}
use Rattle.pk_draft.specs.Drafts.{DraftOf, by_number}
use Rattle.pk_lower_row.specs.Contexts.{size_in}
use Rattle.pk_lower.specs.Parts.{sizes_of, program_draft}
use Rattle.pk_meaning.specs.Objects.{Object, file, local, result}
use Rattle.pk_meaning.specs.Programs.{Program, function_number}
use Rattle.pk_meaning.specs.Work.{Place}
use Rattle.pk_visits.specs.Turns.{program_turns}
use Rattle.pk_visits.proofs.Slots.{slots, Draft, Among}
use Rattle.pk_visits.proofs.Stands.{Whole}
use Rattle.pk_visits.proofs.Journeys.{IsAllNoted}
use Rattle.pk_visits.proofs.Numbered.Copies.{IsShown}
use Rattle.pk_visits_laws.proofs.Followed.Paths.{first_of}
use Rattle.pk_visits_laws.proofs.Followed.Pairs.{ends_of}
use Rattle.pk_visits_laws.proofs.Followed.Naming.{naming, Made}
use Rattle.pk_typed.specs.Defaults.{nowhere_in_text}

abbrev pub program_of : UnitTree → List CallPath → Program
program_of u paths = record { unit = u; paths = paths }

abbrev pub over_slots : UnitTree → List CallPath → Draft
over_slots u paths = program_draft slots u paths

abbrev pub by_numbers : UnitTree → List CallPath → DraftOf ℕ
by_numbers u paths = program_draft by_number u paths

-- an object of the file or of the path
abbrev pub IsOf : ℕ → Object → Type 0
IsOf k (file i) = Unit {0}
IsOf k (local m i) = m ≡ k
IsOf k (result m) = ⊥

-- the label is the path's place, and in scope are objects of the file and of the path
pub record Shows (u : UnitTree) (paths : List CallPath) (l : Label) (k : ℕ) (h : Place) : Type 0 where
  pub path : k < length paths
  pub shown : IsShown (naming u paths) (Made u paths) (program_of u paths) (by_numbers u paths) l k h
  pub own : (x : Object) → Among x h.scope → IsOf k x

-- of no path
abbrev pub nobody : List CallPath → Label
nobody paths = record { at = nowhere_in_text; path = length paths; scope = 0 }

abbrev pub graph : UnitTree → List CallPath → Whole
graph u paths = record {
  program = program_of u paths;
  sizes = sizes_of u paths;
  firsts = first_of u paths;
  edges = (over_slots u paths).edges;
  labels = slice_set (over_slots u paths).labels 0 (nobody paths);
  regions = (over_slots u paths).regions;
  scopes = (over_slots u paths).scopes;
  shows = Shows u paths;
  objects = λ k. (ends_of u paths k).objects;
  numbers = λ k. (ends_of u paths k).numbers;
  spans = λ k. (size_in (sizes_of u paths) (function_number (program_of u paths) k)).points;
  turns = λ k. program_turns slots u paths k;
  begun = λ k e w. Unit {0};
  read = λ k at. Unit {0};
}

pub all_noted : (u : UnitTree) (paths : List CallPath) → IsAllNoted (graph u paths)
all_noted u paths = record { begins = λ k e w. tt; reads = λ k at. tt }
