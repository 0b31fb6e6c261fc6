-- The names and places of a graph are its unit's, and callers come before their paths.
use Rattle.std.specs.Prelude.{◌≡◌, ℕ, ◌<◌, Bool, true, List, length, All, Some, slice_get}
use Rattle.pk_ctypes.specs.declared.places.Pos.{Pos}
use Rattle.pk_typed.specs.Trees.{UnitTree}
use Rattle.pk_typed.specs.Defaults.{nowhere_in_text}
use Rattle.pk_calls.specs.declared.listings.CallPath.{CallPath}
use Rattle.pk_calls.specs.Calls.{HasBody}
use Rattle.pk_calls.specs.Paths.{IsListing}
use Rattle.pk_calls.specs.Laws.{AreCallPaths}
use Rattle.pk_graph.specs.declared.trees.Site.{Site}
use Rattle.pk_graph.specs.Accesses.{AccessOf, accesses_of}
use Rattle.pk_graph.specs.Graphs.{PathOf}
use Rattle.pk_lower.specs.Graphs.{graph_of}
use Rattle.pk_places_laws.specs.Places as places
use Rattle.pk_places_laws.specs.Names as names

-- What holds of each place of a unit, and of none in the text, holds of each place of its graph.
abbrev pub PlacesAreTheUnits : Type 0
PlacesAreTheUnits =
    (u : UnitTree) (paths : List CallPath) (test : Pos → Bool) → test nowhere_in_text ≡ true →
    places.InUnit (λ at. test at ≡ true) u → places.InGraph (λ at. test at ≡ true) (graph_of u paths)

-- What holds of each name of a unit holds of each name of its graph.
abbrev pub NamesAreTheUnits : Type 0
NamesAreTheUnits =
    (u : UnitTree) (entry : ℕ) (paths : List CallPath) (test : List ℕ → Bool) → HasBody u entry →
    AreCallPaths u entry paths →
    names.InUnit (λ name. test name ≡ true) u → names.InGraph (λ name. test name ≡ true) (graph_of u paths)

-- A call that enters a path is made on a path before it.
abbrev pub CallersComeFirst : Type 0
CallersComeFirst =
    (u : UnitTree) (entry : ℕ) (paths : List CallPath) → IsListing u entry paths → (k : ℕ) (p : PathOf) (s : Site) →
    slice_get (graph_of u paths).paths k ≡ Some p → p.call ≡ Some s → s.path < k

-- Each access is made on one of the paths.
abbrev pub AccessesAreOnPaths : Type 0
AccessesAreOnPaths =
    (u : UnitTree) (paths : List CallPath) →
    All (λ (a : AccessOf). a.site.path < length paths) (accesses_of (graph_of u paths))
