-- What is folded in a text's graph, and what runs of its program compute of the graph's accesses.
use Rattle.std.specs.Prelude.{◌≡◌, ℕ, List, Contains, Some}
use Rattle.pk_ctypes.specs.declared.faults.Fault.{Fault}
use Rattle.pk_ctypes.specs.declared.places.Pos.{Pos}
use Rattle.pk_graph.specs.Accesses.{AccessOf, accesses_of, fault_of}
use Rattle.pk_graph.specs.Graphs.{GraphOf}
use Rattle.pk_graph.specs.Steps.{Numbers}
use Rattle.pk_text_graph.specs.Graphs.{HasGraph}
use Rattle.pk_meaning.specs.Programs.{Program}
use Rattle.pk_meaning.specs.Steps.{Config}
use Rattle.pk_meaning.specs.Runs.{Visit, start, Runs}
use Rattle.pk_computed_laws.specs.Computed.{Operation, CanFault, Computes, site}
use Rattle.pk_computed_laws.specs.Evaluated.{IsEvaluated}
use Rattle.pk_folded_laws.specs.Folded.{BeginsFolded}

-- Every text that has a graph: the program that it is has its unit and call paths.
abbrev pub TextsFoldedHasNoAccess : Type 0
TextsFoldedHasNoAccess =
    (text entry : List ℕ) (g : GraphOf) (h : HasGraph text entry g) →
    BeginsFolded (record { unit = h.unit; paths = h.paths }) g

-- An access whose operation the next step of a run of the program computes, with the calls, the place and the fault of the access: a run of the graph evaluates this access.
abbrev pub AccessesThemselvesAreEvaluated : Program → GraphOf → Type 0
AccessesThemselvesAreEvaluated p g =
    (choice : Numbers) (first last : Config) (visits : List Visit) (at : Pos) (operation : Operation) (fault : Fault) →
    start p choice ≡ Some first → Runs p first visits last → Computes last.work at operation → CanFault operation fault
    → (a : AccessOf) → Contains (accesses_of g) a → a.site ≡ site last at → fault_of a.operation ≡ fault
    → (e : IsEvaluated g (site last at) fault) × (e.access ≡ a)

abbrev pub TextsComputedAccessesAreEvaluated : Type 0
TextsComputedAccessesAreEvaluated =
    (text entry : List ℕ) (g : GraphOf) (h : HasGraph text entry g) →
    AccessesThemselvesAreEvaluated (record { unit = h.unit; paths = h.paths }) g
