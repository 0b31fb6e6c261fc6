-- What a run of a program computes, beside what is told as unreachable.
use Rattle.std.specs.Prelude.{◌≡◌, ◌⊎◌, List, Contains, Some}
use Rattle.pk_ctypes.specs.declared.faults.Fault.{Fault}
use Rattle.pk_ctypes.specs.declared.places.Pos.{Pos}
use Rattle.pk_graph.specs.declared.trees.Site.{Site}
use Rattle.pk_graph.specs.declared.verdicts.Verdict.TheVariants.{Unreachable}
use Rattle.pk_graph.specs.Accesses.{AccessOf, fault_of}
use Rattle.pk_graph.specs.Steps.{Numbers}
use Rattle.pk_meaning.specs.Programs.{Program}
use Rattle.pk_meaning.specs.Steps.{Config}
use Rattle.pk_meaning.specs.Runs.{Visit, start, Runs}
use Rattle.pk_computed_laws.specs.Computed.{Operation, CanFault, Computes, site}
use Rattle.pk_report_laws.specs.Programs.Told.{Told, told_verdict}

-- A line `access PATH L:C KIND ..` of these calls, this place and this kind that isn't `unreachable`.
pub record IsReached (t : Told) (place : Site) (fault : Fault) : Type 0 where
  pub access : AccessOf
  pub listed : Contains t.accesses access
  pub at : access.site ≡ place
  pub kind : fault_of access.operation ≡ fault
  pub reached : told_verdict t access ≡ Unreachable → ⊥

-- Wherever a run of the program comes to, each operation that its next step computes has such a line for each fault that it can come to, if the run isn't excepted.
abbrev pub OperationsAreReached : Program → Told → (IsExcepted : (first last : Config) → Type 0) → Type 0
OperationsAreReached p t IsExcepted =
    (choice : Numbers) (first last : Config) (visits : List Visit) (at : Pos) (operation : Operation) (fault : Fault) →
    start p choice ≡ Some first → Runs p first visits last → Computes last.work at operation → CanFault operation fault
    → IsReached t (site last at) fault ⊎ IsExcepted first last

-- Wherever a run of the program comes to, its next step doesn't compute an operation of this path and place that can come to this fault.
abbrev pub NoneComputes : Program → Site → Fault → Type 0
NoneComputes p place fault =
    (choice : Numbers) (first last : Config) (visits : List Visit) (at : Pos) (operation : Operation) →
    start p choice ≡ Some first → Runs p first visits last → Computes last.work at operation → CanFault operation fault
    → place ≡ site last at → ⊥

-- No run computes the operation of an access that is told unreachable.
abbrev pub UnreachableIsNotComputed : Program → Told → Type 0
UnreachableIsNotComputed p t =
    (a : AccessOf) → Contains t.accesses a → told_verdict t a ≡ Unreachable →
    NoneComputes p a.site (fault_of a.operation)
