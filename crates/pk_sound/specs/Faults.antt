-- Where runs fault.
use Rattle.std.specs.Prelude.{◌≡◌, ◌⊎◌, ℕ, ℤ, false, Contains, Ok}
use Rattle.pk_graph.specs.declared.verdicts.Verdict.TheVariants.{Unknown}
use Rattle.pk_graph.specs.declared.trees.Site.{Site}
use Rattle.pk_graph.specs.Trees.{InstrOf, Skip, Set, Havoc, Clear, Load, Store, Guard, Check}
use Rattle.pk_graph.specs.Kinds.{Kinds, IsTypedInstr}
use Rattle.pk_graph.specs.Graphs.{EdgeOf, GraphOf, point_at}
use Rattle.pk_graph.specs.Steps.{Numbers, Failure, Faulted, effect, tree_value, is_index}
use Rattle.pk_graph.specs.Stores.{Stored, storing, IsStore}
use Rattle.pk_graph.specs.Accesses.{AccessOf, of_instr, fault_of}
use Rattle.pk_state.specs.Facts.{Stated}
use Rattle.pk_plan.specs.Order.{Level}
use Rattle.pk_plan.specs.Plans.{PlanView}
use Rattle.pk_verdict.specs.Verdicts.{verdict_of}
use Rattle.pk_iterate.specs.Outcome.{Outcome}
use Rattle.pk_phases.specs.declared.equations.Cell.{Cell}
use Rattle.pk_analysis.specs.declared.analysis.Options.{Options}
use Rattle.pk_analysis.specs.Flows.{Flow}
use Rattle.pk_sound.specs.Runs.{Reaches}
use Rattle.pk_sound.specs.Results.{IsAnalysed, reduced_at_point}
use Rattle.pk_sound.specs.Verdicts.{FaultsIn}

-- an index that is no access, and lies outside of the array
abbrev pub IsHidden : InstrOf ℕ → Site → Stored → Type 0
IsHidden Skip at s = ⊥
IsHidden (Set x e) at s = ⊥
IsHidden (Havoc x t n) at s = ⊥
IsHidden (Clear a) at s = ⊥
IsHidden (Load x a place b i) at s =
    (b ≡ false) × (place ≡ at) × (z : ℤ) × (tree_value storing i s ≡ Ok z) × (is_index a.length z ≡ false)
IsHidden (Store a place b i e) at s =
    (b ≡ false) × (place ≡ at) × (z : ℤ) × (tree_value storing i s ≡ Ok z) × (is_index a.length z ≡ false)
IsHidden (Guard e b) at s = ⊥
IsHidden (Check place e) at s = ⊥

-- an access of an instruction of point p that has this failure in the store
pub record IsFailing (p : ℕ) (i : InstrOf ℕ) (w : Failure) (s : Stored) (access : AccessOf) : Type 0 where
  pub listed : Contains (of_instr p i) access
  pub site : access.site ≡ w.site
  pub fault : fault_of access.operation ≡ w.fault
  pub faults : FaultsIn access.operation s

-- A step that faults does so at an access of its instruction, or at an index that is none.
abbrev pub FaultsAreAccesses : Type 0
FaultsAreAccesses =
    (ks : Kinds) (p : ℕ) (i : InstrOf ℕ) (chosen : Numbers) (s : Stored) (w : Failure) → IsTypedInstr ks i →
    IsStore ks s → effect storing chosen i s ≡ Faulted w
    → ((access : AccessOf) × IsFailing p i w s access) ⊎ IsHidden i w.site s

-- the verdict on an access of point p is that nothing is known
abbrev pub IsUnknownAt : Flow → Outcome (Cell Stated) → ℕ → AccessOf → Type 0
IsUnknownAt a it p access =
    (lo : ℤ) × (hi : ℤ) × (verdict_of a.layout (reduced_at_point a it p) access.operation ≡ Unknown lo hi)

-- A run that faults does so at an access of which the verdict is unknown, or at an index that is no access.
abbrev pub FaultsAreUnknown : Type 0
FaultsAreUnknown =
    (g : GraphOf) (o : Options) (q : PlanView) (order : Level) (a : Flow) (most : ℕ) (it : Outcome (Cell Stated)) →
    IsAnalysed g o q order a most it
    → (p : ℕ) (s : Stored) (e : EdgeOf) (chosen : Numbers) (w : Failure) → Reaches g p s →
    Contains (point_at g p).edges e → effect storing chosen e.instr s ≡ Faulted w
    → ((access : AccessOf) × IsFailing p e.instr w s access × IsUnknownAt a it p access) ⊎ IsHidden e.instr w.site s
