-- What solved families say of a graph's runs.
use Rattle.std.specs.Prelude.{◌≡◌, ◌⊎◌, ℕ, ℤ, Option, Contains}
use Rattle.pk_graph.specs.declared.verdicts.Verdict.TheVariants.{Safe, Unreachable, Unknown}
use Rattle.pk_graph.specs.Graphs.{EdgeOf, GraphOf, kinds_of, point_at}
use Rattle.pk_graph.specs.Steps.{Numbers, Failure, Faulted, effect}
use Rattle.pk_graph.specs.Stores.{Stored, storing, IsStore}
use Rattle.pk_graph.specs.Accesses.{AccessOf, accesses_of}
use Rattle.pk_state.specs.Layouts.{Layout}
use Rattle.pk_state.specs.Facts.{Facts}
use Rattle.pk_state.specs.Members.{Member}
use Rattle.pk_state.specs.Reduced.{reduced}
use Rattle.pk_transfer.specs.Slots.{spread}
use Rattle.pk_verdict.specs.Verdicts.{verdict_of}
use Rattle.pk_sound.specs.Runs.{HasElements, Reaches}
use Rattle.pk_sound.specs.Held.{Agrees}
use Rattle.pk_sound.specs.Verdicts.{IsEvaluatedIn, FaultsIn}
use Rattle.pk_sound.specs.Faults.{IsHidden, IsFailing}
use Rattle.pk_sound.specs.Bounds.{IsDecidedWithin}
use Rattle.pk_sound.specs.Families.{IsLaidOut, IsSolved}

-- A store has the numbers of the graph's variables. It agrees with facts, and with what they are once they are reduced; where each array has an element, it is a store of both, slot by slot.
pub record IsHeldBy (g : GraphOf) (l : Layout) (f : Option Facts) (s : Stored) : Type 0 where
  pub store : IsStore (kinds_of g) s
  pub known : Agrees l f s
  pub reduced_known : Agrees l (reduced l f) s
  pub member : HasElements g → Member l f (spread s)
  pub reduced_member : HasElements g → Member l (reduced l f) (spread s)

-- Each store with which some run comes to a point agrees with what the family knows there.
abbrev pub FamiliesHoldRuns : Type 0
FamiliesHoldRuns =
    (g : GraphOf) (l : Layout) (known : ℕ → Option Facts) → IsLaidOut g l → IsSolved g l known
    → (v : ℕ) (s : Stored) → Reaches g v s → IsHeldBy g l (known v) s

-- the verdict on an access, by reduced facts, holds in a store
pub record IsRightBy (l : Layout) (f : Option Facts) (access : AccessOf) (s : Stored) : Type 0 where
  pub safe : verdict_of l (reduced l f) access.operation ≡ Safe → FaultsIn access.operation s → ⊥
  pub unreachable : verdict_of l (reduced l f) access.operation ≡ Unreachable → IsEvaluatedIn access.operation s → ⊥

-- No run faults at an access that is safe, and none evaluates one that is unreachable.
abbrev pub FamiliesJudge : Type 0
FamiliesJudge =
    (g : GraphOf) (l : Layout) (known : ℕ → Option Facts) → IsLaidOut g l → IsSolved g l known
    → (access : AccessOf) (s : Stored) → Contains (accesses_of g) access → Reaches g access.point s →
    IsRightBy l (known access.point) access s

-- the verdict on an access is that nothing is known
abbrev pub IsUnknownBy : Layout → Option Facts → AccessOf → Type 0
IsUnknownBy l f access = (lo : ℤ) × (hi : ℤ) × (verdict_of l (reduced l f) access.operation ≡ Unknown lo hi)

-- A run that faults does so at an access of which the verdict is unknown, or at an index that is no access.
abbrev pub FamiliesTellFaults : Type 0
FamiliesTellFaults =
    (g : GraphOf) (l : Layout) (known : ℕ → Option Facts) → IsLaidOut g l → IsSolved g l known
    → (p : ℕ) (s : Stored) (e : EdgeOf) (chosen : Numbers) (w : Failure) → Reaches g p s →
    Contains (point_at g p).edges e → effect storing chosen e.instr s ≡ Faulted w
    → ((access : AccessOf) × IsFailing p e.instr w s access × IsUnknownBy l (known p) access)
    ⊎ IsHidden e.instr w.site s

-- Where the verdict on an access is unknown, what decides it lies between its bounds, in every run.
abbrev pub FamiliesBound : Type 0
FamiliesBound =
    (g : GraphOf) (l : Layout) (known : ℕ → Option Facts) → IsLaidOut g l → IsSolved g l known
    → (access : AccessOf) (lo hi : ℤ) → Contains (accesses_of g) access →
    verdict_of l (reduced l (known access.point)) access.operation ≡ Unknown lo hi →
    IsDecidedWithin g access.point access.operation lo hi
