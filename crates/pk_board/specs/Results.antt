-- Cells and numbers of runs, and room for more.
use Rattle.std.specs.Prelude.{◌≡◌, ℕ, ◌<◌, List}
use mathlib.Core.Option.{some}
use lib.ListN.{get_elem?}
use Rattle.pk_iterate.specs.Behaviour.{Behaviour}
use Rattle.pk_layout.specs.Layouts.{first_of}
use Rattle.pk_layout.specs.Wirings.{Wiring}
use Rattle.pk_words.specs.declared.slot.Slot.{Slot}
use Rattle.pk_words.specs.Kinds.{IsCellOf, kind_of}
use Rattle.pk_lean_words.specs.Members.{IsLastCell}

pub record ResultsView (C : Type 0) : Type 0 where
  pub cells : List C
  pub runs : List ℕ
  -- how many there can be
  pub room : ℕ

-- each element's first slot has the cell that the recursion leaves
abbrev pub HaveCells : {C P : Type 0} → Behaviour C → Wiring → List (Slot C P) → Type 0
HaveCells {C} {P} b w slots =
    (e : ℕ) → e < w.plan.elements → (x : Slot C P) → get_elem? slots (first_of w.layout e) ≡ some x
    → (c : C) × IsCellOf kind_of x c × IsLastCell b w.plan e c
