-- What a board has that lets go of cells.
use Rattle.std.specs.Prelude.{◌≡◌, ℕ, ◌<◌, List, [], length, slice_index}
use Rattle.pk_items.specs.Tops.{AreTops}
use Rattle.pk_layout.specs.Layouts.{LayoutView, slots_of, reader_of}
use Rattle.pk_plan.specs.Plans.{PlanView}

-- the last element of each element's item, the reader of each slot, the parts, and how many there can be
pub record LeanView (P : Type 0) : Type 0 where
  pub tops : List ℕ
  pub readers : List ℕ
  pub parts : List P
  pub room : ℕ

-- who reads each slot
pub record AreReaders (l : LayoutView) (readers : List ℕ) : Type 0 where
  pub long : length readers ≡ slots_of l
  pub each : (k : ℕ) → k < slots_of l → slice_index readers k ≡ reader_of l k

-- The plan's items, the readers of the slots, no part, and room for as many as there are elements.
pub record HasItems {P : Type 0} (p : PlanView) (l : LayoutView) (lean : LeanView P) : Type 0 where
  pub tops : AreTops p lean.tops
  pub readers : AreReaders l lean.readers
  pub none : lean.parts ≡ []
  pub room : lean.room ≡ p.elements
