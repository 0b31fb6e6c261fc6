-- The last items that read an item.
use Rattle.std.specs.Prelude.{◌≡◌, ℕ, ◌<◌, ◌||◌, List, length, nat_le, slice_index}
use Rattle.pk_plan.specs.Plans.{PlanView}
use Rattle.pk_peak.specs.Peak.{is_read_from}

-- Of each item the last one that reads it, or itself: an item j is no later than that where it is no later than the item, or where j
-- or a later one reads it.
pub record AreLast (p : PlanView) (item : ℕ → ℕ) (count : ℕ) (last : List ℕ) : Type 0 where
  pub long : length last ≡ count
  pub within : (i : ℕ) → i < count → slice_index last i < count
  pub each : (i j : ℕ) → i < count → nat_le j (slice_index last i) ≡ (nat_le j i || is_read_from p item i j)
