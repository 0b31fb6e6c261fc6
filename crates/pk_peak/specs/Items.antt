-- In which item of an order each element stands.
use Rattle.std.specs.Prelude.{◌≡◌, ℕ, ◌+◌, ◌-◌, List, length, slice_index, Contains}
use Rattle.pk_plan.specs.declared.places.Role.{Role}
use Rattle.pk_plan.specs.declared.places.Role.TheVariants.{Vertex, Head, Exit}
use Rattle.pk_plan.specs.Order.{Level}
use Rattle.pk_plan.specs.Linear.{elements_of, items_of}
use Rattle.pk_peak.specs.Peak.{item_of}

-- how many brackets are open behind a place
abbrev pub depth_then : ℕ → Role → ℕ
depth_then depth Vertex = depth
depth_then depth Head = depth + 1
depth_then depth (Exit back) = depth - 1

-- the items of so many elements, and how many there are
pub record AreNumbered (order : Level) (elements : ℕ) (of : List ℕ) (count : ℕ) : Type 0 where
  pub long : length of ≡ elements
  pub many : count ≡ length (items_of order)
  pub each : (e : ℕ) → Contains (elements_of order) e → slice_index of e ≡ item_of (items_of order) e
