-- What an item of a plan waits for: the item stands in a stretch of the plan's listing, from its number's place to its last.
use Rattle.std.specs.Prelude.{◌≡◌, ◌≢◌, ℕ, ◌<◌, ◌≤◌, ◌⊎◌, Bool, true, false, List, length, slice_index, slice_index_or, Contains}
use Rattle.pk_plan.specs.declared.components.Component.{Component}
use Rattle.pk_plan.specs.Plans.{PlanView, Constrains, place_of, predecessors_of}
use Rattle.pk_linear.specs.declared.waits.Reading.{Reading}

-- The last place of an element's item. An element that is no component's head is an item by itself.
pub record AreLasts (p : PlanView) (lasts : List ℕ) : Type 0 where
  pub length : length lasts ≡ p.elements
  pub heads : (c : Component) → Contains p.components c → slice_index lasts c.head ≡ c.end
  pub others : (e : ℕ) → e < p.elements → ((c : Component) → Contains p.components c → c.head ≢ e) →
      slice_index lasts e ≡ place_of p e

-- a is before the item, and constrains an element of it
abbrev pub WaitsFor : PlanView → List ℕ → ℕ → ℕ → Type 0
WaitsFor p lasts item a =
    (b : ℕ) × Constrains p a b × (place_of p item ≤ place_of p b) × (place_of p b ≤ slice_index lasts item)
    × (place_of p a < place_of p item)

abbrev pub IsPlaced : List Bool → ℕ → Type 0
IsPlaced placed a = slice_index_or placed a false ≡ true

-- whatever the item waits for is placed
abbrev pub WaitsNoMore : PlanView → List ℕ → List Bool → ℕ → Type 0
WaitsNoMore p lasts placed item = (a : ℕ) → WaitsFor p lasts item a → IsPlaced placed a

-- of the item's constraints those that were read hold the item up no more
pub record IsReadTo (p : PlanView) (placed : List Bool) (item : ℕ) (reading : Reading) : Type 0 where
  pub from : place_of p item ≤ reading.place
  pub read : (place k : ℕ) → place_of p item ≤ place →
      (place < reading.place) ⊎ ((place ≡ reading.place) × (k < reading.read))
      → k < length (predecessors_of p (slice_index p.listing place))
      → place_of p (slice_index (predecessors_of p (slice_index p.listing place)) k) < place_of p item
      → IsPlaced placed (slice_index (predecessors_of p (slice_index p.listing place)) k)
