-- Steps by which the elements of a plan are placed, one after another.
use Rattle.std.specs.Prelude.{◌≡◌, ◌≢◌, ℕ, ◌+◌, ◌<◌, ◌≤◌, List, [], ◌∷◌, ◌++◌, length, map, slice_index, Contains}
use Rattle.pk_plan.specs.declared.components.Component.{Component}
use Rattle.pk_plan.specs.declared.places.Role.{Role}
use Rattle.pk_plan.specs.declared.places.Role.TheVariants.{Vertex, Head, Exit}
use Rattle.pk_plan.specs.declared.places.Place.{Place}
use Rattle.pk_plan.specs.Plans.{PlanView, place_of}
use Rattle.pk_linear.specs.Waits.{WaitsFor}

abbrev pub elements_at : List Place → List ℕ
elements_at places = map (λ (q : Place). q.element) places

-- e was placed
abbrev pub Stands : List Place → ℕ → Type 0
Stands places e = Contains (elements_at places) e

-- the component's head was placed, and its exit was not
pub record IsOpen (p : PlanView) (places : List Place) (c : Component) : Type 0 where
  pub component : Contains p.components c
  pub head : Stands places c.head
  pub exit : Stands places c.exit → ⊥

-- what e's item waits for was placed
abbrev pub IsFree : PlanView → List ℕ → List Place → ℕ → Type 0
IsFree p lasts places e = (a : ℕ) → WaitsFor p lasts e a → Stands places a

-- e is in the component, and not its head, or it is its exit
abbrev pub Follows : PlanView → Component → ℕ → Type 0
Follows p c e = (c.first < place_of p e) × (place_of p e ≤ c.end)

abbrev pub HasRole : PlanView → List ℕ → List Place → ℕ → Role → Type 0
HasRole p lasts places e Vertex =
    (slice_index lasts e ≡ place_of p e) × ((c : Component) → Contains p.components c → c.exit ≢ e)
HasRole p lasts places e Head = (c : Component) × Contains p.components c × (c.head ≡ e)
HasRole p lasts places e (Exit back) =
    (c : Component) × Contains p.components c × (c.exit ≡ e)
    × ((above below : List Place) (head : Place) → places ≡ above ++ head ∷ below → head.element ≡ c.head →
    back ≡ length below + 1)

-- one more place: its element is ready, in every open component, and the least of the ready ones that are
pub record IsStep (p : PlanView) (lasts : List ℕ) (places : List Place) (place : Place) : Type 0 where
  pub within : place.element < p.elements
  pub fresh : Stands places place.element → ⊥
  pub free : IsFree p lasts places place.element
  pub inside : (c : Component) → IsOpen p places c → Follows p c place.element
  pub least : (e : ℕ) → e < p.elements → (Stands places e → ⊥) → IsFree p lasts places e
      → ((c : Component) → IsOpen p places c → Follows p c e) → place.element ≤ e
  pub role : HasRole p lasts places place.element place.role

pub data AreSteps (p : PlanView) (lasts : List ℕ) : List Place → Type 0 where
  Start : AreSteps p lasts []
  Then : {places : List Place} {place : Place} → AreSteps p lasts places → IsStep p lasts places place →
      AreSteps p lasts (places ++ place ∷ [])
