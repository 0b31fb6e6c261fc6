-- The linear order of a plan (after F. Bourdoncle, Efficient chaotic iteration strategies with widenings, 1993).
use Rattle.std.specs.Prelude.{◌≡◌, ◌≢◌, ℕ, ◌<◌, ◌≤◌, ◌↔◌, List, [], ◌∷◌, ◌++◌, All, AllPairs, Contains}
use Rattle.pk_plan.specs.declared.components.Component.{Component}
use Rattle.pk_plan.specs.Order.{Level, Empty, Vertex_then, Component_then}
use Rattle.pk_plan.specs.Plans.{PlanView, Constrains, Inside}

-- the elements of a level, from left to right
abbrev pub elements_of : Level → List ℕ
elements_of Empty = []
elements_of (Vertex_then v more) = v ∷ elements_of more
elements_of (Component_then head exit rest more) = head ∷ (elements_of rest ++ exit ∷ elements_of more)

-- an item of a level: a vertex, or a component from its head to its exit, whose number is its head's
pub record Item : Type 0 where
  pub number : ℕ
  pub elements : List ℕ

abbrev pub vertex_item : ℕ → Item
vertex_item v = record { number = v; elements = v ∷ [] }

abbrev pub component_item : ℕ → ℕ → Level → Item
component_item head exit rest = record { number = head; elements = head ∷ (elements_of rest ++ exit ∷ []) }

abbrev pub items_of : Level → List Item
items_of Empty = []
items_of (Vertex_then v more) = vertex_item v ∷ items_of more
items_of (Component_then head exit rest more) = component_item head exit rest ∷ items_of more

-- whatever is left of the level and constrains an element of the item is in the item itself
abbrev pub IsReady : PlanView → Level → Item → Type 0
IsReady p left item =
    (a b : ℕ) → Contains (elements_of left) a → Contains item.elements b → Constrains p a b → Contains item.elements a

-- the item is ready, and has the least number of all the ready items that are left of the level
pub record IsNext (p : PlanView) (left : Level) (item : Item) : Type 0 where
  pub ready : IsReady p left item
  pub least : (other : Item) → Contains (items_of left) other → IsReady p left other → item.number ≤ other.number

-- at the level, and at that of each component's rest, the least ready item comes next
abbrev pub TakesLeastReady : PlanView → Level → Type 0
TakesLeastReady p Empty = Unit {0}
TakesLeastReady p (Vertex_then v more) = IsNext p (Vertex_then v more) (vertex_item v) × TakesLeastReady p more
TakesLeastReady p (Component_then head exit rest more) =
    IsNext p (Component_then head exit rest more) (component_item head exit rest) × TakesLeastReady p rest
    × TakesLeastReady p more

-- a pair of brackets: the head, the exit, and all between the brackets
pub record Bracket : Type 0 where
  pub head : ℕ
  pub exit : ℕ
  pub members : List ℕ

abbrev pub brackets_of : Level → List Bracket
brackets_of Empty = []
brackets_of (Vertex_then v more) = brackets_of more
brackets_of (Component_then head exit rest more) =
    record { head = head; exit = exit; members = head ∷ elements_of rest } ∷ (brackets_of rest ++ brackets_of more)

-- a pair of brackets has the head, the exit and the members of a component
pub record Encloses (p : PlanView) (bracket : Bracket) (c : Component) : Type 0 where
  pub head : bracket.head ≡ c.head
  pub exit : bracket.exit ≡ c.exit
  pub members : (e : ℕ) → Contains bracket.members e ↔ Inside p c e

pub record IsLinear (p : PlanView) (order : Level) : Type 0 where
  -- each element stands in the order once
  pub within : All (λ e. e < p.elements) (elements_of order)
  pub every : (e : ℕ) → e < p.elements → Contains (elements_of order) e
  pub once : AllPairs (λ a b. a ≢ b) (elements_of order)
  -- the brackets are those of the plan's components
  pub drawn : (bracket : Bracket) → Contains (brackets_of order) bracket →
      (c : Component) × Contains p.components c × Encloses p bracket c
  pub enclosed : (c : Component) → Contains p.components c →
      (bracket : Bracket) × Contains (brackets_of order) bracket × Encloses p bracket c
  -- the least ready item comes next
  pub next : TakesLeastReady p order

-- each element stands after all that constrain it
abbrev pub GoesForward : PlanView → Level → Type 0
GoesForward p order =
    (a b : ℕ) (before after : List ℕ) → Constrains p a b → elements_of order ≡ before ++ b ∷ after → Contains before a

-- at most one order of the plan is linear
abbrev pub LinearIsDetermined : PlanView → Type 0
LinearIsDetermined p = (one other : Level) → IsLinear p one → IsLinear p other → one ≡ other
