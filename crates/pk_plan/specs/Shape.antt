-- What a scheduler is told of a plan's elements: their constraints and components.
use Rattle.std.specs.Prelude.{◌≡◌, ◌≢◌, ℕ, ◌-◌, ◌<◌, ◌==◌, ◌||◌, ◌&&◌, List, [], ◌∷◌, Bool, true, false, nat_le, nat_lt, slice_index_or}
use Rattle.pk_plan.specs.declared.components.Component.{Component}
use Rattle.pk_plan.specs.Plans.{PlanView, end_of, predecessors_of, successors_of, is_inside}
use Rattle.pk_plan.specs.Axioms.{Axioms as PlanAxioms}

-- Elements are named by number. inside x u: u lies in the component whose exit is x.
pub record Shape : Type 0 where
  pub elements : ℕ
  pub last : ℕ
  pub preds : ℕ → List ℕ
  pub succs : ℕ → List ℕ
  pub is_exit : ℕ → Bool
  pub head : ℕ → ℕ
  pub inside : ℕ → ℕ → Bool

-- whether u stands in the list
abbrev pub has : ℕ → List ℕ → Bool
has u [] = false
has u (w ∷ ws) = (u == w) || has u ws

-- a list of one or more constraints leads from u to v
pub data Before (p : Shape) : ℕ → ℕ → Type 0 where
  one : {u v : ℕ} → has u (p.preds v) ≡ true → Before p u v
  more : {u v w : ℕ} → Before p u v → has v (p.preds w) ≡ true → Before p u w

-- what a shape meets
pub record ShapeAxioms (p : Shape) : Type 0 where
  -- the lists of predecessors and of successors say the same, of elements, and there is no cycle
  pub dual : (u v : ℕ) → has v (p.succs u) ≡ has u (p.preds v)
  pub below : (u v : ℕ) → has v (p.succs u) ≡ true → v < p.elements
  pub above : (u v : ℕ) → has v (p.succs u) ≡ true → u < p.elements
  pub acyclic : (u : ℕ) → Before p u u → ⊥
  -- all else precedes the last element
  pub last_after : (u : ℕ) → u < p.elements → u ≢ p.last → Before p u p.last
  -- a component's head precedes its other members, and all members precede its exit
  pub exit_inside : (x u : ℕ) → p.inside x u ≡ true → p.is_exit x ≡ true
  pub head_inside : (x : ℕ) → p.is_exit x ≡ true → p.inside x (p.head x) ≡ true
  pub before_exit : (x u : ℕ) → p.inside x u ≡ true → Before p u x
  pub head_before : (x u : ℕ) → p.inside x u ≡ true → u ≢ p.head x → Before p (p.head x) u
  -- a constraint from a member leads to a member or to the exit
  pub stays : (x u v : ℕ) → p.inside x u ≡ true → has v (p.succs u) ≡ true → v ≢ x → p.inside x v ≡ true
  -- components are disjoint or nested
  pub laminar : (x y u : ℕ) → p.inside x u ≡ true → p.inside y u ≡ true → x ≢ y → p.inside x y ≡ false →
      p.inside y x ≡ true

-- the component of an exit
abbrev pub component_of : PlanView → ℕ → Component
component_of p x = slice_index_or p.components (x - p.points) (record { head = 0; exit = 0; first = 0; end = 0 })

-- whether x is the exit of a component
abbrev pub exits : PlanView → ℕ → Bool
exits p x = nat_le p.points x && nat_lt x (end_of p)

-- whether the component with the exit x has the element u
abbrev pub holds : PlanView → ℕ → ℕ → Bool
holds p x u = exits p x && (nat_lt u p.elements && is_inside p (component_of p x) u)

-- the shape of a plan
abbrev pub shape_of : PlanView → Shape
shape_of p =
    record {
      elements = p.elements;
      last = end_of p;
      preds = predecessors_of p;
      succs = successors_of p;
      is_exit = exits p;
      head = λ x. (component_of p x).head;
      inside = holds p;
    }

abbrev pub ShapesMeet : Type 0
ShapesMeet = (p : PlanView) → PlanAxioms p → ShapeAxioms (shape_of p)
