-- What the plan of a nest is.
use Rattle.std.specs.Prelude.{◌≡◌, ℕ, ◌⊎◌, List, length, Contains}
use Rattle.pk_plan.specs.declared.components.Component.{Component}
use Rattle.pk_plan.specs.Digraphs.{Edge}
use Rattle.pk_plan.specs.Nests.{Items, Holds}
use Rattle.pk_plan.specs.Plans.{PlanView, Constrains, Precedes, Inside}
use Rattle.pk_wpo.specs.Constraints.{Has, Constraint, exit_of}

-- the plan of a digraph's nest: its components with their members, and exactly its constraints
pub record IsPlanOf (g : List (List ℕ)) (items : Items) (p : PlanView) : Type 0 where
  pub points : p.points ≡ length g
  pub component : (h : ℕ) → Holds items h h → (c : Component) × Contains p.components c × (c.head ≡ h)
  pub head : (c : Component) → Contains p.components c → Holds items c.head c.head
  pub exit : (c : Component) → Contains p.components c → c.exit ≡ exit_of g items c.head
  pub member : (c : Component) (e : ℕ) → Contains p.components c → Has (Holds items) (exit_of g items) c.head e →
      Inside p c e
  pub is_member : (c : Component) (e : ℕ) → Contains p.components c → Inside p c e →
      Has (Holds items) (exit_of g items) c.head e
  pub constrains : (a b : ℕ) → Constraint g (Holds items) (exit_of g items) a b → Constrains p a b
  pub constraint : (a b : ℕ) → Constrains p a b → Constraint g (Holds items) (exit_of g items) a b

-- u is the source of an edge into v: it precedes v, or v is the head of a component that holds u (F. Bourdoncle, Efficient chaotic
-- iteration strategies with widenings, 1993)
abbrev pub LeadsForwardOrBack : PlanView → ℕ → ℕ → Type 0
LeadsForwardOrBack p u v = Precedes p u v ⊎ ((c : Component) × Contains p.components c × (c.head ≡ v) × Inside p c u)

-- What an iteration reads comes before it: the sources of the edges into a vertex, but where it is the head of a component that holds
-- them, and the head and the sources of the edges into it before the exit.
pub record Fits (g : List (List ℕ)) (p : PlanView) : Type 0 where
  pub edges : (u v : ℕ) → Edge g u v → LeadsForwardOrBack p u v
  pub head_of_exit : (c : Component) → Contains p.components c → Precedes p c.head c.exit
  pub inputs_of_exit : (c : Component) (u : ℕ) → Contains p.components c → Edge g u c.head → Precedes p u c.exit
