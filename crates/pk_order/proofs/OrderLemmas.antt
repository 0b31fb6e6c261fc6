-- Plans that constrain the same, with the same components, have the same linear orders.
use Rattle.std.proofs.Common.{◌≡◌, ◌↔◌, ℕ, ◌<◌, sym, subst, ◌∙◌, All}
use Rattle.pk_plan.specs.declared.components.Component.{Component}
use Rattle.pk_plan.specs.Order.{Level, Empty, Vertex_then, Component_then}
use Rattle.pk_plan.specs.Plans.{PlanView, Constrains, Inside}
use Rattle.pk_plan.proofs.PlanLemmas.{Of}
use Rattle.pk_plan.specs.Linear.{elements_of, Item, vertex_item, component_item, IsNext, TakesLeastReady, Bracket, Encloses, IsLinear}

-- a component of one plan has the head, the exit and the members of one of the other plan
pub record IsSame (p q : PlanView) (c d : Component) : Type 0 where
  pub head : c.head ≡ d.head
  pub exit : c.exit ≡ d.exit
  pub members : (e : ℕ) → Inside p c e ↔ Inside q d e

-- what constrains and what is enclosed in one plan does so, and is so, in the other
pub record IsWithin (p q : PlanView) : Type 0 where
  pub constrains : (a b : ℕ) → Constrains p a b → Constrains q a b
  pub component : (c : Component) → Of p c → (d : Component) × Of q d × IsSame p q c d

-- a pair of brackets encloses a component of each
enclosed_same : (p q : PlanView) (bracket : Bracket) (c d : Component) → IsSame p q c d → Encloses p bracket c → Encloses q bracket d
enclosed_same p q bracket c d same encloses = record {
  head = encloses.head ∙ same.head;
  exit = encloses.exit ∙ same.exit;
  members = λ e. ((λ has. (same.members e).0 ((encloses.members e).0 has)), (λ inside. (encloses.members e).1 ((same.members e).1 inside)));
}

-- the least ready item is the same
next_same : (p q : PlanView) → IsWithin p q → IsWithin q p → (left : Level) (item : Item) → IsNext p left item → IsNext q left item
next_same p q one other left item next = record {
  ready = λ a b a_in b_in constrains. next.ready a b a_in b_in (other.constrains a b constrains);
  least = λ another has ready. next.least another has (λ a b a_in b_in constrains. ready a b a_in b_in (one.constrains a b constrains));
}

takes_same : (p q : PlanView) → IsWithin p q → IsWithin q p → (level : Level) → TakesLeastReady p level → TakesLeastReady q level
takes_same p q one other Empty takes = tt
takes_same p q one other (Vertex_then v more) takes =
    (next_same p q one other (Vertex_then v more) (vertex_item v) takes.0, takes_same p q one other more takes.1)
takes_same p q one other (Component_then head exit rest more) takes = (
  next_same p q one other (Component_then head exit rest more) (component_item head exit rest) takes.0,
  takes_same p q one other rest takes.1,
  takes_same p q one other more takes.2,
)

pub linear_of_other : (p q : PlanView) → p.elements ≡ q.elements → IsWithin p q → IsWithin q p → (order : Level) → IsLinear p order → IsLinear q order
linear_of_other p q elements one other order linear = record {
  within = subst (λ (n : ℕ). All (λ e. e < n) (elements_of order)) elements linear.within;
  every = λ e below. linear.every e (subst (λ (n : ℕ). e < n) (sym elements) below);
  once = linear.once;
  drawn = λ bracket has.
      let c = linear.drawn bracket has in
      let d = one.component c.0 c.1 in
      (d.0, d.1, enclosed_same p q bracket c.0 d.0 d.2 c.2);
  enclosed = λ d of.
      let c = other.component d of in
      let bracket = linear.enclosed c.0 c.1 in
      (bracket.0, bracket.1, enclosed_same p q bracket.0 c.0 d (back d c.0 c.2) bracket.2);
  next = takes_same p q one other order linear.next;
}
  where
    back : (d c : Component) → IsSame q p d c → IsSame p q c d
    back d c same = record { head = sym same.head; exit = sym same.exit; members = λ e. ((same.members e).1, (same.members e).0) }
