-- A head is led to from a point before it, and back.
use Rattle.std.proofs.Common.{ℕ, ◌<◌, ◌≤◌, inl, inr, subst, List, sym, arith}
use Rattle.std.specs.List.{Contains}
use Rattle.pk_plan.specs.declared.components.Component.{Component}
use Rattle.pk_plan.specs.Digraphs.{IsVertex, Edge, Reach, Here, Then}
use Rattle.pk_plan.specs.Nests.{Holds}
use Rattle.pk_plan.specs.Order.{Level}
use Rattle.pk_plan.specs.Plans.{PlanView}
use Rattle.pk_plan.proofs.DigraphLemmas.{edge_from_vertex}
use Rattle.pk_nest.proofs.Paths.{reach_end}
use Rattle.pk_nest.proofs.ComponentLemmas.{From, component_is}
use Rattle.pk_wpo.proofs.Connected.{reach_first}
use Rattle.pk_order.specs.Ordered.{IsOrdered, heads_of}
use Rattle.pk_number.specs.Numbering.{numbered}
use Rattle.pk_head_laws.specs.Entries.{ends_of, IsLedToTwice, IsReturnedTo}
use Rattle.pk_head_laws.specs.Laws.{AreLedTo, HeadsAreLedToTwice, ReturnsLeadTwice}
use Rattle.pk_head_laws.proofs.Numbered.{points_are_led_to}
use Rattle.pk_head_laws.proofs.Drafts.{mapped}

-- the last edge of a way that begins with one
last_edge : (g : List (List ℕ)) (S : ℕ → Type 0) (w h : ℕ) → Reach g S w h → (u : ℕ) → S u → Edge g u w → (y : ℕ) × S y × Edge g y h
last_edge g S w h (Here s) u at e = (u, at, e)
last_edge g S w h (Then {w = x} r k s) u at e = (x, reach_end g S w x r, k)

twice : (g : List (List ℕ)) → AreLedTo g → (p : PlanView) (order : Level) (h : ℕ) → IsOrdered g p order → Contains (heads_of p) h → 0 < h → IsLedToTwice g h
twice g led p order h o listed some =
    let c = mapped (λ (c : Component). c.head) p.components h listed in
    let held : Holds o.nest h h = subst (λ (n : ℕ). Holds o.nest n n) c.2 (o.is_plan.head c.0 c.1) in
    let cycle = ((component_is g o.nest h h o.is_nest).0 held).0 in
    let back = last_edge g (From h) cycle.0 h cycle.2 h (omega arith) cycle.1 in
    let first = led h some (edge_from_vertex g h cycle.0 cycle.1) in
    let before = first.1 in
    let behind = back.1 in
    record { first = first.0; second = back.0; two = λ e. absurd (omega (arith, e, before, behind)); from_first = first.2; from_second = back.2 }

pub heads_are_led_to_twice : HeadsAreLedToTwice
heads_are_led_to_twice paths d p order h o listed some = twice (ends_of (numbered paths d)) (points_are_led_to paths d) p order h o listed some

-- ---- where a way returns

pub returned_twice : (g : List (List ℕ)) → AreLedTo g → (h : ℕ) → 0 < h → IsReturnedTo g h → IsLedToTwice g h
returned_twice g led h some r =
    let behind : h ≤ r.last = reach_end g (λ w. h ≤ w) h r.last r.way in
    let first = led h some at in
    let before = first.1 in
    record { first = first.0; second = r.last; two = λ e. absurd (omega (arith, e, before, behind)); from_first = first.2; from_second = r.back }
  where
    at : IsVertex g h
    at = elim (reach_first g (λ w. h ≤ w) h r.last r.way) [ inl same ↦ subst (IsVertex g) (sym same) (edge_from_vertex g r.last h r.back) | inr x ↦ edge_from_vertex g h x.0 x.1 ]

pub returns_lead_twice : ReturnsLeadTwice
returns_lead_twice paths d h some r = returned_twice (ends_of (numbered paths d)) (points_are_led_to paths d) h some r
