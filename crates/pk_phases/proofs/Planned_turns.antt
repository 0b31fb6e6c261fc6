-- The linear order of a plan has each element once, and its brackets are the plan's components.
use Rattle.std.proofs.Common.{◌≡◌, ◌≢◌, ℕ, suc, ◌+◌, List, ◌∷◌, ◌++◌, map, length, ap, sym, subst, ◌∙◌, refl, inl, inr, arith, Contains, AllPairs}
use Rattle.std.proofs.lemmas.List.{map-append}
use Rattle.std.proofs.lemmas.List.Elements.{Contains-append_left, Contains-append_right}
use Rattle.pk_plan.specs.declared.components.Component.{Component}
use Rattle.pk_plan.specs.declared.places.Role.TheVariants.{Exit as AtExit}
use Rattle.pk_plan.specs.declared.places.Place.{Place}
use Rattle.pk_plan.specs.Order.{Level, Empty, Vertex_then, Component_then, places_of}
use Rattle.pk_plan.specs.Plans.{PlanView}
use Rattle.pk_plan.specs.Linear.{elements_of, Bracket, brackets_of, IsLinear}
use Rattle.pk_iterate.specs.Settled.{Once}
use Rattle.pk_iterate.specs.BoundedTurns.{HasComponent}
use Rattle.pk_iterate.proofs.Once_each.{different_once}
use Rattle.pk_phases.specs.declared.equations.Part.TheVariants.{HeadOf, ExitOf}
use Rattle.pk_phases.specs.Values.{IsRank}
use Rattle.pk_phases.specs.Equations.{Equations, KeepHeld, PartsAreOf}
use Rattle.pk_phases.proofs.Equation_turns.{equations_end}
use Rattle.pk_phases.specs.Planned.{LinearOrderEnds}

pub elements_of_places : (level : Level) → map (λ (p : Place). p.element) (places_of level) ≡ elements_of level
elements_of_places Empty = refl
elements_of_places (Vertex_then v more) = ap (λ (xs : List ℕ). v ∷ xs) (elements_of_places more)
elements_of_places (Component_then head exit rest more) =
    let place : Place = record { element = exit; role = AtExit (length (places_of rest) + 1) } in
    let inner = elements_of_places rest in
    let outer = elements_of_places more in
    ap (λ (xs : List ℕ). head ∷ xs) (map-append (λ (p : Place). p.element) (places_of rest) (place ∷ places_of more) ∙ rw (inner, outer) refl)

there : (bracket first : Bracket) (others : List Bracket) → Contains others bracket → Contains (first ∷ others) bracket
there bracket first others has = (suc has.0, omega (arith, has.1), has.2)

-- a component of the order is drawn by its brackets
drawn : (order : Level) (head exit : ℕ) → HasComponent order head exit → (bracket : Bracket) × Contains (brackets_of order) bracket × (bracket.head ≡ head) × (bracket.exit ≡ exit)
drawn Empty head exit i = absurd i
drawn (Vertex_then v more) head exit i = drawn more head exit i
drawn (Component_then h x rest more) head exit (inl same) =
    (record { head = h; exit = x; members = h ∷ elements_of rest }, (0, omega arith, refl), sym same.0, sym same.1)
drawn (Component_then h x rest more) head exit (inr (inl i)) =
    let r = drawn rest head exit i in
    (r.0, there r.0 _ (brackets_of rest ++ brackets_of more) (Contains-append_left (brackets_of rest) (brackets_of more) r.0 r.1), r.2, r.3)
drawn (Component_then h x rest more) head exit (inr (inr i)) =
    let r = drawn more head exit i in
    (r.0, there r.0 _ (brackets_of rest ++ brackets_of more) (Contains-append_right (brackets_of rest) (brackets_of more) r.0 r.1), r.2, r.3)

-- a component of the linear order is one of the plan
component_of : (p : PlanView) (order : Level) (head exit : ℕ) → IsLinear p order → HasComponent order head exit → (c : Component) × Contains p.components c × (c.head ≡ head) × (c.exit ≡ exit)
component_of p order head exit linear i =
    let b = drawn order head exit i in
    let c = linear.drawn b.0 b.1 in
    (c.0, c.1, sym c.2.head ∙ b.2, sym c.2.exit ∙ b.3)

named : {V : Type 0} (q : Equations V) (c : Component) (head exit : ℕ) → c.head ≡ head → c.exit ≡ exit → (q.part c.head ≡ HeadOf c.exit) × (q.part c.exit ≡ ExitOf c.head) → (q.part head ≡ HeadOf exit) × (q.part exit ≡ ExitOf head)
named q c head exit h x are = (ap q.part (sym h) ∙ are.0 ∙ ap HeadOf x, ap q.part (sym x) ∙ are.1 ∙ ap ExitOf h)

pub linear_order_ends : {V : Type 0} (q : Equations V) (held : ℕ → V → Type 0) → KeepHeld q held → LinearOrderEnds q held
linear_order_ends {V} q held keeps p order rank chain linear parts apart ranks =
    equations_end q held keeps order rank chain once same apart (λ head exit i. let c = component_of p order head exit linear i in subst (λ (h : ℕ). IsRank q.ops (held h) chain rank) c.2 (ranks c.0 c.1))
  where
    once : Once order
    once = different_once order (subst (AllPairs (λ (a b : ℕ). a ≢ b)) (sym (elements_of_places order)) linear.once)

    same : PartsAreOf q order
    same head exit i = let c = component_of p order head exit linear i in named q c.0 head exit c.2 c.3 (parts c.0 c.1)
