-- How the open components change where an element is placed.
use Rattle.std.proofs.Common.{◌≡◌, ◌≢◌, ℕ, ◌<◌, ◌≤◌, List, [], ◌∷◌, ◌++◌, sym, ap, subst, ◌∙◌, inl, inr, arith, Contains}
use Rattle.std.proofs.lemmas.Bool.{cases_eq}
use Rattle.pk_plan.specs.declared.components.Component.{Component}
use Rattle.pk_plan.specs.declared.places.Role.{Role}
use Rattle.pk_plan.specs.declared.places.Role.TheVariants.{Vertex, Head, Exit}
use Rattle.pk_plan.specs.declared.places.Place.{Place}
use Rattle.pk_plan.specs.Plans.{PlanView, place_of}
use Rattle.pk_plan.specs.Axioms.{Axioms}
use Rattle.pk_plan.proofs.PlanLemmas.{Of, first_at, end_at, exit_within, exit_at, head_is_point, head_inside, same_place, same_head, same_exit}
use Rattle.pk_linear.specs.Waits.{AreLasts}
use Rattle.pk_linear.specs.Steps.{Stands, IsOpen, IsFree, Follows, HasRole, AreSteps}
use Rattle.pk_linear.proofs.ListLemmas.{contains_none, contains_here, contains_there, contains_cases}
use Rattle.pk_linear.proofs.StepLemmas.{stands_more, stands_last, stands_push_cases, precedes_free, precedes_placed, find_component}
use Rattle.pk_order_laws.proofs.Backs.{back_of, Back}
use Rattle.pk_order_laws.proofs.Candidates.{Candidate, Chain}

abbrev pub placed_as : ℕ → Role → Place
placed_as e role = record { element = e; role = role }

-- the role of an element, and the open components once it is placed
pub record Turn (p : PlanView) (lasts : List ℕ) (places : List Place) (e : ℕ) : Type 0 where
  pub role : Role
  pub has : HasRole p lasts places e role
  pub components : List Component
  pub chain : Chain p (places ++ placed_as e role ∷ []) components

-- heads are no exits
head_or_exit : (p : PlanView) (c d : Component) (e : ℕ) → Axioms p → Of p c → Of p d → c.head ≡ e → e ≡ d.exit → ⊥
head_or_exit p c d e axioms of_c of_d h x =
    let point : c.head < p.points = head_is_point p c axioms of_c in
    let at = exit_at p d axioms of_d in
    absurd (omega (arith, point, at, h, x))

-- what was open stays so, where its exit isn't placed
stays_open : (p : PlanView) (places : List Place) (place : Place) (c : Component) → IsOpen p places c → place.element ≢ c.exit → IsOpen p (places ++ place ∷ []) c
stays_open p places place c o other = record {
  component = o.component;
  head = stands_more places (place ∷ []) c.head o.head;
  exit = λ s. elim (stands_push_cases places place c.exit s) [ inl old ↦ o.exit old | inr new ↦ other new ];
}

-- what is open was so, but where its head was placed now
was_open : (p : PlanView) (places : List Place) (place : Place) (c : Component) → IsOpen p (places ++ place ∷ []) c → place.element ≢ c.head → IsOpen p places c
was_open p places place c o other = record {
  component = o.component;
  head = elim (stands_push_cases places place c.head o.head) [ inl old ↦ old | inr new ↦ absurd (other new) ];
  exit = λ s. o.exit (stands_more places (place ∷ []) c.exit s);
}

turn_head : (p : PlanView) (lasts : List ℕ) (places : List Place) (cs : List Component) (e : ℕ) (c : Component) → Axioms p → AreLasts p lasts → AreSteps p lasts places → Chain p places cs → Candidate p lasts places e → Of p c → c.head ≡ e → Turn p lasts places e
turn_head p lasts places cs e c axioms are steps chain k of is = record {
  role = Head;
  has = (c, of, is);
  components = c ∷ cs;
  chain = record {
    opens = λ d i. elim (contains_cases c d cs i) [
      | inl same ↦ subst (λ (x : Component). IsOpen p (places ++ placed_as e Head ∷ []) x) same opened
      | inr more ↦ let o : IsOpen p places d = chain.opens d more in stays_open p places (placed_as e Head) d o (λ x. head_or_exit p c d e axioms of o.component is x)
    ];
    every = λ d o. elim (cases_eq e d.head) [
      | inl same ↦ subst (λ (x : Component). Contains (c ∷ cs) x) (same_head p c d axioms of o.component (is ∙ same)) (contains_here c cs)
      | inr other ↦ contains_there c cs (chain.every d (was_open p places (placed_as e Head) d o other))
    ];
    nested = (around, chain.nested);
  };
}
  where
    opened : IsOpen p (places ++ placed_as e Head ∷ []) c
    opened = record {
      component = of;
      head = subst (λ (x : ℕ). Stands (places ++ placed_as e Head ∷ []) x) (sym is) (stands_last places (placed_as e Head));
      exit = λ s. elim (stands_push_cases places (placed_as e Head) c.exit s) [
        | inl old ↦ k.fresh (subst (λ (x : ℕ). Stands places x) is (precedes_placed p lasts places c.head c.exit axioms are steps old (axioms.before_exit c c.head of (head_inside p c axioms of))))
        | inr new ↦ head_or_exit p c c e axioms of of is new
      ];
    }

    around : (d : Component) → Contains cs d → (d.first < c.first) × (c.end < d.end)
    around d i =
        let o : IsOpen p places d = chain.opens d i in
        let f : Follows p d e = k.inside d o in
        let f0 : d.first < place_of p e = f.0 in
        let f1 : place_of p e ≤ d.end = f.1 in
        let first : c.first ≡ place_of p c.head = first_at p c axioms of in
        let at : place_of p c.head ≡ place_of p e = ap (place_of p) is in
        let end : d.end ≡ place_of p d.exit = end_at p d axioms o.component in
        let apart : place_of p e ≢ d.end = λ same. head_or_exit p c d e axioms of o.component is (same_place p e d.exit axioms k.within (exit_within p d axioms o.component) (same ∙ end)) in
        (omega (arith, f0, first, at), axioms.nested d c o.component of (omega (arith, f0, first, at)) (omega (arith, f1, first, at, apart)))

turn_exit : (p : PlanView) (lasts : List ℕ) (places : List Place) (d : Component) (ds : List Component) (e : ℕ) (c : Component) → Axioms p → AreLasts p lasts → AreSteps p lasts places → Chain p places (d ∷ ds) → Candidate p lasts places e → Of p c → c.exit ≡ e → Contains (d ∷ ds) c → Turn p lasts places e
turn_exit p lasts places d ds e c axioms are steps chain k of is here = record {
  role = Exit back.number;
  has = (c, of, is, back.is);
  components = ds;
  chain = record {
    opens = λ x i.
        let o : IsOpen p places x = chain.opens x (contains_there d ds i) in
        stays_open p places (placed_as e (Exit back.number)) x o (λ s.
        let x_c : x ≡ c = same_exit p x c axioms o.component of (sym s ∙ sym is) in
        let n = (chain.nested.0 x i).0 in
        let same : x.first ≡ d.first = ap (λ (y : Component). y.first) (x_c ∙ sym innermost) in
        absurd (omega (arith, n, same)));
    every = λ x o.
        let other : e ≢ x.head = λ s. head_or_exit p x c e axioms o.component of (sym s) (sym is) in
        let was : IsOpen p places x = was_open p places (placed_as e (Exit back.number)) x o other in
        elim (contains_cases d x ds (chain.every x was)) [
          | inl same ↦ absurd (o.exit (subst (λ (y : Component). Stands (places ++ placed_as e (Exit back.number) ∷ []) y.exit) (sym innermost ∙ same) (subst (λ (y : ℕ). Stands (places ++ placed_as e (Exit back.number) ∷ []) y) (sym is) (stands_last places (placed_as e (Exit back.number))))))
          | inr more ↦ more
        ];
    nested = chain.nested.1;
  };
}
  where
    back : Back places c.head
    back = back_of p lasts places c.head steps

    innermost : d ≡ c
    innermost = elim (contains_cases d c ds here) [
      | inl same ↦ same
      | inr more ↦ absurd (
          let n = (chain.nested.0 c more).1 in
          let f = (k.inside d (chain.opens d (contains_here d ds))).1 in
          let end : c.end ≡ place_of p c.exit = end_at p c axioms of in
          let at : place_of p c.exit ≡ place_of p e = ap (place_of p) is in
          omega (arith, n, f, end, at))
    ]

turn_vertex : (p : PlanView) (lasts : List ℕ) (places : List Place) (cs : List Component) (e : ℕ) → Axioms p → AreLasts p lasts → Chain p places cs → Candidate p lasts places e → ((c : Component) → Of p c → c.head ≢ e) → ((c : Component) → Of p c → c.exit ≢ e) → Turn p lasts places e
turn_vertex p lasts places cs e axioms are chain k no_head no_exit = record {
  role = Vertex;
  has = (are.others e k.within no_head, no_exit);
  components = cs;
  chain = record {
    opens = λ c i. let o : IsOpen p places c = chain.opens c i in stays_open p places (placed_as e Vertex) c o (λ s. no_exit c o.component (sym s));
    every = λ c o. chain.every c (was_open p places (placed_as e Vertex) c o (λ s. no_head c o.component (sym s)));
    nested = chain.nested;
  };
}

-- an exit that is ready is that of an open component
exit_open : (p : PlanView) (lasts : List ℕ) (places : List Place) (e : ℕ) (c : Component) → Axioms p → AreLasts p lasts → AreSteps p lasts places → Candidate p lasts places e → Of p c → c.exit ≡ e → IsOpen p places c
exit_open p lasts places e c axioms are steps k of is = record {
  component = of;
  head = precedes_free p lasts places c.head c.exit axioms are steps (subst (λ (x : ℕ). IsFree p lasts places x) (sym is) k.free) (axioms.before_exit c c.head of (head_inside p c axioms of));
  exit = λ s. k.fresh (subst (λ (x : ℕ). Stands places x) is s);
}

turn_closing : (p : PlanView) (lasts : List ℕ) (places : List Place) (cs : List Component) (e : ℕ) (c : Component) → Axioms p → AreLasts p lasts → AreSteps p lasts places → Chain p places cs → Candidate p lasts places e → Of p c → c.exit ≡ e → Contains cs c → Turn p lasts places e
turn_closing p lasts places [] e c axioms are steps chain k of is here = absurd (contains_none here)
turn_closing p lasts places (d ∷ ds) e c axioms are steps chain k of is here = turn_exit p lasts places d ds e c axioms are steps chain k of is here

pub turn : (p : PlanView) (lasts : List ℕ) (places : List Place) (cs : List Component) (e : ℕ) → Axioms p → AreLasts p lasts → AreSteps p lasts places → Chain p places cs → Candidate p lasts places e → Turn p lasts places e
turn p lasts places cs e axioms are steps chain k = elim (find_component (λ (c : Component). c.head) p.components e) [
  | inl h ↦ turn_head p lasts places cs e h.0 axioms are steps chain k h.1 h.2
  | inr no_head ↦ elim (find_component (λ (c : Component). c.exit) p.components e) [
    | inl x ↦ turn_closing p lasts places cs e x.0 axioms are steps chain k x.1 x.2 (chain.every x.0 (exit_open p lasts places e x.0 axioms are steps k x.1 x.2))
    | inr no_exit ↦ turn_vertex p lasts places cs e axioms are chain k no_head no_exit
  ]
]
