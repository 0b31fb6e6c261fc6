-- What is drawn is the plan of the nest, and meets the axioms.
use Rattle.std.proofs.Common.{◌≡◌, ◌≢◌, ℕ, zero, suc, ◌<◌, ◌≤◌, ◌+◌, List, ◌⊎◌, inl, inr, length, get_or, sym, subst, arith, ap, refl, ◌∙◌, All, Contains, Option, Some, None}
use Rattle.std.specs.List.{range_with_len}
use Rattle.std.specs.List.Sorted.{IsStrictlyIncreasing}
use Rattle.std.proofs.lemmas.Bool.{cases_lt}
use Rattle.std.proofs.lemmas.Bool.Decides.{eqb_tells}
use Rattle.std.proofs.lemmas.List.{length-map}
use Rattle.std.proofs.lemmas.List.Elements.{Contains-get_or}
use Rattle.pk_plan.specs.declared.components.Component.{Component}
use Rattle.pk_plan.specs.Digraphs.{Edge}
use Rattle.pk_plan.specs.Nests.{Items, Holds}
use Rattle.pk_plan.specs.Plans.{PlanView, plan_of, end_of, Constrains, Precedes, One, More, Inside}
use Rattle.pk_plan.specs.Axioms.{Axioms}
use Rattle.pk_plan.proofs.DigraphLemmas.{edge_from_vertex}
use Rattle.pk_plan.proofs.PlanLemmas.{precedes_trans}
use Rattle.pk_wpo.specs.Constraints.{vertex, forth as leads_forth, IsElement, a_vertex, an_exit, Constraint, by_edge, by_head, to_end, heads_below, exit_of}
use Rattle.pk_wpo.specs.Layouts.{Laid, IsLaid, end_number, place_in, component_at, components_in}
use Rattle.pk_plan.specs.Reverses.{IsReverse}
use Rattle.pk_wpo.specs.Edges.{AreEdgeConstraints, HasHeadConstraintsMore, HasEndConstraintsMore}
use Rattle.pk_wpo.specs.Made.{IsPlanOf, LeadsForwardOrBack, Fits}
use Rattle.pk_wpo.proofs.Placed.{Hold, exit_in, listed_in, holding_head, head_vertex, exit_before_end, is_element, elements_long, at_listed, at_end, place_of_end, place_below, at_place, listed_below, hold_before, hold_by_place, exit_nested, hold_or_none, hold_or_not, has_from, has_before, has_head, has_below, has_by_place}
use Rattle.pk_wpo.proofs.Sequences.{member_at}
use Rattle.pk_wpo.proofs.Orders.{HasIn, ByEdge, ByHead, HomeIn, has_trans, edge_rises, head_rises, edge_from_below, edge_to_below, edge_stays, head_stays, has_leads}
use Rattle.pk_wpo.proofs.Homes.{home_of_each}
use Rattle.pk_wpo.proofs.Climbing.{top_exists, top_is}
use Rattle.pk_wpo.proofs.Counting.{as_many}
use Rattle.pk_wpo.proofs.Components.{component_is, component_of_head, components_heads, components_exits, heads_rise, exits_follow}
use Rattle.pk_wpo.proofs.Stretches.{stretch_place, stretch_has}

-- the constraints, drawn in three steps, and turned round twice
pub record Drawn (l : Laid) (by_edges with_heads drawn back forth : List (List ℕ)) : Type 0 where
  pub laid : IsLaid l
  pub edges : AreEdgeConstraints l by_edges
  pub heads : HasHeadConstraintsMore l by_edges with_heads
  pub ends : HasEndConstraintsMore (end_number l) with_heads drawn
  pub long : length drawn ≡ end_number l + 1
  pub backward : IsReverse drawn back
  pub backward_rises : All IsStrictlyIncreasing back
  pub forward : IsReverse back forth
  pub forward_rises : All IsStrictlyIncreasing forth

abbrev pub made : Laid → List (List ℕ) → List (List ℕ) → PlanView
made l back forth = plan_of (length l.graph) (end_number l + 1) back forth l.elements l.places (components_in l)

-- what an edge that was drawn is
drawn_is : (l : Laid) (c0 c1 c2 back forth : List (List ℕ)) (a b : ℕ) → Drawn l c0 c1 c2 back forth → Edge c2 a b → ByEdge l a b ⊎ (ByHead l a b ⊎ ((a < end_number l) × ((c : ℕ) → Edge c1 a c → ⊥) × (b ≡ end_number l)))
drawn_is l c0 c1 c2 back forth a b d e = elim (d.ends.only a b e) [
  | inl old ↦ elim (d.heads.only a b old) [
    | inl older ↦ inl (d.edges.only a b older)
    | inr head ↦ inr (inl head)
  ]
  | inr end ↦ inr (inr end)
]

edge_drawn : (l : Laid) (c0 c1 c2 back forth : List (List ℕ)) (a b : ℕ) → Drawn l c0 c1 c2 back forth → ByEdge l a b → Edge c1 a b
edge_drawn l c0 c1 c2 back forth a b d e = d.heads.kept a b (d.edges.drawn a b e)

pub constraint_of : (l : Laid) (c0 c1 c2 back forth : List (List ℕ)) (a b : ℕ) → Drawn l c0 c1 c2 back forth → Edge c2 a b → Constraint l.graph (Holds l.items) (exit_of l.graph l.items) a b
constraint_of l c0 c1 c2 back forth a b d e = elim (drawn_is l c0 c1 c2 back forth a b d e) [
  | inl x ↦ by_edge x
  | inr y ↦ elim y [
    | inl x ↦ by_head x
    | inr x ↦
        let element : IsElement l.graph (Holds l.items) (exit_of l.graph l.items) a = elim (is_element l a d.laid x.0) [
          | inl v ↦ a_vertex v
          | inr k ↦ subst (λ (i : ℕ). IsElement l.graph (Holds l.items) (exit_of l.graph l.items) i) (sym k.2) (an_exit k.1)
        ] in
        subst (λ (i : ℕ). Constraint l.graph (Holds l.items) (exit_of l.graph l.items) a i) (sym x.2)
        (to_end element (λ c z. x.1 c (edge_drawn l c0 c1 c2 back forth a c d z)) (λ c z. x.1 c (d.heads.drawn a c z)))
  ]
]

element_below : (l : Laid) (a : ℕ) → IsLaid l → IsElement l.graph (Holds l.items) (exit_of l.graph l.items) a → a < end_number l
element_below l a laid (a_vertex v) = omega (arith, v)
element_below l a laid (an_exit {h} x) = exit_before_end l h h laid x

pub constraint_drawn : (l : Laid) (c0 c1 c2 back forth : List (List ℕ)) (a b : ℕ) → Drawn l c0 c1 c2 back forth → Constraint l.graph (Holds l.items) (exit_of l.graph l.items) a b → Edge c2 a b
constraint_drawn l c0 c1 c2 back forth a b d (by_edge x) = d.ends.kept a b (edge_drawn l c0 c1 c2 back forth a b d x)
constraint_drawn l c0 c1 c2 back forth a b d (by_head x) = d.ends.kept a b (d.heads.drawn a b x)
constraint_drawn l c0 c1 c2 back forth a b d (to_end element no_edge no_head) =
    d.ends.drawn a (element_below l a d.laid element) (λ c e. elim (d.heads.only a c e) [
      | inl old ↦ no_edge c (d.edges.only a c old)
      | inr head ↦ no_head c head
    ])

-- the drawn edges are the plan's constraints
pub constrains_by : (l : Laid) (c0 c1 c2 back forth : List (List ℕ)) (a b : ℕ) → Drawn l c0 c1 c2 back forth → Edge c2 a b → Constrains (made l back forth) a b
constrains_by l c0 c1 c2 back forth a b d e = d.forward.back b a (d.backward.back a b e)

pub drawn_by : (l : Laid) (c0 c1 c2 back forth : List (List ℕ)) (a b : ℕ) → Drawn l c0 c1 c2 back forth → Constrains (made l back forth) a b → Edge c2 a b
drawn_by l c0 c1 c2 back forth a b d c = d.backward.forth a b (d.forward.forth b a c)

-- they lead forward
drawn_rises : (l : Laid) (c0 c1 c2 back forth : List (List ℕ)) (a b : ℕ) → Drawn l c0 c1 c2 back forth → Edge c2 a b → place_in l a < place_in l b
drawn_rises l c0 c1 c2 back forth a b d e = elim (drawn_is l c0 c1 c2 back forth a b d e) [
  | inl x ↦ edge_rises l a b d.laid x
  | inr y ↦ elim y [
    | inl x ↦ head_rises l a b d.laid x
    | inr x ↦
        let below = place_below l a d.laid x.0 in
        let end = ap (place_in l) x.2 ∙ place_of_end l d.laid in
        omega (arith, below, end)
  ]
]

drawn_from : (l : Laid) (c0 c1 c2 back forth : List (List ℕ)) (a b : ℕ) → Drawn l c0 c1 c2 back forth → Edge c2 a b → a < end_number l
drawn_from l c0 c1 c2 back forth a b d e = elim (drawn_is l c0 c1 c2 back forth a b d e) [
  | inl x ↦ edge_from_below l a b d.laid x
  | inr y ↦ elim y [
    | inl x ↦ let h = head_vertex l a a d.laid (has_head l a b d.laid x.has) in omega (arith, h)
    | inr x ↦ x.0
  ]
]

drawn_to : (l : Laid) (c0 c1 c2 back forth : List (List ℕ)) (a b : ℕ) → Drawn l c0 c1 c2 back forth → Edge c2 a b → b ≤ end_number l
drawn_to l c0 c1 c2 back forth a b d e = elim (drawn_is l c0 c1 c2 back forth a b d e) [
  | inl x ↦ let below = edge_to_below l a b d.laid x in omega (arith, below)
  | inr y ↦ elim y [
    | inl x ↦ let below = has_below l a b d.laid x.has in omega (arith, below)
    | inr x ↦ let same = x.2 in omega (arith, same)
  ]
]

-- they stay in a component, or lead to its exit
drawn_stays : (l : Laid) (c0 c1 c2 back forth : List (List ℕ)) (h a b : ℕ) → Drawn l c0 c1 c2 back forth → HasIn l h a → Edge c2 a b → HasIn l h b ⊎ (b ≡ exit_in l h)
drawn_stays l c0 c1 c2 back forth h a b d has e = elim (drawn_is l c0 c1 c2 back forth a b d e) [
  | inl x ↦ edge_stays l h a b d.laid has x
  | inr y ↦ elim y [
    | inl x ↦ inl (head_stays l h a b d.laid has x)
    | inr x ↦
        let home = home_of_each l a d.laid x.0 in
        let leads = has_leads l h a home.0 d.laid has home.1 in
        absurd (x.1 leads.0 (edge_drawn l c0 c1 c2 back forth a leads.0 d leads.1))
  ]
]

-- the head precedes the other elements of its component
after_head_of : (l : Laid) (c0 c1 c2 back forth : List (List ℕ)) (n h e : ℕ) → Drawn l c0 c1 c2 back forth → place_in l e < n → HasIn l h e → e ≢ h → Precedes (made l back forth) h e
after_head_of l c0 c1 c2 back forth zero h e d below has ne = absurd (omega (arith, below))
after_head_of l c0 c1 c2 back forth (suc n) h e d below has ne =
    let home = home_of_each l e d.laid (has_below l h e d.laid has) in
    by_home home.0 home.1 (λ a less has_a other. after_head_of l c0 c1 c2 back forth n h a d (omega (arith, less, below)) has_a other)
  where
    by_home : (home : Option ℕ) → HomeIn l e home → ((a : ℕ) → place_in l a < place_in l e → HasIn l h a → a ≢ h → Precedes (made l back forth) h a) → Precedes (made l back forth) h e
    by_home None is_home earlier = absurd (ne (is_home h (has_head l h e d.laid has) has))
    by_home (Some k) is_home earlier =
        let led = d.heads.led e k (has_below l h e d.laid has) is_home in
        let a = led.0 in
        let outer : Hold l h k = is_home.3 h (has_head l h e d.laid has) has ne in
        let has_a : HasIn l h a = has_trans l h k a d.laid outer led.1 in
        let edge : Edge c2 a e = d.ends.kept a e led.2 in
        let last : Constrains (made l back forth) a e = constrains_by l c0 c1 c2 back forth a e d edge in
        let less = drawn_rises l c0 c1 c2 back forth a e d edge in
        elim (eqb_tells a h) [
          | inl same ↦ One (subst (λ (i : ℕ). Constrains (made l back forth) i e) same.1 last)
          | inr other ↦ More (earlier a less has_a other.1) last
        ]

-- all elements of a component precede its exit
before_exit_of : (l : Laid) (c0 c1 c2 back forth : List (List ℕ)) (n h e : ℕ) → Drawn l c0 c1 c2 back forth → place_in l (exit_in l h) ≤ place_in l e + n → HasIn l h e → Precedes (made l back forth) e (exit_in l h)
before_exit_of l c0 c1 c2 back forth zero h e d far has = absurd (let before = has_before l h e d.laid has in omega (arith, far, before))
before_exit_of l c0 c1 c2 back forth (suc n) h e d far has =
    let home = home_of_each l e d.laid (has_below l h e d.laid has) in
    let leads = has_leads l h e home.0 d.laid has home.1 in
    let b = leads.0 in
    let edge : Edge c2 e b = d.ends.kept e b (edge_drawn l c0 c1 c2 back forth e b d leads.1) in
    let first : Constrains (made l back forth) e b = constrains_by l c0 c1 c2 back forth e b d edge in
    let less = drawn_rises l c0 c1 c2 back forth e b d edge in
    elim (edge_stays l h e b d.laid has leads.1) [
      | inl has_b ↦ precedes_trans (made l back forth) e b (exit_in l h) (One first) (before_exit_of l c0 c1 c2 back forth n h b d (omega (arith, far, less)) has_b)
      | inr same ↦ One (subst (λ (i : ℕ). Constrains (made l back forth) e i) same first)
    ]

-- all elements precede END
before_end_of : (l : Laid) (c0 c1 c2 back forth : List (List ℕ)) (n e : ℕ) → Drawn l c0 c1 c2 back forth → length (listed_in l) ≤ place_in l e + n → e < end_number l → Precedes (made l back forth) e (end_number l)
before_end_of l c0 c1 c2 back forth zero e d far below = absurd (let place = place_below l e d.laid below in omega (arith, far, place))
before_end_of l c0 c1 c2 back forth (suc n) e d far below =
    let leads = d.ends.leads e below in
    let b = leads.0 in
    let first : Constrains (made l back forth) e b = constrains_by l c0 c1 c2 back forth e b d leads.1 in
    let less = drawn_rises l c0 c1 c2 back forth e b d leads.1 in
    let at_most = drawn_to l c0 c1 c2 back forth e b d leads.1 in
    elim (eqb_tells b (end_number l)) [
      | inl same ↦ One (subst (λ (i : ℕ). Constrains (made l back forth) e i) same.1 first)
      | inr other ↦ let ne = other.1 in
          precedes_trans (made l back forth) e b (end_number l) (One first) (before_end_of l c0 c1 c2 back forth n b d (omega (arith, far, less)) (omega (arith, at_most, ne)))
    ]

-- the listing, by places
listing_long : (l : Laid) → IsLaid l → length l.elements ≡ end_number l + 1
listing_long l laid = let long = elements_long l laid in let many = as_many l laid.nest in omega (arith, long, many)

element_at : (l : Laid) (at : ℕ) → IsLaid l → at < end_number l + 1 → get_or l.elements at 0 < end_number l + 1
element_at l at laid below =
    let many = as_many l laid.nest in
    elim (cases_lt at (length (listed_in l))) [
      | inl less ↦ let small = listed_below l (get_or (listed_in l) at 0) laid (member_at (listed_in l) at less) in let same = at_listed l at laid less in omega (arith, small, same)
      | inr more ↦ let same : get_or l.elements at 0 ≡ end_number l = ap (λ (k : ℕ). get_or l.elements k 0) (omega (arith, below, many, more)) ∙ at_end l laid in omega (arith, same)
    ]

place_within : (l : Laid) (e : ℕ) → IsLaid l → e < end_number l + 1 → (place_in l e < end_number l + 1) × (get_or l.elements (place_in l e) 0 ≡ e)
place_within l e laid below =
    let many = as_many l laid.nest in
    elim (cases_lt e (end_number l)) [
      | inl less ↦ (let small = place_below l e laid less in omega (arith, small, many), at_place l e laid less)
      | inr more ↦
          let is_end : e ≡ end_number l = omega (arith, below, more) in
          let place : place_in l e ≡ length (listed_in l) = ap (place_in l) is_end ∙ place_of_end l laid in
          (omega (arith, place, many), ap (λ (k : ℕ). get_or l.elements k 0) place ∙ at_end l laid ∙ sym is_end)
    ]

place_at : (l : Laid) (at : ℕ) → IsLaid l → at < end_number l + 1 → place_in l (get_or l.elements at 0) ≡ at
place_at l at laid below = let long = listing_long l laid in laid.place at (omega (arith, below, long))

-- members are the elements of the component
stretch_within : (l : Laid) (h : ℕ) → IsLaid l → Hold l h h → place_in l (exit_in l h) ≤ end_number l + 1
stretch_within l h laid x = let small = place_below l (exit_in l h) laid (exit_before_end l h h laid x) in let many = as_many l laid.nest in omega (arith, small, many)

inside_has : (l : Laid) (back forth : List (List ℕ)) (h e : ℕ) → IsLaid l → Hold l h h → Inside (made l back forth) (component_at l h) e → HasIn l h e
inside_has l back forth h e laid x inside =
    let at = stretch_place l.elements l.places (end_number l + 1) (place_in l h) (place_in l (exit_in l h)) e (listing_long l laid) (λ k below. place_at l k laid below) (stretch_within l h laid x) inside in
    let from = at.1 in
    let before = at.2 in
    let place : place_in l e ≡ at.0 = at.3 in
    let exit_place = place_below l (exit_in l h) laid (exit_before_end l h h laid x) in
    let below : e < end_number l = subst (λ (i : ℕ). i < end_number l) (sym (at_listed l at.0 laid (omega (arith, before, exit_place))) ∙ at.4) (listed_below l (get_or (listed_in l) at.0 0) laid (member_at (listed_in l) at.0 (omega (arith, before, exit_place)))) in
    has_by_place l h e laid x below (omega (arith, from, place)) (omega (arith, before, place))

has_inside : (l : Laid) (back forth : List (List ℕ)) (h e : ℕ) → IsLaid l → HasIn l h e → Inside (made l back forth) (component_at l h) e
has_inside l back forth h e laid has =
    stretch_has l.elements (end_number l + 1) (place_in l h) (place_in l (exit_in l h)) e (place_in l e) (listing_long l laid) (stretch_within l h laid (has_head l h e laid has)) (has_from l h e laid has) (has_before l h e laid has)
    (at_place l e laid (has_below l h e laid has))

-- of a component of the plan
has_of : (l : Laid) (back forth : List (List ℕ)) (c : Component) (e : ℕ) → IsLaid l → Contains (components_in l) c → Inside (made l back forth) c e → HasIn l c.head e
has_of l back forth c e laid of inside =
    let is = component_is l c of in
    inside_has l back forth c.head e laid is.1 (subst (λ (x : Component). Inside (made l back forth) x e) is.0 inside)

inside_of : (l : Laid) (back forth : List (List ℕ)) (c : Component) (e : ℕ) → IsLaid l → Contains (components_in l) c → HasIn l c.head e → Inside (made l back forth) c e
inside_of l back forth c e laid of has =
    let is = component_is l c of in
    subst (λ (x : Component). Inside (made l back forth) x e) (sym is.0) (has_inside l back forth c.head e laid has)

exit_of_component : (l : Laid) (c : Component) → Contains (components_in l) c → c.exit ≡ exit_in l c.head
exit_of_component l c of = ap (λ (x : Component). x.exit) (component_is l c of).0

-- the axioms
pub axioms_made : (l : Laid) (c0 c1 c2 back forth : List (List ℕ)) → Drawn l c0 c1 c2 back forth → Axioms (made l back forth)
axioms_made l c0 c1 c2 back forth d =
    let laid = d.laid in
    let heads = heads_below l.items (length l.graph) in
    let many : length (components_in l) ≡ length heads = length-map heads (component_at l) in
    record {
      counted = omega (arith, many);
      heads = subst IsStrictlyIncreasing (sym (components_heads l heads)) (heads_rise l.items (length l.graph));
      points = λ k x below. (component_is l (get_or (components_in l) k x) (Contains-get_or (components_in l) k x below)).2;
      exits = components_exits l heads ∙ exits_follow l (length l.graph) ∙ ap (range_with_len (length l.graph)) (sym many);
      successor_lists = d.forward.as_many ∙ d.backward.as_many ∙ d.long;
      predecessor_lists = d.backward.as_many ∙ d.long;
      to_predecessor = λ a b c. d.forward.forth b a c;
      to_successor = λ a b c. d.forward.back b a c;
      within = λ a b c. let below = drawn_to l c0 c1 c2 back forth a b d (drawn_by l c0 c1 c2 back forth a b d c) in omega (arith, below);
      successors_rise = d.forward_rises;
      predecessors_rise = d.backward_rises;
      listed = listing_long l laid;
      placed = laid.placed ∙ listing_long l laid;
      place = λ e below. (place_within l e laid below).0;
      element = λ at below. element_at l at laid below;
      at_place = λ e below. (place_within l e laid below).1;
      place_at = λ at below. place_at l at laid below;
      rises = λ a b c. drawn_rises l c0 c1 c2 back forth a b d (drawn_by l c0 c1 c2 back forth a b d c);
      end_outside = λ c of inside. absurd (let below = has_below l c.head (end_of (made l back forth)) laid (has_of l back forth c (end_of (made l back forth)) laid of inside) in omega (arith, below, many));
      end_is_last = λ b c. absurd (let below = drawn_from l c0 c1 c2 back forth (end_of (made l back forth)) b d (drawn_by l c0 c1 c2 back forth (end_of (made l back forth)) b d c) in omega (arith, below, many));
      before_end = λ e below. subst (λ (i : ℕ). Precedes (made l back forth) e i) (omega (arith, many)) (before_end_of l c0 c1 c2 back forth (length (listed_in l)) e d (omega arith) (omega (arith, below, many)));
      first = λ k x below. ap (λ (y : Component). y.first) (component_is l (get_or (components_in l) k x) (Contains-get_or (components_in l) k x below)).0;
      end = λ k x below.
          let is = (component_is l (get_or (components_in l) k x) (Contains-get_or (components_in l) k x below)).0 in
          ap (λ (y : Component). y.end) is ∙ sym (ap (λ (y : Component). place_in l y.exit) is);
      not_empty = λ k x below.
          let is = component_is l (get_or (components_in l) k x) (Contains-get_or (components_in l) k x below) in
          let h = (get_or (components_in l) k x).head in
          let before = hold_before l h h laid is.1 in
          let first = ap (λ (y : Component). y.first) is.0 in
          let end = ap (λ (y : Component). y.end) is.0 in
          omega (arith, before, first, end);
      nested = λ c e of_c of_e less before.
          let is_c = component_is l c of_c in
          let is_e = component_is l e of_e in
          let first_c = ap (λ (y : Component). y.first) is_c.0 in
          let first_e = ap (λ (y : Component). y.first) is_e.0 in
          let end_c = ap (λ (y : Component). y.end) is_c.0 in
          let end_e = ap (λ (y : Component). y.end) is_e.0 in
          let holds : Hold l c.head e.head = hold_by_place l c.head e.head laid is_c.1 is_e.2 (omega (arith, less, first_c, first_e)) (omega (arith, before, first_e, end_c)) in
          let ne : e.head ≢ c.head = (λ same. let equal = ap (place_in l) same in absurd (omega (arith, equal, less, first_c, first_e))) in
          let ends = exit_nested l c.head e.head laid holds is_e.1 ne in
          omega (arith, ends, end_c, end_e);
      after_head = λ c e of inside ne. after_head_of l c0 c1 c2 back forth (suc (place_in l e)) c.head e d (omega arith) (has_of l back forth c e laid of inside) ne;
      before_exit = λ c e of inside.
          subst (λ (i : ℕ). Precedes (made l back forth) e i) (sym (exit_of_component l c of))
          (before_exit_of l c0 c1 c2 back forth (place_in l (exit_in l c.head)) c.head e d (omega arith) (has_of l back forth c e laid of inside));
      stays = λ c a b of inside con. elim (drawn_stays l c0 c1 c2 back forth c.head a b d (has_of l back forth c a laid of inside) (drawn_by l c0 c1 c2 back forth a b d con)) [
        | inl has ↦ inl (inside_of l back forth c b laid of has)
        | inr same ↦ inr (same ∙ sym (exit_of_component l c of))
      ];
    }

-- and it is the nest's plan
pub is_plan_made : (l : Laid) (c0 c1 c2 back forth : List (List ℕ)) → Drawn l c0 c1 c2 back forth → IsPlanOf l.graph l.items (made l back forth)
is_plan_made l c0 c1 c2 back forth d = record {
  points = refl;
  component = λ h x. (component_at l h, component_of_head l h d.laid x, refl);
  head = λ c of. (component_is l c of).1;
  exit = λ c of. exit_of_component l c of;
  member = λ c e of has. inside_of l back forth c e d.laid of has;
  is_member = λ c e of inside. has_of l back forth c e d.laid of inside;
  constrains = λ a b c. constrains_by l c0 c1 c2 back forth a b d (constraint_drawn l c0 c1 c2 back forth a b d c);
  constraint = λ a b c. constraint_of l c0 c1 c2 back forth a b d (drawn_by l c0 c1 c2 back forth a b d c);
}

-- the plan fits its digraph
edges_lead : (l : Laid) (c0 c1 c2 back forth : List (List ℕ)) (u v : ℕ) → Drawn l c0 c1 c2 back forth → Edge l.graph u v → LeadsForwardOrBack (made l back forth) u v
edges_lead l c0 c1 c2 back forth' u v d e =
    let u_in = edge_from_vertex l.graph u v e in
    let v_in = d.laid.closed u v e in
    elim (held_or_not u_in v_in) [
      | inl x ↦ inr (component_at l v, component_of_head l v d.laid (holding_head l v u d.laid x), refl, has_inside l back forth' v u d.laid (vertex x))
      | inr out ↦
          let top = top_exists l u v d.laid u_in v_in in
          let last : Constrains (made l back forth') top.0 v = constrains_by l c0 c1 c2 back forth' top.0 v d (d.ends.kept top.0 v (edge_drawn l c0 c1 c2 back forth' top.0 v d (leads_forth e out top.1))) in
          elim (top_is l u v top.0 top.1) [
            | inl same ↦ inl (One (subst (λ (i : ℕ). Constrains (made l back forth') i v) same last))
            | inr x ↦
                let before : Precedes (made l back forth') u (exit_in l x.0) = before_exit_of l c0 c1 c2 back forth' (place_in l (exit_in l x.0)) x.0 u d (omega arith) (vertex x.1) in
                inl (More before (subst (λ (i : ℕ). Constrains (made l back forth') i v) x.2 last))
          ]
    ]
  where
    held_or_not : u < length l.graph → v < length l.graph → Hold l v u ⊎ (Hold l v u → ⊥)
    held_or_not u_in v_in = elim (hold_or_none l v d.laid v_in) [
      | inl head ↦ hold_or_not l v u d.laid head u_in
      | inr none ↦ inr (λ x. none (holding_head l v u d.laid x))
    ]

pub fits_made : (l : Laid) (c0 c1 c2 back forth : List (List ℕ)) → Drawn l c0 c1 c2 back forth → Fits l.graph (made l back forth)
fits_made l c0 c1 c2 back forth' d =
    let axioms : Axioms (made l back forth') = axioms_made l c0 c1 c2 back forth' d in
    let head_first : (c : Component) → Contains (components_in l) c → Precedes (made l back forth') c.head c.exit =
    (λ c of. axioms.before_exit c c.head of (inside_of l back forth' c c.head d.laid of (vertex (component_is l c of).1))) in
    record {
      edges = λ u v e. edges_lead l c0 c1 c2 back forth' u v d e;
      head_of_exit = head_first;
      inputs_of_exit = λ c u of e. elim (edges_lead l c0 c1 c2 back forth' u c.head d e) [
        | inl p ↦ precedes_trans (made l back forth') u c.head c.exit p (head_first c of)
        | inr x ↦
            let same : x.0.exit ≡ c.exit = exit_of_component l x.0 x.1 ∙ ap (exit_in l) x.2 ∙ sym (exit_of_component l c of) in
            subst (λ (i : ℕ). Precedes (made l back forth') u i) same (axioms.before_exit x.0 u x.1 x.3)
      ];
    }

-- the plan by its parts
pub made_is : (l : Laid) (points elements : ℕ) (back forth : List (List ℕ)) (listing places : List ℕ) (components : List Component) → points ≡ length l.graph → elements ≡ end_number l + 1 → listing ≡ l.elements → places ≡ l.places → components ≡ components_in l → made l back forth ≡ plan_of points elements back forth listing places components
made_is l points elements back forth' listing places components a b c d e =
    ap (λ (n : ℕ). plan_of n (end_number l + 1) back forth' l.elements l.places (components_in l)) (sym a)
    ∙ ap (λ (n : ℕ). plan_of points n back forth' l.elements l.places (components_in l)) (sym b)
    ∙ ap (λ (xs : List ℕ). plan_of points elements back forth' xs l.places (components_in l)) (sym c)
    ∙ ap (λ (xs : List ℕ). plan_of points elements back forth' listing xs (components_in l)) (sym d)
    ∙ ap (λ (xs : List Component). plan_of points elements back forth' listing places xs) (sym e)

-- the same of the plan by its parts
pub axioms_by_parts : (l : Laid) (c0 c1 c2 back forth : List (List ℕ)) (g : List (List ℕ)) (points elements : ℕ) (listing places : List ℕ) (components : List Component) → Drawn l c0 c1 c2 back forth → l.graph ≡ g → points ≡ length g → elements ≡ end_number l + 1 → listing ≡ l.elements → places ≡ l.places → components ≡ components_in l → Axioms (plan_of points elements back forth listing places components)
axioms_by_parts l c0 c1 c2 back forth g points elements listing places components d is_g a b c' e f =
    subst Axioms (made_is l points elements back forth listing places components (a ∙ sym (ap (λ (x : List (List ℕ)). length x) is_g)) b c' e f) (axioms_made l c0 c1 c2 back forth d)

pub plan_by_parts : (l : Laid) (c0 c1 c2 back forth : List (List ℕ)) (g : List (List ℕ)) (items : Items) (points elements : ℕ) (listing places : List ℕ) (components : List Component) (p : PlanView) → Drawn l c0 c1 c2 back forth → l.graph ≡ g → l.items ≡ items → points ≡ length g → elements ≡ end_number l + 1 → listing ≡ l.elements → places ≡ l.places → components ≡ components_in l → p ≡ plan_of points elements back forth listing places components → IsPlanOf g items p × Fits g p
plan_by_parts l c0 c1 c2 back forth g items points elements listing places components p d is_g is_items a b c' e f is =
    let whole : p ≡ made l back forth = is ∙ sym (made_is l points elements back forth listing places components (a ∙ sym (ap (λ (x : List (List ℕ)). length x) is_g)) b c' e f) in (
      subst (λ (x : PlanView). IsPlanOf g items x) (sym whole)
          (subst (λ (x : Items). IsPlanOf g x (made l back forth)) is_items (subst (λ (x : List (List ℕ)). IsPlanOf x l.items (made l back forth)) is_g (is_plan_made l c0 c1 c2 back forth d))),
      subst (λ (x : PlanView). Fits g x) (sym whole) (subst (λ (x : List (List ℕ)). Fits x (made l back forth)) is_g (fits_made l c0 c1 c2 back forth d)),
    )
