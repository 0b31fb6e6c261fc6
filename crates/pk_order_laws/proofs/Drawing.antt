-- The plan of a nest: which constraints there are is told over its layout.
use Rattle.std.proofs.Common.{◌≡◌, ◌⊎◌, ℕ, ◌+◌, ◌<◌, length, refl, sym, subst, ◌∙◌, inl, inr, arith, Contains, Option, None, Some}
use Rattle.std.proofs.lemmas.Bool.{cases_eq}
use Rattle.pk_plan.specs.Digraphs.{Edge}
use Rattle.pk_plan.specs.Nests.{Holds}
use Rattle.pk_plan.proofs.DigraphLemmas.{edge_from_vertex}
use Rattle.pk_wpo.specs.Constraints.{vertex, forth, back, exit_of}
use Rattle.pk_wpo.specs.Targets.{IsTarget, vertex as plain_vertex, exit_of_head}
use Rattle.pk_wpo.specs.Layouts.{Laid, IsLaid, end_number, place_in}
use Rattle.pk_wpo.proofs.Placed.{Hold, exit_in, holding_head, head_vertex, hold_same, hold_or_not, hold_or_none, has_from, has_before, has_head, has_below, has_by_place}
use Rattle.pk_wpo.proofs.Orders.{HasIn, TopIn, ByEdge, ByHead, HomeIn, edge_from_below, edge_to_below}
use Rattle.pk_wpo.proofs.Homes.{home_of_each}
use Rattle.pk_wpo.proofs.Climbing.{top_exists}
use Rattle.pk_wpo.proofs.Steps.{Drawn as Given, drawn_is_one, home_is_one, home_or_none, head_is_home}
use Rattle.pk_wpo.proofs.PlanMade.{Drawn, made, axioms_made, is_plan_made}
use Rattle.pk_order_laws.specs.Plans.{EveryNestHasAPlan}
use Rattle.pk_order_laws.proofs.Picking.{below, below_has}
use Rattle.pk_order_laws.proofs.Reaching.{edge_or_none}
use Rattle.pk_order_laws.proofs.Told.{Told, any_in, told_both, told_less, told_most}
use Rattle.pk_order_laws.proofs.Graphs.{GraphOf, graph_of}
use Rattle.pk_order_laws.proofs.Laying.{layout_of, is_laid}

target_exists : (l : Laid) (u v : ℕ) → IsLaid l → u < length l.graph → v < length l.graph → (b : ℕ) × IsTarget (Holds l.items) (exit_of l.graph l.items) u v b
target_exists l u v laid u_in v_in = elim (hold_or_none l v laid v_in) [
  | inr none ↦ (v, plain_vertex (λ x. none (holding_head l v u laid x)))
  | inl head ↦ elim (hold_or_not l v u laid head u_in) [
    | inl x ↦ (exit_in l v, exit_of_head x)
    | inr out ↦ (v, plain_vertex out)
  ]
]

-- the constraint that an edge gives
told_given : (l : Laid) (u v a b : ℕ) → IsLaid l → Edge l.graph u v → Told (Given l u v a b)
told_given l u v a b laid e =
    let u_in : u < length l.graph = edge_from_vertex l.graph u v e in
    let v_in : v < length l.graph = laid.closed u v e in
    let t : (x : ℕ) × TopIn l u v x = top_exists l u v laid u_in v_in in
    let q : (x : ℕ) × IsTarget (Holds l.items) (exit_of l.graph l.items) u v x = target_exists l u v laid u_in v_in in
    elim (cases_eq t.0 a) [
      | inr other ↦ inr (λ d. other (sym (drawn_is_one l u v t.0 q.0 a b laid (t.1, q.1) d).0))
      | inl same ↦ elim (cases_eq q.0 b) [
        | inr other ↦ inr (λ d. other (sym (drawn_is_one l u v t.0 q.0 a b laid (t.1, q.1) d).1))
        | inl equal ↦ inl (subst (λ (x : ℕ). TopIn l u v x) same t.1, subst (λ (x : ℕ). IsTarget (Holds l.items) (exit_of l.graph l.items) u v x) equal q.1)
      ]
    ]

abbrev GivenBy : Laid → ℕ → ℕ → ℕ → ℕ → Type 0
GivenBy l a b u v = Edge l.graph u v × Given l u v a b

told_given_by : (l : Laid) (a b u v : ℕ) → IsLaid l → Told (GivenBy l a b u v)
told_given_by l a b u v laid = elim (edge_or_none l.graph u v) [
  | inr none ↦ inr (λ p. none p.0)
  | inl e ↦ elim (told_given l u v a b laid e) [ inl d ↦ inl (e, d) | inr none ↦ inr (λ p. none p.1) ]
]

of_target : (l : Laid) (a u v b : ℕ) → Edge l.graph u v → TopIn l u v a → IsTarget (Holds l.items) (exit_of l.graph l.items) u v b → ByEdge l a b
of_target l a u v b edge t (plain_vertex out) = forth edge out t
of_target l a u v b edge t (exit_of_head x) = back edge x t

record GivenFrom (l : Laid) (a b : ℕ) : Type 0 where
  source : ℕ
  target : ℕ
  edge : Edge l.graph source target
  given : Given l source target a b

given_from : (l : Laid) (a b : ℕ) → ByEdge l a b → GivenFrom l a b
given_from l a b (forth {u} edge out t) = record { source = u; target = b; edge = edge; given = (t, plain_vertex out) }
given_from l a b (back {u} {h} edge x t) = record { source = u; target = h; edge = edge; given = (t, exit_of_head x) }

told_edge : (l : Laid) (a b : ℕ) → IsLaid l → Told (ByEdge l a b)
told_edge l a b laid =
    elim (any_in (below (length l.graph)) (λ u. (v : ℕ) × Contains (below (length l.graph)) v × GivenBy l a b u v) (λ u i. elim (any_in (below (length l.graph)) (GivenBy l a b u) (λ v j. told_given_by l a b u v laid)) [
      | inl q ↦ inl q
      | inr none ↦ inr (λ q. none q.0 q.1 q.2)
    ])) [
      | inl q ↦ let r = q.2 in let d = r.2 in inl (of_target l a q.0 r.0 b d.0 d.1.0 d.1.1)
      | inr none ↦ inr (λ c.
          let f : GivenFrom l a b = given_from l a b c in
          none f.source (below_has (length l.graph) f.source (edge_from_vertex l.graph f.source f.target f.edge))
          (f.target, below_has (length l.graph) f.target (laid.closed f.source f.target f.edge), (f.edge, f.given)))
    ]

-- whether a component has an element
told_has : (l : Laid) (h a : ℕ) → IsLaid l → Hold l h h → a < end_number l → Told (HasIn l h a)
told_has l h a laid head a_in = elim (told_most (place_in l h) (place_in l a)) [
  | inr never ↦ inr (λ x. never (has_from l h a laid x))
  | inl from ↦ elim (told_less (place_in l a) (place_in l (exit_in l h))) [
    | inr never ↦ inr (λ x. never (has_before l h a laid x))
    | inl before ↦ inl (has_by_place l h a laid head a_in from before)
  ]
]

told_led_by : (l : Laid) (b h a : ℕ) → IsLaid l → Hold l h h → Told (HasIn l h a × ByEdge l a b)
told_led_by l b h a laid head = elim (told_less a (end_number l)) [
  | inr never ↦ inr (λ p. never (has_below l h a laid p.0))
  | inl a_in ↦ told_both (HasIn l h a) (ByEdge l a b) (told_has l h a laid head a_in) (told_edge l a b laid)
]

-- an element is led into from inside its home, or gets a constraint from its head
led_or_head : (l : Laid) (b h : ℕ) → IsLaid l → HomeIn l b (Some h) → ((a : ℕ) × (HasIn l h a × ByEdge l a b)) ⊎ ByHead l h b
led_or_head l b h laid home = elim (any_in (below (end_number l)) (λ a. HasIn l h a × ByEdge l a b) (λ a i. told_led_by l b h a laid home.0)) [
  | inl q ↦ inl (q.0, q.2)
  | inr none ↦ inr (record {
    has = home.1;
    another = home.2;
    without_edge = λ a has by_edge. none a (below_has (end_number l) a (has_below l h a laid has)) (has, by_edge);
    in_no_inner = λ k other inner has. elim (cases_eq b k) [
      | inl same ↦ same
      | inr differ ↦ absurd (other (hold_same l k h laid (home.3 k (has_head l k b laid has) has differ) inner))
    ];
  })
]

told_head_by : (l : Laid) (h b : ℕ) (home : Option ℕ) → IsLaid l → HomeIn l b home → Told (ByHead l h b)
told_head_by l h b None laid home = inr (λ c. home_or_none l b h (head_is_home l h b laid c) home)
told_head_by l h b (Some k) laid home = elim (cases_eq k h) [
  | inr other ↦ inr (λ c. other (home_is_one l b k h laid home (head_is_home l h b laid c)))
  | inl same ↦ elim (led_or_head l b k laid home) [
    | inr c ↦ inl (subst (λ (x : ℕ). ByHead l x b) same c)
    | inl q ↦ inr (λ c. c.without_edge q.0 (subst (λ (x : ℕ). HasIn l x q.0) same q.1.0) q.1.1)
  ]
]

told_head : (l : Laid) (h b : ℕ) → IsLaid l → Told (ByHead l h b)
told_head l h b laid = elim (told_less b (end_number l)) [
  | inr never ↦ inr (λ c. never (has_below l h b laid c.has))
  | inl b_in ↦ let home : (o : Option ℕ) × HomeIn l b o = home_of_each l b laid b_in in told_head_by l h b home.0 laid home.1
]

-- the constraints of edges and heads, and those to END
abbrev First : Laid → ℕ → ℕ → Type 0
First l a b = ByEdge l a b ⊎ ByHead l a b

abbrev Last : Laid → ℕ → ℕ → Type 0
Last l a b = (a < end_number l) × ((c : ℕ) → First l a c → ⊥) × (b ≡ end_number l)

abbrev Any : Laid → ℕ → ℕ → Type 0
Any l a b = First l a b ⊎ Last l a b

first_within : (l : Laid) (a b : ℕ) → IsLaid l → First l a b → (a < end_number l) × (b < end_number l)
first_within l a b laid (inl e) = (edge_from_below l a b laid e, edge_to_below l a b laid e)
first_within l a b laid (inr c) = let h = head_vertex l a a laid (has_head l a b laid c.has) in (omega (arith, h), has_below l a b laid c.has)

told_first : (l : Laid) (a b : ℕ) → IsLaid l → Told (First l a b)
told_first l a b laid = elim (told_edge l a b laid) [
  | inl e ↦ inl (inl e)
  | inr no_edge ↦ elim (told_head l a b laid) [
    | inl c ↦ inl (inr c)
    | inr no_head ↦ inr (λ f. elim f [ inl e ↦ no_edge e | inr c ↦ no_head c ])
  ]
]

-- what an element constrains
some_or_none : (l : Laid) (a : ℕ) → IsLaid l → ((c : ℕ) × First l a c) ⊎ ((c : ℕ) → First l a c → ⊥)
some_or_none l a laid = elim (any_in (below (end_number l)) (First l a) (λ c i. told_first l a c laid)) [
  | inl q ↦ inl (q.0, q.2)
  | inr none ↦ inr (λ c f. none c (below_has (end_number l) c (first_within l a c laid f).1) f)
]

told_last : (l : Laid) (a b : ℕ) → IsLaid l → Told (Last l a b)
told_last l a b laid = elim (told_less a (end_number l)) [
  | inr never ↦ inr (λ p. never p.0)
  | inl a_in ↦ elim (cases_eq b (end_number l)) [
    | inr other ↦ inr (λ p. other p.2)
    | inl same ↦ elim (some_or_none l a laid) [
      | inl q ↦ inr (λ p. p.1 q.0 q.1)
      | inr none ↦ inl (a_in, none, same)
    ]
  ]
]

told_any : (l : Laid) (a b : ℕ) → IsLaid l → Told (Any l a b)
told_any l a b laid = elim (told_first l a b laid) [
  | inl f ↦ inl (inl f)
  | inr no_first ↦ elim (told_last l a b laid) [
    | inl p ↦ inl (inr p)
    | inr no_last ↦ inr (λ x. elim x [ inl f ↦ no_first f | inr p ↦ no_last p ])
  ]
]

any_within : (l : Laid) (a b : ℕ) → IsLaid l → Any l a b → (a < end_number l + 1) × (b < end_number l + 1)
any_within l a b laid (inl f) = let w : (a < end_number l) × (b < end_number l) = first_within l a b laid f in let w0 = w.0 in let w1 = w.1 in (omega (arith, w0), omega (arith, w1))
any_within l a b laid (inr p) = let w0 : a < end_number l = p.0 in let same : b ≡ end_number l = p.2 in (omega (arith, w0), omega (arith, same))

-- the digraphs of the constraints
record Graphs (l : Laid) : Type 0 where
  edges : GraphOf (end_number l + 1) (ByEdge l)
  firsts : GraphOf (end_number l + 1) (First l)
  all : GraphOf (end_number l + 1) (Any l)
  turned : GraphOf (end_number l + 1) (λ a b. Any l b a)

graphs_of : (l : Laid) → IsLaid l → Graphs l
graphs_of l laid = record {
  edges = graph_of (end_number l + 1) (ByEdge l) (λ a b. told_edge l a b laid) (λ a b e. any_within l a b laid (inl (inl e)));
  firsts = graph_of (end_number l + 1) (First l) (λ a b. told_first l a b laid) (λ a b f. any_within l a b laid (inl f));
  all = graph_of (end_number l + 1) (Any l) (λ a b. told_any l a b laid) (λ a b x. any_within l a b laid x);
  turned = graph_of (end_number l + 1) (λ a b. Any l b a) (λ a b. told_any l b a laid) (λ a b x. let w : (b < end_number l + 1) × (a < end_number l + 1) = any_within l b a laid x in (w.1, w.0));
}

drawn_by_graphs : (l : Laid) (g : Graphs l) → IsLaid l → Drawn l g.edges.lists g.firsts.lists g.all.lists g.turned.lists g.all.lists
drawn_by_graphs l g laid = record {
  laid = laid;
  edges = record { drawn = g.edges.has; only = g.edges.only };
  heads = record {
    kept = λ a b e. g.firsts.has a b (inl (g.edges.only a b e));
    drawn = λ h b c. g.firsts.has h b (inr c);
    only = λ a b e. elim (g.firsts.only a b e) [ inl x ↦ inl (g.edges.has a b x) | inr c ↦ inr c ];
    led = λ b h b_in home. elim (led_or_head l b h laid home) [
      | inl q ↦ (q.0, q.1.0, g.firsts.has q.0 b (inl q.1.1))
      | inr c ↦ (h, vertex home.0, g.firsts.has h b (inr c))
    ];
  };
  ends = record {
    kept = λ a b e. g.all.has a b (inl (g.firsts.only a b e));
    drawn = λ a a_in none. g.all.has a (end_number l) (inr (a_in, (λ c f. none c (g.firsts.has a c f)), refl));
    only = λ a b e. elim (g.all.only a b e) [ inl f ↦ inl (g.firsts.has a b f) | inr p ↦ inr (p.0, (λ c f. p.1 c (g.firsts.only a c f)), p.2) ];
    leads = λ a a_in. elim (some_or_none l a laid) [
      | inl q ↦ (q.0, g.all.has a q.0 (inl q.1))
      | inr none ↦ (end_number l, g.all.has a (end_number l) (inr (a_in, none, refl)))
    ];
  };
  long = g.all.long;
  backward = record { as_many = g.turned.long ∙ sym g.all.long; back = λ a b e. g.turned.has b a (g.all.only a b e); forth = λ a b e. g.all.has a b (g.turned.only b a e) };
  backward_rises = g.turned.rises;
  forward = record { as_many = g.all.long ∙ sym g.turned.long; back = λ a b e. g.all.has b a (g.turned.only a b e); forth = λ a b e. g.turned.has a b (g.all.only b a e) };
  forward_rises = g.all.rises;
}

pub every_nest_has_a_plan : EveryNestHasAPlan
every_nest_has_a_plan = λ graph items closed few nest.
    let l : Laid = layout_of graph items in
    let laid : IsLaid (layout_of graph items) = is_laid graph items closed few nest in
    let g : Graphs (layout_of graph items) = graphs_of (layout_of graph items) laid in
    let d : Drawn (layout_of graph items) g.edges.lists g.firsts.lists g.all.lists g.turned.lists g.all.lists = drawn_by_graphs (layout_of graph items) g laid in (
      made (layout_of graph items) g.turned.lists g.all.lists,
      axioms_made (layout_of graph items) g.edges.lists g.firsts.lists g.all.lists g.turned.lists g.all.lists d,
      is_plan_made (layout_of graph items) g.edges.lists g.firsts.lists g.all.lists g.turned.lists g.all.lists d,
    )
