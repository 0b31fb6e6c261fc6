-- What an iteration reads comes before it in the plan of a digraph's nest.
use Rattle.std.proofs.Common.{◌≡◌, ℕ, ◌⊎◌, inl, inr, List, sym, subst, ap, ◌∙◌, refl, Contains}
use Rattle.std.proofs.lemmas.Bool.{cases_eq}
use Rattle.pk_plan.specs.declared.components.Component.{Component}
use Rattle.pk_plan.specs.Digraphs.{Edge, IsVertex}
use Rattle.pk_plan.specs.Nests.{Items, No_items, Vertex_first, Component_first, In, Once, Holds, IsNest}
use Rattle.pk_plan.specs.Plans.{PlanView, Constrains, Precedes, One, More, Inside}
use Rattle.pk_plan.specs.Axioms.{Axioms}
use Rattle.pk_plan.proofs.PlanLemmas.{head_inside, same_head, precedes_trans}
use Rattle.pk_wpo.specs.Constraints.{IsOutermost, itself, exit_of_outermost, vertex, forth, by_edge, exit_of}
use Rattle.pk_wpo.specs.Made.{IsPlanOf, LeadsForwardOrBack, Fits}
use Rattle.pk_wpo.proofs.Bracketed.{held_in, head_in}

-- ---- whether a component holds a vertex

either_or_not : (P Q : Type 0) → P ⊎ (P → ⊥) → Q ⊎ (Q → ⊥) → (P ⊎ Q) ⊎ (P ⊎ Q → ⊥)
either_or_not P Q (inl p) q = inl (inl p)
either_or_not P Q (inr n) (inl q) = inl (inr q)
either_or_not P Q (inr n) (inr m) = inr (λ e. elim e [ inl p ↦ n p | inr q ↦ m q ])

both_or_not : (P Q : Type 0) → P ⊎ (P → ⊥) → Q ⊎ (Q → ⊥) → (P × Q) ⊎ (P × Q → ⊥)
both_or_not P Q (inl p) (inl q) = inl (p, q)
both_or_not P Q (inl p) (inr m) = inr (λ e. m e.1)
both_or_not P Q (inr n) q = inr (λ e. n e.0)

in_or_not : (items : Items) (v : ℕ) → In items v ⊎ (In items v → ⊥)
in_or_not No_items v = inr (λ i. i)
in_or_not (Vertex_first u more) v = either_or_not (v ≡ u) (In more v) (cases_eq v u) (in_or_not more v)
in_or_not (Component_first head rest more) v =
    either_or_not (v ≡ head) (In rest v ⊎ In more v) (cases_eq v head) (either_or_not (In rest v) (In more v) (in_or_not rest v) (in_or_not more v))

holds_or_not : (items : Items) (h u : ℕ) → Holds items h u ⊎ (Holds items h u → ⊥)
holds_or_not No_items h u = inr (λ i. i)
holds_or_not (Vertex_first v more) h u = holds_or_not more h u
holds_or_not (Component_first head rest more) h u =
    either_or_not ((h ≡ head) × ((u ≡ head) ⊎ In rest u)) (Holds rest h u ⊎ Holds more h u)
    (both_or_not (h ≡ head) ((u ≡ head) ⊎ In rest u) (cases_eq h head) (either_or_not (u ≡ head) (In rest u) (cases_eq u head) (in_or_not rest u)))
    (either_or_not (Holds rest h u) (Holds more h u) (holds_or_not rest h u) (holds_or_not more h u))

-- ---- the outermost component that holds u and not v

abbrev Outer : Items → ℕ → ℕ → Type 0
Outer items u v = ((k : ℕ) → Holds items k u → Holds items k v) ⊎ ((h : ℕ) × IsOutermost (Holds items) u v h)

-- a component that holds neither u nor v
outer_later : (head : ℕ) (rest more : Items) (u v : ℕ) → Once (Component_first head rest more) → ((u ≡ head) ⊎ In rest u → ⊥) → Outer more u v → Outer (Component_first head rest more) u v
outer_later head rest more u v o out found = elim found [
  | inl f ↦ inl (λ k x. inr (inr (f k (later k x))))
  | inr r ↦ inr (
    r.0,
    record {
      with_one = inr (inr r.1.with_one);
      without_other = λ x. elim x [
        | inl e ↦ o.1 (subst (λ (w : ℕ). In more w) e.0 (head_in more r.0 u r.1.with_one))
        | inr y ↦ elim y [ inl z ↦ o.2 r.0 (head_in rest r.0 v z) (head_in more r.0 u r.1.with_one) | inr z ↦ r.1.without_other z ]
      ];
      outermost = λ k x n. inr (inr (r.1.outermost k (later k x) (λ y. n (inr (inr y)))));
    },
  )
]
  where
    later : (k : ℕ) → Holds (Component_first head rest more) k u → Holds more k u
    later k (inl e) = absurd (out e.1)
    later k (inr (inl y)) = absurd (out (inr (held_in rest k u y).0))
    later k (inr (inr y)) = y

-- one that holds u, and so none of those after it does
not_later : (head : ℕ) (rest more : Items) (u : ℕ) → Once (Component_first head rest more) → (u ≡ head) ⊎ In rest u → In more u → ⊥
not_later head rest more u o (inl e) i = o.1 (subst (λ (w : ℕ). In more w) e i)
not_later head rest more u o (inr r) i = o.2 u r i

outer_here : (head : ℕ) (rest more : Items) (u v : ℕ) → Once (Component_first head rest more) → (u ≡ head) ⊎ In rest u → ((v ≡ head) ⊎ In rest v → ⊥) → Outer (Component_first head rest more) u v
outer_here head rest more u v o inside out = inr (
  head,
  record {
    with_one = inl (refl, inside);
    without_other = λ x. elim x [
      | inl e ↦ out e.1
      | inr y ↦ elim y [ inl z ↦ o.0 (head_in rest head v z) | inr z ↦ o.1 (head_in more head v z) ]
    ];
    outermost = λ k x n. elim x [
      | inl e ↦ inl (refl, inl e.0)
      | inr y ↦ elim y [ inl z ↦ inl (refl, inr (head_in rest k u z)) | inr z ↦ absurd (not_later head rest more u o inside (held_in more k u z).0) ]
    ];
  },
)

outer_inner : (head : ℕ) (rest more : Items) (u v : ℕ) → Once (Component_first head rest more) → (u ≡ head) ⊎ In rest u → (v ≡ head) ⊎ In rest v → Outer rest u v → Outer (Component_first head rest more) u v
outer_inner head rest more u v o inside other found = elim found [
  | inl f ↦ inl (λ k x. elim (here k x) [ inl e ↦ inl (e, other) | inr y ↦ inr (inl (f k y)) ])
  | inr r ↦ inr (
    r.0,
    record {
      with_one = inr (inl r.1.with_one);
      without_other = λ x. elim x [
        | inl e ↦ o.0 (subst (λ (w : ℕ). In rest w) e.0 (head_in rest r.0 u r.1.with_one))
        | inr y ↦ elim y [ inl z ↦ r.1.without_other z | inr z ↦ o.2 r.0 (head_in rest r.0 u r.1.with_one) (head_in more r.0 v z) ]
      ];
      outermost = λ k x n. elim (here k x) [ inl e ↦ absurd (n (inl (e, other))) | inr y ↦ inr (inl (r.1.outermost k y (λ z. n (inr (inl z))))) ];
    },
  )
]
  where
    here : (k : ℕ) → Holds (Component_first head rest more) k u → (k ≡ head) ⊎ Holds rest k u
    here k (inl e) = inl e.0
    here k (inr (inl y)) = inr y
    here k (inr (inr y)) = absurd (not_later head rest more u o inside (held_in more k u y).0)

outer : (items : Items) (u v : ℕ) → Once items → Outer items u v
outer No_items u v o = inl (λ k x. absurd x)
outer (Vertex_first w more) u v o = outer more u v o.1
outer (Component_first head rest more) u v o =
    by (either_or_not (u ≡ head) (In rest u) (cases_eq u head) (in_or_not rest u)) (either_or_not (v ≡ head) (In rest v) (cases_eq v head) (in_or_not rest v)) (outer rest u v o.3) (outer more u v o.4)
  where
    by : ((u ≡ head) ⊎ In rest u) ⊎ ((u ≡ head) ⊎ In rest u → ⊥) → ((v ≡ head) ⊎ In rest v) ⊎ ((v ≡ head) ⊎ In rest v → ⊥) → Outer rest u v → Outer more u v → Outer (Component_first head rest more) u v
    by (inl i) (inl j) f g = outer_inner head rest more u v o i j f
    by (inl i) (inr n) f g = outer_here head rest more u v o i n
    by (inr n) j f g = outer_later head rest more u v o n g

-- ---- the plan

module _ (g : List (List ℕ)) (items : Items) (p : PlanView) (nest : IsNest g (IsVertex g) items) (axioms : Axioms p) (plan : IsPlanOf g items p) where
  -- what a component holds is inside the plan's component
  held_inside : (h u : ℕ) → Holds items h u → (c : Component) × Contains p.components c × (c.head ≡ h) × Inside p c u
  held_inside h u x =
      let c = plan.component h (held_in items h u x).1 in
      (c.0, c.1, c.2, plan.member c.0 u c.1 (vertex (subst (λ (w : ℕ). Holds items w u) (sym c.2) x)))

  edges_lead : (u v : ℕ) → Edge g u v → LeadsForwardOrBack p u v
  edges_lead u v e = elim (holds_or_not items v u) [
    | inl x ↦ inr (held_inside v u x)
    | inr out ↦ inl (elim (outer items u v nest.once) [
      | inl f ↦ One (plan.constrains u v (by_edge (forth e out (itself f))))
      | inr r ↦
          let c = held_inside r.0 u r.1.with_one in
          let last : Constrains p (exit_of g items r.0) v = plan.constrains (exit_of g items r.0) v (by_edge (forth e out (exit_of_outermost r.1))) in
          let is : c.0.exit ≡ exit_of g items r.0 = plan.exit c.0 c.1 ∙ ap (exit_of g items) c.2 in
          More (subst (λ (w : ℕ). Precedes p u w) is (axioms.before_exit c.0 u c.1 c.3)) last
    ])
  ]

  pub plan_fits : Fits g p
  plan_fits =
      let first : (c : Component) → Contains p.components c → Precedes p c.head c.exit = λ c of. axioms.before_exit c c.head of (head_inside p c axioms of) in
      record {
        edges = edges_lead;
        head_of_exit = first;
        inputs_of_exit = λ c u of e. elim (edges_lead u c.head e) [
          | inl r ↦ precedes_trans p u c.head c.exit r (first c of)
          | inr x ↦ subst (λ (d : Component). Precedes p u d.exit) (same_head p x.0 c axioms x.1 of x.2) (axioms.before_exit x.0 u x.1 x.3)
        ];
      }
