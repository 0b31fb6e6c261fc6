-- What precedes an element of a plan stands ahead of it in the plan's linear order.
use Rattle.std.proofs.Common.{◌≡◌, ◌≢◌, ℕ, ◌<◌, ◌⊎◌, inl, inr, [], ◌∷◌, ◌++◌, sym, subst, ap, ◌∙◌, Contains, AllPairs}
use Rattle.std.proofs.lemmas.Bool.{cases_eq}
use Rattle.std.proofs.lemmas.List.Elements.{Contains-append_left, Contains-append_right, Contains-append_cases}
use Rattle.pk_plan.specs.declared.components.Component.{Component}
use Rattle.pk_plan.specs.Order.{Level, Empty, Vertex_then, Component_then}
use Rattle.pk_plan.specs.Plans.{PlanView, Constrains, Precedes, One, More, Inside}
use Rattle.pk_plan.specs.Axioms.{Axioms}
use Rattle.pk_plan.proofs.PlanLemmas.{acyclic, constrains_from}
use Rattle.pk_plan.specs.Linear.{elements_of, component_item, Bracket, brackets_of, Encloses, TakesLeastReady, IsLinear}
use Rattle.pk_linear.proofs.ListLemmas.{contains_none, contains_here, contains_there, contains_cases}
use Rattle.pk_iterate.specs.Settled.{In, Once, Ahead}
use Rattle.pk_iterate.specs.BoundedTurns.{HasComponent}
use Rattle.pk_iterate.proofs.Once_each.{different_once}
use Rattle.pk_phases.proofs.Planned_turns.{elements_of_places}

-- ---- the elements of a level

pub in_contains : (level : Level) (e : ℕ) → In level e → Contains (elements_of level) e
in_contains Empty e i = absurd i
in_contains (Vertex_then v more) e (inl same) = subst (λ (w : ℕ). Contains (v ∷ elements_of more) w) (sym same) (contains_here v (elements_of more))
in_contains (Vertex_then v more) e (inr i) = contains_there v (elements_of more) (in_contains more e i)
in_contains (Component_then h x rest more) e (inl same) = subst (λ (w : ℕ). Contains (h ∷ (elements_of rest ++ x ∷ elements_of more)) w) (sym same) (contains_here h (elements_of rest ++ x ∷ elements_of more))
in_contains (Component_then h x rest more) e (inr (inl same)) =
    contains_there h (elements_of rest ++ x ∷ elements_of more)
    (Contains-append_right (elements_of rest) (x ∷ elements_of more) e (subst (λ (w : ℕ). Contains (x ∷ elements_of more) w) (sym same) (contains_here x (elements_of more))))
in_contains (Component_then h x rest more) e (inr (inr (inl i))) =
    contains_there h (elements_of rest ++ x ∷ elements_of more) (Contains-append_left (elements_of rest) (x ∷ elements_of more) e (in_contains rest e i))
in_contains (Component_then h x rest more) e (inr (inr (inr i))) =
    contains_there h (elements_of rest ++ x ∷ elements_of more)
    (Contains-append_right (elements_of rest) (x ∷ elements_of more) e (contains_there x (elements_of more) (in_contains more e i)))

-- an element of a component from its head to its exit
abbrev InItem : (h x : ℕ) → Level → ℕ → Type 0
InItem h x rest e = (e ≡ h) ⊎ ((e ≡ x) ⊎ In rest e)

pub contains_in : (level : Level) (e : ℕ) → Contains (elements_of level) e → In level e
contains_in Empty e has = absurd (contains_none has)
contains_in (Vertex_then v more) e has = elim (contains_cases v e (elements_of more) has) [ inl same ↦ inl (sym same) | inr later ↦ inr (contains_in more e later) ]
contains_in (Component_then h x rest more) e has = elim (contains_cases h e (elements_of rest ++ x ∷ elements_of more) has) [
  | inl same ↦ inl (sym same)
  | inr later ↦ elim (Contains-append_cases (elements_of rest) (x ∷ elements_of more) e later) [
    | inl inner ↦ inr (inr (inl (contains_in rest e inner)))
    | inr last ↦ elim (contains_cases x e (elements_of more) last) [ inl same ↦ inr (inl (sym same)) | inr past ↦ inr (inr (inr (contains_in more e past))) ]
  ]
]

item_contains : (h x : ℕ) (rest : Level) (e : ℕ) → InItem h x rest e → Contains (component_item h x rest).elements e
item_contains h x rest e (inl same) = subst (λ (w : ℕ). Contains (h ∷ (elements_of rest ++ x ∷ [])) w) (sym same) (contains_here h (elements_of rest ++ x ∷ []))
item_contains h x rest e (inr (inl same)) =
    contains_there h (elements_of rest ++ x ∷ []) (Contains-append_right (elements_of rest) (x ∷ []) e (subst (λ (w : ℕ). Contains (x ∷ []) w) (sym same) (contains_here x [])))
item_contains h x rest e (inr (inr i)) = contains_there h (elements_of rest ++ x ∷ []) (Contains-append_left (elements_of rest) (x ∷ []) e (in_contains rest e i))

contains_item : (h x : ℕ) (rest : Level) (e : ℕ) → Contains (component_item h x rest).elements e → InItem h x rest e
contains_item h x rest e has = elim (contains_cases h e (elements_of rest ++ x ∷ []) has) [
  | inl same ↦ inl (sym same)
  | inr later ↦ elim (Contains-append_cases (elements_of rest) (x ∷ []) e later) [
    | inl inner ↦ inr (inr (contains_in rest e inner))
    | inr last ↦ elim (contains_cases x e [] last) [ inl same ↦ inr (inl (sym same)) | inr none ↦ absurd (contains_none none) ]
  ]
]

-- ---- what constrains stands ahead

abbrev Drawn : PlanView → Level → Type 0
Drawn p level = (bracket : Bracket) → Contains (brackets_of level) bracket → (c : Component) × Contains p.components c × Encloses p bracket c

abbrev outer_bracket : (h x : ℕ) → Level → Bracket
outer_bracket h x rest = record { head = h; exit = x; members = h ∷ elements_of rest }

module _ (p : PlanView) (axioms : Axioms p) where
  no_loop : (a b : ℕ) → Constrains p a b → a ≡ b → ⊥
  no_loop a b c e = acyclic p b axioms (One (subst (λ (w : ℕ). Constrains p w b) e c))

  -- of two elements of a component
  within_item : (h x : ℕ) (rest more : Level) (d : Component) → Contains p.components d → Encloses p (outer_bracket h x rest) d → ((a b : ℕ) → Constrains p a b → In rest a → In rest b → Ahead rest a b)
      → (a b : ℕ) → Constrains p a b → InItem h x rest a → InItem h x rest b → Ahead (Component_then h x rest more) a b
  within_item h x rest more d of around inner a b c (inl s) (inl t) = absurd (no_loop a b c (s ∙ sym t))
  within_item h x rest more d of around inner a b c (inl s) (inr (inl t)) = inl (s, inr (inl t))
  within_item h x rest more d of around inner a b c (inl s) (inr (inr j)) = inl (s, inl j)
  within_item h x rest more d of around inner a b c (inr (inl s)) (inl t) =
      let inside : Inside p d b = (around.members b).0 (subst (λ (w : ℕ). Contains (h ∷ elements_of rest) w) (sym t) (contains_here h (elements_of rest))) in
      absurd (acyclic p b axioms (More (subst (λ (w : ℕ). Precedes p b w) (sym around.exit ∙ sym s) (axioms.before_exit d b of inside)) c))
  within_item h x rest more d of around inner a b c (inr (inl s)) (inr (inl t)) = absurd (no_loop a b c (s ∙ sym t))
  within_item h x rest more d of around inner a b c (inr (inl s)) (inr (inr j)) =
      let inside : Inside p d b = (around.members b).0 (contains_there h (elements_of rest) (in_contains rest b j)) in
      absurd (acyclic p b axioms (More (subst (λ (w : ℕ). Precedes p b w) (sym around.exit ∙ sym s) (axioms.before_exit d b of inside)) c))
  within_item h x rest more d of around inner a b c (inr (inr i)) (inl t) =
      let inside : Inside p d a = (around.members a).0 (contains_there h (elements_of rest) (in_contains rest a i)) in
      let head : d.head ≡ b = sym around.head ∙ sym t in
      absurd (elim (cases_eq a d.head) [
        | inl same ↦ no_loop a b c (same ∙ head)
        | inr other ↦ acyclic p b axioms (More (subst (λ (w : ℕ). Precedes p w a) head (axioms.after_head d a of inside other)) c)
      ])
  within_item h x rest more d of around inner a b c (inr (inr i)) (inr (inl t)) = inr (inl (i, inl t))
  within_item h x rest more d of around inner a b c (inr (inr i)) (inr (inr j)) = inr (inr (inr (inl (inner a b c i j))))

  -- an element of a component, and one behind it
  past_item : (h x : ℕ) (rest more : Level) (a b : ℕ) → InItem h x rest a → In more b → Ahead (Component_then h x rest more) a b
  past_item h x rest more a b (inl s) j = inl (s, inr (inr j))
  past_item h x rest more a b (inr (inl s)) j = inr (inr (inl (s, j)))
  past_item h x rest more a b (inr (inr i)) j = inr (inl (i, inr j))

  -- an element of a level with a component: in its item or behind it
  in_level : (h x : ℕ) (rest more : Level) (e : ℕ) → In (Component_then h x rest more) e → InItem h x rest e ⊎ In more e
  in_level h x rest more e (inl s) = inl (inl s)
  in_level h x rest more e (inr (inl s)) = inl (inr (inl s))
  in_level h x rest more e (inr (inr (inl i))) = inl (inr (inr i))
  in_level h x rest more e (inr (inr (inr i))) = inr i

  constrains_ahead : (level : Level) → Drawn p level → TakesLeastReady p level → (a b : ℕ) → Constrains p a b → In level a → In level b → Ahead level a b
  constrains_ahead Empty drawn takes a b c i j = absurd i
  constrains_ahead (Vertex_then v more) drawn takes a b c i (inl t) =
      let here = takes.0.ready a b (in_contains (Vertex_then v more) a i) (subst (λ (w : ℕ). Contains (v ∷ []) w) (sym t) (contains_here v [])) c in
      absurd (elim (contains_cases v a [] here) [ inl s ↦ no_loop a b c (sym s ∙ sym t) | inr none ↦ contains_none none ])
  constrains_ahead (Vertex_then v more) drawn takes a b c (inl s) (inr j) = inl (s, j)
  constrains_ahead (Vertex_then v more) drawn takes a b c (inr i) (inr j) = inr (constrains_ahead more drawn takes.1 a b c i j)
  constrains_ahead (Component_then h x rest more) drawn takes a b c i j =
      by (in_level h x rest more a i) (in_level h x rest more b j)
      (λ a b c. constrains_ahead rest (λ k has. drawn k (contains_there (outer_bracket h x rest) (brackets_of rest ++ brackets_of more) (Contains-append_left (brackets_of rest) (brackets_of more) k has))) takes.1 a b c)
      (λ i j. constrains_ahead more (λ k has. drawn k (contains_there (outer_bracket h x rest) (brackets_of rest ++ brackets_of more) (Contains-append_right (brackets_of rest) (brackets_of more) k has))) takes.2 a b c i j)
    where
      inside : InItem h x rest a → InItem h x rest b → ((a b : ℕ) → Constrains p a b → In rest a → In rest b → Ahead rest a b) → Ahead (Component_then h x rest more) a b
      inside s t inner =
          let d = drawn (outer_bracket h x rest) (contains_here (outer_bracket h x rest) (brackets_of rest ++ brackets_of more)) in
          within_item h x rest more d.0 d.1 d.2 inner a b c s t

      by : InItem h x rest a ⊎ In more a → InItem h x rest b ⊎ In more b → ((a b : ℕ) → Constrains p a b → In rest a → In rest b → Ahead rest a b) → (In more a → In more b → Ahead more a b) → Ahead (Component_then h x rest more) a b
      by (inl s) (inl t) inner later = inside s t inner
      by (inl s) (inr n) inner later = past_item h x rest more a b s n
      by (inr m) (inl t) inner later =
          inside (contains_item h x rest a (takes.0.ready a b (in_contains (Component_then h x rest more) a i) (item_contains h x rest b t) c)) t inner
      by (inr m) (inr n) inner later = inr (inr (inr (inr (later m n))))

-- ---- standing ahead is an order

ahead_in : (level : Level) (u e : ℕ) → Ahead level u e → In level u × In level e
ahead_in Empty u e a = absurd a
ahead_in (Vertex_then v more) u e (inl q) = (inl q.0, inr q.1)
ahead_in (Vertex_then v more) u e (inr q) = let r = ahead_in more u e q in (inr r.0, inr r.1)
ahead_in (Component_then h x rest more) u e (inl q) = (inl q.0, elim q.1 [ inl i ↦ inr (inr (inl i)) | inr y ↦ elim y [ inl s ↦ inr (inl s) | inr j ↦ inr (inr (inr j)) ] ])
ahead_in (Component_then h x rest more) u e (inr (inl q)) = (inr (inr (inl q.0)), elim q.1 [ inl s ↦ inr (inl s) | inr j ↦ inr (inr (inr j)) ])
ahead_in (Component_then h x rest more) u e (inr (inr (inl q))) = (inr (inl q.0), inr (inr (inr q.1)))
ahead_in (Component_then h x rest more) u e (inr (inr (inr (inl q)))) = let r = ahead_in rest u e q in (inr (inr (inl r.0)), inr (inr (inl r.1)))
ahead_in (Component_then h x rest more) u e (inr (inr (inr (inr q)))) = let r = ahead_in more u e q in (inr (inr (inr r.0)), inr (inr (inr r.1)))

-- what stands behind anything of a component stands behind its head
behind : (h x : ℕ) (rest more : Level) (u e : ℕ) → Ahead (Component_then h x rest more) u e → In rest e ⊎ ((e ≡ x) ⊎ In more e)
behind h x rest more u e (inl q) = q.1
behind h x rest more u e (inr (inl q)) = inr q.1
behind h x rest more u e (inr (inr (inl q))) = inr (inr q.1)
behind h x rest more u e (inr (inr (inr (inl q)))) = inl (ahead_in rest u e q).1
behind h x rest more u e (inr (inr (inr (inr q)))) = inr (inr (ahead_in more u e q).1)

-- what stands behind the exit, or behind something behind that, is behind the component
past_exit : (h x : ℕ) (rest more : Level) (w e : ℕ) → Once (Component_then h x rest more) → (w ≡ x) ⊎ In more w → Ahead (Component_then h x rest more) w e → In more e
past_exit h x rest more w e o (inl s) (inl q) = absurd (o.0 (sym q.0 ∙ s))
past_exit h x rest more w e o (inr j) (inl q) = absurd (o.2 (subst (λ (v : ℕ). In more v) q.0 j))
past_exit h x rest more w e o (inl s) (inr (inl q)) = absurd (o.3 (subst (λ (v : ℕ). In rest v) s q.0))
past_exit h x rest more w e o (inr j) (inr (inl q)) = absurd (o.5 w q.0 j)
past_exit h x rest more w e o s (inr (inr (inl q))) = q.1
past_exit h x rest more w e o (inl s) (inr (inr (inr (inl q)))) = absurd (o.3 (subst (λ (v : ℕ). In rest v) s (ahead_in rest w e q).0))
past_exit h x rest more w e o (inr j) (inr (inr (inr (inl q)))) = absurd (o.5 w (ahead_in rest w e q).0 j)
past_exit h x rest more w e o s (inr (inr (inr (inr q)))) = (ahead_in more w e q).1

ahead_trans : (level : Level) (u w e : ℕ) → Once level → Ahead level u w → Ahead level w e → Ahead level u e
ahead_trans Empty u w e o a b = absurd a
ahead_trans (Vertex_then v more) u w e o (inl q) (inl r) = absurd (o.0 (subst (λ (k : ℕ). In more k) r.0 q.1))
ahead_trans (Vertex_then v more) u w e o (inl q) (inr r) = inl (q.0, (ahead_in more w e r).1)
ahead_trans (Vertex_then v more) u w e o (inr q) (inl r) = absurd (o.0 (subst (λ (k : ℕ). In more k) r.0 (ahead_in more u w q).1))
ahead_trans (Vertex_then v more) u w e o (inr q) (inr r) = inr (ahead_trans more u w e o.1 q r)
ahead_trans (Component_then h x rest more) u w e o (inl q) r = inl (q.0, behind h x rest more w e r)
ahead_trans (Component_then h x rest more) u w e o (inr (inl q)) r = inr (inl (q.0, inr (past_exit h x rest more w e o q.1 r)))
ahead_trans (Component_then h x rest more) u w e o (inr (inr (inl q))) r = inr (inr (inl (q.0, past_exit h x rest more w e o (inr q.1) r)))
ahead_trans (Component_then h x rest more) u w e o (inr (inr (inr (inl q)))) r = by (ahead_in rest u w q) r (λ s. ahead_trans rest u w e o.6 q s)
  where
    by : In rest u × In rest w → Ahead (Component_then h x rest more) w e → (Ahead rest w e → Ahead rest u e) → Ahead (Component_then h x rest more) u e
    by i (inl s) f = absurd (o.1 (subst (λ (k : ℕ). In rest k) s.0 i.1))
    by i (inr (inl s)) f = inr (inl (i.0, s.1))
    by i (inr (inr (inl s))) f = absurd (o.3 (subst (λ (k : ℕ). In rest k) s.0 i.1))
    by i (inr (inr (inr (inl s)))) f = inr (inr (inr (inl (f s))))
    by i (inr (inr (inr (inr s)))) f = absurd (o.5 w i.1 (ahead_in more w e s).0)
ahead_trans (Component_then h x rest more) u w e o (inr (inr (inr (inr q)))) r = by (ahead_in more u w q) r (λ s. ahead_trans more u w e o.7 q s)
  where
    by : In more u × In more w → Ahead (Component_then h x rest more) w e → (Ahead more w e → Ahead more u e) → Ahead (Component_then h x rest more) u e
    by i (inl s) f = absurd (o.2 (subst (λ (k : ℕ). In more k) s.0 i.1))
    by i (inr (inl s)) f = absurd (o.5 w s.0 i.1)
    by i (inr (inr (inl s))) f = absurd (o.4 (subst (λ (k : ℕ). In more k) s.0 i.1))
    by i (inr (inr (inr (inl s)))) f = absurd (o.5 w (ahead_in rest w e s).0 i.1)
    by i (inr (inr (inr (inr s)))) f = inr (inr (inr (inr (f s))))

-- ---- the linear order

-- a component of the order is drawn by its brackets, and brackets are a component
drawn_component : (order : Level) (head exit : ℕ) → HasComponent order head exit → (bracket : Bracket) × Contains (brackets_of order) bracket × (bracket.head ≡ head) × (bracket.exit ≡ exit)
drawn_component Empty head exit i = absurd i
drawn_component (Vertex_then v more) head exit i = drawn_component more head exit i
drawn_component (Component_then h x rest more) head exit (inl same) = (outer_bracket h x rest, contains_here (outer_bracket h x rest) (brackets_of rest ++ brackets_of more), sym same.0, sym same.1)
drawn_component (Component_then h x rest more) head exit (inr (inl i)) =
    let r = drawn_component rest head exit i in
    (r.0, contains_there (outer_bracket h x rest) (brackets_of rest ++ brackets_of more) (Contains-append_left (brackets_of rest) (brackets_of more) r.0 r.1), r.2, r.3)
drawn_component (Component_then h x rest more) head exit (inr (inr i)) =
    let r = drawn_component more head exit i in
    (r.0, contains_there (outer_bracket h x rest) (brackets_of rest ++ brackets_of more) (Contains-append_right (brackets_of rest) (brackets_of more) r.0 r.1), r.2, r.3)

component_drawn : (order : Level) (bracket : Bracket) → Contains (brackets_of order) bracket → HasComponent order bracket.head bracket.exit
component_drawn Empty bracket has = absurd (contains_none has)
component_drawn (Vertex_then v more) bracket has = component_drawn more bracket has
component_drawn (Component_then h x rest more) bracket has = elim (contains_cases (outer_bracket h x rest) bracket (brackets_of rest ++ brackets_of more) has) [
  | inl same ↦ inl (ap (λ (k : Bracket). k.head) (sym same), ap (λ (k : Bracket). k.exit) (sym same))
  | inr later ↦ elim (Contains-append_cases (brackets_of rest) (brackets_of more) bracket later) [
    | inl inner ↦ inr (inl (component_drawn rest bracket inner))
    | inr last ↦ inr (inr (component_drawn more bracket last))
  ]
]

module _ (p : PlanView) (order : Level) (axioms : Axioms p) (linear : IsLinear p order) where
  pub order_once : Once order
  order_once = different_once order (subst (AllPairs (λ (a b : ℕ). a ≢ b)) (sym (elements_of_places order)) linear.once)

  pub element_in : (e : ℕ) → e < p.elements → In order e
  element_in e below = contains_in order e (linear.every e below)

  pub component_of : (head exit : ℕ) → HasComponent order head exit → (c : Component) × Contains p.components c × (c.head ≡ head) × (c.exit ≡ exit)
  component_of head exit i =
      let b = drawn_component order head exit i in
      let c = linear.drawn b.0 b.1 in
      (c.0, c.1, sym c.2.head ∙ b.2, sym c.2.exit ∙ b.3)

  pub has_component : (c : Component) → Contains p.components c → HasComponent order c.head c.exit
  has_component c of =
      let b = linear.enclosed c of in
      subst (λ (x : ℕ). HasComponent order c.head x) b.2.exit (subst (λ (h : ℕ). HasComponent order h b.0.exit) b.2.head (component_drawn order b.0 b.1))

  one_ahead : (a b : ℕ) → Constrains p a b → Ahead order a b
  one_ahead a b c = constrains_ahead p axioms order linear.drawn linear.next a b c (element_in a (constrains_from p a b axioms c)) (element_in b (axioms.within a b c))

  pub precedes_ahead : (a b : ℕ) → Precedes p a b → Ahead order a b
  precedes_ahead a b (One c) = one_ahead a b c
  precedes_ahead a b (More {b = w} before c) = ahead_trans order a w b order_once (precedes_ahead a w before) (one_ahead w b c)
