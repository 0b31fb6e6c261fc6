-- Constraints lead forward, and stay in their components.
use Rattle.std.proofs.Common.{◌≡◌, ◌≢◌, ℕ, ◌<◌, ◌⊎◌, inl, inr, length, sym, subst, arith, ap, refl, ◌∙◌}
use Rattle.std.proofs.lemmas.Bool.{cases_lt}
use Rattle.std.proofs.lemmas.Bool.Decides.{eqb_tells}
use Rattle.std.proofs.Common.{Option, Some, None}
use Rattle.pk_plan.specs.Digraphs.{Edge, Reach, Here, Then}
use Rattle.pk_plan.specs.Nests.{Holds}
use Rattle.pk_plan.proofs.DigraphLemmas.{edge_from_vertex}
use Rattle.pk_wpo.specs.Constraints.{Top, itself, exit_of_outermost, Has, vertex, inner_exit, EdgeConstraint, forth, back, HeadConstraint, exit_of}
use Rattle.pk_wpo.specs.Layouts.{Laid, IsLaid, IsHome, IsInnermost, end_number, place_in}
use Rattle.pk_nest.proofs.Paths.{reach_start, reach_from}
use Rattle.pk_wpo.proofs.Connected.{connected}
use Rattle.pk_wpo.proofs.Placed.{Hold, exit_in, held_vertex, holding_head, head_vertex, exit_number, exit_before_end, same_place, hold_from, hold_before, hold_by_place, exit_nested, hold_trans, hold_both, hold_same, hold_or_not, hold_or_none, edge_place, has_from, has_before, has_head, has_below, has_by_place}
use Rattle.pk_wpo.proofs.Numbers.{exit_apart}

abbrev pub HasIn : Laid → ℕ → ℕ → Type 0
HasIn l h e = Has (Holds l.items) (exit_of l.graph l.items) h e

abbrev pub TopIn : Laid → ℕ → ℕ → ℕ → Type 0
TopIn l u v a = Top (Holds l.items) (exit_of l.graph l.items) u v a

abbrev pub ByEdge : Laid → ℕ → ℕ → Type 0
ByEdge l a b = EdgeConstraint l.graph (Holds l.items) (exit_of l.graph l.items) a b

abbrev pub ByHead : Laid → ℕ → ℕ → Type 0
ByHead l h b = HeadConstraint l.graph (Holds l.items) (exit_of l.graph l.items) h b

abbrev pub HomeIn : Laid → ℕ → Option ℕ → Type 0
HomeIn l e home = IsHome (Holds l.items) (exit_of l.graph l.items) e home

-- an element of a component is a vertex that it holds, or an inner exit
pub has_is : (l : Laid) (h e : ℕ) → HasIn l h e → Hold l h e ⊎ ((k : ℕ) × Hold l h k × Hold l k k × (k ≢ h) × (e ≡ exit_in l k))
has_is l h e (vertex x) = inl x
has_is l h e (inner_exit {k} x y ne) = inr (k, x, y, ne, refl)

pub has_vertex : (l : Laid) (h u : ℕ) → IsLaid l → HasIn l h u → u < length l.graph → Hold l h u
has_vertex l h u laid has inside = elim (has_is l h u has) [
  | inl x ↦ x
  | inr x ↦ absurd (let number = exit_number l x.0 in let same = x.4 in omega (arith, number, same, inside))
]

pub has_exit : (l : Laid) (h k : ℕ) → IsLaid l → HasIn l h (exit_in l k) → Hold l k k → Hold l h k × (k ≢ h)
has_exit l h k laid has y = elim (has_is l h (exit_in l k) has) [
  | inl x ↦ absurd (let number = exit_number l k in let v = held_vertex l h (exit_in l k) laid x in omega (arith, number, v))
  | inr x ↦
      let same : k ≡ x.0 = exit_apart l.graph l.items k x.0 y x.2 x.4 in
      (subst (λ (j : ℕ). Hold l h j) (sym same) x.1, (λ e. x.3 (sym same ∙ e)))
]

pub has_trans : (l : Laid) (h k e : ℕ) → IsLaid l → Hold l h k → HasIn l k e → HasIn l h e
has_trans l h k e laid x has = elim (eqb_tells k h) [
  | inl same ↦ subst (λ (j : ℕ). HasIn l j e) same.1 has
  | inr other ↦
      let ends = exit_nested l h k laid x (has_head l k e laid has) other.1 in
      let from = hold_from l h k laid x in
      let inner_from = has_from l k e laid has in
      let inner_before = has_before l k e laid has in
      has_by_place l h e laid (holding_head l h k laid x) (has_below l k e laid has) (omega (arith, from, inner_from)) (omega (arith, ends, inner_before))
]

-- there is one top
pub top_is_one : (l : Laid) (u v a b : ℕ) → IsLaid l → TopIn l u v a → TopIn l u v b → a ≡ b
top_is_one l u v a b laid (itself f) (itself f') = refl
top_is_one l u v a b laid (itself f) (exit_of_outermost {h} o) = absurd (o.without_other (f h o.with_one))
top_is_one l u v a b laid (exit_of_outermost {h} o) (itself f) = absurd (o.without_other (f h o.with_one))
top_is_one l u v a b laid (exit_of_outermost {h} o) (exit_of_outermost {h = k} q) =
    ap (exit_in l) (hold_same l h k laid (o.outermost k q.with_one q.without_other) (q.outermost h o.with_one o.without_other))

pub top_below : (l : Laid) (u v a : ℕ) → IsLaid l → u < length l.graph → TopIn l u v a → a < end_number l
top_below l u v a laid inside (itself f) = omega (arith, inside)
top_below l u v a laid inside (exit_of_outermost {h} o) = exit_before_end l h u laid o.with_one

-- constraints lead forward
forth_rises : (l : Laid) (u v a : ℕ) → IsLaid l → v < length l.graph → place_in l u < place_in l v → TopIn l u v a → place_in l a < place_in l v
forth_rises l u v a laid inside less (itself f) = less
forth_rises l u v a laid inside less (exit_of_outermost {h} o) =
    let from = hold_from l h u laid o.with_one in
    let number = exit_number l h in
    let exit_in_range = exit_before_end l h u laid o.with_one in
    elim (cases_lt (place_in l v) (place_in l (exit_in l h))) [
      | inl before ↦ absurd (o.without_other (hold_by_place l h v laid (holding_head l h u laid o.with_one) inside (omega (arith, from, less)) before))
      | inr past ↦ elim (eqb_tells (place_in l (exit_in l h)) (place_in l v)) [
        | inl equal ↦ absurd (let same = same_place l (exit_in l h) v laid exit_in_range (omega (arith, inside)) equal.1 in omega (arith, same, number, inside))
        | inr other ↦ let apart = other.1 in omega (arith, past, apart)
      ]
    ]

back_rises : (l : Laid) (u h a : ℕ) → IsLaid l → Hold l h u → TopIn l u h a → place_in l a < place_in l (exit_in l h)
back_rises l u h a laid x (itself f) = hold_before l h u laid x
back_rises l u h a laid x (exit_of_outermost {h = k} o) = elim (hold_both l h k u laid x o.with_one) [
  | inl y ↦ exit_nested l h k laid y (holding_head l k u laid o.with_one) (λ same. o.without_other (subst (λ (j : ℕ). Hold l j h) (sym same) (holding_head l h u laid x)))
  | inr y ↦ absurd (o.without_other y)
]

pub edge_rises : (l : Laid) (a b : ℕ) → IsLaid l → ByEdge l a b → place_in l a < place_in l b
edge_rises l a b laid (forth {u} e no' t) = elim (edge_place l u b laid e) [
  | inl less ↦ forth_rises l u b a laid (laid.closed u b e) less t
  | inr x ↦ absurd (no' x)
]
edge_rises l a b laid (back {u} {h} e x t) = back_rises l u h a laid x t

pub head_rises : (l : Laid) (h b : ℕ) → IsLaid l → ByHead l h b → place_in l h < place_in l b
head_rises l h b laid c =
    let from = has_from l h b laid c.has in
    let h_in = head_vertex l h h laid (has_head l h b laid c.has) in
    elim (eqb_tells (place_in l h) (place_in l b)) [
      | inl equal ↦ absurd (c.another (sym (same_place l h b laid (omega (arith, h_in)) (has_below l h b laid c.has) equal.1)))
      | inr other ↦ let apart = other.1 in omega (arith, from, apart)
    ]

-- both ends are elements below END
pub edge_from_below : (l : Laid) (a b : ℕ) → IsLaid l → ByEdge l a b → a < end_number l
edge_from_below l a b laid (forth {u} e no' t) = top_below l u b a laid (edge_from_vertex l.graph u b e) t
edge_from_below l a b laid (back {u} {h} e x t) = top_below l u h a laid (edge_from_vertex l.graph u h e) t

pub edge_to_below : (l : Laid) (a b : ℕ) → IsLaid l → ByEdge l a b → b < end_number l
edge_to_below l a b laid (forth {u} e no' t) = let v = laid.closed u b e in omega (arith, v)
edge_to_below l a b laid (back {u} {h} e x t) = exit_before_end l h u laid x

-- a constraint by an edge stays in a component, or leads to its exit
leads_on : (l : Laid) (h k : ℕ) → Hold l h k → Hold l k k → HasIn l h (exit_in l k) ⊎ (exit_in l k ≡ exit_in l h)
leads_on l h k x y = elim (eqb_tells k h) [
  | inl same ↦ inr (ap (exit_in l) same.1)
  | inr other ↦ inl (inner_exit x y other.1)
]

-- the component that has the top of u against v holds v
top_holds : (l : Laid) (h u v a : ℕ) → IsLaid l → u < length l.graph → v < length l.graph → HasIn l h a → TopIn l u v a → Hold l h v
top_holds l h u v a laid u_in v_in has (itself f) = f h (has_vertex l h u laid has u_in)
top_holds l h u v a laid u_in v_in has (exit_of_outermost {h = k} o) =
    let inner = has_exit l h k laid has (holding_head l k u laid o.with_one) in
    elim (hold_or_not l h v laid (holding_head l h k laid inner.0) v_in) [
      | inl y ↦ y
      | inr out ↦ absurd (inner.1 (hold_same l k h laid (o.outermost h (hold_trans l h k u laid inner.0 o.with_one) out) inner.0))
    ]

pub edge_stays : (l : Laid) (h a b : ℕ) → IsLaid l → HasIn l h a → ByEdge l a b → HasIn l h b ⊎ (b ≡ exit_in l h)
edge_stays l h a b laid has (forth {u} e no' t) = inl (vertex (top_holds l h u b a laid (edge_from_vertex l.graph u b e) (laid.closed u b e) has t))
edge_stays l h a b laid has (back {u} {h = k} e x t) =
    leads_on l h k (top_holds l h u k a laid (edge_from_vertex l.graph u k e) (laid.closed u k e) has t) (holding_head l k u laid x)

pub head_stays : (l : Laid) (h k b : ℕ) → IsLaid l → HasIn l h k → ByHead l k b → HasIn l h b
head_stays l h k b laid has c = has_trans l h k b laid (has_vertex l h k laid has (head_vertex l k k laid (has_head l k b laid c.has))) c.has

-- the innermost component that holds a vertex, by its home
pub innermost_by_home : (l : Laid) (u : ℕ) (home : Option ℕ) → IsLaid l → u < length l.graph → (Hold l u u → ⊥) → HomeIn l u home → IsInnermost (Holds l.items) u home
innermost_by_home l u None laid inside none home = λ k x. none (subst (λ (j : ℕ). Hold l j u) (sym (home k (holding_head l k u laid x) (vertex x))) x)
innermost_by_home l u (Some h) laid inside none home =
    (has_vertex l h u laid home.1 inside, (λ k x. home.3 k (holding_head l k u laid x) (vertex x) (λ same. none (subst (λ (j : ℕ). Hold l j u) (sym same) x))))

pub innermost_itself : (l : Laid) (u : ℕ) → Hold l u u → IsInnermost (Holds l.items) u (Some u)
innermost_itself l u x = (x, (λ k y. y))

-- each vertex that a component holds constrains something
vertex_leads : (l : Laid) (h k u : ℕ) → IsLaid l → Hold l h u → Hold l k u → ((j : ℕ) → Hold l j u → Hold l j k) → (b : ℕ) × ByEdge l u b
vertex_leads l h k u laid x y inner =
    let next = connected l.graph (λ (w : ℕ). w < length l.graph) l.items k u laid.nest.items_are y in
    let w = next.0 in
    let y_w : Hold l k w = reach_start l.graph (Holds l.items k) w k next.2 in
    elim (eqb_tells w k) [
      | inl same ↦ (exit_in l k, back (subst (λ (v : ℕ). Edge l.graph u v) same.1 next.1) y (itself inner))
      | inr other ↦ (w, forth next.1 (λ x_w. other.1 (hold_same l w k laid (inner w x_w) y_w)) (itself (λ j x_j. hold_trans l j k w laid (inner j x_j) y_w)))
    ]

-- a path out of a component leaves it by an edge
leaves : (l : Laid) (h k u v : ℕ) → IsLaid l → Hold l k k → Hold l k u → (Hold l k v → ⊥) → Reach l.graph (Holds l.items h) u v → (x : ℕ) × (y : ℕ) × Hold l k x × Edge l.graph x y × Hold l h y × (Hold l k y → ⊥)
leaves l h k u v laid head inside out (Here s) = absurd (out inside)
leaves l h k u v laid head inside out (Then {w} r e s) = elim (hold_or_not l k w laid head (edge_from_vertex l.graph w v e)) [
  | inl x ↦ (w, v, x, e, s, out)
  | inr no' ↦ leaves l h k u w laid head inside no' r
]

-- and so does each inner exit
exit_leads : (l : Laid) (k h : ℕ) → IsLaid l → Hold l h k → Hold l k k → k ≢ h → ((j : ℕ) → Hold l j k → k ≢ j → Hold l j h) → (b : ℕ) × ByEdge l (exit_in l k) b
exit_leads l k h laid x y ne home =
    let next = connected l.graph (λ (w : ℕ). w < length l.graph) l.items h k laid.nest.items_are x in
    let not_head : Hold l k h → ⊥ = λ z. ne (hold_same l k h laid z x) in
    let path : Reach l.graph (Holds l.items h) k h = reach_from l.graph (Holds l.items h) k next.0 h x next.1 next.2 in
    let out = leaves l h k k h laid y y not_head path in
    let p = out.0 in
    let q = out.1 in
    let outer : (j : ℕ) → Hold l j p → (Hold l j h → ⊥) → Hold l k j = (λ j x_j no'. elim (hold_both l j k p laid x_j out.2) [
      | inl z ↦ elim (eqb_tells k j) [
        | inl same ↦ subst (λ (i : ℕ). Hold l k i) same.1 y
        | inr other ↦ absurd (no' (home j z other.1))
      ]
      | inr z ↦ z
    ]) in
    elim (eqb_tells q h) [
      | inl same ↦
          (exit_in l h, back (subst (λ (v : ℕ). Edge l.graph p v) same.1 out.3) (hold_trans l h k p laid x out.2) (exit_of_outermost (record { with_one = out.2; without_other = not_head; outermost = outer })))
      | inr other ↦ (
        q,
        forth out.3
            (λ x_q. elim (hold_both l q k p laid x_q out.2) [
              | inl z ↦ elim (eqb_tells k q) [
                | inl equal ↦ out.5 (subst (λ (i : ℕ). Hold l k i) equal.1 y)
                | inr apart ↦ other.1 (hold_same l q h laid (home q z apart.1) out.4)
              ]
              | inr z ↦ out.5 z
            ])
            (exit_of_outermost (record { with_one = out.2; without_other = out.5; outermost = λ j x_j no'. outer j x_j (λ z. no' (hold_trans l j h q laid z out.4)) })),
      )
    ]

-- each element of a component constrains something by an edge
pub has_leads : (l : Laid) (h e : ℕ) (home : Option ℕ) → IsLaid l → HasIn l h e → HomeIn l e home → (b : ℕ) × ByEdge l e b
has_leads l h e home laid has is_home = elim (has_is l h e has) [
  | inl x ↦ elim (hold_or_none l e laid (held_vertex l h e laid x)) [
    | inl y ↦ vertex_leads l h e e laid x y (λ j z. z)
    | inr none ↦ of_vertex home is_home x none (innermost_by_home l e home laid (held_vertex l h e laid x) none is_home)
  ]
  | inr x ↦ of_exit home is_home x
]
  where
    of_vertex : (home : Option ℕ) → HomeIn l e home → Hold l h e → (Hold l e e → ⊥) → IsInnermost (Holds l.items) e home → (b : ℕ) × ByEdge l e b
    of_vertex None is_home x none inner = absurd (inner h x)
    of_vertex (Some k) is_home x none inner = vertex_leads l h k e laid x inner.0 inner.1

    of_exit : (home : Option ℕ) → HomeIn l e home → ((k : ℕ) × Hold l h k × Hold l k k × (k ≢ h) × (e ≡ exit_in l k)) → (b : ℕ) × ByEdge l e b
    of_exit None is_home x = absurd (let number = exit_number l x.0 in let below = head_vertex l h x.0 laid x.1 in let same = x.4 in let equal = is_home h (holding_head l h x.0 laid x.1) has in omega (arith, number, below, same, equal))
    of_exit (Some k) is_home x =
        let inner = has_exit l k x.0 laid (subst (λ (i : ℕ). HasIn l k i) x.4 is_home.1) x.2 in
        let leads = exit_leads l x.0 k laid inner.0 x.2 inner.1 (λ j y ne. is_home.3 j (holding_head l j x.0 laid y) (subst (λ (i : ℕ). HasIn l j i) (sym x.4) (inner_exit y x.2 ne)) (λ same. let number = exit_number l x.0 in let below = head_vertex l j x.0 laid y in let is = x.4 in absurd (omega (arith, number, below, same, is)))) in
        (leads.0, subst (λ (i : ℕ). ByEdge l i leads.0) (sym x.4) leads.1)
