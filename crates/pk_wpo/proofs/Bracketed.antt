-- How the elements of a nest stand in the order of its brackets.
use Rattle.std.proofs.Common.{◌≡◌, ◌≢◌, ℕ, List, ◌∷◌, ◌⊎◌, inl, inr, sym, subst, ap, refl, ◌∙◌}
use Rattle.pk_plan.specs.Digraphs.{Edge, Here}
use Rattle.pk_plan.specs.Nests.{Items, No_items, Vertex_first, Component_first, In, Once, Holds, AreItems, Forward}
use Rattle.pk_wpo.specs.Layouts.{elements_of}
use Rattle.pk_wpo.proofs.Sequences.{Member, Before, Different, member_left, member_right, member_either, before_left, before_right, before_across, different_join}

-- a component of the items holds its head and what it holds stands in them
pub held_in : (items : Items) (h u : ℕ) → Holds items h u → In items u × Holds items h h
held_in No_items h u x = absurd x
held_in (Vertex_first v more) h u x = let p : In more u × Holds more h h = held_in more h u x in (inr p.0, p.1)
held_in (Component_first head rest more) h u (inl x) = ((elim x.1 [ inl e ↦ inl e | inr r ↦ inr (inl r) ]), inl (x.0, inl x.0))
held_in (Component_first head rest more) h u (inr (inl x)) = let p : In rest u × Holds rest h h = held_in rest h u x in (inr (inl p.0), inr (inl p.1))
held_in (Component_first head rest more) h u (inr (inr x)) = let p : In more u × Holds more h h = held_in more h u x in (inr (inr p.0), inr (inr p.1))

pub head_in : (items : Items) (h u : ℕ) → Holds items h u → In items h
head_in items h u x = (held_in items h h (held_in items h u x).1).0

-- the elements are the vertices and the exits of the components
pub vertex_listed : (exit : ℕ → ℕ) (items : Items) (v : ℕ) → In items v → Member (elements_of exit items) v
vertex_listed exit No_items v h = absurd h
vertex_listed exit (Vertex_first u more) v (inl h) = inl h
vertex_listed exit (Vertex_first u more) v (inr h) = inr (vertex_listed exit more v h)
vertex_listed exit (Component_first head rest more) v (inl h) = inl h
vertex_listed exit (Component_first head rest more) v (inr (inl h)) = inr (member_left (elements_of exit rest) (exit head ∷ elements_of exit more) v (vertex_listed exit rest v h))
vertex_listed exit (Component_first head rest more) v (inr (inr h)) = inr (member_right (elements_of exit rest) (exit head ∷ elements_of exit more) v (inr (vertex_listed exit more v h)))

pub exit_listed : (exit : ℕ → ℕ) (items : Items) (h u : ℕ) → Holds items h u → Member (elements_of exit items) (exit h)
exit_listed exit No_items h u x = absurd x
exit_listed exit (Vertex_first v more) h u x = inr (exit_listed exit more h u x)
exit_listed exit (Component_first head rest more) h u (inl x) = inr (member_right (elements_of exit rest) (exit head ∷ elements_of exit more) (exit h) (inl (ap exit x.0)))
exit_listed exit (Component_first head rest more) h u (inr (inl x)) = inr (member_left (elements_of exit rest) (exit head ∷ elements_of exit more) (exit h) (exit_listed exit rest h u x))
exit_listed exit (Component_first head rest more) h u (inr (inr x)) = inr (member_right (elements_of exit rest) (exit head ∷ elements_of exit more) (exit h) (inr (exit_listed exit more h u x)))

-- an element is a vertex of the items, or the exit of a component
abbrev pub VertexOrExit : (ℕ → ℕ) → Items → ℕ → Type 0
VertexOrExit exit items e = In items e ⊎ ((h : ℕ) × Holds items h h × (e ≡ exit h))

pub listed_is : (exit : ℕ → ℕ) (items : Items) (e : ℕ) → Member (elements_of exit items) e → VertexOrExit exit items e
listed_is exit No_items e m = absurd m
listed_is exit (Vertex_first v more) e (inl h) = inl (inl h)
listed_is exit (Vertex_first v more) e (inr m) = elim (listed_is exit more e m) [ inl i ↦ inl (inr i) | inr x ↦ inr x ]
listed_is exit (Component_first head rest more) e (inl h) = inl (inl h)
listed_is exit (Component_first head rest more) e (inr m) = elim (member_either (elements_of exit rest) (exit head ∷ elements_of exit more) e m) [
  | inl r ↦ elim (listed_is exit rest e r) [ inl i ↦ inl (inr (inl i)) | inr x ↦ inr (x.0, inr (inl x.1), x.2) ]
  | inr l ↦ elim l [
    | inl same ↦ inr (head, inl (refl, inl refl), same)
    | inr n ↦ elim (listed_is exit more e n) [ inl i ↦ inl (inr (inr i)) | inr x ↦ inr (x.0, inr (inr x.1), x.2) ]
  ]
]

-- exits are told apart by their heads, and from vertices
pub record Exits (exit : ℕ → ℕ) (items : Items) : Type 0 where
  pub apart : (h k : ℕ) → Holds items h h → Holds items k k → exit h ≡ exit k → h ≡ k
  pub no_vertex : (h v : ℕ) → Holds items h h → In items v → v ≡ exit h → ⊥

-- no element stands twice
pub elements_differ : (exit : ℕ → ℕ) (items : Items) → Once items → Exits exit items → Different (elements_of exit items)
elements_differ exit No_items o x = tt
elements_differ exit (Vertex_first v more) o x = (
  (λ m. elim (listed_is exit more v m) [ inl i ↦ o.0 i | inr e ↦ x.no_vertex e.0 v e.1 (inl refl) e.2 ]),
  elements_differ exit more o.1 (record { apart = x.apart; no_vertex = λ h u k i. x.no_vertex h u k (inr i) }),
)
elements_differ exit (Component_first head rest more) o x =
    let inner : Different (elements_of exit rest) = elements_differ exit rest o.3 (record { apart = λ h k i j. x.apart h k (inr (inl i)) (inr (inl j)); no_vertex = λ h u k i. x.no_vertex h u (inr (inl k)) (inr (inl i)) }) in
    let later : Different (elements_of exit more) = elements_differ exit more o.4 (record { apart = λ h k i j. x.apart h k (inr (inr i)) (inr (inr j)); no_vertex = λ h u k i. x.no_vertex h u (inr (inr k)) (inr (inr i)) }) in
    let of_head : Holds (Component_first head rest more) head head = inl (refl, inl refl) in
    let out_of_more : Member (elements_of exit more) (exit head) → ⊥ = (λ m. elim (listed_is exit more (exit head) m) [
      | inl i ↦ x.no_vertex head (exit head) of_head (inr (inr i)) refl
      | inr e ↦ o.1 (subst (λ (h : ℕ). In more h) (sym (x.apart head e.0 of_head (inr (inr e.1)) e.2)) (head_in more e.0 e.0 e.1))
    ]) in
    let out_of_rest : Member (elements_of exit rest) (exit head) → ⊥ = (λ m. elim (listed_is exit rest (exit head) m) [
      | inl i ↦ x.no_vertex head (exit head) of_head (inr (inl i)) refl
      | inr e ↦ o.0 (subst (λ (h : ℕ). In rest h) (sym (x.apart head e.0 of_head (inr (inl e.1)) e.2)) (head_in rest e.0 e.0 e.1))
    ]) in
    let between : (a : ℕ) → Member (elements_of exit rest) a → Member (elements_of exit more) a → ⊥ = (λ a m n. elim (listed_is exit rest a m) [
      | inl i ↦ elim (listed_is exit more a n) [
        | inl j ↦ o.2 a i j
        | inr e ↦ x.no_vertex e.0 a (inr (inr e.1)) (inr (inl i)) e.2
      ]
      | inr d ↦ elim (listed_is exit more a n) [
        | inl j ↦ x.no_vertex d.0 a (inr (inl d.1)) (inr (inr j)) d.2
        | inr e ↦ o.2 e.0 (subst (λ (h : ℕ). In rest h) (x.apart d.0 e.0 (inr (inl d.1)) (inr (inr e.1)) (sym d.2 ∙ e.2)) (head_in rest d.0 d.0 d.1)) (head_in more e.0 e.0 e.1)
      ]
    ]) in (
      (λ m. elim (member_either (elements_of exit rest) (exit head ∷ elements_of exit more) head m) [
        | inl r ↦ elim (listed_is exit rest head r) [ inl i ↦ o.0 i | inr e ↦ x.no_vertex e.0 head (inr (inl e.1)) (inl refl) e.2 ]
        | inr l ↦ elim l [
          | inl same ↦ x.no_vertex head head of_head (inl refl) same
          | inr n ↦ elim (listed_is exit more head n) [ inl i ↦ o.1 i | inr e ↦ x.no_vertex e.0 head (inr (inr e.1)) (inl refl) e.2 ]
        ]
      ]),
      different_join (elements_of exit rest) (exit head ∷ elements_of exit more) inner (out_of_more, later)
          (λ a m n. elim n [ inl same ↦ out_of_rest (subst (λ (b : ℕ). Member (elements_of exit rest) b) same m) | inr l ↦ between a m l ]),
    )

-- what a component holds stands from its head on and before its exit
pub held_from : (exit : ℕ → ℕ) (items : Items) (h u : ℕ) → Holds items h u → (u ≡ h) ⊎ Before (elements_of exit items) h u
held_from exit No_items h u x = absurd x
held_from exit (Vertex_first v more) h u x = elim (held_from exit more h u x) [ inl e ↦ inl e | inr b ↦ inr (inr b) ]
held_from exit (Component_first head rest more) h u (inl x) = elim x.1 [
  | inl e ↦ inl (e ∙ sym x.0)
  | inr r ↦ inr (inl (x.0, member_left (elements_of exit rest) (exit head ∷ elements_of exit more) u (vertex_listed exit rest u r)))
]
held_from exit (Component_first head rest more) h u (inr (inl x)) = elim (held_from exit rest h u x) [ inl e ↦ inl e | inr b ↦ inr (inr (before_left (elements_of exit rest) (exit head ∷ elements_of exit more) h u b)) ]
held_from exit (Component_first head rest more) h u (inr (inr x)) = elim (held_from exit more h u x) [ inl e ↦ inl e | inr b ↦ inr (inr (before_right (elements_of exit rest) (exit head ∷ elements_of exit more) h u (inr b))) ]

pub held_before : (exit : ℕ → ℕ) (items : Items) (h u : ℕ) → Holds items h u → Before (elements_of exit items) u (exit h)
held_before exit No_items h u x = absurd x
held_before exit (Vertex_first v more) h u x = inr (held_before exit more h u x)
held_before exit (Component_first head rest more) h u (inl x) = elim x.1 [
  | inl e ↦ inl (e, member_right (elements_of exit rest) (exit head ∷ elements_of exit more) (exit h) (inl (ap exit x.0)))
  | inr r ↦ inr (before_across (elements_of exit rest) (exit head ∷ elements_of exit more) u (exit h) (vertex_listed exit rest u r) (inl (ap exit x.0)))
]
held_before exit (Component_first head rest more) h u (inr (inl x)) = inr (before_left (elements_of exit rest) (exit head ∷ elements_of exit more) u (exit h) (held_before exit rest h u x))
held_before exit (Component_first head rest more) h u (inr (inr x)) = inr (before_right (elements_of exit rest) (exit head ∷ elements_of exit more) u (exit h) (inr (held_before exit more h u x)))

-- a vertex is held by a component, or stands before its head, or after its exit
pub where_stands : (exit : ℕ → ℕ) (items : Items) (h u : ℕ) → Holds items h h → In items u → Holds items h u ⊎ (Before (elements_of exit items) u h ⊎ Before (elements_of exit items) (exit h) u)
where_stands exit No_items h u x i = absurd i
where_stands exit (Vertex_first v more) h u x (inl i) = inr (inl (inl (i, vertex_listed exit more h (head_in more h h x))))
where_stands exit (Vertex_first v more) h u x (inr i) = elim (where_stands exit more h u x i) [
  | inl y ↦ inl y
  | inr y ↦ elim y [ inl b ↦ inr (inl (inr b)) | inr b ↦ inr (inr (inr b)) ]
]
where_stands exit (Component_first head rest more) h u (inl x) (inl i) = inl (inl (x.0, inl i))
where_stands exit (Component_first head rest more) h u (inl x) (inr (inl i)) = inl (inl (x.0, inr i))
where_stands exit (Component_first head rest more) h u (inl x) (inr (inr i)) = inr (inr (inr (before_right (elements_of exit rest) (exit head ∷ elements_of exit more) (exit h) u (inl (ap exit x.0, vertex_listed exit more u i)))))
where_stands exit (Component_first head rest more) h u (inr (inl x)) (inl i) = inr (inl (inl (i, member_left (elements_of exit rest) (exit head ∷ elements_of exit more) h (vertex_listed exit rest h (head_in rest h h x)))))
where_stands exit (Component_first head rest more) h u (inr (inl x)) (inr (inl i)) = elim (where_stands exit rest h u x i) [
  | inl y ↦ inl (inr (inl y))
  | inr y ↦ elim y [
    | inl b ↦ inr (inl (inr (before_left (elements_of exit rest) (exit head ∷ elements_of exit more) u h b)))
    | inr b ↦ inr (inr (inr (before_left (elements_of exit rest) (exit head ∷ elements_of exit more) (exit h) u b)))
  ]
]
where_stands exit (Component_first head rest more) h u (inr (inl x)) (inr (inr i)) = inr (inr (inr (before_across (elements_of exit rest) (exit head ∷ elements_of exit more) (exit h) u (exit_listed exit rest h h x) (inr (vertex_listed exit more u i)))))
where_stands exit (Component_first head rest more) h u (inr (inr x)) (inl i) = inr (inl (inl (i, member_right (elements_of exit rest) (exit head ∷ elements_of exit more) h (inr (vertex_listed exit more h (head_in more h h x))))))
where_stands exit (Component_first head rest more) h u (inr (inr x)) (inr (inl i)) = inr (inl (inr (before_across (elements_of exit rest) (exit head ∷ elements_of exit more) u h (vertex_listed exit rest u i) (inr (vertex_listed exit more h (head_in more h h x))))))
where_stands exit (Component_first head rest more) h u (inr (inr x)) (inr (inr i)) = elim (where_stands exit more h u x i) [
  | inl y ↦ inl (inr (inr y))
  | inr y ↦ elim y [
    | inl b ↦ inr (inl (inr (before_right (elements_of exit rest) (exit head ∷ elements_of exit more) u h (inr b))))
    | inr b ↦ inr (inr (inr (before_right (elements_of exit rest) (exit head ∷ elements_of exit more) (exit h) u (inr b))))
  ]
]

-- the exit of an inner component stands before the outer one's
pub exits_nested : (exit : ℕ → ℕ) (items : Items) (h k : ℕ) → Once items → Holds items h k → Holds items k k → k ≢ h → Before (elements_of exit items) (exit k) (exit h)
exits_nested exit No_items h k o x y ne = absurd x
exits_nested exit (Vertex_first v more) h k o x y ne = inr (exits_nested exit more h k o.1 x y ne)
exits_nested exit (Component_first head rest more) h k o (inl x) (inl y) ne = absurd (ne (y.0 ∙ sym x.0))
exits_nested exit (Component_first head rest more) h k o (inl x) (inr (inl y)) ne =
    inr (before_across (elements_of exit rest) (exit head ∷ elements_of exit more) (exit k) (exit h) (exit_listed exit rest k k y) (inl (ap exit x.0)))
exits_nested exit (Component_first head rest more) h k o (inl x) (inr (inr y)) ne = elim x.1 [
  | inl e ↦ absurd (ne (e ∙ sym x.0))
  | inr r ↦ absurd (o.2 k r (head_in more k k y))
]
exits_nested exit (Component_first head rest more) h k o (inr (inl x)) (inl y) ne = absurd (o.0 (subst (λ (z : ℕ). In rest z) y.0 (held_in rest h k x).0))
exits_nested exit (Component_first head rest more) h k o (inr (inl x)) (inr (inl y)) ne = inr (before_left (elements_of exit rest) (exit head ∷ elements_of exit more) (exit k) (exit h) (exits_nested exit rest h k o.3 x y ne))
exits_nested exit (Component_first head rest more) h k o (inr (inl x)) (inr (inr y)) ne = absurd (o.2 k (held_in rest h k x).0 (head_in more k k y))
exits_nested exit (Component_first head rest more) h k o (inr (inr x)) (inl y) ne = absurd (o.1 (subst (λ (z : ℕ). In more z) y.0 (held_in more h k x).0))
exits_nested exit (Component_first head rest more) h k o (inr (inr x)) (inr (inl y)) ne = absurd (o.2 k (head_in rest k k y) (held_in more h k x).0)
exits_nested exit (Component_first head rest more) h k o (inr (inr x)) (inr (inr y)) ne = inr (before_right (elements_of exit rest) (exit head ∷ elements_of exit more) (exit k) (exit h) (inr (exits_nested exit more h k o.4 x y ne)))

-- an edge leads forward, or back to the head of a component that holds where it comes from
pub edge_stands : (g : List (List ℕ)) (exit : ℕ → ℕ) (S : ℕ → Type 0) (items : Items) (u v : ℕ) → AreItems g S items → ((w : ℕ) → In items w → S w) → Forward g items → Edge g u v → In items u → In items v → Before (elements_of exit items) u v ⊎ Holds items v u
edge_stands g exit S No_items u v s k f e i j = absurd i
edge_stands g exit S (Vertex_first w more) u v s k f e (inl i) (inl j) =
    absurd (s.0 (w, subst (λ (x : ℕ). Edge g w x) j (subst (λ (x : ℕ). Edge g x v) i e), Here (k w (inl refl))))
edge_stands g exit S (Vertex_first w more) u v s k f e (inl i) (inr j) = inl (inl (i, vertex_listed exit more v j))
edge_stands g exit S (Vertex_first w more) u v s k f e (inr i) (inl j) = absurd (f.0 u i (subst (λ (x : ℕ). Edge g u x) j e))
edge_stands g exit S (Vertex_first w more) u v s k f e (inr i) (inr j) = elim (edge_stands g exit S more u v s.1 (λ x y. k x (inr y)) f.1 e i j) [ inl b ↦ inl (inr b) | inr h ↦ inr h ]
edge_stands g exit S (Component_first head rest more) u v s k f e (inl i) (inl j) = inr (inl (j, inl i))
edge_stands g exit S (Component_first head rest more) u v s k f e (inr (inl i)) (inl j) = inr (inl (j, inr i))
edge_stands g exit S (Component_first head rest more) u v s k f e (inl i) (inr (inl j)) = inl (inl (i, member_left (elements_of exit rest) (exit head ∷ elements_of exit more) v (vertex_listed exit rest v j)))
edge_stands g exit S (Component_first head rest more) u v s k f e (inr (inl i)) (inr (inl j)) = elim (edge_stands g exit (In rest) rest u v s.1 (λ x y. y) f.1 e i j) [
  | inl b ↦ inl (inr (before_left (elements_of exit rest) (exit head ∷ elements_of exit more) u v b))
  | inr h ↦ inr (inr (inl h))
]
edge_stands g exit S (Component_first head rest more) u v s k f e (inl i) (inr (inr j)) = inl (inl (i, member_right (elements_of exit rest) (exit head ∷ elements_of exit more) v (inr (vertex_listed exit more v j))))
edge_stands g exit S (Component_first head rest more) u v s k f e (inr (inl i)) (inr (inr j)) = inl (inr (before_across (elements_of exit rest) (exit head ∷ elements_of exit more) u v (vertex_listed exit rest u i) (inr (vertex_listed exit more v j))))
edge_stands g exit S (Component_first head rest more) u v s k f e (inr (inr i)) (inl j) = absurd (f.0 u v i (inl j) e)
edge_stands g exit S (Component_first head rest more) u v s k f e (inr (inr i)) (inr (inl j)) = absurd (f.0 u v i (inr j) e)
edge_stands g exit S (Component_first head rest more) u v s k f e (inr (inr i)) (inr (inr j)) = elim (edge_stands g exit S more u v s.2 (λ x y. k x (inr (inr y))) f.2 e i j) [
  | inl b ↦ inl (inr (before_right (elements_of exit rest) (exit head ∷ elements_of exit more) u v (inr b)))
  | inr h ↦ inr (inr (inr h))
]
