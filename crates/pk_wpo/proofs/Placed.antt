-- A laid out nest by places.
use Rattle.std.proofs.Common.{◌≡◌, ◌≢◌, ℕ, zero, suc, ◌<◌, ◌≤◌, ◌+◌, Bool, true, false, List, [], ◌∷◌, ◌⊎◌, inl, inr, length, get_or, sym, subst, arith, ap, refl, ◌∙◌, length-append, add-one}
use Rattle.std.proofs.lemmas.Bool.{cases_lt}
use Rattle.std.proofs.lemmas.Bool.Decides.{eqb_tells}
use Rattle.std.proofs.lemmas.List.{get_or_append_left, get_or_at}
use Rattle.pk_plan.specs.Digraphs.{Edge, IsVertex}
use Rattle.pk_plan.specs.Nests.{Holds, IsNest}
use Rattle.pk_plan.proofs.DigraphLemmas.{edge_from_vertex}
use Rattle.pk_wpo.specs.Constraints.{Has, vertex, inner_exit, is_head, exit_of}
use Rattle.pk_wpo.specs.Layouts.{elements_of, Laid, IsLaid, end_number, place_in}
use Rattle.pk_wpo.proofs.Sequences.{Member, Before, Different, at_member, before_at}
use Rattle.pk_wpo.proofs.Bracketed.{held_in, vertex_listed, exit_listed, listed_is, Exits, elements_differ, held_from, held_before, where_stands, exits_nested, edge_stands}
use Rattle.pk_wpo.proofs.Numbers.{head_holds, holds_head, exit_at_head, exit_at_other, exit_rises, exit_apart}

abbrev pub Hold : Laid → ℕ → ℕ → Type 0
Hold l h u = Holds l.items h u

abbrev pub exit_in : Laid → ℕ → ℕ
exit_in l h = exit_of l.graph l.items h

abbrev pub listed_in : Laid → List ℕ
listed_in l = elements_of (exit_of l.graph l.items) l.items

-- the nest of a digraph
abbrev pub NestOf : Laid → Type 0
NestOf l = IsNest l.graph (IsVertex l.graph) l.items

-- vertices are below the number of vertices, exits from it on up to END
pub held_vertex_of : (l : Laid) (h u : ℕ) → NestOf l → Hold l h u → u < length l.graph
held_vertex_of l h u nest x = nest.only u (held_in l.items h u x).0

pub holding_head_of : (l : Laid) (h u : ℕ) → NestOf l → Hold l h u → Hold l h h
holding_head_of l h u nest x = (held_in l.items h u x).1

pub head_vertex_of : (l : Laid) (h u : ℕ) → NestOf l → Hold l h u → h < length l.graph
head_vertex_of l h u nest x = held_vertex_of l h h nest (holding_head_of l h u nest x)

pub exit_number : (l : Laid) (h : ℕ) → length l.graph ≤ exit_in l h
exit_number l h = omega arith

pub exit_before_end_of : (l : Laid) (h u : ℕ) → NestOf l → Hold l h u → exit_in l h < end_number l
exit_before_end_of l h u nest x = exit_rises l.graph l.items h (length l.graph) (holding_head_of l h u nest x) (head_vertex_of l h u nest x)

exits_of : (l : Laid) → NestOf l → Exits (exit_in l) l.items
exits_of l nest = record {
  apart = exit_apart l.graph l.items;
  no_vertex = λ h v x i same. let below = nest.only v i in let from = exit_number l h in omega (arith, same, below, from);
}

-- an element below END is a vertex or an exit
exit_below : (l : Laid) (v e : ℕ) → length l.graph ≤ e → e < exit_in l v → (h : ℕ) × Hold l h h × (e ≡ exit_in l h)
exit_below l zero e from below = absurd (let none : exit_in l 0 ≡ length l.graph = omega arith in omega (arith, from, below, none))
exit_below l (suc v) e from below = elim (bool_cases (is_head l.items v)) [
  | inl h ↦
      let step : exit_in l (v + 1) ≡ exit_in l v + 1 = exit_at_head l.graph l.items v h in
      let same : exit_in l (suc v) ≡ exit_in l (v + 1) = ap (exit_in l) (sym (add-one v)) in
      elim (cases_lt e (exit_in l v)) [
        | inl less ↦ exit_below l v e from less
        | inr more ↦ (v, head_holds l.items v h, omega (arith, below, step, same, more))
      ]
  | inr h ↦
      let step : exit_in l (v + 1) ≡ exit_in l v = exit_at_other l.graph l.items v h in
      let same : exit_in l (suc v) ≡ exit_in l (v + 1) = ap (exit_in l) (sym (add-one v)) in
      exit_below l v e from (omega (arith, below, step, same))
]
  where
    bool_cases : (b : Bool) → (b ≡ true) ⊎ (b ≡ false)
    bool_cases true = inl refl
    bool_cases false = inr refl

pub is_element_of : (l : Laid) (e : ℕ) → NestOf l → e < end_number l → (e < length l.graph) ⊎ ((h : ℕ) × Hold l h h × (e ≡ exit_in l h))
is_element_of l e nest below = elim (cases_lt e (length l.graph)) [
  | inl less ↦ inl less
  | inr more ↦ inr (exit_below l (length l.graph) e more below)
]

pub element_listed_of : (l : Laid) (e : ℕ) → NestOf l → e < end_number l → Member (listed_in l) e
element_listed_of l e nest below = elim (is_element_of l e nest below) [
  | inl v ↦ vertex_listed (exit_in l) l.items e (nest.all e v)
  | inr x ↦ subst (λ (a : ℕ). Member (listed_in l) a) (sym x.2) (exit_listed (exit_in l) l.items x.0 x.0 x.1)
]

pub listed_below_of : (l : Laid) (e : ℕ) → NestOf l → Member (listed_in l) e → e < end_number l
listed_below_of l e nest m = elim (listed_is (exit_in l) l.items e m) [
  | inl i ↦ let below = nest.only e i in omega (arith, below)
  | inr x ↦ let below = exit_before_end_of l x.0 x.0 nest x.1 in let same = x.2 in omega (arith, below, same)
]

pub listed_differ_of : (l : Laid) → NestOf l → Different (listed_in l)
listed_differ_of l nest = elements_differ (exit_in l) l.items nest.once (exits_of l nest)

-- the same of what is laid out
pub held_vertex : (l : Laid) (h u : ℕ) → IsLaid l → Hold l h u → u < length l.graph
held_vertex l h u laid x = held_vertex_of l h u laid.nest x

pub holding_head : (l : Laid) (h u : ℕ) → IsLaid l → Hold l h u → Hold l h h
holding_head l h u laid x = holding_head_of l h u laid.nest x

pub head_vertex : (l : Laid) (h u : ℕ) → IsLaid l → Hold l h u → h < length l.graph
head_vertex l h u laid x = head_vertex_of l h u laid.nest x

pub exit_before_end : (l : Laid) (h u : ℕ) → IsLaid l → Hold l h u → exit_in l h < end_number l
exit_before_end l h u laid x = exit_before_end_of l h u laid.nest x

pub is_element : (l : Laid) (e : ℕ) → IsLaid l → e < end_number l → (e < length l.graph) ⊎ ((h : ℕ) × Hold l h h × (e ≡ exit_in l h))
is_element l e laid below = is_element_of l e laid.nest below

pub element_listed : (l : Laid) (e : ℕ) → IsLaid l → e < end_number l → Member (listed_in l) e
element_listed l e laid below = element_listed_of l e laid.nest below

pub listed_below : (l : Laid) (e : ℕ) → IsLaid l → Member (listed_in l) e → e < end_number l
listed_below l e laid m = listed_below_of l e laid.nest m

pub listed_differ : (l : Laid) → IsLaid l → Different (listed_in l)
listed_differ l laid = listed_differ_of l laid.nest

pub elements_long : (l : Laid) → IsLaid l → length l.elements ≡ length (listed_in l) + 1
elements_long l laid = ap (λ (xs : List ℕ). length xs) laid.elements ∙ length-append (listed_in l) (end_number l ∷ [])

-- the element at a place
pub at_listed : (l : Laid) (k : ℕ) → IsLaid l → k < length (listed_in l) → get_or l.elements k 0 ≡ get_or (listed_in l) k 0
at_listed l k laid below = ap (λ (xs : List ℕ). get_or xs k 0) laid.elements ∙ get_or_append_left (listed_in l) (end_number l ∷ []) 0 k below

pub at_end : (l : Laid) → IsLaid l → get_or l.elements (length (listed_in l)) 0 ≡ end_number l
at_end l laid = ap (λ (xs : List ℕ). get_or xs (length (listed_in l)) 0) laid.elements ∙ get_or_at (listed_in l) (end_number l) [] 0 (length (listed_in l)) refl

pub place_of_listed : (l : Laid) (k : ℕ) → IsLaid l → k < length (listed_in l) → place_in l (get_or (listed_in l) k 0) ≡ k
place_of_listed l k laid below =
    let long = elements_long l laid in
    ap (place_in l) (sym (at_listed l k laid below)) ∙ laid.place k (omega (arith, below, long))

pub place_of_end : (l : Laid) → IsLaid l → place_in l (end_number l) ≡ length (listed_in l)
place_of_end l laid =
    let long = elements_long l laid in
    ap (place_in l) (sym (at_end l laid)) ∙ laid.place (length (listed_in l)) (omega (arith, long))

pub place_below : (l : Laid) (e : ℕ) → IsLaid l → e < end_number l → place_in l e < length (listed_in l)
place_below l e laid below =
    let at = at_member (listed_in l) e (element_listed l e laid below) in
    let place : place_in l e ≡ at.0 = ap (place_in l) (sym at.2) ∙ place_of_listed l at.0 laid at.1 in
    let less = at.1 in
    omega (arith, place, less)

pub at_place : (l : Laid) (e : ℕ) → IsLaid l → e < end_number l → get_or l.elements (place_in l e) 0 ≡ e
at_place l e laid below =
    let at = at_member (listed_in l) e (element_listed l e laid below) in
    let place : place_in l e ≡ at.0 = ap (place_in l) (sym at.2) ∙ place_of_listed l at.0 laid at.1 in
    ap (λ (k : ℕ). get_or l.elements k 0) place ∙ at_listed l at.0 laid at.1 ∙ at.2

-- what stands before has the smaller place
pub before_place : (l : Laid) (a b : ℕ) → IsLaid l → Before (listed_in l) a b → place_in l a < place_in l b
before_place l a b laid before =
    let at = before_at (listed_in l) a b before in
    let less = at.2 in
    let below = at.3 in
    let first : place_in l a ≡ at.0 = ap (place_in l) (sym at.4) ∙ place_of_listed l at.0 laid (omega (arith, less, below)) in
    let second : place_in l b ≡ at.1 = ap (place_in l) (sym at.5) ∙ place_of_listed l at.1 laid below in
    omega (arith, less, first, second)

pub same_place : (l : Laid) (a b : ℕ) → IsLaid l → a < end_number l → b < end_number l → place_in l a ≡ place_in l b → a ≡ b
same_place l a b laid a_in b_in same = sym (at_place l a laid a_in) ∙ ap (λ (k : ℕ). get_or l.elements k 0) same ∙ at_place l b laid b_in

-- a component holds the vertices from its head's place on, before its exit's
pub hold_from : (l : Laid) (h u : ℕ) → IsLaid l → Hold l h u → place_in l h ≤ place_in l u
hold_from l h u laid x = elim (held_from (exit_in l) l.items h u x) [
  | inl same ↦ let equal = ap (place_in l) same in omega (arith, equal)
  | inr before ↦ let less = before_place l h u laid before in omega (arith, less)
]

pub hold_before : (l : Laid) (h u : ℕ) → IsLaid l → Hold l h u → place_in l u < place_in l (exit_in l h)
hold_before l h u laid x = before_place l u (exit_in l h) laid (held_before (exit_in l) l.items h u x)

pub hold_by_place : (l : Laid) (h u : ℕ) → IsLaid l → Hold l h h → u < length l.graph → place_in l h ≤ place_in l u → place_in l u < place_in l (exit_in l h) → Hold l h u
hold_by_place l h u laid head inside from before = elim (where_stands (exit_in l) l.items h u head (laid.nest.all u inside)) [
  | inl x ↦ x
  | inr y ↦ elim y [
    | inl b ↦ absurd (let less = before_place l u h laid b in omega (arith, less, from))
    | inr b ↦ absurd (let less = before_place l (exit_in l h) u laid b in omega (arith, less, before))
  ]
]

-- components are nested or disjoint
pub exit_nested : (l : Laid) (h k : ℕ) → IsLaid l → Hold l h k → Hold l k k → k ≢ h → place_in l (exit_in l k) < place_in l (exit_in l h)
exit_nested l h k laid x y ne = before_place l (exit_in l k) (exit_in l h) laid (exits_nested (exit_in l) l.items h k laid.nest.once x y ne)

pub hold_trans : (l : Laid) (h k u : ℕ) → IsLaid l → Hold l h k → Hold l k u → Hold l h u
hold_trans l h k u laid x y = elim (eqb_tells k h) [
  | inl same ↦ subst (λ (j : ℕ). Hold l j u) same.1 y
  | inr other ↦
      let ends = exit_nested l h k laid x (holding_head l k u laid y) other.1 in
      let from = hold_from l h k laid x in
      let inner_from = hold_from l k u laid y in
      let inner_before = hold_before l k u laid y in
      hold_by_place l h u laid (holding_head l h k laid x) (held_vertex l k u laid y) (omega (arith, from, inner_from)) (omega (arith, ends, inner_before))
]

pub hold_both : (l : Laid) (h k u : ℕ) → IsLaid l → Hold l h u → Hold l k u → Hold l h k ⊎ Hold l k h
hold_both l h k u laid x y =
    let from_h = hold_from l h u laid x in
    let before_h = hold_before l h u laid x in
    let from_k = hold_from l k u laid y in
    let before_k = hold_before l k u laid y in
    elim (cases_lt (place_in l k) (place_in l h)) [
      | inl less ↦ inr (hold_by_place l k h laid (holding_head l k u laid y) (head_vertex l h u laid x) (omega (arith, less)) (omega (arith, from_h, before_k)))
      | inr more ↦ inl (hold_by_place l h k laid (holding_head l h u laid x) (head_vertex l k u laid y) more (omega (arith, from_k, before_h)))
    ]

pub hold_same : (l : Laid) (h k : ℕ) → IsLaid l → Hold l h k → Hold l k h → h ≡ k
hold_same l h k laid x y =
    let one = hold_from l h k laid x in
    let other = hold_from l k h laid y in
    let h_in = head_vertex l h k laid x in
    let k_in = head_vertex l k h laid y in
    same_place l h k laid (omega (arith, h_in)) (omega (arith, k_in)) (omega (arith, one, other))

-- whether a component holds a vertex is decided by places
pub hold_or_not : (l : Laid) (h u : ℕ) → IsLaid l → Hold l h h → u < length l.graph → Hold l h u ⊎ (Hold l h u → ⊥)
hold_or_not l h u laid head inside = elim (cases_lt (place_in l u) (place_in l h)) [
  | inl less ↦ inr (λ x. let from = hold_from l h u laid x in absurd (omega (arith, less, from)))
  | inr from ↦ elim (cases_lt (place_in l u) (place_in l (exit_in l h))) [
    | inl before ↦ inl (hold_by_place l h u laid head inside from before)
    | inr past ↦ inr (λ x. let before = hold_before l h u laid x in absurd (omega (arith, past, before)))
  ]
]

-- whether a vertex is a head is decided
pub hold_or_none : (l : Laid) (h : ℕ) → IsLaid l → h < length l.graph → Hold l h h ⊎ (Hold l h h → ⊥)
hold_or_none l h laid inside = elim (test (is_head l.items h)) [
  | inl told ↦ inl (head_holds l.items h told)
  | inr not_told ↦ inr (λ x. let told : is_head l.items h ≡ true = holds_head l.items h h x in absurd (cc))
]
  where
    test : (b : Bool) → (b ≡ true) ⊎ (b ≡ false)
    test true = inl refl
    test false = inr refl

-- an edge leads forward, or back to the head of a component that holds where it comes from
pub edge_place : (l : Laid) (u v : ℕ) → IsLaid l → Edge l.graph u v → (place_in l u < place_in l v) ⊎ Hold l v u
edge_place l u v laid e = elim (edge_stands l.graph (exit_in l) (λ (w : ℕ). w < length l.graph) l.items u v laid.nest.items_are laid.nest.only laid.nest.forward e (laid.nest.all u (edge_from_vertex l.graph u v e)) (laid.nest.all v (laid.closed u v e))) [
  | inl before ↦ inl (before_place l u v laid before)
  | inr x ↦ inr x
]

-- a component's elements by places
pub has_from : (l : Laid) (h e : ℕ) → IsLaid l → Has (Holds l.items) (exit_of l.graph l.items) h e → place_in l h ≤ place_in l e
has_from l h e laid (vertex x) = hold_from l h e laid x
has_from l h e laid (inner_exit {k} x y ne) =
    let from = hold_from l h k laid x in
    let inner = hold_before l k k laid y in
    omega (arith, from, inner)

pub has_before : (l : Laid) (h e : ℕ) → IsLaid l → Has (Holds l.items) (exit_of l.graph l.items) h e → place_in l e < place_in l (exit_in l h)
has_before l h e laid (vertex x) = hold_before l h e laid x
has_before l h e laid (inner_exit {k} x y ne) = exit_nested l h k laid x y ne

pub has_head : (l : Laid) (h e : ℕ) → IsLaid l → Has (Holds l.items) (exit_of l.graph l.items) h e → Hold l h h
has_head l h e laid (vertex x) = holding_head l h e laid x
has_head l h e laid (inner_exit {k} x y ne) = holding_head l h k laid x

pub has_below : (l : Laid) (h e : ℕ) → IsLaid l → Has (Holds l.items) (exit_of l.graph l.items) h e → e < end_number l
has_below l h e laid (vertex x) = let v = held_vertex l h e laid x in omega (arith, v)
has_below l h e laid (inner_exit {k} x y ne) = exit_before_end l k k laid y

pub has_by_place : (l : Laid) (h e : ℕ) → IsLaid l → Hold l h h → e < end_number l → place_in l h ≤ place_in l e → place_in l e < place_in l (exit_in l h) → Has (Holds l.items) (exit_of l.graph l.items) h e
has_by_place l h e laid head below from before = elim (is_element l e laid below) [
  | inl v ↦ vertex (hold_by_place l h e laid head v from before)
  | inr x ↦
      let k = x.0 in
      let y : Hold l k k = x.1 in
      let is : e ≡ exit_in l k = x.2 in
      let at = ap (place_in l) is in
      let inner = hold_before l k k laid y in
      let h_in = head_vertex l h h laid head in
      let k_in = head_vertex l k k laid y in
      let ne : k ≢ h = λ same. let equal = ap (λ (j : ℕ). place_in l (exit_in l j)) same in absurd (omega (arith, equal, at, before)) in
      elim (cases_lt (place_in l k) (place_in l h)) [
        | inl less ↦ absurd (
            let x' : Hold l k h = hold_by_place l k h laid y h_in (omega (arith, less)) (elim (eqb_tells (place_in l h) (place_in l e)) [
              | inl equal ↦ absurd (
                  let same : h ≡ e = same_place l h e laid (omega (arith, h_in)) below equal.1 in
                  let number = exit_number l k in
                  omega (arith, same, is, number, h_in))
              | inr other ↦ let apart = other.1 in omega (arith, from, apart, at)
            ]) in
            let ends = exit_nested l k h laid x' head (λ same. ne (sym same)) in
            omega (arith, ends, at, before))
        | inr more ↦
            let x' : Hold l h k = hold_by_place l h k laid head k_in more (omega (arith, inner, at, before)) in
            subst (λ (a : ℕ). Has (Holds l.items) (exit_of l.graph l.items) h a) (sym is) (inner_exit x' y ne)
      ]
]
