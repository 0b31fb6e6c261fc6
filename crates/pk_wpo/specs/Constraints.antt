-- The constraints of a nest (after S. K. Kim, A. J. Venet, A. V. Thakur, Deterministic parallel fixpoint computation, 2020).
--
-- `holds h u`: the component with the head h holds the vertex u, and it holds its head. `exit h` is its exit.
use Rattle.std.specs.Prelude.{◌≡◌, ◌≢◌, ℕ, ◌+◌, ◌==◌, ◌||◌, Bool, false, List, length, filter}
use Rattle.std.specs.List.{range_with_len}
use Rattle.pk_plan.specs.Digraphs.{Edge, IsVertex}
use Rattle.pk_plan.specs.Nests.{Items, No_items, Vertex_first, Component_first}

-- the component with the head h holds u and not v, and holds each other one that does so
pub record IsOutermost (holds : ℕ → ℕ → Type 0) (u v h : ℕ) : Type 0 where
  pub with_one : holds h u
  pub without_other : ¬ holds h v
  pub outermost : (k : ℕ) → holds k u → ¬ holds k v → holds h k

-- the top of u against v: the exit of the outermost component that holds u and not v, or u itself where there is none
pub data Top (holds : ℕ → ℕ → Type 0) (exit : ℕ → ℕ) (u v : ℕ) : ℕ → Type 0 where
  itself : ((k : ℕ) → holds k u → holds k v) → Top holds exit u v u
  exit_of_outermost : {h : ℕ} → IsOutermost holds u v h → Top holds exit u v (exit h)

-- the component with the head h has e among its elements: a vertex that it holds, or the exit of another component that it holds
pub data Has (holds : ℕ → ℕ → Type 0) (exit : ℕ → ℕ) (h : ℕ) : ℕ → Type 0 where
  vertex : {u : ℕ} → holds h u → Has holds exit h u
  inner_exit : {k : ℕ} → holds h k → holds k k → k ≢ h → Has holds exit h (exit k)

-- what edges give
pub data EdgeConstraint (g : List (List ℕ)) (holds : ℕ → ℕ → Type 0) (exit : ℕ → ℕ) (a : ℕ) : ℕ → Type 0 where
  -- an edge from u to v, where v is no head of a component that holds u, leads from the top of u to v
  forth : {u v : ℕ} → Edge g u v → ¬ holds v u → Top holds exit u v a → EdgeConstraint g holds exit a v
  -- an edge from u back to the head h of a component that holds u leads from the top of u, inside the component without h, to its exit
  back : {u h : ℕ} → Edge g u h → holds h u → Top holds exit u h a → EdgeConstraint g holds exit a (exit h)

-- What a head gives: it constrains each other element of its component that has no constraint from inside the component. Inner
-- components come first; in an inner component that has it, other than as its head, an element has such a constraint by then.
pub record HeadConstraint (g : List (List ℕ)) (holds : ℕ → ℕ → Type 0) (exit : ℕ → ℕ) (h b : ℕ) : Type 0 where
  pub has : Has holds exit h b
  pub another : b ≢ h
  pub without_edge : (a : ℕ) → Has holds exit h a → ¬ EdgeConstraint g holds exit a b
  pub in_no_inner : (k : ℕ) → k ≢ h → holds h k → Has holds exit k b → b ≡ k

-- an element is a vertex, or the exit of a component
pub data IsElement (g : List (List ℕ)) (holds : ℕ → ℕ → Type 0) (exit : ℕ → ℕ) : ℕ → Type 0 where
  a_vertex : {u : ℕ} → IsVertex g u → IsElement g holds exit u
  an_exit : {h : ℕ} → holds h h → IsElement g holds exit (exit h)

-- all constraints; END, which comes after every element that has no other successor, is the number after the exits
pub data Constraint (g : List (List ℕ)) (holds : ℕ → ℕ → Type 0) (exit : ℕ → ℕ) (a : ℕ) : ℕ → Type 0 where
  by_edge : {b : ℕ} → EdgeConstraint g holds exit a b → Constraint g holds exit a b
  by_head : {b : ℕ} → HeadConstraint g holds exit a b → Constraint g holds exit a b
  to_end : IsElement g holds exit a → ((b : ℕ) → ¬ EdgeConstraint g holds exit a b) →
      ((b : ℕ) → ¬ HeadConstraint g holds exit a b) → Constraint g holds exit a (exit (length g))

-- whether v is the head of a component
abbrev pub is_head : Items → ℕ → Bool
is_head No_items v = false
is_head (Vertex_first u more) v = is_head more v
is_head (Component_first head rest more) v = (v == head) || (is_head rest v || is_head more v)

-- the heads below a number, in rising order
abbrev pub heads_below : Items → ℕ → List ℕ
heads_below items v = filter (is_head items) (range_with_len 0 v)

-- exits are numbered after the vertices, in the order of the heads
abbrev pub exit_of : List (List ℕ) → Items → ℕ → ℕ
exit_of g items v = length g + length (heads_below items v)
