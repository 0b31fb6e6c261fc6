-- A nest laid out: its elements in the order of its brackets.
use Rattle.std.specs.Prelude.{◌≡◌, ◌≢◌, ℕ, ◌+◌, ◌<◌, ◌^◌, Bool, Option, None, Some, List, [], ◌∷◌, ◌++◌, length, map, slice_index, refl}
use Rattle.std.specs.Coded.{Coded, code_by, coded×, coded_ℕ, coded_list}
use Rattle.std.specs.List.{range_with_len}
use Rattle.pk_plan.specs.declared.components.Component.{Component}
use Rattle.pk_plan.specs.Digraphs.{IsVertex, IsClosed}
use Rattle.pk_plan.specs.Nests.{Items, No_items, Vertex_first, Component_first, IsNest}
use Rattle.pk_plan.specs.NestCode.{items_code}
use Rattle.pk_wpo.specs.Constraints.{Has, is_head, heads_below, exit_of}

-- the elements from left to right, a component's exit after its rest
abbrev pub elements_of : (ℕ → ℕ) → Items → List ℕ
elements_of exit No_items = []
elements_of exit (Vertex_first v more) = v ∷ elements_of exit more
elements_of exit (Component_first head rest more) =
    head ∷ (elements_of exit rest ++ (exit head ∷ elements_of exit more))

-- for each of them the head of the component in whose rest it is; of those in no rest, this one
abbrev pub homes_of : Option ℕ → Items → List (Option ℕ)
homes_of home No_items = []
homes_of home (Vertex_first v more) = home ∷ homes_of home more
homes_of home (Component_first head rest more) = home ∷ (homes_of (Some head) rest ++ (home ∷ homes_of home more))

-- the innermost component that has an element other than as its head, if there is one
abbrev pub IsHome : (ℕ → ℕ → Type 0) → (ℕ → ℕ) → ℕ → Option ℕ → Type 0
IsHome holds exit e None = (k : ℕ) → holds k k → Has holds exit k e → e ≡ k
IsHome holds exit e (Some h) =
    holds h h × Has holds exit h e × (e ≢ h) × ((k : ℕ) → holds k k → Has holds exit k e → e ≢ k → holds k h)

-- the innermost component that holds a vertex, if there is one
abbrev pub IsInnermost : (ℕ → ℕ → Type 0) → ℕ → Option ℕ → Type 0
IsInnermost holds u None = (k : ℕ) → holds k u → ⊥
IsInnermost holds u (Some h) = holds h u × ((k : ℕ) → holds k u → holds k h)

-- a digraph, its nest, and the elements in order, with the place of each
pub record Laid : Type 0 where
  pub graph : List (List ℕ)
  pub items : Items
  pub elements : List ℕ
  pub places : List ℕ

abbrev pub end_number : Laid → ℕ
end_number l = exit_of l.graph l.items (length l.graph)

abbrev pub place_in : Laid → ℕ → ℕ
place_in l e = slice_index l.places e

-- the nest is the digraph's, and END stands last
pub record IsLaid (l : Laid) : Type 0 where
  pub closed : IsClosed l.graph
  pub few : length l.graph < 2 ^ 31
  pub nest : IsNest l.graph (IsVertex l.graph) l.items
  pub elements : l.elements ≡ elements_of (exit_of l.graph l.items) l.items ++ end_number l ∷ []
  pub placed : length l.places ≡ length l.elements
  pub place : (k : ℕ) → k < length l.elements → place_in l (slice_index l.elements k) ≡ k

-- and what else is kept of it: which vertices are heads, the numbers of exits, and the homes of the elements at their places
pub record IsKept (l : Laid) (head_tests : List Bool) (exit_numbers : List ℕ)
    (home_heads : List (Option ℕ)) : Type 0 where
  pub laid : IsLaid l
  pub heads : head_tests ≡ map (is_head l.items) (range_with_len 0 (length l.graph))
  pub exits : exit_numbers ≡ map (exit_of l.graph l.items) (range_with_len 0 (length l.graph + 1))
  pub homes : home_heads ≡ homes_of None l.items ++ None ∷ []

-- a head's component, by the places of its head and its exit
abbrev pub component_at : Laid → ℕ → Component
component_at l h =
    record {
      head = h;
      exit = exit_of l.graph l.items h;
      first = place_in l h;
      end = place_in l (exit_of l.graph l.items h);
    }

abbrev pub components_in : Laid → List Component
components_in l = map (component_at l) (heads_below l.items (length l.graph))

-- what is laid out is stored as the tuple of its parts
abbrev pub laid_code : Coded Laid
laid_code =
    code_by (List (List ℕ) × (Items × (List ℕ × List ℕ)))
    (coded× (coded_list (coded_list coded_ℕ))
    (coded× items_code (coded× (coded_list coded_ℕ) (coded_list coded_ℕ))))
    (λ l. (l.graph, (l.items, (l.elements, l.places))))
    (λ t. record { graph = t.0; items = t.1.0; elements = t.1.1.0; places = t.1.1.1 })
    (λ _. refl)
