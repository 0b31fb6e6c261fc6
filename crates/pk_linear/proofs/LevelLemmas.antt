-- Levels: their elements, items and brackets.
use Rattle.std.proofs.Common.{◌≡◌, ◌⊎◌, ℕ, ◌+◌, List, [], ◌∷◌, ◌++◌, length, refl, sym, ap, subst, ◌∙◌, inl, inr, Contains}
use Rattle.std.proofs.lemmas.List.{map-append}
use Rattle.std.proofs.lemmas.List.Elements.{Contains-append_left, Contains-append_right, Contains-append_cases}
use Rattle.pk_plan.specs.declared.places.Role.TheVariants.{Exit}
use Rattle.pk_plan.specs.declared.places.Place.{Place}
use Rattle.pk_plan.specs.Order.{Level, Empty, Vertex_then, Component_then, places_of}
use Rattle.pk_plan.specs.Linear.{elements_of, Item, vertex_item, component_item, items_of}
use Rattle.pk_linear.specs.Steps.{elements_at}
use Rattle.pk_linear.proofs.ListLemmas.{contains_none, contains_here, contains_there, contains_cases}

-- the places of a level have its elements
pub elements_at-places_of : (level : Level) → elements_at (places_of level) ≡ elements_of level
elements_at-places_of Empty = refl
elements_at-places_of (Vertex_then v more) = ap (λ (xs : List ℕ). v ∷ xs) (elements_at-places_of more)
elements_at-places_of (Component_then head exit rest more) =
    let place : Place = record { element = exit; role = Exit (length (places_of rest) + 1) } in
    let both : elements_at (places_of rest ++ place ∷ places_of more) ≡ elements_at (places_of rest) ++ exit ∷ elements_at (places_of more) =
    map-append (λ (q : Place). q.element) (places_of rest) (place ∷ places_of more) in
    let first = elements_at-places_of rest in
    let second = elements_at-places_of more in
    ap (λ (xs : List ℕ). head ∷ xs) (both ∙ ap (λ (xs : List ℕ). xs ++ exit ∷ elements_at (places_of more)) first ∙ ap (λ (xs : List ℕ). elements_of rest ++ exit ∷ xs) second)

-- where an element of a component stands in its level
pub in_rest : (head exit : ℕ) (rest more : Level) (e : ℕ) → Contains (elements_of rest) e → Contains (elements_of (Component_then head exit rest more)) e
in_rest head exit rest more e has = contains_there head (elements_of rest ++ exit ∷ elements_of more) (Contains-append_left (elements_of rest) (exit ∷ elements_of more) e has)

pub in_exit : (head exit : ℕ) (rest more : Level) → Contains (elements_of (Component_then head exit rest more)) exit
in_exit head exit rest more =
    contains_there head (elements_of rest ++ exit ∷ elements_of more) (Contains-append_right (elements_of rest) (exit ∷ elements_of more) exit (contains_here exit (elements_of more)))

pub in_more : (head exit : ℕ) (rest more : Level) (e : ℕ) → Contains (elements_of more) e → Contains (elements_of (Component_then head exit rest more)) e
in_more head exit rest more e has =
    contains_there head (elements_of rest ++ exit ∷ elements_of more) (Contains-append_right (elements_of rest) (exit ∷ elements_of more) e (contains_there exit (elements_of more) has))

-- the head, an element of the rest, the exit, or an element of what follows
pub component_cases : (head exit : ℕ) (rest more : Level) (e : ℕ) → Contains (elements_of (Component_then head exit rest more)) e
    → (head ≡ e) ⊎ Contains (elements_of rest) e ⊎ (exit ≡ e) ⊎ Contains (elements_of more) e
component_cases head exit rest more e has = elim (contains_cases head e (elements_of rest ++ exit ∷ elements_of more) has) [
  | inl same ↦ inl same
  | inr others ↦ elim (Contains-append_cases (elements_of rest) (exit ∷ elements_of more) e others) [
    | inl inner ↦ inr (inl inner)
    | inr later ↦ elim (contains_cases exit e (elements_of more) later) [
      | inl same ↦ inr (inr (inl same))
      | inr last ↦ inr (inr (inr last))
    ]
  ]
]

pub item_cases : (head exit : ℕ) (rest : Level) (e : ℕ) → Contains (component_item head exit rest).elements e → (head ≡ e) ⊎ Contains (elements_of rest) e ⊎ (exit ≡ e)
item_cases head exit rest e has = elim (contains_cases head e (elements_of rest ++ exit ∷ []) has) [
  | inl same ↦ inl same
  | inr others ↦ elim (Contains-append_cases (elements_of rest) (exit ∷ []) e others) [
    | inl inner ↦ inr (inl inner)
    | inr later ↦ elim (contains_cases exit e [] later) [
      | inl same ↦ inr (inr same)
      | inr none ↦ absurd (contains_none none)
    ]
  ]
]

pub item_rest : (head exit : ℕ) (rest : Level) (e : ℕ) → Contains (elements_of rest) e → Contains (component_item head exit rest).elements e
item_rest head exit rest e has = contains_there head (elements_of rest ++ exit ∷ []) (Contains-append_left (elements_of rest) (exit ∷ []) e has)

pub item_exit : (head exit : ℕ) (rest : Level) → Contains (component_item head exit rest).elements exit
item_exit head exit rest = contains_there head (elements_of rest ++ exit ∷ []) (Contains-append_right (elements_of rest) (exit ∷ []) exit (contains_here exit []))

-- an item's elements are the level's, and so is its number
pub item_elements : (level : Level) (i : Item) (e : ℕ) → Contains (items_of level) i → Contains i.elements e → Contains (elements_of level) e
item_elements Empty i e has inner = absurd (contains_none has)
item_elements (Vertex_then v more) i e has inner = elim (contains_cases (vertex_item v) i (items_of more) has) [
  | inl here ↦ elim (contains_cases v e [] (subst (λ (x : Item). Contains x.elements e) (sym here) inner)) [
    | inl same ↦ subst (λ (x : ℕ). Contains (v ∷ elements_of more) x) same (contains_here v (elements_of more))
    | inr none ↦ absurd (contains_none none)
  ]
  | inr there ↦ contains_there v (elements_of more) (item_elements more i e there inner)
]
item_elements (Component_then head exit rest more) i e has inner = elim (contains_cases (component_item head exit rest) i (items_of more) has) [
  | inl here ↦ elim (item_cases head exit rest e (subst (λ (x : Item). Contains x.elements e) (sym here) inner)) [
    | inl same ↦ subst (Contains (elements_of (Component_then head exit rest more))) same (contains_here head (elements_of rest ++ exit ∷ elements_of more))
    | inr others ↦ elim others [
      | inl inside ↦ in_rest head exit rest more e inside
      | inr same ↦ subst (Contains (elements_of (Component_then head exit rest more))) same (in_exit head exit rest more)
    ]
  ]
  | inr there ↦ in_more head exit rest more e (item_elements more i e there inner)
]

pub item_number : (level : Level) (i : Item) → Contains (items_of level) i → Contains (elements_of level) i.number
item_number Empty i has = absurd (contains_none has)
item_number (Vertex_then v more) i has = elim (contains_cases (vertex_item v) i (items_of more) has) [
  | inl here ↦ subst (λ (x : Item). Contains (v ∷ elements_of more) x.number) here (contains_here v (elements_of more))
  | inr there ↦ contains_there v (elements_of more) (item_number more i there)
]
item_number (Component_then head exit rest more) i has = elim (contains_cases (component_item head exit rest) i (items_of more) has) [
  | inl here ↦ subst (λ (x : Item). Contains (elements_of (Component_then head exit rest more)) x.number) here (contains_here head (elements_of rest ++ exit ∷ elements_of more))
  | inr there ↦ in_more head exit rest more i.number (item_number more i there)
]
