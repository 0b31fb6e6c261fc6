-- The text of an order.
use Rattle.std.specs.Prelude.{ℕ, ◌-◌, ◌==◌, List, [], ◌∷◌, ◌++◌, codes, if◌then◌else◌}
use Rattle.std.specs.List.{join_with_byte}
use Rattle.std.specs.Fmt.{decimal}
use Rattle.pk_plan.specs.declared.places.Role.TheVariants.{Vertex, Head, Exit}
use Rattle.pk_plan.specs.declared.places.Role.{Role}
use Rattle.pk_plan.specs.declared.places.Place.{Place}
use Rattle.pk_plan.specs.Order.{Level, Empty, Vertex_then, Component_then}
use Rattle.pk_plan.specs.OrderView.{OrderView}

-- items parted by one space
abbrev pub spaced : List (List ℕ) → List ℕ
spaced items = join_with_byte 32 items

-- a point in decimal, END not written; a component in brackets: its head and its rest, its exit not written
abbrev pub item_texts : ℕ → Level → List (List ℕ)
item_texts end Empty = []
item_texts end (Vertex_then v more) = if v == end then item_texts end more else decimal v ∷ item_texts end more
item_texts end (Component_then head exit rest more) =
    (codes "(" ++ spaced (decimal head ∷ item_texts end rest) ++ codes ")") ∷ item_texts end more

-- the last element is END
abbrev pub order_text : OrderView → List ℕ
order_text o = spaced (item_texts (o.elements - 1) o.order)

-- a text that goes on
abbrev pub with_space : List ℕ → List ℕ
with_space [] = []
with_space (b ∷ text) = (b ∷ text) ++ codes " "

-- a text with one more place of an order
abbrev pub with_role : ℕ → List ℕ → ℕ → Role → List ℕ
with_role end text e Vertex = if e == end then text else (with_space text ++ decimal e)
with_role end text e Head = with_space text ++ codes "(" ++ decimal e
with_role end text e (Exit back) = text ++ codes ")"

abbrev pub with_place : ℕ → List ℕ → Place → List ℕ
with_place end text place = with_role end text place.element place.role
