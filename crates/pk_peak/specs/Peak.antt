-- The most points that are kept at once where the items of an order are gone through one after another, and an item is let go of
-- as soon as no later one reads it.
use Rattle.std.specs.Prelude.{ℕ, ◌+◌, ◌==◌, ◌&&◌, ◌||◌, List, [], ◌∷◌, Bool, length, map, fold, max, count_by, nat_lt, nat_le, if◌then◌else◌}
use Rattle.std.specs.List.{range_with_len, list_any}
use Rattle.pk_plan.specs.Order.{Level}
use Rattle.pk_plan.specs.Plans.{PlanView, predecessors_of, end_of}
use Rattle.pk_plan.specs.Linear.{Item, items_of}
use Rattle.pk_plan.specs.Shape.{has}

-- Items are vertices and outermost components, and are counted from 0. In which of them an element stands.
abbrev pub item_of : List Item → ℕ → ℕ
item_of [] e = 0
item_of (item ∷ items) e = if has e item.elements then 0 else (item_of items e + 1)

-- whether an element of the item i constrains b, by the item of each element
abbrev pub leads_from : PlanView → (ℕ → ℕ) → (i b : ℕ) → Bool
leads_from p item i b = list_any (λ a. item a == i) (predecessors_of p b)

-- whether an element of the item i constrains one of the item j or of a later one, END apart
abbrev pub is_read_from : PlanView → (ℕ → ℕ) → (i j : ℕ) → Bool
is_read_from p item i j = list_any (λ b. nat_le j (item b) && leads_from p item i b) (range_with_len 0 (end_of p))

-- While the item j is run, what stands in it is kept, and what stands in an earlier item that it or a later one reads.
abbrev pub is_kept : PlanView → (ℕ → ℕ) → (j e : ℕ) → Bool
is_kept p item j e = (item e == j) || (nat_lt (item e) j && is_read_from p item (item e) j)

-- how many points are kept
abbrev pub kept_at : PlanView → (ℕ → ℕ) → ℕ → ℕ
kept_at p item j = count_by (is_kept p item j) (range_with_len 0 p.points)

-- the most that are kept while an item is run; END's own item has no point and reads nothing
abbrev pub peak_of : PlanView → Level → ℕ
peak_of p order =
    fold max 0 (map (kept_at p (item_of (items_of order))) (range_with_len 0 (length (items_of order))))
