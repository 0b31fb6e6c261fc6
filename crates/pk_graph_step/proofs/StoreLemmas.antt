-- Copies of rows.
use Rattle.std.proofs.Common.{◌≡◌, ◌<◌, ◌≤◌, ◌+◌, ℕ, ap, ◌∙◌, sym, List, [], ◌∷◌, ◌++◌, length, map, take, slice_index_or}
use Rattle.std.specs.Prelude.{ℤ}
use Rattle.std.specs.declared.vec.Vec.{Vec}
use Rattle.std.specs.declared.alloc.Global.{Global}
use Rattle.std.proofs.lemmas.List.{map_push, map_more, take_all}

abbrev pub items_of : List (Vec ℤ Global) → List (List ℤ)
items_of = map (λ (v : Vec ℤ Global). v.items)

pub copied_next : (rows list new : List (Vec ℤ Global)) (k : ℕ) (row d : Vec ℤ Global) → k < length rows → new ≡ list ++ row ∷ [] → row.items ≡ (slice_index_or rows k d).items → items_of list ≡ items_of (take k rows)
    → items_of new ≡ items_of (take (k + 1) rows)
copied_next rows list new k row d h e f g =
    ap items_of e
    ∙ map_push (λ (v : Vec ℤ Global). v.items) list row
    ∙ ap (λ (xs : List ℤ). items_of list ++ xs ∷ []) f
    ∙ ap (λ (xs : List (List ℤ)). xs ++ (slice_index_or rows k d).items ∷ []) g
    ∙ sym (map_more (λ (v : Vec ℤ Global). v.items) rows k d h)

pub copied_end : (rows list : List (Vec ℤ Global)) (k : ℕ) → length rows ≤ k → items_of list ≡ items_of (take k rows) → items_of list ≡ items_of rows
copied_end rows list k h e = e ∙ ap items_of (take_all k rows h)
