-- Accesses, point by point.
use Rattle.std.proofs.Common.{◌≡◌, ◌<◌, ◌≤◌, ◌+◌, ℕ, ap, ◌∙◌, sym, List, ◌++◌, length, drop, slice_index_or, append_assoc, append-nil}
use Rattle.std.proofs.lemmas.List.{drop_more, drop_all}
use Rattle.pk_graph.specs.Graphs.{PointOf, no_point}
use Rattle.pk_graph.specs.Accesses.{AccessOf, of_edges, of_points}

-- those listed so far, and those of the points from k on, are all
abbrev pub AreUpTo : List PointOf → ℕ → List AccessOf → Type 0
AreUpTo xs k all = all ++ of_points k (drop k xs) ≡ of_points 0 xs

pub up_to_next : (xs : List PointOf) (k : ℕ) (old new : List AccessOf) → k < length xs → AreUpTo xs k old
    → new ≡ old ++ of_edges k (slice_index_or xs k no_point).edges → AreUpTo xs (k + 1) new
up_to_next xs k old new h e f =
    ap (λ (ys : List AccessOf). ys ++ of_points (k + 1) (drop (k + 1) xs)) f
    ∙ append_assoc old (of_edges k (slice_index_or xs k no_point).edges) (of_points (k + 1) (drop (k + 1) xs))
    ∙ ap (λ (ys : List PointOf). old ++ of_points k ys) (sym (drop_more xs k no_point h))
    ∙ e

pub up_to_end : (xs : List PointOf) (k : ℕ) (all : List AccessOf) → length xs ≤ k → AreUpTo xs k all → all ≡ of_points 0 xs
up_to_end xs k all h e =
    sym (append-nil all) ∙ ap (λ (ys : List PointOf). all ++ of_points k ys) (sym (drop_all k xs h)) ∙ e
