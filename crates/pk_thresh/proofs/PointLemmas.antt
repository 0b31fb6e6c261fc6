-- Constants, point by point.
use Rattle.std.proofs.Common.{◌≡◌, ◌<◌, ◌≤◌, ◌+◌, ℕ, ℤ, ap, ◌∙◌, sym, List, ◌++◌, length, drop, slice_index_or, append_assoc, append-nil}
use Rattle.std.specs.List.{flat_map}
use Rattle.std.proofs.lemmas.List.{drop_more, drop_all}
use Rattle.pk_graph.specs.Graphs.{PointOf, no_point}
use Rattle.pk_thresh.specs.Thresholds.{constants_at}

-- those listed so far, and those of the points from k on, are all
abbrev pub AreUpTo : List PointOf → ℕ → List ℤ → Type 0
AreUpTo xs k all = all ++ flat_map constants_at (drop k xs) ≡ flat_map constants_at xs

pub up_to_next : (xs : List PointOf) (k : ℕ) (old new : List ℤ) → k < length xs → AreUpTo xs k old
    → new ≡ old ++ constants_at (slice_index_or xs k no_point) → AreUpTo xs (k + 1) new
up_to_next xs k old new h e f =
    ap (λ (ys : List ℤ). ys ++ flat_map constants_at (drop (k + 1) xs)) f
    ∙ append_assoc old (constants_at (slice_index_or xs k no_point)) (flat_map constants_at (drop (k + 1) xs))
    ∙ ap (λ (ys : List PointOf). old ++ flat_map constants_at ys) (sym (drop_more xs k no_point h))
    ∙ e

pub up_to_end : (xs : List PointOf) (k : ℕ) (all : List ℤ) → length xs ≤ k → AreUpTo xs k all → all ≡ flat_map constants_at xs
up_to_end xs k all h e =
    sym (append-nil all) ∙ ap (λ (ys : List PointOf). all ++ flat_map constants_at ys) (sym (drop_all k xs h)) ∙ e
