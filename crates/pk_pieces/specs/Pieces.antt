-- The pieces of a report.
use Rattle.std.specs.Prelude.{◌≡◌, ℕ, ◌<◌, List, [], ◌∷◌, map, replicate, length, set, slice_index_or, All, Option, None, Some}
use Rattle.std.specs.List.{filter_map, flat_map, range_with_len}
use Rattle.pk_graph.specs.declared.verdicts.Verdict.{Verdict}

-- what is told of a point: its lines, of which there are none where it isn't told, and the verdict on each of its accesses
pub record PieceOf : Type 0 where
  pub point : ℕ
  pub lines : List ℕ
  pub verdicts : List Verdict

abbrev pub nothing_of : ℕ → PieceOf
nothing_of v = record { point = v; lines = []; verdicts = [] }

abbrev pub lines_in : List PieceOf → List ℕ
lines_in = flat_map (λ (p : PieceOf). p.lines)

abbrev pub verdicts_in : List PieceOf → List Verdict
verdicts_in = flat_map (λ (p : PieceOf). p.verdicts)

-- ---- pieces in any order

-- a place for each point, with the piece that was put there
abbrev pub put : List (Option PieceOf) → PieceOf → List (Option PieceOf)
put places p = set places p.point (Some p)

abbrev pub put_each : List (Option PieceOf) → List PieceOf → List (Option PieceOf)
put_each places [] = places
put_each places (p ∷ ps) = put (put_each places ps) p

-- those that were put, in order of their points
abbrev pub found_in : List (Option PieceOf) → List PieceOf
found_in = filter_map (λ p. p)

-- each of n points has its piece among these, which may come in any order
pub record AreOf (piece : ℕ → PieceOf) (n : ℕ) (ps : List PieceOf) : Type 0 where
  pub each : All (λ (p : PieceOf). (p.point < n) × (p ≡ piece p.point)) ps
  pub all : (v : ℕ) → v < n → (k : ℕ) × (k < length ps) × ((slice_index_or ps k (nothing_of v)).point ≡ v)

abbrev pub AnyOrderIsPut : Type 0
AnyOrderIsPut = (piece : ℕ → PieceOf) (n : ℕ) (ps : List PieceOf) → AreOf piece n ps →
    found_in (put_each (replicate n None) ps) ≡ map piece (range_with_len 0 n)
