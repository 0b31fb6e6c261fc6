-- What is known at a point, of the cells.
use Rattle.std.specs.Prelude.{◌≡◌, ℕ, zero, suc, ◌<◌, ◌≤◌, List, [], ◌∷◌, length, map, take, None, Some, slice_get}
use Rattle.std.specs.Option.{option_map}
use Rattle.std.proofs.Common.{arith, refl, subst, sym, ap, ◌∙◌}
use Rattle.std.proofs.lemmas.List.{length-map, length-take-le}
use Rattle.std.proofs.lemmas.List.Elements.{All-get_or}
use Rattle.std.proofs.lemmas.Option.{get_or_from_slice_get, slice_get-map, slice_get_within}
use Rattle.pk_state.specs.Layouts.{Layout}
use Rattle.pk_state.specs.Facts.{Stated}
use Rattle.pk_phases.specs.declared.equations.Cell.{Cell}
use Rattle.pk_phases.specs.Equations.{value_of}
use Rattle.pk_analysis.specs.Flows.{stated, reduced_over, ArePointCells}

taken : (cells : List (Cell Stated)) (n k : ℕ) → k < n → slice_get (take n cells) k ≡ slice_get cells k
taken cells zero k l = absurd (omega arith)
taken [] (suc n) k l = refl
taken (c ∷ cells) (suc n) zero l = refl
taken (c ∷ cells) (suc n) (suc k) l = taken cells n k (omega arith)

module _ (l : Layout) (n : ℕ) (cells : List (Cell Stated)) where
  -- a state for each point
  shown_many : n ≤ length cells → length (map (reduced_over l) (take n cells)) ≡ n
  shown_many enough = length-map (take n cells) (reduced_over l) ∙ length-take-le n cells enough

  shown_at : (k : ℕ) (c : Cell Stated) (s : Stated) → k < n → slice_get cells k ≡ Some c → s ≡ reduced_over l c
      → slice_get (map (reduced_over l) (take n cells)) k ≡ Some s
  shown_at k c s below there is =
      slice_get-map (reduced_over l) (take n cells) k
      ∙ ap (option_map (reduced_over l)) (taken cells n k below ∙ there)
      ∙ ap Some (sym is)

  module _ (shown : List Stated) (view : map (reduced_over l) (take n cells) ≡ shown) where
    pub shown_so_many : n ≤ length cells → length shown ≡ n
    shown_so_many enough = ap (λ (xs : List Stated). length xs) (sym view) ∙ shown_many enough

    pub shown_so : (k : ℕ) (c : Cell Stated) (s : Stated) → k < n → slice_get cells k ≡ Some c → s ≡ reduced_over l c → slice_get shown k ≡ Some s
    shown_so k c s below there is = ap (λ (xs : List Stated). slice_get xs k) (sym view) ∙ shown_at k c s below there is

  pub over_at : (k : ℕ) (c : Cell Stated) → ArePointCells l n cells → slice_get cells k ≡ Some c → (value_of (stated l None) c).layout ≡ l
  over_at k c are there =
      subst (λ (x : Cell Stated). (value_of (stated l None) x).layout ≡ l) (get_or_from_slice_get cells k c c there)
      (All-get_or (λ (x : Cell Stated). (value_of (stated l None) x).layout ≡ l) cells k c (slice_get_within cells k c there) are.over)
