-- Lists of octagons, one for each pack: joined, widened, narrowed and compared each with its own.
use Rattle.std.specs.Prelude.{◌≡◌, ℕ, ◌<◌, List, [], All, map, length, slice_index_or}
use Rattle.pk_blocks.specs.Rows.{merged_from}
use Rattle.pk_octmat.specs.Octagon.{Octagon, IsOctagon, octagon_of, top_bound}
use Rattle.pk_octops.specs.Tables.{join_of, widening_of, narrowing_of, IsBelow}

-- over no variables
abbrev pub no_octagon : Octagon
no_octagon = record { vars = 0; cells = [] }

abbrev pub octagon_at : List Octagon → ℕ → Octagon
octagon_at ms p = slice_index_or ms p no_octagon

-- how many variables each is over
abbrev pub widths : List Octagon → List ℕ
widths ms = map (λ (m : Octagon). m.vars) ms

-- an octagon for each pack, over its variables
pub record AreOctagons (packs : List (List ℕ)) (ms : List Octagon) : Type 0 where
  pub widths : widths ms ≡ map length packs
  pub each : All IsOctagon ms

-- no bounds
abbrev pub top_octagons : List (List ℕ) → List Octagon
top_octagons packs = map (λ (chosen : List ℕ). octagon_of (length chosen) top_bound) packs

abbrev pub joined_octagons : List Octagon → List Octagon → List Octagon
joined_octagons = merged_from (λ p. join_of) 0

abbrev pub widened_octagons : List Octagon → List Octagon → List Octagon
widened_octagons = merged_from (λ p. widening_of) 0

abbrev pub narrowed_octagons : List Octagon → List Octagon → List Octagon
narrowed_octagons = merged_from (λ p. narrowing_of) 0

-- each is below its own
abbrev pub AreBelow : List Octagon → List Octagon → Type 0
AreBelow ms ns = (p : ℕ) → p < length ms → IsBelow (octagon_at ms p) (octagon_at ns p)
