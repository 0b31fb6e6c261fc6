-- Lines that may follow each other begin a report, and what may not follow them begins none.
use Rattle.std.proofs.Common.{◌≡◌, ℕ, suc, ◌<◌, List, [], ◌∷◌, ◌++◌, length, take, refl, sym, ap, ◌∙◌, true, Option, Some, None, arith}
use Rattle.std.specs.Prelude.{codes}
use Rattle.std.specs.Option.{option_map, option_and_then}
use Rattle.pk_show.specs.declared.report.Row.{Row}
use Rattle.pk_show.specs.declared.report.Row.TheVariants as row
use Rattle.pk_show.specs.declared.rows.Counts.{Counts}
use Rattle.pk_show.specs.Pieces.{strip, is_identifier}
use Rattle.pk_show.specs.Rows.{OpeningOf, opening_text, counts_text}
use Rattle.pk_show.specs.Reading.{opening_in, heading_in, value_in, bound_in, access_in, counts_in}
use Rattle.pk_show.specs.Reports.{kind_of, may_stand, point_row_in, row_in, has_path, fits, next_in, rows_in, one_more, lines_read}
use Rattle.pk_show.specs.Laws.{LinesAreRead}

no_counts : Counts
no_counts = record { safe = 0; unknown = 0; unreachable = 0 }

no_points : OpeningOf
no_points = record { entry = codes "main"; points = 0; elements = 0 }

counts_row : (c : Counts) → counts_in (counts_text c) ≡ Some c → row_in (counts_text c) ≡ Some (row.Counts c)
unfolding row_in point_row_in opening_in heading_in value_in bound_in access_in strip
counts_row c read = rw read refl

opening_row : (o : OpeningOf) → opening_in (opening_text o) ≡ Some o → row_in (opening_text o) ≡ Some (row.Opening o)
unfolding row_in
opening_row o read = rw read refl

is_main : is_identifier (codes "main") ≡ true
unfolding is_identifier
is_main = refl

-- the kind of the row before, if there is one
abbrev GoOn : List (List ℕ) → Option Row → Type 0
GoOn lines before = (more : List (List ℕ)) × (rows : List Row) × (rows_in (lines ++ more) (option_map kind_of before) ≡ Some rows)

counts_read : LinesAreRead → row_in (counts_text no_counts) ≡ Some (row.Counts no_counts)
unfolding no_counts
counts_read lines = counts_row no_counts (lines.counts no_counts (record { safe = omega arith; unknown = omega arith; unreachable = omega arith }))

opening_read : LinesAreRead → row_in (opening_text no_points) ≡ Some (row.Opening no_points)
unfolding no_points
opening_read lines = opening_row no_points (lines.opening no_points (record { entry = is_main; points = omega arith; elements = omega arith }))

-- the counts may follow
counted : LinesAreRead → (before : Option Row) → may_stand (option_map kind_of before) (kind_of (row.Counts no_counts)) ≡ true → GoOn [] before
unfolding next_in fits has_path
counted lines before may = (counts_text no_counts ∷ [], row.Counts no_counts ∷ [], rw (counts_read lines, may) refl)

-- whatever stands before, lines that end a report may follow
ends : LinesAreRead → (before : Option Row) → GoOn [] before
unfolding next_in fits has_path
ends lines None = (
  opening_text no_points ∷ counts_text no_counts ∷ [],
  row.Opening no_points ∷ row.Counts no_counts ∷ [],
  rw (opening_read lines, counts_read lines) refl,
)
ends lines (Some (row.Opening o)) = counted lines (Some (row.Opening o)) refl
ends lines (Some (row.Heading h)) = counted lines (Some (row.Heading h)) refl
ends lines (Some row.NoRun) = counted lines (Some row.NoRun) refl
ends lines (Some (row.Value v)) = counted lines (Some (row.Value v)) refl
ends lines (Some (row.Bound b)) = counted lines (Some (row.Bound b)) refl
ends lines (Some (row.Access a)) = counted lines (Some (row.Access a)) refl
ends lines (Some (row.Counts c)) = ([], [], refl)

abbrev read_from : List (List ℕ) → Option Row → ℕ
read_from lines before = lines_read lines (option_map kind_of before)

abbrev behind : Option Row → List (List ℕ) → Option (List Row)
behind o lines = option_and_then (λ r. option_map (λ rows. r ∷ rows) (rows_in lines (Some (kind_of r)))) o

pub goes_on : (read : LinesAreRead) (lines : List (List ℕ)) (before : Option Row) → GoOn (take (read_from lines before) lines) before
goes_on read [] before = ends read before
goes_on read (line ∷ lines) before = by_row (next_in (option_map kind_of before) line) refl (λ r. goes_on read lines (Some r))
  where
    by_row : (o : Option Row) → o ≡ next_in (option_map kind_of before) line → ((r : Row) → GoOn (take (read_from lines (Some r)) lines) (Some r)) →
        GoOn (take (one_more o (λ r. read_from lines (Some r))) (line ∷ lines)) before
    by_row None e rest = ends read before
    by_row (Some r) e rest = (
      (rest r).0,
      r ∷ (rest r).1,
      ap (λ (o : Option Row). behind o (take (read_from lines (Some r)) lines ++ (rest r).0)) (sym e)
          ∙ ap (option_map (λ rows. r ∷ rows)) (rest r).2,
    )

pub ends_there : (lines : List (List ℕ)) (before : Option Row) → read_from lines before < length lines → (more : List (List ℕ)) →
    rows_in (take (suc (read_from lines before)) lines ++ more) (option_map kind_of before) ≡ None
ends_there [] before h more = absurd (omega (arith, h))
ends_there (line ∷ lines) before h more =
    by_row (next_in (option_map kind_of before) line) refl h (λ r less. ends_there lines (Some r) less more)
  where
    by_row : (o : Option Row) → o ≡ next_in (option_map kind_of before) line → one_more o (λ r. read_from lines (Some r)) < length (line ∷ lines) →
        ((r : Row) → read_from lines (Some r) < length lines →
        rows_in (take (suc (read_from lines (Some r))) lines ++ more) (Some (kind_of r)) ≡ None) →
        rows_in (take (suc (one_more o (λ r. read_from lines (Some r)))) (line ∷ lines) ++ more) (option_map kind_of before) ≡ None
    by_row None e h rest = ap (λ (o : Option Row). behind o more) (sym e)
    by_row (Some r) e h rest =
        ap (λ (o : Option Row). behind o (take (suc (read_from lines (Some r))) lines ++ more)) (sym e)
        ∙ ap (option_map (λ rows. r ∷ rows)) (rest r (omega (arith, h)))
