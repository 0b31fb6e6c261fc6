-- Where each place that rows tell stands in the text, it is small.
use Rattle.std.proofs.Common.{◌≡◌, ℕ, List, [], ◌∷◌, Bool, true, false, refl, ◌∙◌}
use Rattle.std.specs.Prelude.{Option, Some, None}
use Rattle.std.specs.List.{list_all}
use Rattle.std.specs.Option.{option_map, option_to_list}
use Rattle.std.proofs.lemmas.Bool.{and_from, and_parts}
use Rattle.std.proofs.lemmas.List.Folds.{list_all-append}
use Rattle.pk_ctypes.specs.declared.places.Pos.{Pos}
use Rattle.pk_show.specs.declared.report.Row.{Row}
use Rattle.pk_show.specs.declared.report.Row.TheVariants as row
use Rattle.pk_show.specs.Paths.{PathOf, path_in}
use Rattle.pk_show.specs.Rows.{AccessOf}
use Rattle.pk_findings.specs.Texts.{TextOf, IsText, is_small, is_among, is_within}
use Rattle.pk_findings.specs.Operations.{CaseOf, case_with, case_in, cases_in}
use Rattle.pk_findings.specs.Shown.{are_calls_within, is_place_within, is_row_within, IsOfOther}

abbrev are_small : List CaseOf → Bool
are_small = list_all (λ c. is_small c.at)

small_within : (t : TextOf) (at : Pos) → is_within t at ≡ true → is_small at ≡ true
unfolding is_within
small_within t at h = (and_parts (is_small at) (is_among t.lines at) h).0

access_small : (t : TextOf) (a : AccessOf) (path : Option PathOf) → is_place_within t a.at path ≡ true →
    are_small (option_to_list (option_map (case_with a) path)) ≡ true
access_small t a None h = refl
access_small t a (Some p) h =
    and_from (is_small a.at) true (small_within t a.at (and_parts (is_within t a.at) (are_calls_within t p.calls) h).0) refl

row_small : (t : TextOf) (r : Row) → is_row_within t r ≡ true → are_small (option_to_list (case_in r)) ≡ true
unfolding is_row_within case_in
row_small t (row.Opening o) h = refl
row_small t (row.Heading o) h = refl
row_small t row.NoRun h = refl
row_small t (row.Value v) h = refl
row_small t (row.Bound b) h = refl
row_small t (row.Access a) h = access_small t a (path_in a.path) h
row_small t (row.Counts c) h = refl

pub cases_small : (t : TextOf) (rows : List Row) → list_all (is_row_within t) rows ≡ true →
    list_all (λ c. is_small c.at) (cases_in rows) ≡ true
cases_small t [] h = refl
cases_small t (r ∷ rows) h =
    let both = and_parts (is_row_within t r) (list_all (is_row_within t) rows) h in
    list_all-append (λ (c : CaseOf). is_small c.at) (option_to_list (case_in r)) (cases_in rows)
    ∙ and_from (are_small (option_to_list (case_in r))) (are_small (cases_in rows)) (row_small t r both.0) (cases_small t rows both.1)

pub other_text : (name bytes : List ℕ) (r : Option (List Row)) (rows : List Row) (t : TextOf) → r ≡ Some rows → IsText name bytes t →
    list_all (is_row_within t) rows ≡ false → IsOfOther bytes r
other_text name bytes r rows t e h outside =
    rw e (t, record { called = refl; lines = h.lines; origins = h.origins }, outside)
