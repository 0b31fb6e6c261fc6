-- Each row of the report on a graph is one that is read.
use Rattle.std.proofs.Common.{subst, ◌≡◌, ◌<◌, ◌+◌, ◌^◌, ◌*◌, ℕ, refl, sym, ap, ◌∙◌, List, [], ◌∷◌, ◌++◌, length, map, reverse, Bool, true, false, cond, Option, Some, None, arith}
use Rattle.std.specs.Prelude.{ℤ, pos, ◌+ℤ◌, ◌-ℤ◌, All, int_lt, is_some, not, unwrap_or, slice_index_or, count_by, ◌||◌}
use Rattle.std.specs.List.{filter, flat_map, range_with_len, zip}
use Rattle.std.proofs.lemmas.List.{reverse-append}
use Rattle.std.proofs.lemmas.List.Elements.{All-append, All-filter, All-cons, All-nil, All-map, All-head, All-tail}
use Rattle.std.proofs.lemmas.List.FromFn.{get_or-range_with_len, length-range_with_len}
use Rattle.std.proofs.lemmas.List.Sums.{count_by-le-length}
use Rattle.pk_graph.specs.declared.verdicts.Verdict.{Verdict}
use Rattle.pk_graph.specs.Accesses.{AccessOf}
use Rattle.pk_graph.specs.declared.graphs.Entry.{Entry}
use Rattle.pk_graph.specs.Graphs.{VariableOf, GraphOf, point_at, variable_at}
use Rattle.pk_graph.specs.Visible.{Names, with_name, is_new, is_shown, name_at, not_hidden, no_name, is_of_file, visible_at}
use Rattle.pk_value.specs.Known.{Known}
use Rattle.pk_octagons.specs.Packs.{is_chosen}
use Rattle.pk_octagons.specs.Values.{known_at}
use Rattle.pk_state.specs.Layouts.{Layout, is_spread, slot_of}
use Rattle.pk_state.specs.Facts.{Facts, Stated}
use Rattle.pk_state.specs.Changes.{bound_in}
use Rattle.pk_report.specs.Paths.{path_text}
use Rattle.pk_report.specs.Values.{name_of, numbers_of, related, bounds_of}
use Rattle.pk_report.specs.Reports.{is_head, state_at, is_safe, is_unknown, is_unreachable}
use Rattle.pk_show.specs.Pieces.{lacks, is_identifier}
use Rattle.pk_show.specs.declared.report.Row.{Row}
use Rattle.pk_show.specs.declared.report.Row.TheVariants as row
use Rattle.pk_show.specs.declared.rows.Form.{Form}
use Rattle.pk_show.specs.declared.rows.Form.TheVariants.{Difference, Sum, NegatedSum}
use Rattle.pk_show.specs.Rows.{BoundOf}
use Rattle.pk_show.specs.Laws.{IsNumber, IsSubject, IsValue, IsBound, TellsPath, IsRow, LinesAreRead}
use Rattle.pk_show_laws.specs.ReportRows.{heading_of, subject_of, whole_value, element_value, values_of, values_at, bound_of, bounds_if, bounds_told, pair_bounds, of_pairs, bounds_at, values_rows, bounds_rows, facts_rows, point_rows, told_rows, access_of, opening_of, counts_of, accesses_rows, report_rows}
use Rattle.pk_show_laws.specs.Tellable.{IsName, IsTellableGraph, IsTellableLayout, AreTellableFacts, AreTellable, IsTellableAccess, IsTellable}
use Rattle.pk_show_laws.proofs.PathLemmas.{paths_tell}

one_word : (lines : LinesAreRead) (text : List ℕ) → TellsPath text → lacks 32 text ≡ true
one_word lines text h = ap (lacks 32) h.2 ∙ lines.one_word h.0 h.1

-- ---- names

new_is_named : (m : Option (List ℕ)) (has : Names) → is_new m has ≡ true → is_some m ≡ true
new_is_named None has e = e
new_is_named (Some m) has e = refl

shown_is_named : (m : Option (List ℕ)) (hides : Bool) (has : Names) → is_shown m hides has ≡ true → is_some m ≡ true
shown_is_named m true has e = absurd (cc e)
shown_is_named m false has e = new_is_named m has e

named_only : (vs : List VariableOf) (has : Names) (es : List Entry) → All (λ x. is_some (name_at vs x) ≡ true) (not_hidden vs has es)
unfolding not_hidden
named_only vs has [] = All-nil (λ x. is_some (name_at vs x) ≡ true)
named_only vs has (e ∷ es) = by_test (is_shown (name_at vs e.variable) e.hides has) refl (named_only vs (with_name (name_at vs e.variable) has) es)
  where
    by_test : (t : Bool) → t ≡ is_shown (name_at vs e.variable) e.hides has →
        All (λ x. is_some (name_at vs x) ≡ true) (not_hidden vs (with_name (name_at vs e.variable) has) es) →
        All (λ x. is_some (name_at vs x) ≡ true) (cond t (e.variable ∷ not_hidden vs (with_name (name_at vs e.variable) has) es) (not_hidden vs (with_name (name_at vs e.variable) has) es))
    by_test true is rest =
        All-cons (λ x. is_some (name_at vs x) ≡ true) e.variable (not_hidden vs (with_name (name_at vs e.variable) has) es)
        (shown_is_named (name_at vs e.variable) e.hides has (sym is)) rest
    by_test false is rest = rest

All-reversed : {A : Type 0} (P : A → Type 0) (xs : List A) → All P xs → All P (reverse xs)
All-reversed P [] all = all
All-reversed {A} P (x ∷ xs) all =
    subst (λ (l : List A). All P l) (sym (reverse-append (x ∷ []) xs))
    (All-append P (reverse xs) (x ∷ []) (All-reversed P xs (All-tail P x xs all)) (All-cons P x [] (All-head P x xs all) (All-nil P)))

name_is : (o : Option (List ℕ)) → IsName o → is_some o ≡ true → is_identifier (unwrap_or o []) ≡ true
name_is None h e = absurd (cc e)
name_is (Some name) h e = h

All-mapped : {A : Type 0} (P Q : A → Type 0) (xs : List A) → ((a : A) → P a → Q a) → All P xs → All Q xs
All-mapped P Q xs each all = λ k d l. each _ (all k d l)

abbrev HasName : GraphOf → ℕ → Type 0
HasName g x = is_identifier (name_of g x) ≡ true

visible_named : (g : GraphOf) (v : ℕ) → IsTellableGraph g → All (HasName g) (visible_at g v)
visible_named g v h =
    let P : ℕ → Type 0 = λ x. is_some (name_at g.variables x) ≡ true in
    let xs : List ℕ = reverse (not_hidden g.variables no_name (point_at g v).scope) in
    let all : All P xs = All-reversed P _ (named_only g.variables no_name (point_at g v).scope) in
    All-mapped P (HasName g) (visible_at g v) (λ x some. name_is (variable_at g x).name (h.names x) some)
    (All-append P (filter (is_of_file g.variables) xs) (filter (λ x. not (is_of_file g.variables x)) xs)
    (All-filter (is_of_file g.variables) P xs all) (All-filter (λ x. not (is_of_file g.variables x)) P xs all))

-- ---- two variables

bounds_all : (form : Form) (x y : List ℕ) (limit : ℤ) (b : Option ℤ) → is_identifier x ≡ true → is_identifier y ≡ true →
    ((c : ℤ) → b ≡ Some c → IsNumber c) → All IsBound (bounds_if form x y limit b)
bounds_all form x y limit None hx hy each = All-nil IsBound
bounds_all form x y limit (Some c) hx hy each = by_test (int_lt c limit)
  where
    by_test : (t : Bool) → All IsBound (cond t (bound_of form x y c ∷ []) [])
    by_test true = All-cons IsBound (bound_of form x y c) [] (record { left = hx; right = hy; most = each c refl }) (All-nil IsBound)
    by_test false = All-nil IsBound

told_bounds_all : (x y : List ℕ) (kx ky : Known) (minus turned plus negated : Option ℤ) → is_identifier x ≡ true → is_identifier y ≡ true →
    ((c : ℤ) → minus ≡ Some c → IsNumber c) → ((c : ℤ) → turned ≡ Some c → IsNumber c) → ((c : ℤ) → plus ≡ Some c → IsNumber c) →
    ((c : ℤ) → negated ≡ Some c → IsNumber c) → All IsBound (bounds_told x y kx ky minus turned plus negated)
told_bounds_all x y kx ky minus turned plus negated hx hy h1 h2 h3 h4 =
    let a = bounds_if Difference x y (kx.range.hi -ℤ ky.range.lo) minus in
    let b = bounds_if Difference y x (ky.range.hi -ℤ kx.range.lo) turned in
    let c = bounds_if Sum x y (kx.range.hi +ℤ ky.range.hi) plus in
    let d = bounds_if NegatedSum x y ((pos 0 -ℤ kx.range.lo) -ℤ ky.range.lo) negated in
    All-append IsBound (a ++ b ++ c) d
    (All-append IsBound (a ++ b) c
    (All-append IsBound a b
    (bounds_all Difference x y (kx.range.hi -ℤ ky.range.lo) minus hx hy h1)
    (bounds_all Difference y x (ky.range.hi -ℤ kx.range.lo) turned hy hx h2))
    (bounds_all Sum x y (kx.range.hi +ℤ ky.range.hi) plus hx hy h3))
    (bounds_all NegatedSum x y ((pos 0 -ℤ kx.range.lo) -ℤ ky.range.lo) negated hx hy h4)

pair_all : (g : GraphOf) (l : Layout) (f : Facts) → AreTellableFacts l f → (x y : ℕ) → HasName g x → HasName g y → All IsBound (pair_bounds g l f x y)
pair_all g l f h x y hx hy =
    told_bounds_all (name_of g x) (name_of g y) (known_at f.values x) (known_at f.values y)
    (bounds_of (bound_in l (Some f)) x y).minus (bounds_of (bound_in l (Some f)) x y).turned
    (bounds_of (bound_in l (Some f)) x y).plus (bounds_of (bound_in l (Some f)) x y).negated hx hy
    (h.bounds (2 * y) (2 * x)) (h.bounds (2 * x) (2 * y)) (h.bounds (2 * y + 1) (2 * x)) (h.bounds (2 * y) (2 * x + 1))

flat_all : {A B : Type 0} (P : A → Type 0) (Q : B → Type 0) (items : A → List B) → ((q : A) → P q → All Q (items q)) → (ps : List A) → All P ps →
    All Q (flat_map items ps)
flat_all P Q items each [] all = All-nil Q
flat_all P Q items each (q ∷ ps) all =
    All-append Q (items q) (flat_map items ps) (each q (All-head P q ps all)) (flat_all P Q items each ps (All-tail P q ps all))

pairs_all : {A : Type 0} (P : A → Type 0) (bounds : A → A → List BoundOf) → ((p q : A) → P p → P q → All IsBound (bounds p q)) → (ps : List A) →
    All P ps → All IsBound (of_pairs ps bounds)
pairs_all P bounds each [] all = All-nil IsBound
pairs_all P bounds each (p ∷ ps) all =
    All-append IsBound (flat_map (bounds p) ps) (of_pairs ps bounds)
    (flat_all P IsBound (bounds p) (λ q. each p q (All-head P p ps all)) ps (All-tail P p ps all))
    (pairs_all P bounds each ps (All-tail P p ps all))

bounds_are : (g : GraphOf) (l : Layout) (f : Facts) (xs : List ℕ) → AreTellableFacts l f → All (HasName g) xs → All IsBound (bounds_at g l f xs)
bounds_are g l f xs h all = pairs_all (HasName g) (pair_bounds g l f) (pair_all g l f h) (related l xs) (All-filter (is_chosen l.packs) (HasName g) xs all)

-- ---- a point

below : (n : ℕ) → All (λ v. v < n) (range_with_len 0 n)
below n k d l =
    let less : k < n = omega (arith, l, length-range_with_len 0 n) in
    let same = get_or-range_with_len 0 n k d less in
    subst (λ (v : ℕ). v < n) (sym same) (omega (arith, less))

whole_subject : (length : Option ℕ) → IsSubject (subject_of length)
whole_subject None = tt
whole_subject (Some n) = tt

values_are : (g : GraphOf) (l : Layout) (f : Facts) → IsTellableLayout g l → AreTellableFacts l f → (x : ℕ) → HasName g x → All IsValue (values_of g l f x)
values_are g l f told h x named = by_slots (is_spread l x) refl
  where
    by_slots : (t : Bool) → is_spread l x ≡ t → All IsValue (cond t (map (element_value g l f x) (range_with_len 0 (numbers_of g x))) (whole_value g f x ∷ []))
    by_slots true e =
        All-map IsValue (element_value g l f x) (range_with_len 0 (numbers_of g x)) (λ k d there.
        let few = told.few x e in
        let less = below (numbers_of g x) k d there in
        record { name = named; subject = omega (arith, few, less); known = h.values (slot_of l x (slice_index_or (range_with_len 0 (numbers_of g x)) k d)) })
    by_slots false e =
        All-cons IsValue (whole_value g f x) [] (record { name = named; subject = whole_subject (variable_at g x).kind.length; known = h.values x }) (All-nil IsValue)

values_all : (g : GraphOf) (l : Layout) (f : Facts) → IsTellableLayout g l → AreTellableFacts l f → (xs : List ℕ) → All (HasName g) xs → All IsRow (values_rows g l f xs)
values_all g l f told h xs all =
    All-map IsRow row.Value (values_at g l f xs) (flat_all (HasName g) IsValue (values_of g l f) (values_are g l f told h) xs all)

facts_all : (g : GraphOf) (l : Layout) (f : Option Facts) → IsTellableLayout g l → AreTellable l f → (xs : List ℕ) → All (HasName g) xs → All IsRow (facts_rows g l f xs)
facts_all g l None told h xs all = All-cons IsRow row.NoRun [] tt (All-nil IsRow)
facts_all g l (Some f) told h xs all =
    All-append IsRow (values_rows g l f xs) (bounds_rows g l f xs) (values_all g l f told h xs all)
    (All-map IsRow row.Bound (bounds_at g l f xs) (bounds_are g l f xs h all))

point_all : (lines : LinesAreRead) (g : GraphOf) (s : Stated) (is_head : Bool) (v : ℕ) → IsTellableGraph g → IsTellableLayout g s.layout → AreTellable s.layout s.facts →
    v < length g.points → All IsRow (point_rows g s is_head v)
point_all lines g s is_head v h told facts l =
    let path = (paths_tell g h (point_at g v).path (h.point_paths v l)).path in
    All-cons IsRow (row.Heading (heading_of g is_head v)) (facts_rows g s.layout s.facts (visible_at g v)) (
      record {
        point = let few = h.few in omega (arith, few, l);
        path = one_word lines (path_text g.paths (point_at g v).path) path;
        at = h.point_places v l;
      },
      path,
    )
    (facts_all g s.layout s.facts told facts (visible_at g v) (visible_named g v h))

told_all : (lines : LinesAreRead) (all : Bool) (g : GraphOf) (heads : List ℕ) (states : List Stated) (v : ℕ) → IsTellableGraph g →
    ((v : ℕ) → IsTellableLayout g (state_at states v).layout) → ((v : ℕ) → AreTellable (state_at states v).layout (state_at states v).facts) → v < length g.points →
    All IsRow (told_rows all g heads states v)
told_all lines all g heads states v h told facts l = by_test (is_head heads v || all)
  where
    by_test : (t : Bool) → All IsRow (cond t (point_rows g (state_at states v) (is_head heads v) v) [])
    by_test true = point_all lines g (state_at states v) (is_head heads v) v h (told v) (facts v) l
    by_test false = All-nil IsRow

flat_rows_all : {A : Type 0} (rows : A → List Row) (xs : List A) → All (λ a. All IsRow (rows a)) xs → All IsRow (flat_map rows xs)
flat_rows_all rows [] all = All-nil IsRow
flat_rows_all rows (a ∷ xs) all =
    All-append IsRow (rows a) (flat_map rows xs) (All-head (λ a. All IsRow (rows a)) a xs all)
    (flat_rows_all rows xs (All-tail (λ a. All IsRow (rows a)) a xs all))

-- ---- accesses

accesses_all : (lines : LinesAreRead) (g : GraphOf) (pairs : List (AccessOf × Verdict)) → IsTellableGraph g → All (IsTellableAccess g) pairs →
    All IsRow (accesses_rows g.paths pairs)
accesses_all lines g pairs h all =
    All-map IsRow (λ a. row.Access (access_of g.paths a)) pairs
    (λ k d l.
    let a = slice_index_or pairs k d in
    let one = all k d l in
    let path = (paths_tell g h a.0.site.path one.path).path in
    (record { path = one_word lines (path_text g.paths a.0.site.path) path; at = one.at; verdict = one.verdict }, path))

-- ---- the whole

counts_small : (p : Verdict → Bool) (vs : List Verdict) → length vs < 2 ^ 64 → count_by p vs < 2 ^ 64
counts_small p vs h = let most = count_by-le-length p vs in omega (arith, most, h)

pub rows_all : (lines : LinesAreRead) (all : Bool) (g : GraphOf) (heads : List ℕ) (elements : ℕ) (states : List Stated) (accesses : List AccessOf)
    (verdicts : List Verdict) → IsTellable g elements states accesses verdicts → All IsRow (report_rows all g heads elements states accesses verdicts)
rows_all lines all g heads elements states accesses verdicts h =
    let points = flat_map (told_rows all g heads states) (range_with_len 0 (length g.points)) in
    let rows = accesses_rows g.paths (zip accesses verdicts) in
    let last : List Row = row.Counts (counts_of verdicts) ∷ [] in
    All-cons IsRow (row.Opening (opening_of g elements)) (points ++ (rows ++ last))
    (record {
      entry = (paths_tell g h.graph 0 h.graph.some_path).first refl;
      points = h.graph.few;
      elements = h.elements_few;
    })
    (All-append IsRow points (rows ++ last)
    (flat_rows_all (told_rows all g heads states) (range_with_len 0 (length g.points))
    (λ k d l. told_all lines all g heads states (slice_index_or (range_with_len 0 (length g.points)) k d) h.graph h.layouts h.facts (below (length g.points) k d l)))
    (All-append IsRow rows last (accesses_all lines g (zip accesses verdicts) h.graph h.each)
    (All-cons IsRow (row.Counts (counts_of verdicts)) []
    (record {
      safe = counts_small is_safe verdicts h.verdicts_few;
      unknown = counts_small is_unknown verdicts h.verdicts_few;
      unreachable = counts_small is_unreachable verdicts h.verdicts_few;
    })
    (All-nil IsRow))))
