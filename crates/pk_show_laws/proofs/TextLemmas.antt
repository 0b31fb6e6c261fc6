-- The text of a report is that of its rows, each on its line.
use Rattle.std.proofs.Common.{◌≡◌, ℕ, List, [], ◌∷◌, ◌++◌, length, map, refl, sym, ap, ◌∙◌, Bool, true, false, cond, Option, Some, None, append_assoc}
use Rattle.std.specs.Prelude.{ℤ, codes, int_lt, count_by, ◌||◌}
use Rattle.std.specs.Fmt.{decimal, signed_decimal}
use Rattle.std.specs.List.{flat_map, range_with_len, zip}
use Rattle.std.proofs.lemmas.Grind.{flat_map-append}
use Rattle.std.proofs.lemmas.List.{append-nil, map-append}
use Rattle.pk_ctypes.specs.Places.{pos_text}
use Rattle.pk_ctypes.specs.Words.{fault_text}
use Rattle.pk_graph.specs.declared.verdicts.Verdict.{Verdict}
use Rattle.pk_graph.specs.declared.verdicts.Verdict.TheVariants.{Safe, Unknown, Unreachable}
use Rattle.pk_graph.specs.Accesses.{AccessOf, fault_of}
use Rattle.pk_graph.specs.Graphs.{PathOf, GraphOf, point_at, variable_at}
use Rattle.pk_graph.specs.Visible.{visible_at}
use Rattle.pk_value.specs.Known.{Known}
use Rattle.pk_octagons.specs.Values.{known_at}
use Rattle.pk_state.specs.Layouts.{Layout, is_spread, slot_of}
use Rattle.pk_state.specs.Facts.{Facts, Stated}
use Rattle.pk_state.specs.Changes.{bound_in}
use Rattle.pk_report.specs.Paths.{path_text}
use Rattle.pk_report.specs.Values as written
use Rattle.pk_report.specs.Reports as reports
use Rattle.pk_show.specs.declared.report.Row.{Row}
use Rattle.pk_show.specs.declared.report.Row.TheVariants as row
use Rattle.pk_show.specs.declared.rows.Form.{Form}
use Rattle.pk_show.specs.declared.rows.Form.TheVariants.{Difference, Sum, NegatedSum}
use Rattle.pk_show.specs.Rows.{BoundOf, verdict_text, head_word, mark_of, known_text, front_of, sign_of}
use Rattle.pk_show.specs.Laws.{row_text, rows_text}
use Rattle.pk_show_laws.specs.ReportRows.{heading_of, known_of, subject_of, whole_value, element_value, values_of, values_at, bound_of, bounds_if, bounds_told, pair_bounds, of_pairs, bounds_at, values_rows, bounds_rows, facts_rows, point_rows, told_rows, verdict_of, access_of, opening_of, counts_of, accesses_rows, report_rows}

abbrev line : Row → List ℕ
line r = row_text r ++ codes "\n"

-- ---- lists of lines

one_by_one : {A : Type 0} (text : A → List ℕ) (make : A → Row) → ((a : A) → text a ≡ line (make a)) → (xs : List A) →
    flat_map text xs ≡ rows_text (map make xs)
one_by_one text make each [] = refl
one_by_one text make each (a ∷ xs) =
    ap (λ (l : List ℕ). l ++ flat_map text xs) (each a) ∙ ap (λ (l : List ℕ). line (make a) ++ l) (one_by_one text make each xs)

part_by_part : {A : Type 0} (text : A → List ℕ) (rows : A → List Row) → ((a : A) → text a ≡ rows_text (rows a)) → (xs : List A) →
    flat_map text xs ≡ rows_text (flat_map rows xs)
part_by_part text rows each [] = refl
part_by_part text rows each (a ∷ xs) =
    ap (λ (l : List ℕ). l ++ flat_map text xs) (each a)
    ∙ ap (λ (l : List ℕ). rows_text (rows a) ++ l) (part_by_part text rows each xs)
    ∙ sym (flat_map-append line (rows a) (flat_map rows xs))

both_parts : (a b : List ℕ) (xs ys : List Row) → a ≡ rows_text xs → b ≡ rows_text ys → a ++ b ≡ rows_text (xs ++ ys)
both_parts a b xs ys e f =
    ap (λ (l : List ℕ). l ++ b) e ∙ ap (λ (l : List ℕ). rows_text xs ++ l) f ∙ sym (flat_map-append line xs ys)

-- ---- points

heading_parts : (a n b p c q d : List ℕ) → (a ++ n ++ b) ++ p ++ (c ++ q ++ d) ≡ (a ++ (n ++ (b ++ (p ++ (c ++ q))))) ++ d
heading_parts a n b p c q d = simp append_assoc

heading_line : (is_head : Bool) (number path place : List ℕ) →
    (reports.point_word is_head ++ number ++ codes " ") ++ path ++ (codes " " ++ place ++ codes "\n") ≡
    (head_word is_head ++ (number ++ (codes " " ++ (path ++ (codes " " ++ place))))) ++ codes "\n"
heading_line true number path place = heading_parts (codes "head ") number (codes " ") path (codes " ") place (codes "\n")
heading_line false number path place = heading_parts (codes "point ") number (codes " ") path (codes " ") place (codes "\n")

value_parts : (a name mark b lo c hi d m z r n : List ℕ) →
    a ++ name ++ mark ++ (b ++ lo ++ c ++ hi ++ d) ++ (m ++ z ++ r ++ n) ≡
    (a ++ ((name ++ mark) ++ (b ++ (lo ++ (c ++ (hi ++ (d ++ (m ++ (z ++ r))))))))) ++ n
value_parts a name mark b lo c hi d m z r n = simp append_assoc

value_line : (name mark told : List ℕ) (k : Known) → mark ≡ told →
    codes "  " ++ name ++ mark ++ written.range_text k.range ++ written.class_text k.class ≡ (codes "  " ++ ((name ++ told) ++ (codes " [" ++ known_text (known_of k)))) ++ codes "\n"
value_line name mark told k e =
    value_parts (codes "  ") name mark (codes " [") (signed_decimal k.range.lo) (codes ",") (signed_decimal k.range.hi) (codes "] ") (signed_decimal k.class.m) (codes "Z+")
    (signed_decimal k.class.r) (codes "\n")
    ∙ ap (λ (l : List ℕ). (codes "  " ++ ((name ++ l) ++ (codes " [" ++ known_text (known_of k)))) ++ codes "\n") e

whole_mark : (length : Option ℕ) → written.mark_of (written.subject_of length) ≡ mark_of (subject_of length)
whole_mark None = refl
whole_mark (Some n) = refl

element_mark : (i : ℕ) → codes "[" ++ decimal i ++ codes "]" ≡ codes "[" ++ (decimal i ++ codes "]")
element_mark i = append_assoc (codes "[") (decimal i) (codes "]")

elements_lines : (g : GraphOf) (l : Layout) (f : Facts) (x : ℕ) (is : List ℕ) →
    flat_map (written.element_line g l f x) is ≡ rows_text (map row.Value (map (element_value g l f x) is))
elements_lines g l f x [] = refl
elements_lines g l f x (i ∷ is) =
    ap (λ (a : List ℕ). a ++ flat_map (written.element_line g l f x) is)
    (value_line (written.name_of g x) (codes "[" ++ decimal i ++ codes "]") (codes "[" ++ (decimal i ++ codes "]")) (known_at f.values (slot_of l x i)) (element_mark i))
    ∙ ap (λ (a : List ℕ). line (row.Value (element_value g l f x i)) ++ a) (elements_lines g l f x is)

value_lines : (g : GraphOf) (l : Layout) (f : Facts) (x : ℕ) → written.value_lines g l f x ≡ rows_text (map row.Value (values_of g l f x))
value_lines g l f x = by_slots (is_spread l x)
  where
    by_slots : (t : Bool) → cond t (flat_map (written.element_line g l f x) (range_with_len 0 (written.numbers_of g x))) (written.whole_line g f x) ≡
        rows_text (map row.Value (cond t (map (element_value g l f x) (range_with_len 0 (written.numbers_of g x))) (whole_value g f x ∷ [])))
    by_slots true = elements_lines g l f x (range_with_len 0 (written.numbers_of g x))
    by_slots false =
        let length = (variable_at g x).kind.length in
        value_line (written.name_of g x) (written.mark_of (written.subject_of length)) (mark_of (subject_of length)) (known_at f.values x) (whole_mark length)
        ∙ sym (append-nil (line (row.Value (whole_value g f x))))

values_lines : (g : GraphOf) (l : Layout) (f : Facts) (xs : List ℕ) → flat_map (written.value_lines g l f) xs ≡ rows_text (values_rows g l f xs)
values_lines g l f [] = refl
values_lines g l f (x ∷ xs) =
    both_parts (written.value_lines g l f x) (flat_map (written.value_lines g l f) xs) (map row.Value (values_of g l f x)) (values_rows g l f xs)
    (value_lines g l f x) (values_lines g l f xs)
    ∙ ap rows_text (sym (map-append row.Value (values_of g l f x) (values_at g l f xs)))

-- ---- two variables

abbrev bounds_text : List BoundOf → List ℕ
bounds_text = flat_map (λ b. line (row.Bound b))

bounds_lines : (bs : List BoundOf) → bounds_text bs ≡ rows_text (map row.Bound bs)
bounds_lines bs = one_by_one (λ b. line (row.Bound b)) row.Bound (λ b. refl) bs

bound_line : (form : Form) (words x y : List ℕ) (limit : ℤ) (b : Option ℤ) →
    ((c : List ℕ) → codes "  " ++ words ++ codes " <= " ++ c ++ codes "\n" ≡
    (codes "  " ++ ((front_of form ++ x) ++ (codes " " ++ (sign_of form ++ (codes " " ++ (y ++ (codes " <= " ++ c))))))) ++ codes "\n") →
    written.bound_text words limit b ≡ bounds_text (bounds_if form x y limit b)
bound_line form words x y limit None each = refl
bound_line form words x y limit (Some c) each = by_test (int_lt c limit)
  where
    by_test : (t : Bool) →
        cond t (codes "  " ++ words ++ codes " <= " ++ signed_decimal c ++ codes "\n") [] ≡ bounds_text (cond t (bound_of form x y c ∷ []) [])
    by_test true = each (signed_decimal c) ∙ sym (append-nil (line (row.Bound (bound_of form x y c))))
    by_test false = refl

bounds_append : (xs ys : List BoundOf) (a b : List ℕ) → a ≡ bounds_text xs → b ≡ bounds_text ys → a ++ b ≡ bounds_text (xs ++ ys)
bounds_append xs ys a b e f =
    ap (λ (l : List ℕ). l ++ b) e ∙ ap (λ (l : List ℕ). bounds_text xs ++ l) f ∙ sym (flat_map-append (λ b. line (row.Bound b)) xs ys)

pair_lines : (x y : List ℕ) (kx ky : Known) (b : _) →
    written.pair_text x y kx ky b ≡ bounds_text (bounds_told x y kx ky b.minus b.turned b.plus b.negated)
pair_lines x y kx ky b =
    bounds_append _ _ _ _
    (bounds_append _ _ _ _
    (bounds_append _ _ _ _
    (bound_line Difference (x ++ codes " - " ++ y) x y _ b.minus (λ c. simp append_assoc))
    (bound_line Difference (y ++ codes " - " ++ x) y x _ b.turned (λ c. simp append_assoc)))
    (bound_line Sum (x ++ codes " + " ++ y) x y _ b.plus (λ c. simp append_assoc)))
    (bound_line NegatedSum (codes "-" ++ x ++ codes " - " ++ y) x y _ b.negated (λ c. simp append_assoc))

flat_bounds : {A : Type 0} (text : A → List ℕ) (bounds : A → List BoundOf) → ((p : A) → text p ≡ bounds_text (bounds p)) → (ps : List A) →
    flat_map text ps ≡ bounds_text (flat_map bounds ps)
flat_bounds text bounds each [] = refl
flat_bounds text bounds each (p ∷ ps) =
    bounds_append (bounds p) (flat_map bounds ps) (text p) (flat_map text ps) (each p) (flat_bounds text bounds each ps)

pairs_by : {A : Type 0} (text : A → A → List ℕ) (bounds : A → A → List BoundOf) (whole : List A → List ℕ) → whole [] ≡ [] →
    ((p : A) (ps : List A) → whole (p ∷ ps) ≡ flat_map (text p) ps ++ whole ps) → ((p q : A) → text p q ≡ bounds_text (bounds p q)) →
    (ps : List A) → whole ps ≡ bounds_text (of_pairs ps bounds)
pairs_by text bounds whole none more each [] = none
pairs_by text bounds whole none more each (p ∷ ps) =
    more p ps
    ∙ bounds_append (flat_map (bounds p) ps) (of_pairs ps bounds) (flat_map (text p) ps) (whole ps) (flat_bounds (text p) (bounds p) (each p) ps)
    (pairs_by text bounds whole none more each ps)

pairs_lines : (g : GraphOf) (l : Layout) (f : Facts) (xs : List ℕ) →
    written.of_pairs (written.pair_lines g l f) (written.related l xs) ≡ bounds_text (bounds_at g l f xs)
pairs_lines g l f xs =
    pairs_by (written.pair_lines g l f) (pair_bounds g l f) (written.of_pairs (written.pair_lines g l f)) refl
    (λ x ys. refl)
    (λ x y. pair_lines (written.name_of g x) (written.name_of g y) (known_at f.values x) (known_at f.values y)
    (written.bounds_of (bound_in l (Some f)) x y))
    (written.related l xs)

-- ---- a point

facts_lines : (g : GraphOf) (l : Layout) (f : Option Facts) (xs : List ℕ) → written.facts_lines g l f xs ≡ rows_text (facts_rows g l f xs)
facts_lines g l None xs = refl
facts_lines g l (Some f) xs =
    both_parts _ _ (values_rows g l f xs) (bounds_rows g l f xs) (values_lines g l f xs) (pairs_lines g l f xs ∙ bounds_lines (bounds_at g l f xs))

point_lines : (g : GraphOf) (s : Stated) (is_head : Bool) (v : ℕ) → reports.point_lines g s is_head v ≡ rows_text (point_rows g s is_head v)
point_lines g s is_head v =
    ap (λ (l : List ℕ). l ++ written.facts_lines g s.layout s.facts (visible_at g v))
    (heading_line is_head (decimal v) (path_text g.paths (point_at g v).path) (pos_text (point_at g v).at))
    ∙ ap (λ (l : List ℕ). line (row.Heading (heading_of g is_head v)) ++ l) (facts_lines g s.layout s.facts (visible_at g v))

told_lines : (all : Bool) (g : GraphOf) (heads : List ℕ) (states : List Stated) (v : ℕ) →
    reports.told_lines all g heads states v ≡ rows_text (told_rows all g heads states v)
told_lines all g heads states v = by_test (reports.is_head heads v || all)
  where
    by_test : (t : Bool) → cond t (reports.point_lines g (reports.state_at states v) (reports.is_head heads v) v) [] ≡
        rows_text (cond t (point_rows g (reports.state_at states v) (reports.is_head heads v) v) [])
    by_test true = point_lines g (reports.state_at states v) (reports.is_head heads v) v
    by_test false = refl

-- ---- accesses, the first and the last line

unknown_parts : (a lo b hi c : List ℕ) → a ++ lo ++ b ++ hi ++ c ≡ a ++ (lo ++ (b ++ (hi ++ c)))
unknown_parts a lo b hi c = simp append_assoc

verdict_is : (v : Verdict) → reports.verdict_text v ≡ verdict_text (verdict_of v)
verdict_is Safe = refl
verdict_is (Unknown lo hi) = unknown_parts (codes "unknown [") (signed_decimal lo) (codes ",") (signed_decimal hi) (codes "]")
verdict_is Unreachable = refl

access_parts : (a path b place c fault d v n : List ℕ) →
    a ++ path ++ (b ++ place ++ c ++ fault ++ d) ++ v ++ n ≡ (a ++ (path ++ (b ++ (place ++ (c ++ (fault ++ (d ++ v))))))) ++ n
access_parts a path b place c fault d v n = simp append_assoc

access_line : (ps : List PathOf) (a : AccessOf × Verdict) → reports.access_line ps a ≡ line (row.Access (access_of ps a))
access_line ps a =
    access_parts (codes "access ") (path_text ps a.0.site.path) (codes " ") (pos_text a.0.site.at) (codes " ") (fault_text (fault_of a.0.operation))
    (codes " ") (reports.verdict_text a.1) (codes "\n")
    ∙ ap (λ (v : List ℕ). (codes "access " ++ (path_text ps a.0.site.path ++ (codes " " ++ (pos_text a.0.site.at ++ (codes " " ++
    (fault_text (fault_of a.0.operation) ++ (codes " " ++ v))))))) ++ codes "\n") (verdict_is a.1)

first_parts : (a entry b n c m d : List ℕ) → (a ++ entry) ++ (b ++ n) ++ (c ++ m) ++ d ≡ (a ++ (entry ++ (b ++ (n ++ (c ++ m))))) ++ d
first_parts a entry b n c m d = simp append_assoc

last_parts : (a x b y c z d : List ℕ) → (a ++ x) ++ (b ++ y) ++ (c ++ z) ++ d ≡ ((a ++ (x ++ (b ++ (y ++ (c ++ z))))) ++ d) ++ []
last_parts a x b y c z d =
    first_parts a x b y c z d ∙ sym (append-nil ((a ++ (x ++ (b ++ (y ++ (c ++ z))))) ++ d))

-- ---- the whole

four_parts : (a b c d : List ℕ) → a ++ b ++ c ++ d ≡ a ++ (b ++ (c ++ d))
four_parts a b c d = append_assoc (a ++ b) c d ∙ append_assoc a b (c ++ d)

pub text_is : (all : Bool) (g : GraphOf) (heads : List ℕ) (elements : ℕ) (states : List Stated) (accesses : List AccessOf) (verdicts : List Verdict) →
    reports.report_text all g heads elements states accesses verdicts ≡ rows_text (report_rows all g heads elements states accesses verdicts)
text_is all g heads elements states accesses verdicts =
    let points = flat_map (told_rows all g heads states) (range_with_len 0 (length g.points)) in
    let pairs = zip accesses verdicts in
    let last : List Row = row.Counts (counts_of verdicts) ∷ [] in
    four_parts (reports.first_line g elements) (flat_map (reports.told_lines all g heads states) (range_with_len 0 (length g.points)))
    (flat_map (reports.access_line g.paths) pairs) (reports.last_line verdicts)
    ∙ both_parts (reports.first_line g elements) _ (row.Opening (opening_of g elements) ∷ []) (points ++ (accesses_rows g.paths pairs ++ last))
    (first_parts (codes "pikos 1 entry ") (path_text g.paths 0) (codes " points ") (decimal (length g.points)) (codes " elements ") (decimal elements) (codes "\n") ∙ sym (append-nil (line (row.Opening (opening_of g elements)))))
    (both_parts _ _ points (accesses_rows g.paths pairs ++ last)
    (part_by_part (reports.told_lines all g heads states) (told_rows all g heads states) (told_lines all g heads states) (range_with_len 0 (length g.points)))
    (both_parts _ _ (accesses_rows g.paths pairs) last
    (one_by_one (reports.access_line g.paths) (λ a. row.Access (access_of g.paths a)) (access_line g.paths) pairs)
    (last_parts (codes "result safe ") (decimal (count_by reports.is_safe verdicts)) (codes " unknown ") (decimal (count_by reports.is_unknown verdicts))
    (codes " unreachable ") (decimal (count_by reports.is_unreachable verdicts)) (codes "\n"))))
