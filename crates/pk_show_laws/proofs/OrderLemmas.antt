-- The rows of the report on a graph may follow each other.
use Rattle.std.proofs.Common.{subst, ◌≡◌, ◌∙◌, ℕ, refl, sym, ap, List, [], ◌∷◌, ◌++◌, length, map, Bool, true, false, cond, Option, Some, None, append_assoc}
use Rattle.std.specs.Prelude.{◌||◌}
use Rattle.std.specs.Option.{option_map}
use Rattle.std.specs.List.{flat_map, range_with_len, zip}
use Rattle.pk_graph.specs.declared.verdicts.Verdict.{Verdict}
use Rattle.pk_graph.specs.Accesses.{AccessOf}
use Rattle.pk_graph.specs.Graphs.{PathOf, GraphOf}
use Rattle.pk_graph.specs.Visible.{visible_at}
use Rattle.pk_octagons.specs.Packs.{is_chosen}
use Rattle.pk_state.specs.Layouts.{Layout}
use Rattle.pk_state.specs.Facts.{Facts, Stated}
use Rattle.pk_report.specs.Values.{numbers_of, related}
use Rattle.pk_report.specs.Reports.{is_head, state_at}
use Rattle.pk_show.specs.declared.report.Row.{Row}
use Rattle.pk_show.specs.declared.report.Row.TheVariants as row
use Rattle.pk_show.specs.declared.rows.Counts.{Counts}
use Rattle.pk_show.specs.Rows.{HeadingOf, ValueOf, BoundOf, AccessOf as AccessRow}
use Rattle.pk_show.specs.Reports.{kind_of, may_stand}
use Rattle.pk_show.specs.Laws.{FollowEachOther}
use Rattle.pk_show_laws.specs.ReportRows.{heading_of, whole_value, element_value, values_of, values_at, of_pairs, bounds_at, facts_rows, point_rows, told_rows, access_of, opening_of, counts_of, accesses_rows, report_rows}
use Rattle.pk_show_laws.specs.Tellable.{IsTellableLayout}

-- ---- behind a row, if there is one

abbrev stands : Option Row → (next : Row) → Bool
stands before next = may_stand (option_map kind_of before) (kind_of next)

abbrev Follow : Option Row → List Row → Type 0
Follow before rows = FollowEachOther (option_map kind_of before) rows

-- behind what tells a point stand the next point, an access or the counts
record Opens (before : Option Row) : Type 0 where
  heading : (h : HeadingOf) → stands before (row.Heading h) ≡ true
  access : (a : AccessRow) → stands before (row.Access a) ≡ true
  counts : (c : Counts) → stands before (row.Counts c) ≡ true

-- whatever may stand behind a point may stand behind these rows, where they stand behind one
abbrev AreBlock : List Row → Type 0
AreBlock rows =
    (before : Option Row) (rest : List Row) → Opens before → ((last : Option Row) → Opens last → Follow last rest) → Follow before (rows ++ rest)

nothing : AreBlock []
nothing before rest opens more = more before opens

both : (xs ys : List Row) → AreBlock xs → AreBlock ys → AreBlock (xs ++ ys)
both xs ys h k before rest opens more =
    subst (λ (l : List Row). Follow before l) (sym (append_assoc xs ys rest)) (h before (ys ++ rest) opens (λ last o. k last rest o more))

flat : {A : Type 0} (rows : A → List Row) → ((a : A) → AreBlock (rows a)) → (xs : List A) → AreBlock (flat_map rows xs)
flat rows each [] = nothing
flat rows each (a ∷ xs) = both (rows a) (flat_map rows xs) (each a) (flat rows each xs)

-- ---- a point

bounds_follow : (bs : List BoundOf) (before : Option Row) (rest : List Row) → ((b : BoundOf) → stands before (row.Bound b) ≡ true) → Opens before →
    ((last : Option Row) → Opens last → Follow last rest) → Follow before (map row.Bound bs ++ rest)
bounds_follow [] before rest may opens more = more before opens
bounds_follow (b ∷ bs) before rest may opens more = (
  may b,
  bounds_follow bs (Some (row.Bound b)) rest (λ b. refl)
      (record { heading = λ h. refl; access = λ a. refl; counts = λ c. refl }) more,
)

values_follow : (vs : List ValueOf) (v : ValueOf) (rest : List Row) → Follow (Some (row.Value v)) rest → Follow (Some (row.Value v)) (map row.Value vs ++ rest)
values_follow [] v rest h = h
values_follow (w ∷ vs) v rest h = (refl, values_follow vs w rest h)

both_empty : {A : Type 0} (xs ys : List A) → xs ++ ys ≡ [] → (xs ≡ []) × (ys ≡ [])
both_empty [] ys e = (refl, e)
both_empty (x ∷ xs) ys e = absurd (cc e)

none_paired : {A : Type 0} (ps : List A) (bounds : A → A → List BoundOf) → ps ≡ [] → of_pairs ps bounds ≡ []
none_paired ps bounds e = ap (λ qs. of_pairs qs bounds) e

-- a variable that an octagon is over has a value that is told, so where none is told there are no bounds
none_related : (g : GraphOf) (l : Layout) (f : Facts) → IsTellableLayout g l → (xs : List ℕ) → values_at g l f xs ≡ [] → related l xs ≡ []
none_related g l f told [] e = refl
none_related g l f told (x ∷ xs) e =
    let parts = both_empty (values_of g l f x) (values_at g l f xs) e in
    by_test (is_chosen l.packs x) refl parts.0 (none_related g l f told xs parts.1)
  where
    by_test : (b : Bool) → is_chosen l.packs x ≡ b → values_of g l f x ≡ [] → related l xs ≡ [] → cond b (x ∷ related l xs) (related l xs) ≡ []
    by_test false is none rest = rest
    by_test true is none rest =
        let one : values_of g l f x ≡ whole_value g f x ∷ [] =
        ap (λ (t : Bool). cond t (map (element_value g l f x) (range_with_len 0 (numbers_of g x))) (whole_value g f x ∷ [])) (told.apart x is) in
        let both = sym one ∙ none in
        absurd (cc both)

facts_follow : (g : GraphOf) (h : HeadingOf) (l : Layout) (f : Option Facts) → IsTellableLayout g l → (xs : List ℕ) (rest : List Row) →
    ((last : Option Row) → Opens last → Follow last rest) → Follow (Some (row.Heading h)) (facts_rows g l f xs ++ rest)
facts_follow g h l None told xs rest more =
    (refl, more (Some row.NoRun) (record { heading = λ h. refl; access = λ a. refl; counts = λ c. refl }))
facts_follow g h l (Some f) told xs rest more = by_values (values_at g l f xs) refl
  where
    bounds : List BoundOf
    bounds = bounds_at g l f xs

    by_values : (vs : List ValueOf) → values_at g l f xs ≡ vs → Follow (Some (row.Heading h)) ((map row.Value vs ++ map row.Bound bounds) ++ rest)
    by_values [] e =
        let none : bounds ≡ [] = none_paired (related l xs) _ (none_related g l f told xs e) in
        subst (λ (bs : List BoundOf). Follow (Some (row.Heading h)) (map row.Bound bs ++ rest)) (sym none)
        (more (Some (row.Heading h)) (record { heading = λ h. refl; access = λ a. refl; counts = λ c. refl }))
    by_values (v ∷ vs) e =
        subst (λ (rows : List Row). Follow (Some (row.Heading h)) rows) (sym (append_assoc (map row.Value (v ∷ vs)) (map row.Bound bounds) rest)) (
          refl,
          values_follow vs v (map row.Bound bounds ++ rest)
              (bounds_follow bounds (Some (row.Value v)) rest (λ b. refl) (record { heading = λ h. refl; access = λ a. refl; counts = λ c. refl }) more),
        )

point_is_block : (g : GraphOf) (s : Stated) → IsTellableLayout g s.layout → (is_head : Bool) (v : ℕ) → AreBlock (point_rows g s is_head v)
point_is_block g s told is_head v before rest opens more =
    (opens.heading (heading_of g is_head v), facts_follow g (heading_of g is_head v) s.layout s.facts told (visible_at g v) rest more)

told_is_block : (all : Bool) (g : GraphOf) (heads : List ℕ) (states : List Stated) → ((v : ℕ) → IsTellableLayout g (state_at states v).layout) → (v : ℕ) →
    AreBlock (told_rows all g heads states v)
told_is_block all g heads states told v = by_test (is_head heads v || all)
  where
    by_test : (t : Bool) → AreBlock (cond t (point_rows g (state_at states v) (is_head heads v) v) [])
    by_test true = point_is_block g (state_at states v) (told v) (is_head heads v) v
    by_test false = nothing

-- ---- accesses and the counts

accesses_follow : (ps : List PathOf) (pairs : List (AccessOf × Verdict)) (c : Counts) (before : Option Row) →
    ((a : AccessRow) → stands before (row.Access a) ≡ true) → ((c : Counts) → stands before (row.Counts c) ≡ true) →
    Follow before (accesses_rows ps pairs ++ row.Counts c ∷ [])
accesses_follow ps [] c before access counts = (counts c, refl)
accesses_follow ps (a ∷ pairs) c before access counts =
    (access (access_of ps a), accesses_follow ps pairs c (Some (row.Access (access_of ps a))) (λ a. refl) (λ c. refl))

pub rows_follow : (all : Bool) (g : GraphOf) (heads : List ℕ) (elements : ℕ) (states : List Stated) (accesses : List AccessOf) (verdicts : List Verdict) →
    ((v : ℕ) → IsTellableLayout g (state_at states v).layout) → FollowEachOther None (report_rows all g heads elements states accesses verdicts)
rows_follow all g heads elements states accesses verdicts told = (
  refl,
  flat (told_rows all g heads states) (told_is_block all g heads states told) (range_with_len 0 (length g.points)) (Some (row.Opening (opening_of g elements)))
      (accesses_rows g.paths (zip accesses verdicts) ++ row.Counts (counts_of verdicts) ∷ [])
      (record { heading = λ h. refl; access = λ a. refl; counts = λ c. refl })
      (λ last o. accesses_follow g.paths (zip accesses verdicts) (counts_of verdicts) last o.access o.counts),
)
