-- What is kept of all items makes the report.
use Rattle.std.specs.Prelude.{◌≡◌, ℕ, ◌<◌, ◌≤◌, ◌==◌, ◌&&◌, ◌||◌, not, true, false, List, [], ◌∷◌, ◌++◌, length, map, take, slice_get, slice_index_or, All, Contains, Bool, Option, Some}
use Rattle.std.specs.List.{filter_map, range_with_len, cons_option}
use Rattle.std.proofs.Common.{arith, refl, sym, ap, subst, ◌∙◌, ext_get_or}
use Rattle.std.proofs.lemmas.Option.{slice_get-get_or}
use Rattle.std.proofs.lemmas.List.{length-map, length-take-le, get_or-map, get_or-take, get_or_default}
use Rattle.std.proofs.lemmas.List.Elements.{All-nil, All-head, All-tail, All-append, All-weaker, All-filter, All-from_get_or, Contains-append_left, Contains-append_right}
use Rattle.std.proofs.lemmas.List.FromFn.{length-range_with_len, get_or-range_with_len, length-map-range_with_len, get_or-map-range_with_len}
use Rattle.pk_plan.specs.Plans.{PlanView, end_of, place_of}
use Rattle.pk_plan.specs.Axioms.{Axioms}
use Rattle.pk_plan.specs.Shape.{has}
use Rattle.pk_core.proofs.Basics.{itself, neq, same}
use Rattle.pk_core.proofs.Plan_shapes.{has_of, of_has}
use Rattle.pk_items.specs.Items.{top_of, points_in}
use Rattle.pk_items.specs.Laws.{EveryTopIsOutermost}
use Rattle.pk_items.proofs.Rising.{filter_has}
use Rattle.pk_items.proofs.Members.{in_points}
use Rattle.pk_graph.specs.Graphs.{GraphOf}
use Rattle.pk_graph.specs.Accesses.{accesses_of}
use Rattle.pk_state.specs.Facts.{Stated}
use Rattle.pk_phases.specs.declared.equations.Cell.{Cell}
use Rattle.pk_phases.specs.declared.equations.Cell.TheVariants.{Value}
use Rattle.pk_analysis.specs.declared.analysis.Options.{Options}
use Rattle.pk_analysis.specs.Flows.{reduced_cell}
use Rattle.pk_order.specs.Ordered.{heads_of}
use Rattle.pk_report.specs.Reports.{no_state, report_text, unknown_in}
use Rattle.pk_pieces.specs.Joined.{verdicts_of}
use Rattle.pk_pieces.specs.Pieces.{PieceOf}
use Rattle.pk_board.specs.Parts.{ends_item, items_of, part_in}
use Rattle.pk_parts.specs.Kept as kept
use Rattle.pk_parts.specs.Kept.{ReportingOf, graph_in, part_of, states_by, AreKept}
use Rattle.pk_solver.specs.Solved.{AreStates}
use Rattle.pk_solver.proofs.Solved.{plan_points, enough_elements}
use Rattle.pk_solver.proofs.Outcomes.{cells_many}
use Rattle.pk_graph_report.specs.Reported.{IsReport}
use Rattle.pk_lean_report.specs.Items.{AreOfItems}

-- ---- lists

some_more : {X : Type 0} (x : X) (xs : List X) (o : Option X) → o ≡ Some x → (ys : List X) → ys ≡ xs → cons_option o ys ≡ x ∷ xs
some_more {X} x xs o is ys same = ap (λ (p : Option X). cons_option p ys) is ∙ ap (λ (zs : List X). x ∷ zs) same

-- the cells at points that there are
found : {C : Type 0} (cells : List C) (none : C) (vs : List ℕ) → All (λ v. v < length cells) vs → filter_map (slice_get cells) vs ≡ map (λ v. slice_index_or cells v none) vs
found cells none [] within = refl
found cells none (v ∷ vs) within =
    some_more (slice_index_or cells v none) (map (λ u. slice_index_or cells u none) vs) (slice_get cells v) (slice_get-get_or cells v none (All-head (λ u. u < length cells) v vs within))
    (filter_map (slice_get cells) vs) (found cells none vs (All-tail (λ u. u < length cells) v vs within))

-- what holds in each list holds in all of them one after another
all_in : (P : ℕ → Type 0) (f : ℕ → List ℕ) (js : List ℕ) → ((j : ℕ) → All P (f j)) → All P (kept.points_in (map f js))
all_in P f [] each = All-nil P
all_in P f (j ∷ js) each = All-append P (f j) (kept.points_in (map f js)) (each j) (all_in P f js each)

one_of : (f : ℕ → List ℕ) (js : List ℕ) (j v : ℕ) → has j js ≡ true → Contains (f j) v → Contains (kept.points_in (map f js)) v
one_of f [] j v here there = absurd (cc)
one_of f (i ∷ js) j v here there = by (j == i) refl (λ h. one_of f js j v h there)
  where
    by : (b : Bool) → (j == i) ≡ b → (has j js ≡ true → Contains (kept.points_in (map f js)) v) → Contains (f i ++ kept.points_in (map f js)) v
    by true is later = Contains-append_left (f i) (kept.points_in (map f js)) v (subst (λ (k : ℕ). Contains (f k) v) (same j i is) there)
    by false is later = Contains-append_right (f i) (kept.points_in (map f js)) v (later (let h : (false || has j js) ≡ true = subst (λ (b : Bool). (b || has j js) ≡ true) is here in h))

each_same : {X : Type 0} (f g : ℕ → X) (js : List ℕ) → ((j : ℕ) → f j ≡ g j) → map f js ≡ map g js
each_same f g [] alike = refl
each_same f g (j ∷ js) alike = ap (λ x. x ∷ map f js) (alike j) ∙ ap (λ xs. g j ∷ xs) (each_same f g js alike)

map_twice : {X : Type 0} (g : List ℕ → X) (f : ℕ → List ℕ) (js : List ℕ) → map g (map f js) ≡ map (λ j. g (f j)) js
map_twice g f [] = refl
map_twice g f (j ∷ js) = ap (λ xs. g (f j) ∷ xs) (map_twice g f js)

-- ---- the items of a plan

-- of each point the item is among them
item_listed : (p : PlanView) → Axioms p → EveryTopIsOutermost → (v : ℕ) → v < p.points → has (top_of p v) (items_of p) ≡ true
item_listed p axioms law v low =
    let tops = law p axioms in
    let before : v < end_of p = omega (arith, low, axioms.counted) in
    let ends = tops.ends v before in
    let j = top_of p v in
    let other : (j == end_of p) ≡ false = neq j (end_of p) ends.not_end in
    let own : (top_of p j == j) ≡ true = ap (λ (k : ℕ). k == j) ends.outermost ∙ itself j in
    let marked : ends_item p j ≡ true = ap (λ (b : Bool). not b && (top_of p j == j)) other ∙ own in
    filter_has (ends_item p) j p.listing marked
    (has_of j p.listing (place_of p j, omega (arith, axioms.place j ends.element, axioms.listed), ap (λ (k : ℕ). k) (listed_at p axioms j ends.element)))
  where
    listed_at : (p : PlanView) → Axioms p → (e : ℕ) → e < p.elements → slice_index_or p.listing (place_of p e) e ≡ e
    listed_at p axioms e h = get_or_default p.listing (place_of p e) e 0 (omega (arith, axioms.place e h, axioms.listed)) ∙ axioms.at_place e h

points_low : (p : PlanView) (j : ℕ) → All (λ v. v < p.points) (points_in p j)
points_low p j = All-filter (λ e. top_of p e == j) (λ v. v < p.points) (range_with_len 0 p.points) (All-from_get_or (λ v. v < p.points) (range_with_len 0 p.points) 0
    (λ i h. omega (arith, h, get_or-range_with_len 0 p.points i 0 (omega (arith, h, length-range_with_len 0 p.points)), length-range_with_len 0 p.points)))

-- ---- the report

module _ (o : Options) (p : PlanView) (r : ReportingOf) (most : ℕ) (parts : List (List PieceOf)) (x : AreOfItems o p r most parts) (law : EveryTopIsOutermost) where
  abbrev g : GraphOf
  g = graph_in r

  abbrev cells : List (Cell Stated)
  cells = x.outcome.cells

  abbrev none : Cell Stated
  none = Value no_state

  abbrev cell : ℕ → Cell Stated
  cell v = slice_index_or cells v none

  axioms : Axioms p
  axioms = x.is.system.ordered.axioms

  same_points : p.points ≡ length g.points
  same_points = plan_points g p x.is.order x.is.system.ordered

  enough : length g.points ≤ length cells
  enough = omega (arith, enough_elements g p x.is.order x.is.system.ordered, cells_many r.flow x.is.order p.elements most x.outcome x.is.result)

  part_is : (j : ℕ) → part_in p (part_of r) cells j ≡ part_of r (points_in p j) (map cell (points_in p j))
  part_is j = ap (part_of r (points_in p j)) (found cells none (points_in p j) (All-weaker (λ v. v < p.points) (λ v. v < length cells) (λ v h. omega (arith, h, same_points, enough)) (points_in p j) (points_low p j)))

  pub items : List (List ℕ)
  items = map (points_in p) (items_of p)

  pub are_kept : AreKept r cell items parts
  unfolding items
  are_kept = record {
    each = x.made ∙ each_same (part_in p (part_of r) cells) (λ j. part_of r (points_in p j) (map cell (points_in p j))) (items_of p) part_is
        ∙ sym (map_twice (λ (vs : List ℕ). part_of r vs (map cell vs)) (points_in p) (items_of p));
    within = all_in (λ v. v < length g.points) (points_in p) (items_of p) (λ j. All-weaker (λ v. v < p.points) (λ v. v < length g.points) (λ v h. omega (arith, h, same_points)) (points_in p j) (points_low p j));
    all = λ v low.
        let h : v < p.points = omega (arith, low, same_points) in
        one_of (points_in p) (items_of p) (top_of p v) v (item_listed p axioms law v h) (of_has v (points_in p (top_of p v)) (in_points p (top_of p v) v h refl));
  }

  -- the states of the points by these cells
  states_are : states_by r cell ≡ map (reduced_cell r.flow) (take (length g.points) cells)
  states_are =
      let n = length g.points in
      ext_get_or no_state (states_by r cell) (map (reduced_cell r.flow) (take n cells))
      (length-map-range_with_len (λ v. reduced_cell r.flow (cell v)) 0 n ∙ sym (length-map (take n cells) (reduced_cell r.flow) ∙ length-take-le n cells enough))
      (λ i h.
      let low : i < n = omega (arith, h, length-map-range_with_len (λ v. reduced_cell r.flow (cell v)) 0 n) in
      get_or-map-range_with_len (λ v. reduced_cell r.flow (cell v)) 0 n i i no_state low (omega arith)
      ∙ ap (reduced_cell r.flow) (sym (get_or-take n cells i none low))
      ∙ sym (get_or-map (reduced_cell r.flow) (take n cells) i none no_state (omega (arith, low, length-take-le n cells enough))))

  are_states : AreStates g o most p (states_by r cell)
  are_states = record { order = x.is.order; flow = r.flow; system = x.is.system; outcome = x.outcome; result = x.is.result; reduced = states_are }

  module _ (unknown : ℕ) (bytes : List ℕ) (heads : r.heads ≡ heads_of p)
      (told : bytes ≡ report_text r.all g r.heads p.elements (states_by r cell) (accesses_of g) (verdicts_of g (states_by r cell)))
      (counted : unknown ≡ unknown_in (verdicts_of g (states_by r cell))) where
    pub is_report : IsReport g o most r.all unknown bytes
    is_report = record {
      plan = p;
      states = states_by r cell;
      are_states = are_states;
      counted = counted;
      told = told ∙ ap (λ (hs : List ℕ). report_text r.all g hs p.elements (states_by r cell) (accesses_of g) (verdicts_of g (states_by r cell))) heads;
    }
