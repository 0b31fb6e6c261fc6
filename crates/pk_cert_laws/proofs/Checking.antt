-- Cells of certificates, and what an analysis leaves.
use Rattle.std.specs.Prelude.{◌≡◌, ℕ, ◌<◌, ◌≤◌, false, List, [], ◌∷◌, map, length, take, slice_index_or, All, Option, None}
use Rattle.std.proofs.Common.{arith, refl, sym, ap, subst, ◌∙◌}
use Rattle.std.proofs.lemmas.List.{length-map, length-take-le, get_or-map, get_or-take}
use Rattle.std.proofs.lemmas.List.FromFn.{length-map-range_with_len}
use Rattle.std.proofs.lemmas.List.Elements.{All-head, All-tail}
use Rattle.pk_graph.specs.Graphs.{EdgeOf, PointOf, GraphOf}
use Rattle.pk_state.specs.Layouts.{Layout}
use Rattle.pk_state.specs.Facts.{Facts, Stated, AreFactsIf, IsBelow}
use Rattle.pk_transfer.specs.Graphs.{GraphsAreOver, layout_of}
use Rattle.pk_plan.specs.Order.{Level}
use Rattle.pk_plan.specs.Plans.{PlanView}
use Rattle.pk_iterate.specs.Outcome.{Outcome}
use Rattle.pk_phases.specs.declared.equations.Cell.{Cell}
use Rattle.pk_phases.specs.declared.equations.Cell.TheVariants.{Value}
use Rattle.pk_phases.specs.Equations.{value_of}
use Rattle.pk_analysis.specs.declared.analysis.Options.{Options}
use Rattle.pk_analysis.specs.declared.arrows.Arrow.{Arrow}
use Rattle.pk_analysis.specs.Arrows.{arrows_at, origins}
use Rattle.pk_analysis.specs.Flows.{Flow, stated, equation}
use Rattle.pk_sound.specs.Results.{IsAnalysed, known_at_point}
use Rattle.pk_sound.specs.Families.{given_on, IsLaidOut, AreFactsOf, IsSolved, ResultsAreFamilies}
use Rattle.pk_sound.proofs.Arrows_at.{arrows_to}
use Rattle.pk_cert.specs.Heads.{HeadOf}
use Rattle.pk_cert_cells.specs.Cells.{state_in, facts_in}
use Rattle.pk_cert_cells.specs.Reading.{cell_of, AreReadCells}
use Rattle.pk_cert_check.specs.Checked.{cell_in, known_by, HoldStates}
use Rattle.pk_cert_check.specs.Laws.{EveryCheckEnds}
use Rattle.pk_cert_laws.specs.Checks.{ReadCellsHoldStates, ReadCellsAreChecked, ChecksWell, ResultsCheckWell}
use Rattle.pk_cert_laws.proofs.One_octagon.{one_octagon}

-- the cell of a point where this is known
cell_there : (l : Layout) (known : List (Option Facts)) (v : ℕ) → v < length known → cell_in l (map (cell_of l) known) v ≡ cell_of l (slice_index_or known v None)
cell_there l known v h = get_or-map (cell_of l) known v None (Value (stated l None)) h

pub read_cells_hold_states : ReadCellsHoldStates
read_cells_hold_states g h bytes cells r =
    subst (HoldStates (layout_of g h.oct) (length g.points)) (sym r.cells_are) (record {
      enough = omega (arith, length-map r.known (cell_of (layout_of g h.oct)), r.each);
      each = λ v p. (slice_index_or r.known v None, cell_there (layout_of g h.oct) r.known v (omega (arith, p, r.each)));
    })

read_facts : (g : GraphOf) (h : HeadOf) (bytes : List ℕ) (cells : List (Cell Stated)) → AreReadCells g h bytes cells → AreFactsOf g (layout_of g h.oct) (known_by (layout_of g h.oct) cells)
read_facts g h bytes cells r v p =
    let l : Layout = layout_of g h.oct in
    subst (λ (cs : List (Cell Stated)). AreFactsIf l (known_by l cs v)) (sym r.cells_are)
    (subst (AreFactsIf l) (sym (ap (λ (c : Cell Stated). (value_of (stated l None) c).facts) (cell_there l r.known v (omega (arith, p, r.each))))) (r.facts v p))

pub read_cells_are_checked : GraphsAreOver → EveryCheckEnds → ReadCellsAreChecked
read_cells_are_checked over ends g h bytes cells made is r =
    let laid : IsLaidOut g (layout_of g h.oct) = record { graph = made; layout = over.layouts g h.oct (omega (arith, is.oct)); over = over.over g h.oct } in
    ends g (layout_of g h.oct) cells laid (read_facts g h bytes cells r)

-- ---- families that are the same at each point

map_same : (n : ℕ) (f k : ℕ → Option Facts) → ((v : ℕ) → v < n → f v ≡ k v) → (us : List ℕ) → All (λ u. u < n) us → map f us ≡ map k us
map_same n f k same [] h = refl
map_same n f k same (u ∷ us) h =
    ap (λ (o : Option Facts). o ∷ map f us) (same u (All-head (λ x. x < n) u us h)) ∙ ap (λ (os : List (Option Facts)). k u ∷ os) (map_same n f k same us (All-tail (λ x. x < n) u us h))

origins_within : (g : GraphOf) (v : ℕ) → All (λ u. u < length g.points) (origins (arrows_at g v))
origins_within g v k d p =
    let none : Arrow = record { from = d; edge = 0 } in
    let q : k < length (arrows_at g v) = omega (arith, p, length-map (arrows_at g v) (λ (x : Arrow). x.from)) in
    subst (λ (n : ℕ). n < length g.points) (sym (get_or-map (λ (x : Arrow). x.from) (arrows_at g v) k none d q)) (arrows_to g v k none q).point

pub solved_same : (g : GraphOf) (l : Layout) (f k : ℕ → Option Facts) → ((v : ℕ) → v < length g.points → f v ≡ k v) → IsSolved g l f → IsSolved g l k
solved_same g l f k same s = record {
  facts = λ v p. subst (AreFactsIf l) (same v p) (s.facts v p);
  below = λ v p.
      let given : given_on g l f v ≡ given_on g l k v = ap (equation g l v) (map_same (length g.points) f k same (origins (arrows_at g v)) (origins_within g v)) in
      subst (λ (o : Option Facts). IsBelow o (k v)) given (subst (IsBelow (given_on g l f v)) (same v p) (s.below v p));
}

-- ---- the result of an analysis

module _ (g : GraphOf) (o : Options) (p : PlanView) (order : Level) (a : Flow) (most : ℕ) (it : Outcome (Cell Stated)) (is : IsAnalysed g o p order a most it) (one : o.packs ≡ false) where
  cells_many : length g.points ≤ length it.cells
  cells_many =
      let points : p.points ≡ length g.points = is.ordered.is_plan.points ∙ length-map g.points (λ (q : PointOf). map (λ (e : EdgeOf). e.to) q.edges) in
      let cells = ap (λ (cs : List (Cell Stated)). length cs) is.result.cells_after in
      let many : length it.cells ≡ p.elements = cells ∙ length-map-range_with_len _ 0 p.elements in
      omega (arith, points, is.ordered.axioms.counted, many)

  known_many : length (facts_in (layout_of g o.oct) (length g.points) it.cells) ≡ length g.points
  known_many = length-map (take (length g.points) it.cells) (λ (c : Cell Stated). (state_in (layout_of g o.oct) c).facts) ∙ length-take-le (length g.points) it.cells cells_many

  layout : a.layout ≡ layout_of g o.oct
  layout = is.analysis.layout ∙ one_octagon g p o one

  -- what the cells say is what the result knows
  known_there : (v : ℕ) → v < length g.points → slice_index_or (facts_in (layout_of g o.oct) (length g.points) it.cells) v None ≡ known_at_point a it v
  known_there v h =
      get_or-map (λ (c : Cell Stated). (state_in (layout_of g o.oct) c).facts) (take (length g.points) it.cells) v (Value (stated (layout_of g o.oct) None)) None
      (omega (arith, h, length-take-le (length g.points) it.cells cells_many))
      ∙ ap (λ (c : Cell Stated). (state_in (layout_of g o.oct) c).facts) (get_or-take (length g.points) it.cells v (Value (stated (layout_of g o.oct) None)) h)
      ∙ ap (λ (y : Layout). (value_of (stated y None) (slice_index_or it.cells v (Value (stated y None)))).facts) (sym layout)

  cells_say : (v : ℕ) → v < length g.points → known_at_point a it v ≡ known_by (layout_of g o.oct) (map (cell_of (layout_of g o.oct)) (facts_in (layout_of g o.oct) (length g.points) it.cells)) v
  cells_say v h =
      sym (ap (λ (c : Cell Stated). (value_of (stated (layout_of g o.oct) None) c).facts) (cell_there (layout_of g o.oct) (facts_in (layout_of g o.oct) (length g.points) it.cells) v (omega (arith, h, known_many)))
      ∙ known_there v h)

  pub well : ResultsAreFamilies → ChecksWell g o.oct (facts_in (layout_of g o.oct) (length g.points) it.cells)
  well law =
      let s = subst (λ (y : Layout). IsSolved g y (known_at_point a it)) layout (law g o p order a most it is).solved in
      record {
        facts = record { each = known_many; facts = λ v h. subst (AreFactsIf (layout_of g o.oct)) (sym (known_there v h)) (s.facts v h) };
        solved = solved_same g (layout_of g o.oct) (known_at_point a it) (known_by (layout_of g o.oct) (map (cell_of (layout_of g o.oct)) (facts_in (layout_of g o.oct) (length g.points) it.cells))) cells_say s;
      }

pub results_check_well : ResultsAreFamilies → ResultsCheckWell
results_check_well law g o p order a most it is one = well g o p order a most it is one law
