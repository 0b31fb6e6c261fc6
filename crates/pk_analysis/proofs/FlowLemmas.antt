-- The equations, edge by edge.
use Rattle.std.proofs.Common.{◌≡◌, ◌<◌, ◌≤◌, ◌+◌, ℕ, zero, suc, nat_lt, Bool, true, false, ap, ◌∙◌, sym, refl, Option, None, List, [], ◌∷◌, length, drop, map, arith}
use Rattle.std.specs.List.{slice_index_or}
use Rattle.std.proofs.lemmas.Bool.Decides.{nat_tests}
use Rattle.std.proofs.lemmas.List.{drop_more, drop_all, get_or-map, length-map}
use Rattle.pk_graph.specs.declared.graphs.Edge.{Edge}
use Rattle.pk_graph.specs.Views.{instr_view}
use Rattle.pk_graph.specs.Graphs.{EdgeOf, GraphOf, edge_view, point_at, kinds_of}
use Rattle.pk_graph.specs.WellMade.{IsGraph}
use Rattle.pk_state.specs.Layouts.{Layout}
use Rattle.pk_state.specs.Facts.{Facts, joined}
use Rattle.pk_transfer.specs.Trees.{IsOver}
use Rattle.pk_transfer.specs.Transfers.{IsInstrOver, transferred}
use Rattle.pk_transfer.specs.Graphs.{GraphsAreOver}
use Rattle.pk_phases.specs.declared.equations.Part.{Part}
use Rattle.pk_phases.specs.declared.equations.Part.TheVariants.{Point, HeadOf, ExitOf}
use Rattle.pk_phases.specs.Equations.{reads_in, value_of, may_hold_of}
use Rattle.pk_analysis.specs.declared.arrows.Arrow.{Arrow}
use Rattle.pk_analysis.specs.Arrows.{arrows_at, origins, no_edge, instr_of, row_at, AreArrows, IsArrow}
use Rattle.pk_analysis.specs.Parts.{part_at}
use Rattle.pk_analysis.specs.Reading.{read_by, AreReads}
use Rattle.pk_state.specs.Facts.{Stated}
use Rattle.pk_graph.specs.Shown.{graph_view}
use Rattle.pk_phases.specs.declared.equations.Cell.{Cell}
use Rattle.pk_analysis.specs.Flows.{Flow, equations_of, arrived, equation, start_at, stated, IsOverFlow}
use Rattle.pk_analysis.specs.Keeping.{flow_keeps}
use Rattle.pk_iterate.specs.Behaviour.{HoldEach}
use Rattle.pk_phases.specs.EquationsHeld.{value_at}
use Rattle.pk_analysis.proofs.ArrowLemmas.{none_past}

past : {A : Type 0} (rows : List (List A)) (v : ℕ) → length rows ≤ v → row_at rows v ≡ []
past [] v h = refl
past (row ∷ rows) zero h = absurd (omega arith)
past (row ∷ rows) (suc v) h = past rows v (omega arith)

past_parts : (parts : List Part) (e : ℕ) → length parts ≤ e → part_at parts e ≡ Point
past_parts [] e h = refl
past_parts (p ∷ parts) zero h = absurd (omega arith)
past_parts (p ∷ parts) (suc e) h = past_parts parts e (omega arith)

-- the edges that are kept for a point are those that lead to it, for each number
pub row_all : (g : GraphOf) (rows : List (List Arrow)) (v : ℕ) → IsGraph g → AreArrows g rows → row_at rows v ≡ arrows_at g v
row_all g rows v made are = by (nat_lt v (length g.points)) refl
  where
    by : (b : Bool) → nat_lt v (length g.points) ≡ b → row_at rows v ≡ arrows_at g v
    by true e = are.each v (grind (arith, nat_tests))
    by false e = let h : length g.points ≤ v = grind (arith, nat_tests) in past rows v (omega (arith, h, are.size)) ∙ sym (none_past g v made h)

-- what is kept of what is read is what the equations read
reads_are : (a : Flow) (rows : List (List Arrow)) (e : ℕ) (p : Part) → IsGraph (graph_view a.graph) → AreArrows (graph_view a.graph) rows → read_by rows e p ≡ reads_in (equations_of a) e p
reads_are a rows e Point made are = ap origins (row_all (graph_view a.graph) rows e made are)
reads_are a rows e (HeadOf exit) made are = ap (λ (row : List Arrow). exit ∷ (e ∷ origins row)) (row_all (graph_view a.graph) rows e made are)
reads_are a rows e (ExitOf head) made are = ap (λ (row : List Arrow). e ∷ (head ∷ origins row)) (row_all (graph_view a.graph) rows head made are)

pub reads_there : (a : Flow) (rows : List (List Arrow)) (reads : List (List ℕ)) (e : ℕ) → IsGraph (graph_view a.graph) → AreArrows (graph_view a.graph) rows → AreReads rows a.parts reads → e < length reads → row_at reads e ≡ reads_in (equations_of a) e (part_at a.parts e)
reads_there a rows reads e made are read h = read.each e (omega (arith, h, read.size)) ∙ reads_are a rows e (part_at a.parts e) made are

pub reads_past : (a : Flow) (rows : List (List Arrow)) (reads : List (List ℕ)) (e : ℕ) → IsGraph (graph_view a.graph) → AreReads rows a.parts reads → length (graph_view a.graph).points ≤ length a.parts → length reads ≤ e → [] ≡ reads_in (equations_of a) e (part_at a.parts e)
reads_past a rows reads e made read enough h =
    sym (ap (λ (p : Part). reads_in (equations_of a) e p) (past_parts a.parts e (omega (arith, h, read.size))) ∙ ap origins (none_past (graph_view a.graph) e made (omega (arith, h, read.size, enough))))

-- an edge of the code
pub instr_is : (g : GraphOf) (es : List Edge) (a : Arrow) (e : Edge) → map edge_view es ≡ (point_at g a.from).edges → a.edge < length es → instr_of g a ≡ instr_view (slice_index_or es a.edge e).instr
unfolding edge_view
instr_is g es a e are h = ap (λ (xs : List EdgeOf). (slice_index_or xs a.edge no_edge).instr) (sym are) ∙ ap (λ (x : EdgeOf). x.instr) (get_or-map edge_view es a.edge e no_edge h)

pub over_there : (g : GraphOf) (l : Layout) (a : Arrow) → GraphsAreOver → IsGraph g → IsOver (kinds_of g) l → IsArrow g a → IsInstrOver l (instr_of g a)
over_there g l a law made over is = law.instructions g l a.from made over is.point a.edge no_edge is.edge

-- the join goes on with the edges from k on
pub arrived_next : (g : GraphOf) (l : Layout) (arrows : List Arrow) (before : List (Option Facts)) (k : ℕ) (d : Arrow) (b : Option Facts) (f : Option Facts) → k < length arrows → k < length before
    → arrived g l (drop k arrows) (drop k before) f ≡ arrived g l (drop (k + 1) arrows) (drop (k + 1) before) (joined f (transferred l (slice_index_or before k b) (instr_of g (slice_index_or arrows k d))))
arrived_next g l arrows before k d b f h p =
    ap (λ (xs : List Arrow). arrived g l xs (drop k before) f) (drop_more arrows k d h)
    ∙ ap (λ (ys : List (Option Facts)). arrived g l (slice_index_or arrows k d ∷ drop (k + 1) arrows) ys f) (drop_more before k b p)

pub arrived_end : (g : GraphOf) (l : Layout) (arrows : List Arrow) (before : List (Option Facts)) (k : ℕ) (f : Option Facts) → length arrows ≤ k → arrived g l (drop k arrows) (drop k before) f ≡ f
arrived_end g l arrows before k f h = ap (λ (xs : List Arrow). arrived g l xs (drop k before) f) (drop_all k arrows h)

-- what is known at the cells
abbrev pub facts_in : Flow → List (Cell Stated) → List (Option Facts)
facts_in a cells = map (λ (s : Stated). s.facts) (map (value_of (stated a.layout None)) cells)

-- the join, as far as the first k edges
pub record IsArrivedTo (a : Flow) (v : ℕ) (cells : List (Cell Stated)) (k : ℕ) (s : Stated) : Type 0 where
  pub layout : s.layout ≡ a.layout
  pub rest : arrived (graph_view a.graph) a.layout (drop k (arrows_at (graph_view a.graph) v)) (drop k (facts_in a cells)) s.facts ≡ equation (graph_view a.graph) a.layout v (facts_in a cells)

pub arrived_start : (a : Flow) (v : ℕ) (cells : List (Cell Stated)) (s : Stated) → s ≡ stated a.layout (start_at (graph_view a.graph) a.layout v) → IsArrivedTo a v cells 0 s
arrived_start a v cells s is = record {
  layout = ap (λ (t : Stated). t.layout) is;
  rest = ap (λ (t : Stated). arrived (graph_view a.graph) a.layout (arrows_at (graph_view a.graph) v) (facts_in a cells) t.facts) is;
}

-- as many cells as edges
as_many : (held : ℕ → Cell Stated → Type 0) (us : List ℕ) (cells : List (Cell Stated)) → HoldEach held us cells → length cells ≡ length us
as_many held [] [] h = refl
as_many held [] (c ∷ cells) h = absurd h
as_many held (u ∷ us) [] h = absurd h
as_many held (u ∷ us) (c ∷ cells) h = omega (arith, as_many held us cells h.1)

pub cells_many : (a : Flow) (v : ℕ) (cells : List (Cell Stated)) → HoldEach (may_hold_of (equations_of a) (IsOverFlow a)) (origins (arrows_at (graph_view a.graph) v)) cells → length cells ≡ length (arrows_at (graph_view a.graph) v)
cells_many a v cells h = as_many (may_hold_of (equations_of a) (IsOverFlow a)) (origins (arrows_at (graph_view a.graph) v)) cells h ∙ length-map (arrows_at (graph_view a.graph) v) (λ (x : Arrow). x.from)

held_at : (a : Flow) (us : List ℕ) (cells : List (Cell Stated)) (k : ℕ) (d : Cell Stated) → HoldEach (may_hold_of (equations_of a) (IsOverFlow a)) us cells → k < length cells → (value_of (stated a.layout None) (slice_index_or cells k d)).layout ≡ a.layout
held_at a us [] k d h l = absurd (omega arith)
held_at a [] (c ∷ cells) k d h l = absurd h
held_at a (u ∷ us) (c ∷ cells) zero d h l = value_at (equations_of a) (IsOverFlow a) (flow_keeps a) u (part_at a.parts u) c h.0
held_at a (u ∷ us) (c ∷ cells) (suc k) d h l = held_at a us cells k d h.1 (omega arith)

pub cell_held : (a : Flow) (v : ℕ) (cells : List (Cell Stated)) (k : ℕ) (d : Cell Stated) → HoldEach (may_hold_of (equations_of a) (IsOverFlow a)) (origins (arrows_at (graph_view a.graph) v)) cells → k < length cells → (value_of (stated a.layout None) (slice_index_or cells k d)).layout ≡ a.layout
cell_held a v cells k d h l = held_at a (origins (arrows_at (graph_view a.graph) v)) cells k d h l

pub arrived_step : (a : Flow) (v : ℕ) (cells : List (Cell Stated)) (k : ℕ) (d : Arrow) (b : Cell Stated) (old next new : Stated) → k < length (arrows_at (graph_view a.graph) v) → k < length cells → IsArrivedTo a v cells k old
    → next ≡ stated a.layout (transferred a.layout (value_of (stated a.layout None) (slice_index_or cells k b)).facts (instr_of (graph_view a.graph) (slice_index_or (arrows_at (graph_view a.graph) v) k d)))
    → new ≡ stated old.layout (joined old.facts next.facts) → IsArrivedTo a v cells (k + 1) new
arrived_step a v cells k d b old next new h l so told made = record {
  layout = ap (λ (t : Stated). t.layout) made ∙ so.layout;
  rest = ap (λ (t : Stated). arrived g a.layout (drop (k + 1) arrows) (drop (k + 1) (facts_in a cells)) t.facts) made
      ∙ ap (λ (t : Stated). arrived g a.layout (drop (k + 1) arrows) (drop (k + 1) (facts_in a cells)) (joined old.facts t.facts)) told
      ∙ ap (λ (f : Option Facts). arrived g a.layout (drop (k + 1) arrows) (drop (k + 1) (facts_in a cells)) (joined old.facts (transferred a.layout f (instr_of g (slice_index_or arrows k d))))) (sym (facts_at cells k l))
      ∙ sym (arrived_next g a.layout arrows (facts_in a cells) k d (value_of (stated a.layout None) b).facts old.facts h (omega (arith, l, size)))
      ∙ so.rest;
}
  where
    g : GraphOf
    g = graph_view a.graph

    arrows : List Arrow
    arrows = arrows_at (graph_view a.graph) v

    size : length (facts_in a cells) ≡ length cells
    size = length-map (map (value_of (stated a.layout None)) cells) (λ (s : Stated). s.facts) ∙ length-map cells (value_of (stated a.layout None))

    facts_at : (cs : List (Cell Stated)) (i : ℕ) → i < length cs → slice_index_or (facts_in a cs) i (value_of (stated a.layout None) b).facts ≡ (value_of (stated a.layout None) (slice_index_or cs i b)).facts
    facts_at [] i p = absurd (omega arith)
    facts_at (c ∷ cs) zero p = refl
    facts_at (c ∷ cs) (suc i) p = facts_at cs i (omega arith)

pub arrived_all : (a : Flow) (v : ℕ) (cells : List (Cell Stated)) (k : ℕ) (s : Stated) → length (arrows_at (graph_view a.graph) v) ≤ k → IsArrivedTo a v cells k s → s ≡ stated a.layout (equation (graph_view a.graph) a.layout v (facts_in a cells))
arrived_all a v cells k s h so =
    ap (λ (l : Layout). stated l s.facts) so.layout
    ∙ ap (λ (f : Option Facts). stated a.layout f) (sym (arrived_end (graph_view a.graph) a.layout (arrows_at (graph_view a.graph) v) (facts_in a cells) k s.facts h) ∙ so.rest)
