-- A graph has one analysis and one result of it.
use Rattle.std.specs.Prelude.{◌≡◌, ℕ, ◌+◌, ◌*◌, ◌==◌, if◌then◌else◌, ℤ, List, [], ◌∷◌, length, map, take, None}
use Rattle.std.specs.List.{range_with_len}
use Rattle.std.proofs.Common.{arith, refl, subst, sym, ap, ◌∙◌, ext_get_or}
use Rattle.std.proofs.lemmas.List.{length-map}
use Rattle.pk_plan.specs.declared.components.Component.{Component}
use Rattle.pk_plan.specs.Order.{Level}
use Rattle.pk_plan.specs.Plans.{PlanView}
use Rattle.pk_plan.specs.Axioms.{Axioms}
use Rattle.pk_graph.specs.Graphs.{GraphOf}
use Rattle.pk_graph.specs.Shown.{graph_view}
use Rattle.pk_state.specs.Layouts.{Layout}
use Rattle.pk_state.specs.Facts.{Stated}
use Rattle.pk_order.specs.Ordered.{OrderIsDetermined, heads_of}
use Rattle.pk_iterate.specs.Answer.{Over, IsResult}
use Rattle.pk_iterate.specs.Iteration.{cell_after, progress}
use Rattle.pk_iterate.specs.Outcome.{Outcome}
use Rattle.pk_phases.specs.declared.equations.Cell.{Cell}
use Rattle.pk_phases.specs.declared.equations.Part.{Part}
use Rattle.pk_phases.specs.declared.equations.Part.TheVariants.{Point, HeadOf, ExitOf}
use Rattle.pk_phases.specs.Equations.{Equations, behaviour_of}
use Rattle.pk_analysis.specs.declared.analysis.Options.{Options}
use Rattle.pk_analysis.specs.Arrows.{arrows_at, origins}
use Rattle.pk_analysis.specs.Digraphs.{digraph_of}
use Rattle.pk_analysis.specs.Parts.{part_in, part_at, AreParts}
use Rattle.pk_analysis.specs.Flows.{Flow, equations_of, equation, state_operations, stated, reduced_over}
use Rattle.pk_analysis.specs.Layouts.{layout_for}
use Rattle.pk_analysis_laws.specs.Systems.{HasManyPacks, IsOver, IsSystem}
use Rattle.pk_analysis_laws.proofs.Sorting.{thresholds_same}
use Rattle.pk_solver.specs.Solved.{AreRawCells, AreStates, RawCellsAreDetermined, StatesAreDetermined}
use Rattle.pk_solver.proofs.Packed.{counts_same, layouts_same}

-- ---- parts

part_same : (cs ds : List Component) (e : ℕ) → map (λ (c : Component). c.head) cs ≡ map (λ (c : Component). c.head) ds → map (λ (c : Component). c.exit) cs ≡ map (λ (c : Component). c.exit) ds → part_in cs e ≡ part_in ds e
part_same [] [] e h x = refl
part_same [] (d ∷ ds) e h x = absurd (cc)
part_same (c ∷ cs) [] e h x = absurd (cc)
part_same (c ∷ cs) (d ∷ ds) e h x =
    let head : c.head ≡ d.head = cc in
    let exit : c.exit ≡ d.exit = cc in
    let heads : map (λ (k : Component). k.head) cs ≡ map (λ (k : Component). k.head) ds = cc in
    let exits : map (λ (k : Component). k.exit) cs ≡ map (λ (k : Component). k.exit) ds = cc in
    let rest = part_same cs ds e heads exits in
    ap (λ (n : ℕ). if n == e then HeadOf c.exit else (if c.exit == e then ExitOf n else part_in cs e)) head
    ∙ ap (λ (n : ℕ). if d.head == e then HeadOf n else (if n == e then ExitOf d.head else part_in cs e)) exit
    ∙ ap (λ (p : Part). if d.head == e then HeadOf d.exit else (if d.exit == e then ExitOf d.head else p)) rest

exits_same : (p q : PlanView) → Axioms p → Axioms q → heads_of p ≡ heads_of q → p.elements ≡ q.elements → map (λ (c : Component). c.exit) p.components ≡ map (λ (c : Component). c.exit) q.components
exits_same p q x y heads elements =
    let many : length p.components ≡ length q.components =
    sym (length-map p.components (λ (c : Component). c.head)) ∙ ap (λ (ns : List ℕ). length ns) heads ∙ length-map q.components (λ (c : Component). c.head) in
    let points : p.points ≡ q.points = omega (arith, many, elements, x.counted, y.counted) in
    x.exits ∙ ap (λ (n : ℕ). range_with_len n (length p.components)) points ∙ ap (range_with_len q.points) many ∙ sym y.exits

parts_same : (p q : PlanView) (a b : List Part) → Axioms p → Axioms q → heads_of p ≡ heads_of q → p.elements ≡ q.elements → AreParts p a → AreParts q b → a ≡ b
parts_same p q a b x y heads elements h k =
    ext_get_or Point a b (h.size ∙ elements ∙ sym k.size)
    (λ e l. h.each e (omega (arith, l, h.size)) ∙ part_same p.components q.components e heads (exits_same p q x y heads elements) ∙ sym (k.each e (omega (arith, l, h.size, elements))))

-- ---- equations

-- the equations, of what they are made of
equations_from : GraphOf → Layout → List ℤ → List Part → (delay narrow : ℕ) → Equations Stated
equations_from g l ts parts delay narrow = record {
  ops = state_operations l ts;
  bottom = stated l None;
  part = part_at parts;
  sources = λ v. origins (arrows_at g v);
  value = λ v before. stated l (equation g l v (map (λ (s : Stated). s.facts) before));
  delay = delay;
  narrow = narrow;
}

are_from : (a : Flow) → equations_of a ≡ equations_from (graph_view a.graph) a.layout a.thresholds a.parts a.delay a.narrow
unfolding equations_from
are_from a = refl

-- the same system
record AreSame (g : GraphOf) (o : Options) (p q : PlanView) (one other : Level) (a b : Flow) : Type 0 where
  heads : heads_of p ≡ heads_of q
  elements : p.elements ≡ q.elements
  order : one ≡ other
  layout : a.layout ≡ b.layout
  equations : equations_of a ≡ equations_of b

systems_same : OrderIsDetermined → (g : GraphOf) (o : Options) (p q : PlanView) (one other : Level) (a b : Flow) → IsSystem g o p one a → IsSystem g o q other b → AreSame g o p q one other a b
systems_same law g o p q one other a b x y =
    let heads = law.heads (digraph_of g) p q one other x.ordered y.ordered in
    let elements = law.elements (digraph_of g) p q one other x.ordered y.ordered in
    let graph : graph_view a.graph ≡ graph_view b.graph = x.analysis.graph ∙ sym y.analysis.graph in
    let layout : a.layout ≡ b.layout = x.analysis.layout ∙ layouts_same g p q one other x.ordered y.ordered o ∙ sym y.analysis.layout in
    let thresholds : a.thresholds ≡ b.thresholds = thresholds_same g a.thresholds b.thresholds x.analysis.thresholds y.analysis.thresholds in
    let parts : a.parts ≡ b.parts = parts_same p q a.parts b.parts x.ordered.axioms y.ordered.axioms heads elements x.analysis.parts y.analysis.parts in
    let delay : a.delay ≡ b.delay = x.analysis.delay ∙ sym y.analysis.delay in
    let narrow : a.narrow ≡ b.narrow = x.analysis.narrow ∙ sym y.analysis.narrow in
    record {
      heads = heads;
      elements = elements;
      order = law.order (digraph_of g) p q one other x.ordered y.ordered;
      layout = layout;
      equations = are_from a
          ∙ ap (λ (h : GraphOf). equations_from h a.layout a.thresholds a.parts a.delay a.narrow) graph
          ∙ ap (λ (l : Layout). equations_from (graph_view b.graph) l a.thresholds a.parts a.delay a.narrow) layout
          ∙ ap (λ (ts : List ℤ). equations_from (graph_view b.graph) b.layout ts a.parts a.delay a.narrow) thresholds
          ∙ ap (λ (ps : List Part). equations_from (graph_view b.graph) b.layout b.thresholds ps a.delay a.narrow) parts
          ∙ ap (λ (d : ℕ). equations_from (graph_view b.graph) b.layout b.thresholds b.parts d a.narrow) delay
          ∙ ap (equations_from (graph_view b.graph) b.layout b.thresholds b.parts b.delay) narrow
          ∙ sym (are_from b);
    }

-- ---- results

-- the cells after an iteration
cells_of : Equations Stated → Level → (elements most : ℕ) → List (Cell Stated)
cells_of q order elements most = map (cell_after (behaviour_of q) (progress (behaviour_of q) order (elements * most + 1)).runs) (range_with_len 0 elements)

cells_same : OrderIsDetermined → (g : GraphOf) (o : Options) (most : ℕ) (p q : PlanView) (one other : Level) (a b : Flow) (x y : Outcome (Cell Stated))
    → IsSystem g o p one a → IsSystem g o q other b → IsResult (behaviour_of (equations_of a)) one p.elements most x → IsResult (behaviour_of (equations_of b)) other q.elements most y → x.cells ≡ y.cells
unfolding cells_of
cells_same law g o most p q one other a b x y s t found also =
    let same = systems_same law g o p q one other a b s t in
    found.cells_after
    ∙ (ap (λ (e : Equations Stated). cells_of e one p.elements most) same.equations
    ∙ ap (λ (l : Level). cells_of (equations_of b) l p.elements most) same.order
    ∙ ap (λ (n : ℕ). cells_of (equations_of b) other n most) same.elements)
    ∙ sym also.cells_after

not_over : OrderIsDetermined → (g : GraphOf) (o : Options) (most : ℕ) (p : PlanView) (order : Level) (a : Flow) (it : Outcome (Cell Stated))
    → IsSystem g o p order a → IsResult (behaviour_of (equations_of a)) order p.elements most it → IsOver g o most → ⊥
not_over law g o most p order a it s found y =
    let same = systems_same law g o y.plan p y.order order y.flow a y.system s in
    found.within
    (subst (λ (n : ℕ). Over (behaviour_of (equations_of a)) order n most) same.elements
    (subst (λ (l : Level). Over (behaviour_of (equations_of a)) l y.plan.elements most) same.order
    (subst (λ (e : Equations Stated). Over (behaviour_of e) y.order y.plan.elements most) same.equations y.over)))

-- ---- packs

too_many : (g : GraphOf) (o : Options) (p : PlanView) (order : Level) (a : Flow) → IsSystem g o p order a → HasManyPacks g o → ⊥
too_many g o p order a s y =
    let same = counts_same g p y.plan order y.order s.ordered y.ordered in
    let few = s.analysis.few y.asked in
    let many = y.many in
    absurd (omega (arith, same, few, many))

one_limit : (g : GraphOf) (o : Options) (most : ℕ) → IsOver g o most → HasManyPacks g o → ⊥
one_limit g o most x = too_many g o x.plan x.order x.flow x.system

-- ---- raw cells

raw_same : OrderIsDetermined → (g : GraphOf) (o : Options) (most : ℕ) (a b : List (Cell Stated)) → AreRawCells g o most a → AreRawCells g o most b → a ≡ b
raw_same law g o most a b x y =
    x.cells_are ∙ cells_same law g o most x.plan y.plan x.order y.order x.flow y.flow x.outcome y.outcome x.system y.system x.result y.result ∙ sym y.cells_are

raw_reduced : OrderIsDetermined → (g : GraphOf) (o : Options) (most : ℕ) (p : PlanView) (cells : List (Cell Stated)) (states : List Stated) → AreRawCells g o most cells → AreStates g o most p states
    → states ≡ map (reduced_over (layout_for g p o)) (take (length g.points) cells)
raw_reduced law g o most p cells states x y =
    y.reduced
    ∙ ap (λ (l : Layout). map (reduced_over l) (take (length g.points) y.outcome.cells)) y.system.analysis.layout
    ∙ ap (λ (cs : List (Cell Stated)). map (reduced_over (layout_for g p o)) (take (length g.points) cs))
    (cells_same law g o most p x.plan y.order x.order y.flow x.flow y.outcome x.outcome y.system x.system y.result x.result ∙ sym x.cells_are)

raw_within : OrderIsDetermined → (g : GraphOf) (o : Options) (most : ℕ) (cells : List (Cell Stated)) → AreRawCells g o most cells → IsOver g o most → ⊥
raw_within law g o most cells x = not_over law g o most x.plan x.order x.flow x.outcome x.system x.result

pub raw_cells_are_determined : OrderIsDetermined → RawCellsAreDetermined
raw_cells_are_determined law = record {
  cells = raw_same law;
  states = raw_reduced law;
  within = raw_within law;
  few_packs = λ g o most cells x. too_many g o x.plan x.order x.flow x.system;
}

-- ---- states

states_same : OrderIsDetermined → (g : GraphOf) (o : Options) (most : ℕ) (p q : PlanView) (s t : List Stated) → AreStates g o most p s → AreStates g o most q t → s ≡ t
states_same law g o most p q s t x y =
    let same = systems_same law g o p q x.order y.order x.flow y.flow x.system y.system in
    x.reduced
    ∙ (ap (λ (l : Layout). map (reduced_over l) (take (length g.points) x.outcome.cells)) same.layout
    ∙ ap (λ (cs : List (Cell Stated)). map (reduced_over y.flow.layout) (take (length g.points) cs))
    (cells_same law g o most p q x.order y.order x.flow y.flow x.outcome y.outcome x.system y.system x.result y.result))
    ∙ sym y.reduced

elements_same : OrderIsDetermined → (g : GraphOf) (o : Options) (most : ℕ) (p q : PlanView) (s t : List Stated) → AreStates g o most p s → AreStates g o most q t → p.elements ≡ q.elements
elements_same law g o most p q s t x y = law.elements (digraph_of g) p q x.order y.order x.system.ordered y.system.ordered

heads_same : OrderIsDetermined → (g : GraphOf) (o : Options) (most : ℕ) (p q : PlanView) (s t : List Stated) → AreStates g o most p s → AreStates g o most q t → heads_of p ≡ heads_of q
heads_same law g o most p q s t x y = law.heads (digraph_of g) p q x.order y.order x.system.ordered y.system.ordered

within_limit : OrderIsDetermined → (g : GraphOf) (o : Options) (most : ℕ) (p : PlanView) (states : List Stated) → AreStates g o most p states → IsOver g o most → ⊥
within_limit law g o most p states x = not_over law g o most p x.order x.flow x.outcome x.system x.result

pub states_are_determined : OrderIsDetermined → StatesAreDetermined
states_are_determined law = record {
  heads = heads_same law;
  elements = elements_same law;
  states = states_same law;
  within = within_limit law;
  few_packs = λ g o most p states x. too_many g o p x.order x.flow x.system;
  one_limit = one_limit;
}
