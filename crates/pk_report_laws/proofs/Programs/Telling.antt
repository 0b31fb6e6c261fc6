-- From runs of a program to runs of its graph, and to what is told of it.
use Rattle.std.specs.Prelude.{◌≡◌, ◌⊎◌, ℕ, ◌<◌, Bool, true, false, not, if◌then◌else◌, List, ◌∷◌, length, All, Contains, Option, Some, None}
use Rattle.std.specs.List.{filter}
use Rattle.std.proofs.Common.{refl, sym, subst, inl, inr}
use Rattle.std.proofs.lemmas.List.Elements.{All-nil, All-cons, All-get_or, All-contains, All-map, All-filter}
use Rattle.pk_graph.specs.declared.verdicts.Verdict.TheVariants.{Unknown}
use Rattle.pk_graph.specs.Accesses.{AccessOf, accesses_of, of_instr}
use Rattle.pk_graph.specs.declared.graphs.Entry.{Entry}
use Rattle.pk_graph.specs.Graphs.{EdgeOf, GraphOf, no_point, point_at, named_in, kinds_of}
use Rattle.pk_graph.specs.declared.trees.Site.{Site}
use Rattle.pk_graph.specs.Trees.{InstrOf, Skip, Set, Havoc, Clear, Load, Store, Guard, Check}
use Rattle.pk_graph.specs.Steps.{Numbers, Failure, To, effect, is_index}
use Rattle.pk_graph.specs.Stores.{Stored, storing}
use Rattle.pk_graph.specs.WellMade.{IsGraph, IsPointOf, IsEdgeOf}
use Rattle.pk_state.specs.Facts.{Stated}
use Rattle.pk_sound.specs.Runs.{Reaches, begins, steps as step_of}
use Rattle.pk_report.specs.Reports.{state_at}
use Rattle.pk_sound.specs.Faults.{IsHidden, IsFailing}
use Rattle.pk_access_laws.specs.Laws.{NoneTwice}
use Rattle.pk_computed_laws.specs.Evaluated.{OperationsAreEvaluated}
use Rattle.pk_folded_texts.specs.Texts.{AccessesThemselvesAreEvaluated}
use Rattle.pk_report_laws.proofs.Programs.Reached.{reached as reached_by, reached_or_constant, none_computes}
use Rattle.pk_report_laws.specs.Runs.True.{AreTrueStates, IsUnknown, verdict_by}
use Rattle.pk_meaning.specs.Programs.{Program}
use Rattle.pk_meaning.specs.Runs.{Visit}
use Rattle.pk_visits.specs.GraphVisits.{GraphRuns, ends, steps, is_visit, visit_at, visits_if}
use Rattle.pk_meaning.specs.Endings.{IsNeverStuck}
use Rattle.pk_loop_texts.specs.Laws.{BeginsAtOne}
use Rattle.pk_loop_heads.specs.Laws.{IsPlainLoop}
use Rattle.pk_loop_heads_texts.specs.Laws.{TurnsAreHeads}
use Rattle.pk_visits.specs.Turning.{TurnsAreAt, graph_turns}
use Rattle.pk_visits.specs.SameVisits.{GraphVisits, HaveSameVisits, FailsAt, EndsAt, IsInside}
use Rattle.pk_report_laws.specs.Programs.Told.{IsToldOf, IsToldVisit}
use Rattle.pk_report_laws.specs.Programs.ToldOfPrograms.{IsToldFault, IsToldEnd, TurnsAreTold}
use Rattle.pk_report_laws.specs.Programs.TrueOfPrograms.{AreToldAlong, ends as no_more, seen, passed, AreToldInOrder, told_by, IsTrueOfProgram}
use Rattle.pk_sound.proofs.Accesses.{IsAccessAt, in_instr}
use Rattle.pk_visits_laws.specs.Ways.OneWay.{SharesAccesses}
use Rattle.pk_report_laws.proofs.Programs.Bounded.{store_told}
use Rattle.pk_report_laws.proofs.Programs.Listed.{listed_access}

-- an index that lies inside doesn't fault
not_inside : (b : Bool) → b ≡ true → b ≡ false → ⊥
not_inside b left right = cc

not_hidden : (i : InstrOf ℕ) (at : Site) (s : Stored) → IsInside i s → IsHidden i at s → ⊥
not_hidden Skip at s inside h = h
not_hidden (Set x e) at s inside h = h
not_hidden (Havoc x t n) at s inside h = h
not_hidden (Clear a) at s inside h = h
not_hidden (Load x a place b i) at s inside h = not_inside (is_index a.length h.2) (inside h.0 h.2 h.3) h.4
not_hidden (Store a place b i e) at s inside h = not_inside (is_index a.length h.2) (inside h.0 h.2 h.3) h.4
not_hidden (Guard e b) at s inside h = h
not_hidden (Check place e) at s inside h = h

-- the variables in scope are those of entries
named_below : (n : ℕ) (es : List Entry) → All (λ (e : Entry). e.variable < n) es → All (λ (x : ℕ). x < n) (named_in es)
named_below n es h =
    All-map (λ (x : ℕ). x < n) (λ (e : Entry). e.variable) (filter (λ (e : Entry). not e.hides) es) (All-filter (λ (e : Entry). not e.hides) (λ (e : Entry). e.variable < n) es h)

module _ (p : Program) (g : GraphOf) (heads : List ℕ) (states : List Stated) (made : IsGraph g) (t : AreTrueStates g states) (share : (p : ℕ) → SharesAccesses p (point_at g p).edges) where
  -- a run comes to points of the graph alone
  there : (v : ℕ) (s : Stored) → Reaches g v s → v < length g.points
  there v s (begins h) = made.entry
  there v r (step_of {p = p} {s = s} {t = q} {e = e} chosen h has goes) =
      let point = All-get_or (IsPointOf g) g.points p no_point (there p s h) made.points in
      (All-contains (IsEdgeOf g) (point_at g p).edges e point.edges has).leads_to_a_point

  told_of : (v : ℕ) (s : Stored) → Reaches g v s → IsToldOf g states v (visit_at g v s)
  told_of v s h =
      let point = All-get_or (IsPointOf g) g.points v no_point (there v s h) made.points in
      store_told g (state_at states v).layout (state_at states v).facts v s (t.stores v s h) (named_below (length g.variables) (point_at g v).scope point.scope) (t.holds v s h)

  told : (v : ℕ) (s : Stored) → Reaches g v s → IsToldVisit g states (visit_at g v s)
  told v s h = record { point = v; there = there v s h; told = told_of v s h }

  told_if : (e : EdgeOf) (s : Stored) (vs : List Visit) → Reaches g e.to s → All (IsToldVisit g states) vs → All (IsToldVisit g states) (visits_if g e s vs)
  told_if e s vs h all = by (is_visit g e)
    where
      by : (b : Bool) → All (IsToldVisit g states) (if b then visit_at g e.to s ∷ vs else vs)
      by true = All-cons (IsToldVisit g states) (visit_at g e.to s) vs (told e.to s h) all
      by false = all

  reached : (p : ℕ) (s : Stored) (vs : List Visit) (q : ℕ) (r : Stored) → GraphRuns g p s vs q r → Reaches g p s → All (IsToldVisit g states) vs × Reaches g q r
  reached p s vs q r ends h = (All-nil (IsToldVisit g states), h)
  reached p s ws q r (steps {t = u} {e = e} {vs = vs} chosen has goes rest) h =
      let next = step_of chosen h has goes in
      let more = reached e.to u vs q r rest next in
      (told_if e u vs next more.0, more.1)

  -- one edge more
  along_if : (p q : ℕ) (e : EdgeOf) (s u r : Stored) (vs : List Visit) (chosen : Numbers) → Contains (point_at g p).edges e → effect storing chosen e.instr s ≡ To u → Reaches g e.to u → AreToldAlong g states e.to u vs q r → AreToldAlong g states p s (visits_if g e u vs) q r
  along_if p q e s u r vs chosen has goes h more = by (is_visit g e) refl
    where
      by : (b : Bool) → is_visit g e ≡ b → AreToldAlong g states p s (if b then visit_at g e.to u ∷ vs else vs) q r
      by true is = seen chosen has goes is (told_of e.to u h) more
      by false is = passed chosen has goes is more

  along : (p : ℕ) (s : Stored) (vs : List Visit) (q : ℕ) (r : Stored) → GraphRuns g p s vs q r → Reaches g p s → AreToldAlong g states p s vs q r
  along p s vs q r ends h = no_more
  along p s ws q r (steps {t = u} {e = e} {vs = vs} chosen has goes rest) h =
      let next = step_of chosen h has goes in
      along_if p q e s u r vs chosen has goes next (along e.to u vs q r rest next)

  walked : (visits : List Visit) (end : Option Failure) → GraphVisits g visits end → AreToldInOrder g states visits end
  walked visits end x = record {
    first = x.first;
    point = x.point;
    last = x.last;
    others = x.others;
    starts = x.begins;
    visits_are = x.visits_are;
    begins = told_of 0 x.first (begins x.begins);
    goes_on = along 0 x.first x.others x.point x.last x.runs (begins x.begins);
    at_end = x.ends;
  }

  failing : (point : ℕ) (s : Stored) (f : Failure) → Reaches g point s → FailsAt g point s f → IsToldFault (told_by p g heads states) f
  failing point s f h x = by (t.faults point s x.edge x.chosen f h x.there x.fails)
    where
      by : ((a : AccessOf) × IsFailing point x.edge.instr f s a × IsUnknown (verdict_by states) point a.operation) ⊎ IsHidden x.edge.instr f.site s → IsToldFault (told_by p g heads states) f
      by (inl (a, is, (lo, hi, unknown))) =
          let here = All-get_or (IsPointOf g) g.points point no_point (there point s h) made.points in
          let edge = All-contains (IsEdgeOf g) (point_at g point).edges x.edge here.edges x.there in
          let at = (All-contains (IsAccessAt (kinds_of g) point) (of_instr point x.edge.instr) a (in_instr (kinds_of g) point x.edge.instr edge.typed) is.listed).point in
          record {
            access = a;
            listed = listed_access g point x.edge a (there point s h) x.there (share point) is.listed;
            place = is.site;
            kind = is.fault;
            lo = lo;
            hi = hi;
            unknown = subst (λ (v : ℕ). verdict_by states v a.operation ≡ Unknown lo hi) (sym at) unknown;
          }
      by (inr hidden) = absurd (not_hidden x.edge.instr f.site s x.inside hidden)

  ended : (point : ℕ) (s : Stored) (end : Option Failure) → Reaches g point s → EndsAt g point s end → IsToldEnd (told_by p g heads states) end
  ended point s None h x = tt
  ended point s (Some f) h x = failing point s f h x

  of_graph : (visits : List Visit) (end : Option Failure) → GraphVisits g visits end → All (IsToldVisit g states) visits × IsToldEnd (told_by p g heads states) end
  of_graph visits end x =
      let first = begins x.begins in
      let all = reached 0 x.first x.others x.point x.last x.runs first in
      (subst (All (IsToldVisit g states)) (sym x.visits_are) (All-cons (IsToldVisit g states) (visit_at g 0 x.first) x.others (told 0 x.first first) all.0), ended x.point x.last end all.1 x.ends)

  -- what is told where a turn begins
  turned : TurnsAreAt p g (graph_turns p.unit p.paths) → TurnsAreTold p (told_by p g heads states)
  turned law choice first last visits here behind loop a starts goes is =
      let t = law choice first last visits here behind loop a starts goes is in
      let all = reached 0 t.2.first visits t.0 t.2.store t.2.runs (begins t.2.begins) in
      (t.0, t.1, subst (IsToldOf g states t.0) t.2.visit (told_of t.0 t.2.store all.1))

pub true_of : (g : GraphOf) (heads : List ℕ) (states : List Stated) (p : Program) → IsGraph g → AreTrueStates g states → ((v : ℕ) → SharesAccesses v (point_at g v).edges) → HaveSameVisits p g → IsNeverStuck p → NoneTwice (accesses_of g) → OperationsAreEvaluated p g
    → AccessesThemselvesAreEvaluated p g → TurnsAreAt p g (graph_turns p.unit p.paths) → ((path : ℕ) → BeginsAtOne (graph_turns p.unit p.paths path)) → TurnsAreHeads g (IsPlainLoop p.unit p.paths) (graph_turns p.unit p.paths) → IsTrueOfProgram p (told_by p g heads states)
true_of g heads states p made t share same on once all themselves turns one plain = record {
  holds = record {
    goes_on = on;
    visits = λ visits end x. (of_graph p g heads states made t share visits end (same.forward visits end x)).0;
    faults = λ visits end x. (of_graph p g heads states made t share visits end (same.forward visits end x)).1;
    lines = once;
    computed = reached_or_constant p g heads states t all;
    unreachable = none_computes p g heads states t themselves;
    turns = turned p g heads states made t share turns;
    one_point = one;
  };
  runs = same;
  points = t;
  walks = λ visits end x. walked p g heads states made t share visits end (same.forward visits end x);
  computed = reached_by p g heads states t all;
  heads = plain;
}
