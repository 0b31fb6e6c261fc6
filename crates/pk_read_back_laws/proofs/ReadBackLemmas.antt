-- Reports on graphs, and on those of units, are read back.
use Rattle.std.specs.Prelude.{◌≡◌, ℕ, ◌<◌, ◌≤◌, ◌^◌, Bool, true, List, [], ◌∷◌, ◌++◌, length, map, slice_index_or, Option, Some, None, IfSome}
use Rattle.std.proofs.Common.{arith, sym, ap, subst, refl, ◌∙◌}
use Rattle.std.specs.List.{flat_map, range_with_len, zip}
use Rattle.std.proofs.lemmas.List.{length-map, length-append}
use Rattle.std.proofs.lemmas.Option.{slice_get-get_or}
use Rattle.pk_typed.specs.Trees.{UnitTree}
use Rattle.pk_calls.specs.declared.listings.CallPath.{CallPath}
use Rattle.pk_graph.specs.declared.trees.Site.{Site}
use Rattle.pk_graph.specs.declared.verdicts.Verdict.{Verdict}
use Rattle.pk_graph.specs.Accesses.{AccessOf, accesses_of}
use Rattle.pk_graph.specs.Graphs.{PathOf, VariableOf, GraphOf, no_variable, no_point, variable_at}
use Rattle.pk_graph.specs.WellMade.{IsGraph}
use Rattle.pk_draft.specs.Drafts.{by_number}
use Rattle.pk_number.specs.Typed.{IsTypedDraft}
use Rattle.pk_number.proofs.NumberedLemmas.{numbered_is_graph}
use Rattle.pk_lower.specs.Graphs.{graph_of}
use Rattle.pk_lower.specs.Parts.{program_draft}
use Rattle.pk_lower.specs.Paths.{path_of}
use Rattle.pk_lower_laws.specs.Drafts.Laws.{DraftsAreTyped}
use Rattle.pk_places_laws.specs.Places as places
use Rattle.pk_places_laws.specs.Names as names
use Rattle.pk_places_laws.proofs.Callers.{callers_come_first}
use Rattle.pk_places_laws.proofs.Graphs.{places_told, names_told, accesses_are_on_paths}
use Rattle.pk_places_laws.proofs.Told.{at_or}
use Rattle.pk_state.specs.Facts.{Stated}
use Rattle.pk_plan.specs.Plans.{PlanView}
use Rattle.pk_order.specs.Ordered.{heads_of}
use Rattle.pk_analysis.specs.declared.analysis.Options.{Options}
use Rattle.pk_solver.specs.Solved.{AreStates}
use Rattle.pk_report.specs.Paths.{no_path, path_at}
use Rattle.pk_report.specs.Reports.{access_line, first_line, last_line, told_lines, report_text}
use Rattle.pk_graph_report.specs.Reported.{verdict_at, verdicts_of}
use Rattle.pk_show.specs.Laws.{IsPlace}
use Rattle.pk_show.specs.Pieces.{is_identifier}
use Rattle.pk_show.specs.Reports.{report_in}
use Rattle.pk_show_laws.specs.Laws.{ReportsGiveTheirRows}
use Rattle.pk_show_laws.specs.Tellable.{IsCalledBefore, IsPathOf, IsName, HasTellableNames, IsTellableAccess, IsTellable}
use Rattle.pk_show_laws.proofs.TellableLemmas.{graphs_are_tellable}
use Rattle.pk_read_back_laws.specs.Laws.{CanBeReported, GraphReportsAreReadBack, IsTellableUnit, ReportsAreReadBack}
use Rattle.pk_read_back_laws.proofs.StateLemmas.{states_told, layouts_told, verdicts_told, elements_few, each_with, paired}

-- ---- graphs

-- each access has a line, which isn't empty
line_some : (ps : List PathOf) (a : AccessOf × Verdict) → 0 < length (access_line ps a)
line_some ps a = simp length-append (omega arith)

lines_many : (ps : List PathOf) (xs : List (AccessOf × Verdict)) → length xs ≤ length (flat_map (access_line ps) xs)
lines_many ps [] = omega arith
lines_many ps (x ∷ xs) = omega (arith, line_some ps x, lines_many ps xs, length-append (access_line ps x) (flat_map (access_line ps) xs))

-- so there are no more accesses than bytes
accesses_few : (all : Bool) (g : GraphOf) (heads : List ℕ) (elements : ℕ) (states : List Stated) (bytes : List ℕ)
    → bytes ≡ report_text all g heads elements states (accesses_of g) (verdicts_of g states) → length bytes < 2 ^ 64 → length (accesses_of g) < 2 ^ 64
accesses_few all g heads elements states bytes told few =
    let rows : List (AccessOf × Verdict) = zip (accesses_of g) (verdicts_of g states) in
    let start : List ℕ = first_line g elements ++ flat_map (told_lines all g heads states) (range_with_len 0 (length g.points)) in
    let lines : List ℕ = flat_map (access_line g.paths) rows in
    omega (arith, few, ap (λ (b : List ℕ). length b) told, length-append (start ++ lines) (last_line (verdicts_of g states)), length-append start lines, lines_many g.paths rows, paired (verdict_at states) (accesses_of g))

report_told : (g : GraphOf) (o : Options) (most : ℕ) (p : PlanView) (states : List Stated) → CanBeReported g → o.oct < 2 ^ 31 → length (accesses_of g) < 2 ^ 64 → AreStates g o most p states
    → IsTellable g p.elements states (accesses_of g) (verdicts_of g states)
report_told g o most p states h oct few x = record {
  graph = graphs_are_tellable g h.graph h.names;
  elements_few = elements_few g o most p states h.graph oct x;
  layouts = layouts_told g o most p states h.graph oct x;
  facts = states_told g o most p states h.graph oct x;
  each = each_with (IsTellableAccess g) (verdict_at states) (accesses_of g) (λ k d l. (let a = h.accesses k d l in record { path = a.path; at = a.at; verdict = verdicts_told g o most p states h.graph oct x k d l }));
  verdicts_few = subst (λ n. n < 2 ^ 64) (sym (length-map (accesses_of g) (verdict_at states))) few;
}

pub graph_reports_are_read_back : ReportsGiveTheirRows → GraphReportsAreReadBack
graph_reports_are_read_back law g o most all unknown bytes h oct short r = record {
  plan = r.plan;
  states = r.states;
  are_states = r.are_states;
  read = ap report_in r.told ∙ law all g (heads_of r.plan) r.plan.elements r.states (accesses_of g) (verdicts_of g r.states)
      (report_told g o most r.plan r.states h oct (accesses_few all g (heads_of r.plan) r.plan.elements r.states bytes r.told short) r.are_states);
}

-- ---- graphs of units

called_before : (k : ℕ) (o : Option Site) → ((s : Site) → o ≡ Some s → s.path < k) → IfSome o (λ (s : Site). IsPlace s.at) → IsCalledBefore k o
called_before k None f h = tt
called_before k (Some s) f h = (f s refl, h)

name_is : (o : Option (List ℕ)) → IfSome o (λ name. is_identifier name ≡ true) → IsName o
name_is None h = tt
name_is (Some name) h = h

nowhere_is : IsPlace (record { line = 0; column = 0 })
nowhere_is = record { line = omega arith; column = omega arith }

module _ (u : UnitTree) (entry : ℕ) (paths : List CallPath) (h : IsTellableUnit u entry paths) where
  in_places : places.InGraph IsPlace (graph_of u paths)
  in_places = places_told IsPlace u paths nowhere_is h.places

  in_names : names.InGraph (λ name. is_identifier name ≡ true) (graph_of u paths)
  in_names = names_told (λ name. is_identifier name ≡ true) u entry paths h.entry_has_body h.call_paths h.names

  path_is : (k : ℕ) → k < length (graph_of u paths).paths → IsPathOf k (path_at (graph_of u paths).paths k)
  path_is k l = record {
    name = in_names.paths k no_path l;
    call = called_before k (path_at (graph_of u paths).paths k).call
        (λ s e. callers_come_first u entry paths h.listing k (path_at (graph_of u paths).paths k) s (slice_get-get_or (graph_of u paths).paths k no_path l) e)
        (in_places.calls k no_path l);
  }

  names_are : HasTellableNames (graph_of u paths)
  names_are = record {
    paths = path_is;
    names = λ x. name_is (variable_at (graph_of u paths) x).name (at_or (λ (v : VariableOf). IfSome v.name (λ name. is_identifier name ≡ true)) (graph_of u paths).variables x no_variable tt in_names.variables);
    point_places = λ v l. in_places.points v no_point l;
  }

  many : length (graph_of u paths).paths ≡ length paths
  many = length-map paths (path_of u paths)

  graph_is : DraftsAreTyped → IsGraph (graph_of u paths)
  graph_is law =
      numbered_is_graph (map (path_of u paths) paths) (program_draft by_number u paths)
      (subst (λ n. IsTypedDraft n (program_draft by_number u paths)) (sym many) (law u entry paths h.typed h.entry_has_body h.listing h.call_paths h.points))

  pub unit_told : DraftsAreTyped → CanBeReported (graph_of u paths)
  unit_told law = record {
    graph = graph_is law;
    names = names_are;
    accesses = λ k d l. record { path = subst (λ n. (slice_index_or (accesses_of (graph_of u paths)) k d).site.path < n) (sym many) (accesses_are_on_paths u paths k d l); at = in_places.accesses k d l };
  }

pub reports_are_read_back : DraftsAreTyped → GraphReportsAreReadBack → ReportsAreReadBack
reports_are_read_back drafts law u entry paths o most all unknown bytes h oct short r =
    law (graph_of u paths) o most all unknown bytes (unit_told u entry paths h drafts) oct short r
