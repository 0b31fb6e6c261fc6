-- A program and its graph have the same visits.
use Rattle.std.proofs.Common.{◌≡◌, ℕ, List, ◌∷◌, map, Option, sym, ap, subst, ◌∙◌}
use Rattle.std.specs.Prelude.{option_map}
use Rattle.pk_typed.specs.Trees.{UnitTree}
use Rattle.pk_calls.specs.declared.listings.CallPath.{CallPath}
use Rattle.pk_calls.specs.Calls.{HasBody}
use Rattle.pk_calls.specs.Paths.{IsListing}
use Rattle.pk_calls.specs.Laws.{AreCallPaths, PathsAreAll}
use Rattle.pk_graph.specs.Graphs.{PathOf}
use Rattle.pk_graph.specs.Steps.{Failure}
use Rattle.pk_draft.specs.Drafts.{DraftOf, entry_point}
use Rattle.pk_number.specs.Numbering.{numbered}
use Rattle.pk_lower.specs.Paths.{path_of}
use Rattle.pk_welltyped.specs.WellTyped.{IsUnit}
use Rattle.pk_welltyped.specs.Marks.{AreMarked}
use Rattle.pk_meaning.specs.Programs.{function_of, first_objects}
use Rattle.pk_meaning.specs.Steps.{Config}
use Rattle.pk_meaning.specs.Runs.{Visit, visit_of, begins}
use Rattle.pk_visits.specs.GraphVisits.{visit_at}
use Rattle.pk_visits.specs.SameVisits.{GraphVisits, ProgramsAreFollowed, GraphsHaveProgramVisits}
use Rattle.pk_meaning.specs.Endings.{ProgramVisits}
use Rattle.pk_visits.proofs.Stands.{StandsAt}
use Rattle.pk_visits.proofs.Journeys.{law, stands_first}
use Rattle.pk_visits.proofs.Numbered.Edges.{entry_found, entry_number}
use Rattle.pk_visits.proofs.Numbered.Starts.{first_memory}
use Rattle.pk_visits.proofs.Numbered.Copies.{shown_at, visit_same}
use Rattle.pk_visits.proofs.Numbered.Names.{edge_by}
use Rattle.pk_visits.proofs.Numbered.Parts.{program_by}
use Rattle.pk_visits_laws.proofs.Followed.Pairs as pair
use Rattle.pk_visits_laws.proofs.Followed.Pairs.{Pair, pairs, whole, AreTyped, pairs_are_typed}
use Rattle.pk_visits_laws.proofs.Followed.Naming.{naming, Made}
use Rattle.pk_visits_laws.proofs.Followed.Graphs.{program_of, by_numbers, graph, all_noted}
use Rattle.pk_visits_laws.proofs.Followed.Copies.{is_copy}
use Rattle.pk_visits_laws.proofs.Followed.Starts.{have_kinds}
use Rattle.pk_visits_laws.proofs.Followed.Propers.{is_proper}
use Rattle.pk_visits_laws.proofs.Followed.Arguments.{arguments_given, first_fits, given_fits}
use Rattle.pk_visits_laws.proofs.Followed.Followed.{Stand}
use Rattle.pk_visits_laws.proofs.Followed.Standing.{unit_stands}
use Rattle.pk_visits_laws.proofs.Ways.Ways.{from, IsWay}
use Rattle.pk_visits_laws.proofs.Ways.Regions.{exit_point}
use Rattle.pk_visits_laws.proofs.Ways.Renamed.{from_by, way_by}
use Rattle.pk_visits_laws.proofs.Ways.Programs.{whole_way, whole_exit}
use Rattle.pk_visits_laws.proofs.Same.Backward.{IsSetting, comes}
use Rattle.pk_visits_laws.proofs.Same.Failing.{ends_so}
use Rattle.pk_visits_laws.proofs.Same.Beginning.{begins_so}
use Rattle.pk_lower.specs.Graphs.{graph_of}

is_setting : (u : UnitTree) (entry : ℕ) (paths : List CallPath) → IsUnit u → AreMarked u → HasBody u entry → IsListing u entry paths → AreCallPaths u entry paths → AreTyped u paths → Stand u paths
    → IsSetting (naming u paths) (Made u paths) (graph u paths) (by_numbers u paths)
is_setting u entry paths unit marked has l are h b = record {
  copy = is_copy u paths h;
  kinds = have_kinds u paths unit h;
  law = law (graph u paths) (is_proper u entry paths l h) b.bodies (all_noted u paths);
  ways = λ x. subst (λ es. IsWay (from x es)) (sym edges) (subst IsWay (sym (from_by pair.number_of x (whole u paths).edges)) (way_by pair.number_of (from x (whole u paths).edges) (whole_way u entry paths unit marked has l are h x)));
  exit = ap (λ x. from x (by_numbers u paths).edges) b.exit ∙ ap (λ es. from exit_point es) edges ∙ from_by pair.number_of exit_point (whole u paths).edges ∙ ap (map (edge_by pair.number_of)) (whole_exit u entry paths unit marked has l are h);
} where
  edges : (by_numbers u paths).edges ≡ map (edge_by pair.number_of) (whole u paths).edges
  edges = ap (λ (d : DraftOf ℕ). d.edges) (program_by Pair ℕ pair.number_of pairs u paths)

graph_led : (u : UnitTree) (entry : ℕ) (paths : List CallPath) → IsUnit u → AreMarked u → HasBody u entry → IsListing u entry paths → AreCallPaths u entry paths → AreTyped u paths → Stand u paths
    → (visits : List Visit) (end : Option Failure) → GraphVisits (graph_of u paths) visits end → ProgramVisits (program_of u paths) visits end
graph_led u entry paths unit marked has l are h b visits end v =
    let p = program_of u paths in
    let g = graph u paths in
    let d = by_numbers u paths in
    let shown : List PathOf = map (path_of u paths) paths in
    let set = is_setting u entry paths unit marked has l are h b in
    let s = begins_so u entry paths unit l h b.some shown v.first v.begins in
    let proper = is_proper u entry paths l h in
    let given = arguments_given 0 (function_of p 0).parameters s.choice (first_objects p) s.objects s.is in
    let fits = given_fits p (function_of p 0).parameters (first_objects p) s.objects given (λ j t e. proper.parameters 0 j t b.some e) (first_fits u paths unit) in
    let first : Config = begins p s.objects in
    let z : StandsAt g first entry_point (first_memory s.objects) = stands_first g s.objects (b.bodies 0 b.some) b.entry fits in
    let c = comes (naming u paths) (Made u paths) shown g d set v.runs first entry_point (first_memory s.objects) (entry_number d) (entry_found d) s.mirrors z in
    let e = ends_so (naming u paths) (Made u paths) shown g d set first v.others v.point v.last end c v.ends in
    record {
      choice = s.choice;
      first = first;
      last = e.last;
      others = v.others;
      starts = ap (option_map (begins p)) s.is;
      runs = e.runs;
      visits_are = v.visits_are ∙ ap (λ x. x ∷ v.others) (subst (λ n. visit_at (numbered shown d) n v.first ≡ visit_of p first) (entry_number d)
          (visit_same (naming u paths) (Made u paths) shown p d entry_point first.path first.here (first_memory s.objects) v.first (entry_found d)
          (shown_at (naming u paths) (Made u paths) g d entry_point first.path first.here set.copy b.shown) s.mirrors));
      ends = e.ends;
    }

pub graphs_have_program_visits : PathsAreAll → ProgramsAreFollowed → GraphsHaveProgramVisits
graphs_have_program_visits law followed u name paths unit marked has few =
    let entry = has.entry in
    let body = has.is_entry.0.0 in
    let are = law.all u entry has.seen paths has.walks has.is_listing in
    let typed = pairs_are_typed u entry paths unit body has.is_listing are in
    record {
      forward = followed u name paths unit marked has few;
      backward = graph_led u entry paths unit marked body has.is_listing are typed (unit_stands u entry paths unit marked body has.is_listing are typed);
    }
