-- The graph of a unit follows its program, where each path's body stands.
use Rattle.std.proofs.Common.{◌≡◌, ℕ, ◌+◌, ◌<◌, List, length, map, Option, Some, None, refl, sym, ap, subst, ◌∙◌}
use Rattle.std.proofs.lemmas.Option.{none-some}
use Rattle.std.specs.Prelude.{option_map, unwrap_or}
use Rattle.pk_typed.specs.Trees.{UnitTree}
use Rattle.pk_calls.specs.declared.listings.CallPath.{CallPath}
use Rattle.pk_calls.specs.Paths.{IsListing}
use Rattle.pk_graph.specs.Steps.{Numbers, Failure}
use Rattle.pk_lower.specs.Paths.{path_of}
use Rattle.pk_welltyped.specs.WellTyped.{IsUnit}
use Rattle.pk_meaning.specs.Objects.{Objects}
use Rattle.pk_meaning.specs.Programs.{Program, function_of, first_objects}
use Rattle.pk_meaning.specs.Steps.{Config, body_place}
use Rattle.pk_meaning.specs.Runs.{Visit, with_arguments, begins, start}
use Rattle.pk_visits.specs.SameVisits.{GraphVisits}
use Rattle.pk_meaning.specs.Endings.{ProgramVisits, IsNeverStuck}
use Rattle.pk_visits.proofs.Slots.{region_at}
use Rattle.pk_visits.proofs.Stands.{ShowsAt, BodiesStand, StandsAt}
use Rattle.pk_visits.proofs.Journeys.{law, never_stuck, stands_first}
use Rattle.pk_visits.proofs.Numbered.Starts.{first_memory}
use Rattle.pk_visits.proofs.Numbered.Visits.{IsFollowed, followed_visits}
use Rattle.pk_visits_laws.proofs.Followed.Pairs.{AreTyped}
use Rattle.pk_visits_laws.proofs.Followed.Naming.{naming, Made}
use Rattle.pk_visits_laws.proofs.Followed.Graphs.{program_of, by_numbers, graph, all_noted}
use Rattle.pk_visits_laws.proofs.Followed.Copies.{is_copy}
use Rattle.pk_visits_laws.proofs.Followed.Starts.{have_kinds}
use Rattle.pk_visits_laws.proofs.Followed.Propers.{is_proper}
use Rattle.pk_visits_laws.proofs.Followed.Arguments.{Given, arguments_given, first_fits, given_fits}
use Rattle.pk_visits_laws.proofs.Followed.Starting.{starts_with}
use Rattle.pk_draft.specs.Drafts.{entry_point}
use Rattle.pk_lower.specs.Graphs.{graph_of}

-- a run begins with objects, and these are the first with the arguments
pub record BeginsAt (p : Program) (first : Config) : Type 0 where
  objects : Objects
  is : begins p objects ≡ first
  given : Given 0 (function_of p 0).parameters (first_objects p) objects

begun : (p : Program) (choice : Numbers) (first : Config) → start p choice ≡ Some first → BeginsAt p first
begun p choice first e = by (with_arguments 0 (function_of p 0).parameters choice (first_objects p)) refl where
  by : (o : Option Objects) → with_arguments 0 (function_of p 0).parameters choice (first_objects p) ≡ o → BeginsAt p first
  by None is = absurd (none-some first (sym (ap (option_map (begins p)) is) ∙ e))
  by (Some s) is = record {
    objects = s;
    is = ap (λ (q : Option Config). unwrap_or q first) (sym (ap (option_map (begins p)) is) ∙ e);
    given = arguments_given 0 (function_of p 0).parameters choice (first_objects p) s is;
  }

-- where each path's body stands, and the entry's begins at the entry point
pub record Stand (u : UnitTree) (paths : List CallPath) : Type 0 where
  pub some : 0 < length paths
  pub bodies : BodiesStand (graph u paths)
  pub entry : (region_at (graph u paths).regions 0).at ≡ entry_point
  pub exit : (region_at (graph u paths).regions 0).points ≡ entry_point + 1
  pub shown : ShowsAt (graph u paths) entry_point 0 (body_place (program_of u paths) 0)

pub is_followed : (u : UnitTree) (entry : ℕ) (paths : List CallPath) → IsUnit u → IsListing u entry paths → AreTyped u paths → Stand u paths → IsFollowed (naming u paths) (Made u paths) (graph u paths) (by_numbers u paths)
is_followed u entry paths unit l h b =
    let p = program_of u paths in
    let g = graph u paths in
    let proper = is_proper u entry paths l h in
    record {
      copy = is_copy u paths h;
      kinds = have_kinds u paths unit h;
      law = law g proper b.bodies (all_noted u paths);
      starts = λ choice first e. let f = begun p choice first e in starts_with u entry paths unit l h first.objects (record { given = subst (λ (c : Config). Given 0 (function_of p 0).parameters (first_objects p) c.objects) f.is f.given });
      stands = λ choice first e. let f = begun p choice first e in
          subst (λ (c : Config). StandsAt g c entry_point (first_memory c.objects)) f.is (stands_first g f.objects (b.bodies 0 b.some) b.entry
          (given_fits p (function_of p 0).parameters (first_objects p) f.objects f.given (λ j t s. proper.parameters 0 j t b.some s) (first_fits u paths unit)));
      shows = λ choice first e. let f = begun p choice first e in subst (λ (c : Config). ShowsAt g entry_point c.path c.here) f.is b.shown;
    }

pub graph_visits : (u : UnitTree) (entry : ℕ) (paths : List CallPath) → IsUnit u → IsListing u entry paths → AreTyped u paths → Stand u paths
    → (visits : List Visit) (end : Option Failure) → ProgramVisits (program_of u paths) visits end → GraphVisits (graph_of u paths) visits end
graph_visits u entry paths unit l h b visits end v =
    followed_visits (naming u paths) (Made u paths) (map (path_of u paths) paths) (graph u paths) (by_numbers u paths) (is_followed u entry paths unit l h b) visits end v

pub unit_never_stuck : (u : UnitTree) (entry : ℕ) (paths : List CallPath) → IsUnit u → IsListing u entry paths → AreTyped u paths → Stand u paths → IsNeverStuck (program_of u paths)
unit_never_stuck u entry paths unit l h b choice first last visits chosen starts runs is =
    let f = is_followed u entry paths unit l h b in
    never_stuck (graph u paths) f.law entry_point (first_memory first.objects) first last visits chosen runs (f.stands choice first starts) is
