-- Each path's body stands in the graph of its unit, and the entry's begins at the entry point; so the graph follows the program.
use Rattle.std.proofs.Common.{◌≡◌, ℕ, ◌+◌, ◌<◌, List, [], ◌∷◌, length, Option, Some, None, refl, ap, sym, subst, ◌∙◌, arith, slice_index_or}
use Rattle.std.proofs.lemmas.List.{length-replicate, get_or-set_same}
use Rattle.std.specs.Prelude.{unwrap_or, replicate}
use Rattle.pk_typed.specs.Trees.{BodyTree, FunctionTree, UnitTree}
use Rattle.pk_calls.specs.declared.listings.CallPath.{CallPath}
use Rattle.pk_calls.specs.Calls.{HasBody}
use Rattle.pk_calls.specs.Paths.{entry_path, IsListing}
use Rattle.pk_calls.specs.Laws.{AreCallPaths, PathsAreAll}
use Rattle.pk_draft.specs.declared.drafts.Label.{Label}
use Rattle.pk_draft.specs.declared.drafts.Region.{Region}
use Rattle.pk_draft.specs.Drafts.{no_region, entry_point}
use Rattle.pk_lower.specs.Parts.{file_variable}
use Rattle.pk_welltyped.specs.WellTyped.{IsUnit}
use Rattle.pk_welltyped.specs.Marks.{IsMarked, IsMarkedIf, AreMarked}
use Rattle.pk_meaning.specs.Programs.{block_of, body_scope}
use Rattle.pk_meaning.specs.Steps.{place, body_place}
use Rattle.pk_visits.specs.SameVisits.{ProgramsAreFollowed}
use Rattle.pk_visits.specs.NeverStuck.{ProgramsAreNeverStuck}
use Rattle.pk_visits.proofs.Slots.{region_at}
use Rattle.pk_visits.proofs.Stands.{ShowsAt}
use Rattle.pk_visits_laws.proofs.Followed.Paths.{firsts_from, block_is}
use Rattle.pk_visits_laws.proofs.Followed.Pairs.{slot_of, whole, begins, world, AreTyped, pairs_are_typed}
use Rattle.pk_visits_laws.proofs.Followed.Graphs.{program_of, Shows, graph}
use Rattle.pk_visits_laws.proofs.Followed.Propers.{is_proper}
use Rattle.pk_visits_laws.proofs.Followed.PartAdds.{body_begun}
use Rattle.pk_visits_laws.proofs.Followed.Pending.{PathAt}
use Rattle.pk_visits_laws.proofs.Followed.BodiesStand.{region_stays}
use Rattle.pk_visits_laws.proofs.Followed.WholeGraph.{paths_turned, whole_is}
use Rattle.pk_visits_laws.proofs.Followed.PathBodies.{path_stands}
use Rattle.pk_visits_laws.proofs.Followed.EntryPoint.{entry_label}
use Rattle.pk_visits_laws.proofs.Followed.Begins.{body_shows, opened_position}
use Rattle.pk_visits_laws.proofs.Followed.Basics.{all_get}
use Rattle.pk_visits_laws.proofs.Followed.Starting.{first_path}
use Rattle.pk_visits_laws.proofs.Followed.Followed.{Stand, graph_visits, unit_never_stuck}

marked_body : (u : UnitTree) (paths : List CallPath) → AreMarked u → (k : ℕ) (q : PathAt (world u paths) slot_of (whole u paths) k) → IsMarked q.place.body
marked_body u paths h k q = subst IsMarkedIf q.place.has (all_get (λ (f : FunctionTree). IsMarkedIf f.body) u.functions q.path.function q.place.function h q.place.there)

-- ---- the entry

pub some_paths : (u : UnitTree) (entry : ℕ) (paths : List CallPath) → IsListing u entry paths → 0 < length paths
some_paths u entry paths l = let z = ap length l.in_order in omega (z, arith)

first_region_is : (u : UnitTree) (paths : List CallPath) → 0 < length paths → region_at (begins u paths).regions 0 ≡ record { at = entry_point; points = entry_point + 1; variables = length (Rattle.std.specs.Prelude.map file_variable u.objects) }
first_region_is u paths b =
    let many = length-replicate (length paths) no_region in
    get_or-set_same (replicate (length paths) no_region) 0 (record { at = entry_point; points = entry_point + 1; variables = length (Rattle.std.specs.Prelude.map file_variable u.objects) }) no_region (omega (b, many, arith))

first_is_one : (u : UnitTree) (ps : List CallPath) → 0 < length ps → slice_index_or (firsts_from u 1 ps) 0 0 ≡ 1
first_is_one u [] h = absurd (omega (h, arith))
first_is_one u (p ∷ ps) h = refl

no_caller : (p : CallPath) (entry : ℕ) → Some p ≡ Some (entry_path entry) → p.caller ≡ None
no_caller p entry e = ap (λ (o : Option CallPath). (unwrap_or o p).caller) e

pub unit_stands : (u : UnitTree) (entry : ℕ) (paths : List CallPath) → IsUnit u → AreMarked u → HasBody u entry → IsListing u entry paths → AreCallPaths u entry paths → AreTyped u paths → Stand u paths
unit_stands u entry paths unit marked has l are h =
    let W = world u paths in
    let g = graph u paths in
    let proper = is_proper u entry paths l h in
    let is = whole_is u entry paths unit has l are h in
    let some = some_paths u entry paths l in
    let turned = paths_turned u entry paths unit has l are h in
    let at = λ (k : ℕ) (low : k < length paths). (turned k low).path in
    let q = at 0 some in
    let entry_region : region_at (whole u paths).regions 0 ≡ record { at = entry_point; points = entry_point + 1; variables = length (Rattle.std.specs.Prelude.map file_variable u.objects) } = h.entry ∙ first_region_is u paths some in
    let there : region_at g.regions 0 ≡ region_at (whole u paths).regions 0 = ap (λ (rs : List Region). region_at rs 0) is.graph.regions in
    let before : region_at q.before.regions 0 ≡ record { at = entry_point; points = entry_point + 1; variables = length (Rattle.std.specs.Prelude.map file_variable u.objects) } = sym (region_stays W h.lasts slot_of (whole u paths) g is 0 q) ∙ (there ∙ entry_region) in
    let enters : (region_at q.before.regions 0).at ≡ entry_point = ap (λ (r : Region). r.at) before in
    let behind : (region_at q.before.regions 0).points ≡ entry_point + 1 = ap (λ (r : Region). r.points) before in
    let one = first_is_one u paths some in
    let first = q.first_is in
    let label = entry_label W h.lasts slot_of (whole u paths) g is.graph 0 q (omega (first, one, arith)) (no_caller q.path entry (sym q.place.path ∙ first_path u entry paths l)) (omega (enters, arith)) (omega (enters, behind, arith)) in
    let shown = body_shows u paths h is 0 q proper some in
    let position : (body_begun W slot_of 0 q.first q.path q.place q.before).here.at ≡ (block_of (program_of u paths) 0).opened = opened_position u paths h is 0 q ∙ ap (λ (b : BodyTree). b.opened) (sym (block_is W 0 q.first q.path q.place)) in
    record {
      some = some;
      bodies = λ k b. path_stands u paths h is proper.positions k (turned k b) b (marked_body u paths marked k (at k b)) (body_shows u paths h is k (at k b) proper b);
      entry = ap (λ (r : Region). r.at) (there ∙ entry_region);
      exit = ap (λ (r : Region). r.points) (there ∙ entry_region);
      shown = subst (λ (n : ℕ). ShowsAt g n 0 (body_place (program_of u paths) 0)) enters
          (subst (λ (i : Label). Shows u paths i 0 (body_place (program_of u paths) 0)) (sym label)
          (subst (λ p. Shows u paths (body_begun W slot_of 0 q.first q.path q.place q.before).here 0 (place p (body_scope (program_of u paths) 0))) position shown));
    }

pub programs_are_followed : PathsAreAll → ProgramsAreFollowed
programs_are_followed law u name paths unit marked has few =
    let entry = has.entry in
    let body = has.is_entry.0.0 in
    let are = law.all u entry has.seen paths has.walks has.is_listing in
    let typed = pairs_are_typed u entry paths unit body has.is_listing are in
    λ visits end v. graph_visits u entry paths unit has.is_listing typed (unit_stands u entry paths unit marked body has.is_listing are typed) visits end v

pub programs_are_never_stuck : PathsAreAll → ProgramsAreNeverStuck
programs_are_never_stuck law u name paths unit marked has few =
    let entry = has.entry in
    let body = has.is_entry.0.0 in
    let are = law.all u entry has.seen paths has.walks has.is_listing in
    let typed = pairs_are_typed u entry paths unit body has.is_listing are in
    unit_never_stuck u entry paths unit has.is_listing typed (unit_stands u entry paths unit marked body has.is_listing are typed)
