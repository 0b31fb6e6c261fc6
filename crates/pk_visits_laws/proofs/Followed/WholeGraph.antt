-- The graph of a unit over slots is made of the parts of its paths.
use Rattle.std.proofs.Common.{◌≡◌, ℕ, ◌+◌, ◌<◌, List, [], ◌∷◌, ◌++◌, length, Option, refl, ap, sym, subst, ◌∙◌, arith}
use Rattle.std.proofs.lemmas.List.{length-map, get_or-set_other}
use Rattle.pk_ctypes.specs.declared.types.IntType.{IntType}
use Rattle.pk_typed.specs.declared.units.CallSite.{CallSite}
use Rattle.pk_typed.specs.Trees.{BodyTree, FunctionTree, LocalTree, UnitTree}
use Rattle.pk_calls.specs.declared.listings.CallPath.{CallPath}
use Rattle.pk_calls.specs.Calls.{HasBody, calls_of}
use Rattle.pk_calls.specs.Paths.{paths_by, longer, IsListing}
use Rattle.pk_calls.specs.Laws.{AreCallPaths}
use Rattle.pk_welltyped.specs.WellTyped.{IsUnit}
use Rattle.pk_graph.specs.Graphs.{VariableOf}
use Rattle.pk_draft.specs.Drafts.{DraftOf, no_label}
use Rattle.pk_lower_row.specs.Contexts.{Context}
use Rattle.pk_lower.specs.Parts as part
use Rattle.pk_lower.specs.Parts.{whole_size, sizes_of}
use Rattle.pk_meaning.specs.Programs.{function_of, block_of}
use Rattle.pk_lower_laws.proofs.Drafts.Plans.{Plan, Lasting, size_of, place_at, part_is, part_made_is, its_function, body_at_is}
use Rattle.pk_lower_laws.proofs.Drafts.Parts.{part_points}
use Rattle.pk_lower_laws.proofs.Drafts.Firsts.{Counted, first_plan}
use Rattle.pk_lower_laws.proofs.Drafts.Drafts.{whole_made}
use Rattle.pk_visits.specs.Turns.{program_turns}
use Rattle.pk_visits.proofs.Slots.{Slot, slots, label_at, region_at}
use Rattle.pk_visits.proofs.Stands.{context_of}
use Rattle.pk_visits.proofs.Numbered.Names.{draft_by}
use Rattle.pk_visits.proofs.Numbered.Parts.{program_by}
use Rattle.pk_visits_laws.proofs.Followed.Paths.{first_of, block_is, function_is}
use Rattle.pk_visits_laws.proofs.Followed.Pairs.{Pair, pairs, slot_of, whole, begins, world, pair_made, AreTyped}
use Rattle.pk_visits_laws.proofs.Followed.Graphs.{graph, nobody, over_slots, program_of}
use Rattle.pk_visits_laws.proofs.Followed.PartAdds.{context_at, part_ends}
use Rattle.pk_visits_laws.proofs.Followed.Pending.{HaveCallers, HaveCallersBehind, PathAt, TurnsAt, path_turned}
use Rattle.pk_visits_laws.proofs.Followed.Bodies.{IsGraphOf}
use Rattle.pk_visits_laws.proofs.Followed.BodyStages.{IsWholeOf}

-- ---- paths

both_have : (ps qs : List CallPath) → HaveCallers ps → HaveCallers qs → HaveCallers (ps ++ qs)
both_have [] qs a b = b
both_have (p ∷ ps) qs a b = (a.0, both_have ps qs a.1 b)

by_have : (k m : ℕ) (cs : List CallSite) → HaveCallers (paths_by k m cs)
by_have k m [] = tt
by_have k m (c ∷ cs) = ((λ e. absurd (cc e)), by_have k (m + 1) cs)

longer_have : (u : UnitTree) (k : ℕ) (ps : List CallPath) → HaveCallers (longer u k ps)
longer_have u k [] = tt
longer_have u k (p ∷ ps) = both_have (paths_by k 0 (calls_of u p.function)) (longer u (k + 1) ps) (by_have k 0 (calls_of u p.function)) (longer_have u (k + 1) ps)

callers_in : (u : UnitTree) (entry : ℕ) (paths : List CallPath) → IsListing u entry paths → HaveCallersBehind paths
callers_in u entry paths l = subst HaveCallersBehind (sym l.in_order) (longer_have u 0 paths)

-- before the first part
pub begins_plan : (u : UnitTree) (entry : ℕ) (paths : List CallPath) → IsUnit u → HasBody u entry → IsListing u entry paths → AreCallPaths u entry paths → AreTyped u paths → Plan (world u paths) 0 1 (begins u paths)
begins_plan u entry paths h has l are a =
    let W = world u paths in
    let g = whole u paths in
    let made = whole_made u entry paths h has l are in
    let size = whole_size (sizes_of u paths) paths in
    let many : length g.made ≡ length u.objects + size.variables = ap length (pair_made u paths) ∙ made.0 in
    let same = length-map g.made (λ (v : VariableOf). v.kind) in
    let c : Counted W = record { some = (let z = ap length l.in_order in omega (z, arith)); files = refl; kinds = omega (same, many, arith); points = refl } in
    first_plan W c

-- each path's part in the unit's draft
pub paths_turned : (u : UnitTree) (entry : ℕ) (paths : List CallPath) → IsUnit u → HasBody u entry → IsListing u entry paths → AreCallPaths u entry paths → AreTyped u paths → (k : ℕ) → k < length paths → TurnsAt (world u paths) slot_of (whole u paths) (program_turns slots u paths) k
paths_turned u entry paths h has l are a k low =
    let W = world u paths in
    let at : 0 + k ≡ k = omega arith in
    subst (TurnsAt W slot_of (whole u paths) (program_turns slots u paths)) at (path_turned W a.lasts slot_of (program_turns slots u paths) 0 1 paths a.paths_are (callers_in u entry paths l) (begins u paths) (begins_plan u entry paths h has l are a) refl (λ i. ap (first_of u paths) (omega arith)) (λ i b. let at : 0 + i ≡ i = omega arith in ap W.ends at) (λ i b. let at : 0 + i ≡ i = omega arith in ap (program_turns slots u paths) at) k low)

pub paths_at : (u : UnitTree) (entry : ℕ) (paths : List CallPath) → IsUnit u → HasBody u entry → IsListing u entry paths → AreCallPaths u entry paths → AreTyped u paths → (k : ℕ) → k < length paths → PathAt (world u paths) slot_of (whole u paths) k
paths_at u entry paths h has l are a k low = (paths_turned u entry paths h has l are a k low).path

-- ---- the graph

over_is : (u : UnitTree) (paths : List CallPath) → over_slots u paths ≡ draft_by slot_of (whole u paths)
over_is u paths = program_by Pair Slot slot_of pairs u paths

pub graph_is : (u : UnitTree) (paths : List CallPath) → AreTyped u paths → IsGraphOf (world u paths) slot_of (whole u paths) (graph u paths)
graph_is u paths a = record {
  edges = ap (λ (d : DraftOf Slot). d.edges) (over_is u paths);
  labels = λ q pos. get_or-set_other (over_slots u paths).labels 0 q (nobody paths) no_label (λ e. absurd (omega (e, pos, arith))) ∙ ap (λ (d : DraftOf Slot). label_at d.labels q) (over_is u paths);
  regions = ap (λ (d : DraftOf Slot). d.regions) (over_is u paths);
  scopes = ap (λ (d : DraftOf Slot). d.scopes) (over_is u paths);
  paths = refl;
  room = a.typed.labels.many;
}

with_parts : (u : UnitTree) (paths : List CallPath) (k : ℕ) → ℕ → List LocalTree → Option IntType → Context
with_parts u paths k n ls r = record { unit = u; path = k; first = n; locals = ls; returns = r; sizes = sizes_of u paths }

context_same : (u : UnitTree) (paths : List CallPath) (k : ℕ) (q : PathAt (world u paths) slot_of (whole u paths) k) → context_of (graph u paths) k ≡ context_at (world u paths) k q.first q.path
unfolding with_parts
context_same u paths k q =
    let W = world u paths in
    let p = program_of u paths in
    let f = q.path.function in
    let locals : (block_of p k).locals ≡ (part.body_at u f).locals = ap (λ (b : BodyTree). b.locals) (block_is W k q.first q.path q.place ∙ sym (body_at_is u f q.place.function q.place.body q.place.there q.place.has)) in
    let returns : (function_of p k).returns ≡ (part.function_at u f).returns = ap (λ (g : FunctionTree). g.returns) (function_is W k q.first q.path q.place ∙ sym (its_function u f q.place.function q.place.there)) in
    ap (λ (n : ℕ). with_parts u paths k n (block_of p k).locals (function_of p k).returns) (sym q.first_is)
    ∙ (ap (λ (ls : List LocalTree). with_parts u paths k q.first ls (function_of p k).returns) locals
    ∙ ap (λ (r : Option IntType). with_parts u paths k q.first (part.body_at u f).locals r) returns)

-- a part has its exit
pub part_some : (u : UnitTree) (paths : List CallPath) → Lasting (world u paths) → (k : ℕ) → PathAt (world u paths) slot_of (whole u paths) k → 0 < (size_of (world u paths) k).points
part_some u paths l k q =
    let W = world u paths in
    let r = region_at q.before.regions k in
    let one = part_points (place_at W k q.first q.path r) (length q.place.body.calls) q.place.function q.place.body q.path.caller (part_is W l k q.first q.path r q.place (q.plan.kept k q.place.below)) r q.before in
    let ends = part_ends W l k q.first q.path q.place q.before in
    let same = ap (λ (d : DraftOf Pair). d.points) (part_made_is W k q.first q.path q.place q.path.caller r q.before) in
    omega (one, ends, same, arith)

pub whole_is : (u : UnitTree) (entry : ℕ) (paths : List CallPath) → IsUnit u → HasBody u entry → IsListing u entry paths → AreCallPaths u entry paths → AreTyped u paths → IsWholeOf (world u paths) slot_of (whole u paths) (graph u paths)
whole_is u entry paths h has l are a = record {
  graph = graph_is u paths a;
  contexts = λ k q. context_same u paths k q;
  blocks = λ k q. block_is (world u paths) k q.first q.path q.place;
  spans = λ k. refl;
  some = λ k low. part_some u paths a.lasts k (paths_at u entry paths h has l are a k low);
}
