-- The draft of a well-typed unit is typed.
use Rattle.std.proofs.Common.{◌≡◌, ℕ, zero, suc, ◌+◌, ◌<◌, ◌≤◌, ◌^◌, List, [], ◌∷◌, Option, Some, None, length, map, refl, ap, sym, subst, ◌∙◌, arith, length-append, slice_index_or}
use Rattle.std.proofs.lemmas.List.{length-map}
use Rattle.std.proofs.lemmas.Option.{none-some}
use Rattle.std.specs.Prelude.{replicate}
use Rattle.pk_ctypes.specs.declared.types.IntType.{IntType}
use Rattle.pk_typed.specs.Trees.{BodyTree, FunctionTree, UnitTree}
use Rattle.pk_calls.specs.declared.listings.CallPath.{CallPath}
use Rattle.pk_calls.specs.Calls.{HasBody, calls_of}
use Rattle.pk_calls.specs.Laws.{AreCallPaths}
use Rattle.pk_calls.specs.Paths.{entry_path, IsListing}
use Rattle.pk_graph.specs.declared.graphs.Scope.{Scope}
use Rattle.pk_graph.specs.Kinds.{Kinds}
use Rattle.pk_graph.specs.Graphs.{VariableOf, no_variable}
use Rattle.pk_draft.specs.declared.drafts.Region.{Region}
use Rattle.pk_draft.specs.declared.drafts.Size.{Size}
use Rattle.pk_draft.specs.Drafts.{DraftOf, EdgeFrom, by_number, region_of}
use Rattle.pk_lower.specs.Parts.{function_at, body_at, context, part, whole_size, sizes_of, file_variable, program_draft}
use Rattle.pk_number.specs.Typed.{IsTypedEdge}
use Rattle.pk_lower_laws.specs.Parts.Listed.{CallsLeadBehind}
use Rattle.pk_lower_laws.proofs.Parts.Leading.{listings_lead_behind}
use Rattle.pk_welltyped.specs.Listed.{objects_in_items}
use Rattle.pk_welltyped.specs.WellTyped.{IsUnit}
use Rattle.pk_lower_laws.specs.Drafts.Laws.{DraftsAreTyped, DraftsHaveLabels}
use Rattle.pk_lower_laws.proofs.Drafts.Tables.{IsTypedInstr, numbers, numbered_instr}
use Rattle.pk_lower_laws.proofs.Drafts.Noted.{calls_are_noted}
use Rattle.pk_lower_laws.proofs.Drafts.Places.{Ends, EdgeIs, ResultIs, own_number, region_at, variable_in}
use Rattle.pk_lower_laws.proofs.Drafts.Parts.{made_part}
use Rattle.pk_lower_laws.proofs.Drafts.Plans.{World, Draft, AllTyped, sizes, place, base, Lasting, PathIs, its_function, body_at_is, place_at, part_made_is, EndsAre, all_map, replicated}
use Rattle.pk_lower_laws.proofs.Drafts.Wholes.{Paths, HaveEnds, wholes, kinds_of, kind_is, foreknown}
use Rattle.pk_lower_laws.proofs.Drafts.Declarations.{object_kind}
use Rattle.pk_lower_laws.proofs.Drafts.Firsts.{first, first_made, files_are, Counted, first_plan, first_typed}
use Rattle.pk_lower_laws.proofs.Drafts.Listings.{listed, listing_paths}

-- ---- what becomes of the objects of each path

-- the draft behind the part of the i-th of these paths
unfoldable pub behind_part : {V : Type 0} → UnitTree → List (Option Size) → (k n : ℕ) → List CallPath → DraftOf V → (i : ℕ) → DraftOf V
behind_part u ss k n [] d i = d
behind_part u ss k n (p ∷ ps) d zero = part (context u ss k n p.function) p.function p.caller (region_of k d) d
behind_part u ss k n (p ∷ ps) d (suc i) = behind_part u ss (k + 1) (n + length (calls_of u p.function)) ps (part (context u ss k n p.function) p.function p.caller (region_of k d) d) i

abbrev pub result_in : {V : Type 0} → Option IntType → ℕ → DraftOf V → ℕ
result_in None n e = e.variables
result_in (Some t) n e = own_number e.objects n

-- what has become of a function's objects in a draft
abbrev pub ends_in : {V : Type 0} → UnitTree → (f : ℕ) → DraftOf V → Ends
ends_in u f e = record {
  objects = length (function_at u f).parameters + objects_in_items (body_at u f).items;
  numbers = own_number e.objects;
  result = result_in (function_at u f).returns (length (body_at u f).locals) e;
}

-- the function of path j of these
abbrev pub function_from : List CallPath → ℕ → ℕ
function_from ps i = (slice_index_or ps i (entry_path 0)).function

result_foreseen : {V : Type 0} (t : Option IntType) (n : ℕ) (e : DraftOf V) → ResultIs t (λ y. result_in t n e ≡ y) (own_number e.objects n) × (t ≡ None → e.variables ≤ result_in t n e)
result_foreseen None n e = (tt, λ q. omega arith)
result_foreseen (Some t) n e = (refl, λ q. absurd (none-some t (sym q)))

-- The ends of a path are those that its part leaves.
pub ends_are : (W : World) (k n : ℕ) (p : CallPath) (h : PathIs W k n p) (r : Region) (e : Draft W) → W.ends k ≡ ends_in W.unit p.function e → EndsAre W k n p r h.function h.body e
ends_are W k n p h r e is =
    let w = place_at W k n p r in
    let g = its_function W.unit p.function h.function h.there in
    let b = body_at_is W.unit p.function h.function h.body h.there h.has in
    let many : (W.ends k).objects ≡ length h.function.parameters + objects_in_items h.body.items =
    ap (λ (x : Ends). x.objects) is ∙ (ap (λ (x : FunctionTree). length x.parameters + objects_in_items (body_at W.unit p.function).items) g ∙ ap (λ (x : BodyTree). length h.function.parameters + objects_in_items x.items) b) in
    let numbers : (i : ℕ) → (W.ends k).numbers i ≡ own_number e.objects i = λ i. ap (λ (x : Ends). x.numbers i) is in
    let result : (W.ends k).result ≡ result_in h.function.returns (length w.context.locals) e =
    ap (λ (x : Ends). x.result) is ∙ ap (λ (x : FunctionTree). result_in x.returns (length (body_at W.unit p.function).locals) e) g in
    let f = result_foreseen h.function.returns (length w.context.locals) e in
    record {
      declared = omega (many, arith);
      objects = λ i l. numbers i;
      result = subst (λ (x : ℕ). ResultIs h.function.returns (λ y. x ≡ y) (own_number e.objects (length w.context.locals))) (sym result) f.0;
      later = λ i l m. absurd (omega (l, m, many, arith));
      result_later = λ q. subst (λ (x : ℕ). e.variables ≤ x) (sym result) (f.1 q);
    }

-- so they are of all paths
pub have_ends : (W : World) (k n : ℕ) (ps : List CallPath) (h : Paths W k n ps) (d : Draft W) → ((i : ℕ) → i < length ps → W.ends (k + i) ≡ ends_in W.unit (function_from ps i) (behind_part W.unit (sizes W) k n ps d i)) → HaveEnds W k n ps h d
unfolding behind_part
have_ends W k n [] h d f = tt
have_ends W k n (p ∷ ps) h d f =
    let r = region_at d.regions k in
    let e = made_part (place_at W k n p r) h.0.function h.0.body p.caller r d in
    let made = part_made_is W k n p h.0 p.caller r d in
    let m = n + length (calls_of W.unit p.function) in
    let at : k + 0 ≡ k = omega arith in (
      ends_are W k n p h.0 r e (ap W.ends (sym at) ∙ (f 0 (omega arith) ∙ ap (ends_in W.unit p.function) made)),
      have_ends W (k + 1) m ps h.1 e (λ i l. let next : k + 1 + i ≡ k + suc i = omega arith in
          ap W.ends next ∙ (f (suc i) (omega (l, arith)) ∙ ap (λ (x : Draft W). ends_in W.unit (function_from ps i) (behind_part W.unit (sizes W) (k + 1) m ps x i)) made)),
    )

-- ---- the unit's world by numbers

abbrev begins : UnitTree → List CallPath → DraftOf ℕ
begins u paths = first by_number u paths (whole_size (sizes_of u paths) paths)

-- a unit's world where these are the variables in the end
abbrev world : UnitTree → List CallPath → List VariableOf → World
world u paths ms = record {
  unit = u;
  paths = paths;
  table = numbers (kinds_of ms);
  kinds = kinds_of ms;
  final = variable_in ms;
  IsEdge = λ e. Unit {0};
  ends = λ k. ends_in u (function_from paths k) (behind_part u (sizes_of u paths) 0 1 paths (begins u paths) k);
  CanBeNamed = λ y. Unit {0};
  CanBegin = λ y. Unit {0};
  FromOutside = λ k i. Unit {0};
  points = (whole_size (sizes_of u paths) paths).points + 2;
  files = length u.objects;
}

some_path : (u : UnitTree) (entry : ℕ) (paths : List CallPath) → IsListing u entry paths → 0 < length paths
some_path u entry paths l = let h = ap length l.in_order in omega (h, arith)

first_many : (u : UnitTree) (paths : List CallPath) → length (begins u paths).made ≡ length u.objects + (whole_size (sizes_of u paths) paths).variables
first_many u paths =
    let s = whole_size (sizes_of u paths) paths in
    length-append (map file_variable u.objects) (replicate s.variables no_variable) ∙ omega (length-map u.objects file_variable, replicated s.variables no_variable, arith)

counted : (u : UnitTree) (entry : ℕ) (paths : List CallPath) (ms : List VariableOf) → IsListing u entry paths → length ms ≡ length u.objects + (whole_size (sizes_of u paths) paths).variables → Counted (world u paths ms)
counted u entry paths ms l k = record { some = some_path u entry paths l; files = refl; kinds = length-map ms (λ (x : VariableOf). x.kind) ∙ k; points = refl }

lasting : (u : UnitTree) (paths : List CallPath) (ms : List VariableOf) → CallsLeadBehind u paths → length ms ≡ length u.objects + (whole_size (sizes_of u paths) paths).variables
    → ((y : ℕ) → y < length u.objects → variable_in ms y ≡ variable_in (begins u paths).made y) → Lasting (world u paths ms)
lasting u paths ms b k low = record {
  points = omega arith;
  files = λ i q h. let f = files_are u (whole_size (sizes_of u paths) paths) ms (omega (k, arith)) low i q h in record { there = omega (f.0, k, length-map ms (λ (x : VariableOf). x.kind), arith); kind = f.1 };
  objects_of_file = refl;
  behind = b;
  listed = listed paths;
  temporaries = λ k n f l q y t m o e. record { there = o.there; kind = kind_is ms y ∙ ap (λ (v : VariableOf). v.kind) o.is };
  objects = λ k n l q p i h x m e f o b. record { there = o.there; kind = kind_is ms _ ∙ (ap (λ (v : VariableOf). v.kind) o.is ∙ object_kind (place (world u paths ms) k n p.function l q) i h x f b) };
  results = λ k n l q p t m r o. record { there = o.there; kind = kind_is ms _ ∙ ap (λ (v : VariableOf). v.kind) o.is };
  named = λ k i l m. tt;
  begun = λ k i l m. tt;
  shared = λ i l. (omega (l, k, length-map ms (λ (x : VariableOf). x.kind), arith), tt);
  outside = λ k i p h e l. tt;
}

typed_edge : (d : DraftOf ℕ) (W : World) (ks : Kinds) → ks ≡ kinds_of d.made → length d.labels ≡ W.points → (e : EdgeFrom ℕ) → (e.from < W.points) × (e.to < W.points) × IsTypedInstr (numbers ks) e.instr → IsTypedEdge d e
typed_edge d W ks is many e h = record { from = omega (h.0, many, arith); to = omega (h.1, many, arith); typed = numbered_instr (kinds_of d.made) e.instr (subst (λ (xs : Kinds). IsTypedInstr (numbers xs) e.instr) is h.2) }

-- how many variables the whole draft makes, of which the first are the file's objects
pub whole_made : (u : UnitTree) (entry : ℕ) (paths : List CallPath) → IsUnit u → HasBody u entry → IsListing u entry paths → AreCallPaths u entry paths
    → (let whole = program_draft by_number u paths in (length whole.made ≡ length u.objects + (whole_size (sizes_of u paths) paths).variables) × ((y : ℕ) → y < length u.objects → variable_in whole.made y ≡ variable_in (first_made u (whole_size (sizes_of u paths) paths)) y))
whole_made u entry paths h has l are =
    let b = listings_lead_behind u entry paths has l are (calls_are_noted u h) in
    let d0 = begins u paths in
    let k0 = first_many u paths in
    let W = world u paths d0.made in
    let ps = listing_paths W entry h l b in
    let all = wholes W (lasting u paths d0.made b k0 (λ y q. refl)) 0 1 paths ps d0 (first_plan W (counted u entry paths d0.made l k0)) (have_ends W 0 1 paths ps d0 (λ i q. let at : 0 + i ≡ i = omega arith in ap W.ends at)) in
    (all.many ∙ (length-map d0.made (λ (x : VariableOf). x.kind) ∙ k0), λ y q. all.part.low y q)

-- all that is known of the whole draft
whole_typed : (u : UnitTree) (entry : ℕ) (paths : List CallPath) → IsUnit u → HasBody u entry → IsListing u entry paths → AreCallPaths u entry paths
    → (let whole = program_draft by_number u paths in AllTyped (world u paths whole.made) whole)
whole_typed u entry paths h has l are =
    let b = listings_lead_behind u entry paths has l are (calls_are_noted u h) in
    let d0 = begins u paths in
    let whole = program_draft by_number u paths in
    let made = whole_made u entry paths h has l are in
    let many = made.0 in
    let W = world u paths whole.made in
    let c = counted u entry paths whole.made l many in
    let lasts = lasting u paths whole.made b many made.1 in
    let ps = listing_paths W entry h l b in
    let all = wholes W lasts 0 1 paths ps d0 (first_plan W c) (have_ends W 0 1 paths ps d0 (λ i q. let at : 0 + i ≡ i = omega arith in ap W.ends at)) in
    let known = foreknown W lasts 1 ps d0 whole (record { many = length-map whole.made (λ (x : VariableOf). x.kind); final = λ y. refl }) (λ k x q. tt) all in
    all.part.typed known (first_typed W c h.objects (λ i q. tt) (λ i q. tt))

whole_labels : (u : UnitTree) (entry : ℕ) (paths : List CallPath) → IsUnit u → HasBody u entry → IsListing u entry paths → AreCallPaths u entry paths
    → length (program_draft by_number u paths).labels ≡ (whole_size (sizes_of u paths) paths).points + 2
whole_labels u entry paths h has l are = (whole_typed u entry paths h has l are).labels.many

pub drafts_have_labels : DraftsHaveLabels
drafts_have_labels u entry paths h has l are = omega (arith, whole_labels u entry paths h has l are)

pub drafts_are_typed : DraftsAreTyped
drafts_are_typed u entry paths h has l are few =
    let whole = program_draft by_number u paths in
    let W = world u paths whole.made in
    let t = whole_typed u entry paths h has l are in
    let big : 2147483648 ≡ 2 ^ 31 = refl in
    let labels : length whole.labels ≡ (whole_size (sizes_of u paths) paths).points + 2 = whole_labels u entry paths h has l are in
    record {
      entry = omega (labels, arith);
      few = omega (labels, few, big, arith);
      labels = t.labels.paths;
      scopes = all_map (λ (s : Scope). (s.entry.variable < length W.kinds) × Unit {0}) (λ (s : Scope). s.entry.variable < length whole.made) whole.scopes (λ s x. omega (x.0, length-map whole.made (λ (v : VariableOf). v.kind), arith)) t.scopes;
      starts = t.starts;
      edges = all_map (EdgeIs (base W)) (IsTypedEdge whole) whole.edges (λ e x. typed_edge whole W W.kinds refl labels e (x.from, x.to, x.typed)) t.edges;
    }
