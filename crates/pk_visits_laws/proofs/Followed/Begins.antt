-- Where a path's body begins, its point shows the names of the file's objects and of the parameters.
use Rattle.std.proofs.Common.{◌≡◌, ℕ, zero, suc, ◌+◌, ◌<◌, ◌≤◌, ◌⊎◌, inl, inr, List, [], ◌∷◌, ◌++◌, length, map, Option, Some, None, refl, ap, sym, subst, ◌∙◌, arith, slice_index_or}
use Rattle.std.proofs.lemmas.List.{length-map}
use Rattle.std.specs.Prelude.{slice_get, option_map, unwrap_or}
use Rattle.pk_ctypes.specs.declared.types.IntType.{IntType}
use Rattle.pk_ctypes.specs.declared.places.Pos.{Pos}
use Rattle.pk_typed.specs.Trees.{BodyTree, FunctionTree, UnitTree}
use Rattle.pk_calls.specs.declared.listings.CallPath.{CallPath}
use Rattle.pk_calls.proofs.LeadLemmas.{slice_get_left}
use Rattle.pk_graph.specs.declared.graphs.Scope.{Scope}
use Rattle.pk_graph.specs.Graphs as entries
use Rattle.pk_graph.specs.Graphs.{scope_at, no_variable, named_in}
use Rattle.pk_draft.specs.declared.drafts.Label.{Label}
use Rattle.pk_draft.specs.declared.drafts.Region.{Region}
use Rattle.pk_draft.specs.Drafts.{DraftOf, file_scopes}
use Rattle.pk_calls.specs.declared.listings.Caller.{Caller}
use Rattle.pk_lower_row.specs.Contexts.{Context, local_at, parameters_of}
use Rattle.pk_lower.specs.Parts as part
use Rattle.pk_lower.specs.Parts.{file_variable, begun, all_introduced, with_result}
use Rattle.pk_meaning.specs.Objects.{Object, file}
use Rattle.pk_meaning.specs.Objects as objects
use Rattle.pk_meaning.specs.Programs.{block_of, local_of, name_of, file_scope, with_parameters, body_scope}
use Rattle.pk_meaning.specs.Steps.{place}
use Rattle.pk_lower_laws.proofs.Drafts.Firsts.{scopes_many}
use Rattle.pk_lower_laws.proofs.Drafts.Places.{AreChained}
use Rattle.pk_lower_laws.proofs.Drafts.Plans.{World, body_at_is}
use Rattle.pk_visits.proofs.Slots.{Slot, own, Among, Extends, Uncalled, Grows, region_at}
use Rattle.pk_visits.proofs.Grows.Statements.{fresh_grows}
use Rattle.pk_visits.proofs.Stands.{Proper}
use Rattle.pk_visits.proofs.Numbered.Names.{draft_by}
use Rattle.pk_visits.proofs.Settled.Parameters.{parameters_shown}
use Rattle.pk_visits.proofs.Grows.Parts.{first_of, placed_here, begun_position}
use Rattle.pk_visits_laws.proofs.Followed.Paths.{block_is, function_is}
use Rattle.pk_visits_laws.proofs.Followed.Pairs.{slot_of, whole, world, AreTyped}
use Rattle.pk_visits_laws.proofs.Followed.Naming.{naming, Made}
use Rattle.pk_visits_laws.proofs.Followed.Graphs.{program_of, by_numbers, IsOf, Shows, graph}
use Rattle.pk_visits_laws.proofs.Followed.Copies.{numbers_are, file_made}
use Rattle.pk_visits_laws.proofs.Followed.Propers.{scope_nothing, scope_behind, file_name}
use Rattle.pk_visits_laws.proofs.Followed.PartAdds.{context_at, body_begun}
use Rattle.pk_visits_laws.proofs.Followed.Pending.{PathAt}
use Rattle.pk_visits_laws.proofs.Followed.Bodies.{part_closes, rest_adds}
use Rattle.pk_visits_laws.proofs.Followed.BodyStages.{IsWholeOf}
use Rattle.pk_visits_laws.proofs.Followed.BodyEnds.{items_grow}
use Rattle.pk_visits_laws.proofs.Followed.BodiesStand.{region_stays}
use Rattle.pk_typed.specs.Defaults.{no_local}

-- ---- the file's objects

last_entry : (ss : List Scope) (z : Scope) → slice_get (ss ++ z ∷ []) (length ss) ≡ Some z
last_entry [] z = refl
last_entry (s ∷ ss) z = last_entry ss z

file_last : (n i : ℕ) → i < suc n → (i < n → slice_get (file_scopes n) i ≡ Some (record { entry = entries.naming i; outer = i })) → slice_get (file_scopes (suc n)) i ≡ Some (record { entry = entries.naming i; outer = i })
file_last n i h f = by (decided i n) where
  decided : (i n : ℕ) → (i < n) ⊎ (n ≤ i)
  decided i n = grind arith

  by : (i < n) ⊎ (n ≤ i) → slice_get (file_scopes n ++ record { entry = entries.naming n; outer = n } ∷ []) i ≡ Some (record { entry = entries.naming i; outer = i })
  by (inl b) = let many = scopes_many n in slice_get_left (file_scopes n) (record { entry = entries.naming n; outer = n } ∷ []) i (omega (b, many, arith)) ∙ f b
  by (inr b) =
      let same : n ≡ i = omega (b, h, arith) in
      let many = scopes_many n in
      subst (λ (j : ℕ). slice_get (file_scopes n ++ record { entry = entries.naming n; outer = n } ∷ []) j ≡ Some (record { entry = entries.naming j; outer = j })) same
      (ap (slice_get (file_scopes n ++ record { entry = entries.naming n; outer = n } ∷ [])) (sym many) ∙ last_entry (file_scopes n) (record { entry = entries.naming n; outer = n }))

file_entry : (n i : ℕ) → i < n → slice_get (file_scopes n) i ≡ Some (record { entry = entries.naming i; outer = i })
file_entry zero i h = absurd (omega (h, arith))
file_entry (suc n) i h = file_last n i h (λ b. file_entry n i b)

-- the first n names are those of the first n objects of the file
file_named : (u : UnitTree) (paths : List CallPath) (h : AreTyped u paths) (n : ℕ) → n ≤ length u.objects → named_in (scope_at (by_numbers u paths).scopes n) ≡ map (λ (x : Object). naming u paths (own x)) (file_scope n)
file_named u paths h zero b = ap named_in (scope_nothing (by_numbers u paths).scopes)
file_named u paths h (suc n) b =
    let numbers = ap (λ (d : DraftOf ℕ). d.scopes) (numbers_are u paths) in
    let chain : AreChained (by_numbers u paths).scopes = subst AreChained (sym numbers) h.typed.chain in
    let many = length-map u.objects file_variable in
    let entry : slice_get (file_scopes (length (map file_variable u.objects))) n ≡ Some (record { entry = entries.naming n; outer = n }) = file_entry (length (map file_variable u.objects)) n (omega (b, many, arith)) in
    let there : slice_get (by_numbers u paths).scopes n ≡ Some (record { entry = entries.naming n; outer = n }) = ap (λ (ss : List Scope). slice_get ss n) numbers ∙ h.scopes.stay n (record { entry = entries.naming n; outer = n }) entry in
    let more = scope_behind (by_numbers u paths).scopes chain n (record { entry = entries.naming n; outer = n }) there in
    let at : suc n ≡ n + 1 = omega arith in
    ap (λ (i : ℕ). named_in (scope_at (by_numbers u paths).scopes i)) at ∙ (ap named_in more ∙ ap (λ (xs : List ℕ). n ∷ xs) (file_named u paths h n (omega (b, arith))))

in_file_scope : (n : ℕ) (x : Object) → Among x (file_scope n) → (i : ℕ) × (x ≡ file i) × (i < n)
in_file_scope zero x h = absurd h
in_file_scope (suc n) x (inl e) = (n, e, omega arith)
in_file_scope (suc n) x (inr h) = let r = in_file_scope n x h in let b = r.2 in (r.0, r.1, omega (b, arith))

file_shown : (u : UnitTree) (paths : List CallPath) (h : AreTyped u paths) (k n : ℕ) (p : Pos) → k < length paths → n ≤ length u.objects → Shows u paths (record { at = p; path = k; scope = n }) k (place p (file_scope n))
file_shown u paths h k n p b few = record {
  path = b;
  shown = record {
    path = refl;
    at = refl;
    scope = file_named u paths h n few;
    made = λ x a. let r = in_file_scope n x a in let low = r.2 in subst (λ (y : Object). Made u paths (own y)) (sym r.1) (file_made u paths h r.0 (omega (low, few, arith)));
    names = λ x a. let r = in_file_scope n x a in let low = r.2 in subst (λ (y : Object). unwrap_or (slice_index_or (by_numbers u paths).made (naming u paths (own y)) no_variable).name [] ≡ name_of (program_of u paths) y) (sym r.1) (file_name u paths h r.0 (omega (low, few, arith)));
  };
  own = λ x a. let r = in_file_scope n x a in subst (IsOf k) (sym r.1) tt;
}

-- ---- the parameters

names_same : (u : UnitTree) (paths : List CallPath) (k : ℕ) (q : PathAt (world u paths) slot_of (whole u paths) k) (j : ℕ) → (local_at (context_at (world u paths) k q.first q.path) j).name ≡ (local_of (program_of u paths) k j).name
names_same u paths k q j =
    ap (λ (b : BodyTree). (slice_index_or b.locals j no_local).name) (body_at_is u q.path.function q.place.function q.place.body q.place.there q.place.has ∙ sym (block_is (world u paths) k q.first q.path q.place))

result_here : (c : Context) (t : Option IntType) (d : DraftOf Slot) → (with_result c t d).here ≡ d.here
result_here c None d = refl
result_here c (Some t) d = refl

result_scopes : (c : Context) (t : Option IntType) (d : DraftOf Slot) → (with_result c t d).scopes ≡ d.scopes
result_scopes c None d = refl
result_scopes c (Some t) d = refl

placed_scopes : (from : Option Caller) (d : DraftOf Slot) → (part.placed_entry from d).scopes ≡ d.scopes
placed_scopes None d = refl
placed_scopes (Some c) d = refl

module _ (u : UnitTree) (paths : List CallPath) (h : AreTyped u paths) (is : IsWholeOf (world u paths) slot_of (whole u paths) (graph u paths)) (k : ℕ) (q : PathAt (world u paths) slot_of (whole u paths) k) where
  abbrev W : World
  W = world u paths

  abbrev c : Context
  c = context_at W k q.first q.path

  abbrev r : Region
  r = region_at q.before.regions k

  abbrev start : DraftOf Slot
  start = first_of c q.place.body r (draft_by slot_of q.before)

  abbrev ready : DraftOf Slot
  ready = all_introduced c q.path.caller 0 q.place.function.parameters start

  abbrev begins_here : DraftOf Slot
  begins_here = begun c q.place.function q.place.body q.path.caller r (draft_by slot_of q.before)

  abbrev O : DraftOf Slot
  O = body_begun W slot_of k q.first q.path q.place q.before

  opened : Grows Uncalled (part.placed_entry q.path.caller begins_here) O
  opened = fresh_grows Uncalled (q.place.body.labels + 1) (part.placed_entry q.path.caller begins_here)

  here_is : O.here ≡ ready.here
  here_is = opened.here ∙ (placed_here q.path.caller begins_here ∙ result_here c q.place.function.returns ready)

  pub opened_position : O.here.at ≡ q.place.body.opened
  opened_position = ap (λ (l : Label). l.at) (opened.here ∙ placed_here q.path.caller begins_here) ∙ begun_position c q.place.function q.place.body q.path.caller r (draft_by slot_of q.before)

  scopes_stay : Extends ready.scopes (graph u paths).scopes
  scopes_stay n z m =
      let same : ready.scopes ≡ (part.placed_entry q.path.caller begins_here).scopes = sym (result_scopes c q.place.function.returns ready) ∙ sym (placed_scopes q.path.caller begins_here) in
      let a = opened.scopes n z (subst (λ (ss : List Scope). slice_get ss n ≡ Some z) same m) in
      let b = (items_grow W slot_of k q.first q.path q.place q.before).scopes n z a in
      let d = (part_closes W slot_of k q.first q.path q.place q.before).scopes n z b in
      subst (λ (ss : List Scope). slice_get ss n ≡ Some z) (sym is.graph.scopes) ((rest_adds W h.lasts slot_of (whole u paths) k q).scopes n z d)

  types : parameters_of u q.path.function ≡ q.place.function.parameters
  types = ap (λ (o : Option FunctionTree). unwrap_or (option_map (λ (g : FunctionTree). g.parameters) o) []) q.place.there

  variables_are : (region_at (whole u paths).regions k).variables ≡ start.variables
  variables_are = ap (λ (rs : List Region). (region_at rs k).variables) (sym is.graph.regions) ∙ ap (λ (o : Region). o.variables) (region_stays W h.lasts slot_of (whole u paths) (graph u paths) is k q)

  numbers_are_so : (j : ℕ) → j < length q.place.function.parameters → (0 + j < (graph u paths).objects k) × ((graph u paths).numbers k (0 + j) ≡ start.variables + j)
  numbers_are_so j b =
      let m = h.made k q.path q.place.path in
      let few : j < length (parameters_of u q.path.function) = subst (λ (ts : List IntType). j < length ts) (sym types) b in
      let less = m.declared in
      let at : 0 + j ≡ j = omega arith in
      (omega (few, less, arith), ap ((graph u paths).numbers k) at ∙ (m.numbers j few ∙ ap (λ (n : ℕ). n + j) variables_are))

  scope_is : body_scope (program_of u paths) k ≡ with_parameters (program_of u paths) k 0 q.place.function.parameters (file_scope q.place.body.visible)
  scope_is =
      ap (λ (g : FunctionTree). with_parameters (program_of u paths) k 0 g.parameters (file_scope (block_of (program_of u paths) k).visible)) (function_is W k q.first q.path q.place)
      ∙ ap (λ (b : BodyTree). with_parameters (program_of u paths) k 0 q.place.function.parameters (file_scope b.visible)) (block_is W k q.first q.path q.place)

  pub body_shows : Proper (graph u paths) → k < length paths → Shows u paths O.here k (place O.here.at (body_scope (program_of u paths) k))
  body_shows proper low =
      let first = file_shown u paths h k q.place.body.visible q.place.body.opened low q.place.is_body.visible in
      let all = parameters_shown (graph u paths) proper k c q.path.caller 0 q.place.function.parameters (file_scope q.place.body.visible) start (names_same u paths k q) first low numbers_are_so scopes_stay in
      subst (λ (l : Label). Shows u paths l k (place l.at (body_scope (program_of u paths) k))) (sym here_is)
      (subst (λ (xs : objects.Scope). Shows u paths ready.here k (place ready.here.at xs)) (sym scope_is) all)
