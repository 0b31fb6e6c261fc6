-- The draft of a unit over pairs: each variable by its slot and by its number, which belong together.
use Rattle.std.proofs.Common.{◌≡◌, ℕ, zero, suc, ◌+◌, ◌<◌, ◌≤◌, ◌⊎◌, inl, inr, List, [], ◌∷◌, length, Some, None, refl, sym, ap, subst, ◌∙◌, arith}
use Rattle.std.proofs.lemmas.List.{length-map}
use Rattle.std.proofs.lemmas.Option.{slice_get_within, get_or_from_slice_get}
use Rattle.std.specs.Prelude.{slice_get, All}
use Rattle.pk_ctypes.specs.declared.types.IntType.{IntType}
use Rattle.pk_typed.specs.Trees.{LocalTree, UnitTree}
use Rattle.pk_calls.specs.declared.listings.CallPath.{CallPath}
use Rattle.pk_calls.specs.Calls.{HasBody}
use Rattle.pk_calls.specs.Paths.{entry_path, IsListing}
use Rattle.pk_calls.specs.Laws.{AreCallPaths}
use Rattle.pk_graph.specs.Kinds.{kind_at, Kind}
use Rattle.pk_graph.specs.Graphs.{VariableOf}
use Rattle.pk_draft.specs.Drafts.{Names, DraftOf, by_number, inner}
use Rattle.pk_lower_row.specs.Contexts.{parameters_of}
use Rattle.pk_lower.specs.Parts.{function_at, body_at, whole_size, sizes_of, program_draft}
use Rattle.pk_lower_laws.proofs.Parts.Leading.{listings_lead_behind}
use Rattle.pk_welltyped.specs.WellTyped as good
use Rattle.pk_welltyped.specs.WellTyped.{IsUnit}
use Rattle.pk_meaning.specs.Objects.{file, local, result}
use Rattle.pk_lower_laws.proofs.Drafts.Tables.{Table}
use Rattle.pk_lower_laws.proofs.Drafts.Noted.{calls_are_noted}
use Rattle.pk_lower_laws.proofs.Drafts.Places.{Ends, IsOwn, IsObjectOf, inner_object, outer_object, variable_in, Grown, region_at}
use Rattle.pk_lower_laws.proofs.Drafts.Plans.{World, place, Lasting, PathMade, AllTyped, Foreknown}
use Rattle.pk_lower_laws.proofs.Drafts.Wholes.{Paths, IsAmong, among, kinds_of, kind_is, wholes, foreknown}
use Rattle.pk_lower_laws.proofs.Drafts.Firsts.{first, first_made, files_are, Counted, first_plan, first_typed}
use Rattle.pk_lower_laws.proofs.Drafts.Listings.{listed, listing_paths}
use Rattle.pk_lower_laws.proofs.Drafts.Declarations.{object_kind}
use Rattle.pk_lower_laws.proofs.Drafts.Drafts.{behind_part, ends_in, function_from, have_ends, whole_made}
use Rattle.pk_lower_laws.proofs.Drafts.Each.{PartOf, part_of}
use Rattle.pk_visits.proofs.Slots.{Slot, own, temporary, Among}
use Rattle.pk_visits.proofs.Numbered.Parts.{program_by}

abbrev pub Pair : Type 0
Pair = Slot × ℕ

abbrev pub slot_of : Pair → Slot
slot_of z = z.0

abbrev pub number_of : Pair → ℕ
number_of z = z.1

abbrev pub pairs : Names Pair
pairs = record { file = λ i. (own (file i), i); object = λ k i x. (own (local k i), x); result = λ k x. (own (result k), x); temporary = λ x. (temporary x, x) }

abbrev pub whole : UnitTree → List CallPath → DraftOf Pair
whole u paths = program_draft pairs u paths

abbrev pub begins : UnitTree → List CallPath → DraftOf Pair
begins u paths = first pairs u paths (whole_size (sizes_of u paths) paths)

-- what a variable is in the end, and what becomes of the objects of each path
abbrev pub final : UnitTree → List CallPath → ℕ → VariableOf
final u paths y = variable_in (whole u paths).made y

abbrev pub ends_of : UnitTree → List CallPath → ℕ → Ends
ends_of u paths k = ends_in u (function_from paths k) (behind_part u (sizes_of u paths) 0 1 paths (begins u paths) k)

-- ---- which pairs belong together

-- the entry's parameters get their values from outside
pub record IsOutside (u : UnitTree) (paths : List CallPath) (k i : ℕ) : Type 0 where
  pub path : CallPath
  pub there : slice_get paths k ≡ Some path
  pub entry : path.caller ≡ None
  pub parameter : i < length (parameters_of u path.function)

abbrev pub locals_at : UnitTree → List CallPath → ℕ → List LocalTree
locals_at u paths k = (body_at u (function_from paths k)).locals

pub record IsLocal (u : UnitTree) (paths : List CallPath) (k i x : ℕ) : Type 0 where
  pub number : x ≡ (ends_of u paths k).numbers i
  pub path : k < length paths
  pub declared : i < (ends_of u paths k).objects
  pub kind : Kind
  pub is : good.kind_among (locals_at u paths k) i ≡ Some kind
  pub final : (final u paths x ≡ inner_object (locals_at u paths k) k i) ⊎ (IsOutside u paths k i × (final u paths x ≡ outer_object (locals_at u paths k) k i))

pub record IsResult (u : UnitTree) (paths : List CallPath) (k x : ℕ) : Type 0 where
  pub number : x ≡ (ends_of u paths k).result
  pub path : k < length paths
  pub type : IntType
  pub returns : (function_at u (function_from paths k)).returns ≡ Some type
  pub final : final u paths x ≡ inner None type None k

pub record IsTemporary (u : UnitTree) (paths : List CallPath) (y x : ℕ) : Type 0 where
  pub number : x ≡ y
  pub of : ℕ
  pub path : of < length paths
  pub type : IntType
  pub final : final u paths y ≡ inner None type None of
  pub objects : (i : ℕ) → i < (ends_of u paths of).objects → (ends_of u paths of).numbers i ≡ y → ⊥
  pub result : (ends_of u paths of).result ≡ y → ⊥

abbrev pub AreOne : UnitTree → List CallPath → Slot → ℕ → Type 0
AreOne u paths (own (file i)) x = (x ≡ i) × (i < length u.objects)
AreOne u paths (own (local k i)) x = IsLocal u paths k i x
AreOne u paths (own (result k)) x = IsResult u paths k x
AreOne u paths (temporary y) x = IsTemporary u paths y x

-- ---- the unit's world over pairs

abbrev pub pair_table : UnitTree → List CallPath → Table
pair_table u paths = record {
  Variable = Pair;
  names = pairs;
  is_there = λ z. (z.1 < length (whole u paths).made) × AreOne u paths z.0 z.1;
  kind = λ z. kind_at (kinds_of (whole u paths).made) z.1;
}

-- the number of an object of the file, or of one that is declared
abbrev pub IsObjects : UnitTree → List CallPath → ℕ → Type 0
IsObjects u paths y = (y < length u.objects) ⊎ ((k : ℕ) × (i : ℕ) × (k < length paths) × (i < (ends_of u paths k).objects) × (y ≡ (ends_of u paths k).numbers i))

abbrev pub world : UnitTree → List CallPath → World
world u paths = record {
  unit = u;
  paths = paths;
  table = pair_table u paths;
  kinds = kinds_of (whole u paths).made;
  final = final u paths;
  IsEdge = λ e. Among e (whole u paths).edges;
  ends = ends_of u paths;
  CanBeNamed = IsObjects u paths;
  CanBegin = IsObjects u paths;
  FromOutside = IsOutside u paths;
  points = (whole_size (sizes_of u paths) paths).points + 2;
  files = length u.objects;
}

-- ---- what is so of it

pub function_at_path : (paths : List CallPath) (k : ℕ) (p : CallPath) → slice_get paths k ≡ Some p → function_from paths k ≡ p.function
function_at_path paths k p h = ap (λ (q : CallPath). q.function) (get_or_from_slice_get paths k p (entry_path 0) h)

own_local : (u : UnitTree) (paths : List CallPath) (k n l q : ℕ) (p : CallPath) (i : ℕ) (h : Kind) (x : VariableOf) → slice_get paths k ≡ Some p → i < (ends_of u paths k).objects → good.kind_among (body_at u p.function).locals i ≡ Some h
    → IsOwn (place (world u paths) k n p.function l q) ((ends_of u paths k).numbers i) x → IsObjectOf (place (world u paths) k n p.function l q) i x → IsLocal u paths k i ((ends_of u paths k).numbers i)
own_local u paths k n l q p i h x at below kind o b =
    let f = function_at_path paths k p at in
    let same : (body_at u p.function).locals ≡ locals_at u paths k = ap (λ (j : ℕ). (body_at u j).locals) (sym f) in
    record {
      number = refl;
      path = slice_get_within paths k p at;
      declared = below;
      kind = h;
      is = ap (λ (xs : List LocalTree). good.kind_among xs i) (sym same) ∙ kind;
      final = elim b [
        | inl is ↦ inl (o.is ∙ (is ∙ ap (λ (xs : List LocalTree). inner_object xs k i) same))
        | inr is ↦ inr (is.0, o.is ∙ (is.1 ∙ ap (λ (xs : List LocalTree). outer_object xs k i) same))
      ];
    }

own_result : (u : UnitTree) (paths : List CallPath) (k n l q : ℕ) (p : CallPath) (t : IntType) → slice_get paths k ≡ Some p → (function_at u p.function).returns ≡ Some t → IsOwn (place (world u paths) k n p.function l q) (ends_of u paths k).result (inner None t None k)
    → IsResult u paths k (ends_of u paths k).result
own_result u paths k n l q p t at r o =
    record { number = refl; path = slice_get_within paths k p at; type = t; returns = ap (λ (j : ℕ). (function_at u j).returns) (function_at_path paths k p at) ∙ r; final = o.is }

-- the world's draft is as long as the one by number
pub pair_made : (u : UnitTree) (paths : List CallPath) → (whole u paths).made ≡ (program_draft by_number u paths).made
pair_made u paths = ap (λ (d : DraftOf ℕ). d.made) (sym (program_by Pair ℕ number_of pairs u paths))

pub lasting : (u : UnitTree) (entry : ℕ) (paths : List CallPath) → IsUnit u → HasBody u entry → IsListing u entry paths → AreCallPaths u entry paths → Lasting (world u paths)
lasting u entry paths h has l are =
    let ms = (whole u paths).made in
    let made = whole_made u entry paths h has l are in
    let size = whole_size (sizes_of u paths) paths in
    let many : length ms ≡ length u.objects + size.variables = ap length (pair_made u paths) ∙ made.0 in
    let low : (y : ℕ) → y < length u.objects → variable_in ms y ≡ variable_in (first_made u size) y = λ y q. ap (λ (xs : List VariableOf). variable_in xs y) (pair_made u paths) ∙ made.1 y q in
    let same = length-map ms (λ (v : VariableOf). v.kind) in
    record {
      points = omega arith;
      files = λ i k e. let f = files_are u size ms (omega (many, arith)) low i k e in record { there = (omega (f.0, many, arith), (refl, f.0)); kind = f.1 };
      objects_of_file = refl;
      behind = listings_lead_behind u entry paths has l are (calls_are_noted u h);
      listed = listed paths;
      temporaries = λ k n f l q y t m o e. record {
        there = (omega (o.there, same, arith), record { number = refl; of = k; path = m; type = t; final = o.is; objects = e.objects; result = e.result });
        kind = kind_is ms y ∙ ap (λ (v : VariableOf). v.kind) o.is;
      };
      objects = λ k n l q p i k2 x at below kind o b. record {
        there = (omega (o.there, same, arith), own_local u paths k n l q p i k2 x at below kind o b);
        kind = kind_is ms _ ∙ (ap (λ (v : VariableOf). v.kind) o.is ∙ object_kind (place (world u paths) k n p.function l q) i k2 x kind b);
      };
      results = λ k n l q p t at r o. record { there = (omega (o.there, same, arith), own_result u paths k n l q p t at r o); kind = kind_is ms _ ∙ ap (λ (v : VariableOf). v.kind) o.is };
      named = λ k i m b. inr (k, i, m, b, refl);
      begun = λ k i m b. inr (k, i, m, b, refl);
      shared = λ i l. (omega (l, many, same, arith), inl l);
      outside = λ k i p at e b. record { path = p; there = at; entry = e; parameter = b };
    }

all_among : {A : Type 0} (xs : List A) → All (λ (x : A). Among x xs) xs
all_among [] k d l = absurd (omega (l, arith))
all_among (x ∷ xs) zero d l = inl refl
all_among (x ∷ xs) (suc k) d l = inr (all_among xs k d (omega (l, arith)))

-- what is known of the unit's draft over pairs
pub record AreTyped (u : UnitTree) (paths : List CallPath) : Type 1 where
  pub lasts : Lasting (world u paths)
  pub paths_are : Paths (world u paths) 0 1 paths
  pub known : Foreknown (world u paths) (whole u paths)
  pub typed : AllTyped (world u paths) (whole u paths)
  pub scopes : Grown (begins u paths).scopes (whole u paths).scopes
  pub entry : region_at (whole u paths).regions 0 ≡ region_at (begins u paths).regions 0
  pub many : length u.objects ≤ length (whole u paths).made
  pub low : (y : ℕ) → y < length u.objects → final u paths y ≡ variable_in (first_made u (whole_size (sizes_of u paths) paths)) y
  pub parts : (j : ℕ) → j < length paths → PartOf (world u paths) (whole u paths) j
  pub made : (j : ℕ) (p : CallPath) → slice_get paths j ≡ Some p → PathMade (world u paths) j p (whole u paths)

pub pairs_are_typed : (u : UnitTree) (entry : ℕ) (paths : List CallPath) → IsUnit u → HasBody u entry → IsListing u entry paths → AreCallPaths u entry paths → AreTyped u paths
pairs_are_typed u entry paths h has l are =
    let W = world u paths in
    let d0 = begins u paths in
    let g = whole u paths in
    let lasts = lasting u entry paths h has l are in
    let ps = listing_paths W entry h l lasts.behind in
    let made = whole_made u entry paths h has l are in
    let size = whole_size (sizes_of u paths) paths in
    let many : length g.made ≡ length u.objects + size.variables = ap length (pair_made u paths) ∙ made.0 in
    let same = length-map g.made (λ (v : VariableOf). v.kind) in
    let c : Counted W = record { some = (let z = ap length l.in_order in omega (z, arith)); files = refl; kinds = omega (same, many, arith); points = refl } in
    let plan = first_plan W c in
    let o = have_ends W 0 1 paths ps d0 (λ i q. let at : 0 + i ≡ i = omega arith in ap W.ends at) in
    let all = wholes W lasts 0 1 paths ps d0 plan o in
    let known = foreknown W lasts 1 ps d0 g (record { many = same; final = λ y. refl }) (all_among g.edges) all in
    let start = first_typed W c h.objects (λ i q. inl q) (λ i q. inl q) in
    record {
      lasts = lasts;
      paths_are = ps;
      known = known;
      typed = all.part.typed known start;
      scopes = all.part.scopes;
      entry = all.part.regions 0 (omega arith);
      many = omega (many, arith);
      low = λ y q. ap (λ (xs : List VariableOf). variable_in xs y) (pair_made u paths) ∙ made.1 y q;
      made = λ j p e. let at : 0 + j ≡ j = omega arith in all.made j p (subst (λ (i : ℕ). IsAmong 0 paths i p) at (among 0 paths j p e));
      parts = λ j b. let at : 0 + j ≡ j = omega arith in subst (PartOf W g) at (part_of W lasts 0 1 paths ps d0 plan o start known j b);
    }
