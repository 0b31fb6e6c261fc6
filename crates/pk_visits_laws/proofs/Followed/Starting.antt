-- A run of the unit's graph begins with what the objects of the program hold.
use Rattle.std.proofs.Common.{◌≡◌, ℕ, zero, suc, ◌+◌, ◌-◌, ◌<◌, ◌≤◌, ◌⊎◌, inl, inr, List, [], ◌∷◌, ◌++◌, length, Bool, true, ◌&&◌, Option, Some, None, refl, sym, ap, subst, ◌∙◌, arith, pos, replicate, slice_index_or}
use Rattle.std.proofs.lemmas.Option.{none-some}
use Rattle.std.specs.Prelude.{slice_get, unwrap_or}
use Rattle.pk_ctypes.specs.declared.types.IntType.{IntType}
use Rattle.pk_typed.specs.Trees.{LocalTree, FileObjectTree, StartTree, scalar_start, array_start, UnitTree}
use Rattle.pk_calls.specs.declared.listings.CallPath.{CallPath}
use Rattle.pk_calls.specs.Paths.{entry_path, longer, IsListing}
use Rattle.pk_graph.specs.Kinds.{Kind, count_of, scalar_kind}
use Rattle.pk_graph.specs.Graphs.{VariableOf, StartOf, any_start, number_start, no_variable}
use Rattle.pk_graph.specs.Steps.{Numbers, are_any}
use Rattle.pk_draft.specs.Drafts.{DraftOf}
use Rattle.pk_lower_row.specs.Contexts.{parameters_of}
use Rattle.pk_lower.specs.Parts.{body_at, file_variable, start_of_object}
use Rattle.pk_graph_step.specs.Beginnings.{BeginsWith}
use Rattle.pk_welltyped.specs.WellTyped.{kind_among, IsUnit}
use Rattle.pk_meaning.specs.Objects.{Object, file, local, result, Objects, numbers_of}
use Rattle.pk_meaning.specs.Programs.{function_of, start_of, first_objects}
use Rattle.pk_lower_laws.proofs.Drafts.Places.{inner_object, outer_object, variable_in}
use Rattle.pk_lower_laws.proofs.Drafts.Parts.{AreWritten}
use Rattle.pk_lower_laws.proofs.Drafts.Plans.{place}
use Rattle.pk_lower_laws.proofs.Drafts.Listings.{longer_later}
use Rattle.pk_lower_laws.proofs.Drafts.Declarations.{object_kind}
use Rattle.pk_visits.proofs.Slots.{own}
use Rattle.pk_visits.proofs.Stands.{HasKind}
use Rattle.pk_visits.proofs.Follow.{kind_is}
use Rattle.pk_visits.proofs.Numbered.Starts.{StartsWith}
use Rattle.pk_visits_laws.proofs.Followed.Basics.{some_at}
use Rattle.pk_visits_laws.proofs.Followed.Pairs.{whole, final, ends_of, IsOutside, IsLocal, locals_at, world, function_at_path, AreTyped}
use Rattle.pk_visits_laws.proofs.Followed.Naming.{naming, Made, file_is}
use Rattle.pk_visits_laws.proofs.Followed.Graphs.{program_of, by_numbers}
use Rattle.pk_visits_laws.proofs.Followed.Copies.{numbers_are, named_object}
use Rattle.pk_visits_laws.proofs.Followed.Propers.{locals_are, its_types, parameter_there}
use Rattle.pk_visits_laws.proofs.Followed.Arguments.{Given, first_file, first_result, first_zeros, first_fits}
use Rattle.pk_visits_laws.proofs.Followed.Beginnings.{slot_at, slot_back, slot_told, no_object}
use Rattle.pk_typed.specs.Defaults.{length_of_start}

-- ---- files

file_begins : (x : FileObjectTree) → BeginsWith (file_variable x) (file_variable x).start (start_of x.start)
file_begins x = by x.start where
  by : (s : StartTree) → BeginsWith (record { name = Some x.name; kind = record { int_type = x.int_type; length = length_of_start s }; path = None; start = start_of_object s }) (start_of_object s) (start_of s)
  by (scalar_start z) = refl
  by (array_start n zs) = refl

-- ---- the entry

-- the path that no call enters is the first
entry_first : (u : UnitTree) (entry : ℕ) (paths : List CallPath) → IsListing u entry paths → (k : ℕ) (p : CallPath) → slice_get paths k ≡ Some p → p.caller ≡ None → k ≡ 0
entry_first u entry paths l zero p e c = refl
entry_first u entry paths l (suc k) p e c =
    let at : slice_get (longer u 0 paths) k ≡ Some p = sym (ap (λ (xs : List CallPath). slice_get xs (suc k)) l.in_order) ∙ e in
    let r = longer_later u 0 paths k p at in
    absurd (none-some (record { path = r.0; call = r.1 }) (sym c ∙ r.2))

pub first_path : (u : UnitTree) (entry : ℕ) (paths : List CallPath) → IsListing u entry paths → slice_get paths 0 ≡ Some (entry_path entry)
first_path u entry paths l = ap (λ (xs : List CallPath). slice_get xs 0) l.in_order

-- what a parameter of the entry is in the end
written_at : (xs : List LocalTree) (ms : List VariableOf) (i v : ℕ) (ts : List IntType) → AreWritten xs 0 None ms i v ts → (j : ℕ) → j < length ts → variable_in ms (v + j) ≡ outer_object xs 0 (i + j)
written_at xs ms i v [] h j l = absurd (omega (l, arith))
written_at xs ms i v (t ∷ ts) h zero l = let a : v + zero ≡ v = omega arith in let b : i ≡ i + zero = omega arith in ap (variable_in ms) a ∙ (h.0 ∙ ap (outer_object xs 0) b)
written_at xs ms i v (t ∷ ts) h (suc j) l =
    let a : v + suc j ≡ v + 1 + j = omega arith in
    let b : i + 1 + j ≡ i + suc j = omega arith in
    ap (variable_in ms) a ∙ (written_at xs ms (i + 1) (v + 1) ts h.1 j (omega (l, arith)) ∙ ap (outer_object xs 0) b)

pub entry_outer : (u : UnitTree) (entry : ℕ) (paths : List CallPath) (l : IsListing u entry paths) (h : AreTyped u paths) (i : ℕ) → i < length (parameters_of u entry) → final u paths ((ends_of u paths 0).numbers i) ≡ outer_object (body_at u entry).locals 0 i
entry_outer u entry paths l h i b =
    let m = h.made 0 (entry_path entry) (first_path u entry paths l) in
    let zero_more : 0 + i ≡ i = omega arith in
    ap (final u paths) (m.numbers i b) ∙ (written_at (body_at u entry).locals (whole u paths).made 0 _ (parameters_of u entry) m.parameters i b ∙ ap (outer_object (body_at u entry).locals 0) zero_more)

-- ---- what each object begins with

-- the objects of a run's first configuration
pub record AreFirst (u : UnitTree) (paths : List CallPath) (o : Objects) : Type 0 where
  pub given : Given 0 (function_of (program_of u paths) 0).parameters (first_objects (program_of u paths)) o

pub local_kind : (u : UnitTree) (paths : List CallPath) (h : AreTyped u paths) (k i x : ℕ) (m : IsLocal u paths k i x) → HasKind (program_of u paths) (local k i) m.kind
local_kind u paths h k i x m = (m.path, ap (λ (xs : List LocalTree). kind_among xs i) (sym (locals_are u paths k (h.parts k m.path))) ∙ m.is)

-- the kind of a local in the end
pub final_kind : (u : UnitTree) (paths : List CallPath) (h : AreTyped u paths) (k i x : ℕ) (m : IsLocal u paths k i x) → (final u paths x).kind ≡ record { int_type = m.kind.int_type; length = m.kind.length }
final_kind u paths h k i x m =
    let p = h.parts k m.path in
    let w = place (world u paths) k p.first p.path.function 0 0 in
    let same : locals_at u paths k ≡ (body_at u p.path.function).locals = ap (λ (j : ℕ). (body_at u j).locals) (function_at_path paths k p.path p.place.path) in
    object_kind w i m.kind (final u paths x) (ap (λ (xs : List LocalTree). kind_among xs i) (sym same) ∙ m.is)
    (elim m.final [
      | inl e ↦ inl (e ∙ ap (λ (xs : List LocalTree). inner_object xs k i) same)
      | inr e ↦ inr (e.0, e.1 ∙ ap (λ (xs : List LocalTree). outer_object xs k i) same)
    ])

pub is_parameter : (u : UnitTree) (entry : ℕ) (paths : List CallPath) → IsListing u entry paths → (k i : ℕ) → IsOutside u paths k i → (k ≡ 0) × (i < length (parameters_of u entry))
is_parameter u entry paths l k i h =
    let z = entry_first u entry paths l k h.path h.there h.entry in
    let same : Some h.path ≡ Some (entry_path entry) = sym h.there ∙ (ap (λ (n : ℕ). slice_get paths n) z ∙ first_path u entry paths l) in
    let f : h.path.function ≡ entry = ap (λ (o : Option CallPath). (unwrap_or o h.path).function) same in
    (z, subst (λ (n : ℕ). i < length (parameters_of u n)) f h.parameter)

pub entry_types : (u : UnitTree) (entry : ℕ) (paths : List CallPath) (l : IsListing u entry paths) (h : AreTyped u paths) (b : 0 < length paths) → (function_of (program_of u paths) 0).parameters ≡ parameters_of u entry
entry_types u entry paths l h b =
    let p = h.parts 0 b in
    let same : Some p.path ≡ Some (entry_path entry) = sym p.place.path ∙ first_path u entry paths l in
    its_types u paths 0 p ∙ ap (λ (o : Option CallPath). parameters_of u (unwrap_or o p.path).function) same

-- a parameter of the entry holds any number of its type
outer_begins : (u : UnitTree) (entry : ℕ) (paths : List CallPath) (unit : IsUnit u) (l : IsListing u entry paths) (h : AreTyped u paths) (o : Objects) → AreFirst u paths o → (i x : ℕ) (m : IsLocal u paths 0 i x) → i < length (parameters_of u entry)
    → are_any (final u paths x).kind.int_type (count_of (final u paths x).kind.length) (numbers_of (local 0 i) o) ≡ true
outer_begins u entry paths unit l h o first i x m b =
    let types = entry_types u entry paths l h m.path in
    let t = some_at (function_of (program_of u paths) 0).parameters i (subst (λ (ts : List IntType). i < length ts) (sym types) b) in
    let kind = parameter_there u paths h 0 i t.0 m.path t.1 in
    let at : 0 + i ≡ i = omega arith in
    let size = (first_fits u paths unit (local 0 i) (scalar_kind t.0) kind).0 in
    let there : 0 < length (numbers_of (local 0 (0 + i)) (first_objects (program_of u paths))) = subst (λ (n : ℕ). 0 < length (numbers_of (local 0 n) (first_objects (program_of u paths)))) (sym at) (omega (size, arith)) in
    let z = first.given.given i t.0 t.1 there in
    let same : numbers_of (local 0 i) o ≡ z.0 ∷ [] = ap (λ (n : ℕ). numbers_of (local 0 n) o) (sym at) ∙ z.1 in
    let is : m.kind ≡ scalar_kind t.0 = kind_is (program_of u paths) (local 0 i) m.kind (scalar_kind t.0) (local_kind u paths h 0 i x m) kind in
    let k = final_kind u paths h 0 i x m in
    ap (λ (q : Kind). are_any q.int_type (count_of q.length) (numbers_of (local 0 i) o)) (k ∙ ap (λ (q : Kind). record { int_type = q.int_type; length = q.length }) is)
    ∙ (ap (λ (zs : Numbers). are_any t.0 1 zs) same ∙ ap (λ (c : Bool). c && true) z.2)

-- a local that is no parameter of the entry holds zeros
inner_begins : (u : UnitTree) (entry : ℕ) (paths : List CallPath) (l : IsListing u entry paths) (h : AreTyped u paths) (o : Objects) → AreFirst u paths o → (k i x : ℕ) (m : IsLocal u paths k i x) → (k ≡ 0 → i < length (parameters_of u entry) → ⊥)
    → numbers_of (local k i) o ≡ [] ++ replicate (count_of (final u paths x).kind.length - 0) (pos 0)
inner_begins u entry paths l h o first k i x m never =
    let kind = final_kind u paths h k i x m in
    let less : count_of (final u paths x).kind.length - 0 ≡ count_of m.kind.length = ap (λ (q : Kind). count_of q.length - 0) kind ∙ omega arith in
    let b : 0 < length paths = let z = m.path in omega (z, arith) in
    let types = entry_types u entry paths l h b in
    first.given.others k i (λ e low high. never e (subst (λ (ts : List IntType). i < length ts) types (omega (high, arith))))
    ∙ (first_zeros u paths k i m.kind (local_kind u paths h k i x m) ∙ ap (λ (n : ℕ). replicate n (pos 0)) (sym less))

-- an inner object is no outer one
inner_or_outer : (u : UnitTree) (paths : List CallPath) (x : ℕ) (v w : VariableOf) → final u paths x ≡ v → final u paths x ≡ w → v.start ≡ number_start [] → w.start ≡ any_start → ⊥
inner_or_outer u paths x v w e f a b = absurd (cc (a, b, ap (λ (q : VariableOf). q.start) (sym e ∙ f)))

decided : (i n : ℕ) → (i < n) ⊎ (n ≤ i)
decided i n = grind arith

object_begins : (u : UnitTree) (entry : ℕ) (paths : List CallPath) (unit : IsUnit u) (l : IsListing u entry paths) (h : AreTyped u paths) (o : Objects) → AreFirst u paths o → (x : Object) → Made u paths (own x)
    → BeginsWith (final u paths (naming u paths (own x))) (final u paths (naming u paths (own x))).start (numbers_of x o)
object_begins u entry paths unit l h o first (file i) m =
    let f = file_is u paths h i m.1.1 in
    let same : numbers_of (file i) o ≡ start_of f.0.start = first.given.files i ∙ first_file u paths i f.0 f.1 in
    subst (λ (v : VariableOf). BeginsWith v v.start (numbers_of (file i) o)) (sym f.2) (subst (BeginsWith (file_variable f.0) (file_variable f.0).start) (sym same) (file_begins f.0))
object_begins u entry paths unit l h o first (result k) m =
    let same : numbers_of (result k) o ≡ pos 0 ∷ [] = first.given.results k ∙ first_result u paths k m.1.path in
    subst (λ (v : VariableOf). BeginsWith v v.start (numbers_of (result k) o)) (sym m.1.final) same
object_begins u entry paths unit l h o first (local k i) m = by k refl m.1 (decided i (length (parameters_of u entry))) m.1.final where
  by : (c : ℕ) → k ≡ c → (q : IsLocal u paths k i (naming u paths (own (local k i)))) → (i < length (parameters_of u entry)) ⊎ (length (parameters_of u entry) ≤ i)
      → (final u paths (naming u paths (own (local k i))) ≡ inner_object (locals_at u paths k) k i) ⊎ (IsOutside u paths k i × (final u paths (naming u paths (own (local k i))) ≡ outer_object (locals_at u paths k) k i))
      → BeginsWith (final u paths (naming u paths (own (local k i)))) (final u paths (naming u paths (own (local k i)))).start (numbers_of (local k i) o)
  by (suc c) e q d (inl f) = subst (λ (b : StartOf). BeginsWith (final u paths (naming u paths (own (local k i)))) b (numbers_of (local k i) o)) (sym (ap (λ (v : VariableOf). v.start) f))
      (inner_begins u entry paths l h o first k i (naming u paths (own (local k i))) q (λ z n. absurd (omega (e, z, arith))))
  by (suc c) e q d (inr f) = let z = (is_parameter u entry paths l k i f.0).0 in absurd (omega (e, z, arith))
  by zero e q (inr d) (inl f) = subst (λ (b : StartOf). BeginsWith (final u paths (naming u paths (own (local k i)))) b (numbers_of (local k i) o)) (sym (ap (λ (v : VariableOf). v.start) f))
      (inner_begins u entry paths l h o first k i (naming u paths (own (local k i))) q (λ z n. absurd (omega (n, d, arith))))
  by zero e q (inr d) (inr f) = let z = (is_parameter u entry paths l k i f.0).1 in absurd (omega (d, z, arith))
  by zero e q (inl d) (inl f) =
      let out = entry_outer u entry paths l h i d in
      absurd (inner_or_outer u paths (naming u paths (own (local k i))) (inner_object (locals_at u paths k) k i) (outer_object (body_at u entry).locals 0 i) f (ap (λ (n : ℕ). final u paths ((ends_of u paths n).numbers i)) e ∙ out) refl refl)
  by zero e q (inl d) (inr f) = subst (λ (b : StartOf). BeginsWith (final u paths (naming u paths (own (local k i)))) b (numbers_of (local k i) o)) (sym (ap (λ (v : VariableOf). v.start) f.1))
      (subst (λ (n : ℕ). are_any (final u paths (naming u paths (own (local n i)))).kind.int_type (count_of (final u paths (naming u paths (own (local n i)))).kind.length) (numbers_of (local n i) o) ≡ true) (sym e)
      (outer_begins u entry paths unit l h o first i (naming u paths (own (local 0 i))) (subst (λ (n : ℕ). IsLocal u paths n i (naming u paths (own (local n i)))) e q) d))

-- ---- all variables

pub starts_with : (u : UnitTree) (entry : ℕ) (paths : List CallPath) → IsUnit u → IsListing u entry paths → AreTyped u paths → (o : Objects) → AreFirst u paths o → StartsWith (naming u paths) (Made u paths) (by_numbers u paths) o
starts_with u entry paths unit l h o first =
    let same : (by_numbers u paths).made ≡ (whole u paths).made = ap (λ (d : DraftOf ℕ). d.made) (numbers_are u paths) in
    let at : (y : ℕ) → slice_index_or (by_numbers u paths).made y no_variable ≡ final u paths y = λ y. ap (λ (ms : List VariableOf). variable_in ms y) same in
    record {
      slot_of = slot_at u paths;
      back = λ s m. slot_back u paths h s m;
      below = λ s m. let z = ap length same in let b = m.0 in omega (z, b, arith);
      own_starts = λ y x b e. let t = slot_told u paths h y x e in
          subst (λ (v : VariableOf). BeginsWith v v.start (numbers_of x o)) (sym (at y)) (subst (λ (n : ℕ). BeginsWith (final u paths n) (final u paths n).start (numbers_of x o)) t.1 (object_begins u entry paths unit l h o first x t.0));
      zero_starts = λ y n b e. ap (λ (v : VariableOf). v.start) (at y) ∙ (elim (h.typed.zeros y) [
        | inl z ↦ z
        | inr z ↦ (let q = named_object u paths h y z in absurd (no_object u paths h y n e q.0 q.1 (sym q.2)))
      ]);
    }
