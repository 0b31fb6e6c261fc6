-- What is known of a unit and its paths, as the graph over slots asks it.
use Rattle.std.proofs.Common.{◌≡◌, ℕ, zero, suc, ◌+◌, ◌<◌, inl, inr, List, [], ◌∷◌, ◌++◌, length, Bool, true, false, ◌||◌, nat_eq, Option, Some, refl, sym, ap, subst, ◌∙◌, arith, slice_index_or}
use Rattle.std.proofs.lemmas.Option.{none-some, get_or_from_slice_get}
use Rattle.std.specs.Prelude.{slice_get, option_map, unwrap_or}
use Rattle.pk_ctypes.specs.declared.types.IntType.{IntType}
use Rattle.pk_typed.specs.Trees.{LocalTree, FunctionTree, FileObjectTree, UnitTree}
use Rattle.pk_calls.specs.declared.listings.CallPath.{CallPath}
use Rattle.pk_calls.specs.Paths.{entry_path, path_by, IsListing}
use Rattle.pk_graph.specs.declared.graphs.Entry.{Entry}
use Rattle.pk_graph.specs.declared.graphs.Scope.{Scope}
use Rattle.pk_graph.specs.Graphs as entries
use Rattle.pk_graph.specs.Graphs.{VariableOf, no_variable, scope_at, chained, named_in}
use Rattle.pk_draft.specs.declared.drafts.Label.{Label}
use Rattle.pk_draft.specs.Drafts.{DraftOf}
use Rattle.pk_lower_row.specs.Contexts.{parameters_of}
use Rattle.pk_lower.specs.Parts.{body_at}
use Rattle.pk_welltyped.specs.WellTyped.{kind_among}
use Rattle.pk_meaning.specs.Objects.{Object, file, local, result, is_same}
use Rattle.pk_meaning.specs.Objects as objects
use Rattle.pk_meaning.specs.Programs.{function_of, block_of, name_of}
use Rattle.pk_meaning.specs.Work.{Place}
use Rattle.pk_meaning.specs.Steps.{place}
use Rattle.pk_lower_laws.proofs.Drafts.Places.{AreChained}
use Rattle.pk_lower_laws.proofs.Drafts.Parts.{ParametersAt}
use Rattle.pk_lower_laws.proofs.Drafts.Plans.{its_parameters}
use Rattle.pk_lower_laws.proofs.Drafts.Each.{PartOf}
use Rattle.pk_visits.proofs.Slots.{own, Among, Draft}
use Rattle.pk_visits.proofs.Stands.{Proper, HasKind}
use Rattle.pk_ctypes.proofs.Small.{both_true}
use Rattle.pk_visits_laws.proofs.Followed.Basics.{number_is, some_at}
use Rattle.pk_visits_laws.proofs.Followed.Paths.{first_of, call_is, callee_is, function_is}
use Rattle.pk_visits_laws.proofs.Followed.Pairs.{whole, final, ends_of, IsLocal, locals_at, world, function_at_path, AreTyped}
use Rattle.pk_visits_laws.proofs.Followed.Naming.{naming, Made, file_is}
use Rattle.pk_visits_laws.proofs.Followed.Graphs.{program_of, by_numbers, over_slots, IsOf, Shows, graph}
use Rattle.pk_visits_laws.proofs.Followed.Copies.{slots_are, numbers_are, file_made, local_made}
use Rattle.pk_visits_laws.proofs.Followed.Starts.{locals_same}
use Rattle.pk_typed.specs.Defaults.{no_local}
use Rattle.pk_graph.specs.Kinds.{scalar_kind}

-- ---- scopes

get_same : {A : Type 0} (xs ys : List A) (i : ℕ) (d : A) → i < length xs → slice_index_or (xs ++ ys) i d ≡ slice_index_or xs i d
get_same [] ys i d h = absurd (omega (h, arith))
get_same (x ∷ xs) ys zero d h = refl
get_same (x ∷ xs) ys (suc i) d h = get_same xs ys i d (omega (h, arith))

get_last : {A : Type 0} (xs : List A) (x d : A) → slice_index_or (xs ++ x ∷ []) (length xs) d ≡ x
get_last [] x d = refl
get_last (y ∷ xs) x d = get_last xs x d

more_one : {A : Type 0} (xs : List A) (x : A) → length (xs ++ x ∷ []) ≡ length xs + 1
more_one [] x = refl
more_one (y ∷ xs) x = let z = more_one xs x in omega (z, arith)

-- lists that are known stay
chained_same : (ss : List Scope) (known : List (List Entry)) (i : ℕ) → i < length known → slice_index_or (chained known ss) i [] ≡ slice_index_or known i []
chained_same [] known i h = refl
chained_same (s ∷ ss) known i h =
    let l = s.entry ∷ slice_index_or known s.outer [] in
    let z = more_one known l in
    chained_same ss (known ++ l ∷ []) i (omega (h, z, arith)) ∙ get_same known (l ∷ []) i [] h

chained_at : (ss : List Scope) (known : List (List Entry)) (n : ℕ) (s : Scope) → slice_get ss n ≡ Some s → s.outer < length known + n → slice_index_or (chained known ss) (length known + n) [] ≡ s.entry ∷ slice_index_or (chained known ss) s.outer []
chained_at [] known n s e h = absurd (none-some s e)
chained_at (y ∷ ss) known zero s e h = by (ap (λ (o : Option Scope). unwrap_or o s) e) h where
  by : y ≡ s → s.outer < length known + zero → slice_index_or (chained known (y ∷ ss)) (length known + zero) [] ≡ s.entry ∷ slice_index_or (chained known (y ∷ ss)) s.outer []
  by q h =
      let l = y.entry ∷ slice_index_or known y.outer [] in
      let z = more_one known l in
      let at : length known + zero ≡ length known = omega arith in
      let low : y.outer < length known = let w = ap (λ (x : Scope). x.outer) q in omega (w, h, arith) in
      ap (λ (i : ℕ). slice_index_or (chained known (y ∷ ss)) i []) at
      ∙ (chained_same ss (known ++ l ∷ []) (length known) (omega (z, arith)) ∙ (get_last known l []
      ∙ (ap (λ (x : List Entry). y.entry ∷ x) (sym (chained_same ss (known ++ l ∷ []) y.outer (omega (z, low, arith)) ∙ get_same known (l ∷ []) y.outer [] low))
      ∙ ap (λ (x : Scope). x.entry ∷ slice_index_or (chained known (y ∷ ss)) x.outer []) q)))
chained_at (y ∷ ss) known (suc n) s e h =
    let l = y.entry ∷ slice_index_or known y.outer [] in
    let z = more_one known l in
    let at : length known + suc n ≡ length (known ++ l ∷ []) + n = omega (z, arith) in
    ap (λ (i : ℕ). slice_index_or (chained known (y ∷ ss)) i []) at ∙ chained_at ss (known ++ l ∷ []) n s e (omega (h, z, arith))

-- nothing is in scope at place 0
pub scope_nothing : (ss : List Scope) → scope_at ss 0 ≡ []
scope_nothing ss = chained_same ss ([] ∷ []) 0 (omega arith)

-- place n + 1 adds entry n to those of the place around it
pub scope_behind : (ss : List Scope) → AreChained ss → (n : ℕ) (s : Scope) → slice_get ss n ≡ Some s → scope_at ss (n + 1) ≡ s.entry ∷ scope_at ss s.outer
scope_behind ss h n s e =
    let known : List (List Entry) = [] ∷ [] in
    let at : n + 1 ≡ 1 + n = omega arith in
    let low = h n s e in
    ap (λ (i : ℕ). scope_at ss i) at ∙ chained_at ss ([] ∷ []) n s e (omega (low, arith))

-- ---- the objects in scope

is_false : (b : Bool) → (b ≡ true → ⊥) → b ≡ false
is_false true h = absurd (h refl)
is_false false h = refl

other_path : (k m i : ℕ) (x : Object) → k < m → IsOf k x → is_same (local m i) x ≡ true → ⊥
other_path k m i (file j) l o h = absurd (cc h)
other_path k m i (local n j) l o h = let z = number_is m n (both_true (nat_eq m n) (nat_eq i j) h).0 in absurd (omega (z, o, l, arith))
other_path k m i (result n) l o h = absurd o

not_in_scope : (k m i : ℕ) (xs : objects.Scope) → k < m → ((x : Object) → Among x xs → IsOf k x) → objects.is_in_scope (local m i) xs ≡ false
not_in_scope k m i [] l h = refl
not_in_scope k m i (x ∷ xs) l h =
    ap (λ (b : Bool). b || objects.is_in_scope (local m i) xs) (is_false (is_same (local m i) x) (other_path k m i x l (h x (inl refl)))) ∙ not_in_scope k m i xs l (λ y a. h y (inr a))

-- ---- names

-- what a declared object of a path is in the end has its name
local_name : (u : UnitTree) (paths : List CallPath) (k i x : ℕ) → IsLocal u paths k i x → (final u paths x).name ≡ (slice_index_or (locals_at u paths k) i no_local).name
local_name u paths k i x h = elim h.final [ inl e ↦ ap (λ (v : VariableOf). v.name) e | inr e ↦ ap (λ (v : VariableOf). v.name) e.1 ]

pub locals_are : (u : UnitTree) (paths : List CallPath) (k : ℕ) (p : PartOf (world u paths) (whole u paths) k) → locals_at u paths k ≡ (block_of (program_of u paths) k).locals
locals_are u paths k p = ap (λ (j : ℕ). (body_at u j).locals) (function_at_path paths k p.path p.place.path) ∙ locals_same u paths k p

object_name : (u : UnitTree) (paths : List CallPath) (h : AreTyped u paths) (k i : ℕ) → k < length paths → i < (ends_of u paths k).objects
    → unwrap_or (slice_index_or (by_numbers u paths).made (naming u paths (own (local k i))) no_variable).name [] ≡ name_of (program_of u paths) (local k i)
object_name u paths h k i b c =
    let m = local_made u paths h k i b c in
    let made = ap (λ (d : DraftOf ℕ). d.made) (numbers_are u paths) in
    ap (λ (ms : List VariableOf). unwrap_or (slice_index_or ms (naming u paths (own (local k i))) no_variable).name []) made
    ∙ (ap (λ (o : Option (List ℕ)). unwrap_or o []) (local_name u paths k i (naming u paths (own (local k i))) m.1)
    ∙ ap (λ (xs : List LocalTree). unwrap_or (slice_index_or xs i no_local).name []) (locals_are u paths k (h.parts k b)))

pub file_name : (u : UnitTree) (paths : List CallPath) (h : AreTyped u paths) (i : ℕ) → i < length u.objects → unwrap_or (slice_index_or (by_numbers u paths).made i no_variable).name [] ≡ name_of (program_of u paths) (file i)
file_name u paths h i b =
    let f = file_is u paths h i b in
    let made = ap (λ (d : DraftOf ℕ). d.made) (numbers_are u paths) in
    ap (λ (ms : List VariableOf). unwrap_or (slice_index_or ms i no_variable).name []) made
    ∙ (ap (λ (v : VariableOf). unwrap_or v.name []) f.2
    ∙ sym (ap (λ (o : Option FileObjectTree). unwrap_or (option_map (λ (x : FileObjectTree). x.name) o) []) f.1))

-- ---- a name more

-- an object of the file or of the path comes into scope
comes_in : (u : UnitTree) (paths : List CallPath) (h : AreTyped u paths) (l : Label) (k n : ℕ) (j : Place) (x : Object) → Shows u paths l k j → Made u paths (own x)
    → unwrap_or (slice_index_or (by_numbers u paths).made (naming u paths (own x)) no_variable).name [] ≡ name_of (program_of u paths) x → IsOf k x
    → slice_get (over_slots u paths).scopes n ≡ Some (record { entry = entries.naming (naming u paths (own x)); outer = l.scope })
    → Shows u paths (record { at = l.at; path = l.path; scope = n + 1 }) k (place j.at (x ∷ j.scope))
comes_in u paths h l k n j x s made name of e =
    let slots = ap (λ (d : Draft). d.scopes) (slots_are u paths) in
    let numbers = ap (λ (d : DraftOf ℕ). d.scopes) (numbers_are u paths) in
    let same : (over_slots u paths).scopes ≡ (by_numbers u paths).scopes = slots ∙ sym numbers in
    let chain : AreChained (by_numbers u paths).scopes = subst AreChained (sym numbers) h.typed.chain in
    let entry : Scope = record { entry = entries.naming (naming u paths (own x)); outer = l.scope } in
    let there : slice_get (by_numbers u paths).scopes n ≡ Some entry = ap (λ (ss : List Scope). slice_get ss n) (sym same) ∙ e in
    let more = ap named_in (scope_behind (by_numbers u paths).scopes chain n entry there) in
    record {
      path = s.path;
      shown = record {
        path = s.shown.path;
        at = s.shown.at;
        scope = more ∙ ap (λ (xs : List ℕ). naming u paths (own x) ∷ xs) s.shown.scope;
        made = λ y a. elim a [ inl q ↦ subst (λ (z : Object). Made u paths (own z)) (sym q) made | inr q ↦ s.shown.made y q ];
        names = λ y a. elim a [
          | inl q ↦ subst (λ (z : Object). unwrap_or (slice_index_or (by_numbers u paths).made (naming u paths (own z)) no_variable).name [] ≡ name_of (program_of u paths) z) (sym q) name
          | inr q ↦ s.shown.names y q
        ];
      };
      own = λ y a. elim a [ inl q ↦ subst (IsOf k) (sym q) of | inr q ↦ s.own y q ];
    }

-- a name that is hidden stays in scope
stays_in : (u : UnitTree) (paths : List CallPath) (h : AreTyped u paths) (l : Label) (k n x : ℕ) (j : Place) → Shows u paths l k j → slice_get (over_slots u paths).scopes n ≡ Some (record { entry = entries.hiding x; outer = l.scope })
    → Shows u paths (record { at = l.at; path = l.path; scope = n + 1 }) k j
stays_in u paths h l k n x j s e =
    let slots = ap (λ (d : Draft). d.scopes) (slots_are u paths) in
    let numbers = ap (λ (d : DraftOf ℕ). d.scopes) (numbers_are u paths) in
    let same : (over_slots u paths).scopes ≡ (by_numbers u paths).scopes = slots ∙ sym numbers in
    let chain : AreChained (by_numbers u paths).scopes = subst AreChained (sym numbers) h.typed.chain in
    let entry : Scope = record { entry = entries.hiding x; outer = l.scope } in
    let there : slice_get (by_numbers u paths).scopes n ≡ Some entry = ap (λ (ss : List Scope). slice_get ss n) (sym same) ∙ e in
    let more = ap named_in (scope_behind (by_numbers u paths).scopes chain n entry there) in
    record { path = s.path; shown = record { path = s.shown.path; at = s.shown.at; scope = more ∙ s.shown.scope; made = s.shown.made; names = s.shown.names }; own = s.own }

-- ---- parameters

parameter_kind : (xs : List LocalTree) (j : ℕ) (ts : List IntType) → ParametersAt xs j ts → (i : ℕ) (t : IntType) → slice_get ts i ≡ Some t → kind_among xs (j + i) ≡ Some (scalar_kind t)
parameter_kind xs j [] h i t e = absurd (none-some t e)
parameter_kind xs j (u ∷ ts) h zero t e =
    let at : j + zero ≡ j = omega arith in
    ap (kind_among xs) at ∙ (h.0 ∙ ap (λ (o : Option IntType). Some (scalar_kind (unwrap_or o u))) e)
parameter_kind xs j (u ∷ ts) h (suc i) t e = let at : j + suc i ≡ j + 1 + i = omega arith in ap (kind_among xs) at ∙ parameter_kind xs (j + 1) ts h.1 i t e

pub its_types : (u : UnitTree) (paths : List CallPath) (m : ℕ) (p : PartOf (world u paths) (whole u paths) m) → (function_of (program_of u paths) m).parameters ≡ parameters_of u p.path.function
its_types u paths m p =
    ap (λ (g : FunctionTree). g.parameters) (function_is (world u paths) m p.first p.path p.place) ∙ sym (ap (λ (o : Option FunctionTree). unwrap_or (option_map (λ (g : FunctionTree). g.parameters) o) []) p.place.there)

pub parameter_there : (u : UnitTree) (paths : List CallPath) (h : AreTyped u paths) (m i : ℕ) (t : IntType) → m < length paths → slice_get (function_of (program_of u paths) m).parameters i ≡ Some t → HasKind (program_of u paths) (local m i) (scalar_kind t)
parameter_there u paths h m i t b e =
    let p = h.parts m b in
    let at : 0 + i ≡ i = omega arith in
    let k = parameter_kind (body_at u p.path.function).locals 0 (parameters_of u p.path.function) (its_parameters (world u paths) m p.first p.path p.place) i t (ap (λ (ts : List IntType). slice_get ts i) (sym (its_types u paths m p)) ∙ e) in
    (b, ap (λ (xs : List LocalTree). kind_among xs i) (sym (locals_same u paths m p)) ∙ (ap (kind_among (body_at u p.path.function).locals) (sym at) ∙ k))

-- ---- all of it

pub is_proper : (u : UnitTree) (entry : ℕ) (paths : List CallPath) → IsListing u entry paths → AreTyped u paths → Proper (graph u paths)
is_proper u entry paths l h = record {
  callees = λ k z b a. let p = some_at paths k b in let c = call_is (world u paths) h.paths_are k p.0 p.1 z a in callee_is u entry paths l k z.number z.call.function c.leads;
  there = λ k z b a. let p = some_at paths k b in (call_is (world u paths) h.paths_are k p.0 p.1 z a).there;
  functions = λ k z b a. let p = some_at paths k b in
      let c = call_is (world u paths) h.paths_are k p.0 p.1 z a in
      ap (λ (q : CallPath). q.function) (get_or_from_slice_get paths (first_of u paths k + z.number) (path_by k z.number z.call.function) (entry_path 0) c.leads);
  behind = λ k z b a. let p = some_at paths k b in (call_is (world u paths) h.paths_are k p.0 p.1 z a).behind;
  at_positions = λ m k j s. sym s.shown.at;
  positions = λ m k xs q s. record { path = s.path; shown = record { path = s.shown.path; at = refl; scope = s.shown.scope; made = s.shown.made; names = s.shown.names }; own = s.own };
  scopes = λ m k n i j s b. not_in_scope k n i j.scope b s.own;
  enters = λ m k i n j s b c e. comes_in u paths h m k n j (local k i) s (local_made u paths h k i b c) (object_name u paths h k i b c) refl e;
  hides = λ m k x n j s e. stays_in u paths h m k n x j s e;
  shares = λ m k i n j s b e. comes_in u paths h m k n j (file i) s (file_made u paths h i b) (file_name u paths h i b) tt e;
  parameters = λ m i t b e. parameter_there u paths h m i t b e;
}
