-- Well-typed declarations are lowered typed.
use Rattle.std.proofs.Common.{◌≡◌, inl, inr, false, ℕ, zero, suc, ◌+◌, ◌<◌, ◌≤◌, List, [], ◌∷◌, Option, Some, None, length, refl, ap, sym, subst, ◌∙◌, arith}
use Rattle.std.proofs.lemmas.Int.{ints}
use Rattle.std.proofs.lemmas.Option.{none-some, get_or_from_slice_get}
use Rattle.std.specs.Prelude.{pos, slice_get, unwrap_or}
use Rattle.std.specs.Option.{option_map}
use Rattle.pk_ctypes.specs.declared.types.IntType.{IntType}
use Rattle.pk_ctypes.specs.declared.types.IntType.TheVariants.{Int}
use Rattle.pk_ctypes.specs.Types.{InType}
use Rattle.pk_typed.specs.declared.values.Variable.TheVariants.{File, Local}
use Rattle.pk_typed.specs.declared.values.Variable.{Variable}
use Rattle.pk_typed.specs.Trees.{ValueTree, ValueTrees, DeclaredTree, LocalTree, FileObjectTree}
use Rattle.pk_typed.specs.Trees as tree
use Rattle.pk_typed.specs.Types.{type_of}
use Rattle.pk_graph.specs.Graphs.{VariableOf, hiding}
use Rattle.pk_graph.specs.Kinds.{Kind, count_of, scalar_kind, array_kind}
use Rattle.pk_lower_laws.proofs.Drafts.Tables.{IsOfType}
use Rattle.pk_graph.specs.Trees.{constant, variable, Havoc, Clear, Store}
use Rattle.pk_draft.specs.Drafts.{inner, on, with_name, with_object, emit}
use Rattle.pk_draft.specs.Folding.{conversion}
use Rattle.pk_lower_row.specs.Contexts.{site, own, array_of, local_at}
use Rattle.pk_lower_row.specs.Rows.{operand}
use Rattle.pk_lower_expression.specs.Expressions.{ways}
use Rattle.pk_lower_statement.specs.Statements as form
use Rattle.pk_welltyped.specs.Listed.{calls_in, calls_in_values, calls_in_declared, calls_in_all_declared, objects_in_declared, objects_in_all_declared}
use Rattle.pk_welltyped.specs.WellTyped as good
use Rattle.pk_welltyped.specs.WellTyped.{IsValue, AreValues, kind_among, IsDeclared, AreDeclared}
use Rattle.pk_lower_laws.proofs.Drafts.Places.{D, Place, Has, IsObjectOf, Stage, Typed, ObjectsForeseen, Proper, Step}
use Rattle.pk_lower_laws.proofs.Drafts.Verbs.{with_objects, object_step}
use Rattle.pk_lower_laws.proofs.Drafts.Trees.{constant_is, conversion_is}
use Rattle.pk_lower_laws.proofs.Drafts.Rows.{Works, HasArray, array_is, type_is, store_is, inner_start, idle, seen, then_emit, knowing}
use Rattle.pk_lower_laws.proofs.Drafts.Targets.{set_step}
use Rattle.pk_lower_laws.proofs.Drafts.Expressions.{CallsAre, split, around, object_is, array_there, local_length, values}
use Rattle.pk_lower_laws.proofs.Drafts.Chains.{chain, use_it, given, on_step, typed_entry, entry_step, named_step}
use Rattle.pk_typed.specs.Defaults.{no_local, length_of_start}

-- behind n more objects
abbrev pub more : ℕ → Stage → Stage
more n s = with_objects (s.objects + n) s

pub local_type : (w : Place) (i : ℕ) (k : Kind) → kind_among w.context.locals i ≡ Some k → (local_at w.context i).int_type ≡ k.int_type
local_type w i k e = known (slice_get w.context.locals i) refl e
  where
    known : (o : Option LocalTree) → slice_get w.context.locals i ≡ o → option_map (λ (x : LocalTree). record { int_type = x.int_type; length = x.length }) o ≡ Some k → (local_at w.context i).int_type ≡ k.int_type
    known None is e = absurd (none-some k e)
    known (Some x) is e = ap (λ (l : LocalTree). l.int_type) (get_or_from_slice_get w.context.locals i x no_local is) ∙ ap (λ (q : Option Kind). (unwrap_or q k).int_type) e

-- an object's variable has its kind
pub object_kind : (w : Place) (i : ℕ) (k : Kind) (x : VariableOf) → kind_among w.context.locals i ≡ Some k → IsObjectOf w i x → x.kind ≡ record { int_type = k.int_type; length = k.length }
object_kind w i k x e b =
    let y = local_at w.context i in
    let same : record { int_type = y.int_type; length = y.length } ≡ record { int_type = k.int_type; length = k.length } =
    ap (λ (t : IntType). record { int_type = t; length = y.length }) (local_type w i k e) ∙ ap (λ (n : Option ℕ). record { int_type = k.int_type; length = n }) (local_length w i k e) in
    elim b [ inl is ↦ ap (λ (v : VariableOf). v.kind) is ∙ same | inr is ↦ ap (λ (v : VariableOf). v.kind) is.1 ∙ same ]

-- the next object comes into scope
pub introduced_step : (w : Place) → Proper w → (m : ℕ) (s : Stage) (k : Kind) → kind_among w.context.locals s.objects ≡ Some k → 0 < count_of k.length → (d : D w) → Step w m m s (more 1 s) d (form.introduced w.context s.objects d) (Unit {0}) (Unit {0})
introduced_step w g m s k e some d =
    let x = local_at w.context s.objects in
    let v = inner x.name x.int_type x.length w.context.path in
    chain (object_step w g m s v d refl (inner_start x.name x.int_type x.length w.context.path) k e some (inl refl)) (named_step w m (more 1 s) x.name d.variables (with_object s.objects v d))

-- object i, which is declared
there : (w : Place) → Proper w → (s : Stage) (i : ℕ) (k : Kind) → i < s.objects → kind_among w.context.locals i ≡ Some k → (d : D w) → Typed w s d → Has w.table (own w.context i d) k.int_type k.length
there w g s i k l e d t = object_is w g s k (Local i) (l, e) d t

anything_works : (w : Place) → Proper w → (m : ℕ) (s : Stage) (i : ℕ) (k : Kind) → i < s.objects → kind_among w.context.locals i ≡ Some k → Works w m m s (form.anything w.context i)
anything_works w g m s i k l e d =
    let x = local_at w.context i in
    let y = own w.context i d in
    let h = Has w.table y k.int_type k.length in
    given (Unit {0}) (λ (q : h). tt)
    (then_emit w g m m s d d (Havoc y x.int_type (count_of x.length)) (Unit {0}) h (seen w m s d (Unit {0}) h (λ t q. there w g s i k l e d t))
    (λ q. (q.there, type_is w.table y k.int_type k.length q ∙ sym (local_type w i k e), ap (λ (a : Kind). count_of a.length) q.kind ∙ ap count_of (sym (local_length w i k e)))))

-- ---- scalars

scalar_works : (w : Place) → Proper w → (m n : ℕ) (s : Stage) (i : ℕ) (t : IntType) → i < s.objects → kind_among w.context.locals i ≡ Some (scalar_kind t) → (e : Option ValueTree) → good.IsValueIf (around w s) e → CallsAre w m (calls_in_declared (tree.scalar_object i (record { line = 0; column = 0 }) e)) n
    → Works w m n s (form.scalar_first w.context i e)
scalar_works w g m n s i t l k None h c d = subst (λ (j : ℕ). Works w m j s (form.scalar_first w.context i None)) c (anything_works w g m s i (scalar_kind t) l k) d
scalar_works w g m n s i t l k (Some e) h c d =
    let u = (local_at w.context i).int_type in
    let y = own w.context i d in
    given (Unit {0}) (λ (q : IsOfType w.table u (variable y)). tt)
    (set_step w g m n s u y (operand e (ways w.context e)) (values w g m n s e h c) d
    (λ z. subst (λ (v : IntType). Has w.table y v None) (sym (local_type w i (scalar_kind t) k)) (there w g s i (scalar_kind t) l k d z)))

-- ---- arrays

place_in : (j : ℕ) → j ≤ 1048576 → InType Int (pos j)
place_in j h = record { from = omega (arith, ints, h); to = omega (arith, ints, h) }

item_works : (w : Place) → Proper w → (m n : ℕ) (s : Stage) (i j : ℕ) (t : IntType) (k : ℕ) → i < s.objects → kind_among w.context.locals i ≡ Some (array_kind t k) → j ≤ 1048576 → (e : ValueTree) → IsValue (around w s) e → CallsAre w m (calls_in e) n
    → Works w m n s (form.item w.context i j (type_of e) (ways w.context e))
item_works w g m n s i j t k l is few e h c d =
    let v = (local_at w.context i).int_type in
    let a = array_of w.context (Local i) d in
    let o = site w.context d.here.at in
    let r = (ways w.context e).value d in
    let x = IsOfType w.table (type_of e) r.0 in
    let y = HasArray w.table a t in
    given (Unit {0}) (λ (q : x × y). tt)
    (then_emit w g m n s d r.1 (Store a o false (constant Int (pos j)) (conversion (type_of e) v r.0)) (Unit {0}) (x × y)
    (knowing w m n s d r.1 y x (λ z. array_there w g s t (Local i) (k, (l, is)) d z) ((values w g m n s e h c).value d))
    (λ q. store_is w.table a t Int o false (constant Int (pos j)) (conversion (type_of e) v r.0) q.1 (constant_is w.table Int (pos j) (place_in j few))
    (subst (λ (u : IntType). IsOfType w.table u (conversion (type_of e) v r.0)) (local_type w i (array_kind t k) is) (conversion_is w.table (type_of e) v r.0 q.0))))

items_work : (w : Place) → Proper w → (m n : ℕ) (s : Stage) (i j : ℕ) (t : IntType) (k : ℕ) → i < s.objects → kind_among w.context.locals i ≡ Some (array_kind t k) → (es : ValueTrees) → j + good.count es ≤ 1048576
    → AreValues (around w s) es → CallsAre w m (calls_in_values es) n
    → Works w m n s (form.items w.context i j es)
unfolding form.items AreValues calls_in_values
items_work w g m n s i j t k l is tree.no_values few h c d = subst (λ (q : ℕ). Step w m q s s d d (Unit {0}) (Unit {0})) c (idle w m s d (Unit {0}))
items_work w g m n s i j t k l is (tree.value_before e es) few h c d =
    let p = split w m n (calls_in e) (calls_in_values es) c in
    chain (item_works w g m p.middle s i j t k l is (omega (few, arith)) e h.0 p.first d)
    (items_work w g p.middle n s i (j + 1) t k l is es (omega (few, arith)) h.1 p.second (form.item w.context i j (type_of e) (ways w.context e) d))

array_works : (w : Place) → Proper w → (m n : ℕ) (s : Stage) (i : ℕ) (t : IntType) (k : ℕ) → i < s.objects → kind_among w.context.locals i ≡ Some (array_kind t k) → k ≤ 1048576 → (es : Option ValueTrees) → good.count_if es ≤ k
    → good.AreValuesIf (around w s) es
    → CallsAre w m (calls_in_declared (tree.array_object i (record { line = 0; column = 0 }) es)) n → Works w m n s (form.array_first w.context i es)
array_works w g m n s i t k l is few None room h c d = subst (λ (j : ℕ). Works w m j s (form.array_first w.context i None)) c (anything_works w g m s i (array_kind t k) l is) d
array_works w g m n s i t k l is few (Some es) room h c d =
    let a = array_of w.context (Local i) d in
    let y = HasArray w.table a t in
    let clear = given (Unit {0}) (λ (q : y). tt) (then_emit w g m m s d d (Clear a) (Unit {0}) y (seen w m s d (Unit {0}) y (λ z q. array_there w g s t (Local i) (k, (l, is)) d z)) (λ q. array_is w.table a t q)) in
    chain clear (items_work w g m n s i 0 t k l is es (omega (room, few, arith)) h c (emit (Clear a) d))

-- ---- constants that hide

file_below : (xs : List FileObjectTree) (n : ℕ) (k : Kind) → option_map (λ (x : FileObjectTree). record { int_type = x.int_type; length = length_of_start x.start }) (slice_get xs n) ≡ Some k → n < length xs
file_below [] n k h = absurd (none-some k h)
file_below (x ∷ xs) zero k h = omega arith
file_below (x ∷ xs) (suc n) k h = let z = file_below xs n k h in omega (z, arith)

-- the variable of an object that is declared is there, and can be named
variable_there : (w : Place) → Proper w → (s : Stage) (x : Variable) (k : Kind) → good.IsObject (around w s) k x → (d : D w) → d.variables ≤ w.limit → ObjectsForeseen w s d.variables d.objects → Typed w s d
    → (form.number_of x d < length w.kinds) × w.CanBeNamed (form.number_of x d)
variable_there w g s (File n) k h d b f t = g.shared n (file_below w.context.unit.objects n k h)
variable_there w g s (Local i) k h d b f t =
    (let a = t.objects.below i h.0 in let l = g.limit in omega (a, b, l, arith), subst w.CanBeNamed (f.objects i h.0) (g.named i (let z = f.declared in let y = h.0 in omega (z, y, arith))))

hiding_step : (w : Place) → Proper w → (m : ℕ) (s : Stage) (x : Variable) (k : Kind) → good.IsObject (around w s) k x → (d : D w) → Step w m m s s d (form.hidden x d) (Unit {0}) (Unit {0})
hiding_step w g m s x k h d =
    let e = hiding (form.number_of x d) in
    let q = entry_step w m s e d in
    record {
      order = q.order;
      variables = q.variables;
      points = q.points;
      scopes = q.scopes;
      after = q.after;
      objects = q.objects;
      before = q.before;
      typed = λ a b z f u. (typed_entry w s e d f (variable_there w g s x k h d b.0 z.objects f), tt);
    }

-- ---- declared objects

pub declared_works : (w : Place) → Proper w → (m n : ℕ) (s : Stage) (x : DeclaredTree) → IsDeclared (around w s) x → CallsAre w m (calls_in_declared x) n → (d : D w) → Step w m n s (more (objects_in_declared x) s) d (form.declared w.context x d) (Unit {0}) (Unit {0})
declared_works w g m n s (tree.scalar_object i p e) h c d =
    let k = scalar_kind h.1.0 in
    let o = on p d in
    subst (λ (j : ℕ). Step w m n s (more 1 s) d (form.scalar_first w.context j e (form.introduced w.context j o)) (Unit {0}) (Unit {0})) (sym h.0)
    (chain (chain (on_step w m s p d) (introduced_step w g m s k (ap (kind_among w.context.locals) (sym h.0) ∙ h.1.1) (omega arith) o))
    (scalar_works w g m n (more 1 s) s.objects h.1.0 (omega arith) (ap (kind_among w.context.locals) (sym h.0) ∙ h.1.1) e h.2 c (form.introduced w.context s.objects o)))
declared_works w g m n s (tree.array_object i p es) h c d =
    let r = h.1 in
    let k = array_kind r.0 r.1 in
    let o = on p d in
    let is = ap (kind_among w.context.locals) (sym h.0) ∙ r.2 in
    subst (λ (j : ℕ). Step w m n s (more 1 s) d (form.array_first w.context j es (form.introduced w.context j o)) (Unit {0}) (Unit {0})) (sym h.0)
    (chain (chain (on_step w m s p d) (introduced_step w g m s k is r.5 o))
    (array_works w g m n (more 1 s) s.objects r.0 r.1 (omega arith) is r.4 es r.3 h.2 c (form.introduced w.context s.objects o)))
declared_works w g m n s (tree.static_object i p) h c d =
    let o = on p d in
    let same : s.objects ≡ s.objects + 0 = omega arith in
    let named : Step w m m s s o (with_name i o) (Unit {0}) (Unit {0}) = use_it (Unit {0}) (λ z. g.shared i h) (named_step w m s (Some []) i o) in
    subst (λ (q : ℕ). Step w m q s (more 0 s) d (with_name i o) (Unit {0}) (Unit {0})) c
    (subst (λ (q : ℕ). Step w m m s (with_objects q s) d (with_name i o) (Unit {0}) (Unit {0})) same (chain (on_step w m s p d) named))
declared_works w g m n s (tree.hiding_constant x p) h c d =
    let o = on p d in
    let e = form.hidden x o in
    let same : s.objects ≡ s.objects + 0 = omega arith in
    let hidden : Step w m m s s o e (Unit {0}) (Unit {0}) = hiding_step w g m s x h.0 h.1 o in
    subst (λ (q : ℕ). Step w m q s (more 0 s) d e (Unit {0}) (Unit {0})) c
    (subst (λ (q : ℕ). Step w m m s (with_objects q s) d e (Unit {0}) (Unit {0})) same (chain (on_step w m s p d) hidden))

pub all_declared_work : (w : Place) → Proper w → (m n : ℕ) (s : Stage) (xs : List DeclaredTree) → AreDeclared (around w s) xs → CallsAre w m (calls_in_all_declared xs) n → (d : D w)
    → Step w m n s (more (objects_in_all_declared xs) s) d (form.all_declared w.context xs d) (Unit {0}) (Unit {0})
unfolding form.all_declared
all_declared_work w g m n s [] h c d =
    let same : s.objects ≡ s.objects + 0 = omega arith in
    subst (λ (q : ℕ). Step w m q s (more 0 s) d d (Unit {0}) (Unit {0})) c (subst (λ (q : ℕ). Step w m m s (with_objects q s) d d (Unit {0}) (Unit {0})) same (idle w m s d (Unit {0})))
all_declared_work w g m n s (x ∷ xs) h c d =
    let p = split w m n (calls_in_declared x) (calls_in_all_declared xs) c in
    let one = objects_in_declared x in
    let same : s.objects + one + objects_in_all_declared xs ≡ s.objects + (one + objects_in_all_declared xs) = omega arith in
    subst (λ (q : ℕ). Step w m n s (with_objects q s) d (form.all_declared w.context xs (form.declared w.context x d)) (Unit {0}) (Unit {0})) same
    (chain (declared_works w g m p.middle s x h.0 p.first d) (all_declared_work w g p.middle n (more one s) xs h.1 p.second (form.declared w.context x d)))
