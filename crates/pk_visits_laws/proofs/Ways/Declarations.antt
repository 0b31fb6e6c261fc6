-- Declarations, and the parts of statements that have no marks.
use Rattle.std.proofs.Common.{ℕ, ◌+◌, List, [], ◌∷◌, Option, Some, None}
use Rattle.pk_ctypes.specs.declared.types.IntType.{IntType}
use Rattle.pk_typed.specs.Trees.{ValueTree, EffectTree, ValueTrees, DeclaredTree, ForStartTree}
use Rattle.pk_typed.specs.Trees as tree
use Rattle.pk_typed.specs.Types.{type_of}
use Rattle.pk_typed.specs.declared.values.Variable.TheVariants.{Local}
use Rattle.pk_welltyped.specs.Listed.{calls_in, calls_in_values, calls_if, calls_in_values_if, calls_in_effect_if, calls_in_declared, calls_in_all_declared, calls_at_start}
use Rattle.pk_graph.specs.Trees.{Skip, Clear}
use Rattle.pk_draft.specs.Drafts.{DraftOf, on, inner, with_object, emit}
use Rattle.pk_lower_row.specs.Contexts.{Context, own_result, local_at, array_of}
use Rattle.pk_lower_row.specs.Rows as rows
use Rattle.pk_lower_expression.specs.Expressions.{ways}
use Rattle.pk_lower_statement.specs.Statements as statements
use Rattle.pk_lower_statement.specs.Statements.{named, introduced, item, items, declared, all_declared, returned, performed_if, for_start, for_test}
use Rattle.pk_visits.proofs.Grows.Expressions.{front_called, back_called}
use Rattle.pk_visits_laws.proofs.Ways.Rows.{Goes, Makes, Chooses, Fits, goes_trans, goes_refl, emit_goes, link_splits}
use Rattle.pk_visits_laws.proofs.Ways.Expressions.{Sized, values, effects}
use Rattle.pk_visits_laws.proofs.Ways.Loops.{away_goes}

pub named_goes : {V : Type 0} (z : ℕ → ℕ) (o : Option (List ℕ)) (x : ℕ) (d : DraftOf V) → Goes z d (named o x d)
named_goes z None x d = goes_refl z d
named_goes z (Some name) x d = goes_refl z d

pub introduced_goes : {V : Type 0} (z : ℕ → ℕ) (c : Context) (i : ℕ) (d : DraftOf V) → Goes z d (introduced c i d)
introduced_goes z c i d = let x = local_at c i in named_goes z x.name d.variables (with_object i (inner x.name x.int_type x.length c.path) d)

items_go : {V : Type 0} (z : ℕ → ℕ) (c : Context) (i j : ℕ) (es : ValueTrees) (d : DraftOf V) → Sized z c (calls_in_values es) → Goes z d (items c i j es d)
unfolding items calls_in_values
items_go z c i j tree.no_values d h = goes_refl z d
items_go {V} z c i j (tree.value_before e es) d h =
    let r = (ways c e).value d in
    goes_trans ((values V z c e (front_called (Fits z) c (calls_in e) (calls_in_values es) h)).value d) (goes_trans (emit_goes z _ r.1)
    (items_go z c i (j + 1) es (item c i j (type_of e) (ways c e) d) (back_called (Fits z) c (calls_in e) (calls_in_values es) h)))

scalar_first_goes : {V : Type 0} (z : ℕ → ℕ) (c : Context) (i : ℕ) (e : Option ValueTree) (d : DraftOf V) → Sized z c (calls_if e) → Goes z d (statements.scalar_first c i e d)
scalar_first_goes z c i None d h = emit_goes z _ d
scalar_first_goes {V} z c i (Some e) d h = goes_trans ((values V z c e h).value d) (emit_goes z _ ((ways c e).value d).1)

array_first_goes : {V : Type 0} (z : ℕ → ℕ) (c : Context) (i : ℕ) (es : Option ValueTrees) (d : DraftOf V) → Sized z c (calls_in_values_if es) → Goes z d (statements.array_first c i es d)
array_first_goes z c i None d h = emit_goes z _ d
array_first_goes z c i (Some es) d h = goes_trans (emit_goes z (Clear (array_of c (Local i) d)) d) (items_go z c i 0 es (emit (Clear (array_of c (Local i) d)) d) h)

pub declared_goes : {V : Type 0} (z : ℕ → ℕ) (c : Context) (v : DeclaredTree) (d : DraftOf V) → Sized z c (calls_in_declared v) → Goes z d (declared c v d)
declared_goes z c (tree.scalar_object i p e) d h = goes_trans (introduced_goes z c i (on p d)) (scalar_first_goes z c i e (introduced c i (on p d)) h)
declared_goes z c (tree.array_object i p es) d h = goes_trans (introduced_goes z c i (on p d)) (array_first_goes z c i es (introduced c i (on p d)) h)
declared_goes z c (tree.static_object i p) d h = goes_refl z d
declared_goes z c (tree.hiding_constant x p) d h = goes_refl z d

all_declared_go : {V : Type 0} (z : ℕ → ℕ) (c : Context) (vs : List DeclaredTree) (d : DraftOf V) → Sized z c (calls_in_all_declared vs) → Goes z d (all_declared c vs d)
unfolding all_declared
all_declared_go z c [] d h = goes_refl z d
all_declared_go z c (v ∷ vs) d h =
    goes_trans (declared_goes z c v d (front_called (Fits z) c (calls_in_declared v) (calls_in_all_declared vs) h))
    (all_declared_go z c vs (declared c v d) (back_called (Fits z) c (calls_in_declared v) (calls_in_all_declared vs) h))

pub returned_goes : {V : Type 0} (z : ℕ → ℕ) (c : Context) (left : ℕ) (r : Option IntType) (e : Option ValueTree) → Sized z c (calls_if e) → Makes {V = V} z (returned c left r e)
returned_goes z c left None None h d = away_goes z left d
returned_goes z c left None (Some e) h d = away_goes z left d
returned_goes z c left (Some t) None h d = away_goes z left d
returned_goes {V} z c left (Some t) (Some e) h d =
    let r = (ways c e).value d in
    let f = rows.set_after t (type_of e) (own_result c d) r in
    goes_trans ((values V z c e h).value d) (goes_trans (emit_goes z _ r.1) (away_goes z left f))

pub performed_goes : {V : Type 0} (z : ℕ → ℕ) (c : Context) (e : Option EffectTree) → Sized z c (calls_in_effect_if e) → Makes {V = V} z (performed_if c e)
performed_goes z c None h d = goes_refl z d
performed_goes {V} z c (Some e) h d = effects V z c e h d

pub test_splits : {V : Type 0} (z : ℕ → ℕ) (c : Context) (e : Option ValueTree) → Sized z c (calls_if e) → Chooses {V = V} z (for_test c e)
test_splits z c None h p q d = link_splits z Skip p d
test_splits {V} z c (Some e) h p q d = (values V z c e h).choice p q d

pub start_goes : {V : Type 0} (z : ℕ → ℕ) (c : Context) (f : ForStartTree) → Sized z c (calls_at_start f) → Makes {V = V} z (for_start c f)
start_goes z c (tree.declarations vs) h d = all_declared_go z c vs d h
start_goes z c (tree.expression e) h d = performed_goes z c e h d
