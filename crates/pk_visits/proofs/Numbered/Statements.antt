-- Declarations and statements whose variables are renamed: the lowering makes the same of them.
use Rattle.std.proofs.Common.{◌≡◌, ℕ, ◌+◌, List, [], ◌∷◌, false, refl, ap, ◌∙◌, pos}
use Rattle.std.specs.Prelude.{Option, Some, None}
use Rattle.pk_ctypes.specs.declared.types.IntType.{IntType}
use Rattle.pk_ctypes.specs.declared.types.IntType.TheVariants.{Int}
use Rattle.pk_typed.specs.declared.values.Variable.{Variable}
use Rattle.pk_typed.specs.declared.values.Variable.TheVariants.{File, Local}
use Rattle.pk_typed.specs.Trees.{ValueTree, ValueTrees, DeclaredTree}
use Rattle.pk_typed.specs.Trees as tree
use Rattle.pk_typed.specs.Types.{type_of}
use Rattle.pk_graph.specs.declared.trees.Site.{Site}
use Rattle.pk_graph.specs.Kinds.{count_of}
use Rattle.pk_graph.specs.Trees.{TreeOf, constant, ArrayOf, Havoc, Clear, Store}
use Rattle.pk_draft.specs.Drafts.{Given, on, inner, with_object, emit}
use Rattle.pk_draft.specs.Folding.{conversion}
use Rattle.pk_lower_row.specs.Contexts.{Context, site, own, array_of, local_at}
use Rattle.pk_lower_row.specs.Rows as rows
use Rattle.pk_lower_row.specs.Rows.{Ways}
use Rattle.pk_lower_expression.specs.Expressions.{ways}
use Rattle.pk_lower_statement.specs.Statements as statements
use Rattle.pk_lower_statement.specs.Statements.{named, items, all_declared}
use Rattle.pk_visits.proofs.Numbered.Names.{array_by, draft_by, given_by, conversion_by, emit_by}
use Rattle.pk_visits.proofs.Numbered.Rows.{Works, WaysBy}
use Rattle.pk_visits.proofs.Numbered.Forms.{set_after_by}
use Rattle.pk_visits.proofs.Numbered.Expressions.{array_of_by, ways_by}

-- ---- declarations

pub named_by : {V W : Type 0} (f : V → W) (o : Option (List ℕ)) (x : ℕ) → Works f (named o x) (named o x)
named_by f None x d = refl
named_by f (Some n) x d = refl

pub introduced_by : {V W : Type 0} (f : V → W) (c : Context) (i : ℕ) → Works f (statements.introduced c i) (statements.introduced c i)
introduced_by f c i d = let x = local_at c i in named_by f x.name d.variables (with_object i (inner x.name x.int_type x.length c.path) d)

anything_by : {V W : Type 0} (f : V → W) (c : Context) (i : ℕ) → Works f (statements.anything c i) (statements.anything c i)
anything_by f c i d = let x = local_at c i in emit_by f (Havoc (own c i d) x.int_type (count_of x.length)) d

item_after_by : {V W : Type 0} (f : V → W) (a : ArrayOf V) (s : Site) (j : ℕ) (u t : IntType) (r : Given V) → statements.item_after (array_by f a) s j u t (given_by f r) ≡ draft_by f (statements.item_after a s j u t r)
item_after_by {W = W} f a s j u t r =
    ap (λ (e : TreeOf W). emit (Store (array_by f a) s false (constant Int (pos j)) e) (draft_by f r.1)) (conversion_by f u t r.0) ∙ emit_by f (Store a s false (constant Int (pos j)) (conversion u t r.0)) r.1

item_by : {V W : Type 0} (f : V → W) (c : Context) (i j : ℕ) (u : IntType) (w : Ways V) (z : Ways W) → WaysBy f w z → Works f (statements.item c i j u w) (statements.item c i j u z)
item_by f c i j u w z h d =
    ap (λ a. statements.item_after a (site c d.here.at) j u (local_at c i).int_type (z.value (draft_by f d))) (array_of_by f c (Local i) d)
    ∙ ap (statements.item_after (array_by f (array_of c (Local i) d)) (site c d.here.at) j u (local_at c i).int_type) (h.value d)
    ∙ item_after_by f (array_of c (Local i) d) (site c d.here.at) j u (local_at c i).int_type (w.value d)

items_by : (V W : Type 0) (f : V → W) (c : Context) (i j : ℕ) (es : ValueTrees) → Works f (items c i j es) (items c i j es)
unfolding items
items_by V W f c i j tree.no_values d = refl
items_by V W f c i j (tree.value_before e es) d =
    ap (items c i (j + 1) es) (item_by f c i j (type_of e) (ways c e) (ways c e) (ways_by V W f c e) d) ∙ items_by V W f c i (j + 1) es (statements.item c i j (type_of e) (ways c e) d)

scalar_first_by : (V W : Type 0) (f : V → W) (c : Context) (i : ℕ) (e : Option ValueTree) → Works f (statements.scalar_first c i e) (statements.scalar_first c i e)
scalar_first_by V W f c i None d = anything_by f c i d
scalar_first_by V W f c i (Some e) d =
    ap (rows.set_after (local_at c i).int_type (type_of e) (f (own c i d))) ((ways_by V W f c e).value d) ∙ set_after_by f (local_at c i).int_type (type_of e) (own c i d) ((ways c e).value d)

array_first_by : (V W : Type 0) (f : V → W) (c : Context) (i : ℕ) (es : Option ValueTrees) → Works f (statements.array_first c i es) (statements.array_first c i es)
array_first_by V W f c i None d = anything_by f c i d
array_first_by V W f c i (Some es) d = ap (items c i 0 es) (emit_by f (Clear (array_of c (Local i) d)) d) ∙ items_by V W f c i 0 es (emit (Clear (array_of c (Local i) d)) d)

hidden_by : {V W : Type 0} (f : V → W) (x : Variable) → Works f (statements.hidden x) (statements.hidden x)
hidden_by f (File n) d = refl
hidden_by f (Local i) d = refl

pub declared_by : (V W : Type 0) (f : V → W) (c : Context) (x : DeclaredTree) → Works f (statements.declared c x) (statements.declared c x)
declared_by V W f c (tree.scalar_object i p e) d = ap (statements.scalar_first c i e) (introduced_by f c i (on p d)) ∙ scalar_first_by V W f c i e (statements.introduced c i (on p d))
declared_by V W f c (tree.array_object i p es) d = ap (statements.array_first c i es) (introduced_by f c i (on p d)) ∙ array_first_by V W f c i es (statements.introduced c i (on p d))
declared_by V W f c (tree.static_object i p) d = refl
declared_by V W f c (tree.hiding_constant x p) d = hidden_by f x (on p d)

pub all_declared_by : (V W : Type 0) (f : V → W) (c : Context) (xs : List DeclaredTree) → Works f (all_declared c xs) (all_declared c xs)
unfolding all_declared
all_declared_by V W f c [] d = refl
all_declared_by V W f c (x ∷ xs) d = ap (all_declared c xs) (declared_by V W f c x d) ∙ all_declared_by V W f c xs (statements.declared c x d)
