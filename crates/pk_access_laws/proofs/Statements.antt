-- Declarations and statements add no more than their operators count that are kept.
use Rattle.std.specs.Prelude.{ℕ, ◌+◌, List, [], ◌∷◌, Bool, false, if◌then◌else◌, ℤ, pos, Option, Some, None, length}
use Rattle.std.proofs.Common.{◌≡◌, arith}
use Rattle.pk_ctypes.specs.declared.places.Pos.{Pos}
use Rattle.pk_ctypes.specs.declared.types.IntType.{IntType}
use Rattle.pk_ctypes.specs.declared.types.IntType.TheVariants.{Int}
use Rattle.pk_ctypes.specs.declared.types.Op.TheVariants.{Eq}
use Rattle.pk_typed.specs.declared.values.Variable.TheVariants.{Local}
use Rattle.pk_typed.specs.Trees.{ValueTree, EffectTree, ValueTrees, DeclaredTree, ForStartTree, StatementTree, ItemTrees}
use Rattle.pk_typed.specs.Trees as tree
use Rattle.pk_typed.specs.Types.{type_of}
use Rattle.pk_graph.specs.Kinds.{count_of}
use Rattle.pk_graph.specs.declared.trees.Site.{Site}
use Rattle.pk_graph.specs.Trees.{TreeOf, constant, Skip, Havoc, Clear, Store}
use Rattle.pk_draft.specs.Drafts.{DraftOf, Given, at, on, in_scope, link, fresh, inner, with_object, emit, come}
use Rattle.pk_draft.specs.Folding.{binary_tree, conversion}
use Rattle.pk_lower_row.specs.declared.shapes.Shape.{Shape}
use Rattle.pk_lower_row.specs.declared.shapes.Shape.TheVariants.{Other}
use Rattle.pk_lower_row.specs.declared.shapes.Waiting.TheVariants.{Strong}
use Rattle.pk_lower_row.specs.Shapes.{converted_shape, shape_of}
use Rattle.pk_lower_row.specs.Contexts.{Context, site, own, own_result, array_of, local_at}
use Rattle.pk_lower_row.specs.Rows.{Ways, Operand, operand, convert_after, set_after}
use Rattle.pk_lower_expression.specs.Expressions.{ways, performed}
use Rattle.pk_lower_statement.specs.declared.statements.Exits.{Exits}
use Rattle.pk_lower_statement.specs.Statements as form
use Rattle.pk_lower_statement.specs.Statements.{lowered, lowered_items}
use Rattle.pk_access_laws.specs.Operators.{if_some}
use Rattle.pk_access_laws.specs.Kept.{counts_in_values, counts_in_statement, counts_in_items, kept_in_value, kept_in_effect, kept_in_values, kept_in_declared, kept_in_all_declared, kept_in_start, kept_in_statement, kept_in_items}
use Rattle.pk_access_laws.proofs.Spent.{Asked, in_tree, in_edges, Adds, then_adds, no_more, up_to, linking, freshening, emitting}
use Rattle.pk_access_laws.proofs.Shaped.{conversion_less, conversion_shaped, binary_less}
use Rattle.pk_access_laws.proofs.Rows.{Keeps, Chooses, WaysTold, guarded, held_told, setting}
use Rattle.pk_access_laws.proofs.Expressions.{counting, values, effects}

-- ---- declarations

pub named_told : {V : Type 0} (w : Asked) (name : Option (List ℕ)) (x : ℕ) (d : DraftOf V) → Adds (in_edges w d.edges) 0 (in_edges w (form.named name x d).edges)
named_told w None x d = no_more
named_told w (Some name) x d = no_more

pub introduced_told : (V : Type 0) (w : Asked) (c : Context) (i : ℕ) → Keeps {V = V} w 0 (form.introduced c i)
introduced_told V w c i d =
    let x = local_at c i in
    named_told w x.name d.variables (with_object i (inner x.name x.int_type x.length c.path) d)

anything_told : (V : Type 0) (w : Asked) (c : Context) (i : ℕ) → Keeps {V = V} w 0 (form.anything c i)
anything_told V w c i d = let x = local_at c i in emitting w (Havoc (own c i d) x.int_type (count_of x.length)) d

item_told : (V : Type 0) (w : Asked) (m : ℕ) (s : Shape) (c : Context) (i j : ℕ) (u : IntType) (a : Ways V) → WaysTold w m s a → Keeps w m (form.item c i j u a)
item_told V w m s c i j u a h d =
    let r : Given V = a.value d in
    let v = h.value d in
    let e = emitting w (Store (array_of c (Local i) d) (site c d.here.at) false (constant Int (pos j)) (conversion u (local_at c i).int_type r.0)) r.1 in
    record { most = omega (arith, v.spent, e.most, conversion_less w u (local_at c i).int_type r.0) }

items_told : (V : Type 0) (w : Asked) (c : Context) (i j : ℕ) (es : ValueTrees) → Keeps {V = V} w (kept_in_values (counting w c) es) (form.items c i j es)
unfolding form.items counts_in_values
items_told V w c i j tree.no_values d = no_more
items_told V w c i j (tree.value_before e es) d =
    then_adds (item_told V w (kept_in_value (counting w c) e) (shape_of e) c i j (type_of e) (ways c e) (values V w c e) d)
    (items_told V w c i (j + 1) es (form.item c i j (type_of e) (ways c e) d))

scalar_first : (V : Type 0) (w : Asked) (c : Context) (i : ℕ) (e : Option ValueTree) → Keeps {V = V} w (if_some (kept_in_value (counting w c)) e) (form.scalar_first c i e)
scalar_first V w c i None d = anything_told V w c i d
scalar_first V w c i (Some e) d =
    let r : Given V = (ways c e).value d in
    let v = (values V w c e).value d in
    record { most = omega (arith, v.spent, setting w (local_at c i).int_type (type_of e) (own c i d) r) }

array_first : (V : Type 0) (w : Asked) (c : Context) (i : ℕ) (es : Option ValueTrees) → Keeps {V = V} w (if_some (kept_in_values (counting w c)) es) (form.array_first c i es)
array_first V w c i None d = anything_told V w c i d
array_first V w c i (Some es) d =
    up_to (then_adds (emitting w (Clear (array_of c (Local i) d)) d) (items_told V w c i 0 es (emit (Clear (array_of c (Local i) d)) d))) (omega arith)

declared_told : (V : Type 0) (w : Asked) (c : Context) (x : DeclaredTree) → Keeps {V = V} w (kept_in_declared (counting w c) x) (form.declared c x)
declared_told V w c (tree.scalar_object i p e) d =
    up_to (then_adds (introduced_told V w c i (on p d)) (scalar_first V w c i e (form.introduced c i (on p d)))) (omega arith)
declared_told V w c (tree.array_object i p es) d =
    up_to (then_adds (introduced_told V w c i (on p d)) (array_first V w c i es (form.introduced c i (on p d)))) (omega arith)
declared_told V w c (tree.static_object n p) d = no_more
declared_told V w c (tree.hiding_constant x p) d = no_more

all_declared : (V : Type 0) (w : Asked) (c : Context) (xs : List DeclaredTree) → Keeps {V = V} w (kept_in_all_declared (counting w c) xs) (form.all_declared c xs)
unfolding form.all_declared
all_declared V w c [] d = no_more
all_declared V w c (x ∷ xs) d = then_adds (declared_told V w c x d) (all_declared V w c xs (form.declared c x d))

-- ---- choices and loops

abbrev Works : {V : Type 0} → Asked → ℕ → (Exits → DraftOf V → DraftOf V) → Type 0
Works w m f = (x : Exits) → Keeps w m (f x)

-- a way on that does nothing
skipped : {V : Type 0} (w : Asked) (q : ℕ) (d : DraftOf V) → Adds (in_edges w d.edges) 0 (in_edges w (link Skip q d).edges)
skipped w q d = linking w d.edges d.point q Skip

if_told : {V : Type 0} (w : Asked) (l m k : ℕ) (p : Pos) (c : Ways V) (a b : DraftOf V → DraftOf V) → Chooses w l c.choice → Keeps w m a → Keeps w k b → Keeps w (l + m + k) (form.if_draft p c a b)
if_told {V = V} w l m k p c a b h g f d =
    let e : DraftOf V = form.branching p c d in
    let first = h d.points (d.points + 1) (fresh 2 (on p d)) in
    let t : DraftOf V = a e in
    let second = g e in
    let u : DraftOf V = b (at (d.points + 1) t) in
    let third = f (at (d.points + 1) t) in
    let one = skipped w u.points (at t.point (fresh 1 (on p u))) in
    let two = skipped w u.points (at u.point (link Skip u.points (at t.point (fresh 1 (on p u))))) in
    record { most = omega (arith, first.most, second.most, third.most, one.most, two.most) }

round_told : {V : Type 0} (w : Asked) (m : ℕ) (x : Exits) (s : Exits → DraftOf V → DraftOf V) (b e k : ℕ) (d : DraftOf V) → Works w m s → Adds (in_edges w d.edges) m (in_edges w (form.round x s b e k d).edges)
round_told {V = V} w m x s b e k d h =
    let f : DraftOf V = s (form.inside e k x) (at b d) in
    let g = h (form.inside e k x) (at b d) in
    let i = skipped w k f in
    record { most = omega (arith, g.most, i.most) }

begun_told : {V : Type 0} (w : Asked) (d : DraftOf V) → Adds (in_edges w d.edges) 0 (in_edges w (form.loop_begun d).edges)
begun_told w d = skipped w d.points (fresh 3 d)

while_told : {V : Type 0} (w : Asked) (l m : ℕ) (c : Ways V) (s : Exits → DraftOf V → DraftOf V) (x : Exits) → Chooses w l c.choice → Works w m s → Keeps w (l + m) (form.while_draft c s x)
while_told {V = V} w l m c s x h g d =
    let n = d.points in
    let e : DraftOf V = form.loop_begun d in
    let begin = begun_told w d in
    let chosen = h (n + 1) (n + 2) e in
    let turn = round_told w m x s (n + 1) (n + 2) e.point (c.choice (n + 1) (n + 2) e) g in
    record { most = omega (arith, begin.most, chosen.most, turn.most) }

do_told : {V : Type 0} (w : Asked) (l m : ℕ) (p : Pos) (c : Ways V) (s : Exits → DraftOf V → DraftOf V) (x : Exits) → Chooses w l c.choice → Works w m s → Keeps w (m + l) (form.do_draft p c s x)
do_told {V = V} w l m p c s x h g d =
    let n = d.points in
    let e : DraftOf V = form.loop_begun d in
    let begin = begun_told w d in
    let turn = round_told w m x s e.point (n + 2) (n + 1) e g in
    let chosen = h e.point (n + 2) (on p (form.round x s e.point (n + 2) (n + 1) e)) in
    record { most = omega (arith, begin.most, turn.most, chosen.most) }

for_told : {V : Type 0} (w : Asked) (f l k m : ℕ) (p : Pos) (first : DraftOf V → DraftOf V) (test : (p q : ℕ) → DraftOf V → DraftOf V) (third : DraftOf V → DraftOf V) (s : Exits → DraftOf V → DraftOf V) (x : Exits)
    → Keeps w f first → Chooses w l test → Keeps w k third → Works w m s → Keeps w (f + l + k + m) (form.for_draft p first test third s x)
for_told {V = V} w f l k m p first test third s x h g t i d =
    let e = d.points in
    let u : DraftOf V = on p (first (fresh 1 d)) in
    let n = u.points in
    let begin = h (fresh 1 d) in
    let v : DraftOf V = form.loop_begun u in
    let loop = begun_told w u in
    let tested = g (n + 1) e v in
    let turn = round_told w m x s (n + 1) e (n + 2) (test (n + 1) e v) i in
    let last : DraftOf V = in_scope v.here.scope (on p (form.round x s (n + 1) e (n + 2) (test (n + 1) e v))) in
    let step = t last in
    let back = skipped w v.point (third last) in
    record { most = omega (arith, begin.most, loop.most, tested.most, turn.most, step.most, back.most) }

case_told : {V : Type 0} (w : Asked) (s : Site) (t : IntType) (r : TreeOf V) (z : ℤ) (p : ℕ) (d : DraftOf V) → in_tree w r ≡ 0 → Adds (in_edges w d.edges) 0 (in_edges w (form.case_test s t r z p d).edges)
case_told {V = V} w s t r z p d h =
    let e : TreeOf V = binary_tree Eq s t r (constant t z) in
    let less = binary_less w Eq s t r (constant t z) in
    guarded w p d.points (in_edges w d.edges) 0 Other (e, fresh 1 d) (record { spent = omega (arith, h, less); shaped = tt })

cases_told : {V : Type 0} (w : Asked) (s : Site) (t : IntType) (r : TreeOf V) (zs : List ℤ) (p : ℕ) (d : DraftOf V) → in_tree w r ≡ 0 → Adds (in_edges w d.edges) 0 (in_edges w (form.case_tests s t r zs p d).edges)
unfolding form.case_tests
cases_told w s t r [] p d h = no_more
cases_told w s t r (z ∷ zs) p d h =
    up_to (then_adds (case_told w s t r z p d h) (cases_told w s t r zs (p + 1) (form.case_test s t r z p d) h)) (omega arith)

switch_begun : {V : Type 0} (w : Asked) (s : Site) (t : IntType) (zs : List ℤ) (b : Bool) (r : Given V) → in_tree w r.0 ≡ 0 → Adds (in_edges w r.1.edges) 0 (in_edges w (form.switch_begun s t zs b r).edges)
switch_begun {V = V} w s t zs b r h =
    let n = 1 + length zs + (if b then 1 else 0) in
    let e : DraftOf V = fresh n r.1 in
    let made = freshening w n r.1 in
    let f : DraftOf V = form.case_tests s t r.0 zs (r.1.points + 1) e in
    let tests = cases_told w s t r.0 zs (r.1.points + 1) e h in
    let left = skipped w (if b then r.1.points + 1 + length zs else r.1.points) f in
    record { most = omega (arith, made.most, tests.most, left.most) }

switch_told : {V : Type 0} (w : Asked) (l m : ℕ) (i : Site) (t : IntType) (a : Operand V) (zs : List ℤ) (b : Bool) (f : Exits → DraftOf V → DraftOf V) (x : Exits)
    → WaysTold w l a.shape a.ways → Works w m f → Keeps w (l + m) (form.switch_draft i t a zs b f x)
switch_told {V = V} w l m i t a zs b f x h g d =
    let r : Given V = a.ways.value d in
    let v = h.value d in
    let k : Given V = form.tested t a d in
    let held = held_told w (in_edges w d.edges) l Strong (converted_shape a.int_type t a.shape) t (convert_after a.int_type t r)
    (record { spent = omega (arith, v.spent, conversion_less w a.int_type t r.0); shaped = conversion_shaped w a.int_type t a.shape r.0 v.shaped }) in
    let e : DraftOf V = form.switch_begun i t zs b k in
    let begin = switch_begun w i t zs b k held.kept in
    let body = g (form.in_switch k.1.points (length zs) x) e in
    let left = skipped w k.1.points (f (form.in_switch k.1.points (length zs) x) e) in
    record { most = omega (arith, held.spent, begin.most, body.most, left.most) }

-- ---- the forms

returned_told : (V : Type 0) (w : Asked) (c : Context) (n : ℕ) (t : Option IntType) (e : Option ValueTree) → Keeps {V = V} w (if_some (kept_in_value (counting w c)) e) (form.returned c n t e)
returned_told V w c n None None d = skipped w n d
returned_told V w c n None (Some e) d = up_to (skipped w n d) (omega arith)
returned_told V w c n (Some t) None d = skipped w n d
returned_told V w c n (Some t) (Some e) d =
    let r : Given V = (ways c e).value d in
    let v = (values V w c e).value d in
    let left = skipped w n (set_after t (type_of e) (own_result c d) r) in
    record { most = omega (arith, v.spent, setting w t (type_of e) (own_result c d) r, left.most) }

performed_if : (V : Type 0) (w : Asked) (c : Context) (e : Option EffectTree) → Keeps {V = V} w (if_some (kept_in_effect (counting w c)) e) (form.performed_if c e)
performed_if V w c None d = no_more
performed_if V w c (Some e) d = effects V w c e d

for_start : (V : Type 0) (w : Asked) (c : Context) (f : ForStartTree) → Keeps {V = V} w (kept_in_start (counting w c) f) (form.for_start c f)
for_start V w c (tree.declarations xs) = all_declared V w c xs
for_start V w c (tree.expression e) = performed_if V w c e

for_test : (V : Type 0) (w : Asked) (c : Context) (e : Option ValueTree) → Chooses {V = V} w (if_some (kept_in_value (counting w c)) e) (form.for_test c e)
for_test V w c None p q d = skipped w p d
for_test V w c (Some e) p q d = (values V w c e).choice p q d

come_told : {V : Type 0} (w : Asked) (p : Pos) (q m : ℕ) (f : DraftOf V → DraftOf V) → Keeps w m f → (d : DraftOf V) → Adds (in_edges w d.edges) m (in_edges w (f (come q (on p d))).edges)
come_told w p q m f h d =
    let first = skipped w q d in
    let second = h (come q (on p d)) in
    record { most = omega (arith, first.most, second.most) }

mutual
  unfolding lowered lowered_items counts_in_statement counts_in_items

  pub statements : (V : Type 0) (w : Asked) (c : Context) (f : StatementTree) → Works {V = V} w (kept_in_statement (counting w c) f) (lowered c f)
  statements V w c (tree.block p is) = λ x d. items V w c is x d
  statements V w c (tree.empty p) = λ x d. no_more
  statements V w c (tree.effect p e) = λ x d. effects V w c e (on p d)
  statements V w c (tree.label p l f) = λ x d. come_told w p (x.labels + l) (kept_in_statement (counting w c) f) (lowered c f x) (statements V w c f x) d
  statements V w c (tree.case p i f) = λ x d. come_told w p (x.cases + i) (kept_in_statement (counting w c) f) (lowered c f x) (statements V w c f x) d
  statements V w c (tree.default p f) = λ x d. come_told w p x.otherwise (kept_in_statement (counting w c) f) (lowered c f x) (statements V w c f x) d
  statements V w c (tree.if_then p e f) =
      λ x d. up_to (if_told w (kept_in_value (counting w c) e) (kept_in_statement (counting w c) f) 0 p (ways c e) (lowered c f x) (λ g. g) (values V w c e).choice (statements V w c f x) (λ g. no_more) d) (omega arith)
  statements V w c (tree.if_else p e f g) =
      λ x d. if_told w (kept_in_value (counting w c) e) (kept_in_statement (counting w c) f) (kept_in_statement (counting w c) g) p (ways c e) (lowered c f x) (lowered c g x) (values V w c e).choice (statements V w c f x) (statements V w c g x) d
  statements V w c (tree.switch p t e zs b f) =
      λ x d. switch_told w (kept_in_value (counting w c) e) (kept_in_statement (counting w c) f) (site c p) t (operand e (ways c e)) zs b (lowered c f) x (values V w c e) (statements V w c f) (on p d)
  statements V w c (tree.while p e f) =
      λ x d. while_told w (kept_in_value (counting w c) e) (kept_in_statement (counting w c) f) (ways c e) (lowered c f) x (values V w c e).choice (statements V w c f) (on p d)
  statements V w c (tree.do_while p f e) =
      λ x d. do_told w (kept_in_value (counting w c) e) (kept_in_statement (counting w c) f) p (ways c e) (lowered c f) x (values V w c e).choice (statements V w c f) (on p d)
  statements V w c (tree.for_loop p start e third f) =
      λ x d. for_told w (kept_in_start (counting w c) start) (if_some (kept_in_value (counting w c)) e) (if_some (kept_in_effect (counting w c)) third) (kept_in_statement (counting w c) f) p
      (form.for_start c start) (form.for_test c e) (form.performed_if c third) (lowered c f) x
      (for_start V w c start) (for_test V w c e) (performed_if V w c third) (statements V w c f) (on p d)
  statements V w c (tree.goto p l) = λ x d. skipped w (x.labels + l) d
  statements V w c (tree.continue p) = λ x d. skipped w x.continued d
  statements V w c (tree.break p) = λ x d. skipped w x.broken d
  statements V w c (tree.return p e) = λ x d. returned_told V w c x.left c.returns e (on p d)

  pub items : (V : Type 0) (w : Asked) (c : Context) (is : ItemTrees) → Works {V = V} w (kept_in_items (counting w c) is) (lowered_items c is)
  items V w c tree.no_items = λ x d. no_more
  items V w c (tree.declared_before v is) = λ x d. then_adds (declared_told V w c v d) (items V w c is x (form.declared c v d))
  items V w c (tree.statement_before f is) = λ x d. then_adds (statements V w c f x d) (items V w c is x (lowered c f x d))
