-- Declarations and statements keep what holds of places and names.
use Rattle.std.specs.Prelude.{ℕ, ◌+◌, List, [], ◌∷◌, Bool, if◌then◌else◌, ℤ, Option, Some, None, IfSome, All, length}
use Rattle.std.proofs.lemmas.List.Elements.{All-head, All-tail}
use Rattle.pk_ctypes.specs.declared.places.Pos.{Pos}
use Rattle.pk_ctypes.specs.declared.types.IntType.{IntType}
use Rattle.pk_ctypes.specs.declared.types.Op.TheVariants.{Eq}
use Rattle.pk_typed.specs.declared.values.Variable.TheVariants.{Local}
use Rattle.pk_typed.specs.Trees.{ValueTree, EffectTree, ValueTrees, DeclaredTree, ForStartTree, StatementTree, ItemTrees, LocalTree}
use Rattle.pk_typed.specs.Trees as tree
use Rattle.pk_typed.specs.Types.{type_of}
use Rattle.pk_typed.specs.Defaults.{no_local}
use Rattle.pk_graph.specs.Kinds.{count_of}
use Rattle.pk_graph.specs.declared.trees.Site.{Site}
use Rattle.pk_graph.specs.Trees.{TreeOf, constant, Havoc, Clear}
use Rattle.pk_draft.specs.Drafts.{DraftOf, Given, at, on, in_scope, fresh, inner, with_object, emit, come}
use Rattle.pk_draft.specs.Folding.{binary_tree}
use Rattle.pk_lower_row.specs.declared.shapes.Waiting.TheVariants.{Strong}
use Rattle.pk_lower_row.specs.Shapes.{converted_shape, stays}
use Rattle.pk_lower_row.specs.Contexts.{Context, site, own, array_of, local_at}
use Rattle.pk_lower_row.specs.Rows.{Ways, Operand, operand, convert_after}
use Rattle.pk_lower_expression.specs.Expressions.{ways}
use Rattle.pk_lower_statement.specs.declared.statements.Exits.{Exits}
use Rattle.pk_lower_statement.specs.Statements as form
use Rattle.pk_lower_statement.specs.Statements.{lowered, lowered_items}
use Rattle.pk_places_laws.specs.Places.{InValue, InEffect, InValues, InDeclared, InStart, InStatement, InItems}
use Rattle.pk_places_laws.proofs.Told.{Asked, AtSite, AtTree, IsTold, IsGiven, Keeps, Chooses, at_or, placing, making, linking, standing_at, freshening, emitting, conversion_told, binary_told}
use Rattle.pk_places_laws.proofs.Rows.{WaysTold, held_told, guarded}
use Rattle.pk_places_laws.proofs.Expressions.{Stands, values, effects}

-- ---- declarations

pub named_told : {V : Type 0} (w : Asked) (name : Option (List ℕ)) (x : ℕ) (d : DraftOf V) → IsTold w d → IsTold w (form.named name x d)
named_told w None x d z = z
named_told w (Some name) x d z = z

pub local_named : (w : Asked) (c : Context) (i : ℕ) → Stands w c → IfSome (local_at c i).name w.N
local_named w c i s = at_or (λ (x : LocalTree). IfSome x.name w.N) c.locals i no_local tt s.locals

pub introduced_told : (V : Type 0) (w : Asked) (c : Context) (i : ℕ) → Stands w c → Keeps {V = V} w (form.introduced c i)
introduced_told V w c i s d z =
    let x = local_at c i in
    named_told w x.name d.variables (with_object i (inner x.name x.int_type x.length c.path) d) (making _ _ (local_named w c i s) z)

anything_told : (V : Type 0) (w : Asked) (c : Context) (i : ℕ) → Keeps {V = V} w (form.anything c i)
anything_told V w c i d z = let x = local_at c i in emitting w (Havoc (own c i d) x.int_type (count_of x.length)) d tt z

item_told : (V : Type 0) (w : Asked) (c : Context) (i j : ℕ) (u : IntType) (a : Ways V) → Stands w c → WaysTold w a → Keeps w (form.item c i j u a)
item_told V w c i j u a s h d z =
    let r = h.value d z in
    emitting w _ (a.value d).1 ((z.here, s.path), tt, conversion_told w u (local_at c i).int_type (a.value d).0 r.0) r.1

items_told : (V : Type 0) (w : Asked) (c : Context) (i j : ℕ) (es : ValueTrees) → Stands w c → InValues w.P es → Keeps {V = V} w (form.items c i j es)
unfolding form.items InValues
items_told V w c i j tree.no_values s h d z = z
items_told V w c i j (tree.value_before e es) s h d z =
    items_told V w c i (j + 1) es s h.1 (form.item c i j (type_of e) (ways c e) d) (item_told V w c i j (type_of e) (ways c e) s (values V w c e s h.0) d z)

scalar_first : (V : Type 0) (w : Asked) (c : Context) (i : ℕ) (e : Option ValueTree) → Stands w c → IfSome e (InValue w.P) → Keeps {V = V} w (form.scalar_first c i e)
scalar_first V w c i None s h d z = anything_told V w c i d z
scalar_first V w c i (Some e) s h d z =
    let r = (values V w c e s h).value d z in
    emitting w _ ((ways c e).value d).1 (conversion_told w (type_of e) (local_at c i).int_type ((ways c e).value d).0 r.0) r.1

array_first : (V : Type 0) (w : Asked) (c : Context) (i : ℕ) (es : Option ValueTrees) → Stands w c → IfSome es (InValues w.P) → Keeps {V = V} w (form.array_first c i es)
array_first V w c i None s h d z = anything_told V w c i d z
array_first V w c i (Some es) s h d z =
    items_told V w c i 0 es s h (emit (Clear (array_of c (Local i) d)) d) (emitting w (Clear (array_of c (Local i) d)) d tt z)

declared_told : (V : Type 0) (w : Asked) (c : Context) (x : DeclaredTree) → Stands w c → InDeclared w.P x → Keeps {V = V} w (form.declared c x)
declared_told V w c (tree.scalar_object i p e) s h d z =
    scalar_first V w c i e s h.1 (form.introduced c i (on p d)) (introduced_told V w c i s (on p d) (standing_at h.0 z))
declared_told V w c (tree.array_object i p es) s h d z =
    array_first V w c i es s h.1 (form.introduced c i (on p d)) (introduced_told V w c i s (on p d) (standing_at h.0 z))
declared_told V w c (tree.static_object n p) s h d z = standing_at h z
declared_told V w c (tree.hiding_constant x p) s h d z = standing_at h z

all_declared : (V : Type 0) (w : Asked) (c : Context) (xs : List DeclaredTree) → Stands w c → All (InDeclared w.P) xs → Keeps {V = V} w (form.all_declared c xs)
unfolding form.all_declared
all_declared V w c [] s h d z = z
all_declared V w c (x ∷ xs) s h d z =
    all_declared V w c xs s (All-tail (InDeclared w.P) x xs h) (form.declared c x d) (declared_told V w c x s (All-head (InDeclared w.P) x xs h) d z)

-- ---- choices and loops

abbrev Works : {V : Type 0} → Asked → (Exits → DraftOf V → DraftOf V) → Type 0
Works w f = (x : Exits) → Keeps w (f x)

if_told : {V : Type 0} (w : Asked) (p : Pos) (c : Ways V) (a b : DraftOf V → DraftOf V) → w.P p → WaysTold w c → Keeps w a → Keeps w b → Keeps w (form.if_draft p c a b)
if_told w p c a b q h k m d z =
    let e = form.branching p c d in
    let first = h.choice d.points (d.points + 1) (fresh 2 (on p d)) (placing _ _ (placing _ _ (standing_at q z))) in
    let t = a e in
    let second = k e first in
    let f = b (at (d.points + 1) t) in
    let third = m (at (d.points + 1) t) second in
    linking _ _ _ tt (linking _ _ _ tt (placing _ _ (standing_at q third)))

round_told : {V : Type 0} (w : Asked) (x : Exits) (s : Exits → DraftOf V → DraftOf V) (b e k : ℕ) (d : DraftOf V) → Works w s → IsTold w d → IsTold w (form.round x s b e k d)
round_told w x s b e k d h z = linking _ _ _ tt (h (form.inside e k x) (at b d) z)

begun_told : {V : Type 0} (w : Asked) (d : DraftOf V) → IsTold w d → IsTold w (form.loop_begun d)
begun_told w d z = linking _ _ _ tt (placing _ _ (placing _ _ (placing _ _ z)))

while_told : {V : Type 0} (w : Asked) (c : Ways V) (s : Exits → DraftOf V → DraftOf V) (x : Exits) → WaysTold w c → Works w s → Keeps w (form.while_draft c s x)
while_told w c s x h k d z =
    let n = d.points in
    let e = form.loop_begun d in
    round_told w x s (n + 1) (n + 2) e.point (c.choice (n + 1) (n + 2) e) k (h.choice (n + 1) (n + 2) e (begun_told w d z))

do_told : {V : Type 0} (w : Asked) (p : Pos) (c : Ways V) (s : Exits → DraftOf V → DraftOf V) (x : Exits) → w.P p → WaysTold w c → Works w s → Keeps w (form.do_draft p c s x)
do_told w p c s x q h k d z =
    let n = d.points in
    let e = form.loop_begun d in
    h.choice e.point (n + 2) (on p (form.round x s e.point (n + 2) (n + 1) e)) (standing_at q (round_told w x s e.point (n + 2) (n + 1) e k (begun_told w d z)))

for_told : {V : Type 0} (w : Asked) (p : Pos) (first : DraftOf V → DraftOf V) (test : (p q : ℕ) → DraftOf V → DraftOf V) (third : DraftOf V → DraftOf V) (s : Exits → DraftOf V → DraftOf V) (x : Exits)
    → w.P p → Keeps w first → Chooses w test → Keeps w third → Works w s → Keeps w (form.for_draft p first test third s x)
for_told w p first test third s x q h k m l d z =
    let e = d.points in
    let f = on p (first (fresh 1 d)) in
    let n = f.points in
    let begin = standing_at q (h (fresh 1 d) (placing _ _ z)) in
    let g = form.loop_begun f in
    let tested = k (n + 1) e g (begun_told w f begin) in
    let turn = round_told w x s (n + 1) e (n + 2) (test (n + 1) e g) l tested in
    linking _ _ _ tt (m (in_scope g.here.scope (on p (form.round x s (n + 1) e (n + 2) (test (n + 1) e g)))) (standing_at q turn))

case_told : {V : Type 0} (w : Asked) (s : Site) (t : IntType) (r : TreeOf V) (z : ℤ) (p : ℕ) (d : DraftOf V) → AtSite w s → AtTree w r → IsTold w d → IsTold w (form.case_test s t r z p d)
case_told w s t r z p d i h k = guarded w p d.points (binary_tree Eq s t r (constant t z), fresh 1 d) (binary_told w Eq s t r (constant t z) i h tt, placing _ _ k)

cases_told : {V : Type 0} (w : Asked) (s : Site) (t : IntType) (r : TreeOf V) (zs : List ℤ) (p : ℕ) (d : DraftOf V) → AtSite w s → AtTree w r → IsTold w d → IsTold w (form.case_tests s t r zs p d)
unfolding form.case_tests
cases_told w s t r [] p d i h k = k
cases_told w s t r (z ∷ zs) p d i h k = cases_told w s t r zs (p + 1) (form.case_test s t r z p d) i h (case_told w s t r z p d i h k)

switch_begun : {V : Type 0} (w : Asked) (s : Site) (t : IntType) (zs : List ℤ) (b : Bool) (r : Given V) → AtSite w s → IsGiven w r → IsTold w (form.switch_begun s t zs b r)
switch_begun w s t zs b r i h =
    let n = 1 + length zs + (if b then 1 else 0) in
    placing _ _ (linking _ _ _ tt (cases_told w s t r.0 zs (r.1.points + 1) (fresh n r.1) i h.0 (freshening w n r.1 h.1)))

switch_told : {V : Type 0} (w : Asked) (i : Site) (t : IntType) (a : Operand V) (zs : List ℤ) (b : Bool) (f : Exits → DraftOf V → DraftOf V) (x : Exits)
    → AtSite w i → WaysTold w a.ways → Works w f → Keeps w (form.switch_draft i t a zs b f x)
switch_told w i t a zs b f x q h k d z =
    let l = form.tested t a d in
    let r = h.value d z in
    let first = held_told w (stays Strong (converted_shape a.int_type t a.shape)) t (convert_after a.int_type t (a.ways.value d)) (conversion_told w a.int_type t (a.ways.value d).0 r.0, r.1) in
    linking _ _ _ tt (k (form.in_switch l.1.points (length zs) x) (form.switch_begun i t zs b l) (switch_begun w i t zs b l q first))

-- ---- the forms

returned_told : (V : Type 0) (w : Asked) (c : Context) (n : ℕ) (t : Option IntType) (e : Option ValueTree) → Stands w c → IfSome e (InValue w.P) → Keeps {V = V} w (form.returned c n t e)
returned_told V w c n None None s h d z = placing _ _ (linking _ _ _ tt z)
returned_told V w c n None (Some e) s h d z = placing _ _ (linking _ _ _ tt z)
returned_told V w c n (Some t) None s h d z = placing _ _ (linking _ _ _ tt z)
returned_told V w c n (Some t) (Some e) s h d z =
    let r = (values V w c e s h).value d z in
    placing _ _ (linking _ _ _ tt (emitting w _ ((ways c e).value d).1 (conversion_told w (type_of e) t ((ways c e).value d).0 r.0) r.1))

performed_if : (V : Type 0) (w : Asked) (c : Context) (e : Option EffectTree) → Stands w c → IfSome e (InEffect w.P) → Keeps {V = V} w (form.performed_if c e)
performed_if V w c None s h d z = z
performed_if V w c (Some e) s h d z = effects V w c e s h d z

for_start : (V : Type 0) (w : Asked) (c : Context) (f : ForStartTree) → Stands w c → InStart w.P f → Keeps {V = V} w (form.for_start c f)
for_start V w c (tree.declarations xs) s h = all_declared V w c xs s h
for_start V w c (tree.expression e) s h = performed_if V w c e s h

for_test : (V : Type 0) (w : Asked) (c : Context) (e : Option ValueTree) → Stands w c → IfSome e (InValue w.P) → Chooses {V = V} w (form.for_test c e)
for_test V w c None s h p q d z = linking _ _ _ tt z
for_test V w c (Some e) s h p q d z = (values V w c e s h).choice p q d z

mutual
  unfolding lowered lowered_items InStatement InItems

  pub statements : (V : Type 0) (w : Asked) (c : Context) (f : StatementTree) → Stands w c → InStatement w.P f → Works {V = V} w (lowered c f)
  statements V w c (tree.block p is) s h = λ x d z. items V w c is s h.1 x d z
  statements V w c (tree.empty p) s h = λ x d z. z
  statements V w c (tree.effect p e) s h = λ x d z. effects V w c e s h.1 (on p d) (standing_at h.0 z)
  statements V w c (tree.label p l f) s h = λ x d z. statements V w c f s h.1 x (come (x.labels + l) (on p d)) (linking _ _ _ tt (placing _ _ (standing_at h.0 z)))
  statements V w c (tree.case p i f) s h = λ x d z. statements V w c f s h.1 x (come (x.cases + i) (on p d)) (linking _ _ _ tt (placing _ _ (standing_at h.0 z)))
  statements V w c (tree.default p f) s h = λ x d z. statements V w c f s h.1 x (come x.otherwise (on p d)) (linking _ _ _ tt (placing _ _ (standing_at h.0 z)))
  statements V w c (tree.if_then p e f) s h =
      λ x d z. if_told w p (ways c e) (lowered c f x) (λ g. g) h.0 (values V w c e s h.1) (statements V w c f s h.2 x) (λ g y. y) d z
  statements V w c (tree.if_else p e f g) s h =
      λ x d z. if_told w p (ways c e) (lowered c f x) (lowered c g x) h.0 (values V w c e s h.1) (statements V w c f s h.2 x) (statements V w c g s h.3 x) d z
  statements V w c (tree.switch p t e zs b f) s h =
      λ x d z. switch_told w (site c p) t (operand e (ways c e)) zs b (lowered c f) x (h.0, s.path) (values V w c e s h.1) (statements V w c f s h.2) (on p d) (standing_at h.0 z)
  statements V w c (tree.while p e f) s h =
      λ x d z. while_told w (ways c e) (lowered c f) x (values V w c e s h.1) (statements V w c f s h.2) (on p d) (standing_at h.0 z)
  statements V w c (tree.do_while p f e) s h =
      λ x d z. do_told w p (ways c e) (lowered c f) x h.0 (values V w c e s h.2) (statements V w c f s h.1) (on p d) (standing_at h.0 z)
  statements V w c (tree.for_loop p start e third f) s h =
      λ x d z. for_told w p (form.for_start c start) (form.for_test c e) (form.performed_if c third) (lowered c f) x h.0 (for_start V w c start s h.1) (for_test V w c e s h.2) (performed_if V w c third s h.3) (statements V w c f s h.4)
      (on p d) (standing_at h.0 z)
  statements V w c (tree.goto p l) s h = λ x d z. placing _ _ (linking _ _ _ tt (standing_at h z))
  statements V w c (tree.continue p) s h = λ x d z. placing _ _ (linking _ _ _ tt (standing_at h z))
  statements V w c (tree.break p) s h = λ x d z. placing _ _ (linking _ _ _ tt (standing_at h z))
  statements V w c (tree.return p e) s h = λ x d z. returned_told V w c x.left c.returns e s h.1 (on p d) (standing_at h.0 z)

  pub items : (V : Type 0) (w : Asked) (c : Context) (is : ItemTrees) → Stands w c → InItems w.P is → Works {V = V} w (lowered_items c is)
  items V w c tree.no_items s h = λ x d z. z
  items V w c (tree.declared_before v is) s h = λ x d z. items V w c is s h.1 x (form.declared c v d) (declared_told V w c v s h.0 d z)
  items V w c (tree.statement_before f is) s h = λ x d z. items V w c is s h.1 x (lowered c f x d) (statements V w c f s h.0 x d z)
