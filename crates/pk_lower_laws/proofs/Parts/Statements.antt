-- A statement makes as much wherever a draft's numbers are, on whatever path, and however variables are named.
use Rattle.std.proofs.Common.{ℕ, ◌+◌, List, [], ◌∷◌, length, Bool, if◌then◌else◌, refl}
use Rattle.std.specs.Prelude.{ℤ, Option, Some, None}
use Rattle.pk_ctypes.specs.declared.places.Pos.{Pos}
use Rattle.pk_ctypes.specs.declared.types.IntType.{IntType}
use Rattle.pk_typed.specs.Trees.{ValueTree, EffectTree, ValueTrees, DeclaredTree, ForStartTree, StatementTree, ItemTrees}
use Rattle.pk_typed.specs.Trees as tree
use Rattle.pk_typed.specs.Types.{type_of}
use Rattle.pk_graph.specs.declared.trees.Site.{Site}
use Rattle.pk_graph.specs.Trees.{TreeOf, Clear}
use Rattle.pk_draft.specs.declared.drafts.Size.{Size}
use Rattle.pk_draft.specs.Drafts.{DraftOf, Given, at, on, in_scope, fresh, inner, with_object, emit, come}
use Rattle.pk_lower_row.specs.declared.shapes.Waiting.TheVariants.{Strong}
use Rattle.pk_lower_row.specs.Shapes.{converted_shape}
use Rattle.pk_lower_row.specs.Contexts.{Context, site, local_at, array_of}
use Rattle.pk_typed.specs.declared.values.Variable.TheVariants.{Local}
use Rattle.pk_lower_row.specs.Rows.{Ways, operand, convert_after}
use Rattle.pk_lower_expression.specs.Expressions.{ways}
use Rattle.pk_lower_statement.specs.declared.statements.Exits.{Exits}
use Rattle.pk_lower_statement.specs.Statements as form
use Rattle.pk_lower_statement.specs.Statements.{lowered, lowered_items}
use Rattle.pk_lower_laws.specs.Parts.Called.{AtValues, AtValueIf, AtValuesIf, AtEffectIf, AtDeclared, AtAllDeclared, AtStart, AtStatement, AtItems}
use Rattle.pk_lower_laws.specs.Parts.Steps.{AgreeAt, InStep, AsMuch, ChooseAsMuch, WaysInStep, WorkAsMuch, moved}
use Rattle.pk_lower_laws.specs.Parts.Laws.{StatementsMakeAsMuch}
use Rattle.pk_lower_laws.proofs.Parts.Verbs.{pointed, valued, holding, freshened}
use Rattle.pk_lower_laws.proofs.Parts.Expressions.{values, effects}

-- ---- declarations

pub naming : {V W : Type 0} (o q : Option (List ℕ)) (x y : ℕ) → AsMuch (form.named {V = V} o x) (form.named {V = W} q y)
naming None None x y p v d e s = s
naming None (Some n) x y p v d e s = s
naming (Some m) None x y p v d e s = s
naming (Some m) (Some n) x y p v d e s = s

pub introducing : {V W : Type 0} (c b : Context) (i : ℕ) → AsMuch (form.introduced {V = V} c i) (form.introduced {V = W} b i)
introducing c b i p v d e s =
    let x = local_at c i in
    let y = local_at b i in
    naming x.name y.name d.variables e.variables p v (with_object i (inner x.name x.int_type x.length c.path) d) (with_object i (inner y.name y.int_type y.length b.path) e) (valued 1 s)

making_items : (V W : Type 0) (c : Context) (k n : ℕ) (ss : List (Option Size)) (i j : ℕ) (es : ValueTrees) → AtValues (AgreeAt c.sizes ss) es → AsMuch (form.items {V = V} c i j es) (form.items {V = W} (moved k n ss c) i j es)
unfolding form.items AtValues
making_items V W c k n ss i j tree.no_values h p v d e s = s
making_items V W c k n ss i j (tree.value_before a es) h p v d e s =
    making_items V W c k n ss i (j + 1) es h.1 p v (form.item c i j (type_of a) (ways c a) d) (form.item (moved k n ss c) i j (type_of a) (ways (moved k n ss c) a) e)
    (pointed 1 ((values V W c k n ss a h.0).value p v d e s))

first_scalar : (V W : Type 0) (c : Context) (k n : ℕ) (ss : List (Option Size)) (i : ℕ) (a : Option ValueTree) → AtValueIf (AgreeAt c.sizes ss) a → AsMuch (form.scalar_first {V = V} c i a) (form.scalar_first {V = W} (moved k n ss c) i a)
first_scalar V W c k n ss i None h p v d e s = pointed 1 s
first_scalar V W c k n ss i (Some a) h p v d e s = pointed 1 ((values V W c k n ss a h).value p v d e s)

first_array : (V W : Type 0) (c : Context) (k n : ℕ) (ss : List (Option Size)) (i : ℕ) (es : Option ValueTrees) → AtValuesIf (AgreeAt c.sizes ss) es → AsMuch (form.array_first {V = V} c i es) (form.array_first {V = W} (moved k n ss c) i es)
first_array V W c k n ss i None h p v d e s = pointed 1 s
first_array V W c k n ss i (Some es) h p v d e s =
    making_items V W c k n ss i 0 es h p v (emit (Clear (array_of c (Local i) d)) d) (emit (Clear (array_of (moved k n ss c) (Local i) e)) e) (pointed 1 s)

declaring : (V W : Type 0) (c : Context) (k n : ℕ) (ss : List (Option Size)) (x : DeclaredTree) → AtDeclared (AgreeAt c.sizes ss) x → AsMuch (form.declared {V = V} c x) (form.declared {V = W} (moved k n ss c) x)
declaring V W c k n ss (tree.scalar_object i o a) h p v d e s =
    first_scalar V W c k n ss i a h p v (form.introduced c i (on o d)) (form.introduced (moved k n ss c) i (on o e)) (introducing c (moved k n ss c) i p v (on o d) (on o e) s)
declaring V W c k n ss (tree.array_object i o es) h p v d e s =
    first_array V W c k n ss i es h p v (form.introduced c i (on o d)) (form.introduced (moved k n ss c) i (on o e)) (introducing c (moved k n ss c) i p v (on o d) (on o e) s)
declaring V W c k n ss (tree.static_object i o) h p v d e s = s
declaring V W c k n ss (tree.hiding_constant x o) h p v d e s = s

all_declaring : (V W : Type 0) (c : Context) (k n : ℕ) (ss : List (Option Size)) (xs : List DeclaredTree) → AtAllDeclared (AgreeAt c.sizes ss) xs → AsMuch (form.all_declared {V = V} c xs) (form.all_declared {V = W} (moved k n ss c) xs)
unfolding form.all_declared
all_declaring V W c k n ss [] h p v d e s = s
all_declaring V W c k n ss (x ∷ xs) h p v d e s =
    all_declaring V W c k n ss xs h.1 p v (form.declared c x d) (form.declared (moved k n ss c) x e) (declaring V W c k n ss x h.0 p v d e s)

-- ---- choices and loops

branching : {V W : Type 0} (o : Pos) (w : Ways V) (z : Ways W) → WaysInStep w z → AsMuch (form.branching o w) (form.branching o z)
branching o w z h p v d e s =
    h.choice d.points (d.points + 1) e.points (e.points + 1) p v (fresh 2 (on o d)) (fresh 2 (on o e)) (pointed 2 s)

pub if_step : {V W : Type 0} (o : Pos) (w : Ways V) (z : Ways W) (a : DraftOf V → DraftOf V) (m : DraftOf W → DraftOf W) (b : DraftOf V → DraftOf V) (n : DraftOf W → DraftOf W)
    → WaysInStep w z → AsMuch a m → AsMuch b n → AsMuch (form.if_draft o w a b) (form.if_draft o z m n)
if_step o w z a m b n h f g p v d e s =
    let t = a (form.branching o w d) in
    let u = m (form.branching o z e) in
    pointed 1 (g p v (at (d.points + 1) t) (at (e.points + 1) u) (f p v (form.branching o w d) (form.branching o z e) (branching o w z h p v d e s)))

pub while_step : {V W : Type 0} (w : Ways V) (z : Ways W) (f : Exits → DraftOf V → DraftOf V) (g : Exits → DraftOf W → DraftOf W) (x y : Exits)
    → WaysInStep w z → WorkAsMuch f g → AsMuch (form.while_draft w f x) (form.while_draft z g y)
while_step w z f g x y h k p v d e s =
    let a = d.points in
    let b = e.points in
    let m = w.choice (a + 1) (a + 2) (form.loop_begun d) in
    let n = z.choice (b + 1) (b + 2) (form.loop_begun e) in
    k (form.inside (a + 2) a x) (form.inside (b + 2) b y) p v (at (a + 1) m) (at (b + 1) n)
    (h.choice (a + 1) (a + 2) (b + 1) (b + 2) p v (form.loop_begun d) (form.loop_begun e) (pointed 3 s))

pub do_step : {V W : Type 0} (o : Pos) (w : Ways V) (z : Ways W) (f : Exits → DraftOf V → DraftOf V) (g : Exits → DraftOf W → DraftOf W) (x y : Exits)
    → WaysInStep w z → WorkAsMuch f g → AsMuch (form.do_draft o w f x) (form.do_draft o z g y)
do_step o w z f g x y h k p v d e s =
    let a = d.points in
    let b = e.points in
    h.choice a (a + 2) b (b + 2) p v
    (on o (form.round x f a (a + 2) (a + 1) (form.loop_begun d))) (on o (form.round y g b (b + 2) (b + 1) (form.loop_begun e)))
    (k (form.inside (a + 2) (a + 1) x) (form.inside (b + 2) (b + 1) y) p v (at a (form.loop_begun d)) (at b (form.loop_begun e)) (pointed 3 s))

pub for_step : {V W : Type 0} (o : Pos) (first : DraftOf V → DraftOf V) (begin : DraftOf W → DraftOf W) (test : (i j : ℕ) → DraftOf V → DraftOf V) (check : (i j : ℕ) → DraftOf W → DraftOf W) (third : DraftOf V → DraftOf V) (last : DraftOf W → DraftOf W)
    (f : Exits → DraftOf V → DraftOf V) (g : Exits → DraftOf W → DraftOf W) (x y : Exits)
    → AsMuch first begin → ChooseAsMuch test check → AsMuch third last → WorkAsMuch f g
    → AsMuch (form.for_draft o first test third f x) (form.for_draft o begin check last g y)
for_step o first begin test check third last f g x y a t l k p v d e s =
    let m = on o (first (fresh 1 d)) in
    let n = on o (begin (fresh 1 e)) in
    let i = m.points in
    let j = n.points in
    let m1 = test (i + 1) d.points (form.loop_begun m) in
    let n1 = check (j + 1) e.points (form.loop_begun n) in
    let m2 = form.round x f (i + 1) d.points (i + 2) m1 in
    let n2 = form.round y g (j + 1) e.points (j + 2) n1 in
    l p v (in_scope m.here.scope (on o m2)) (in_scope n.here.scope (on o n2))
    (k (form.inside d.points (i + 2) x) (form.inside e.points (j + 2) y) p v (at (i + 1) m1) (at (j + 1) n1)
    (t (i + 1) d.points (j + 1) e.points p v (form.loop_begun m) (form.loop_begun n)
    (pointed 3 (a p v (fresh 1 d) (fresh 1 e) (pointed 1 s)))))

testing : {V W : Type 0} (f g : Site) (t : IntType) (r : TreeOf V) (q : TreeOf W) (zs : List ℤ) (i j : ℕ) → AsMuch (form.case_tests f t r zs i) (form.case_tests g t q zs j)
unfolding form.case_tests
testing f g t r q [] i j p v d e s = s
testing f g t r q (z ∷ zs) i j p v d e s = testing f g t r q zs (i + 1) (j + 1) p v (form.case_test f t r z i d) (form.case_test g t q z j e) (pointed 1 s)

switching : {V W : Type 0} (f g : Site) (t : IntType) (zs : List ℤ) (b : Bool) (r : Given V) (q : Given W) (p v : ℕ) → InStep p v r.1 q.1 → InStep p v (form.switch_begun f t zs b r) (form.switch_begun g t zs b q)
switching f g t zs b r q p v s =
    let n = 1 + length zs + (if b then 1 else 0) in
    pointed 1 (testing f g t r.0 q.0 zs (r.1.points + 1) (q.1.points + 1) p v (fresh n r.1) (fresh n q.1) (freshened p v n r.1 q.1 s))

pub switch_step : {V W : Type 0} (i j : Site) (t : IntType) (a : ValueTree) (w : Ways V) (z : Ways W) (zs : List ℤ) (b : Bool) (f : Exits → DraftOf V → DraftOf V) (g : Exits → DraftOf W → DraftOf W) (x y : Exits)
    → WaysInStep w z → WorkAsMuch f g → AsMuch (form.switch_draft i t (operand a w) zs b f x) (form.switch_draft j t (operand a z) zs b g y)
switch_step i j t a w z zs b f g x y h k p v d e s =
    let l = form.tested t (operand a w) d in
    let m = form.tested t (operand a z) e in
    k (form.in_switch l.1.points (length zs) x) (form.in_switch m.1.points (length zs) y) p v (form.switch_begun i t zs b l) (form.switch_begun j t zs b m)
    (switching i j t zs b l m p v
    (holding p v Strong Strong refl (converted_shape (operand a w).int_type t (operand a w).shape) (converted_shape (operand a w).int_type t (operand a w).shape) refl t t
    (convert_after (type_of a) t (w.value d)) (convert_after (type_of a) t (z.value e)) (h.value p v d e s)))

-- ---- the forms

returning : (V W : Type 0) (c : Context) (k n : ℕ) (ss : List (Option Size)) (i j : ℕ) (t : Option IntType) (a : Option ValueTree) → AtValueIf (AgreeAt c.sizes ss) a → AsMuch (form.returned {V = V} c i t a) (form.returned {V = W} (moved k n ss c) j t a)
returning V W c k n ss i j None None h p v d e s = pointed 1 s
returning V W c k n ss i j None (Some a) h p v d e s = pointed 1 s
returning V W c k n ss i j (Some t) None h p v d e s = pointed 1 s
returning V W c k n ss i j (Some t) (Some a) h p v d e s = pointed 1 (pointed 1 ((values V W c k n ss a h).value p v d e s))

performing_if : (V W : Type 0) (c : Context) (k n : ℕ) (ss : List (Option Size)) (f : Option EffectTree) → AtEffectIf (AgreeAt c.sizes ss) f → AsMuch (form.performed_if {V = V} c f) (form.performed_if {V = W} (moved k n ss c) f)
performing_if V W c k n ss None h p v d e s = s
performing_if V W c k n ss (Some f) h p v d e s = effects V W c k n ss f h p v d e s

for_starting : (V W : Type 0) (c : Context) (k n : ℕ) (ss : List (Option Size)) (f : ForStartTree) → AtStart (AgreeAt c.sizes ss) f → AsMuch (form.for_start {V = V} c f) (form.for_start {V = W} (moved k n ss c) f)
for_starting V W c k n ss (tree.declarations xs) h = all_declaring V W c k n ss xs h
for_starting V W c k n ss (tree.expression f) h = performing_if V W c k n ss f h

for_testing : (V W : Type 0) (c : Context) (k n : ℕ) (ss : List (Option Size)) (a : Option ValueTree) → AtValueIf (AgreeAt c.sizes ss) a → ChooseAsMuch (form.for_test {V = V} c a) (form.for_test {V = W} (moved k n ss c) a)
for_testing V W c k n ss None h i j x y p v d e s = s
for_testing V W c k n ss (Some a) h i j x y p v d e s = (values V W c k n ss a h).choice i j x y p v d e s

mutual
  unfolding lowered lowered_items AtStatement AtItems

  pub statements : (V W : Type 0) (c : Context) (k n : ℕ) (ss : List (Option Size)) (f : StatementTree) → AtStatement (AgreeAt c.sizes ss) f → WorkAsMuch (lowered {V = V} c f) (lowered {V = W} (moved k n ss c) f)
  statements V W c k n ss (tree.block o is) h = λ x y p v d e s. items V W c k n ss is h x y p v d e s
  statements V W c k n ss (tree.empty o) h = λ x y p v d e s. s
  statements V W c k n ss (tree.effect o f) h = λ x y p v d e s. effects V W c k n ss f h p v (on o d) (on o e) s
  statements V W c k n ss (tree.label o l f) h = λ x y p v d e s. statements V W c k n ss f h x y p v (come (x.labels + l) (on o d)) (come (y.labels + l) (on o e)) s
  statements V W c k n ss (tree.case o i f) h = λ x y p v d e s. statements V W c k n ss f h x y p v (come (x.cases + i) (on o d)) (come (y.cases + i) (on o e)) s
  statements V W c k n ss (tree.default o f) h = λ x y p v d e s. statements V W c k n ss f h x y p v (come x.otherwise (on o d)) (come y.otherwise (on o e)) s
  statements V W c k n ss (tree.if_then o a f) h =
      λ x y p v d e s. if_step o (ways c a) (ways (moved k n ss c) a) (lowered c f x) (lowered (moved k n ss c) f y) (λ b. b) (λ b. b) (values V W c k n ss a h.0) (statements V W c k n ss f h.1 x y) (λ p v d e s. s) p v d e s
  statements V W c k n ss (tree.if_else o a f g) h =
      λ x y p v d e s. if_step o (ways c a) (ways (moved k n ss c) a) (lowered c f x) (lowered (moved k n ss c) f y) (lowered c g x) (lowered (moved k n ss c) g y) (values V W c k n ss a h.0) (statements V W c k n ss f h.1 x y) (statements V W c k n ss g h.2 x y) p v d e s
  statements V W c k n ss (tree.switch o t a zs b f) h =
      λ x y p v d e s. switch_step (site c o) (site (moved k n ss c) o) t a (ways c a) (ways (moved k n ss c) a) zs b (lowered c f) (lowered (moved k n ss c) f) x y (values V W c k n ss a h.0) (statements V W c k n ss f h.1) p v (on o d) (on o e) s
  statements V W c k n ss (tree.while o a f) h =
      λ x y p v d e s. while_step (ways c a) (ways (moved k n ss c) a) (lowered c f) (lowered (moved k n ss c) f) x y (values V W c k n ss a h.0) (statements V W c k n ss f h.1) p v (on o d) (on o e) s
  statements V W c k n ss (tree.do_while o f a) h =
      λ x y p v d e s. do_step o (ways c a) (ways (moved k n ss c) a) (lowered c f) (lowered (moved k n ss c) f) x y (values V W c k n ss a h.1) (statements V W c k n ss f h.0) p v (on o d) (on o e) s
  statements V W c k n ss (tree.for_loop o start a third f) h =
      λ x y p v d e s. for_step o (form.for_start c start) (form.for_start (moved k n ss c) start) (form.for_test c a) (form.for_test (moved k n ss c) a) (form.performed_if c third) (form.performed_if (moved k n ss c) third)
      (lowered c f) (lowered (moved k n ss c) f) x y (for_starting V W c k n ss start h.0) (for_testing V W c k n ss a h.1) (performing_if V W c k n ss third h.2) (statements V W c k n ss f h.3) p v (on o d) (on o e) s
  statements V W c k n ss (tree.goto o l) h = λ x y p v d e s. pointed 1 s
  statements V W c k n ss (tree.continue o) h = λ x y p v d e s. pointed 1 s
  statements V W c k n ss (tree.break o) h = λ x y p v d e s. pointed 1 s
  statements V W c k n ss (tree.return o a) h = λ x y p v d e s. returning V W c k n ss x.left y.left c.returns a h p v (on o d) (on o e) s

  pub items : (V W : Type 0) (c : Context) (k n : ℕ) (ss : List (Option Size)) (is : ItemTrees) → AtItems (AgreeAt c.sizes ss) is → WorkAsMuch (lowered_items {V = V} c is) (lowered_items {V = W} (moved k n ss c) is)
  items V W c k n ss tree.no_items h = λ x y p v d e s. s
  items V W c k n ss (tree.declared_before f is) h =
      λ x y p v d e s. items V W c k n ss is h.1 x y p v (form.declared c f d) (form.declared (moved k n ss c) f e) (declaring V W c k n ss f h.0 p v d e s)
  items V W c k n ss (tree.statement_before f is) h =
      λ x y p v d e s. items V W c k n ss is h.1 x y p v (lowered c f x d) (lowered (moved k n ss c) f y e) (statements V W c k n ss f h.0 x y p v d e s)

pub statements_make_as_much : (V W : Type 0) → StatementsMakeAsMuch V W
statements_make_as_much V W = record { statements = statements V W; items = items V W }
