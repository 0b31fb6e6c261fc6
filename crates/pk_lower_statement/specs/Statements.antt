-- The lowering of declarations and statements, form by form.
use Rattle.std.specs.Prelude.{ℕ, ◌+◌, List, [], ◌∷◌, length, Bool, false, if◌then◌else◌, ℤ, pos, Option, Some, None}
use Rattle.pk_ctypes.specs.declared.places.Pos.{Pos}
use Rattle.pk_ctypes.specs.declared.types.IntType.{IntType}
use Rattle.pk_ctypes.specs.declared.types.IntType.TheVariants.{Int}
use Rattle.pk_ctypes.specs.declared.types.Op.TheVariants.{Eq}
use Rattle.pk_typed.specs.declared.values.Variable.{Variable}
use Rattle.pk_typed.specs.declared.values.Variable.TheVariants.{File, Local}
use Rattle.pk_typed.specs.Trees.{ValueTree, EffectTree, ValueTrees, DeclaredTree, ForStartTree, StatementTree, ItemTrees}
use Rattle.pk_typed.specs.Trees as tree
use Rattle.pk_typed.specs.Types.{type_of}
use Rattle.pk_lower_statement.specs.declared.statements.Exits.{Exits}
use Rattle.pk_graph.specs.declared.trees.Site.{Site}
use Rattle.pk_graph.specs.Kinds.{count_of}
use Rattle.pk_graph.specs.Trees.{TreeOf, constant, ArrayOf, Skip, Havoc, Clear, Store}
use Rattle.pk_draft.specs.Drafts.{DraftOf, Given, at, on, in_scope, scoped, with_name, with_hidden, object_number, fresh, inner, with_object, link, go, emit, away, come}
use Rattle.pk_draft.specs.Folding.{conversion, binary_tree}
use Rattle.pk_lower_row.specs.declared.shapes.Waiting.TheVariants.{Strong}
use Rattle.pk_lower_row.specs.Shapes.{converted_shape}
use Rattle.pk_lower_row.specs.Contexts.{Context, site, own, own_result, array_of, local_at}
use Rattle.pk_lower_row.specs.Rows.{Ways, Operand, operand, held, guards, set_after, convert_after}
use Rattle.pk_lower_expression.specs.Expressions.{ways, performed}

-- ---- declarations

-- a variable's name comes into scope, if it has one
abbrev pub named : {V : Type 0} → Option (List ℕ) → (x : ℕ) → DraftOf V → DraftOf V
named None x d = d
named (Some name) x d = with_name x d

-- object i of the function as the next variable, with its name in scope
abbrev pub introduced : {V : Type 0} → Context → ℕ → DraftOf V → DraftOf V
introduced c i d =
    let x = local_at c i in named x.name d.variables (with_object i (inner x.name x.int_type x.length c.path) d)

-- `T x;`, `T a[n];`
abbrev pub anything : {V : Type 0} → Context → ℕ → DraftOf V → DraftOf V
anything c i d = let x = local_at c i in emit (Havoc (own c i d) x.int_type (count_of x.length)) d

-- element j of an array gets the value of an item of type u, behind it; its index is no access
abbrev pub item_after : {V : Type 0} → ArrayOf V → Site → (j : ℕ) → (u t : IntType) → Given V → DraftOf V
item_after a s j u t r = emit (Store a s false (constant Int (pos j)) (conversion u t r.0)) r.1

abbrev pub item : {V : Type 0} → Context → (i j : ℕ) → IntType → Ways V → DraftOf V → DraftOf V
item c i j u w d = item_after (array_of c (Local i) d) (site c d.here.at) j u (local_at c i).int_type (w.value d)

unfoldable pub items : {V : Type 0} → Context → (i j : ℕ) → ValueTrees → DraftOf V → DraftOf V
items c i j tree.no_values d = d
items c i j (tree.value_before e es) d = items c i (j + 1) es (item c i j (type_of e) (ways c e) d)

abbrev pub scalar_first : {V : Type 0} → Context → ℕ → Option ValueTree → DraftOf V → DraftOf V
scalar_first c i None d = anything c i d
scalar_first c i (Some e) d = set_after (local_at c i).int_type (type_of e) (own c i d) ((ways c e).value d)

abbrev pub array_first : {V : Type 0} → Context → ℕ → Option ValueTrees → DraftOf V → DraftOf V
array_first c i None d = anything c i d
array_first c i (Some es) d = items c i 0 es (emit (Clear (array_of c (Local i) d)) d)

-- the variable of an object, by its number
abbrev pub number_of : {V : Type 0} → Variable → DraftOf V → ℕ
number_of (File n) d = n
number_of (Local i) d = object_number i d

-- its name is hidden from here on
abbrev pub hidden : {V : Type 0} → Variable → DraftOf V → DraftOf V
hidden x d = with_hidden (number_of x d) d

abbrev pub declared : {V : Type 0} → Context → DeclaredTree → DraftOf V → DraftOf V
declared c (tree.scalar_object i p e) d = scalar_first c i e (introduced c i (on p d))
declared c (tree.array_object i p es) d = array_first c i es (introduced c i (on p d))
declared c (tree.static_object n p) d = with_name n (on p d)
declared c (tree.hiding_constant x p) d = hidden x (on p d)

unfoldable pub all_declared : {V : Type 0} → Context → List DeclaredTree → DraftOf V → DraftOf V
all_declared c [] d = d
all_declared c (x ∷ xs) d = all_declared c xs (declared c x d)

-- ---- choices and loops

abbrev pub inside : (broken continued : ℕ) → Exits → Exits
inside b k x = record x { broken = b; continued = k }

-- two new points for the branches, from the first of which it goes on
abbrev pub branching : {V : Type 0} → Pos → Ways V → DraftOf V → DraftOf V
branching p c d = at d.points (c.choice d.points (d.points + 1) (fresh 2 (on p d)))

-- a new point where this end and that of the first branch, e, meet
abbrev pub meeting : {V : Type 0} → Pos → (e : ℕ) → DraftOf V → DraftOf V
meeting p e d = go Skip d.points (at d.point (link Skip d.points (at e (fresh 1 (on p d)))))

abbrev pub if_draft : {V : Type 0} → Pos → Ways V → (a b : DraftOf V → DraftOf V) → DraftOf V → DraftOf V
if_draft p c a b d = let t = a (branching p c d) in meeting p t.point (b (at (d.points + 1) t))

-- a loop's body between two points, and the way from its end to k
abbrev pub round : {V : Type 0} → Exits → (Exits → DraftOf V → DraftOf V) → (from broken k : ℕ) → DraftOf V → DraftOf V
round x s b e k d = go Skip k (s (inside e k x) (at b d))

-- a `while` from its head, the current point: the test, the body from b, back; it ends at e
abbrev pub while_from : {V : Type 0} → Ways V → (Exits → DraftOf V → DraftOf V) → Exits → (b e : ℕ) → DraftOf V →
    DraftOf V
while_from c s x b e d = round x s b e d.point (c.choice b e d)

-- three new points, on at the first
abbrev pub loop_begun : {V : Type 0} → DraftOf V → DraftOf V
loop_begun d = go Skip d.points (fresh 3 d)

-- new head, body, end
abbrev pub while_draft : {V : Type 0} → Ways V → (Exits → DraftOf V → DraftOf V) → Exits → DraftOf V → DraftOf V
while_draft c s x d = let h = d.points in at (h + 2) (while_from c s x (h + 1) (h + 2) (loop_begun d))

-- a `do` from its body, at the current point: the body, the test at k
abbrev pub do_from : {V : Type 0} → Pos → Ways V → (Exits → DraftOf V → DraftOf V) → Exits → (k e : ℕ) → DraftOf V →
    DraftOf V
do_from p c s x k e d = c.choice d.point e (on p (round x s d.point e k d))

-- new body, test, end
abbrev pub do_draft : {V : Type 0} → Pos → Ways V → (Exits → DraftOf V → DraftOf V) → Exits → DraftOf V → DraftOf V
do_draft p c s x d = let b = d.points in at (b + 2) (do_from p c s x (b + 1) (b + 2) (loop_begun d))

-- a `for` from its head, the current point: the test, the body from b, the third part from k, back; it ends at e
abbrev pub for_from : {V : Type 0} → Pos → (test : (p q : ℕ) → DraftOf V → DraftOf V) →
    (third : DraftOf V → DraftOf V) → (Exits → DraftOf V → DraftOf V) → Exits → (b k e : ℕ) → DraftOf V → DraftOf V
for_from p test third s x b k e d =
    go Skip d.point (third (in_scope d.here.scope (on p (round x s b e k (test b e d)))))

-- new end; the first part, in whose scope the rest is; new head, body, third part
abbrev pub for_draft : {V : Type 0} → Pos → (first : DraftOf V → DraftOf V) →
    (test : (p q : ℕ) → DraftOf V → DraftOf V) → (third : DraftOf V → DraftOf V) → (Exits → DraftOf V → DraftOf V) →
    Exits → DraftOf V → DraftOf V
for_draft p first test third s x d =
    let e = d.points in
    let f = on p (first (fresh 1 d)) in
    let h = f.points in
    in_scope d.here.scope (at e (for_from p test third s x (h + 1) (h + 2) e (loop_begun f)))

-- without a test
abbrev pub for_ever : {V : Type 0} → (p q : ℕ) → DraftOf V → DraftOf V
for_ever p q d = link Skip p d

-- one test, which leads to p where it holds
abbrev pub case_test : {V : Type 0} → Site → IntType → TreeOf V → ℤ → ℕ → DraftOf V → DraftOf V
case_test s t r z p d = at d.points (guards p d.points (binary_tree Eq s t r (constant t z), fresh 1 d))

-- a test for each case in order: new points from p on are the cases'
unfoldable pub case_tests : {V : Type 0} → Site → IntType → TreeOf V → List ℤ → ℕ → DraftOf V → DraftOf V
case_tests s t r [] p d = d
case_tests s t r (z ∷ zs) p d = case_tests s t r zs (p + 1) (case_test s t r z p d)

-- inside a switch whose end is e, behind which are its n cases and the default
abbrev pub in_switch : (e n : ℕ) → Exits → Exits
in_switch e n x = record x { broken = e; cases = e + 1; otherwise = e + 1 + n }

-- the promoted value in a temporary, unless it is a constant or temporary
abbrev pub tested : {V : Type 0} → IntType → Operand V → DraftOf V → Given V
tested t v d = held Strong (converted_shape v.int_type t v.shape) t (convert_after v.int_type t (v.ways.value d))

-- behind the value: a new end, and a point for each case and the default; the tests, and where none holds to the default or the end
abbrev pub switch_begun : {V : Type 0} → Site → IntType → List ℤ → Bool → Given V → DraftOf V
switch_begun s t zs has_default k =
    let e = k.1.points in
    let n = length zs in
    away (if has_default then e + 1 + n else e)
    (case_tests s t k.0 zs (e + 1) (fresh (1 + n + (if has_default then 1 else 0)) k.1))

abbrev pub switch_draft : {V : Type 0} → Site → IntType → Operand V → List ℤ → Bool →
    (Exits → DraftOf V → DraftOf V) → Exits → DraftOf V → DraftOf V
switch_draft s t v zs has_default body x d =
    let k = tested t v d in
    let e = k.1.points in
    go Skip e (body (in_switch e (length zs) x) (switch_begun s t zs has_default k))

-- ---- the forms

-- to the exit
abbrev pub returned : {V : Type 0} → Context → (left : ℕ) → Option IntType → Option ValueTree → DraftOf V → DraftOf V
returned c left None None d = away left d
returned c left None (Some e) d = away left d
returned c left (Some t) None d = away left d
returned c left (Some t) (Some e) d = away left (set_after t (type_of e) (own_result c d) ((ways c e).value d))

abbrev pub performed_if : {V : Type 0} → Context → Option EffectTree → DraftOf V → DraftOf V
performed_if c None d = d
performed_if c (Some e) d = performed c e d

abbrev pub for_start : {V : Type 0} → Context → ForStartTree → DraftOf V → DraftOf V
for_start c (tree.declarations xs) d = all_declared c xs d
for_start c (tree.expression e) d = performed_if c e d

abbrev pub for_test : {V : Type 0} → Context → Option ValueTree → (p q : ℕ) → DraftOf V → DraftOf V
for_test c None p q d = for_ever p q d
for_test c (Some e) p q d = (ways c e).choice p q d

unfoldable mutual
  pub lowered : {V : Type 0} → Context → StatementTree → Exits → DraftOf V → DraftOf V
  lowered c (tree.block p is) x d = scoped (lowered_items c is x) d
  lowered c (tree.empty p) x d = d
  lowered c (tree.effect p e) x d = performed c e (on p d)
  lowered c (tree.label p l s) x d = lowered c s x (come (x.labels + l) (on p d))
  lowered c (tree.case p i s) x d = lowered c s x (come (x.cases + i) (on p d))
  lowered c (tree.default p s) x d = lowered c s x (come x.otherwise (on p d))
  lowered c (tree.if_then p e s) x d = if_draft p (ways c e) (lowered c s x) (λ f. f) d
  lowered c (tree.if_else p e s r) x d = if_draft p (ways c e) (lowered c s x) (lowered c r x) d
  lowered c (tree.switch p t e zs has_default s) x d =
      switch_draft (site c p) t (operand e (ways c e)) zs has_default (lowered c s) x (on p d)
  lowered c (tree.while p e s) x d = while_draft (ways c e) (lowered c s) x (on p d)
  lowered c (tree.do_while p s e) x d = do_draft p (ways c e) (lowered c s) x (on p d)
  lowered c (tree.for_loop p start e third s) x d =
      for_draft p (for_start c start) (for_test c e) (performed_if c third) (lowered c s) x (on p d)
  lowered c (tree.goto p l) x d = away (x.labels + l) (on p d)
  lowered c (tree.continue p) x d = away x.continued (on p d)
  lowered c (tree.break p) x d = away x.broken (on p d)
  lowered c (tree.return p e) x d = returned c x.left c.returns e (on p d)

  pub lowered_items : {V : Type 0} → Context → ItemTrees → Exits → DraftOf V → DraftOf V
  lowered_items c tree.no_items x d = d
  lowered_items c (tree.declared_before v is) x d = lowered_items c is x (declared c v d)
  lowered_items c (tree.statement_before s is) x d = lowered_items c is x (lowered c s x d)
