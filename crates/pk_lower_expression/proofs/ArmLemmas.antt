-- Each form of expression from what its parts gave.
use Rattle.std.proofs.Common.{◌≡◌, ℕ, ◌+◌, List, Bool, true, false, if◌then◌else◌, refl, sym, ◌∙◌, ap}
use Rattle.std.specs.Prelude.{ℤ, pos}
use Rattle.pk_ctypes.specs.declared.places.Pos.{Pos}
use Rattle.pk_ctypes.specs.declared.types.IntType.{IntType}
use Rattle.pk_ctypes.specs.declared.types.IntType.TheVariants.{Int}
use Rattle.pk_ctypes.specs.declared.types.Op.{Op}
use Rattle.pk_ctypes.specs.Types.{represents}
use Rattle.pk_ctypes.specs.Operators.{is_not}
use Rattle.pk_typed.specs.declared.values.Value.{Value}
use Rattle.pk_typed.specs.declared.values.Variable.{Variable}
use Rattle.pk_typed.specs.Trees.{PlaceTree, ValueTree, EffectTree}
use Rattle.pk_typed.specs.Trees as tree
use Rattle.pk_typed.specs.Types.{type_of}
use Rattle.pk_typed.specs.Views.{value_trees}
use Rattle.pk_graph.specs.declared.trees.Site.{Site}
use Rattle.pk_graph.specs.Trees.{TreeOf, ArrayOf}
use Rattle.pk_graph.specs.Trees as graph
use Rattle.pk_draft.specs.Drafts.{DraftOf, Given, at, fresh, with_temporary, nowhere}
use Rattle.pk_draft.specs.Folding.{conversion, unary_tree, operated_tree}
use Rattle.pk_draft.specs.declared.drafts.Draft.{Draft}
use Rattle.pk_draft.specs.Shown.{drafted}
use Rattle.pk_lower_row.specs.declared.shapes.Shape.{Shape}
use Rattle.pk_lower_row.specs.declared.shapes.Shape.TheVariants.{Fixed}
use Rattle.pk_lower_row.specs.declared.shapes.Waiting.{Waiting}
use Rattle.pk_lower_row.specs.declared.shapes.Waiting.TheVariants.{Weak}
use Rattle.pk_lower_row.specs.declared.rows.Join.{Join}
use Rattle.pk_lower_row.specs.Joins.{IsJoin}
use Rattle.pk_lower_row.specs.Shapes.{shape_of, makes, strong_if, strong_or_weak}
use Rattle.pk_lower_row.specs.Contexts.{Context, site, variable_of, array_of}
use Rattle.pk_lower_row.specs.Rows as rows
use Rattle.pk_lower_expression.specs.Expressions.{passed, performed, target, ways}
use Rattle.pk_lower_expression.proofs.WayLemmas.{lowered, target_scalar, target_element, ways_constant, ways_read, ways_assign, ways_update, ways_step, ways_call, ways_any, ways_unary, ways_convert, ways_binary, ways_and, ways_or, ways_conditional, ways_then, performed_unused, performed_run, performed_assume, performed_assert, performed_abort, performed_then}

-- ---- answers

-- ---- operands

two_is : (k : Given ℕ) (f : DraftOf ℕ → Given ℕ) (x y : TreeOf ℕ) (d e : DraftOf ℕ) → (x, d) ≡ k → (y, e) ≡ f d → rows.paired x y e ≡ rows.paired k.0 (f k.1).0 (f k.1).1
two_is k f x y d e first second =
    let from : (y, e) ≡ f k.1 = second ∙ ap f (ap (λ (g : Given ℕ). g.1) first) in
    ap (λ (z : TreeOf ℕ). rows.paired z y e) (ap (λ (g : Given ℕ). g.0) first) ∙ ap (λ (g : Given ℕ). rows.paired k.0 g.0 g.1) from

pub pair_of : (c : Context) (a b : ValueTree) (h how : Waiting) (x y : TreeOf ℕ) (d0 d1 d2 : DraftOf ℕ)
    → h ≡ how
    → (x, d1) ≡ rows.held h (shape_of a) (type_of a) ((ways c a).value d0)
    → (y, d2) ≡ (ways c b).value d1
    → rows.paired x y d2 ≡ rows.two how (lowered c a) (lowered c b) d0
pair_of c a b h how x y d0 d1 d2 is first second =
    two_is _ (ways c b).value x y d1 d2 (first ∙ ap (λ (w : Waiting). rows.held w (shape_of a) (type_of a) ((ways c a).value d0)) is) second

pub pair_with_one : (c : Context) (a : ValueTree) (x y : TreeOf ℕ) (d0 d1 : DraftOf ℕ)
    → (x, d1) ≡ rows.held Weak (shape_of a) (type_of a) ((ways c a).value d0)
    → y ≡ rows.one_tree
    → rows.paired x y d1 ≡ rows.two Weak (lowered c a) rows.one d0
pair_with_one c a x y d0 d1 first second =
    two_is _ rows.one.ways.value x y d1 d1 first (ap (λ (z : TreeOf ℕ). (z, d1)) second)

-- ---- what an expression is, and the step of its form

target_by : (c : Context) (r z : PlaceTree) (t : rows.Target ℕ) → r ≡ z → target c z ≡ t → target c r ≡ t
target_by c r z t is step = ap (target c) is ∙ step

value_by : (c : Context) (v w : ValueTree) (r : rows.Ways ℕ) (d : DraftOf ℕ) (g : Given ℕ) → v ≡ w → ways c w ≡ r → g ≡ r.value d → g ≡ (ways c v).value d
value_by c v w r d g is step e = e ∙ sym (ap (λ (x : rows.Ways ℕ). x.value d) (ap (ways c) is ∙ step))

choice_by : (c : Context) (v w : ValueTree) (r : rows.Ways ℕ) (p q : ℕ) (d e : DraftOf ℕ) → v ≡ w → ways c w ≡ r → e ≡ r.choice p q d → e ≡ (ways c v).choice p q d
choice_by c v w r p q d e is step h = h ∙ sym (ap (λ (x : rows.Ways ℕ). x.choice p q d) (ap (ways c) is ∙ step))

unused_by : (c : Context) (v w : ValueTree) (r : rows.Ways ℕ) (d e : DraftOf ℕ) → v ≡ w → ways c w ≡ r → e ≡ r.unused d → e ≡ (ways c v).unused d
unused_by c v w r d e is step h = h ∙ sym (ap (λ (x : rows.Ways ℕ). x.unused d) (ap (ways c) is ∙ step))

effect_by : (c : Context) (v w : EffectTree) (d e f : DraftOf ℕ) → v ≡ w → performed c w d ≡ f → e ≡ f → e ≡ performed c v d
effect_by c v w d e f is step h = h ∙ sym (ap (λ (x : EffectTree). performed c x d) is ∙ step)

assigned : (c : Context) (o : Pos) (r z : PlaceTree) (b : ValueTree) (t : rows.Target ℕ) → r ≡ z → target c z ≡ t → ways c (tree.assign o r b) ≡ rows.assign_ways t (lowered c b)
assigned c o r z b t is step = ways_assign c o r b ∙ ap (λ (x : rows.Target ℕ). rows.assign_ways x (lowered c b)) (target_by c r z t is step)

updated : (c : Context) (op : Op) (o : Pos) (k : IntType) (r z : PlaceTree) (b : ValueTree) (t : rows.Target ℕ) → r ≡ z → target c z ≡ t → ways c (tree.update op o k r b) ≡ rows.update_ways op (site c o) k t (lowered c b)
updated c op o k r z b t is step = ways_update c op o k r b ∙ ap (λ (x : rows.Target ℕ). rows.update_ways op (site c o) k x (lowered c b)) (target_by c r z t is step)

-- ---- forms

abbrev beside : TreeOf ℕ → DraftOf ℕ → Given ℕ
beside y d = (y, d)

pub constant : (c : Context) (v : ValueTree) (t : IntType) (z : ℤ) (y : TreeOf ℕ) (d : DraftOf ℕ)
    → v ≡ tree.constant t z → y ≡ graph.constant t z → (y, d) ≡ (ways c v).value d
constant c v t z y d is e = value_by c v _ _ d _ is (ways_constant c t z) (ap (λ (x : TreeOf ℕ). beside x d) e)

pub read : (c : Context) (v : ValueTree) (r : PlaceTree) (g : Given ℕ) (d : DraftOf ℕ)
    → v ≡ tree.read r → g ≡ (rows.read_ways (target c r)).value d → g ≡ (ways c v).value d
read c v r g d is e = value_by c v _ _ d g is (ways_read c r) e

pub any : (c : Context) (v : ValueTree) (t : IntType) (p : Pos) (g : Given ℕ) (d : DraftOf ℕ)
    → v ≡ tree.any t p → g ≡ rows.any_value t d → g ≡ (ways c v).value d
any c v t p g d is e = value_by c v _ _ d g is (ways_any c t p) e

pub convert : (c : Context) (v : ValueTree) (t : IntType) (a : ValueTree) (g : Given ℕ) (d : DraftOf ℕ)
    → v ≡ tree.convert t a → g ≡ rows.convert_after (type_of a) t ((ways c a).value d) → g ≡ (ways c v).value d
convert c v t a g d is e = value_by c v _ _ d g is (ways_convert c t a) e

pub call : (c : Context) (v : ValueTree) (t : IntType) (f n : ℕ) (p : Pos) (us es : List Value) (x : ℕ) (y : TreeOf ℕ) (d0 d1 : DraftOf ℕ)
    → v ≡ tree.call t f n p (value_trees es) → us ≡ es → (graph.variable x, d1) ≡ rows.called c f n (rows.types_of (value_trees us)) (passed c (value_trees us)) d0 → y ≡ graph.variable x
    → (y, d1) ≡ (ways c v).value d0
call c v t f n p us es x y d0 d1 is same e ey =
    value_by c v _ _ d0 _ is (ways_call c t f n p (value_trees es))
    (ap (λ (z : TreeOf ℕ). beside z d1) ey ∙ (e ∙ ap (λ (vs : List Value). rows.called c f n (rows.types_of (value_trees vs)) (passed c (value_trees vs)) d0) same))

pub scalar : (c : Context) (r : PlaceTree) (t : IntType) (x : Variable) (n : ℕ) (y : TreeOf ℕ) (d : DraftOf ℕ)
    → r ≡ tree.scalar t x → n ≡ variable_of c x d → y ≡ graph.variable n → (y, d) ≡ (rows.read_ways (target c r)).value d
scalar c r t x n y d is en ey =
    ap (λ (z : TreeOf ℕ). beside z d) (ey ∙ ap graph.variable en) ∙ sym (ap (λ (z : rows.Target ℕ). (rows.read_ways z).value d) (target_by c r _ _ is (target_scalar c t x)))

pub element : (c : Context) (r : PlaceTree) (t : IntType) (x : Variable) (p : Pos) (i : ValueTree) (s : Site) (a : ArrayOf ℕ) (y : TreeOf ℕ) (g : Given ℕ) (d0 d1 : DraftOf ℕ)
    → r ≡ tree.element t x p i → s ≡ site c p → a ≡ array_of c x d0 → (y, d1) ≡ (ways c i).value d0 → g ≡ rows.load t s a (y, d1)
    → g ≡ (rows.read_ways (target c r)).value d0
element c r t x p i s a y g d0 d1 is es ea e h =
    h
    ∙ (ap (λ (z : Site). rows.load t z a (y, d1)) es
    ∙ (ap (λ (b : ArrayOf ℕ). rows.load t (site c p) b (y, d1)) ea
    ∙ (ap (rows.load t (site c p) (array_of c x d0)) e
    ∙ sym (ap (λ (z : rows.Target ℕ). (rows.read_ways z).value d0) (target_by c r _ _ is (target_element c t x p i))))))

pub binary : (c : Context) (v0 : ValueTree) (op : Op) (p : Pos) (t : IntType) (a b : ValueTree) (s : Site) (u v : IntType) (m : Bool) (how : Waiting) (x y z : TreeOf ℕ) (d0 d1 d2 : DraftOf ℕ)
    → v0 ≡ tree.binary op p t a b → s ≡ site c p → u ≡ type_of a → v ≡ type_of b → m ≡ makes b → how ≡ strong_if m
    → (x, d1) ≡ rows.held how (shape_of a) (type_of a) ((ways c a).value d0)
    → (y, d2) ≡ (ways c b).value d1
    → z ≡ operated_tree op s t u v x y
    → (z, d2) ≡ (ways c v0).value d0
binary c v0 op p t a b s u v m how x y z d0 d1 d2 is es eu ev em eh first second ez =
    value_by c v0 _ _ d0 _ is (ways_binary c op p t a b)
    (ap (λ (w : TreeOf ℕ). beside w d2) ez
    ∙ (ap (λ (w : Site). rows.binary_after op w t u v (rows.paired x y d2)) es
    ∙ (ap (λ (w : IntType). rows.binary_after op (site c p) t w v (rows.paired x y d2)) eu
    ∙ (ap (λ (w : IntType). rows.binary_after op (site c p) t (type_of a) w (rows.paired x y d2)) ev
    ∙ ap (rows.binary_after op (site c p) t (type_of a) (type_of b)) (pair_of c a b how (strong_if (makes b)) x y d0 d1 d2 (eh ∙ ap strong_if em) first second)))))

pub unary : (c : Context) (v : ValueTree) (op : Op) (p : Pos) (t : IntType) (a : ValueTree) (s : Site) (u : IntType) (x z : TreeOf ℕ) (d0 d1 : DraftOf ℕ)
    → v ≡ tree.unary op p t a → s ≡ site c p → u ≡ type_of a → (x, d1) ≡ (ways c a).value d0 → z ≡ unary_tree op s t (conversion u t x)
    → (z, d1) ≡ (ways c v).value d0
unary c v op p t a s u x z d0 d1 is es eu e ez =
    value_by c v _ _ d0 _ is (ways_unary c op p t a)
    (ap (λ (w : TreeOf ℕ). beside w d1) ez
    ∙ (ap (λ (w : Site). rows.unary_after op w u t (x, d1)) es
    ∙ (ap (λ (w : IntType). rows.unary_after op (site c p) w t (x, d1)) eu ∙ ap (rows.unary_after op (site c p) (type_of a) t) e)))

pub set_scalar : (c : Context) (v : ValueTree) (r : PlaceTree) (p : Pos) (t : IntType) (x : Variable) (b : ValueTree) (u : IntType) (n : ℕ) (y : TreeOf ℕ) (g : Given ℕ) (d0 d1 : DraftOf ℕ)
    → v ≡ tree.assign p r b → r ≡ tree.scalar t x → n ≡ variable_of c x d0 → u ≡ type_of b → (y, d1) ≡ (ways c b).value d0 → g ≡ (graph.variable n, rows.set_after t u n (y, d1))
    → g ≡ (ways c v).value d0
set_scalar c v r p t x b u n y g d0 d1 is place en eu e h =
    value_by c v _ _ d0 g is (assigned c p r _ b _ place (target_scalar c t x))
    (h ∙ (ap (λ (z : ℕ). rows.kept_beside z (rows.set_after t u z (y, d1))) en
    ∙ (ap (λ (z : IntType). rows.kept_beside (variable_of c x d0) (rows.set_after t z (variable_of c x d0) (y, d1))) eu
    ∙ ap (λ (w : Given ℕ). rows.kept_beside (variable_of c x d0) (rows.set_after t (type_of b) (variable_of c x d0) w)) e)))

pub set_element : (c : Context) (v : ValueTree) (q : PlaceTree) (o : Pos) (t : IntType) (x : Variable) (p : Pos) (i b : ValueTree) (s : Site) (a : ArrayOf ℕ) (u : IntType) (m : Bool) (how : Waiting) (y z : TreeOf ℕ) (g : Given ℕ) (d0 d1 d2 : DraftOf ℕ)
    → v ≡ tree.assign o q b → q ≡ tree.element t x p i → s ≡ site c p → a ≡ array_of c x d0 → u ≡ type_of b → m ≡ makes b → how ≡ strong_or_weak m
    → (y, d1) ≡ rows.held how (shape_of i) (type_of i) ((ways c i).value d0)
    → (z, d2) ≡ (ways c b).value d1
    → g ≡ rows.kept_after t u s a (rows.paired y z d2)
    → g ≡ (ways c v).value d0
set_element c v q o t x p i b s a u m how y z g d0 d1 d2 is place es ea eu em eh first second h =
    value_by c v _ _ d0 g is (assigned c o q _ b _ place (target_element c t x p i))
    (h
    ∙ (ap (λ (r : Site). rows.kept_after t u r a (rows.paired y z d2)) es
    ∙ (ap (λ (r : ArrayOf ℕ). rows.kept_after t u (site c p) r (rows.paired y z d2)) ea
    ∙ (ap (λ (r : IntType). rows.kept_after t r (site c p) (array_of c x d0) (rows.paired y z d2)) eu
    ∙ ap (rows.kept_after t (type_of b) (site c p) (array_of c x d0)) (pair_of c i b how (strong_or_weak (makes b)) y z d0 d1 d2 (eh ∙ ap strong_or_weak em) first second)))))

pub put_element : (c : Context) (v : ValueTree) (q : PlaceTree) (o : Pos) (t : IntType) (x : Variable) (p : Pos) (i b : ValueTree) (s : Site) (a : ArrayOf ℕ) (u : IntType) (m : Bool) (how : Waiting) (y z : TreeOf ℕ) (g : DraftOf ℕ) (d0 d1 d2 : DraftOf ℕ)
    → v ≡ tree.assign o q b → q ≡ tree.element t x p i → s ≡ site c p → a ≡ array_of c x d0 → u ≡ type_of b → m ≡ makes b → how ≡ strong_if m
    → (y, d1) ≡ rows.held how (shape_of i) (type_of i) ((ways c i).value d0)
    → (z, d2) ≡ (ways c b).value d1
    → g ≡ rows.put_after t u s a (rows.paired y z d2)
    → g ≡ (ways c v).unused d0
put_element c v q o t x p i b s a u m how y z g d0 d1 d2 is place es ea eu em eh first second h =
    unused_by c v _ _ d0 g is (assigned c o q _ b _ place (target_element c t x p i))
    (h
    ∙ (ap (λ (r : Site). rows.put_after t u r a (rows.paired y z d2)) es
    ∙ (ap (λ (r : ArrayOf ℕ). rows.put_after t u (site c p) r (rows.paired y z d2)) ea
    ∙ (ap (λ (r : IntType). rows.put_after t r (site c p) (array_of c x d0) (rows.paired y z d2)) eu
    ∙ ap (rows.put_after t (type_of b) (site c p) (array_of c x d0)) (pair_of c i b how (strong_if (makes b)) y z d0 d1 d2 (eh ∙ ap strong_if em) first second)))))

pub update_scalar : (c : Context) (v : ValueTree) (q : PlaceTree) (op : Op) (o : Pos) (k t : IntType) (x : Variable) (b : ValueTree) (r : Site) (u : IntType) (n : ℕ) (y : TreeOf ℕ) (g : Given ℕ) (d0 d1 : DraftOf ℕ)
    → v ≡ tree.update op o k q b → q ≡ tree.scalar t x → r ≡ site c o → n ≡ variable_of c x d0 → u ≡ type_of b → (y, d1) ≡ (ways c b).value d0
    → g ≡ (graph.variable n, rows.update_after op r k t u n (y, d1))
    → g ≡ (ways c v).value d0
update_scalar c v q op o k t x b r u n y g d0 d1 is place er en eu e h =
    value_by c v _ _ d0 g is (updated c op o k q _ b _ place (target_scalar c t x))
    (h
    ∙ (ap (λ (z : Site). rows.kept_beside n (rows.update_after op z k t u n (y, d1))) er
    ∙ (ap (λ (z : ℕ). rows.kept_beside z (rows.update_after op (site c o) k t u z (y, d1))) en
    ∙ (ap (λ (z : IntType). rows.kept_beside (variable_of c x d0) (rows.update_after op (site c o) k t z (variable_of c x d0) (y, d1))) eu
    ∙ ap (λ (w : Given ℕ). rows.kept_beside (variable_of c x d0) (rows.update_after op (site c o) k t (type_of b) (variable_of c x d0) w)) e))))

pub update_element : (c : Context) (v : ValueTree) (q : PlaceTree) (op : Op) (o : Pos) (k t : IntType) (x : Variable) (p : Pos) (i b : ValueTree) (r s : Site) (a : ArrayOf ℕ) (h : Shape) (u : IntType) (m : Bool) (how : Waiting) (y z : TreeOf ℕ) (g : Given ℕ) (d0 d1 d2 : DraftOf ℕ)
    → v ≡ tree.update op o k q b → q ≡ tree.element t x p i → r ≡ site c o → s ≡ site c p → a ≡ array_of c x d0 → h ≡ shape_of b → u ≡ type_of b → m ≡ makes b → how ≡ strong_or_weak m
    → (y, d1) ≡ rows.held how (shape_of i) (type_of i) ((ways c i).value d0)
    → (z, d2) ≡ (ways c b).value d1
    → g ≡ rows.renew_used op r k t s a u (rows.loaded_after t s a h u (rows.paired y z d2))
    → g ≡ (ways c v).value d0
update_element c v q op o k t x p i b r s a h u m how y z g d0 d1 d2 is place er es ea eh eu em ehow first second eg =
    value_by c v _ _ d0 g is (updated c op o k q _ b _ place (target_element c t x p i))
    (eg
    ∙ (ap (λ (w : Site). rows.renew_used op w k t s a u (rows.loaded_after t s a h u (rows.paired y z d2))) er
    ∙ (ap (λ (w : Site). rows.renew_used op (site c o) k t w a u (rows.loaded_after t w a h u (rows.paired y z d2))) es
    ∙ (ap (λ (w : ArrayOf ℕ). rows.renew_used op (site c o) k t (site c p) w u (rows.loaded_after t (site c p) w h u (rows.paired y z d2))) ea
    ∙ (ap (λ (w : Shape). rows.renew_used op (site c o) k t (site c p) (array_of c x d0) u (rows.loaded_after t (site c p) (array_of c x d0) w u (rows.paired y z d2))) eh
    ∙ (ap (λ (w : IntType). rows.renew_used op (site c o) k t (site c p) (array_of c x d0) w (rows.loaded_after t (site c p) (array_of c x d0) (shape_of b) w (rows.paired y z d2))) eu
    ∙ ap (λ (w : rows.Two ℕ). rows.renew_used op (site c o) k t (site c p) (array_of c x d0) (type_of b) (rows.loaded_after t (site c p) (array_of c x d0) (shape_of b) (type_of b) w))
    (pair_of c i b how (strong_or_weak (makes b)) y z d0 d1 d2 (ehow ∙ ap strong_or_weak em) first second)))))))

pub update_element_unused : (c : Context) (v : ValueTree) (q : PlaceTree) (op : Op) (o : Pos) (k t : IntType) (x : Variable) (p : Pos) (i b : ValueTree) (r s : Site) (a : ArrayOf ℕ) (h : Shape) (u : IntType) (m : Bool) (how : Waiting) (y z : TreeOf ℕ) (g : DraftOf ℕ) (d0 d1 d2 : DraftOf ℕ)
    → v ≡ tree.update op o k q b → q ≡ tree.element t x p i → r ≡ site c o → s ≡ site c p → a ≡ array_of c x d0 → h ≡ shape_of b → u ≡ type_of b → m ≡ makes b → how ≡ strong_or_weak m
    → (y, d1) ≡ rows.held how (shape_of i) (type_of i) ((ways c i).value d0)
    → (z, d2) ≡ (ways c b).value d1
    → g ≡ rows.renew_unused op r k t s a u (rows.loaded_after t s a h u (rows.paired y z d2))
    → g ≡ (ways c v).unused d0
update_element_unused c v q op o k t x p i b r s a h u m how y z g d0 d1 d2 is place er es ea eh eu em ehow first second eg =
    unused_by c v _ _ d0 g is (updated c op o k q _ b _ place (target_element c t x p i))
    (eg
    ∙ (ap (λ (w : Site). rows.renew_unused op w k t s a u (rows.loaded_after t s a h u (rows.paired y z d2))) er
    ∙ (ap (λ (w : Site). rows.renew_unused op (site c o) k t w a u (rows.loaded_after t w a h u (rows.paired y z d2))) es
    ∙ (ap (λ (w : ArrayOf ℕ). rows.renew_unused op (site c o) k t (site c p) w u (rows.loaded_after t (site c p) w h u (rows.paired y z d2))) ea
    ∙ (ap (λ (w : Shape). rows.renew_unused op (site c o) k t (site c p) (array_of c x d0) u (rows.loaded_after t (site c p) (array_of c x d0) w u (rows.paired y z d2))) eh
    ∙ (ap (λ (w : IntType). rows.renew_unused op (site c o) k t (site c p) (array_of c x d0) w (rows.loaded_after t (site c p) (array_of c x d0) (shape_of b) w (rows.paired y z d2))) eu
    ∙ ap (λ (w : rows.Two ℕ). rows.renew_unused op (site c o) k t (site c p) (array_of c x d0) (type_of b) (rows.loaded_after t (site c p) (array_of c x d0) (shape_of b) (type_of b) w))
    (pair_of c i b how (strong_or_weak (makes b)) y z d0 d1 d2 (ehow ∙ ap strong_or_weak em) first second)))))))

-- ---- steps

pub step_scalar : (c : Context) (q : PlaceTree) (op : Op) (r : Site) (k t : IntType) (x : Variable) (n : ℕ) (g : Given ℕ) (d : DraftOf ℕ)
    → q ≡ tree.scalar t x → n ≡ variable_of c x d → g ≡ rows.kept_beside n (rows.update_scalar op r k t n rows.one d)
    → g ≡ (rows.update_ways op r k (target c q) rows.one).value d
step_scalar c q op r k t x n g d place en h =
    h ∙ (ap (λ (z : ℕ). rows.kept_beside z (rows.update_scalar op r k t z rows.one d)) en ∙ sym (ap (λ (z : rows.Target ℕ). (rows.update_ways op r k z rows.one).value d) (target_by c q _ _ place (target_scalar c t x))))

pub step_element : (c : Context) (q : PlaceTree) (op : Op) (r s : Site) (k t : IntType) (x : Variable) (p : Pos) (i : ValueTree) (a : ArrayOf ℕ) (l : rows.Loaded ℕ) (g : Given ℕ) (d : DraftOf ℕ)
    → q ≡ tree.element t x p i → s ≡ site c p → a ≡ array_of c x d → l ≡ rows.loaded t s a (lowered c i) rows.one d → g ≡ rows.renew_used op r k t s a Int l
    → g ≡ (rows.update_ways op r k (target c q) rows.one).value d
step_element c q op r s k t x p i a l g d place es ea el h =
    h
    ∙ (ap (λ (w : rows.Loaded ℕ). rows.renew_used op r k t s a Int w) el
    ∙ (ap (λ (w : Site). rows.renew_used op r k t w a Int (rows.loaded t w a (lowered c i) rows.one d)) es
    ∙ (ap (λ (w : ArrayOf ℕ). rows.renew_used op r k t (site c p) w Int (rows.loaded t (site c p) w (lowered c i) rows.one d)) ea
    ∙ sym (ap (λ (z : rows.Target ℕ). (rows.update_ways op r k z rows.one).value d) (target_by c q _ _ place (target_element c t x p i))))))

pub after_scalar : (c : Context) (q : PlaceTree) (op : Op) (r : Site) (k t : IntType) (x : Variable) (n : ℕ) (g : Given ℕ) (d : DraftOf ℕ)
    → q ≡ tree.scalar t x → n ≡ variable_of c x d → g ≡ rows.after_scalar op r k t n d
    → g ≡ (rows.after_ways op r k (target c q)).value d
after_scalar c q op r k t x n g d place en h =
    h ∙ (ap (λ (z : ℕ). rows.after_scalar op r k t z d) en ∙ sym (ap (λ (z : rows.Target ℕ). (rows.after_ways op r k z).value d) (target_by c q _ _ place (target_scalar c t x))))

pub after_element : (c : Context) (q : PlaceTree) (op : Op) (r s : Site) (k t : IntType) (x : Variable) (p : Pos) (i : ValueTree) (a : ArrayOf ℕ) (l : rows.Loaded ℕ) (g : Given ℕ) (d : DraftOf ℕ)
    → q ≡ tree.element t x p i → s ≡ site c p → a ≡ array_of c x d → l ≡ rows.loaded t s a (lowered c i) rows.one d → g ≡ rows.renew_old op r k t s a l
    → g ≡ (rows.after_ways op r k (target c q)).value d
after_element c q op r s k t x p i a l g d place es ea el h =
    h
    ∙ (ap (λ (w : rows.Loaded ℕ). rows.renew_old op r k t s a w) el
    ∙ (ap (λ (w : Site). rows.renew_old op r k t w a (rows.loaded t w a (lowered c i) rows.one d)) es
    ∙ (ap (λ (w : ArrayOf ℕ). rows.renew_old op r k t (site c p) w (rows.loaded t (site c p) w (lowered c i) rows.one d)) ea
    ∙ sym (ap (λ (z : rows.Target ℕ). (rows.after_ways op r k z).value d) (target_by c q _ _ place (target_element c t x p i))))))

pub unused_scalar : (c : Context) (q : PlaceTree) (op : Op) (r : Site) (k t : IntType) (x : Variable) (n : ℕ) (g : DraftOf ℕ) (d : DraftOf ℕ)
    → q ≡ tree.scalar t x → n ≡ variable_of c x d → g ≡ rows.update_scalar op r k t n rows.one d
    → g ≡ (rows.after_ways op r k (target c q)).unused d
unused_scalar c q op r k t x n g d place en h =
    h ∙ (ap (λ (z : ℕ). rows.update_scalar op r k t z rows.one d) en ∙ sym (ap (λ (z : rows.Target ℕ). (rows.after_ways op r k z).unused d) (target_by c q _ _ place (target_scalar c t x))))

pub unused_element : (c : Context) (q : PlaceTree) (op : Op) (r s : Site) (k t : IntType) (x : Variable) (p : Pos) (i : ValueTree) (a : ArrayOf ℕ) (l : rows.Loaded ℕ) (g : DraftOf ℕ) (d : DraftOf ℕ)
    → q ≡ tree.element t x p i → s ≡ site c p → a ≡ array_of c x d → l ≡ rows.loaded t s a (lowered c i) rows.one d → g ≡ rows.renew_unused op r k t s a Int l
    → g ≡ (rows.after_ways op r k (target c q)).unused d
unused_element c q op r s k t x p i a l g d place es ea el h =
    h
    ∙ (ap (λ (w : rows.Loaded ℕ). rows.renew_unused op r k t s a Int w) el
    ∙ (ap (λ (w : Site). rows.renew_unused op r k t w a Int (rows.loaded t w a (lowered c i) rows.one d)) es
    ∙ (ap (λ (w : ArrayOf ℕ). rows.renew_unused op r k t (site c p) w Int (rows.loaded t (site c p) w (lowered c i) rows.one d)) ea
    ∙ sym (ap (λ (z : rows.Target ℕ). (rows.after_ways op r k z).unused d) (target_by c q _ _ place (target_element c t x p i))))))

update_unused_is : (op : Op) (o : Site) (k : IntType) (t : rows.Target ℕ) (d : DraftOf ℕ) → (rows.after_ways op o k t).unused d ≡ (rows.update_ways op o k t rows.one).unused d
update_unused_is op o k (rows.scalar t x) d = refl
update_unused_is op o k (rows.element t s a i) d = refl

-- where it isn't used, the new value and the old one are one
step_unused_is : (op : Op) (o : Site) (k : IntType) (t : rows.Target ℕ) (prefix : Bool) (d : DraftOf ℕ)
    → (rows.after_ways op o k t).unused d ≡ (rows.step_ways op o k t prefix).unused d
step_unused_is op o k t true d = update_unused_is op o k t d
step_unused_is op o k t false d = refl

pub step_prefix : (c : Context) (v : ValueTree) (op : Op) (o : Pos) (k : IntType) (r : PlaceTree) (prefix : Bool) (s : Site) (g : Given ℕ) (d : DraftOf ℕ)
    → v ≡ tree.step op o k r prefix → s ≡ site c o → prefix ≡ true → g ≡ (rows.update_ways op s k (target c r) rows.one).value d → g ≡ (ways c v).value d
step_prefix c v op o k r prefix s g d is es to h =
    value_by c v _ _ d g is (ways_step c op o k r prefix)
    (h ∙ (ap (λ (z : Site). (rows.update_ways op z k (target c r) rows.one).value d) es ∙ ap (λ (b : Bool). (rows.step_ways op (site c o) k (target c r) b).value d) (sym to)))

pub step_postfix : (c : Context) (v : ValueTree) (op : Op) (o : Pos) (k : IntType) (r : PlaceTree) (prefix : Bool) (s : Site) (g : Given ℕ) (d : DraftOf ℕ)
    → v ≡ tree.step op o k r prefix → s ≡ site c o → prefix ≡ false → g ≡ (rows.after_ways op s k (target c r)).value d → g ≡ (ways c v).value d
step_postfix c v op o k r prefix s g d is es to h =
    value_by c v _ _ d g is (ways_step c op o k r prefix)
    (h ∙ (ap (λ (z : Site). (rows.after_ways op z k (target c r)).value d) es ∙ ap (λ (b : Bool). (rows.step_ways op (site c o) k (target c r) b).value d) (sym to)))

pub step_unused : (c : Context) (v : ValueTree) (op : Op) (o : Pos) (k : IntType) (r : PlaceTree) (prefix : Bool) (s : Site) (d0 d1 : DraftOf ℕ)
    → v ≡ tree.step op o k r prefix → s ≡ site c o → d1 ≡ (rows.after_ways op s k (target c r)).unused d0 → d1 ≡ (ways c v).unused d0
step_unused c v op o k r prefix s d0 d1 is es h =
    unused_by c v _ _ d0 d1 is (ways_step c op o k r prefix)
    (h ∙ (ap (λ (z : Site). (rows.after_ways op z k (target c r)).unused d0) es ∙ step_unused_is op (site c o) k (target c r) prefix d0))

pub loads_for_step : (c : Context) (t : IntType) (s : Site) (a : ArrayOf ℕ) (i : ValueTree) (x y : TreeOf ℕ) (d0 d1 : DraftOf ℕ)
    → (x, d1) ≡ rows.held Weak (shape_of i) (type_of i) ((ways c i).value d0)
    → y ≡ rows.one_tree
    → rows.loaded_after t s a (Fixed (pos 1)) Int (rows.paired x y d1) ≡ rows.loaded t s a (lowered c i) rows.one d0
loads_for_step c t s a i x y d0 d1 first one = ap (rows.loaded_after t s a (Fixed (pos 1)) Int) (pair_with_one c i x y d0 d1 first one)

-- ---- choices

and_chosen : (c : Context) (a b : ValueTree) (p q n : ℕ) (d1 d2 d3 d4 d5 : DraftOf ℕ)
    → n ≡ d1.points → d2 ≡ fresh 1 d1 → d3 ≡ (ways c a).choice n q d2 → d4 ≡ at n d3 → d5 ≡ (ways c b).choice p q d4
    → d5 ≡ rows.and_choice (ways c a) (ways c b) p q d1
and_chosen c a b p q n d1 d2 d3 d4 d5 en e2 e3 e4 e5 =
    e5 ∙ (ap ((ways c b).choice p q) (e4 ∙ (ap (at n) (e3 ∙ ap ((ways c a).choice n q) e2) ∙ ap (λ (k : ℕ). at k ((ways c a).choice k q (fresh 1 d1))) en)))

or_chosen : (c : Context) (a b : ValueTree) (p q n : ℕ) (d1 d2 d3 d4 d5 : DraftOf ℕ)
    → n ≡ d1.points → d2 ≡ fresh 1 d1 → d3 ≡ (ways c a).choice p n d2 → d4 ≡ at n d3 → d5 ≡ (ways c b).choice p q d4
    → d5 ≡ rows.or_choice (ways c a) (ways c b) p q d1
or_chosen c a b p q n d1 d2 d3 d4 d5 en e2 e3 e4 e5 =
    e5 ∙ (ap ((ways c b).choice p q) (e4 ∙ (ap (at n) (e3 ∙ ap ((ways c a).choice p n) e2) ∙ ap (λ (k : ℕ). at k ((ways c a).choice p k (fresh 1 d1))) en)))

pub and_choice : (c : Context) (v a b : ValueTree) (p q n : ℕ) (d1 d2 d3 d4 d5 : DraftOf ℕ)
    → v ≡ tree.and a b → n ≡ d1.points → d2 ≡ fresh 1 d1 → d3 ≡ (ways c a).choice n q d2 → d4 ≡ at n d3 → d5 ≡ (ways c b).choice p q d4
    → d5 ≡ (ways c v).choice p q d1
and_choice c v a b p q n d1 d2 d3 d4 d5 is en e2 e3 e4 e5 =
    choice_by c v _ _ p q d1 d5 is (ways_and c a b) (and_chosen c a b p q n d1 d2 d3 d4 d5 en e2 e3 e4 e5)

pub or_choice : (c : Context) (v a b : ValueTree) (p q n : ℕ) (d1 d2 d3 d4 d5 : DraftOf ℕ)
    → v ≡ tree.or a b → n ≡ d1.points → d2 ≡ fresh 1 d1 → d3 ≡ (ways c a).choice p n d2 → d4 ≡ at n d3 → d5 ≡ (ways c b).choice p q d4
    → d5 ≡ (ways c v).choice p q d1
or_choice c v a b p q n d1 d2 d3 d4 d5 is en e2 e3 e4 e5 =
    choice_by c v _ _ p q d1 d5 is (ways_or c a b) (or_chosen c a b p q n d1 d2 d3 d4 d5 en e2 e3 e4 e5)

abbrev not_chosen : rows.Operand ℕ → (f : DraftOf ℕ → Given ℕ) (p q : ℕ) → DraftOf ℕ → Bool → DraftOf ℕ
not_chosen e f p q d b = if b then e.ways.choice q p d else rows.guards p q (f d)

-- the choice of `!a` is that of a, exchanged
pub not_choice : (c : Context) (v : ValueTree) (op : Op) (o : Pos) (t : IntType) (a : ValueTree) (p q : ℕ) (d e : DraftOf ℕ)
    → v ≡ tree.unary op o t a → is_not op ≡ true → e ≡ (ways c a).choice q p d → e ≡ (ways c v).choice p q d
not_choice c v op o t a p q d e is to h =
    choice_by c v _ _ p q d e is (ways_unary c op o t a)
    (h ∙ ap (not_chosen (lowered c a) (rows.unary_value op (site c o) t (lowered c a)) p q d) (sym to))

-- the truth of a choice as a value
truth : (choice : (p q : ℕ) → DraftOf ℕ → DraftOf ℕ) (j : Join) (d0 : Draft) (d1 d2 : DraftOf ℕ)
    → IsJoin j (drafted d0).points (drafted d0).variables → d1 ≡ with_temporary Int (fresh 3 (drafted d0)) → d2 ≡ choice j.if_true j.if_false d1
    → rows.truths j.if_true j.if_false j.behind j.variable d2 ≡ rows.truth_value choice (drafted d0)
unfolding drafted
truth choice j d0 d1 d2 is e1 e2 =
    ap (rows.truths j.if_true j.if_false j.behind j.variable) (e2 ∙ ap (choice j.if_true j.if_false) e1)
    ∙ (ap (λ (p : ℕ). rows.truths p j.if_false j.behind j.variable (choice p j.if_false (with_temporary Int (fresh 3 (drafted d0))))) is.if_true
    ∙ (ap (λ (q : ℕ). rows.truths (drafted d0).points q j.behind j.variable (choice (drafted d0).points q (with_temporary Int (fresh 3 (drafted d0))))) is.if_false
    ∙ (ap (λ (r : ℕ). rows.truths (drafted d0).points ((drafted d0).points + 1) r j.variable (choice (drafted d0).points ((drafted d0).points + 1) (with_temporary Int (fresh 3 (drafted d0))))) is.behind
    ∙ ap (λ (x : ℕ). rows.truths (drafted d0).points ((drafted d0).points + 1) ((drafted d0).points + 2) x (choice (drafted d0).points ((drafted d0).points + 1) (with_temporary Int (fresh 3 (drafted d0))))) is.variable_is)))

pub and_value : (c : Context) (v a b : ValueTree) (j : Join) (n : ℕ) (g : Given ℕ) (d0 : Draft) (d1 d2 d3 d4 d5 : DraftOf ℕ)
    → v ≡ tree.and a b → IsJoin j (drafted d0).points (drafted d0).variables → d1 ≡ with_temporary Int (fresh 3 (drafted d0))
    → n ≡ d1.points → d2 ≡ fresh 1 d1 → d3 ≡ (ways c a).choice n j.if_false d2 → d4 ≡ at n d3 → d5 ≡ (ways c b).choice j.if_true j.if_false d4
    → g ≡ rows.truths j.if_true j.if_false j.behind j.variable d5
    → g ≡ (ways c v).value (drafted d0)
and_value c v a b j n g d0 d1 d2 d3 d4 d5 is join e1 en e2 e3 e4 e5 h =
    value_by c v _ _ (drafted d0) g is (ways_and c a b)
    (h ∙ truth (rows.and_choice (ways c a) (ways c b)) j d0 d1 d5 join e1 (and_chosen c a b j.if_true j.if_false n d1 d2 d3 d4 d5 en e2 e3 e4 e5))

pub or_value : (c : Context) (v a b : ValueTree) (j : Join) (n : ℕ) (g : Given ℕ) (d0 : Draft) (d1 d2 d3 d4 d5 : DraftOf ℕ)
    → v ≡ tree.or a b → IsJoin j (drafted d0).points (drafted d0).variables → d1 ≡ with_temporary Int (fresh 3 (drafted d0))
    → n ≡ d1.points → d2 ≡ fresh 1 d1 → d3 ≡ (ways c a).choice j.if_true n d2 → d4 ≡ at n d3 → d5 ≡ (ways c b).choice j.if_true j.if_false d4
    → g ≡ rows.truths j.if_true j.if_false j.behind j.variable d5
    → g ≡ (ways c v).value (drafted d0)
or_value c v a b j n g d0 d1 d2 d3 d4 d5 is join e1 en e2 e3 e4 e5 h =
    value_by c v _ _ (drafted d0) g is (ways_or c a b)
    (h ∙ truth (rows.or_choice (ways c a) (ways c b)) j d0 d1 d5 join e1 (or_chosen c a b j.if_true j.if_false n d1 d2 d3 d4 d5 en e2 e3 e4 e5))

-- two trees joined, from the points and the temporary that were made for them
abbrev joins : (choice : (p q : ℕ) → DraftOf ℕ → DraftOf ℕ) (a b : DraftOf ℕ → Given ℕ) (p q behind x : ℕ) → DraftOf ℕ → Given ℕ
joins choice a b p q r x d = rows.kept_beside x (rows.set_between x r r (b (rows.set_between x r q (a (at p (choice p q d))))))

joins_by : (choice : (p q : ℕ) → DraftOf ℕ → DraftOf ℕ) (a b : DraftOf ℕ → Given ℕ) (p q r x : ℕ) (u v : TreeOf ℕ) (d1 d2 d3 d4 d5 d6 : DraftOf ℕ)
    → d2 ≡ choice p q d1 → d3 ≡ at p d2 → (u, d4) ≡ a d3 → d5 ≡ rows.set_between x r q (u, d4) → (v, d6) ≡ b d5
    → rows.kept_beside x (rows.set_between x r r (v, d6)) ≡ joins choice a b p q r x d1
joins_by choice a b p q r x u v d1 d2 d3 d4 d5 d6 e2 e3 e4 e5 e6 =
    ap (λ (g : Given ℕ). rows.kept_beside x (rows.set_between x r r g))
    (e6 ∙ ap b (e5 ∙ ap (rows.set_between x r q) (e4 ∙ ap a (e3 ∙ ap (at p) e2))))

joined_is : (t : IntType) (choice : (p q : ℕ) → DraftOf ℕ → DraftOf ℕ) (a b : DraftOf ℕ → Given ℕ) (j : Join) (u v : TreeOf ℕ) (d0 : Draft) (d1 d2 d3 d4 d5 d6 : DraftOf ℕ)
    → IsJoin j (drafted d0).points (drafted d0).variables → d1 ≡ with_temporary t (fresh 3 (drafted d0))
    → d2 ≡ choice j.if_true j.if_false d1 → d3 ≡ at j.if_true d2 → (u, d4) ≡ a d3 → d5 ≡ rows.set_between j.variable j.behind j.if_false (u, d4) → (v, d6) ≡ b d5
    → rows.kept_beside j.variable (rows.set_between j.variable j.behind j.behind (v, d6)) ≡ rows.joined t choice a b (drafted d0)
unfolding drafted
joined_is t choice a b j u v d0 d1 d2 d3 d4 d5 d6 is e1 e2 e3 e4 e5 e6 =
    joins_by choice a b j.if_true j.if_false j.behind j.variable u v d1 d2 d3 d4 d5 d6 e2 e3 e4 e5 e6
    ∙ (ap (joins choice a b j.if_true j.if_false j.behind j.variable) e1
    ∙ (ap (λ (p : ℕ). joins choice a b p j.if_false j.behind j.variable (with_temporary t (fresh 3 (drafted d0)))) is.if_true
    ∙ (ap (λ (q : ℕ). joins choice a b (drafted d0).points q j.behind j.variable (with_temporary t (fresh 3 (drafted d0)))) is.if_false
    ∙ (ap (λ (r : ℕ). joins choice a b (drafted d0).points ((drafted d0).points + 1) r j.variable (with_temporary t (fresh 3 (drafted d0)))) is.behind
    ∙ ap (λ (x : ℕ). joins choice a b (drafted d0).points ((drafted d0).points + 1) ((drafted d0).points + 2) x (with_temporary t (fresh 3 (drafted d0)))) is.variable_is))))

pub conditional : (c : Context) (v0 : ValueTree) (t : IntType) (e a b : ValueTree) (j : Join) (u v : TreeOf ℕ) (g : Given ℕ) (d0 : Draft) (d1 d2 d3 d4 d5 d6 : DraftOf ℕ)
    → v0 ≡ tree.conditional t e a b → IsJoin j (drafted d0).points (drafted d0).variables → d1 ≡ with_temporary t (fresh 3 (drafted d0))
    → d2 ≡ (ways c e).choice j.if_true j.if_false d1 → d3 ≡ at j.if_true d2
    → (u, d4) ≡ rows.convert_after (type_of a) t ((ways c a).value d3)
    → d5 ≡ rows.set_between j.variable j.behind j.if_false (u, d4)
    → (v, d6) ≡ rows.convert_after (type_of b) t ((ways c b).value d5)
    → g ≡ rows.kept_beside j.variable (rows.set_between j.variable j.behind j.behind (v, d6))
    → g ≡ (ways c v0).value (drafted d0)
conditional c v0 t e a b j u v g d0 d1 d2 d3 d4 d5 d6 is join e1 e2 e3 e4 e5 e6 h =
    value_by c v0 _ _ (drafted d0) g is (ways_conditional c t e a b)
    (h ∙ joined_is t (ways c e).choice (rows.convert_value t (lowered c a)) (rows.convert_value t (lowered c b)) j u v d0 d1 d2 d3 d4 d5 d6 join e1 e2 e3 e4 e5 e6)

-- ---- conditions that hold from here on

pub assumed_as_it_is : (e : rows.Operand ℕ) (n : ℕ) (d0 d1 d2 d3 : DraftOf ℕ)
    → represents Int e.int_type ≡ true → n ≡ d0.points → d1 ≡ fresh 1 d0 → d2 ≡ e.ways.choice n nowhere d1 → d3 ≡ at n d2
    → d3 ≡ rows.assumed (rows.as_int e) d0
assumed_as_it_is e n d0 d1 d2 d3 is en e1 e2 e3 =
    e3 ∙ (ap (at n) (e2 ∙ ap (e.ways.choice n nowhere) e1) ∙ (ap (λ (k : ℕ). at k (e.ways.choice k nowhere (fresh 1 d0))) en
    ∙ ap (λ (b : Bool). rows.assumed (if b then e.ways else rows.convert_ways Int e) d0) (sym is)))

pub assumed_converted : (e : rows.Operand ℕ) (n : ℕ) (x : TreeOf ℕ) (d0 d1 d2 d3 d4 : DraftOf ℕ)
    → represents Int e.int_type ≡ false → n ≡ d0.points → d1 ≡ fresh 1 d0 → (x, d2) ≡ rows.convert_after e.int_type Int (e.ways.value d1) → d3 ≡ rows.guards n nowhere (x, d2) → d4 ≡ at n d3
    → d4 ≡ rows.assumed (rows.as_int e) d0
assumed_converted e n x d0 d1 d2 d3 d4 is en e1 e2 e3 e4 =
    e4 ∙ (ap (at n) (e3 ∙ ap (rows.guards n nowhere) (e2 ∙ ap (λ (d : DraftOf ℕ). rows.convert_after e.int_type Int (e.ways.value d)) e1))
    ∙ (ap (λ (k : ℕ). at k (rows.guards k nowhere (rows.convert_after e.int_type Int (e.ways.value (fresh 1 d0))))) en
    ∙ ap (λ (b : Bool). rows.assumed (if b then e.ways else rows.convert_ways Int e) d0) (sym is)))

-- ---- after another that isn't used

pub then_value : (c : Context) (v : ValueTree) (f : EffectTree) (w : ValueTree) (g : Given ℕ) (d0 d1 : DraftOf ℕ)
    → v ≡ tree.then_value f w → d1 ≡ performed c f d0 → g ≡ (ways c w).value d1 → g ≡ (ways c v).value d0
then_value c v f w g d0 d1 is e1 e2 = value_by c v _ _ d0 g is (ways_then c f w) (e2 ∙ ap (ways c w).value e1)

pub then_choice : (c : Context) (v : ValueTree) (f : EffectTree) (w : ValueTree) (p q : ℕ) (d0 d1 d2 : DraftOf ℕ)
    → v ≡ tree.then_value f w → d1 ≡ performed c f d0 → d2 ≡ (ways c w).choice p q d1 → d2 ≡ (ways c v).choice p q d0
then_choice c v f w p q d0 d1 d2 is e1 e2 = choice_by c v _ _ p q d0 d2 is (ways_then c f w) (e2 ∙ ap ((ways c w).choice p q) e1)

pub then_unused : (c : Context) (v : ValueTree) (f : EffectTree) (w : ValueTree) (d0 d1 d2 : DraftOf ℕ)
    → v ≡ tree.then_value f w → d1 ≡ performed c f d0 → d2 ≡ (ways c w).unused d1 → d2 ≡ (ways c v).unused d0
then_unused c v f w d0 d1 d2 is e1 e2 = unused_by c v _ _ d0 d2 is (ways_then c f w) (e2 ∙ ap (ways c w).unused e1)

-- ---- effects

pub discarded : (c : Context) (v : EffectTree) (a : ValueTree) (d0 d1 : DraftOf ℕ) → v ≡ tree.unused a → d1 ≡ (ways c a).unused d0 → d1 ≡ performed c v d0
discarded c v a d0 d1 is h = effect_by c v _ d0 d1 _ is (performed_unused c a d0) h

pub run : (c : Context) (v : EffectTree) (f n : ℕ) (p : Pos) (us es : List Value) (x : ℕ) (d0 d1 : DraftOf ℕ)
    → v ≡ tree.run f n p (value_trees es) → us ≡ es → (graph.variable x, d1) ≡ rows.called c f n (rows.types_of (value_trees us)) (passed c (value_trees us)) d0
    → d1 ≡ performed c v d0
run c v f n p us es x d0 d1 is same h =
    effect_by c v _ d0 d1 _ is (performed_run c f n p (value_trees es) d0)
    (ap (λ (g : Given ℕ). g.1) (h ∙ ap (λ (vs : List Value). rows.called c f n (rows.types_of (value_trees vs)) (passed c (value_trees vs)) d0) same))

pub assume : (c : Context) (v : EffectTree) (p : Pos) (a : ValueTree) (d0 d1 : DraftOf ℕ)
    → v ≡ tree.assume p a → d1 ≡ rows.assumed (rows.as_int (lowered c a)) d0 → d1 ≡ performed c v d0
assume c v p a d0 d1 is h = effect_by c v _ d0 d1 _ is (performed_assume c p a d0) h

pub assert : (c : Context) (v : EffectTree) (p : Pos) (a : ValueTree) (s : Site) (u : IntType) (y : TreeOf ℕ) (d0 d1 d2 : DraftOf ℕ)
    → v ≡ tree.assert p a → s ≡ site c p → u ≡ type_of a → (y, d1) ≡ (ways c a).value d0 → d2 ≡ rows.check_after s u (y, d1)
    → d2 ≡ performed c v d0
assert c v p a s u y d0 d1 d2 is es eu e h =
    effect_by c v _ d0 d2 _ is (performed_assert c p a d0)
    (h
    ∙ (ap (λ (z : Site). rows.check_after z u (y, d1)) es
    ∙ (ap (λ (z : IntType). rows.check_after (site c p) z (y, d1)) eu ∙ ap (rows.check_after (site c p) (type_of a)) e)))

pub abort : (c : Context) (v : EffectTree) (p : Pos) (d0 d1 : DraftOf ℕ) → v ≡ tree.abort p → d1 ≡ rows.assumed rows.zero_ways d0 → d1 ≡ performed c v d0
abort c v p d0 d1 is h = effect_by c v _ d0 d1 _ is (performed_abort c p d0) h

pub then_effect : (c : Context) (v a b : EffectTree) (d0 d1 d2 : DraftOf ℕ) → v ≡ tree.then_effect a b → d1 ≡ performed c a d0 → d2 ≡ performed c b d1 → d2 ≡ performed c v d0
then_effect c v a b d0 d1 d2 is e1 e2 = effect_by c v _ d0 d2 _ is (performed_then c a b d0) (e2 ∙ ap (performed c b) e1)
