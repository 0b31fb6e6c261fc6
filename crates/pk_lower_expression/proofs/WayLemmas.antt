-- How each form is lowered, by one step of the definition; and which forms decide by their tree, or drop it.
use Rattle.std.proofs.Common.{◌≡◌, ℕ, Bool, true, false, if◌then◌else◌, refl, sym, ◌∙◌, ap, subst}
use Rattle.std.specs.Prelude.{ℤ}
use Rattle.pk_ctypes.specs.declared.places.Pos.{Pos}
use Rattle.pk_ctypes.specs.declared.types.IntType.{IntType}
use Rattle.pk_ctypes.specs.declared.types.Op.{Op}
use Rattle.pk_ctypes.specs.Operators.{is_not}
use Rattle.pk_typed.specs.declared.values.Variable.{Variable}
use Rattle.pk_typed.specs.Trees.{PlaceTree, ValueTree, EffectTree, ValueTrees}
use Rattle.pk_typed.specs.Trees as tree
use Rattle.pk_typed.specs.Types.{type_of}
use Rattle.pk_graph.specs.declared.trees.Site.{Site}
use Rattle.pk_graph.specs.Trees as graph
use Rattle.pk_draft.specs.Drafts.{DraftOf, Given}
use Rattle.pk_lower_row.specs.declared.shapes.Shape.{Shape}
use Rattle.pk_lower_row.specs.declared.shapes.Shape.TheVariants.{Fixed, Temporary, Named}
use Rattle.pk_lower_row.specs.Shapes.{shape_of}
use Rattle.pk_lower_row.specs.Contexts.{Context, site, variable_of, array_of}
use Rattle.pk_lower_row.specs.Rows as rows
use Rattle.pk_lower_expression.specs.Expressions.{passed, performed, target, ways}

abbrev pub lowered : Context → ValueTree → rows.Operand ℕ
lowered c v = rows.operand v (ways c v)

-- ---- places

pub target_scalar : (c : Context) (t : IntType) (x : Variable) → target {V = ℕ} c (tree.scalar t x) ≡ rows.scalar t (variable_of c x)
unfolding target
target_scalar c t x = refl

pub target_element : (c : Context) (t : IntType) (x : Variable) (p : Pos) (i : ValueTree) → target c (tree.element t x p i) ≡ rows.element t (site c p) (array_of c x) (lowered c i)
unfolding target
target_element c t x p i = refl

-- ---- values

pub ways_constant : (c : Context) (t : IntType) (z : ℤ) → ways c (tree.constant t z) ≡ rows.by_value {V = ℕ} (Fixed z) t (λ d. (graph.constant t z, d))
unfolding ways
ways_constant c t z = refl

pub ways_read : (c : Context) (r : PlaceTree) → ways c (tree.read r) ≡ rows.read_ways {V = ℕ} (target c r)
unfolding ways
ways_read c r = refl

pub ways_assign : (c : Context) (o : Pos) (r : PlaceTree) (e : ValueTree) → ways c (tree.assign o r e) ≡ rows.assign_ways (target c r) (lowered c e)
unfolding ways
ways_assign c o r e = refl

pub ways_update : (c : Context) (op : Op) (o : Pos) (k : IntType) (r : PlaceTree) (e : ValueTree) → ways c (tree.update op o k r e) ≡ rows.update_ways op (site c o) k (target c r) (lowered c e)
unfolding ways
ways_update c op o k r e = refl

pub ways_step : (c : Context) (op : Op) (o : Pos) (k : IntType) (r : PlaceTree) (prefix : Bool) → ways c (tree.step op o k r prefix) ≡ rows.step_ways {V = ℕ} op (site c o) k (target c r) prefix
unfolding ways
ways_step c op o k r prefix = refl

pub ways_call : (c : Context) (t : IntType) (f n : ℕ) (p : Pos) (es : ValueTrees) → ways c (tree.call t f n p es) ≡ rows.by_value {V = ℕ} Named t (rows.called c f n (rows.types_of es) (passed c es))
unfolding ways
ways_call c t f n p es = refl

pub ways_any : (c : Context) (t : IntType) (p : Pos) → ways c (tree.any t p) ≡ rows.by_value {V = ℕ} Temporary t (rows.any_value t)
unfolding ways
ways_any c t p = refl

pub ways_unary : (c : Context) (op : Op) (p : Pos) (t : IntType) (e : ValueTree) → ways c (tree.unary op p t e) ≡ rows.unary_ways op (site c p) t (lowered c e)
unfolding ways
ways_unary c op p t e = refl

pub ways_convert : (c : Context) (t : IntType) (e : ValueTree) → ways c (tree.convert t e) ≡ rows.convert_ways t (lowered c e)
unfolding ways
ways_convert c t e = refl

pub ways_binary : (c : Context) (op : Op) (p : Pos) (t : IntType) (a b : ValueTree) → ways c (tree.binary op p t a b) ≡ rows.binary_ways op (site c p) t (lowered c a) (lowered c b)
unfolding ways
ways_binary c op p t a b = refl

pub ways_and : (c : Context) (a b : ValueTree) → ways c (tree.and a b) ≡ rows.truth_ways {V = ℕ} (rows.and_choice (ways c a) (ways c b))
unfolding ways
ways_and c a b = refl

pub ways_or : (c : Context) (a b : ValueTree) → ways c (tree.or a b) ≡ rows.truth_ways {V = ℕ} (rows.or_choice (ways c a) (ways c b))
unfolding ways
ways_or c a b = refl

pub ways_conditional : (c : Context) (t : IntType) (e a b : ValueTree) → ways c (tree.conditional t e a b) ≡ rows.conditional_ways {V = ℕ} t (ways c e) (lowered c a) (lowered c b)
unfolding ways
ways_conditional c t e a b = refl

pub ways_then : (c : Context) (f : EffectTree) (v : ValueTree) → ways c (tree.then_value f v) ≡ rows.then_ways {V = ℕ} (performed c f) (ways c v)
unfolding ways
ways_then c f v = refl

-- ---- effects

pub performed_unused : (c : Context) (v : ValueTree) (d : DraftOf ℕ) → performed c (tree.unused v) d ≡ (ways c v).unused d
unfolding performed
performed_unused c v d = refl

pub performed_run : (c : Context) (f n : ℕ) (p : Pos) (es : ValueTrees) (d : DraftOf ℕ) → performed c (tree.run f n p es) d ≡ (rows.called c f n (rows.types_of es) (passed c es) d).1
unfolding performed
performed_run c f n p es d = refl

pub performed_assume : (c : Context) (p : Pos) (v : ValueTree) (d : DraftOf ℕ) → performed c (tree.assume p v) d ≡ rows.assumed (rows.as_int (lowered c v)) d
unfolding performed
performed_assume c p v d = refl

pub performed_assert : (c : Context) (p : Pos) (v : ValueTree) (d : DraftOf ℕ) → performed c (tree.assert p v) d ≡ rows.check_after (site c p) (type_of v) ((ways c v).value d)
unfolding performed
performed_assert c p v d = refl

pub performed_abort : (c : Context) (p : Pos) (d : DraftOf ℕ) → performed c (tree.abort p) d ≡ rows.assumed {V = ℕ} rows.zero_ways d
unfolding performed
performed_abort c p d = refl

pub performed_then : (c : Context) (a b : EffectTree) (d : DraftOf ℕ) → performed c (tree.then_effect a b) d ≡ performed c b (performed c a d)
unfolding performed
performed_then c a b d = refl

-- ---- an expression that decides by its tree

unfoldable pub Decides : rows.Ways ℕ → Type 0
Decides w = (p q : ℕ) (d : DraftOf ℕ) → rows.guards p q (w.value d) ≡ w.choice p q d

pub decision : (w : rows.Ways ℕ) (p q : ℕ) (d : DraftOf ℕ) → Decides w → rows.guards p q (w.value d) ≡ w.choice p q d
unfolding Decides
decision w p q d h = h p q d

both_decides : (f : DraftOf ℕ → Given ℕ) (g : DraftOf ℕ → DraftOf ℕ) → Decides (rows.by_both f g)
unfolding Decides
both_decides f g p q d = refl

read_decides : (t : rows.Target ℕ) → Decides (rows.read_ways t)
read_decides (rows.scalar t x) = both_decides _ _
read_decides (rows.element t s a i) = both_decides _ _

assign_decides : (t : rows.Target ℕ) (e : rows.Operand ℕ) → Decides (rows.assign_ways t e)
assign_decides (rows.scalar t x) e = both_decides _ _
assign_decides (rows.element t s a i) e = both_decides _ _

update_decides : (op : Op) (o : Site) (k : IntType) (t : rows.Target ℕ) (e : rows.Operand ℕ) → Decides (rows.update_ways op o k t e)
update_decides op o k (rows.scalar t x) e = both_decides _ _
update_decides op o k (rows.element t s a i) e = both_decides _ _

after_decides : (op : Op) (o : Site) (k : IntType) (t : rows.Target ℕ) → Decides (rows.after_ways op o k t)
after_decides op o k (rows.scalar t x) = both_decides _ _
after_decides op o k (rows.element t s a i) = both_decides _ _

step_decides : (op : Op) (o : Site) (k : IntType) (t : rows.Target ℕ) (prefix : Bool) → Decides (rows.step_ways op o k t prefix)
step_decides op o k t true = update_decides op o k t rows.one
step_decides op o k t false = after_decides op o k t

-- by what an expression is, and the step of its form
decides_by : (c : Context) (v w : ValueTree) (r : rows.Ways ℕ) → v ≡ w → ways c w ≡ r → Decides r → Decides (ways c v)
decides_by c v w r is step h = subst Decides (sym (ap (ways c) is ∙ step)) h

pub decides_constant : (c : Context) (v : ValueTree) (t : IntType) (z : ℤ) → v ≡ tree.constant t z → Decides (ways c v)
decides_constant c v t z is = decides_by c v _ _ is (ways_constant c t z) (both_decides _ _)

pub decides_read : (c : Context) (v : ValueTree) (r : PlaceTree) → v ≡ tree.read r → Decides (ways c v)
decides_read c v r is = decides_by c v _ _ is (ways_read c r) (read_decides (target c r))

pub decides_assign : (c : Context) (v : ValueTree) (o : Pos) (r : PlaceTree) (e : ValueTree) → v ≡ tree.assign o r e → Decides (ways c v)
decides_assign c v o r e is = decides_by c v _ _ is (ways_assign c o r e) (assign_decides (target c r) (lowered c e))

pub decides_update : (c : Context) (v : ValueTree) (op : Op) (o : Pos) (k : IntType) (r : PlaceTree) (e : ValueTree) → v ≡ tree.update op o k r e → Decides (ways c v)
decides_update c v op o k r e is = decides_by c v _ _ is (ways_update c op o k r e) (update_decides op (site c o) k (target c r) (lowered c e))

pub decides_step : (c : Context) (v : ValueTree) (op : Op) (o : Pos) (k : IntType) (r : PlaceTree) (prefix : Bool) → v ≡ tree.step op o k r prefix → Decides (ways c v)
decides_step c v op o k r prefix is = decides_by c v _ _ is (ways_step c op o k r prefix) (step_decides op (site c o) k (target c r) prefix)

pub decides_call : (c : Context) (v : ValueTree) (t : IntType) (f n : ℕ) (p : Pos) (es : ValueTrees) → v ≡ tree.call t f n p es → Decides (ways c v)
decides_call c v t f n p es is = decides_by c v _ _ is (ways_call c t f n p es) (both_decides _ _)

pub decides_any : (c : Context) (v : ValueTree) (t : IntType) (p : Pos) → v ≡ tree.any t p → Decides (ways c v)
decides_any c v t p is = decides_by c v _ _ is (ways_any c t p) (both_decides _ _)

pub decides_convert : (c : Context) (v : ValueTree) (t : IntType) (e : ValueTree) → v ≡ tree.convert t e → Decides (ways c v)
decides_convert c v t e is = decides_by c v _ _ is (ways_convert c t e) (both_decides _ _)

pub decides_binary : (c : Context) (v : ValueTree) (op : Op) (p : Pos) (t : IntType) (a b : ValueTree) → v ≡ tree.binary op p t a b → Decides (ways c v)
decides_binary c v op p t a b is = decides_by c v _ _ is (ways_binary c op p t a b) (both_decides _ _)

pub decides_conditional : (c : Context) (v : ValueTree) (t : IntType) (e a b : ValueTree) → v ≡ tree.conditional t e a b → Decides (ways c v)
decides_conditional c v t e a b is = decides_by c v _ _ is (ways_conditional c t e a b) (both_decides _ _)

-- an operator that isn't `!`
abbrev chosen_if : Bool → (exchanged : (p q : ℕ) → DraftOf ℕ → DraftOf ℕ) → (DraftOf ℕ → Given ℕ) → (p q : ℕ) → DraftOf ℕ → DraftOf ℕ
chosen_if b choice f p q d = if b then choice q p d else rows.guards p q (f d)

unary_decides : (b : Bool) (s : Shape) (t : IntType) (f : DraftOf ℕ → Given ℕ) (choice : (p q : ℕ) → DraftOf ℕ → DraftOf ℕ) → b ≡ false → Decides (rows.by_choice s t f (chosen_if b choice f))
unfolding Decides
unary_decides b s t f choice is p q d = ap (λ (x : Bool). if x then choice q p d else rows.guards p q (f d)) (sym is)

pub decides_unary : (c : Context) (v : ValueTree) (op : Op) (p : Pos) (t : IntType) (e : ValueTree) → v ≡ tree.unary op p t e → is_not op ≡ false → Decides (ways c v)
decides_unary c v op p t e is h = decides_by c v _ _ is (ways_unary c op p t e) (unary_decides (is_not op) _ _ (rows.unary_value op (site c p) t (lowered c e)) (ways c e).choice h)

-- ---- an expression whose tree is dropped

unfoldable pub Drops : Shape → IntType → rows.Ways ℕ → Type 0
Drops s t w = (d : DraftOf ℕ) → rows.dropped s t (w.value d) ≡ w.unused d

pub drop_of : (c : Context) (v : ValueTree) (d : DraftOf ℕ) → Drops (shape_of v) (type_of v) (ways c v) → rows.dropped (shape_of v) (type_of v) ((ways c v).value d) ≡ (ways c v).unused d
unfolding Drops
drop_of c v d h = h d

value_drops : (s : Shape) (t : IntType) (f : DraftOf ℕ → Given ℕ) → Drops s t (rows.by_value s t f)
unfolding Drops
value_drops s t f d = refl

choice_drops : (s : Shape) (t : IntType) (f : DraftOf ℕ → Given ℕ) (choice : (p q : ℕ) → DraftOf ℕ → DraftOf ℕ) → Drops s t (rows.by_choice s t f choice)
unfolding Drops
choice_drops s t f choice d = refl

drops_by : (c : Context) (v w : ValueTree) (s : Shape) (t : IntType) (r : rows.Ways ℕ) → v ≡ w → shape_of w ≡ s → type_of w ≡ t → ways c w ≡ r → Drops s t r → Drops (shape_of v) (type_of v) (ways c v)
drops_by c v w s t r is shape type step h =
    subst (λ (x : ValueTree). Drops (shape_of x) (type_of x) (ways c x)) (sym is)
    (subst (λ (x : rows.Ways ℕ). Drops (shape_of w) (type_of w) x) (sym step)
    (subst (λ (x : Shape). Drops x (type_of w) r) (sym shape) (subst (λ (x : IntType). Drops s x r) (sym type) h)))

pub drops_constant : (c : Context) (v : ValueTree) (t : IntType) (z : ℤ) → v ≡ tree.constant t z → Drops (shape_of v) (type_of v) (ways c v)
unfolding type_of
drops_constant c v t z is = drops_by c v _ _ _ _ is refl refl (ways_constant c t z) (value_drops _ _ _)

pub drops_scalar : (c : Context) (v : ValueTree) (t : IntType) (x : Variable) → v ≡ tree.read (tree.scalar t x) → Drops (shape_of v) (type_of v) (ways c v)
unfolding type_of
drops_scalar c v t x is = drops_by c v _ _ _ _ is refl refl (ways_read c (tree.scalar t x) ∙ ap (rows.read_ways {V = ℕ}) (target_scalar c t x)) (value_drops _ _ _)

pub drops_element : (c : Context) (v : ValueTree) (t : IntType) (x : Variable) (p : Pos) (i : ValueTree) → v ≡ tree.read (tree.element t x p i) → Drops (shape_of v) (type_of v) (ways c v)
unfolding type_of
drops_element c v t x p i is = drops_by c v _ _ _ _ is refl refl (ways_read c (tree.element t x p i) ∙ ap (rows.read_ways {V = ℕ}) (target_element c t x p i)) (value_drops _ _ _)

pub drops_read : (c : Context) (v : ValueTree) (r : PlaceTree) → v ≡ tree.read r → Drops (shape_of v) (type_of v) (ways c v)
drops_read c v (tree.scalar t x) is = drops_scalar c v t x is
drops_read c v (tree.element t x p i) is = drops_element c v t x p i is

pub drops_assign : (c : Context) (v : ValueTree) (o : Pos) (r : PlaceTree) (e : ValueTree) (t : IntType) (x : Variable) → v ≡ tree.assign o r e → r ≡ tree.scalar t x → Drops (shape_of v) (type_of v) (ways c v)
unfolding type_of
drops_assign c v o r e t x is place =
    drops_by c v _ _ _ _ (is ∙ ap (λ (z : PlaceTree). tree.assign o z e) place) refl refl
    (ways_assign c o (tree.scalar t x) e ∙ ap (λ (z : rows.Target ℕ). rows.assign_ways z (lowered c e)) (target_scalar c t x)) (value_drops _ _ _)

pub drops_update : (c : Context) (v : ValueTree) (op : Op) (o : Pos) (k : IntType) (r : PlaceTree) (e : ValueTree) (t : IntType) (x : Variable) → v ≡ tree.update op o k r e → r ≡ tree.scalar t x → Drops (shape_of v) (type_of v) (ways c v)
unfolding type_of
drops_update c v op o k r e t x is place =
    drops_by c v _ _ _ _ (is ∙ ap (λ (z : PlaceTree). tree.update op o k z e) place) refl refl
    (ways_update c op o k (tree.scalar t x) e ∙ ap (λ (z : rows.Target ℕ). rows.update_ways op (site c o) k z (lowered c e)) (target_scalar c t x)) (value_drops _ _ _)

pub drops_call : (c : Context) (v : ValueTree) (t : IntType) (f n : ℕ) (p : Pos) (es : ValueTrees) → v ≡ tree.call t f n p es → Drops (shape_of v) (type_of v) (ways c v)
unfolding type_of
drops_call c v t f n p es is = drops_by c v _ _ _ _ is refl refl (ways_call c t f n p es) (value_drops _ _ _)

pub drops_any : (c : Context) (v : ValueTree) (t : IntType) (p : Pos) → v ≡ tree.any t p → Drops (shape_of v) (type_of v) (ways c v)
unfolding type_of
drops_any c v t p is = drops_by c v _ _ _ _ is refl refl (ways_any c t p) (value_drops _ _ _)

pub drops_unary : (c : Context) (v : ValueTree) (op : Op) (p : Pos) (t : IntType) (e : ValueTree) → v ≡ tree.unary op p t e → Drops (shape_of v) (type_of v) (ways c v)
unfolding type_of
drops_unary c v op p t e is = drops_by c v _ _ _ _ is refl refl (ways_unary c op p t e) (choice_drops _ _ _ _)

pub drops_convert : (c : Context) (v : ValueTree) (t : IntType) (e : ValueTree) → v ≡ tree.convert t e → Drops (shape_of v) (type_of v) (ways c v)
unfolding type_of
drops_convert c v t e is = drops_by c v _ _ _ _ is refl refl (ways_convert c t e) (value_drops _ _ _)

pub drops_binary : (c : Context) (v : ValueTree) (op : Op) (p : Pos) (t : IntType) (a b : ValueTree) → v ≡ tree.binary op p t a b → Drops (shape_of v) (type_of v) (ways c v)
unfolding type_of
drops_binary c v op p t a b is = drops_by c v _ _ _ _ is refl refl (ways_binary c op p t a b) (value_drops _ _ _)

pub drops_and : (c : Context) (v a b : ValueTree) → v ≡ tree.and a b → Drops (shape_of v) (type_of v) (ways c v)
unfolding type_of
drops_and c v a b is = drops_by c v _ _ _ _ is refl refl (ways_and c a b) (choice_drops _ _ _ _)

pub drops_or : (c : Context) (v a b : ValueTree) → v ≡ tree.or a b → Drops (shape_of v) (type_of v) (ways c v)
unfolding type_of
drops_or c v a b is = drops_by c v _ _ _ _ is refl refl (ways_or c a b) (choice_drops _ _ _ _)

pub drops_conditional : (c : Context) (v : ValueTree) (t : IntType) (e a b : ValueTree) → v ≡ tree.conditional t e a b → Drops (shape_of v) (type_of v) (ways c v)
unfolding type_of
drops_conditional c v t e a b is = drops_by c v _ _ _ _ is refl refl (ways_conditional c t e a b) (value_drops _ _ _)
