-- A step goes on with parts of what waits.
use Rattle.std.proofs.Common.{◌≡◌, ℕ, zero, suc, ◌+◌, arith, Bool, true, false, if◌then◌else◌, ℤ, pos, List, [], ◌∷◌, length, Option, Some, None, refl}
use Rattle.std.specs.Prelude.{Result, Ok, Err}
use Rattle.std.specs.Ordering.{int_eq}
use Rattle.pk_ctypes.specs.declared.faults.Fault.{Fault}
use Rattle.pk_ctypes.specs.declared.places.Pos.{Pos}
use Rattle.pk_ctypes.specs.declared.types.IntType.{IntType}
use Rattle.pk_ctypes.specs.declared.types.IntType.TheVariants.{Int}
use Rattle.pk_ctypes.specs.declared.types.Op.{Op}
use Rattle.pk_ctypes.specs.Operators.{value_of, is_not}
use Rattle.pk_ctypes.specs.declared.faults.Fault.TheVariants as faults
use Rattle.pk_ctypes.specs.Types.{represents, wrapped}
use Rattle.pk_typed.specs.Trees.{PlaceTree, ValueTree, EffectTree, ValueTrees, DeclaredTree, ForStartTree, StatementTree, ItemTrees}
use Rattle.pk_typed.specs.Trees as tree
use Rattle.pk_typed.specs.Types.{type_of}
use Rattle.pk_graph.specs.Steps.{Numbers, is_true, is_index, are_any}
use Rattle.pk_access_laws.specs.Operators.{Counting, if_some}
use Rattle.pk_access_laws.specs.Kept.{counts_in_place, counts_in_value, counts_in_effect, counts_in_values, counts_in_statement, counts_in_items, folded_in_place, folded_in_value, folded_in_effect, folded_in_values, folded_in_declared, folded_in_all_declared, folded_in_start, folded_in_statement, folded_in_items}
use Rattle.pk_meaning.specs.Objects.{Scope, Array, number_of, result}
use Rattle.pk_meaning.specs.Programs.{Program, block_of, function_of, callee, body_scope, with_local, with_declared, is_main}
use Rattle.pk_meaning.specs.Work.{Place, Loop, While, DoWhile, For, Way, Onward, Refused, Lost, Caller, Nobody, Path, Ahead, Rest, Join, Again, Close, End, Work, Go, Do, Declare, Perform, Evaluate, Test, Keep, Branch, Apply, Operate, Convert, Settle, Truth, Drop, Assign, Put, Update, Advance, Fetch, Load, Reload, Store, StoreKept, Renew, Renewed, Replace, Fill, Item, Claim, Pass, Bind, Enter, Leave, Return, Turn, Back, Choose}
use Rattle.pk_meaning.specs.Steps as step
use Rattle.pk_meaning.specs.Steps.{Config, Next, Wants, Mark, labelled, numbered, otherwise, is_label, is_case, is_default}
use Rattle.pk_folded_laws.proofs.Within.{Below, LoopWithin, WayWithin, CallerWithin, AheadWithin, Within, NextWithin}

-- ---- forms of steps

one_of : (p : Program) (q : Counting) (k : ℕ) (b : Bool) (x y : Way) → WayWithin p q k x → WayWithin p q k y → WayWithin p q k (if b then x else y)
one_of p q k true x y h g = h
one_of p q k false x y h g = g

next_of : (p : Program) (q : Counting) (b : Bool) (x y : Next) → NextWithin p q x → NextWithin p q y → NextWithin p q (if b then x else y)
next_of p q true x y h g = h
next_of p q false x y h g = g

taken : (p : Program) (q : Counting) (c : Config) (y : Way) (vs : Numbers) → WayWithin p q c.path y → NextWithin p q (step.takes c y vs)
taken p q c (Onward h w) vs i = i
taken p q c Refused vs i = tt
taken p q c Lost vs i = tt

top : (p : Program) (q : Counting) (vs : Numbers) (f : ℤ → Numbers → Next) → ((v : ℤ) (us : Numbers) → NextWithin p q (f v us)) → NextWithin p q (step.on_top vs f)
top p q [] f h = tt
top p q (v ∷ vs) f h = h v vs

two : (p : Program) (q : Counting) (vs : Numbers) (f : ℤ → ℤ → Numbers → Next) → ((u v : ℤ) (us : Numbers) → NextWithin p q (f u v us)) → NextWithin p q (step.on_two vs f)
two p q vs f h = top p q vs _ (λ w rest. top p q rest _ (λ v more. h v w more))

three : (p : Program) (q : Counting) (vs : Numbers) (f : ℤ → ℤ → ℤ → Numbers → Next) → ((t u v : ℤ) (us : Numbers) → NextWithin p q (f t u v us)) → NextWithin p q (step.on_three vs f)
three p q vs f h = top p q vs _ (λ w rest. two p q rest _ (λ u v more. h u v w more))

below : (p : Program) (q : Counting) (n : ℕ) (vs : Numbers) (f : ℤ → Numbers → Next) → ((v : ℤ) (us : Numbers) → NextWithin p q (f v us)) → NextWithin p q (step.on_below n vs f)
below p q n [] f h = tt
below p q zero (v ∷ vs) f h = h v vs
below p q (suc n) (v ∷ vs) f h = below p q n vs (λ w rest. f w (v ∷ rest)) (λ w rest. h w (v ∷ rest))

valued : (p : Program) (q : Counting) (c : Config) (at : Pos) (r : Result ℤ Fault) (f : ℤ → Next) → ((v : ℤ) → NextWithin p q (f v)) → NextWithin p q (step.with_value c at r f)
valued p q c at (Ok v) f h = h v
valued p q c at (Err e) f h = tt

indexed : (p : Program) (q : Counting) (c : Config) (at : Pos) (a : Array) (i : ℤ) (f : ℕ → Next) → ((j : ℕ) → NextWithin p q (f j)) → NextWithin p q (step.with_index c at a i f)
indexed p q c at a i f h = next_of p q (is_index a.length i) _ _ (h _) tt

chosen : (p : Program) (q : Counting) (t : IntType) (n : ℕ) (ch : Numbers) (x : Next) → NextWithin p q x → NextWithin p q (step.with_choice t n ch x)
chosen p q t n ch x h = next_of p q (are_any t n ch) x (Wants t n) h tt

-- ---- expressions

reads : (p : Program) (q : Counting) (c : Config) (r : PlaceTree) (w : Work) → Below p q c.path (folded_in_place q r) → Within p q c.path w → NextWithin p q (step.read_place p c r w)
unfolding counts_in_place
reads p q c (tree.scalar t x) w l h = h
reads p q c (tree.element t x at i) w l h = (omega (arith, l), h)

assigns : (p : Program) (q : Counting) (k : ℕ) (r : PlaceTree) (e : ValueTree) (w : Work) → Below p q k (folded_in_place q r + folded_in_value q e) → Within p q k w → Within p q k (step.assigned p k r e w)
unfolding counts_in_place
assigns p q k (tree.scalar t x) e w l h = (omega (arith, l), h)
assigns p q k (tree.element t x at i) e w l h = (omega (arith, l), (omega (arith, l), h))

updates : (p : Program) (q : Counting) (k : ℕ) (op : Op) (at : Pos) (o : IntType) (r : PlaceTree) (e : ValueTree) (w : Work) → Below p q k (folded_in_place q r + folded_in_value q e) → Within p q k w → Within p q k (step.updated p k op at o r e w)
unfolding counts_in_place
updates p q k op at o (tree.scalar t x) e w l h = (omega (arith, l), h)
updates p q k op at o (tree.element t x s i) e w l h = (omega (arith, l), (omega (arith, l), h))

one_less : (q : Counting) → folded_in_value q step.one ≡ 0
unfolding counts_in_value
one_less q = refl

steps_on : (p : Program) (q : Counting) (c : Config) (op : Op) (at : Pos) (o : IntType) (r : PlaceTree) (w : Work) → Below p q c.path (folded_in_place q r) → Within p q c.path w → NextWithin p q (step.stepped p c op at o r w)
unfolding counts_in_place
steps_on p q c op at o (tree.scalar t x) w l h = h
steps_on p q c op at o (tree.element t x s i) w l h = (omega (arith, l), (omega (arith, one_less q), h))

called : (p : Program) (q : Counting) (k n : ℕ) (es : ValueTrees) (w : Work) → Below p q k (folded_in_values q es) → Within p q k w → Within p q k (step.called p k n es w)
called p q k n es w l h = (l, h)

evaluates : (p : Program) (q : Counting) (ch : Numbers) (c : Config) (e : ValueTree) (w : Work) → Below p q c.path (folded_in_value q e) → Within p q c.path w → NextWithin p q (step.evaluate p ch c e w)
unfolding counts_in_value
evaluates p q ch c (tree.constant t z) w l h = h
evaluates p q ch c (tree.read r) w l h = reads p q c r w l h
evaluates p q ch c (tree.assign at r e) w l h = assigns p q c.path r e w l h
evaluates p q ch c (tree.update op at o r e) w l h = updates p q c.path op at o r e w (omega (arith, l)) h
evaluates p q ch c (tree.step op at o r true) w l h = updates p q c.path op at o r step.one w (omega (arith, l, one_less q)) h
evaluates p q ch c (tree.step op at o r false) w l h = steps_on p q c op at o r w (omega (arith, l)) h
evaluates p q ch c (tree.call t f n at es) w l h = called p q c.path n es (Fetch t (result (callee p c.path n)) w) l h
evaluates p q ch c (tree.any t at) w l h = chosen p q t 1 ch _ h
evaluates p q ch c (tree.unary op at t e) w l h = (omega (arith, l), h)
evaluates p q ch c (tree.convert t e) w l h = (l, h)
evaluates p q ch c (tree.binary op at t a b) w l h = (omega (arith, l), (omega (arith, l), h))
evaluates p q ch c (tree.and a b) w l h = (l, h, h)
evaluates p q ch c (tree.or a b) w l h = (l, h, h)
evaluates p q ch c (tree.conditional t e a b) w l h = (omega (arith, l), (omega (arith, l), h), (omega (arith, l), h))
evaluates p q ch c (tree.then_value e v) w l h = (omega (arith, l), (omega (arith, l), h))

puts : (p : Program) (q : Counting) (k : ℕ) (r : PlaceTree) (v e : ValueTree) (w : Work) → Below p q k (folded_in_value q v) → Below p q k (folded_in_place q r + folded_in_value q e) → Within p q k w → Within p q k (step.put_place p k r v e w)
unfolding counts_in_place
puts p q k (tree.scalar t x) v e w l m h = (l, h)
puts p q k (tree.element t x at i) v e w l m h = (omega (arith, m), (omega (arith, m), h))

renews : (p : Program) (q : Counting) (k : ℕ) (op : Op) (at : Pos) (o : IntType) (r : PlaceTree) (v e : ValueTree) (w : Work) → Below p q k (folded_in_value q v) → Below p q k (folded_in_place q r + folded_in_value q e) → Within p q k w → Within p q k (step.renew_place p k op at o r v e w)
unfolding counts_in_place
renews p q k op at o (tree.scalar t x) v e w l m h = (l, h)
renews p q k op at o (tree.element t x s i) v e w l m h = (omega (arith, m), (omega (arith, m), h))

advances : (p : Program) (q : Counting) (k : ℕ) (op : Op) (at : Pos) (o : IntType) (r : PlaceTree) (w : Work) → Below p q k (folded_in_place q r) → Within p q k w → Within p q k (step.advance_place p k op at o r w)
unfolding counts_in_place
advances p q k op at o (tree.scalar t x) w l h = h
advances p q k op at o (tree.element t x s i) w l h = (omega (arith, l), (omega (arith, one_less q), h))

drops : (p : Program) (q : Counting) (k : ℕ) (v : ValueTree) (w : Work) → Below p q k (folded_in_value q v) → Within p q k w → Within p q k (step.unused p k v w)
unfolding counts_in_value counts_in_effect
drops p q k (tree.constant t z) w l h = (l, h)
drops p q k (tree.read r) w l h = (l, h)
drops p q k (tree.assign at r e) w l h = puts p q k r (tree.assign at r e) e w l l h
drops p q k (tree.update op at o r e) w l h = renews p q k op at o r (tree.update op at o r e) e w l (omega (arith, l)) h
drops p q k (tree.step op at o r prefix) w l h = advances p q k op at o r w (omega (arith, l)) h
drops p q k (tree.call t f n at es) w l h = (l, h)
drops p q k (tree.any t at) w l h = (l, h)
drops p q k (tree.unary op at t e) w l h = (l, h)
drops p q k (tree.convert t e) w l h = (l, h)
drops p q k (tree.binary op at t a b) w l h = (l, h)
drops p q k (tree.and a b) w l h = (l, h)
drops p q k (tree.or a b) w l h = (l, h)
drops p q k (tree.conditional t e a b) w l h = (l, h)
drops p q k (tree.then_value e v) w l h = (omega (arith, l), (omega (arith, l), h))

as_int_less : (p : Program) (q : Counting) (k : ℕ) (e : ValueTree) → Below p q k (folded_in_value q e) → Below p q k (folded_in_value q (step.as_int e))
unfolding counts_in_value
as_int_less p q k e l = by (represents Int (type_of e)) where
  by : (b : Bool) → Below p q k (folded_in_value q (if b then e else tree.convert Int e))
  by true = l
  by false = l

nothing_less : (p : Program) (q : Counting) (k : ℕ) → Below p q k (folded_in_value q (tree.constant Int (pos 0)))
unfolding counts_in_value
nothing_less p q k = omega arith

performs : (p : Program) (q : Counting) (k : ℕ) (h : Place) (e : EffectTree) (w : Work) → Below p q k (folded_in_effect q e) → Within p q k w → Within p q k (step.performed p k h e w)
unfolding counts_in_effect
performs p q k h (tree.unused v) w l i = drops p q k v w l i
performs p q k h (tree.run f n at es) w l i = called p q k n es w l i
performs p q k h (tree.assume at v) w l i = (as_int_less p q k v l, i, tt)
performs p q k h (tree.assert at v) w l i = (omega (arith, l), i)
performs p q k h (tree.abort at) w l i = (nothing_less p q k, i, tt)
performs p q k h (tree.then_effect a b) w l i = (omega (arith, l), (omega (arith, l), i))

tests : (p : Program) (q : Counting) (k : ℕ) (h : Place) (e : ValueTree) (y n : Way) → Below p q k (folded_in_value q e) → WayWithin p q k y → WayWithin p q k n → Within p q k (step.tested h e y n)
unfolding counts_in_value
tests p q k h (tree.constant t z) y n l i j = (l, (i, j))
tests p q k h (tree.read r) y n l i j = (l, (i, j))
tests p q k h (tree.assign at r e) y n l i j = (l, (i, j))
tests p q k h (tree.update op at o r e) y n l i j = (l, (i, j))
tests p q k h (tree.step op at o r prefix) y n l i j = (l, (i, j))
tests p q k h (tree.call t f m at es) y n l i j = (l, (i, j))
tests p q k h (tree.any t at) y n l i j = (l, (i, j))
tests p q k h (tree.unary op at t e) y n l i j = by (is_not op) where
  by : (b : Bool) → Within p q k (if b then Test e n y else Evaluate (tree.unary op at t e) (Branch y n))
  by true = (omega (arith, l), j, i)
  by false = (l, (i, j))
tests p q k h (tree.convert t e) y n l i j = (l, (i, j))
tests p q k h (tree.binary op at t a b) y n l i j = (l, (i, j))
tests p q k h (tree.and a b) y n l i j = (omega (arith, l), (omega (arith, l), i, j), j)
tests p q k h (tree.or a b) y n l i j = (omega (arith, l), i, (omega (arith, l), i, j))
tests p q k h (tree.conditional t e a b) y n l i j = (l, (i, j))
tests p q k h (tree.then_value e v) y n l i j = (omega (arith, l), (omega (arith, l), i, j))

passes : (p : Program) (q : Counting) (k : ℕ) (es : ValueTrees) (w : Work) → Below p q k (folded_in_values q es) → Within p q k w → Within p q k (step.pass es w)
unfolding counts_in_values
passes p q k tree.no_values w l h = h
passes p q k (tree.value_before e es) w l h = (omega (arith, l), (omega (arith, l), h))

fills : (p : Program) (q : Counting) (k : ℕ) (a : Array) (j : ℕ) (es : ValueTrees) (w : Work) → Below p q k (folded_in_values q es) → Within p q k w → Within p q k (step.fill a j es w)
unfolding counts_in_values
fills p q k a j tree.no_values w l h = h
fills p q k a j (tree.value_before e es) w l h = (omega (arith, l), (omega (arith, l), h))

binds : (p : Program) (q : Counting) (c : Config) (k i : ℕ) (ts : List IntType) (w : Work) → Within p q c.path w → NextWithin p q (step.bind c k i ts w)
binds p q c k i [] w h = h
binds p q c k i (t ∷ ts) w h = below p q (length ts) c.values _ (λ v vs. h)

-- ---- declarations

anything : (p : Program) (q : Counting) (ch : Numbers) (c : Config) (i : ℕ) (w : Work) → Within p q c.path w → NextWithin p q (step.anything p ch c i w)
anything p q ch c i w h = chosen p q _ _ ch _ h

scalar_first : (p : Program) (q : Counting) (ch : Numbers) (c : Config) (i : ℕ) (e : Option ValueTree) (w : Work) → Below p q c.path (if_some (folded_in_value q) e) → Within p q c.path w → NextWithin p q (step.scalar_first p ch c i e w)
scalar_first p q ch c i None w l h = anything p q ch c i w h
scalar_first p q ch c i (Some e) w l h = (l, h)

array_first : (p : Program) (q : Counting) (ch : Numbers) (c : Config) (i : ℕ) (es : Option ValueTrees) (w : Work) → Below p q c.path (if_some (folded_in_values q) es) → Within p q c.path w → NextWithin p q (step.array_first p ch c i es w)
array_first p q ch c i None w l h = anything p q ch c i w h
array_first p q ch c i (Some es) w l h = (l, h)

declares : (p : Program) (q : Counting) (ch : Numbers) (c : Config) (d : DeclaredTree) (w : Work) → Below p q c.path (folded_in_declared q d) → Within p q c.path w → NextWithin p q (step.declares p ch c d w)
declares p q ch c (tree.scalar_object i at e) w l h = scalar_first p q ch (step.standing (step.place at (with_local p c.path i c.here.scope)) c) i e w l h
declares p q ch c (tree.array_object i at es) w l h = array_first p q ch (step.standing (step.place at (with_local p c.path i c.here.scope)) c) i es w l h
declares p q ch c (tree.static_object n at) w l h = h
declares p q ch c (tree.hiding_constant x at) w l h = h

all_declared : (p : Program) (q : Counting) (ch : Numbers) (c : Config) (ds : List DeclaredTree) (w : Work) → Below p q c.path (folded_in_all_declared q ds) → Within p q c.path w → NextWithin p q (step.all_declared p ch c ds w)
all_declared p q ch c [] w l h = h
all_declared p q ch c (d ∷ ds) w l h = declares p q ch c d (Declare ds w) (omega (arith, l)) (omega (arith, l), h)

-- ---- jumps

past_switch : (p : Program) (q : Counting) (k : ℕ) (m : Mark) (x o : Way) → WayWithin p q k x → WayWithin p q k o → WayWithin p q k (step.past_switch m x o)
past_switch p q k (labelled l) x o h g = h
past_switch p q k (numbered i) x o h g = g
past_switch p q k otherwise x o h g = g

mutual
  unfolding counts_in_statement counts_in_items

  found : (p : Program) (q : Counting) (k j : ℕ) (m : Mark) (xs : Scope) (s : StatementTree) (a : Ahead) (o : Way) → Below p q k (folded_in_statement q s) → AheadWithin p q k a → WayWithin p q k o → WayWithin p q k (step.found p j m xs s a o)
  found p q k j m xs (tree.block at is) a o l h g = found_in p q k j m xs is a o l h g
  found p q k j m xs (tree.empty at) a o l h g = g
  found p q k j m xs (tree.effect at e) a o l h g = g
  found p q k j m xs (tree.label at n s) a o l h g = one_of p q k (is_label m n) _ _ (l, h) (found p q k j m xs s a o l h g)
  found p q k j m xs (tree.case at i s) a o l h g = one_of p q k (is_case m i) _ _ (l, h) (found p q k j m xs s a o l h g)
  found p q k j m xs (tree.default at s) a o l h g = one_of p q k (is_default m) _ _ (l, h) (found p q k j m xs s a o l h g)
  found p q k j m xs (tree.if_then at c s) a o l h g = found p q k j m xs s (Join (step.place at xs) a) o (omega (arith, l)) h g
  found p q k j m xs (tree.if_else at c s r) a o l h g =
      found p q k j m xs s (Join (step.place at xs) a) _ (omega (arith, l)) h (found p q k j m xs r (Join (step.place at xs) a) o (omega (arith, l)) h g)
  found p q k j m xs (tree.switch at t e zs b s) a o l h g = past_switch p q k m _ o (found p q k j m xs s (Close (step.place at xs) a) o (omega (arith, l)) h g) g
  found p q k j m xs (tree.while at c s) a o l h g =
      found p q k j m xs s (Again (step.place at xs) (While c s) (step.place at xs) a) o (omega (arith, l)) ((omega (arith, l), omega (arith, l)), h) g
  found p q k j m xs (tree.do_while at s c) a o l h g =
      found p q k j m xs s (Again (step.place at xs) (DoWhile s c) (step.place at xs) a) o (omega (arith, l)) ((omega (arith, l), omega (arith, l)), h) g
  found p q k j m xs (tree.for_loop at f c e s) a o l h g =
      let ys = step.for_scope p j f xs in
      found p q k j m ys s (Again (step.place at ys) (For c e s) (step.place at xs) a) o (omega (arith, l)) ((omega (arith, l), omega (arith, l), omega (arith, l)), h) g
  found p q k j m xs (tree.goto at n) a o l h g = g
  found p q k j m xs (tree.continue at) a o l h g = g
  found p q k j m xs (tree.break at) a o l h g = g
  found p q k j m xs (tree.return at e) a o l h g = g

  found_in : (p : Program) (q : Counting) (k j : ℕ) (m : Mark) (xs : Scope) (is : ItemTrees) (a : Ahead) (o : Way) → Below p q k (folded_in_items q is) → AheadWithin p q k a → WayWithin p q k o → WayWithin p q k (step.found_in p j m xs is a o)
  found_in p q k j m xs tree.no_items a o l h g = g
  found_in p q k j m xs (tree.declared_before d is) a o l h g = found_in p q k j m (with_declared p j d xs) is a o (omega (arith, l)) h g
  found_in p q k j m xs (tree.statement_before s is) a o l h g =
      found p q k j m xs s (Rest xs is a) _ (omega (arith, l)) (omega (arith, l), h) (found_in p q k j m xs is a o (omega (arith, l)) h g)

broken : (p : Program) (q : Counting) (k : ℕ) (a : Ahead) → AheadWithin p q k a → WayWithin p q k (step.broken a)
broken p q k (Rest xs is a) h = broken p q k a h.1
broken p q k (Join x a) h = broken p q k a h
broken p q k (Again x l e a) h = h.1
broken p q k (Close x a) h = h
broken p q k (End c) h = tt

performs_if : (p : Program) (q : Counting) (k : ℕ) (e : Option EffectTree) (w : Work) → Below p q k (if_some (folded_in_effect q) e) → Within p q k w → Within p q k (step.performed_if e w)
performs_if p q k None w l h = h
performs_if p q k (Some e) w l h = (l, h)

resumed : (p : Program) (q : Counting) (k : ℕ) (x : Place) (l : Loop) (y : Place) (a : Ahead) → LoopWithin p q k l → AheadWithin p q k a → Within p q k (step.resumed x l y a)
resumed p q k x (While c s) y a l h = (l, h)
resumed p q k x (DoWhile s c) y a l h = (l.0, (l, h), h)
resumed p q k x (For c third s) y a l h = performs_if p q k third (Back x (For c third s) y a) l.1 (l, h)

continued : (p : Program) (q : Counting) (k : ℕ) (a : Ahead) → AheadWithin p q k a → WayWithin p q k (step.continued a)
continued p q k (Rest xs is a) h = continued p q k a h.1
continued p q k (Join x a) h = continued p q k a h
continued p q k (Again x l e a) h = resumed p q k x l e a h.0 h.1
continued p q k (Close x a) h = continued p q k a h
continued p q k (End c) h = tt

caller_of : (p : Program) (q : Counting) (k : ℕ) (a : Ahead) → AheadWithin p q k a → CallerWithin p q (step.caller_of a)
caller_of p q k (Rest xs is a) h = caller_of p q k a h.1
caller_of p q k (Join x a) h = caller_of p q k a h
caller_of p q k (Again x l e a) h = caller_of p q k a h.1
caller_of p q k (Close x a) h = caller_of p q k a h
caller_of p q k (End c) h = h

whole : (p : Program) (q : Counting) (k : ℕ) → Below p q k (folded_in_items q (block_of p k).items)
whole p q k = omega arith

gone : (p : Program) (q : Counting) (k l : ℕ) (a : Ahead) → AheadWithin p q k a → WayWithin p q k (step.gone_to p k l a)
gone p q k l a h = found_in p q k k (labelled l) (body_scope p k) (block_of p k).items (End (step.caller_of a)) Lost (whole p q k) (caller_of p q k a h) tt

-- ---- statements

rests : (p : Program) (q : Counting) (ch : Numbers) (c : Config) (xs : Scope) (is : ItemTrees) (a : Ahead) → Below p q c.path (folded_in_items q is) → AheadWithin p q c.path a → NextWithin p q (step.rest p ch c xs is a)
unfolding counts_in_items
rests p q ch c xs tree.no_items a l h = h
rests p q ch c xs (tree.declared_before d is) a l h =
    declares p q ch (step.standing (step.place c.here.at xs) c) d (Go (Rest (with_declared p c.path d xs) is a)) (omega (arith, l)) (omega (arith, l), h)
rests p q ch c xs (tree.statement_before s is) a l h = (omega (arith, l), (omega (arith, l), h))

turned : (p : Program) (q : Counting) (c : Config) (x : Place) (l : Loop) (y : Place) (a : Ahead) → LoopWithin p q c.path l → AheadWithin p q c.path a → NextWithin p q (step.turned c x l y a)
turned p q c x (While t s) y a l h = (l.0, (l.1, (l, h)), h)
turned p q c x (DoWhile s t) y a l h = (l.1, (l, h))
turned p q c x (For (Some t) third s) y a l h = (l.0, (l.2, (l, h)), h)
turned p q c x (For None third s) y a l h = (l.2, (l, h))

for_start : (p : Program) (q : Counting) (c : Config) (f : ForStartTree) (w : Work) → Below p q c.path (folded_in_start q f) → Within p q c.path w → NextWithin p q (step.for_start c f w)
for_start p q c (tree.declarations ds) w l h = (l, h)
for_start p q c (tree.expression None) w l h = h
for_start p q c (tree.expression (Some e)) w l h = (l, h)

returns : (p : Program) (q : Counting) (c : Config) (t : Option IntType) (e : Option ValueTree) (k : Caller) → Below p q c.path (if_some (folded_in_value q) e) → CallerWithin p q k → NextWithin p q (step.returns c t e k)
returns p q c None None k l h = h
returns p q c None (Some e) k l h = h
returns p q c (Some t) None k l h = h
returns p q c (Some t) (Some e) k l h = (l, h)

does : (p : Program) (q : Counting) (c : Config) (s : StatementTree) (a : Ahead) → Below p q c.path (folded_in_statement q s) → AheadWithin p q c.path a → NextWithin p q (step.does p c s a)
unfolding counts_in_statement
does p q c (tree.block at is) a l h = (l, h)
does p q c (tree.empty at) a l h = h
does p q c (tree.effect at e) a l h = (l, h)
does p q c (tree.label at n s) a l h = (l, h)
does p q c (tree.case at i s) a l h = (l, h)
does p q c (tree.default at s) a l h = (l, h)
does p q c (tree.if_then at t s) a l h = (omega (arith, l), (omega (arith, l), h), h)
does p q c (tree.if_else at t s r) a l h = (omega (arith, l), (omega (arith, l), h), (omega (arith, l), h))
does p q c (tree.switch at t e zs b s) a l h = (omega (arith, l), (omega (arith, l), h))
does p q c (tree.while at t s) a l h = ((omega (arith, l), omega (arith, l)), h)
does p q c (tree.do_while at s t) a l h = ((omega (arith, l), omega (arith, l)), h)
does p q c (tree.for_loop at f t third s) a l h =
    for_start p q (step.standing (step.place at c.here.scope) c) f (Back (step.place at (step.for_scope p c.path f c.here.scope)) (For t third s) (step.place at c.here.scope) a) (omega (arith, l)) ((omega (arith, l), omega (arith, l), omega (arith, l)), h)
does p q c (tree.goto at n) a l h = taken p q c (step.gone_to p c.path n a) c.values (gone p q c.path n a h)
does p q c (tree.continue at) a l h = taken p q c (step.continued a) c.values (continued p q c.path a h)
does p q c (tree.break at) a l h = taken p q c (step.broken a) c.values (broken p q c.path a h)
does p q c (tree.return at e) a l h = returns p q (step.standing_at at c) (function_of p c.path).returns e (step.caller_of a) l (caller_of p q c.path a h)

chooses : (p : Program) (q : Counting) (c : Config) (t : IntType) (zs : List ℤ) (i : ℕ) (b : Bool) (s : StatementTree) (x : Place) (a : Ahead) (v : ℤ) (vs : Numbers) → Below p q c.path (folded_in_statement q s) → AheadWithin p q c.path a → NextWithin p q (step.chooses p c t zs i b s x a v vs)
chooses p q c t (z ∷ zs) i b s x a v vs l h =
    let rest : NextWithin p q (step.comes c x (Choose t zs (i + 1) b s x a) (v ∷ vs)) = (l, h) in
    next_of p q (int_eq v z) (step.takes c (step.found p c.path (numbered i) x.scope s (Close x a) Lost) vs) (step.comes c x (Choose t zs (i + 1) b s x a) (v ∷ vs)) (taken p q c (step.found p c.path (numbered i) x.scope s (Close x a) Lost) vs (found p q c.path c.path (numbered i) x.scope s (Close x a) Lost l h tt)) rest
chooses p q c t [] i true s x a v vs l h = taken p q c (step.found p c.path otherwise x.scope s (Close x a) Lost) vs (found p q c.path c.path otherwise x.scope s (Close x a) Lost l h tt)
chooses p q c t [] i false s x a v vs l h = h

falls : (p : Program) (q : Counting) (ch : Numbers) (c : Config) (t : Option IntType) (k : Caller) → CallerWithin p q k → NextWithin p q (step.falls p ch c t k)
falls p q ch c None k h = h
falls p q ch c (Some t) k h = next_of p q (is_main p c.path) _ _ h (chosen p q t 1 ch _ h)

goes : (p : Program) (q : Counting) (ch : Numbers) (c : Config) (a : Ahead) → AheadWithin p q c.path a → NextWithin p q (step.goes p ch c a)
goes p q ch c (Rest xs is a) h = rests p q ch c xs is a h.0 h.1
goes p q ch c (Join x a) h = h
goes p q ch c (Again x l e a) h = resumed p q c.path x l e a h.0 h.1
goes p q ch c (Close x a) h = h
goes p q ch c (End k) h = falls p q ch (step.standing (step.place (block_of p c.path).closed (body_scope p c.path)) c) (function_of p c.path).returns k h

returned : (p : Program) (q : Counting) (c : Config) (k : Caller) → CallerWithin p q k → NextWithin p q (step.returned p c k)
returned p q c Nobody h = tt
returned p q c (Path k x w) h = h

-- ---- one step

pub one_step : (p : Program) (q : Counting) (ch : Numbers) (c : Config) (w : Work) → Within p q c.path w → NextWithin p q (step.step_of p ch c w)
one_step p q ch c (Go a) h = goes p q ch c a h
one_step p q ch c (Do s a) h = does p q c s a h.0 h.1
one_step p q ch c (Declare ds w) h = all_declared p q ch c ds w h.0 h.1
one_step p q ch c (Perform e w) h = performs p q c.path c.here e w h.0 h.1
one_step p q ch c (Evaluate e w) h = evaluates p q ch c e w h.0 h.1
one_step p q ch c (Test e y n) h = tests p q c.path c.here e y n h.0 h.1 h.2
one_step p q ch c (Keep w) h = h
one_step p q ch c (Branch y n) h = top p q c.values _ (λ v vs. next_of p q (is_true v) (step.takes c y vs) (step.takes c n vs) (taken p q c y vs h.0) (taken p q c n vs h.1))
one_step p q ch c (Apply op at t w) h =
    top p q c.values _ (λ v vs. valued p q c at (value_of op t (wrapped t v) (wrapped t v)) (λ z. step.on c w (z ∷ vs)) (λ z. h))
one_step p q ch c (Operate op at t w) h = two p q c.values _ (λ u v vs. valued p q c at (step.operated op t u v) (λ z. step.on c w (z ∷ vs)) (λ z. h))
one_step p q ch c (Convert t w) h = top p q c.values _ (λ v vs. h)
one_step p q ch c (Settle t w) h = top p q c.values _ (λ v vs. h)
one_step p q ch c (Truth z w) h = h
one_step p q ch c (Drop w) h = top p q c.values _ (λ v vs. h)
one_step p q ch c (Assign t x w) h = top p q c.values _ (λ v vs. h)
one_step p q ch c (Put t x w) h = top p q c.values _ (λ v vs. h)
one_step p q ch c (Update op at o t x w) h =
    top p q c.values _ (λ v vs. valued p q c at (step.operated op o (number_of x c.objects) v) (λ z. step.writes c x (wrapped t z ∷ []) w (wrapped t z ∷ vs)) (λ z. h))
one_step p q ch c (Advance op at o t x w) h =
    valued p q c at (step.operated op o (number_of x c.objects) (pos 1)) (λ z. step.writes c x (wrapped t z ∷ []) w c.values) (λ z. h)
one_step p q ch c (Fetch t x w) h = h
one_step p q ch c (Load at a w) h = top p q c.values _ (λ i vs. indexed p q c at a i (λ j. step.on c w (step.element_of a j c.objects ∷ vs)) (λ j. h))
one_step p q ch c (Reload at a w) h =
    two p q c.values _ (λ i v vs. indexed p q c at a i (λ j. step.on c w (step.element_of a j c.objects ∷ v ∷ i ∷ vs)) (λ j. h))
one_step p q ch c (Store at a w) h = two p q c.values _ (λ i v vs. indexed p q c at a i (λ j. step.stores c a j (wrapped a.int_type v) w vs) (λ j. h))
one_step p q ch c (StoreKept at a w) h = two p q c.values _ (λ i v vs. indexed p q c at a i (λ j. step.stores c a j v w (v ∷ vs)) (λ j. h))
one_step p q ch c (Renew op at o r a w) h = three p q c.values _ (λ i v u vs. valued p q c at (step.operated op o u v)
    (λ z. step.with_index c r a i (λ j. step.stores c a j (wrapped a.int_type z) w vs))
    (λ z. indexed p q c r a i (λ j. step.stores c a j (wrapped a.int_type z) w vs) (λ j. h)))
one_step p q ch c (Renewed op at o t w) h = three p q c.values _ (λ i v u vs. valued p q c at (step.operated op o u v) (λ z. step.on c w (wrapped t z ∷ i ∷ vs)) (λ z. h))
one_step p q ch c (Replace op at o r a w) h = three p q c.values _ (λ i v u vs. valued p q c at (step.operated op o u v)
    (λ z. step.with_index c r a i (λ j. step.stores c a j (wrapped a.int_type z) w (u ∷ vs)))
    (λ z. indexed p q c r a i (λ j. step.stores c a j (wrapped a.int_type z) w (u ∷ vs)) (λ j. h)))
one_step p q ch c (Fill a j es w) h = fills p q c.path a j es w h.0 h.1
one_step p q ch c (Item a j w) h = top p q c.values _ (λ v vs. h)
one_step p q ch c (Claim at w) h = top p q c.values _ (λ v vs. next_of p q (is_true (wrapped Int v)) (step.comes c c.here w vs) (step.fails c faults.Assert at) h tt)
one_step p q ch c (Pass es w) h = passes p q c.path es w h.0 h.1
one_step p q ch c (Bind k i ts w) h = binds p q c k i ts w h
one_step p q ch c (Enter k w) h = (whole p q k, h)
one_step p q ch c (Leave k) h = h
one_step p q ch c (Return k) h = returned p q c k h
one_step p q ch c (Turn x l e a) h = turned p q c x l e a h.0 h.1
one_step p q ch c (Back x l e a) h = h
one_step p q ch c (Choose t zs i b s x a) h = top p q c.values _ (λ v vs. chooses p q c t zs i b s x a v vs h.0 h.1)
