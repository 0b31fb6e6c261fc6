-- A step that is no visit leads to lighter work, into a part that is called, or back from one.
use Rattle.std.proofs.Common.{◌≡◌, ℕ, zero, suc, ◌+◌, ◌<◌, ◌≤◌, ◌⊎◌, List, [], ◌∷◌, length, Bool, true, false, refl, inl, inr, arith, ℤ, pos, Option, Some, None}
use Rattle.std.specs.Prelude.{Result, Ok, Err, if◌then◌else◌, unsigned_abs}
use Rattle.std.specs.Ordering.{int_eq}
use Rattle.pk_ctypes.specs.declared.places.Pos.{Pos}
use Rattle.pk_ctypes.specs.declared.types.IntType.{IntType}
use Rattle.pk_ctypes.specs.declared.types.IntType.TheVariants.{Int}
use Rattle.pk_ctypes.specs.declared.types.Op.{Op}
use Rattle.pk_ctypes.specs.declared.faults.Fault.{Fault}
use Rattle.pk_ctypes.specs.declared.faults.Fault.TheVariants as faults
use Rattle.pk_ctypes.specs.Types.{represents, wrapped}
use Rattle.pk_ctypes.specs.Operators.{value_of, is_not}
use Rattle.pk_typed.specs.Trees.{PlaceTree, ValueTree, EffectTree, DeclaredTree, ForStartTree, StatementTree, ItemTrees}
use Rattle.pk_typed.specs.Trees as tree
use Rattle.pk_typed.specs.Types.{type_of}
use Rattle.pk_graph.specs.Steps.{Numbers, is_true, is_index, are_any}
use Rattle.pk_meaning.specs.Objects.{Scope, Array, Objects, number_of}
use Rattle.pk_meaning.specs.Programs.{Program, function_of, is_main}
use Rattle.pk_meaning.specs.Work as work
use Rattle.pk_meaning.specs.Work.{Place, Loop, Way, Caller, Ahead, Work}
use Rattle.pk_meaning.specs.Steps as steps
use Rattle.pk_meaning.specs.Steps.{Config, Next, To, Faulted, Assumed, Returned, Wants, Stuck, step_of}
use Rattle.pk_visits_laws.proofs.Same.Weights.{value, test, declared, weight, returns}
use Rattle.pk_visits.proofs.Follow.{config}

-- on the same path with lighter work
pub record IsLighter (p : Program) (k : ℕ) (w : Work) (d : Config) : Type 0 where
  pub path : d.path ≡ k
  pub returns : returns d.work ≤ returns w
  pub weight : weight p k d.work < weight p k w

-- into the part of a path that is called
pub record Entered (w : Work) (d : Config) : Type 0 where
  pub callee : ℕ
  pub behind : Work
  pub enters : w ≡ work.Enter callee behind
  pub path : d.path ≡ callee
  pub returns : returns d.work ≡ 0

abbrev pub Falls : Program → (path : ℕ) → Work → Config → Type 0
Falls p k w d = IsLighter p k w d ⊎ (Entered w d ⊎ (returns d.work < returns w))

abbrev pub Falling : Program → (path : ℕ) → Work → Next → Type 0
Falling p k w (To d) = d.is_visit ≡ false → Falls p k w d
Falling p k w (Faulted f s) = Unit {0}
Falling p k w Assumed = Unit {0}
Falling p k w (Returned v) = Unit {0}
Falling p k w (Wants t n) = Unit {0}
Falling p k w Stuck = Unit {0}

lighter : (p : Program) (k : ℕ) (w v : Work) (h : Place) (vs : Numbers) (s : Objects) (b : Bool) → returns v ≤ returns w → weight p k v < weight p k w → Falling p k w (To (config k h v vs s b))
lighter p k w v h vs s b r l = λ no. inl (record { path = refl; returns = r; weight = l })

same : (n : ℕ) → n ≤ n
same n = omega arith

-- along a way a step is a visit
taken : (p : Program) (k : ℕ) (h : Place) (w : Work) (vs us : Numbers) (s : Objects) (b : Bool) (v : Work) (y : Way) → Falling p k w (steps.takes (config k h v vs s b) y us)
taken p k h w vs us s b v (work.Onward j u) = λ e. absurd (cc e)
taken p k h w vs us s b v work.Refused = tt
taken p k h w vs us s b v work.Lost = tt

-- ---- values that wait

on_one : (p : Program) (k : ℕ) (w : Work) (vs : Numbers) (f : ℤ → Numbers → Next) → ((v : ℤ) (us : Numbers) → Falling p k w (f v us)) → Falling p k w (steps.on_top vs f)
on_one p k w [] f h = tt
on_one p k w (v ∷ vs) f h = h v vs

on_two : (p : Program) (k : ℕ) (w : Work) (vs : Numbers) (f : ℤ → ℤ → Numbers → Next) → ((u v : ℤ) (us : Numbers) → Falling p k w (f u v us)) → Falling p k w (steps.on_two vs f)
on_two p k w [] f h = tt
on_two p k w (v ∷ []) f h = tt
on_two p k w (v ∷ u ∷ vs) f h = h u v vs

on_three : (p : Program) (k : ℕ) (w : Work) (vs : Numbers) (f : ℤ → ℤ → ℤ → Numbers → Next) → ((i u v : ℤ) (us : Numbers) → Falling p k w (f i u v us)) → Falling p k w (steps.on_three vs f)
on_three p k w [] f h = tt
on_three p k w (v ∷ []) f h = tt
on_three p k w (v ∷ u ∷ []) f h = tt
on_three p k w (v ∷ u ∷ i ∷ vs) f h = h i u v vs

on_below : (p : Program) (k : ℕ) (w : Work) (n : ℕ) (vs : Numbers) (f : ℤ → Numbers → Next) → ((v : ℤ) (us : Numbers) → Falling p k w (f v us)) → Falling p k w (steps.on_below n vs f)
on_below p k w n [] f h = tt
on_below p k w zero (v ∷ vs) f h = h v vs
on_below p k w (suc n) (v ∷ vs) f h = on_below p k w n vs (λ u us. f u (v ∷ us)) (λ u us. h u (v ∷ us))

valued : (p : Program) (k : ℕ) (w : Work) (c : Config) (at : Pos) (r : Result ℤ Fault) (f : ℤ → Next) → ((v : ℤ) → Falling p k w (f v)) → Falling p k w (steps.with_value c at r f)
valued p k w c at (Ok v) f h = h v
valued p k w c at (Err e) f h = tt

chosen : (p : Program) (k : ℕ) (w : Work) (t : IntType) (n : ℕ) (ch : Numbers) (next : Next) → Falling p k w next → Falling p k w (steps.with_choice t n ch next)
chosen p k w t n ch next h = by (are_any t n ch) where
  by : (b : Bool) → Falling p k w (if b then next else Wants t n)
  by true = h
  by false = tt

indexed : (p : Program) (k : ℕ) (w : Work) (c : Config) (at : Pos) (a : Array) (i : ℤ) (f : ℕ → Next) → ((j : ℕ) → Falling p k w (f j)) → Falling p k w (steps.with_index c at a i f)
indexed p k w c at a i f h = by (is_index a.length i) where
  by : (b : Bool) → Falling p k w (if b then f (unsigned_abs i) else steps.fails c faults.Index at)
  by true = h (unsigned_abs i)
  by false = tt

either : (p : Program) (k : ℕ) (w : Work) (b : Bool) (m n : Next) → Falling p k w m → Falling p k w n → Falling p k w (if b then m else n)
either p k w true m n h g = h
either p k w false m n h g = g

-- ---- expressions

reads : (p : Program) (k : ℕ) (h : Place) (w : Work) (vs : Numbers) (s : Objects) (b : Bool) (v : Work) (q : PlaceTree) → Falling p k (work.Evaluate (tree.read q) w) (steps.read_place p (config k h v vs s b) q w)
reads p k h w vs s b v (tree.scalar t x) = lighter p k _ w h _ s false (same (returns w)) (omega arith)
reads p k h w vs s b v (tree.element t x at i) = lighter p k _ _ h _ s false (same (returns w)) (omega arith)

assigns : (p : Program) (k : ℕ) (h : Place) (w : Work) (vs : Numbers) (s : Objects) (at : Pos) (q : PlaceTree) (e : ValueTree) → Falling p k (work.Evaluate (tree.assign at q e) w) (To (config k h (steps.assigned p k q e w) vs s false))
assigns p k h w vs s at (tree.scalar t x) e = lighter p k _ _ h _ s false (same (returns w)) (omega arith)
assigns p k h w vs s at (tree.element t x r i) e = lighter p k _ _ h _ s false (same (returns w)) (omega arith)

updates : (p : Program) (k : ℕ) (h : Place) (w : Work) (vs : Numbers) (s : Objects) (op : Op) (at : Pos) (o : IntType) (q : PlaceTree) (e : ValueTree) → Falling p k (work.Evaluate (tree.update op at o q e) w) (To (config k h (steps.updated p k op at o q e w) vs s false))
updates p k h w vs s op at o (tree.scalar t x) e = lighter p k _ _ h _ s false (same (returns w)) (omega arith)
updates p k h w vs s op at o (tree.element t x r i) e = lighter p k _ _ h _ s false (same (returns w)) (omega arith)

prefixed : (p : Program) (k : ℕ) (h : Place) (w : Work) (vs : Numbers) (s : Objects) (op : Op) (at : Pos) (o : IntType) (q : PlaceTree) (prefix : Bool) → Falling p k (work.Evaluate (tree.step op at o q prefix) w) (To (config k h (steps.updated p k op at o q steps.one w) vs s false))
prefixed p k h w vs s op at o (tree.scalar t x) prefix = lighter p k _ _ h _ s false (same (returns w)) (omega arith)
prefixed p k h w vs s op at o (tree.element t x r i) prefix = lighter p k _ _ h _ s false (same (returns w)) (omega arith)

steps_on : (p : Program) (k : ℕ) (h : Place) (w v : Work) (vs : Numbers) (s : Objects) (b : Bool) (op : Op) (at : Pos) (o : IntType) (q : PlaceTree) (prefix : Bool) → Falling p k (work.Evaluate (tree.step op at o q prefix) w) (steps.stepped p (config k h v vs s b) op at o q w)
steps_on p k h w v vs s b op at o (tree.scalar t x) prefix = lighter p k _ _ h _ s false (same (returns w)) (omega arith)
steps_on p k h w v vs s b op at o (tree.element t x r i) prefix = lighter p k _ _ h _ s false (same (returns w)) (omega arith)

evaluates : (p : Program) (ch : Numbers) (k : ℕ) (h : Place) (w v : Work) (vs : Numbers) (s : Objects) (b : Bool) (e : ValueTree) → Falling p k (work.Evaluate e w) (steps.evaluate p ch (config k h v vs s b) e w)
evaluates p ch k h w v vs s b (tree.constant t z) = lighter p k _ w h _ s false (same (returns w)) (omega arith)
evaluates p ch k h w v vs s b (tree.read q) = reads p k h w vs s b v q
evaluates p ch k h w v vs s b (tree.assign at q e) = assigns p k h w vs s at q e
evaluates p ch k h w v vs s b (tree.update op at o q e) = updates p k h w vs s op at o q e
evaluates p ch k h w v vs s b (tree.step op at o q prefix) =
    either p k _ prefix _ _ (prefixed p k h w vs s op at o q prefix) (steps_on p k h w v vs s b op at o q prefix)
evaluates p ch k h w v vs s b (tree.call t f n at es) = lighter p k _ _ h _ s false (omega arith) (omega arith)
evaluates p ch k h w v vs s b (tree.any t at) = chosen p k _ t 1 ch _ (lighter p k _ w h _ s false (same (returns w)) (omega arith))
evaluates p ch k h w v vs s b (tree.unary op at t e) = lighter p k _ _ h _ s false (same (returns w)) (omega arith)
evaluates p ch k h w v vs s b (tree.convert t e) = lighter p k _ _ h _ s false (same (returns w)) (omega arith)
evaluates p ch k h w v vs s b (tree.binary op at t x y) = lighter p k _ _ h _ s false (same (returns w)) (omega arith)
evaluates p ch k h w v vs s b (tree.and x y) = lighter p k _ _ h _ s false (omega arith) (omega arith)
evaluates p ch k h w v vs s b (tree.or x y) = lighter p k _ _ h _ s false (omega arith) (omega arith)
evaluates p ch k h w v vs s b (tree.conditional t e x y) = lighter p k _ _ h _ s false (omega arith) (omega arith)
evaluates p ch k h w v vs s b (tree.then_value e x) = lighter p k _ _ h _ s false (same (returns w)) (omega arith)

-- ---- values that aren't used

puts_place : (p : Program) (k : ℕ) (h : Place) (w : Work) (vs : Numbers) (s : Objects) (at : Pos) (q : PlaceTree) (e : ValueTree)
    → Falling p k (work.Perform (tree.unused (tree.assign at q e)) w) (To (config k h (steps.put_place p k q (tree.assign at q e) e w) vs s false))
puts_place p k h w vs s at (tree.scalar t x) e = lighter p k _ _ h _ s false (same (returns w)) (omega arith)
puts_place p k h w vs s at (tree.element t x r i) e = lighter p k _ _ h _ s false (same (returns w)) (omega arith)

renews_place : (p : Program) (k : ℕ) (h : Place) (w : Work) (vs : Numbers) (s : Objects) (op : Op) (at : Pos) (o : IntType) (q : PlaceTree) (e : ValueTree)
    → Falling p k (work.Perform (tree.unused (tree.update op at o q e)) w) (To (config k h (steps.renew_place p k op at o q (tree.update op at o q e) e w) vs s false))
renews_place p k h w vs s op at o (tree.scalar t x) e = lighter p k _ _ h _ s false (same (returns w)) (omega arith)
renews_place p k h w vs s op at o (tree.element t x r i) e = lighter p k _ _ h _ s false (same (returns w)) (omega arith)

advances_place : (p : Program) (k : ℕ) (h : Place) (w : Work) (vs : Numbers) (s : Objects) (op : Op) (at : Pos) (o : IntType) (q : PlaceTree) (prefix : Bool)
    → Falling p k (work.Perform (tree.unused (tree.step op at o q prefix)) w) (To (config k h (steps.advance_place p k op at o q w) vs s false))
advances_place p k h w vs s op at o (tree.scalar t x) prefix = lighter p k _ _ h _ s false (same (returns w)) (omega arith)
advances_place p k h w vs s op at o (tree.element t x r i) prefix = lighter p k _ _ h _ s false (same (returns w)) (omega arith)

unused : (p : Program) (k : ℕ) (h : Place) (w : Work) (vs : Numbers) (s : Objects) (e : ValueTree) → Falling p k (work.Perform (tree.unused e) w) (To (config k h (steps.unused p k e w) vs s false))
unused p k h w vs s (tree.constant t z) = lighter p k _ _ h _ s false (same (returns w)) (omega arith)
unused p k h w vs s (tree.read q) = lighter p k _ _ h _ s false (same (returns w)) (omega arith)
unused p k h w vs s (tree.assign at q e) = puts_place p k h w vs s at q e
unused p k h w vs s (tree.update op at o q e) = renews_place p k h w vs s op at o q e
unused p k h w vs s (tree.step op at o q prefix) = advances_place p k h w vs s op at o q prefix
unused p k h w vs s (tree.call t f n at es) = lighter p k _ _ h _ s false (same (returns w)) (omega arith)
unused p k h w vs s (tree.any t at) = lighter p k _ _ h _ s false (same (returns w)) (omega arith)
unused p k h w vs s (tree.unary op at t e) = lighter p k _ _ h _ s false (same (returns w)) (omega arith)
unused p k h w vs s (tree.convert t e) = lighter p k _ _ h _ s false (same (returns w)) (omega arith)
unused p k h w vs s (tree.binary op at t a b) = lighter p k _ _ h _ s false (same (returns w)) (omega arith)
unused p k h w vs s (tree.and a b) = lighter p k _ _ h _ s false (same (returns w)) (omega arith)
unused p k h w vs s (tree.or a b) = lighter p k _ _ h _ s false (same (returns w)) (omega arith)
unused p k h w vs s (tree.conditional t e a b) = lighter p k _ _ h _ s false (same (returns w)) (omega arith)
unused p k h w vs s (tree.then_value e v) = lighter p k _ _ h _ s false (same (returns w)) (omega arith)

-- a condition that is converted to int
as_int : (p : Program) (k : ℕ) (v : ValueTree) → test p k (steps.as_int v) ≤ 4 + (value p k v + test p k v)
as_int p k v = by (represents Int (type_of v)) where
  by : (b : Bool) → test p k (if b then v else tree.convert Int v) ≤ 4 + (value p k v + test p k v)
  by true = omega arith
  by false = omega arith

performs : (p : Program) (k : ℕ) (h : Place) (w : Work) (vs : Numbers) (s : Objects) (e : EffectTree) → Falling p k (work.Perform e w) (To (config k h (steps.performed p k h e w) vs s false))
performs p k h w vs s (tree.unused v) = unused p k h w vs s v
performs p k h w vs s (tree.run f n at es) = lighter p k _ _ h _ s false (omega arith) (omega arith)
performs p k h w vs s (tree.assume at v) = lighter p k _ _ h _ s false (omega arith) (omega (arith, as_int p k v))
performs p k h w vs s (tree.assert at v) = lighter p k _ _ h _ s false (same (returns w)) (omega arith)
performs p k h w vs s (tree.abort at) = lighter p k _ _ h _ s false (omega arith) (omega arith)
performs p k h w vs s (tree.then_effect a b) = lighter p k _ _ h _ s false (same (returns w)) (omega arith)

-- ---- conditions

tests : (p : Program) (k : ℕ) (h : Place) (vs : Numbers) (s : Objects) (e : ValueTree) (y n : Way) → Falling p k (work.Test e y n) (To (config k h (steps.tested h e y n) vs s false))
tests p k h vs s (tree.constant t z) y n = lighter p k _ _ h _ s false (omega arith) (omega arith)
tests p k h vs s (tree.read q) y n = lighter p k _ _ h _ s false (omega arith) (omega arith)
tests p k h vs s (tree.assign at q e) y n = lighter p k _ _ h _ s false (omega arith) (omega arith)
tests p k h vs s (tree.update op at o q e) y n = lighter p k _ _ h _ s false (omega arith) (omega arith)
tests p k h vs s (tree.step op at o q prefix) y n = lighter p k _ _ h _ s false (omega arith) (omega arith)
tests p k h vs s (tree.call t f m at es) y n = lighter p k _ _ h _ s false (omega arith) (omega arith)
tests p k h vs s (tree.any t at) y n = lighter p k _ _ h _ s false (omega arith) (omega arith)
tests p k h vs s (tree.unary op at t e) y n = by (is_not op) where
  by : (b : Bool) → Falling p k (work.Test (tree.unary op at t e) y n) (To (config k h (if b then work.Test e n y else work.Evaluate (tree.unary op at t e) (work.Branch y n)) vs s false))
  by true = lighter p k _ _ h _ s false (omega arith) (omega arith)
  by false = lighter p k _ _ h _ s false (omega arith) (omega arith)
tests p k h vs s (tree.convert t e) y n = lighter p k _ _ h _ s false (omega arith) (omega arith)
tests p k h vs s (tree.binary op at t a b) y n = lighter p k _ _ h _ s false (omega arith) (omega arith)
tests p k h vs s (tree.and a b) y n = lighter p k _ _ h _ s false (omega arith) (omega arith)
tests p k h vs s (tree.or a b) y n = lighter p k _ _ h _ s false (omega arith) (omega arith)
tests p k h vs s (tree.conditional t e a b) y n = lighter p k _ _ h _ s false (omega arith) (omega arith)
tests p k h vs s (tree.then_value e v) y n = lighter p k _ _ h _ s false (omega arith) (omega arith)

-- ---- declarations

declares : (p : Program) (ch : Numbers) (k : ℕ) (h : Place) (v w u : Work) (vs : Numbers) (s : Objects) (b : Bool) (d : DeclaredTree)
    → returns u ≤ returns w → declared p k d + weight p k u ≤ weight p k w → Falling p k w (steps.declares p ch (config k h v vs s b) d u)
declares p ch k h v w u vs s b (tree.scalar_object i at None) r l =
    chosen p k w _ _ ch _ (lighter p k w u _ _ _ _ r (omega (arith, l)))
declares p ch k h v w u vs s b (tree.scalar_object i at (Some e)) r l = lighter p k w _ _ _ _ false r (omega (arith, l))
declares p ch k h v w u vs s b (tree.array_object i at None) r l =
    chosen p k w _ _ ch _ (lighter p k w u _ _ _ _ r (omega (arith, l)))
declares p ch k h v w u vs s b (tree.array_object i at (Some es)) r l = lighter p k w _ _ _ _ _ r (omega (arith, l))
declares p ch k h v w u vs s b (tree.static_object i at) r l = lighter p k w _ _ _ _ false r (omega (arith, l))
declares p ch k h v w u vs s b (tree.hiding_constant x at) r l = lighter p k w _ _ _ _ false r (omega (arith, l))

declare_all : (p : Program) (ch : Numbers) (k : ℕ) (h : Place) (v w : Work) (vs : Numbers) (s : Objects) (b : Bool) (ds : List DeclaredTree) → Falling p k (work.Declare ds w) (steps.all_declared p ch (config k h v vs s b) ds w)
declare_all p ch k h v w vs s b [] = lighter p k _ w h vs s false (same (returns w)) (omega arith)
declare_all p ch k h v w vs s b (d ∷ ds) = declares p ch k h v (work.Declare (d ∷ ds) w) (work.Declare ds w) vs s b d (same (returns w)) (omega arith)

-- ---- statements

starts_for : (p : Program) (k : ℕ) (h : Place) (v : Work) (vs : Numbers) (s : Objects) (b : Bool) (at : Pos) (f : ForStartTree) (t : Option ValueTree) (third : Option EffectTree) (r : StatementTree) (i j : Place) (a : Ahead)
    → Falling p k (work.Do (tree.for_loop at f t third r) a) (steps.for_start (config k h v vs s b) f (work.Back i (work.For t third r) j a))
starts_for p k h v vs s b at (tree.declarations ds) t third r i j a = lighter p k _ _ h vs s false (omega arith) (omega arith)
starts_for p k h v vs s b at (tree.expression None) t third r i j a = lighter p k _ _ h vs s false (omega arith) (omega arith)
starts_for p k h v vs s b at (tree.expression (Some e)) t third r i j a = lighter p k _ _ h vs s false (omega arith) (omega arith)

gives_back : (p : Program) (k : ℕ) (h : Place) (v : Work) (vs : Numbers) (s : Objects) (b : Bool) (at : Pos) (o : Option IntType) (e : Option ValueTree) (a : Ahead) (c : Caller)
    → Falling p k (work.Do (tree.return at e) a) (steps.returns (config k h v vs s b) o e c)
gives_back p k h v vs s b at None None a c = lighter p k _ _ h vs s false (omega arith) (omega arith)
gives_back p k h v vs s b at None (Some e) a c = lighter p k _ _ h vs s false (omega arith) (omega arith)
gives_back p k h v vs s b at (Some t) None a c = lighter p k _ _ h vs s false (omega arith) (omega arith)
gives_back p k h v vs s b at (Some t) (Some e) a c = lighter p k _ _ h vs s false (omega arith) (omega arith)

does : (p : Program) (k : ℕ) (h : Place) (v : Work) (vs : Numbers) (s : Objects) (b : Bool) (r : StatementTree) (a : Ahead) → Falling p k (work.Do r a) (steps.does p (config k h v vs s b) r a)
does p k h v vs s b (tree.block at is) a = lighter p k _ _ h vs s false (omega arith) (omega arith)
does p k h v vs s b (tree.empty at) a = lighter p k _ _ h vs s false (omega arith) (omega arith)
does p k h v vs s b (tree.effect at e) a = lighter p k _ _ _ vs s false (omega arith) (omega arith)
does p k h v vs s b (tree.label at l r) a = λ e. absurd (cc e)
does p k h v vs s b (tree.case at i r) a = λ e. absurd (cc e)
does p k h v vs s b (tree.default at r) a = λ e. absurd (cc e)
does p k h v vs s b (tree.if_then at t r) a = lighter p k _ _ _ vs s false (omega arith) (omega arith)
does p k h v vs s b (tree.if_else at t r q) a = lighter p k _ _ _ vs s false (omega arith) (omega arith)
does p k h v vs s b (tree.switch at t e zs d r) a = lighter p k _ _ _ vs s false (omega arith) (omega arith)
does p k h v vs s b (tree.while at t r) a = λ e. absurd (cc e)
does p k h v vs s b (tree.do_while at r t) a = λ e. absurd (cc e)
does p k h v vs s b (tree.for_loop at f t third r) a = starts_for p k (steps.place at h.scope) v vs s b at f t third r _ _ a
does p k h v vs s b (tree.goto at l) a = taken p k h _ vs vs s b v (steps.gone_to p k l a)
does p k h v vs s b (tree.continue at) a = taken p k h _ vs vs s b v (steps.continued a)
does p k h v vs s b (tree.break at) a = taken p k h _ vs vs s b v (steps.broken a)
does p k h v vs s b (tree.return at e) a = gives_back p k (steps.place at h.scope) v vs s b at (function_of p k).returns e a (steps.caller_of a)

rest : (p : Program) (ch : Numbers) (k : ℕ) (h : Place) (v : Work) (vs : Numbers) (s : Objects) (b : Bool) (xs : Scope) (is : ItemTrees) (a : Ahead)
    → Falling p k (work.Go (work.Rest xs is a)) (steps.rest p ch (config k h v vs s b) xs is a)
rest p ch k h v vs s b xs tree.no_items a = lighter p k _ _ h vs s false (omega arith) (omega arith)
rest p ch k h v vs s b xs (tree.declared_before d is) a = declares p ch k (steps.place h.at xs) v _ _ vs s b d (omega arith) (omega arith)
rest p ch k h v vs s b xs (tree.statement_before r is) a = lighter p k _ _ _ vs s false (omega arith) (omega arith)

falls_off : (p : Program) (ch : Numbers) (k : ℕ) (h : Place) (v : Work) (vs : Numbers) (s : Objects) (b : Bool) (o : Option IntType) (c : Caller)
    → Falling p k (work.Go (work.End c)) (steps.falls p ch (config k h v vs s b) o c)
falls_off p ch k h v vs s b None c = lighter p k _ _ _ vs s false (omega arith) (omega arith)
falls_off p ch k h v vs s b (Some t) c = either p k _ (is_main p k) _ _ (lighter p k _ _ _ _ _ _ (omega arith) (omega arith)) (chosen p k _ t 1 ch _ (lighter p k _ _ _ _ _ _ (omega arith) (omega arith)))

goes : (p : Program) (ch : Numbers) (k : ℕ) (h : Place) (v : Work) (vs : Numbers) (s : Objects) (b : Bool) (a : Ahead) → Falling p k (work.Go a) (steps.goes p ch (config k h v vs s b) a)
goes p ch k h v vs s b (work.Rest xs is a) = rest p ch k h v vs s b xs is a
goes p ch k h v vs s b (work.Join j a) = λ e. absurd (cc e)
goes p ch k h v vs s b (work.Again j l i a) = λ e. absurd (cc e)
goes p ch k h v vs s b (work.Close j a) = λ e. absurd (cc e)
goes p ch k h v vs s b (work.End c) = falls_off p ch k _ v vs s b (function_of p k).returns c

turns : (p : Program) (k : ℕ) (h : Place) (v : Work) (vs : Numbers) (s : Objects) (b : Bool) (j : Place) (l : Loop) (e : Place) (a : Ahead) → Falling p k (work.Turn j l e a) (steps.turned (config k h v vs s b) j l e a)
turns p k h v vs s b j (work.While t r) e a = lighter p k _ _ h vs s false (omega arith) (omega arith)
turns p k h v vs s b j (work.DoWhile r t) e a = lighter p k _ _ h vs s false (omega arith) (omega arith)
turns p k h v vs s b j (work.For (Some t) third r) e a = lighter p k _ _ h vs s false (omega arith) (omega arith)
turns p k h v vs s b j (work.For None third r) e a = λ no. absurd (cc no)

chooses : (p : Program) (k : ℕ) (h : Place) (v : Work) (vs : Numbers) (s : Objects) (b : Bool) (t : IntType) (zs : List ℤ) (i : ℕ) (d : Bool) (r : StatementTree) (j : Place) (a : Ahead) (z : ℤ) (us : Numbers)
    → Falling p k (work.Choose t zs i d r j a) (steps.chooses p (config k h v vs s b) t zs i d r j a z us)
chooses p k h v vs s b t (y ∷ zs) i d r j a z us = either p k _ (int_eq z y) _ _ (taken p k h _ vs us s b v _) (λ no. absurd (cc no))
chooses p k h v vs s b t [] i true r j a z us = taken p k h _ vs us s b v _
chooses p k h v vs s b t [] i false r j a z us = λ no. absurd (cc no)

-- ---- calls

binds : (p : Program) (k : ℕ) (h : Place) (v w : Work) (vs : Numbers) (s : Objects) (b : Bool) (m i : ℕ) (ts : List IntType) → Falling p k (work.Bind m i ts w) (steps.bind (config k h v vs s b) m i ts w)
binds p k h v w vs s b m i [] = lighter p k _ w h vs s false (same (returns w)) (omega arith)
binds p k h v w vs s b m i (t ∷ ts) = on_below p k _ (length ts) vs _ (λ z us. lighter p k _ _ h _ _ _ (same (returns w)) (omega arith))

comes_back : (p : Program) (k : ℕ) (h : Place) (v : Work) (vs : Numbers) (s : Objects) (b : Bool) (c : Caller) → Falling p k (work.Return c) (steps.returned p (config k h v vs s b) c)
comes_back p k h v vs s b work.Nobody = tt
comes_back p k h v vs s b (work.Path j i w) = λ no. inr (inr (omega arith))

-- ---- work

claims : (p : Program) (k : ℕ) (h : Place) (v w : Work) (vs us : Numbers) (s : Objects) (b : Bool) (at : Pos) (z : ℤ)
    → Falling p k (work.Claim at w) (if is_true z then steps.comes (config k h v vs s b) h w us else steps.fails (config k h v vs s b) faults.Assert at)
claims p k h v w vs us s b at z = either p k _ (is_true z) _ _ (λ no. absurd (cc no)) tt

branches : (p : Program) (k : ℕ) (h : Place) (v : Work) (vs us : Numbers) (s : Objects) (b : Bool) (y n : Way) (z : ℤ)
    → Falling p k (work.Branch y n) (if is_true z then steps.takes (config k h v vs s b) y us else steps.takes (config k h v vs s b) n us)
branches p k h v vs us s b y n z = either p k _ (is_true z) _ _ (taken p k h _ vs us s b v y) (taken p k h _ vs us s b v n)

-- what each step leads to
pub falling : (p : Program) (ch : Numbers) (k : ℕ) (h : Place) (v : Work) (vs : Numbers) (s : Objects) (b : Bool) (w : Work) → Falling p k w (step_of p ch (config k h v vs s b) w)
falling p ch k h v vs s b (work.Go a) = goes p ch k h v vs s b a
falling p ch k h v vs s b (work.Do r a) = does p k h v vs s b r a
falling p ch k h v vs s b (work.Declare ds w) = declare_all p ch k h v w vs s b ds
falling p ch k h v vs s b (work.Perform e w) = performs p k h w vs s e
falling p ch k h v vs s b (work.Evaluate e w) = evaluates p ch k h w v vs s b e
falling p ch k h v vs s b (work.Test e y n) = tests p k h vs s e y n
falling p ch k h v vs s b (work.Keep w) = lighter p k (work.Keep w) w h vs s false (same (returns w)) (omega arith)
falling p ch k h v vs s b (work.Branch y n) = on_one p k (work.Branch y n) vs _ (λ z us. branches p k h v vs us s b y n z)
falling p ch k h v vs s b (work.Apply op at t w) =
    on_one p k (work.Apply op at t w) vs _ (λ z us. valued p k (work.Apply op at t w) (config k h v vs s b) at (value_of op t (wrapped t z) (wrapped t z)) (λ y. steps.on (config k h v vs s b) w (y ∷ us)) (λ y. lighter p k (work.Apply op at t w) w h (y ∷ us) s false (same (returns w)) (omega arith)))
falling p ch k h v vs s b (work.Operate op at t w) =
    on_two p k (work.Operate op at t w) vs _ (λ u z us. valued p k (work.Operate op at t w) (config k h v vs s b) at (steps.operated op t u z) (λ y. steps.on (config k h v vs s b) w (y ∷ us)) (λ y. lighter p k (work.Operate op at t w) w h (y ∷ us) s false (same (returns w)) (omega arith)))
falling p ch k h v vs s b (work.Convert t w) = on_one p k (work.Convert t w) vs _ (λ z us. lighter p k (work.Convert t w) w h _ s false (same (returns w)) (omega arith))
falling p ch k h v vs s b (work.Settle t w) = on_one p k (work.Settle t w) vs _ (λ z us. lighter p k (work.Settle t w) w h _ s false (same (returns w)) (omega arith))
falling p ch k h v vs s b (work.Truth z w) = lighter p k (work.Truth z w) w h _ s false (same (returns w)) (omega arith)
falling p ch k h v vs s b (work.Drop w) = on_one p k (work.Drop w) vs _ (λ z us. lighter p k (work.Drop w) w h _ s false (same (returns w)) (omega arith))
falling p ch k h v vs s b (work.Assign t x w) = on_one p k (work.Assign t x w) vs _ (λ z us. lighter p k (work.Assign t x w) w h _ _ _ (same (returns w)) (omega arith))
falling p ch k h v vs s b (work.Put t x w) = on_one p k (work.Put t x w) vs _ (λ z us. lighter p k (work.Put t x w) w h _ _ _ (same (returns w)) (omega arith))
falling p ch k h v vs s b (work.Update op at o t x w) =
    on_one p k (work.Update op at o t x w) vs _ (λ z us. valued p k (work.Update op at o t x w) (config k h v vs s b) at (steps.operated op o (number_of x s) z) (λ y. steps.writes (config k h v vs s b) x (wrapped t y ∷ []) w (wrapped t y ∷ us)) (λ y. lighter p k (work.Update op at o t x w) w h _ _ _ (same (returns w)) (omega arith)))
falling p ch k h v vs s b (work.Advance op at o t x w) =
    valued p k (work.Advance op at o t x w) (config k h v vs s b) at (steps.operated op o (number_of x s) (pos 1)) (λ y. steps.writes (config k h v vs s b) x (wrapped t y ∷ []) w vs) (λ y. lighter p k (work.Advance op at o t x w) w h _ _ _ (same (returns w)) (omega arith))
falling p ch k h v vs s b (work.Fetch t x w) = lighter p k (work.Fetch t x w) w h _ s false (same (returns w)) (omega arith)
falling p ch k h v vs s b (work.Load at a w) =
    on_one p k (work.Load at a w) vs _ (λ z us. indexed p k (work.Load at a w) (config k h v vs s b) at a z (λ j. steps.on (config k h v vs s b) w (steps.element_of a j s ∷ us)) (λ j. lighter p k (work.Load at a w) w h _ s false (same (returns w)) (omega arith)))
falling p ch k h v vs s b (work.Reload at a w) =
    on_two p k (work.Reload at a w) vs _ (λ i z us. indexed p k (work.Reload at a w) (config k h v vs s b) at a i (λ j. steps.on (config k h v vs s b) w (steps.element_of a j s ∷ z ∷ i ∷ us)) (λ j. lighter p k (work.Reload at a w) w h _ s false (same (returns w)) (omega arith)))
falling p ch k h v vs s b (work.Store at a w) =
    on_two p k (work.Store at a w) vs _ (λ i z us. indexed p k (work.Store at a w) (config k h v vs s b) at a i (λ j. steps.stores (config k h v vs s b) a j (wrapped a.int_type z) w us) (λ j. lighter p k (work.Store at a w) w h _ _ _ (same (returns w)) (omega arith)))
falling p ch k h v vs s b (work.StoreKept at a w) =
    on_two p k (work.StoreKept at a w) vs _ (λ i z us. indexed p k (work.StoreKept at a w) (config k h v vs s b) at a i (λ j. steps.stores (config k h v vs s b) a j z w (z ∷ us)) (λ j. lighter p k (work.StoreKept at a w) w h _ _ _ (same (returns w)) (omega arith)))
falling p ch k h v vs s b (work.Renew op at o r a w) =
    on_three p k (work.Renew op at o r a w) vs _ (λ i z u us. valued p k (work.Renew op at o r a w) (config k h v vs s b) at (steps.operated op o u z) (λ y. steps.with_index (config k h v vs s b) r a i (λ j. steps.stores (config k h v vs s b) a j (wrapped a.int_type y) w us))
    (λ y. indexed p k (work.Renew op at o r a w) (config k h v vs s b) r a i (λ j. steps.stores (config k h v vs s b) a j (wrapped a.int_type y) w us) (λ j. lighter p k (work.Renew op at o r a w) w h _ _ _ (same (returns w)) (omega arith))))
falling p ch k h v vs s b (work.Renewed op at o t w) =
    on_three p k (work.Renewed op at o t w) vs _ (λ i z u us. valued p k (work.Renewed op at o t w) (config k h v vs s b) at (steps.operated op o u z) (λ y. steps.on (config k h v vs s b) w (wrapped t y ∷ i ∷ us)) (λ y. lighter p k (work.Renewed op at o t w) w h _ s false (same (returns w)) (omega arith)))
falling p ch k h v vs s b (work.Replace op at o r a w) =
    on_three p k (work.Replace op at o r a w) vs _ (λ i z u us. valued p k (work.Replace op at o r a w) (config k h v vs s b) at (steps.operated op o u z) (λ y. steps.with_index (config k h v vs s b) r a i (λ j. steps.stores (config k h v vs s b) a j (wrapped a.int_type y) w (u ∷ us)))
    (λ y. indexed p k (work.Replace op at o r a w) (config k h v vs s b) r a i (λ j. steps.stores (config k h v vs s b) a j (wrapped a.int_type y) w (u ∷ us)) (λ j. lighter p k (work.Replace op at o r a w) w h _ _ _ (same (returns w)) (omega arith))))
falling p ch k h v vs s b (work.Fill a j tree.no_values w) = lighter p k (work.Fill a j tree.no_values w) w h _ s false (same (returns w)) (omega arith)
falling p ch k h v vs s b (work.Fill a j (tree.value_before e es) w) = lighter p k (work.Fill a j (tree.value_before e es) w) _ h _ s false (same (returns w)) (omega arith)
falling p ch k h v vs s b (work.Item a j w) = on_one p k (work.Item a j w) vs _ (λ z us. lighter p k (work.Item a j w) w h _ _ _ (same (returns w)) (omega arith))
falling p ch k h v vs s b (work.Claim at w) = on_one p k (work.Claim at w) vs _ (λ z us. claims p k h v w vs us s b at (wrapped Int z))
falling p ch k h v vs s b (work.Pass tree.no_values w) = lighter p k (work.Pass tree.no_values w) w h _ s false (same (returns w)) (omega arith)
falling p ch k h v vs s b (work.Pass (tree.value_before e es) w) = lighter p k (work.Pass (tree.value_before e es) w) _ h _ s false (same (returns w)) (omega arith)
falling p ch k h v vs s b (work.Bind m i ts w) = binds p k h v w vs s b m i ts
falling p ch k h v vs s b (work.Enter m w) = λ no. inr (inl (record { callee = m; behind = w; enters = refl; path = refl; returns = refl }))
falling p ch k h v vs s b (work.Leave c) = λ no. absurd (cc no)
falling p ch k h v vs s b (work.Return c) = comes_back p k h v vs s b c
falling p ch k h v vs s b (work.Turn j l e a) = turns p k h v vs s b j l e a
falling p ch k h v vs s b (work.Back j l e a) = λ no. absurd (cc no)
falling p ch k h v vs s b (work.Choose t zs i d r j a) = on_one p k (work.Choose t zs i d r j a) vs _ (λ z us. chooses p k h v vs s b t zs i d r j a z us)
