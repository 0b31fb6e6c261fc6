-- How many steps a run makes at most until one is a visit, or a part of a call is entered, or one returns.
use Rattle.std.proofs.Common.{ℕ, ◌+◌, List, [], ◌∷◌, length, Option, Some, None}
use Rattle.pk_typed.specs.Trees.{PlaceTree, ValueTree, EffectTree, ValueTrees, DeclaredTree, ForStartTree, StatementTree, ItemTrees}
use Rattle.pk_typed.specs.Trees as tree
use Rattle.pk_meaning.specs.Programs.{Program, function_of, callee}
use Rattle.pk_meaning.specs.Work as work
use Rattle.pk_meaning.specs.Work.{Loop, Ahead, Work}

-- how many parameters the callee of a call has
abbrev pub passes : Program → (path call : ℕ) → ℕ
passes p k n = length (function_of p (callee p k n)).parameters

abbrev mutual
  pub place : Program → ℕ → PlaceTree → ℕ
  place p k (tree.scalar t x) = 0
  place p k (tree.element t x at i) = 2 + value p k i

  pub value : Program → ℕ → ValueTree → ℕ
  value p k (tree.constant t z) = 1
  value p k (tree.read q) = 1 + place p k q
  value p k (tree.assign at q e) = 6 + (place p k q + value p k e)
  value p k (tree.update op at o q e) = 8 + (place p k q + value p k e)
  value p k (tree.step op at o q prefix) = 12 + place p k q
  value p k (tree.call t f n at es) = 6 + (values p k es + passes p k n)
  value p k (tree.any t at) = 1
  value p k (tree.unary op at t e) = 2 + value p k e
  value p k (tree.convert t e) = 2 + value p k e
  value p k (tree.binary op at t a b) = 4 + (value p k a + value p k b)
  value p k (tree.and a b) = 3 + test p k a
  value p k (tree.or a b) = 3 + test p k a
  value p k (tree.conditional t e a b) = 1 + test p k e
  value p k (tree.then_value e v) = 1 + (effect p k e + value p k v)

  -- as a condition
  pub test : Program → ℕ → ValueTree → ℕ
  test p k (tree.constant t z) = 3
  test p k (tree.read q) = 3 + place p k q
  test p k (tree.assign at q e) = 8 + (place p k q + value p k e)
  test p k (tree.update op at o q e) = 10 + (place p k q + value p k e)
  test p k (tree.step op at o q prefix) = 14 + place p k q
  test p k (tree.call t f n at es) = 8 + (values p k es + passes p k n)
  test p k (tree.any t at) = 3
  test p k (tree.unary op at t e) = 4 + (value p k e + test p k e)
  test p k (tree.convert t e) = 4 + value p k e
  test p k (tree.binary op at t a b) = 6 + (value p k a + value p k b)
  test p k (tree.and a b) = 1 + test p k a
  test p k (tree.or a b) = 1 + test p k a
  test p k (tree.conditional t e a b) = 3 + test p k e
  test p k (tree.then_value e v) = 1 + (effect p k e + test p k v)

  pub effect : Program → ℕ → EffectTree → ℕ
  effect p k (tree.unused v) = 2 + value p k v
  effect p k (tree.run f n at es) = 6 + (values p k es + passes p k n)
  effect p k (tree.assume at v) = 5 + (value p k v + test p k v)
  effect p k (tree.assert at v) = 2 + value p k v
  effect p k (tree.abort at) = 4
  effect p k (tree.then_effect a b) = 1 + (effect p k a + effect p k b)

  pub values : Program → ℕ → ValueTrees → ℕ
  values p k tree.no_values = 0
  values p k (tree.value_before e es) = 2 + (value p k e + values p k es)

abbrev pub declared : Program → ℕ → DeclaredTree → ℕ
declared p k (tree.scalar_object i at None) = 2
declared p k (tree.scalar_object i at (Some e)) = 2 + value p k e
declared p k (tree.array_object i at None) = 2
declared p k (tree.array_object i at (Some es)) = 2 + values p k es
declared p k (tree.static_object i at) = 1
declared p k (tree.hiding_constant x at) = 1

abbrev pub all_declared : Program → ℕ → List DeclaredTree → ℕ
all_declared p k [] = 0
all_declared p k (d ∷ ds) = 1 + (declared p k d + all_declared p k ds)

abbrev pub first_part : Program → ℕ → ForStartTree → ℕ
first_part p k (tree.declarations ds) = 3 + all_declared p k ds
first_part p k (tree.expression None) = 3
first_part p k (tree.expression (Some e)) = 3 + effect p k e

abbrev pub value_if : Program → ℕ → Option ValueTree → ℕ
value_if p k None = 1
value_if p k (Some e) = test p k e

abbrev mutual
  pub statement : Program → ℕ → StatementTree → ℕ
  statement p k (tree.block at is) = 2 + items p k is
  statement p k (tree.empty at) = 2
  statement p k (tree.effect at e) = 2 + effect p k e
  statement p k (tree.label at l s) = 1
  statement p k (tree.case at i s) = 1
  statement p k (tree.default at s) = 1
  statement p k (tree.if_then at t s) = 1 + test p k t
  statement p k (tree.if_else at t s r) = 1 + test p k t
  statement p k (tree.switch at t e zs b s) = 4 + value p k e
  statement p k (tree.while at t s) = 1
  statement p k (tree.do_while at s t) = 1
  statement p k (tree.for_loop at f t third s) = first_part p k f
  statement p k (tree.goto at l) = 1
  statement p k (tree.continue at) = 1
  statement p k (tree.break at) = 1
  statement p k (tree.return at None) = 2
  statement p k (tree.return at (Some e)) = 3 + value p k e

  pub items : Program → ℕ → ItemTrees → ℕ
  items p k tree.no_items = 1
  items p k (tree.declared_before d is) = declared p k d + items p k is
  items p k (tree.statement_before s is) = 1 + (statement p k s + items p k is)

-- a loop where it begins again
abbrev pub turn : Program → ℕ → Loop → ℕ
turn p k (work.While t s) = 1 + test p k t
turn p k (work.DoWhile s t) = 1 + statement p k s
turn p k (work.For t third s) = 1 + value_if p k t

-- up to the next visit
abbrev pub ahead : Program → ℕ → Ahead → ℕ
ahead p k (work.Rest xs is a) = items p k is + ahead p k a
ahead p k (work.Join h a) = 0
ahead p k (work.Again h l e a) = 0
ahead p k (work.Close h a) = 0
ahead p k (work.End c) = 2

abbrev pub weight : Program → ℕ → Work → ℕ
weight p k (work.Go a) = 1 + ahead p k a
weight p k (work.Do s a) = statement p k s + ahead p k a
weight p k (work.Declare ds w) = 1 + (all_declared p k ds + weight p k w)
weight p k (work.Perform e w) = effect p k e + weight p k w
weight p k (work.Evaluate e w) = value p k e + weight p k w
weight p k (work.Test e y n) = test p k e
weight p k (work.Keep w) = 1 + weight p k w
weight p k (work.Branch y n) = 1
weight p k (work.Apply op at t w) = 1 + weight p k w
weight p k (work.Operate op at t w) = 1 + weight p k w
weight p k (work.Convert t w) = 1 + weight p k w
weight p k (work.Settle t w) = 1 + weight p k w
weight p k (work.Truth z w) = 1 + weight p k w
weight p k (work.Drop w) = 1 + weight p k w
weight p k (work.Assign t x w) = 1 + weight p k w
weight p k (work.Put t x w) = 1 + weight p k w
weight p k (work.Update op at o t x w) = 1 + weight p k w
weight p k (work.Advance op at o t x w) = 1 + weight p k w
weight p k (work.Fetch t x w) = 1 + weight p k w
weight p k (work.Load at a w) = 1 + weight p k w
weight p k (work.Reload at a w) = 1 + weight p k w
weight p k (work.Store at a w) = 1 + weight p k w
weight p k (work.StoreKept at a w) = 1 + weight p k w
weight p k (work.Renew op at o r a w) = 1 + weight p k w
weight p k (work.Renewed op at o t w) = 1 + weight p k w
weight p k (work.Replace op at o r a w) = 1 + weight p k w
weight p k (work.Fill a j es w) = 1 + (values p k es + weight p k w)
weight p k (work.Item a j w) = 1 + weight p k w
weight p k (work.Claim at w) = 1 + weight p k w
weight p k (work.Pass es w) = 1 + (values p k es + weight p k w)
weight p k (work.Bind m i ts w) = 1 + (length ts + weight p k w)
weight p k (work.Enter m w) = 1
weight p k (work.Leave c) = 1
weight p k (work.Return c) = 1
weight p k (work.Turn h l e a) = turn p k l
weight p k (work.Back h l e a) = 1
weight p k (work.Choose t zs i b s h a) = 1

-- how many returns follow one another before the next visit
abbrev pub returns : Work → ℕ
returns (work.Go a) = 0
returns (work.Do s a) = 0
returns (work.Declare ds w) = returns w
returns (work.Perform e w) = returns w
returns (work.Evaluate e w) = returns w
returns (work.Test e y n) = 0
returns (work.Keep w) = returns w
returns (work.Branch y n) = 0
returns (work.Apply op at t w) = returns w
returns (work.Operate op at t w) = returns w
returns (work.Convert t w) = returns w
returns (work.Settle t w) = returns w
returns (work.Truth z w) = returns w
returns (work.Drop w) = returns w
returns (work.Assign t x w) = returns w
returns (work.Put t x w) = returns w
returns (work.Update op at o t x w) = returns w
returns (work.Advance op at o t x w) = returns w
returns (work.Fetch t x w) = returns w
returns (work.Load at a w) = returns w
returns (work.Reload at a w) = returns w
returns (work.Store at a w) = returns w
returns (work.StoreKept at a w) = returns w
returns (work.Renew op at o r a w) = returns w
returns (work.Renewed op at o t w) = returns w
returns (work.Replace op at o r a w) = returns w
returns (work.Fill a j es w) = returns w
returns (work.Item a j w) = returns w
returns (work.Claim at w) = returns w
returns (work.Pass es w) = returns w
returns (work.Bind m i ts w) = returns w
returns (work.Enter m w) = 0
returns (work.Leave c) = 0
returns (work.Return work.Nobody) = 0
returns (work.Return (work.Path k h w)) = 1 + returns w
returns (work.Turn h l e a) = 0
returns (work.Back h l e a) = 0
returns (work.Choose t zs i b s h a) = 0
