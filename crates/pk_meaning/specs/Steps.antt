-- What a program does, step by step (C99 6.5, 6.8). Operands are evaluated from left to right, arguments too; an index is tested where the element is read or written.
use Rattle.std.specs.Prelude.{ℕ, zero, suc, ◌+◌, nat_eq, Bool, true, false, if◌then◌else◌, ℤ, pos, unsigned_abs, List, [], ◌∷◌, length, replicate, slice_set, Option, Some, None, Result, Ok, Err}
use Rattle.std.specs.Ordering.{int_eq}
use Rattle.pk_ctypes.specs.declared.places.Pos.{Pos}
use Rattle.pk_ctypes.specs.declared.types.IntType.{IntType}
use Rattle.pk_ctypes.specs.declared.types.IntType.TheVariants.{Int}
use Rattle.pk_ctypes.specs.declared.types.Op.{Op}
use Rattle.pk_ctypes.specs.declared.faults.Fault.{Fault}
use Rattle.pk_ctypes.specs.declared.faults.Fault.TheVariants as faults
use Rattle.pk_ctypes.specs.Types.{represents, wrapped}
use Rattle.pk_ctypes.specs.Operators.{value_of, right_number, is_not}
use Rattle.pk_typed.specs.Trees.{PlaceTree, ValueTree, EffectTree, ValueTrees, DeclaredTree, ForStartTree, StatementTree, ItemTrees, no_values, value_before, no_items, declared_before, statement_before, scalar_object, array_object, static_object, hiding_constant}
use Rattle.pk_typed.specs.Trees as tree
use Rattle.pk_typed.specs.Types.{type_of}
use Rattle.pk_graph.specs.declared.trees.Site.{Site}
use Rattle.pk_graph.specs.Kinds.{count_of}
use Rattle.pk_graph.specs.Steps.{Numbers, number_at, is_true, is_index, are_any}
use Rattle.pk_meaning.specs.Objects.{Object, file, local, result, Scope, Array, Objects, numbers_of, with_numbers, number_of, is_in_scope}
use Rattle.pk_meaning.specs.Programs.{Program, function_of, block_of, local_of, callee, object_of, array_of, with_local, with_declared, with_all_declared, body_scope, is_main}
use Rattle.pk_meaning.specs.Work.{Place, Loop, While, DoWhile, For, Way, Onward, Refused, Lost, Caller, Nobody, Path, Ahead, Rest, Join, Again, Close, End, Work, Go, Do, Declare, Perform, Evaluate, Test, Keep, Branch, Apply, Operate, Convert, Settle, Truth, Drop, Assign, Put, Update, Advance, Fetch, Load, Reload, Store, StoreKept, Renew, Renewed, Replace, Fill, Item, Claim, Pass, Bind, Enter, Leave, Return, Turn, Back, Choose}

-- ---- labels, cases and jumps (C99 6.8.1, 6.8.6)

abbrev pub place : Pos → Scope → Place
place p xs = record { at = p; scope = xs }

-- what a jump looks for: a label, a case by its number, the default
pub data Mark : Type 0 where
  labelled : ℕ → Mark
  numbered : ℕ → Mark
  otherwise : Mark

abbrev pub is_label : Mark → ℕ → Bool
is_label (labelled l) m = nat_eq l m
is_label mark m = false

abbrev pub is_case : Mark → ℕ → Bool
is_case (numbered i) m = nat_eq i m
is_case mark m = false

abbrev pub is_default : Mark → Bool
is_default otherwise = true
is_default mark = false

-- a label may stand in a switch, but the cases of an inner switch are its own
abbrev pub past_switch : Mark → (inner outer : Way) → Way
past_switch (labelled l) w o = w
past_switch mark w o = o

-- the names in scope in a `for`, behind its first part
abbrev pub for_scope : Program → (path : ℕ) → ForStartTree → Scope → Scope
for_scope p k (tree.declarations ds) xs = with_all_declared p k ds xs
for_scope p k (tree.expression e) xs = xs

abbrev mutual
  -- The way to a mark in a statement, behind which comes a, with names in scope; o where the statement has no such mark.
  pub found : Program → (path : ℕ) → Mark → Scope → StatementTree → Ahead → Way → Way
  found p k m xs (tree.block at is) a o = found_in p k m xs is a o
  found p k m xs (tree.empty at) a o = o
  found p k m xs (tree.effect at e) a o = o
  found p k m xs (tree.label at l s) a o = if is_label m l then Onward (place at xs) (Do s a) else found p k m xs s a o
  found p k m xs (tree.case at i s) a o = if is_case m i then Onward (place at xs) (Do s a) else found p k m xs s a o
  found p k m xs (tree.default at s) a o = if is_default m then Onward (place at xs) (Do s a) else found p k m xs s a o
  found p k m xs (tree.if_then at c s) a o = found p k m xs s (Join (place at xs) a) o
  found p k m xs (tree.if_else at c s r) a o =
      found p k m xs s (Join (place at xs) a) (found p k m xs r (Join (place at xs) a) o)
  found p k m xs (tree.switch at t e zs b s) a o = past_switch m (found p k m xs s (Close (place at xs) a) o) o
  found p k m xs (tree.while at c s) a o = found p k m xs s (Again (place at xs) (While c s) (place at xs) a) o
  found p k m xs (tree.do_while at s c) a o = found p k m xs s (Again (place at xs) (DoWhile s c) (place at xs) a) o
  found p k m xs (tree.for_loop at f c e s) a o =
      let ys = for_scope p k f xs in found p k m ys s (Again (place at ys) (For c e s) (place at xs) a) o
  found p k m xs (tree.goto at l) a o = o
  found p k m xs (tree.continue at) a o = o
  found p k m xs (tree.break at) a o = o
  found p k m xs (tree.return at e) a o = o

  pub found_in : Program → (path : ℕ) → Mark → Scope → ItemTrees → Ahead → Way → Way
  found_in p k m xs no_items a o = o
  found_in p k m xs (declared_before d is) a o = found_in p k m (with_declared p k d xs) is a o
  found_in p k m xs (statement_before s is) a o = found p k m xs s (Rest xs is a) (found_in p k m xs is a o)

-- behind the innermost loop or switch
abbrev pub broken : Ahead → Way
broken (Rest xs is a) = broken a
broken (Join h a) = broken a
broken (Again h l e a) = Onward e (Go a)
broken (Close h a) = Onward h (Go a)
broken (End c) = Lost

abbrev pub performed_if : Option EffectTree → Work → Work
performed_if None w = w
performed_if (Some e) w = Perform e w

-- a loop from the end of its body
abbrev pub resumed : Place → Loop → (behind : Place) → Ahead → Work
resumed h (While c s) e a = Turn h (While c s) e a
resumed h (DoWhile s c) e a = Test c (Onward h (Turn h (DoWhile s c) e a)) (Onward e (Go a))
resumed h (For c third s) e a = performed_if third (Back h (For c third s) e a)

-- the end of the innermost loop's body
abbrev pub continued : Ahead → Way
continued (Rest xs is a) = continued a
continued (Join h a) = continued a
continued (Again h l e a) = Onward h (resumed h l e a)
continued (Close h a) = continued a
continued (End c) = Lost

-- what waits for the function's end
abbrev pub caller_of : Ahead → Caller
caller_of (Rest xs is a) = caller_of a
caller_of (Join h a) = caller_of a
caller_of (Again h l e a) = caller_of a
caller_of (Close h a) = caller_of a
caller_of (End c) = c

-- a label of the function
abbrev pub gone_to : Program → (path : ℕ) → ℕ → Ahead → Way
gone_to p k l a = found_in p k (labelled l) (body_scope p k) (block_of p k).items (End (caller_of a)) Lost

-- ---- configurations

-- Where a run is: in a call path, at a place; the work and the values that wait; what the objects hold. The last step came to a visit where the run passed on to a place, tested something, or wrote an object in scope.
pub record Config : Type 0 where
  pub path : ℕ
  pub here : Place
  pub work : Work
  pub values : Numbers
  pub objects : Objects
  pub is_visit : Bool

pub data Next : Type 0 where
  To : Config → Next
  -- the run ends
  Faulted : Fault → Site → Next
  Assumed : Next
  Returned : Option ℤ → Next
  -- numbers have to be chosen: as many of the type
  Wants : IntType → ℕ → Next
  -- no configuration of a checked program
  Stuck : Next

-- on with other work and values, which is no visit
abbrev pub on : Config → Work → Numbers → Next
on c w vs = To (record c { work = w; values = vs; is_visit = false })

abbrev pub standing : Place → Config → Config
standing h c = record c { here = h }

abbrev pub comes : Config → Place → Work → Numbers → Next
comes c h w vs = To (record c { here = h; work = w; values = vs; is_visit = true })

-- on along a way
abbrev pub takes : Config → Way → Numbers → Next
takes c (Onward h w) vs = comes c h w vs
takes c Refused vs = Assumed
takes c Lost vs = Stuck

-- an object holds these numbers from here on
abbrev pub writes : Config → Object → Numbers → Work → Numbers → Next
writes c x zs w vs =
    To (record c {
      work = w;
      values = vs;
      objects = with_numbers x zs c.objects;
      is_visit = is_in_scope x c.here.scope;
    })

abbrev pub fails : Config → Fault → Pos → Next
fails c f at = Faulted f (record { path = c.path; at = at })

-- ---- values that wait

abbrev pub on_top : Numbers → (ℤ → Numbers → Next) → Next
on_top [] f = Stuck
on_top (v ∷ vs) f = f v vs

-- the value below the topmost comes first
abbrev pub on_two : Numbers → (ℤ → ℤ → Numbers → Next) → Next
on_two vs f = on_top vs (λ w rest. on_top rest (λ v more. f v w more))

abbrev pub on_three : Numbers → (ℤ → ℤ → ℤ → Numbers → Next) → Next
on_three vs f = on_top vs (λ w rest. on_two rest (λ u v more. f u v w more))

-- the value under n others
abbrev pub on_below : ℕ → Numbers → (ℤ → Numbers → Next) → Next
on_below n [] f = Stuck
on_below zero (v ∷ vs) f = f v vs
on_below (suc n) (v ∷ vs) f = on_below n vs (λ w rest. f w (v ∷ rest))

abbrev pub with_value : Config → Pos → Result ℤ Fault → (ℤ → Next) → Next
with_value c at (Ok v) f = f v
with_value c at (Err e) f = fails c e at

-- any numbers of the type
abbrev pub with_choice : IntType → ℕ → Numbers → Next → Next
with_choice t n ch next = if are_any t n ch then next else Wants t n

-- ---- operators (C99 6.5)

-- what an operator gives at the numbers of its operands
abbrev pub operated : Op → IntType → (left right : ℤ) → Result ℤ Fault
operated op t v w = value_of op t (wrapped t v) (right_number op t w)

-- ---- elements (C99 6.5.2.1)

abbrev pub with_index : Config → Pos → Array → ℤ → (ℕ → Next) → Next
with_index c at a i f = if is_index a.length i then f (unsigned_abs i) else fails c faults.Index at

abbrev pub element_of : Array → ℕ → Objects → ℤ
element_of a j s = number_at (numbers_of a.object s) j

abbrev pub stores : Config → Array → ℕ → ℤ → Work → Numbers → Next
stores c a j v w vs = writes c a.object (slice_set (numbers_of a.object c.objects) j v) w vs

-- ---- expressions

abbrev pub one : ValueTree
one = tree.constant Int (pos 1)

-- `a[i] op= e`, `a[i]++`: index, right side, the element; w does the rest
abbrev pub reload : Pos → Array → (i e : ValueTree) → Work → Work
reload at a i e w = Evaluate i (Keep (Evaluate e (Keep (Reload at a w))))

-- a call of a path: its arguments, its parameters, its body
abbrev pub called : Program → (path n : ℕ) → ValueTrees → Work → Work
called p k n es w = let m = callee p k n in Pass es (Bind m 0 (function_of p m).parameters (Enter m w))

-- a value that is read, and one of an assignment (C99 6.5.16)
abbrev pub read_place : Program → Config → PlaceTree → Work → Next
read_place p c (tree.scalar t x) w = on c w (number_of (object_of c.path x) c.objects ∷ c.values)
read_place p c (tree.element t x at i) w = on c (Evaluate i (Load at (array_of p c.path t x) w)) c.values

abbrev pub assigned : Program → (path : ℕ) → PlaceTree → ValueTree → Work → Work
assigned p k (tree.scalar t x) e w = Evaluate e (Assign t (object_of k x) w)
assigned p k (tree.element t x at i) e w = let a =
    array_of p k t x in Evaluate i (Keep (Evaluate e (Settle t (StoreKept at a w))))

abbrev pub updated : Program → (path : ℕ) → Op → Pos → IntType → PlaceTree → ValueTree → Work → Work
updated p k op at o (tree.scalar t x) e w = Evaluate e (Update op at o t (object_of k x) w)
updated p k op at o (tree.element t x r i) e w = let a =
    array_of p k t x in reload r a i e (Renewed op at o t (StoreKept r a w))

-- `x++` (C99 6.5.2.4)
abbrev pub stepped : Program → Config → Op → Pos → IntType → PlaceTree → Work → Next
stepped p c op at o (tree.scalar t x) w =
    let y = object_of c.path x in on c (Advance op at o t y w) (number_of y c.objects ∷ c.values)
stepped p c op at o (tree.element t x r i) w =
    let a = array_of p c.path t x in on c (reload r a i one (Replace op at o r a w)) c.values

-- the value of an expression, with the numbers that are chosen
abbrev pub evaluate : Program → Numbers → Config → ValueTree → Work → Next
evaluate p ch c (tree.constant t z) w = on c w (z ∷ c.values)
evaluate p ch c (tree.read q) w = read_place p c q w
evaluate p ch c (tree.assign at q e) w = on c (assigned p c.path q e w) c.values
evaluate p ch c (tree.update op at o q e) w = on c (updated p c.path op at o q e w) c.values
evaluate p ch c (tree.step op at o q prefix) w =
    if prefix then on c (updated p c.path op at o q one w) c.values else stepped p c op at o q w
evaluate p ch c (tree.call t f n at es) w =
    on c (called p c.path n es (Fetch t (result (callee p c.path n)) w)) c.values
evaluate p ch c (tree.any t at) w = with_choice t 1 ch (on c w (number_at ch 0 ∷ c.values))
evaluate p ch c (tree.unary op at t e) w = on c (Evaluate e (Apply op at t w)) c.values
evaluate p ch c (tree.convert t e) w = on c (Evaluate e (Convert t w)) c.values
evaluate p ch c (tree.binary op at t a b) w = on c (Evaluate a (Keep (Evaluate b (Operate op at t w)))) c.values
evaluate p ch c (tree.and a b) w =
    on c (Test (tree.and a b) (Onward c.here (Truth (pos 1) w)) (Onward c.here (Truth (pos 0) w))) c.values
evaluate p ch c (tree.or a b) w =
    on c (Test (tree.or a b) (Onward c.here (Truth (pos 1) w)) (Onward c.here (Truth (pos 0) w))) c.values
evaluate p ch c (tree.conditional t e a b) w =
    on c (Test e (Onward c.here (Evaluate a (Settle t w))) (Onward c.here (Evaluate b (Settle t w)))) c.values
evaluate p ch c (tree.then_value e v) w = on c (Perform e (Evaluate v w)) c.values

-- an expression whose value isn't used
abbrev pub put_place : Program → (path : ℕ) → PlaceTree → (whole e : ValueTree) → Work → Work
put_place p k (tree.scalar t x) v e w = Evaluate v (Drop w)
put_place p k (tree.element t x at i) v e w = let a = array_of p k t x in Evaluate i (Keep (Evaluate e (Store at a w)))

abbrev pub renew_place : Program → (path : ℕ) → Op → Pos → IntType → PlaceTree → (whole e : ValueTree) → Work → Work
renew_place p k op at o (tree.scalar t x) v e w = Evaluate v (Drop w)
renew_place p k op at o (tree.element t x r i) v e w = let a = array_of p k t x in reload r a i e (Renew op at o r a w)

abbrev pub advance_place : Program → (path : ℕ) → Op → Pos → IntType → PlaceTree → Work → Work
advance_place p k op at o (tree.scalar t x) w = Advance op at o t (object_of k x) w
advance_place p k op at o (tree.element t x r i) w = let a = array_of p k t x in reload r a i one (Renew op at o r a w)

abbrev pub unused : Program → (path : ℕ) → ValueTree → Work → Work
unused p k (tree.assign at q e) w = put_place p k q (tree.assign at q e) e w
unused p k (tree.update op at o q e) w = renew_place p k op at o q (tree.update op at o q e) e w
unused p k (tree.step op at o q prefix) w = advance_place p k op at o q w
unused p k (tree.then_value e v) w = Perform e (Perform (tree.unused v) w)
unused p k v w = Evaluate v (Drop w)

-- converted to int, where that changes a value (C99 6.5.2.2)
abbrev pub as_int : ValueTree → ValueTree
as_int e = if represents Int (type_of e) then e else tree.convert Int e

abbrev pub performed : Program → (path : ℕ) → Place → EffectTree → Work → Work
performed p k h (tree.unused v) w = unused p k v w
performed p k h (tree.run f n at es) w = called p k n es w
performed p k h (tree.assume at v) w = Test (as_int v) (Onward h w) Refused
performed p k h (tree.assert at v) w = Evaluate v (Claim at w)
performed p k h (tree.abort at) w = Test (tree.constant Int (pos 0)) (Onward h w) Refused
performed p k h (tree.then_effect a b) w = Perform a (Perform b w)

-- a condition: yes where it is true, else no (C99 6.5.13, 6.5.14)
abbrev pub tested : Place → ValueTree → (yes no : Way) → Work
tested h (tree.unary op at t e) y n = if is_not op then Test e n y else Evaluate (tree.unary op at t e) (Branch y n)
tested h (tree.and a b) y n = Test a (Onward h (Test b y n)) n
tested h (tree.or a b) y n = Test a y (Onward h (Test b y n))
tested h (tree.then_value e v) y n = Perform e (Test v y n)
tested h v y n = Evaluate v (Branch y n)

-- arguments in order
abbrev pub pass : ValueTrees → Work → Work
pass no_values w = w
pass (value_before e es) w = Evaluate e (Keep (Pass es w))

-- parameter i of a path has the value below those of the later ones
abbrev pub bind : Config → (path i : ℕ) → List IntType → Work → Next
bind c k i [] w = on c w c.values
bind c k i (t ∷ ts) w =
    on_below (length ts) c.values (λ v vs. writes c (local k i) (wrapped t v ∷ []) (Bind k (i + 1) ts w) vs)

-- ---- declarations (C99 6.7.8)

-- the items of a braced list, from element j on
abbrev pub fill : Array → ℕ → ValueTrees → Work → Work
fill a j no_values w = w
fill a j (value_before e es) w = Evaluate e (Item a j (Fill a (j + 1) es w))

-- an object without initialiser holds any numbers
abbrev pub anything : Program → Numbers → Config → ℕ → Work → Next
anything p ch c i w =
    let x = local_of p c.path i in
    with_choice x.int_type (count_of x.length) ch (writes c (local c.path i) ch w c.values)

abbrev pub scalar_first : Program → Numbers → Config → ℕ → Option ValueTree → Work → Next
scalar_first p ch c i None w = anything p ch c i w
scalar_first p ch c i (Some e) w = on c (Evaluate e (Put (local_of p c.path i).int_type (local c.path i) w)) c.values

abbrev pub array_first : Program → Numbers → Config → ℕ → Option ValueTrees → Work → Next
array_first p ch c i None w = anything p ch c i w
array_first p ch c i (Some es) w =
    let x = local_of p c.path i in
    let a : Array = record { object = local c.path i; int_type = x.int_type; length = count_of x.length } in
    writes c (local c.path i) (replicate a.length (pos 0)) (Fill a 0 es w) c.values

-- an object is in scope in its own initialiser; one that is static holds its initialiser already
abbrev pub declares : Program → Numbers → Config → DeclaredTree → Work → Next
declares p ch c (scalar_object i at e) w =
    scalar_first p ch (standing (place at (with_local p c.path i c.here.scope)) c) i e w
declares p ch c (array_object i at es) w =
    array_first p ch (standing (place at (with_local p c.path i c.here.scope)) c) i es w
declares p ch c (static_object n at) w = on (standing (place at (file n ∷ c.here.scope)) c) w c.values
declares p ch c (hiding_constant x at) w = on (standing (place at c.here.scope) c) w c.values

abbrev pub all_declared : Program → Numbers → Config → List DeclaredTree → Work → Next
all_declared p ch c [] w = on c w c.values
all_declared p ch c (d ∷ ds) w = declares p ch c d (Declare ds w)

-- ---- statements (C99 6.8)

-- on with statements of a block, where these names are in scope
abbrev pub rest : Program → Numbers → Config → Scope → ItemTrees → Ahead → Next
rest p ch c xs no_items a = on c (Go a) c.values
rest p ch c xs (declared_before d is) a =
    declares p ch (standing (place c.here.at xs) c) d (Go (Rest (with_declared p c.path d xs) is a))
rest p ch c xs (statement_before s is) a = on (standing (place c.here.at xs) c) (Do s (Rest xs is a)) c.values

-- a loop where it begins again; without a test it goes on at its body
abbrev pub turned : Config → Place → Loop → (behind : Place) → Ahead → Next
turned c h (While t s) e a = on c (Test t (Onward h (Do s (Again h (While t s) e a))) (Onward e (Go a))) c.values
turned c h (DoWhile s t) e a = on c (Do s (Again h (DoWhile s t) e a)) c.values
turned c h (For (Some t) third s) e a =
    on c (Test t (Onward h (Do s (Again h (For (Some t) third s) e a))) (Onward e (Go a))) c.values
turned c h (For None third s) e a = comes c h (Do s (Again h (For None third s) e a)) c.values

abbrev pub for_start : Config → ForStartTree → Work → Next
for_start c (tree.declarations ds) w = on c (Declare ds w) c.values
for_start c (tree.expression None) w = on c w c.values
for_start c (tree.expression (Some e)) w = on c (Perform e w) c.values

-- to the function's exit, where a value is the result (C99 6.8.6.4)
abbrev pub returns : Config → Option IntType → Option ValueTree → Caller → Next
returns c (Some t) (Some e) k = on c (Evaluate e (Put t (result c.path) (Leave k))) c.values
returns c t e k = on c (Leave k) c.values

-- at the place of a statement
abbrev pub standing_at : Pos → Config → Config
standing_at at c = standing (place at c.here.scope) c

-- a statement, behind which comes a; the place of the configuration is its own
abbrev pub does : Program → Config → StatementTree → Ahead → Next
does p c (tree.block at is) a = on c (Go (Rest c.here.scope is a)) c.values
does p c (tree.empty at) a = on c (Go a) c.values
does p c (tree.effect at e) a = on (standing_at at c) (Perform e (Go a)) c.values
does p c (tree.label at l s) a = comes c (place at c.here.scope) (Do s a) c.values
does p c (tree.case at i s) a = comes c (place at c.here.scope) (Do s a) c.values
does p c (tree.default at s) a = comes c (place at c.here.scope) (Do s a) c.values
does p c (tree.if_then at t s) a =
    let h = place at c.here.scope in
    on (standing h c) (Test t (Onward h (Do s (Join h a))) (Onward h (Go (Join h a)))) c.values
does p c (tree.if_else at t s r) a =
    let h = place at c.here.scope in
    on (standing h c) (Test t (Onward h (Do s (Join h a))) (Onward h (Do r (Join h a)))) c.values
does p c (tree.switch at t e zs b s) a =
    let h = place at c.here.scope in on (standing h c) (Evaluate e (Convert t (Keep (Choose t zs 0 b s h a)))) c.values
does p c (tree.while at t s) a = let h = place at c.here.scope in comes c h (Turn h (While t s) h a) c.values
does p c (tree.do_while at s t) a = let h = place at c.here.scope in comes c h (Turn h (DoWhile s t) h a) c.values
does p c (tree.for_loop at f t third s) a =
    let h = place at c.here.scope in
    let inner = place at (for_scope p c.path f c.here.scope) in
    for_start (standing h c) f (Back inner (For t third s) h a)
does p c (tree.goto at l) a = takes c (gone_to p c.path l a) c.values
does p c (tree.continue at) a = takes c (continued a) c.values
does p c (tree.break at) a = takes c (broken a) c.values
does p c (tree.return at e) a = returns (standing_at at c) (function_of p c.path).returns e (caller_of a)

-- the cases that are left, of a switch at h, with this value (C99 6.8.4.2)
abbrev pub chooses : Program → Config → IntType → List ℤ → ℕ → Bool → StatementTree → Place → Ahead → ℤ → Numbers → Next
chooses p c t (z ∷ zs) i b s h a v vs =
    if int_eq v z then takes c (found p c.path (numbered i) h.scope s (Close h a) Lost) vs
    else comes c h (Choose t zs (i + 1) b s h a) (v ∷ vs)
chooses p c t [] i true s h a v vs = takes c (found p c.path otherwise h.scope s (Close h a) Lost) vs
chooses p c t [] i false s h a v vs = comes c h (Go a) vs

-- falling off the end of a function: without a result, with 0 of main (C99 5.1.2.2.3), else with any (6.9.1)
abbrev pub falls : Program → Numbers → Config → Option IntType → Caller → Next
falls p ch c None k = on c (Leave k) c.values
falls p ch c (Some t) k =
    if is_main p c.path then writes c (result c.path) (pos 0 ∷ []) (Leave k) c.values
    else with_choice t 1 ch (writes c (result c.path) ch (Leave k) c.values)

-- what comes behind a statement
abbrev pub goes : Program → Numbers → Config → Ahead → Next
goes p ch c (Rest xs is a) = rest p ch c xs is a
goes p ch c (Join h a) = comes c h (Go a) c.values
goes p ch c (Again h l e a) = comes c h (resumed h l e a) c.values
goes p ch c (Close h a) = comes c h (Go a) c.values
goes p ch c (End k) =
    falls p ch (standing (place (block_of p c.path).closed (body_scope p c.path)) c) (function_of p c.path).returns k

-- ---- calls (C99 6.5.2.2)

-- between a function's braces
abbrev pub body_place : Program → (path : ℕ) → Place
body_place p k = place (block_of p k).opened (body_scope p k)

abbrev pub body_work : Program → (path : ℕ) → Caller → Work
body_work p k from = Go (Rest (body_scope p k) (block_of p k).items (End from))

abbrev pub enters : Program → Config → (path : ℕ) → Work → Next
enters p c k w = on (record c { path = k; here = body_place p k }) (body_work p k (Path c.path c.here w)) c.values

abbrev pub result_of : Config → Option IntType → Option ℤ
result_of c None = None
result_of c (Some t) = Some (number_of (result c.path) c.objects)

-- behind the exit: the caller goes on, or the run ends
abbrev pub returned : Program → Config → Caller → Next
returned p c Nobody = Returned (result_of c (function_of p c.path).returns)
returned p c (Path k h w) = on (record c { path = k; here = h }) w c.values

-- ---- one step, with the numbers that are chosen where some are

abbrev pub step_of : Program → Numbers → Config → Work → Next
step_of p ch c (Go a) = goes p ch c a
step_of p ch c (Do s a) = does p c s a
step_of p ch c (Declare ds w) = all_declared p ch c ds w
step_of p ch c (Perform e w) = on c (performed p c.path c.here e w) c.values
step_of p ch c (Evaluate e w) = evaluate p ch c e w
step_of p ch c (Test e y n) = on c (tested c.here e y n) c.values
step_of p ch c (Keep w) = on c w c.values
step_of p ch c (Branch y n) = on_top c.values (λ v vs. if is_true v then takes c y vs else takes c n vs)
step_of p ch c (Apply op at t w) =
    on_top c.values (λ v vs. with_value c at (value_of op t (wrapped t v) (wrapped t v)) (λ z. on c w (z ∷ vs)))
step_of p ch c (Operate op at t w) =
    on_two c.values (λ u v vs. with_value c at (operated op t u v) (λ z. on c w (z ∷ vs)))
step_of p ch c (Convert t w) = on_top c.values (λ v vs. on c w (wrapped t v ∷ vs))
step_of p ch c (Settle t w) = on_top c.values (λ v vs. on c w (wrapped t v ∷ vs))
step_of p ch c (Truth z w) = on c w (z ∷ c.values)
step_of p ch c (Drop w) = on_top c.values (λ v vs. on c w vs)
step_of p ch c (Assign t x w) = on_top c.values (λ v vs. writes c x (wrapped t v ∷ []) w (wrapped t v ∷ vs))
step_of p ch c (Put t x w) = on_top c.values (λ v vs. writes c x (wrapped t v ∷ []) w vs)
step_of p ch c (Update op at o t x w) =
    on_top c.values (λ v vs. with_value c at (operated op o (number_of x c.objects) v)
    (λ z. writes c x (wrapped t z ∷ []) w (wrapped t z ∷ vs)))
step_of p ch c (Advance op at o t x w) =
    with_value c at (operated op o (number_of x c.objects) (pos 1)) (λ z. writes c x (wrapped t z ∷ []) w c.values)
step_of p ch c (Fetch t x w) = on c w (number_of x c.objects ∷ c.values)
step_of p ch c (Load at a w) =
    on_top c.values (λ i vs. with_index c at a i (λ j. on c w (element_of a j c.objects ∷ vs)))
step_of p ch c (Reload at a w) =
    on_two c.values (λ i v vs. with_index c at a i (λ j. on c w (element_of a j c.objects ∷ v ∷ i ∷ vs)))
step_of p ch c (Store at a w) =
    on_two c.values (λ i v vs. with_index c at a i (λ j. stores c a j (wrapped a.int_type v) w vs))
step_of p ch c (StoreKept at a w) = on_two c.values (λ i v vs. with_index c at a i (λ j. stores c a j v w (v ∷ vs)))
step_of p ch c (Renew op at o r a w) =
    on_three c.values (λ i v u vs.
    with_value c at (operated op o u v) (λ z. with_index c r a i (λ j. stores c a j (wrapped a.int_type z) w vs)))
step_of p ch c (Renewed op at o t w) =
    on_three c.values (λ i v u vs. with_value c at (operated op o u v) (λ z. on c w (wrapped t z ∷ i ∷ vs)))
step_of p ch c (Replace op at o r a w) =
    on_three c.values (λ i v u vs. with_value c at (operated op o u v)
    (λ z. with_index c r a i (λ j. stores c a j (wrapped a.int_type z) w (u ∷ vs))))
step_of p ch c (Fill a j es w) = on c (fill a j es w) c.values
step_of p ch c (Item a j w) = on_top c.values (λ v vs. stores c a j (wrapped a.int_type v) w vs)
step_of p ch c (Claim at w) =
    on_top c.values (λ v vs. if is_true (wrapped Int v) then comes c c.here w vs else fails c faults.Assert at)
step_of p ch c (Pass es w) = on c (pass es w) c.values
step_of p ch c (Bind k i ts w) = bind c k i ts w
step_of p ch c (Enter k w) = enters p c k w
step_of p ch c (Leave k) = comes c (body_place p c.path) (Return k) c.values
step_of p ch c (Return k) = returned p c k
step_of p ch c (Turn h l e a) = turned c h l e a
step_of p ch c (Back h l e a) = comes c h (Turn h l e a) c.values
step_of p ch c (Choose t zs i b s h a) = on_top c.values (λ v vs. chooses p c t zs i b s h a v vs)

abbrev pub step : Program → Numbers → Config → Next
step p ch c = step_of p ch c c.work
