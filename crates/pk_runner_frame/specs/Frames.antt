-- What the work that is kept stands for.
use Rattle.std.specs.Prelude.{ℕ, Bool, true, false, List, [], ◌∷◌, ◌++◌, Option, Some, None, option_map, slice_index_or}
use Rattle.pk_ctypes.specs.declared.types.IntType.TheVariants.{Int}
use Rattle.pk_typed.specs.Trees.{ValueTree, EffectTree, StatementTree}
use Rattle.pk_typed.specs.Trees as tree
use Rattle.pk_typed.specs.Views.{value_tree, effect_tree, value_trees, declared_trees, statement_tree, item_trees}
use Rattle.pk_meaning.specs.Objects.{Object, file, local, result, Scope, Array}
use Rattle.pk_meaning.specs.Programs.{file_scope}
use Rattle.pk_meaning.specs.Work as work
use Rattle.pk_meaning.specs.Work.{Place, Loop, Way, Caller, Ahead, Work}
use Rattle.pk_runner_frame.specs.declared.works.Scope as code_scope
use Rattle.pk_runner_frame.specs.declared.works.Scope.TheVariants as scopes
use Rattle.pk_runner_frame.specs.declared.works.Spot.{Spot}
use Rattle.pk_runner_frame.specs.declared.works.Object as code_object
use Rattle.pk_runner_frame.specs.declared.works.Object.TheVariants as objects
use Rattle.pk_runner_frame.specs.declared.works.Array as code_array
use Rattle.pk_runner_frame.specs.declared.works.Expression.{Expression}
use Rattle.pk_runner_frame.specs.declared.works.Expression.TheVariants as expressions
use Rattle.pk_runner_frame.specs.declared.works.Task.{Task}
use Rattle.pk_runner_frame.specs.declared.works.Task.TheVariants as tasks
use Rattle.pk_runner_frame.specs.declared.works.Loop as code_loop
use Rattle.pk_runner_frame.specs.declared.works.Loop.TheVariants as loops
use Rattle.pk_runner_frame.specs.declared.works.Way as code_way
use Rattle.pk_runner_frame.specs.declared.works.Way.TheVariants as ways
use Rattle.pk_runner_frame.specs.declared.works.Caller as code_caller
use Rattle.pk_runner_frame.specs.declared.works.Caller.TheVariants as callers
use Rattle.pk_runner_frame.specs.declared.works.Ahead as code_ahead
use Rattle.pk_runner_frame.specs.declared.works.Ahead.TheVariants as aheads
use Rattle.pk_runner_frame.specs.declared.works.Work as code_work
use Rattle.pk_runner_frame.specs.declared.works.Work.TheVariants as works
use Rattle.pk_runner_frame.specs.declared.works.Frame.{Frame}
use Rattle.pk_runner_frame.specs.declared.works.Frame.TheVariants as frames

-- ---- scopes: what each row of the table stands for

abbrev pub Reading : Type 0
Reading = ℕ → Scope

abbrev pub scope_in : Reading → code_scope.Scope → Scope
scope_in s (scopes.File n) = file_scope n
scope_in s (scopes.Row i) = s i

abbrev pub place_in : Reading → Spot → Place
place_in s h = record { at = h.at; scope = scope_in s h.scope }

-- ---- objects and trees

abbrev pub object_in : code_object.Object → Object
object_in (objects.File i) = file i
object_in (objects.Local k i) = local k i
object_in (objects.Result k) = result k

abbrev pub array_in : code_array.Array → Array
array_in a = record { object = object_in a.object; int_type = a.int_type; length = a.length }

abbrev pub converted_if : Bool → ValueTree → ValueTree
converted_if true v = tree.convert Int v
converted_if false v = v

unfoldable pub expression_in : Expression → ValueTree
expression_in (expressions.Tree v is_int) = converted_if is_int (value_tree v.now)
expression_in (expressions.Int z) = tree.constant Int z

unfoldable pub task_in : Task → EffectTree
task_in (tasks.Tree e) = effect_tree e.now
task_in (tasks.Unused v) = tree.unused (value_tree v.now)

unfoldable pub loop_in : code_loop.Loop → Loop
loop_in (loops.While t s) = work.While (value_tree t.now) (statement_tree s.now)
loop_in (loops.DoWhile s t) = work.DoWhile (statement_tree s.now) (value_tree t.now)
loop_in (loops.For t third s) =
    work.For (option_map value_tree t.now) (option_map effect_tree third.now) (statement_tree s.now)

-- the loop that a statement is
unfoldable pub loop_of : StatementTree → Option Loop
loop_of (tree.block at is) = None
loop_of (tree.empty at) = None
loop_of (tree.effect at e) = None
loop_of (tree.label at l s) = None
loop_of (tree.case at i s) = None
loop_of (tree.default at s) = None
loop_of (tree.if_then at t s) = None
loop_of (tree.if_else at t s r) = None
loop_of (tree.switch at t e zs b s) = None
loop_of (tree.while at t s) = Some (work.While t s)
loop_of (tree.do_while at s t) = Some (work.DoWhile s t)
loop_of (tree.for_loop at f t third s) = Some (work.For t third s)
loop_of (tree.goto at l) = None
loop_of (tree.continue at) = None
loop_of (tree.break at) = None
loop_of (tree.return at e) = None

-- ---- frames

-- what a frame holds
pub data Held : Type 0 where
  held_work : Work → Held
  held_ahead : Ahead → Held

-- as work what comes behind a statement is the way there
abbrev pub work_of : Held → Work
work_of (held_work w) = w
work_of (held_ahead a) = work.Go a

abbrev pub ahead_of : Held → Ahead
ahead_of (held_work w) = work.End work.Nobody
ahead_of (held_ahead a) = a

abbrev pub nothing : Held
nothing = held_work (work.Return work.Nobody)

abbrev pub work_at : List Held → ℕ → Work
work_at hs i = work_of (slice_index_or hs i nothing)

abbrev pub ahead_at : List Held → ℕ → Ahead
ahead_at hs i = ahead_of (slice_index_or hs i nothing)

abbrev pub loop_body : Loop → StatementTree
loop_body (work.While t u) = u
loop_body (work.DoWhile u t) = u
loop_body (work.For t third u) = u

-- into the body of the loop whose end of the body this is; to where it begins again; and behind it
abbrev pub into : Ahead → Way
into (work.Rest xs is a) = work.Lost
into (work.Join h a) = work.Lost
into (work.Again h l e a) = work.Onward h (work.Do (loop_body l) (work.Again h l e a))
into (work.Close h a) = work.Lost
into (work.End c) = work.Lost

abbrev pub head : Ahead → Way
head (work.Rest xs is a) = work.Lost
head (work.Join h a) = work.Lost
head (work.Again h l e a) = work.Onward h (work.Turn h l e a)
head (work.Close h a) = work.Lost
head (work.End c) = work.Lost

abbrev pub behind : Ahead → Way
behind (work.Rest xs is a) = work.Lost
behind (work.Join h a) = work.Lost
behind (work.Again h l e a) = work.Onward e (work.Go a)
behind (work.Close h a) = work.Lost
behind (work.End c) = work.Lost

abbrev pub turn : Ahead → Work
turn (work.Rest xs is a) = work.Return work.Nobody
turn (work.Join h a) = work.Return work.Nobody
turn (work.Again h l e a) = work.Turn h l e a
turn (work.Close h a) = work.Return work.Nobody
turn (work.End c) = work.Return work.Nobody

abbrev pub back : Ahead → Work
back (work.Rest xs is a) = work.Return work.Nobody
back (work.Join h a) = work.Return work.Nobody
back (work.Again h l e a) = work.Back h l e a
back (work.Close h a) = work.Return work.Nobody
back (work.End c) = work.Return work.Nobody

abbrev pub way_in : Reading → List Held → code_way.Way → Way
way_in s hs (ways.Onward h w) = work.Onward (place_in s h) (work_at hs w)
way_in s hs (ways.Into a) = into (ahead_at hs a)
way_in s hs (ways.Head a) = head (ahead_at hs a)
way_in s hs (ways.Behind a) = behind (ahead_at hs a)
way_in s hs ways.Refused = work.Refused
way_in s hs ways.Lost = work.Lost

abbrev pub caller_in : Reading → List Held → code_caller.Caller → Caller
caller_in s hs callers.Nobody = work.Nobody
caller_in s hs (callers.Path k h w) = work.Path k (place_in s h) (work_at hs w)

abbrev pub again_of : Option Loop → (h e : Place) → Ahead → Ahead
again_of None h e a = work.End work.Nobody
again_of (Some l) h e a = work.Again h l e a

unfoldable pub ahead_in : Reading → List Held → code_ahead.Ahead → Ahead
ahead_in s hs (aheads.Rest xs is a) = work.Rest (scope_in s xs) (item_trees is.now) (ahead_at hs a)
ahead_in s hs (aheads.Join h a) = work.Join (place_in s h) (ahead_at hs a)
ahead_in s hs (aheads.Again h t e a) =
    again_of (loop_of (statement_tree t.now)) (place_in s h) (place_in s e) (ahead_at hs a)
ahead_in s hs (aheads.Close h a) = work.Close (place_in s h) (ahead_at hs a)
ahead_in s hs (aheads.End c) = work.End (caller_in s hs c)

unfoldable pub work_in : Reading → List Held → code_work.Work → Work
work_in s hs (works.Go a) = work.Go (ahead_at hs a)
work_in s hs (works.Do t a) = work.Do (statement_tree t.now) (ahead_at hs a)
work_in s hs (works.Declare ds w) = work.Declare (declared_trees ds.now) (work_at hs w)
work_in s hs (works.Perform e w) = work.Perform (task_in e) (work_at hs w)
work_in s hs (works.Evaluate e w) = work.Evaluate (expression_in e) (work_at hs w)
work_in s hs (works.Test e y n) = work.Test (expression_in e) (way_in s hs y) (way_in s hs n)
work_in s hs (works.Keep w) = work.Keep (work_at hs w)
work_in s hs (works.Branch y n) = work.Branch (way_in s hs y) (way_in s hs n)
work_in s hs (works.Apply op at t w) = work.Apply op at t (work_at hs w)
work_in s hs (works.Operate op at t w) = work.Operate op at t (work_at hs w)
work_in s hs (works.Convert t w) = work.Convert t (work_at hs w)
work_in s hs (works.Settle t w) = work.Settle t (work_at hs w)
work_in s hs (works.Truth z w) = work.Truth z (work_at hs w)
work_in s hs (works.Discard w) = work.Drop (work_at hs w)
work_in s hs (works.Assign t x w) = work.Assign t (object_in x) (work_at hs w)
work_in s hs (works.Put t x w) = work.Put t (object_in x) (work_at hs w)
work_in s hs (works.Update op at o t x w) = work.Update op at o t (object_in x) (work_at hs w)
work_in s hs (works.Advance op at o t x w) = work.Advance op at o t (object_in x) (work_at hs w)
work_in s hs (works.Fetch t x w) = work.Fetch t (object_in x) (work_at hs w)
work_in s hs (works.Load at a w) = work.Load at (array_in a) (work_at hs w)
work_in s hs (works.Reload at a w) = work.Reload at (array_in a) (work_at hs w)
work_in s hs (works.Store at a w) = work.Store at (array_in a) (work_at hs w)
work_in s hs (works.StoreKept at a w) = work.StoreKept at (array_in a) (work_at hs w)
work_in s hs (works.Renew op at o r a w) = work.Renew op at o r (array_in a) (work_at hs w)
work_in s hs (works.Renewed op at o t w) = work.Renewed op at o t (work_at hs w)
work_in s hs (works.Replace op at o r a w) = work.Replace op at o r (array_in a) (work_at hs w)
work_in s hs (works.Fill a j es w) = work.Fill (array_in a) j (value_trees es.now) (work_at hs w)
work_in s hs (works.Item a j w) = work.Item (array_in a) j (work_at hs w)
work_in s hs (works.Claim at w) = work.Claim at (work_at hs w)
work_in s hs (works.Pass es w) = work.Pass (value_trees es.now) (work_at hs w)
work_in s hs (works.Bind k i ts w) = work.Bind k i ts.now (work_at hs w)
work_in s hs (works.Enter k w) = work.Enter k (work_at hs w)
work_in s hs (works.Leave c) = work.Leave (caller_in s hs c)
work_in s hs (works.Return c) = work.Return (caller_in s hs c)
work_in s hs (works.Turn a) = turn (ahead_at hs a)
work_in s hs (works.Back a) = back (ahead_at hs a)
work_in s hs (works.Choose t zs i b u h a) =
    work.Choose t zs.now i b (statement_tree u.now) (place_in s h) (ahead_at hs a)

abbrev pub held_in : Reading → List Held → Frame → Held
held_in s hs (frames.Work w) = held_work (work_in s hs w)
held_in s hs (frames.Ahead a) = held_ahead (ahead_in s hs a)

-- what frames hold, each by those below it
abbrev pub held_behind : Reading → List Held → List Frame → List Held
held_behind s hs [] = hs
held_behind s hs (f ∷ fs) = held_behind s (hs ++ held_in s hs f ∷ []) fs

unfoldable pub held : Reading → List Frame → List Held
held s fs = held_behind s [] fs
