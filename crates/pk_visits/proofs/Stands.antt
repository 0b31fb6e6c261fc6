-- At which points of a graph over slots a configuration stands: those whose edges do what it does next.
use Rattle.std.specs.Prelude.{◌≡◌, ℕ, zero, suc, ◌+◌, ◌<◌, ◌≤◌, ◌⊎◌, List, [], ◌∷◌, ◌++◌, length, Bool, true, false, ℤ, pos, Option, Some, None, Ok, map, slice_get, if◌then◌else◌}
use Rattle.pk_ctypes.specs.declared.places.Pos.{Pos}
use Rattle.pk_ctypes.specs.declared.types.IntType.{IntType}
use Rattle.pk_ctypes.specs.declared.types.IntType.TheVariants.{Int}
use Rattle.pk_ctypes.specs.declared.types.Op.{Op}
use Rattle.pk_ctypes.specs.Types.{InType}
use Rattle.pk_ctypes.specs.Operators.{result_type}
use Rattle.pk_typed.specs.Trees.{ValueTree, ValueTrees, DeclaredTree, StatementTree}
use Rattle.pk_typed.specs.Trees as tree
use Rattle.pk_typed.specs.Types.{type_of}
use Rattle.pk_welltyped.specs.Listed.{Numbered, calls_in, calls_in_effect, calls_in_values, calls_in_all_declared, calls_in_effect_if, calls_if, calls_in_statement, calls_in_items}
use Rattle.pk_welltyped.specs.WellTyped
use Rattle.pk_welltyped.specs.WellTyped.{count, Around, kind_in_file, kind_among, IsValue, IsEffect, AreValues, AreDeclared, IsValueIf, IsEffectIf, Marks, IsStatement, AreItems}
use Rattle.pk_graph.specs.declared.trees.Site.{Site}
use Rattle.pk_graph.specs.Kinds.{count_of, Kind, scalar_kind, array_kind}
use Rattle.pk_graph.specs.Trees.{constant, variable, converted, unary, binary, Skip, Set, Havoc, Load, Store, Guard, Check, ArrayOf}
use Rattle.pk_graph.specs.Steps.{Numbers, tree_value, all_in_type, is_index}
use Rattle.pk_graph.specs.Graphs.{naming, hiding}
use Rattle.pk_draft.specs.declared.drafts.Label.{Label}
use Rattle.pk_draft.specs.declared.drafts.Region.{Region}
use Rattle.pk_draft.specs.declared.drafts.Size.{Size}
use Rattle.pk_draft.specs.Drafts.{nowhere, go, away}
use Rattle.pk_draft.specs.Folding.{conversion, unary_tree, operated_tree, updated_tree}
use Rattle.pk_lower_row.specs.declared.shapes.Shape.TheVariants.{Fixed}
use Rattle.pk_lower_row.specs.Shapes.{shape_of, makes, makes_effect, any_makes}
use Rattle.pk_lower_row.specs.Contexts.{Context, callee, size_in}
use Rattle.pk_lower_row.specs.Rows.{one_tree}
use Rattle.pk_lower_expression.specs.Expressions.{ways, performed, passed}
use Rattle.pk_lower_statement.specs.declared.statements.Exits.{Exits}
use Rattle.pk_lower_statement.specs.Statements.{inside, in_switch, while_from, do_from, for_from, for_test, performed_if, lowered, lowered_items, all_declared, items, case_tests}
use Rattle.pk_welltyped.specs.Marks.{IsSwitch}
use Rattle.pk_meaning.specs.Objects.{Object, Scope, file, local, result, Array, Objects, numbers_of, is_in_scope}
use Rattle.pk_meaning.specs.Programs as program
use Rattle.pk_meaning.specs.Programs.{Program, function_number, function_of, block_of, local_of, with_local, body_scope, is_main}
use Rattle.pk_meaning.specs.Work as work
use Rattle.pk_meaning.specs.Work.{Place, Loop, While, DoWhile, For, Way, Onward, Refused, Lost, Caller, Nobody, Path, Ahead, Rest, Join, Again, Close, End, Work, Go, Do, Declare, Perform, Evaluate, Test, Keep, Branch, Apply, Operate, Convert, Settle, Truth, Drop, Assign, Put, Update, Advance, Fetch, Reload, StoreKept, Renew, Renewed, Replace, Fill, Item, Claim, Pass, Bind, Enter, Leave, Return, Turn, Back, Choose}
use Rattle.pk_meaning.specs.Steps.{Config, place, body_place}
use Rattle.pk_visits.specs.Turns.{TurnPoint, turning}
use Rattle.pk_visits.proofs.Settled.Trees.{Final, AreAllSettled, Settles, SettleAll, LoopSettles}
use Rattle.pk_visits.proofs.Slots.{Slot, own, temporary, slots, Draft, SlotTree, Instr, Edge, edge, Memory, memory, Among, label_at, region_at, Scoping, Extends}

-- A graph over slots, its points' labels and its paths' regions; the sizes of functions, and of each path the one by its function's first call; when a label is a path's place.
pub record Whole : Type 1 where
  pub program : Program
  pub sizes : List (Option Size)
  pub firsts : ℕ → ℕ
  pub edges : List Edge
  pub labels : List Label
  pub regions : List Region
  pub scopes : Scoping
  pub shows : Label → ℕ → Place → Type 0
  -- of each path how many objects it declares, the variable of each, and how many points its region has
  pub objects : ℕ → ℕ
  pub numbers : (path object : ℕ) → ℕ
  pub spans : ℕ → ℕ
  -- where a path's loops begin again
  pub turns : (path : ℕ) → List TurnPoint
  -- what a run came to on a path: expressions to evaluate, with the work behind them; elements to read with an operator
  pub begun : ℕ → ValueTree → Work → Type 0
  pub read : ℕ → Pos → Type 0

-- in which context a path is lowered
abbrev pub context_of : Whole → ℕ → Context
context_of g k = record {
  unit = g.program.unit;
  path = k;
  first = g.firsts k;
  locals = (block_of g.program k).locals;
  returns = (function_of g.program k).returns;
  sizes = g.sizes;
}

-- what is known in the end of a path
abbrev pub final : Whole → ℕ → Final
final g k = record { items = (block_of g.program k).items; objects = g.objects k; numbers = g.numbers k; labels = g.labels; turns = g.turns k }

-- the point is at the path's place
abbrev pub ShowsAt : Whole → ℕ → ℕ → Place → Type 0
ShowsAt g q k h = g.shows (label_at g.labels q) k h

-- ---- stages of the lowering

-- The lowering goes on from the draft to the graph: it places some marks again, and calls later paths.
pub record Leads (g : Whole) (marks later : List ℕ) (d : Draft) : Type 0 where
  pub edges : (e : Edge) → Among e d.edges → Among e g.edges
  pub names : d.names ≡ slots
  pub room : d.points ≤ length d.labels
  pub labels : (q : ℕ) → q < d.points → Among q marks ⊎ (label_at g.labels q ≡ label_at d.labels q)
  pub regions : (k : ℕ) → Among k later ⊎ (region_at g.regions k ≡ region_at d.regions k)
  pub paths : length d.regions ≡ length g.program.paths
  pub scopes : Extends d.scopes g.scopes

-- the paths that calls lead to
abbrev pub led_to : Context → List Numbered → List ℕ
led_to c xs = map (λ (x : Numbered). callee c x.number) xs

-- to such a path one of these calls leads, of a function of this size
abbrev pub IsCalled : Context → List Numbered → ℕ → Size → Type 0
IsCalled c xs m s = (z : Numbered) × Among z xs × (m ≡ callee c z.number) × (s ≡ size_in c.sizes z.call.function)

abbrev pub Distinct : List ℕ → Type 0
Distinct [] = Unit {0}
Distinct (x ∷ xs) = (Among x xs → ⊥) × Distinct xs

-- the point is one of the region of a path later than k
abbrev pub IsReserved : Whole → ℕ → List Region → ℕ → Type 0
IsReserved g k rs q = (m : ℕ) × (k < m) × (0 < (region_at rs m).points) × ((region_at rs m).points ≤ q) × (q < (region_at rs m).points + g.spans m)

-- A tree with these calls is lowered on path k, at a place, from the draft d to e.
pub record Stage (g : Whole) (k : ℕ) (h : Place) (calls : List Numbered) (d e : Draft) : Type 0 where
  pub marks : List ℕ
  pub later : List ℕ
  pub leads : Leads g marks later e
  -- of its own points, marks are reserved for later paths
  pub bounded : (q : ℕ) → Among q marks → d.points ≤ q → q < e.points → IsReserved g k e.regions q
  -- regions of later paths that were taken before lie before it or behind it
  pub free : (m : ℕ) → k < m → ((region_at d.regions m).points ≡ 0) ⊎ ((region_at d.regions m).points + g.spans m ≤ d.points) ⊎ (e.points ≤ (region_at d.regions m).points)
  pub spans : (z : Numbered) → Among z calls → (size_in g.sizes z.call.function).points ≡ g.spans (callee (context_of g k) z.number)
  pub here : g.shows d.here k h
  pub apart : (m : ℕ) → Among m (led_to (context_of g k) calls) → Among m later → ⊥
  pub distinct : Distinct (led_to (context_of g k) calls)
  pub path : k < length g.program.paths
  -- they are calls of the path's function
  pub noted : (z : Numbered) → Among z calls → Among z (calls_in_items (block_of g.program k).items)

-- ---- what fits

-- behind n objects of the path's function
abbrev pub around : Whole → (k n : ℕ) → Around
around g k n = record { unit = g.program.unit; locals = (block_of g.program k).locals; objects = n }

abbrev pub local_array : Whole → (k i : ℕ) → Array
local_array g k i = let x = local_of g.program k i in record { object = local k i; int_type = x.int_type; length = count_of x.length }

abbrev pub cells : Array → ArrayOf Slot
cells a = record { variable = own a.object; length = a.length }

-- an object of the program, of a kind
abbrev pub HasKind : Program → Object → Kind → Type 0
HasKind p (file i) n = kind_in_file p.unit i ≡ Some n
HasKind p (local k i) n = (k < length p.paths) × (kind_among (block_of p k).locals i ≡ Some n)
HasKind p (result k) n = (k < length p.paths) × (t : IntType) × ((function_of p k).returns ≡ Some t) × (n ≡ scalar_kind t)

abbrev pub IsScalar : Whole → Object → IntType → Type 0
IsScalar g x t = HasKind g.program x (scalar_kind t)

abbrev pub IsArrayOf : Whole → Array → Type 0
IsArrayOf g a = HasKind g.program a.object (array_kind a.int_type a.length)

-- each object holds as many numbers as its kind says, of its type
abbrev pub FitsObjects : Program → Objects → Type 0
FitsObjects p s = (x : Object) (n : Kind) → HasKind p x n → (length (numbers_of x s) ≡ count_of n.length) × (all_in_type n.int_type (numbers_of x s) ≡ true)

-- What is known of the program and its paths. A call of a path's function leads to a path of the function that it names, behind the caller; in scope are objects of the file and of the path.
pub record Proper (g : Whole) : Type 0 where
  pub callees : (k : ℕ) (z : Numbered) → k < length g.program.paths → Among z (calls_in_items (block_of g.program k).items) → program.callee g.program k z.number ≡ callee (context_of g k) z.number
  pub there : (k : ℕ) (z : Numbered) → k < length g.program.paths → Among z (calls_in_items (block_of g.program k).items) → callee (context_of g k) z.number < length g.program.paths
  pub functions : (k : ℕ) (z : Numbered) → k < length g.program.paths → Among z (calls_in_items (block_of g.program k).items) → function_number g.program (callee (context_of g k) z.number) ≡ z.call.function
  pub behind : (k : ℕ) (z : Numbered) → k < length g.program.paths → Among z (calls_in_items (block_of g.program k).items) → k < callee (context_of g k) z.number
  pub at_positions : (l : Label) (k : ℕ) (h : Place) → g.shows l k h → h.at ≡ l.at
  -- the position of a label may change
  pub positions : (l : Label) (k : ℕ) (xs : Scope) (q : Pos) → g.shows l k (place l.at xs) → g.shows (record { at = q; path = l.path; scope = l.scope }) k (place q xs)
  pub scopes : (l : Label) (k m i : ℕ) (h : Place) → g.shows l k h → k < m → is_in_scope (local m i) h.scope ≡ false
  -- the name of an object comes into scope
  pub enters : (l : Label) (k i n : ℕ) (h : Place) → g.shows l k h → k < length g.program.paths → i < g.objects k → slice_get g.scopes n ≡ Some (record { entry = naming (g.numbers k i); outer = l.scope })
      → g.shows (record { at = l.at; path = l.path; scope = n + 1 }) k (place h.at (local k i ∷ h.scope))
  pub shares : (l : Label) (k i n : ℕ) (h : Place) → g.shows l k h → i < length g.program.unit.objects → slice_get g.scopes n ≡ Some (record { entry = naming i; outer = l.scope })
      → g.shows (record { at = l.at; path = l.path; scope = n + 1 }) k (place h.at (file i ∷ h.scope))
  -- a name that is hidden stays in scope
  pub hides : (l : Label) (k x n : ℕ) (h : Place) → g.shows l k h → slice_get g.scopes n ≡ Some (record { entry = hiding x; outer = l.scope }) → g.shows (record { at = l.at; path = l.path; scope = n + 1 }) k h
  pub parameters : (m i : ℕ) (t : IntType) → m < length g.program.paths → slice_get (function_of g.program m).parameters i ≡ Some t → HasKind g.program (local m i) (scalar_kind t)

-- ---- values that wait

-- its tree, and the type of its expression
pub record Held : Type 0 where
  pub tree : SlotTree
  pub int_type : IntType
  -- an index that was tested lies below
  pub below : Option ℕ

abbrev pub held : SlotTree → IntType → Held
held e t = record { tree = e; int_type = t; below = None }

-- a tested index of an array of so many elements
abbrev pub tested : ℕ → Held → Held
tested n h = record h { below = Some n }

abbrev pub IsBelow : Option ℕ → ℤ → Type 0
IsBelow None v = Unit {0}
IsBelow (Some n) v = is_index n v ≡ true

abbrev pub in_temporary : ℕ → IntType → Held
in_temporary n t = held (variable (temporary n)) t

-- the tree doesn't read the slot
abbrev pub IsApart : Slot → SlotTree → Type 0
IsApart x (constant t z) = Unit {0}
IsApart x (variable y) = x ≡ y → ⊥
IsApart x (converted t e) = IsApart x e
IsApart x (unary op s t e) = IsApart x e
IsApart x (binary op s t a b) = IsApart x a × IsApart x b

abbrev pub AreApart : Slot → List Held → Type 0
AreApart x [] = Unit {0}
AreApart x (h ∷ hs) = IsApart x h.tree × AreApart x hs

-- a constant, or one of the temporaries before the n-th variable
abbrev pub IsCalm : ℕ → SlotTree → Type 0
IsCalm n (constant t z) = Unit {0}
IsCalm n (variable (own x)) = ⊥
IsCalm n (variable (temporary m)) = m < n
IsCalm n (converted t e) = ⊥
IsCalm n (unary op s t e) = ⊥
IsCalm n (binary op s t a b) = ⊥

abbrev pub AreCalm : ℕ → List Held → Type 0
AreCalm n [] = Unit {0}
AreCalm n (h ∷ hs) = IsCalm n h.tree × AreCalm n hs

-- where edges are made, the trees that wait are such
abbrev pub AreQuiet : Bool → ℕ → List Held → Type 0
AreQuiet b n hs = b ≡ true → AreCalm n hs

-- the trees have these values, which lie in their types
abbrev pub Means : Memory → List Held → Numbers → Type 0
Means m [] [] = Unit {0}
Means m [] (v ∷ vs) = ⊥
Means m (h ∷ hs) [] = ⊥
Means m (h ∷ hs) (v ∷ vs) = (tree_value memory h.tree m ≡ Ok v) × InType h.int_type v × Means m hs vs × IsBelow h.below v

-- a constant or a variable, which never faults
abbrev pub IsPlain : SlotTree → Type 0
IsPlain (constant t z) = Unit {0}
IsPlain (variable x) = Unit {0}
IsPlain (converted t e) = ⊥
IsPlain (unary op s t e) = ⊥
IsPlain (binary op s t a b) = ⊥

abbrev pub ArePlain : List Held → Type 0
ArePlain [] = Unit {0}
ArePlain (h ∷ hs) = IsPlain h.tree × ArePlain hs

-- an edge to a point of the place, which writes a slot that no tree reads, where no tree faults
pub record Writes (g : Whole) (k : ℕ) (h : Place) (p : ℕ) (x : Slot) (i : Instr) (q : ℕ) (hs : List Held) : Type 0 where
  pub there : Among (edge p i q) g.edges
  pub shown : ShowsAt g q k h
  pub apart : AreApart x hs
  pub plain : ArePlain hs

-- under n trees none faults
abbrev pub ArePlainUnder : ℕ → List Held → Type 0
ArePlainUnder zero hs = ArePlain hs
ArePlainUnder (suc n) [] = Unit {0}
ArePlainUnder (suc n) (h ∷ hs) = ArePlainUnder n hs

-- an edge that sets an object which isn't in scope, where n later arguments may fault
pub record Passes (g : Whole) (k : ℕ) (h : Place) (n p : ℕ) (y : Object) (e : SlotTree) (q : ℕ) (hs : List Held) : Type 0 where
  pub there : Among (edge p (Set (own y) e) q) g.edges
  pub shown : ShowsAt g q k h
  pub apart : AreApart (own y) hs
  pub hidden : is_in_scope y h.scope ≡ false
  pub plain : ArePlainUnder n hs

-- ---- calls

-- the trees of arguments, laid on those that wait
abbrev pub pushed : ValueTrees → List SlotTree → List Held → List Held
pushed tree.no_values ts hs = hs
pushed (tree.value_before e es) [] hs = hs
pushed (tree.value_before e es) (a ∷ ts) hs = pushed es ts (held a (type_of e) ∷ hs)

-- the tree under n others, and those without it
abbrev pub picked : ℕ → List Held → (Held → List Held → Type 0) → Type 0
picked n [] f = ⊥
picked zero (h ∷ hs) f = f h hs
picked (suc n) (h ∷ hs) f = picked n hs (λ a rest. f a (h ∷ rest))

-- the edges that set the parameters of path m from number i on, where the graph goes on as rest says
abbrev pub Binds : Whole → ℕ → Place → (m i : ℕ) → List IntType → (ℕ → List Held → Type 0) → ℕ → List Held → Type 0
Binds g k h m i [] rest p hs = rest p hs
Binds g k h m i (t ∷ ts) rest p hs = picked (length ts) hs (λ a hs. (q : ℕ)
    × IsScalar g (local m i) t × Passes g k h (length ts) p (local m i) (conversion a.int_type t a.tree) q hs × Binds g k h m (i + 1) ts rest q hs)

-- ---- work

abbrev pub site_at : ℕ → Pos → Site
site_at k at = record { path = k; at = at }

-- a constant
abbrev pub IsNumber : SlotTree → Type 0
IsNumber (constant t z) = Unit {0}
IsNumber (variable x) = ⊥
IsNumber (converted t e) = ⊥
IsNumber (unary op s t e) = ⊥
IsNumber (binary op s t a b) = ⊥

abbrev pub IsVariable : SlotTree → Type 0
IsVariable (constant t z) = ⊥
IsVariable (variable x) = Unit {0}
IsVariable (converted t e) = ⊥
IsVariable (unary op s t e) = ⊥
IsVariable (binary op s t a b) = ⊥

-- an expression whose tree is a constant
abbrev pub IsFixed : ValueTree → Type 0
IsFixed e = (z : ℤ) × (shape_of e ≡ Fixed z)

-- the operator was begun as one that is folded, with this work behind it
abbrev pub IsBegunOne : Whole → (k : ℕ) → Op → Pos → IntType → Work → Type 0
IsBegunOne g k op at t w = (e : ValueTree) × IsFixed (tree.unary op at t e) × g.begun k (tree.unary op at t e) w

abbrev pub IsBegunTwo : Whole → (k : ℕ) → Op → Pos → IntType → Work → Type 0
IsBegunTwo g k op at t w = (a : ValueTree) × (b : ValueTree) × IsFixed (tree.binary op at t a b) × g.begun k (tree.binary op at t a b) w

-- one, two, three values on top, the topmost last
abbrev pub OnTop : List Held → (Held → List Held → Type 0) → Type 0
OnTop [] f = ⊥
OnTop (a ∷ hs) f = f a hs

abbrev pub OnTwo : List Held → (Held → Held → List Held → Type 0) → Type 0
OnTwo [] f = ⊥
OnTwo (b ∷ []) f = ⊥
OnTwo (b ∷ a ∷ hs) f = f a b hs

abbrev pub OnThree : List Held → (Held → Held → Held → List Held → Type 0) → Type 0
OnThree [] f = ⊥
OnThree (c ∷ []) f = ⊥
OnThree (c ∷ b ∷ []) f = ⊥
OnThree (c ∷ b ∷ a ∷ hs) f = f a b c hs

-- the marks that a statement may place: those of the function's labels, of the cases and the default of the switch at hand
pub record Marking (x : Exits) (m : Marks) (marks : List ℕ) : Type 0 where
  pub labels : (l : ℕ) → l < m.labels → Among (x.labels + l) marks
  pub cases : (i : ℕ) → i < m.cases → Among (x.cases + i) marks
  pub default : m.has_default ≡ true → Among x.otherwise marks

-- a loop from where it begins again: its body from b, what continues it at c, what is behind it at e
abbrev pub loop_from : Context → Pos → Loop → Exits → (b c e : ℕ) → Draft → Draft
loop_from c at (While t s) x b m e d = while_from (ways c t) (lowered c s) x b e d
loop_from c at (DoWhile s t) x b m e d = do_from at (ways c t) (lowered c s) x m e d
loop_from c at (For t third s) x b m e d = for_from at (for_test c t) (performed_if c third) (lowered c s) x b m e d

abbrev pub calls_in_loop : Loop → List Numbered
calls_in_loop (While t s) = calls_in t ++ calls_in_statement s
calls_in_loop (DoWhile s t) = calls_in_statement s ++ calls_in t
calls_in_loop (For t third s) = calls_if t ++ calls_in_effect_if third ++ calls_in_statement s

abbrev pub IsLoop : Around → Marks → Loop → Type 0
IsLoop a m (While t s) = IsValue a t × IsStatement a m s
IsLoop a m (DoWhile s t) = IsStatement a m s × IsValue a t
IsLoop a m (For t third s) = IsValueIf a t × IsEffectIf a third × IsStatement a m s

-- a loop at its place begins again at its point p
pub record Loops (g : Whole) (k : ℕ) (h : Place) (x : Exits) (l : Loop) (p c e : ℕ) (hs : List Held) : Type 0 where
  pub objects : ℕ
  pub mark : Marks
  pub begin : ℕ
  pub draft : Draft
  pub at : draft.point ≡ p
  pub fits : IsLoop (around g k objects) mark l
  pub stage : Stage g k h (calls_in_loop l) draft (loop_from (context_of g k) h.at l x begin c e draft)
  pub marking : Marking x mark stage.marks
  pub settled : LoopSettles (final g k) (context_of g k) l x begin c e draft
  pub calm : AreCalm draft.variables hs
  pub heads : ShowsAt g p k h
  pub told : Among (turning h.at p) (g.turns k)
  pub begins : ShowsAt g begin k h
  pub continues : ShowsAt g c k h

-- a `while` continues where it begins
abbrev pub ContinuesAt : Loop → (p c : ℕ) → Type 0
ContinuesAt (While t s) p c = p ≡ c
ContinuesAt (DoWhile s t) p c = Unit {0}
ContinuesAt (For t third s) p c = Unit {0}

-- a switch from the cases that are left, of n, whose end is e
abbrev pub switch_from : Context → Site → IntType → SlotTree → List ℤ → (i n e : ℕ) → Bool → StatementTree → Exits → Draft → Draft
switch_from c s t r zs i n e b body x d =
    go Skip e (lowered c body (in_switch e n x) (away (if b then e + 1 + n else e) (case_tests s t r zs (e + 1 + i) d)))

-- an edge that sets a slot which no tree reads, where no tree faults
pub record Sets (g : Whole) (p : ℕ) (x : Slot) (i : Instr) (q : ℕ) (hs : List Held) : Type 0 where
  pub there : Among (edge p i q) g.edges
  pub apart : AreApart x hs
  pub plain : ArePlain hs

-- falling off the end of a path's function, from p to q
abbrev pub end_place : Program → (path : ℕ) → Place
end_place p k = place (block_of p k).closed (body_scope p k)

abbrev pub EndedBy : Whole → (k : ℕ) → Bool → Option IntType → (p q : ℕ) → List Held → Type 0
EndedBy g k b None p q hs = p ≡ q
EndedBy g k true (Some t) p q hs = Writes g k (end_place g.program k) p (own (result k)) (Set (own (result k)) (constant t (pos 0))) q hs
EndedBy g k false (Some t) p q hs = Writes g k (end_place g.program k) p (own (result k)) (Havoc (own (result k)) t 1) q hs

-- outside loops and switches, jumps out of them would lead to the function's exit
pub record IsBare (x : Exits) : Type 0 where
  pub broken : x.broken ≡ x.left
  pub continued : x.continued ≡ x.left

-- the end of a path's function, and the way to its exit
pub record Ended (g : Whole) (k : ℕ) (x : Exits) (p : ℕ) (hs : List Held) : Type 0 where
  pub to : ℕ
  pub falls : EndedBy g k (is_main g.program k) (function_of g.program k).returns p to hs
  pub leaves : Among (edge to Skip x.left) g.edges
  pub exit : ShowsAt g x.left k (body_place g.program k)

-- the items of a path's function, at whose end it ends
pub record Body (g : Whole) (k : ℕ) (x : Exits) (hs : List Held) : Type 0 where
  pub draft : Draft
  pub objects : ℕ
  pub mark : Marks
  pub fits : AreItems (around g k objects) mark (block_of g.program k).items
  pub calm : AreCalm draft.variables hs
  pub stage : Stage g k (place draft.here.at (body_scope g.program k)) (calls_in_items (block_of g.program k).items) draft (lowered_items (context_of g k) (block_of g.program k).items x draft)
  pub marking : Marking x mark stage.marks
  pub settled : SettleAll (final g k) (context_of g k) (block_of g.program k).items x draft
  pub ended : Ended g k x (lowered_items (context_of g k) (block_of g.program k).items x draft).point hs

-- The body of a path stands in the graph: from where the path is entered to its exit.
pub record BodyOf (g : Whole) (m : ℕ) : Type 0 where
  pub exits : Exits
  pub draft : Draft
  pub objects : ℕ
  pub mark : Marks
  pub enters : draft.point ≡ (region_at g.regions m).at
  pub leaves : exits.left ≡ (region_at g.regions m).points
  pub bare : IsBare exits
  pub variables : (region_at g.regions m).variables ≤ draft.variables
  pub fits : AreItems (around g m objects) mark (block_of g.program m).items
  pub stage : Stage g m (place draft.here.at (body_scope g.program m)) (calls_in_items (block_of g.program m).items) draft (lowered_items (context_of g m) (block_of g.program m).items exits draft)
  pub marking : Marking exits mark stage.marks
  pub settled : SettleAll (final g m) (context_of g m) (block_of g.program m).items exits draft
  pub ended : (hs : List Held) → AreCalm draft.variables hs → Ended g m exits (lowered_items (context_of g m) (block_of g.program m).items exits draft).point hs

abbrev pub BodiesStand : Whole → Type 0
BodiesStand g = (m : ℕ) → m < length g.program.paths → BodyOf g m

-- where a path stands behind declared objects
abbrev pub place_after : Program → (path : ℕ) → List DeclaredTree → Place → Place
place_after p k [] h = h
place_after p k (tree.scalar_object i at e ∷ ds) h = place_after p k ds (place at (with_local p k i h.scope))
place_after p k (tree.array_object i at es ∷ ds) h = place_after p k ds (place at (with_local p k i h.scope))
place_after p k (tree.static_object i at ∷ ds) h = place_after p k ds (place at (file i ∷ h.scope))
place_after p k (tree.hiding_constant x at ∷ ds) h = place_after p k ds (place at h.scope)

-- an index without a test here was tested before, where the element was read
abbrev pub IsTested : Bool → Option ℕ → ℕ → Type 0 → Type 0
IsTested true o n R = Unit {0}
IsTested false o n R = (o ≡ Some n) × R

-- From point p, where the trees hs wait, the graph does the work of path k at place h; x are the exits of the statement that it is in.
abbrev mutual
  pub LaidWay : Whole → (k : ℕ) → Way → (p : ℕ) → List Held → Type 0
  LaidWay g k (Onward h w) p hs = ShowsAt g p k h × ((x : Exits) × Laid g k h x w p hs)
  LaidWay g k Refused p hs = p ≡ nowhere
  LaidWay g k Lost p hs = ⊥

  pub LaidCaller : Whole → (k : ℕ) → Caller → (p : ℕ) → List Held → Type 0
  LaidCaller g k Nobody p hs = (hs ≡ []) × (p ≡ (region_at g.regions 0).points)
  LaidCaller g k (Path j h w) p hs = (x : Exits) × Laid g j h x w p hs

  pub LaidAhead : Whole → (k : ℕ) → Exits → Ahead → (p : ℕ) → List Held → Type 0
  LaidAhead g k x (Rest xs is a) p hs = (d : Draft) × (n : ℕ) × (m : Marks) × (d.point ≡ p) × AreItems (around g k n) m is × AreCalm d.variables hs
      × (s : Stage g k (place d.here.at xs) (calls_in_items is) d (lowered_items (context_of g k) is x d)) × Marking x m s.marks
      × SettleAll (final g k) (context_of g k) is x d
      × LaidAhead g k x a (lowered_items (context_of g k) is x d).point hs
  LaidAhead g k x (Join h a) p hs = (q : ℕ) × Among (edge p Skip q) g.edges × ShowsAt g q k h × LaidAhead g k x a q hs
  LaidAhead g k x (Again h l e a) p hs = (y : Exits) × (b : ℕ) × Among (edge p Skip x.continued) g.edges × ShowsAt g x.continued k h × (x ≡ inside x.broken x.continued y)
      × Loops g k h y l b x.continued x.broken hs × ContinuesAt l b x.continued × ShowsAt g x.broken k e × LaidAhead g k y a x.broken hs
  LaidAhead g k x (Close h a) p hs = (y : Exits) × Among (edge p Skip x.broken) g.edges × ShowsAt g x.broken k h
      × (x ≡ record y { broken = x.broken; cases = x.cases; otherwise = x.otherwise }) × LaidAhead g k y a x.broken hs
  -- at its end, and from each of its labels
  LaidAhead g k x (End c) p hs = Ended g k x p hs × Body g k x hs × LaidCaller g k c x.left hs × IsBare x

  pub Laid : Whole → (k : ℕ) → Place → Exits → Work → (p : ℕ) → List Held → Type 0
  Laid g k h x (Go a) p hs = ArePlain hs × LaidAhead g k x a p hs
  Laid g k h x (Do s a) p hs = (d : Draft) × (n : ℕ) × (m : Marks) × (d.point ≡ p) × IsStatement (around g k n) m s × AreCalm d.variables hs
      × (t : Stage g k (place d.here.at h.scope) (calls_in_statement s) d (lowered (context_of g k) s x d)) × Marking x m t.marks
      × Settles (final g k) (context_of g k) s x d
      × LaidAhead g k x a (lowered (context_of g k) s x d).point hs
  Laid g k h x (Declare ds w) p hs = (d : Draft) × (n : ℕ) × (d.point ≡ p) × AreDeclared (around g k n) ds × AreCalm d.variables hs
      × Stage g k (place d.here.at h.scope) (calls_in_all_declared ds) d (all_declared (context_of g k) ds d)
      × AreAllSettled (final g k) (context_of g k) ds d
      × Laid g k (place_after g.program k ds h) x w (all_declared (context_of g k) ds d).point hs
  Laid g k h x (Perform e w) p hs = (d : Draft) × (n : ℕ) × (d.point ≡ p) × IsEffect (around g k n) e × AreQuiet (makes_effect e) d.variables hs
      × Stage g k h (calls_in_effect e) d (performed (context_of g k) e d) × Laid g k h x w (performed (context_of g k) e d).point hs
  Laid g k h x (Evaluate e w) p hs = (d : Draft) × (n : ℕ) × (d.point ≡ p) × IsValue (around g k n) e × AreQuiet (makes e) d.variables hs
      × Stage g k h (calls_in e) d ((ways (context_of g k) e).value d).1
      × Laid g k h x w ((ways (context_of g k) e).value d).1.point (held ((ways (context_of g k) e).value d).0 (type_of e) ∷ hs)
  Laid g k h x (Test e y n) p hs = (d : Draft) × (m : ℕ) × (i : ℕ) × (j : ℕ) × (d.point ≡ p) × IsValue (around g k m) e × AreCalm d.variables hs
      × Stage g k h (calls_in e) d ((ways (context_of g k) e).choice i j d) × LaidWay g k y i hs × LaidWay g k n j hs
  -- the tree waits as it is, or in a temporary
  Laid g k h x (Keep w) p hs = OnTop hs (λ a rest. Laid g k h x w p (a ∷ rest)
      ⊎ ((q : ℕ) × (n : ℕ) × Writes g k h p (temporary n) (Set (temporary n) a.tree) q rest × Laid g k h x w q (in_temporary n a.int_type ∷ rest)))
  Laid g k h x (Branch y n) p hs = OnTop hs (λ a rest. ArePlain rest × (i : ℕ) × (j : ℕ) × Among (edge p (Guard a.tree true) i) g.edges × Among (edge p (Guard a.tree false) j) g.edges
      × LaidWay g k y i rest × LaidWay g k n j rest)
  -- what is folded was begun so
  Laid g k h x (Apply op at t w) p hs = OnTop hs (λ a rest. Laid g k h x w p (held (unary_tree op (site_at k at) t (conversion a.int_type t a.tree)) (result_type op t) ∷ rest)
      × (IsNumber (unary_tree op (site_at k at) t (conversion a.int_type t a.tree)) → IsBegunOne g k op at t w))
  Laid g k h x (Operate op at t w) p hs = OnTwo hs (λ a b rest. Laid g k h x w p (held (operated_tree op (site_at k at) t a.int_type b.int_type a.tree b.tree) (result_type op t) ∷ rest)
      × (IsNumber (operated_tree op (site_at k at) t a.int_type b.int_type a.tree b.tree) → IsBegunTwo g k op at t w))
  Laid g k h x (Convert t w) p hs = OnTop hs (λ a rest. Laid g k h x w p (held (conversion a.int_type t a.tree) t ∷ rest))
  Laid g k h x (Settle t w) p hs = OnTop hs (λ a rest. (q : ℕ) × (n : ℕ) × Sets g p (temporary n) (Set (temporary n) (conversion a.int_type t a.tree)) q rest
      × Laid g k h x w q (in_temporary n t ∷ rest))
  Laid g k h x (Truth z w) p hs = (q : ℕ) × (n : ℕ) × Sets g p (temporary n) (Set (temporary n) (constant Int z)) q hs × InType Int z × Laid g k h x w q (in_temporary n Int ∷ hs)
  -- a variable or constant is dropped at once
  Laid g k h x (Drop w) p hs = OnTop hs (λ a rest. (IsPlain a.tree × Laid g k h x w p rest) ⊎ ((q : ℕ) × (n : ℕ) × Writes g k h p (temporary n) (Set (temporary n) a.tree) q rest × Laid g k h x w q rest))
  Laid g k h x (Assign t y w) p hs = OnTop hs (λ a rest. (q : ℕ) × IsScalar g y t × Writes g k h p (own y) (Set (own y) (conversion a.int_type t a.tree)) q rest
      × Laid g k h x w q (held (variable (own y)) t ∷ rest))
  Laid g k h x (Put t y w) p hs = OnTop hs (λ a rest. (q : ℕ) × IsScalar g y t × Writes g k h p (own y) (Set (own y) (conversion a.int_type t a.tree)) q rest × Laid g k h x w q rest)
  Laid g k h x (Update op at o t y w) p hs = OnTop hs (λ a rest. (q : ℕ) × IsScalar g y t
      × Writes g k h p (own y) (Set (own y) (updated_tree op (site_at k at) o t a.int_type (variable (own y)) a.tree)) q rest × Laid g k h x w q (held (variable (own y)) t ∷ rest))
  Laid g k h x (Advance op at o t y w) p hs = (q : ℕ) × IsScalar g y t
      × Writes g k h p (own y) (Set (own y) (updated_tree op (site_at k at) o t Int (variable (own y)) one_tree)) q hs × Laid g k h x w q hs
  Laid g k h x (Fetch t y w) p hs = IsScalar g y t × Laid g k h x w p (held (variable (own y)) t ∷ hs)
  Laid g k h x (work.Load at a w) p hs = OnTop hs (λ i rest. (q : ℕ) × (n : ℕ) × IsArrayOf g a
      × Writes g k h p (temporary n) (Load (temporary n) (cells a) (site_at k at) true i.tree) q rest × Laid g k h x w q (in_temporary n a.int_type ∷ rest))
  Laid g k h x (Reload at a w) p hs = OnTwo hs (λ i b rest. (q : ℕ) × (n : ℕ) × IsArrayOf g a
      × Writes g k h p (temporary n) (Load (temporary n) (cells a) (site_at k at) true i.tree) q (b ∷ i ∷ rest) × (g.read k at → Laid g k h x w q (in_temporary n a.int_type ∷ b ∷ tested a.length i ∷ rest)))
  Laid g k h x (work.Store at a w) p hs = OnTwo hs (λ i b rest. (q : ℕ) × IsArrayOf g a
      × Writes g k h p (own a.object) (Store (cells a) (site_at k at) true i.tree (conversion b.int_type a.int_type b.tree)) q rest × Laid g k h x w q rest)
  Laid g k h x (StoreKept at a w) p hs = OnTwo hs (λ i b rest. (q : ℕ) × (f : Bool) × IsArrayOf g a × (b.int_type ≡ a.int_type)
      × Writes g k h p (own a.object) (Store (cells a) (site_at k at) f i.tree b.tree) q (b ∷ rest) × Laid g k h x w q (b ∷ rest) × IsTested f i.below a.length (g.read k at))
  Laid g k h x (Renew op at o r a w) p hs = OnThree hs (λ i b e rest. (q : ℕ) × ArePlain (e ∷ b ∷ i ∷ rest) × IsArrayOf g a × (e.int_type ≡ a.int_type)
      × Writes g k h p (own a.object) (Store (cells a) (site_at k r) false i.tree (updated_tree op (site_at k at) o a.int_type b.int_type e.tree b.tree)) q rest × Laid g k h x w q rest × (i.below ≡ Some a.length) × IsVariable e.tree × g.read k r)
  Laid g k h x (Renewed op at o t w) p hs = OnThree hs (λ i b e rest. (q : ℕ) × (n : ℕ) × ArePlain (e ∷ b ∷ i ∷ rest) × (e.int_type ≡ t)
      × Writes g k h p (temporary n) (Set (temporary n) (updated_tree op (site_at k at) o t b.int_type e.tree b.tree)) q (i ∷ rest) × Laid g k h x w q (in_temporary n t ∷ i ∷ rest) × IsVariable e.tree)
  Laid g k h x (Replace op at o r a w) p hs = OnThree hs (λ i b e rest. (q : ℕ) × ArePlain (e ∷ b ∷ i ∷ rest) × IsArrayOf g a × (e.int_type ≡ a.int_type)
      × Writes g k h p (own a.object) (Store (cells a) (site_at k r) false i.tree (updated_tree op (site_at k at) o a.int_type b.int_type e.tree b.tree)) q (e ∷ rest) × Laid g k h x w q (e ∷ rest) × (i.below ≡ Some a.length) × IsVariable e.tree × g.read k r)
  Laid g k h x (Fill a j es w) p hs = (d : Draft) × (n : ℕ) × (i : ℕ) × (d.point ≡ p) × (a ≡ local_array g k i) × IsArrayOf g a × AreValues (around g k n) es × (j + count es ≤ a.length)
      × AreCalm d.variables hs × Stage g k h (calls_in_values es) d (items (context_of g k) i j es d) × Laid g k h x w (items (context_of g k) i j es d).point hs
  Laid g k h x (Item a j w) p hs = OnTop hs (λ b rest. (q : ℕ) × (s : Site) × (j < a.length) × IsArrayOf g a
      × Writes g k h p (own a.object) (Store (cells a) s false (constant Int (pos j)) (conversion b.int_type a.int_type b.tree)) q rest × Laid g k h x w q rest)
  Laid g k h x (Claim at w) p hs = OnTop hs (λ a rest. ArePlain rest × (q : ℕ) × Among (edge p (Check (site_at k at) (conversion a.int_type Int a.tree)) q) g.edges × ShowsAt g q k h × Laid g k h x w q rest)
  Laid g k h x (Pass es w) p hs = (d : Draft) × (n : ℕ) × (d.point ≡ p) × AreValues (around g k n) es × AreQuiet (any_makes es) d.variables hs
      × Stage g k h (calls_in_values es) d (passed (context_of g k) es d).draft
      × Laid g k h x w (passed (context_of g k) es d).draft.point (pushed es (passed (context_of g k) es d).trees hs)
  Laid g k h x (Bind m i ts w) p hs = Binds g k h m i ts (Laid g k h x w) p hs
  Laid g k h x (Enter m w) p hs = (m < length g.program.paths) × ((region_at g.regions m).at ≡ p) × AreCalm (region_at g.regions m).variables hs
      × Laid g k h x w (region_at g.regions m).points hs × (k < m)
  Laid g k h x (Leave c) p hs = ArePlain hs × Among (edge p Skip x.left) g.edges × ShowsAt g x.left k (body_place g.program k) × LaidCaller g k c x.left hs
  Laid g k h x (Return c) p hs = ArePlain hs × LaidCaller g k c p hs
  Laid g k h x (Turn j l e a) p hs = (h ≡ j) × ArePlain hs × (c : ℕ) × (o : ℕ) × Loops g k j x l p c o hs × ContinuesAt l p c × ShowsAt g o k e × LaidAhead g k x a o hs
  Laid g k h x (Back j l e a) p hs = ArePlain hs × (b : ℕ) × (c : ℕ) × (o : ℕ) × Among (edge p Skip b) g.edges × ShowsAt g b k j × Loops g k j x l b c o hs × ContinuesAt l b c × ShowsAt g o k e × LaidAhead g k x a o hs
  Laid g k h x (Choose t zs i b s j a) p hs = OnTop hs (λ v rest. (d : Draft) × (n : ℕ) × (m : Marks) × (r : Site) × (total : ℕ) × (e : ℕ) × (d.point ≡ p) × (v.int_type ≡ t) × (total ≡ i + length zs)
      × IsStatement (around g k n) (WellTyped.in_switch total b m) s × AreCalm d.variables (v ∷ rest)
      × (u : Stage g k j (calls_in_statement s) d (switch_from (context_of g k) r t v.tree zs i total e b s x d))
      × Marking (in_switch e total x) (WellTyped.in_switch total b m) u.marks
      × Settles (final g k) (context_of g k) s (in_switch e total x) (away (if b then e + 1 + total else e) (case_tests r t v.tree zs (e + 1 + i) d)) × ShowsAt g e k j × LaidAhead g k x a e rest × IsSwitch total b s)

-- The configuration stands at a point with a memory: the graph does its work from there, and has its objects.
pub record StandsAt (g : Whole) (c : Config) (p : ℕ) (m : Memory) : Type 0 where
  pub exits : Exits
  pub waiting : List Held
  pub laid : Laid g c.path c.here exits c.work p waiting
  pub means : Means m waiting c.values
  pub same : m.objects ≡ c.objects
  pub fits : FitsObjects g.program c.objects
