-- The graph follows the program at statements, and behind them.
use Rattle.std.proofs.Common.{◌≡◌, ℕ, ◌+◌, List, [], ◌∷◌, Bool, true, refl, sym, subst, Option, Some, None}
use Rattle.pk_ctypes.specs.declared.places.Pos.{Pos}
use Rattle.pk_ctypes.specs.declared.types.IntType.{IntType}
use Rattle.pk_typed.specs.Trees.{ValueTree, ValueTrees, EffectTree, DeclaredTree, StatementTree, ItemTrees}
use Rattle.pk_typed.specs.Trees as tree
use Rattle.pk_welltyped.specs.Listed.{calls_in, calls_if, calls_in_statement}
use Rattle.pk_welltyped.specs.WellTyped.{Around, IsValueIf, IsReturned, IsStatement, Marks}
use Rattle.pk_graph.specs.Trees.{Skip}
use Rattle.pk_graph.specs.Steps.{Numbers}
use Rattle.pk_draft.specs.Drafts.{on, fresh}
use Rattle.pk_lower_statement.specs.declared.statements.Exits.{Exits}
use Rattle.pk_lower_statement.specs.Statements.{inside, lowered, returned}
use Rattle.pk_meaning.specs.Objects.{Scope, Objects, Array, result}
use Rattle.pk_meaning.specs.Programs.{function_of}
use Rattle.pk_meaning.specs.Work as work
use Rattle.pk_meaning.specs.Work.{Place, Work, Ahead, Way, Onward, Refused, Lost, While, DoWhile, For}
use Rattle.pk_meaning.specs.Steps as meaning
use Rattle.pk_meaning.specs.Steps.{place, step_of, caller_of}
use Rattle.pk_visits.proofs.Slots.{Draft, Memory, Among, edge}
use Rattle.pk_visits.proofs.Settled.Trees.{Settles}
use Rattle.pk_visits.proofs.Stands.{Whole, Proper, context_of, final, Held, around, AreCalm, ShowsAt, Stage, Marking, Means, FitsObjects, LaidWay, LaidAhead, Laid}
use Rattle.pk_visits.proofs.Follow.{Answers, Follows, config, still, moved}
use Rattle.pk_visits.proofs.Steps.Starts.{for_begun}
use Rattle.pk_visits.proofs.Steps.Declared.{none_declared, all_declared_next}
use Rattle.pk_visits.proofs.Steps.Fills.{filled_laid, item_laid}
use Rattle.pk_visits.proofs.Steps.Statements.{block_laid, next_laid, none_laid, empty_laid, effect_laid}
use Rattle.pk_visits.proofs.Steps.Branches.{choice_laid, if_else_laid, if_then_laid}
use Rattle.pk_visits.proofs.Steps.Rounds.{while_laid, do_laid, turn_while, turn_do}
use Rattle.pk_visits.proofs.Steps.Thirds.{turn_for, turn_ever, resumed_laid, continue_laid}
use Rattle.pk_visits.proofs.Steps.Returns.{break_laid, leave_laid, value_laid}

-- over an edge that does nothing
pub jump : (g : Whole) (chosen : Numbers) (p q : ℕ) (m : Memory) (k : ℕ) (h : Place) (w : Work) (vs : Numbers) (s : Objects) (x : Exits) (hs : List Held)
    → Among (edge p Skip q) g.edges → ShowsAt g q k h → Laid g k h x w q hs → Means m hs vs → m.objects ≡ s → FitsObjects g.program s → Follows g chosen p m (config k h w vs s true)
jump g chosen p q m k h w vs s x hs there shown l e same f = moved g chosen p q m m Skip k h w vs s true x hs there refl (refl, shown) l e same f

-- over such an edge along a way
along : (g : Whole) (chosen : Numbers) (p q : ℕ) (m : Memory) (k : ℕ) (h : Place) (w : Work) (vs : Numbers) (s : Objects) (b : Bool) (y : Way) (hs : List Held)
    → Among (edge p Skip q) g.edges → LaidWay g k y q hs → Means m hs vs → m.objects ≡ s → FitsObjects g.program s → Answers g chosen k h p m (meaning.takes (config k h w vs s b) y vs)
along g chosen p q m k h w vs s b (Onward j v) hs there (shown, (x, l)) e same f = jump g chosen p q m k j v vs s x hs there shown l e same f
along g chosen p q m k h w vs s b Refused hs there l e same f = (Skip, subst (λ j. Among (edge p Skip j) g.edges) l there, refl)
along g chosen p q m k h w vs s b Lost hs there l e same f = absurd l

-- that the graph follows the program at this work, at each place
abbrev pub IsFollowed : Work → Type 1
IsFollowed w = (g : Whole) (proper : Proper g) (chosen : Numbers) (p : ℕ) (m : Memory) (k : ℕ) (h : Place) (vs : Numbers) (s : Objects) (b : Bool) (x : Exits) (hs : List Held)
    → Laid g k h x w p hs → Means m hs vs → m.objects ≡ s → FitsObjects g.program s → Answers g chosen k h p m (step_of g.program chosen (config k h w vs s b) w)

-- ---- statements

pub block_followed : (q : Pos) (is : ItemTrees) (a : Ahead) → IsFollowed (work.Do (tree.block q is) a)
block_followed q is a g proper chosen p m k h vs s b x hs l e same f = still g chosen p m k h (work.Go (work.Rest h.scope is a)) vs s x hs (block_laid g k h x q is a p hs l) e same f

pub empty_followed : (q : Pos) (a : Ahead) → IsFollowed (work.Do (tree.empty q) a)
empty_followed q a g proper chosen p m k h vs s b x hs l e same f = still g chosen p m k h (work.Go a) vs s x hs (empty_laid g k h x q a p hs l) e same f

pub effect_followed : (q : Pos) (d : EffectTree) (a : Ahead) → IsFollowed (work.Do (tree.effect q d) a)
effect_followed q d a g proper chosen p m k h vs s b x hs l e same f =
    still g chosen p m k (place q h.scope) (work.Perform d (work.Go a)) vs s x hs (effect_laid g proper k h x q d a p hs l) e same f

pub if_then_followed : (q : Pos) (c : ValueTree) (r : StatementTree) (a : Ahead) → IsFollowed (work.Do (tree.if_then q c r) a)
if_then_followed q c r a g proper chosen p m k h vs s b x hs l e same f =
    let j = place q h.scope in
    still g chosen p m k j (work.Test c (Onward j (work.Do r (work.Join j a))) (Onward j (work.Go (work.Join j a)))) vs s x hs (choice_laid g k j x c (work.Do r (work.Join j a)) (work.Go (work.Join j a)) p hs (if_then_laid g proper k h x q c r a p hs l)) e same f

pub if_else_followed : (q : Pos) (c : ValueTree) (r t : StatementTree) (a : Ahead) → IsFollowed (work.Do (tree.if_else q c r t) a)
if_else_followed q c r t a g proper chosen p m k h vs s b x hs l e same f =
    let j = place q h.scope in
    still g chosen p m k j (work.Test c (Onward j (work.Do r (work.Join j a))) (Onward j (work.Do t (work.Join j a)))) vs s x hs (choice_laid g k j x c (work.Do r (work.Join j a)) (work.Do t (work.Join j a)) p hs (if_else_laid g proper k h x q c r t a p hs l)) e same f

pub while_followed : (q : Pos) (c : ValueTree) (r : StatementTree) (a : Ahead) → IsFollowed (work.Do (tree.while q c r) a)
while_followed q c r a g proper chosen p m k h vs s b x hs l e same f =
    let j = place q h.scope in
    let z = while_laid g proper k h x q c r a p hs l in
    jump g chosen p z.0 m k j (work.Turn j (While c r) j a) vs s x hs z.1 z.2 z.3 e same f

pub do_followed : (q : Pos) (r : StatementTree) (c : ValueTree) (a : Ahead) → IsFollowed (work.Do (tree.do_while q r c) a)
do_followed q r c a g proper chosen p m k h vs s b x hs l e same f =
    let j = place q h.scope in
    let z = do_laid g proper k h x q r c a p hs l in
    jump g chosen p z.0 m k j (work.Turn j (DoWhile r c) j a) vs s x hs z.1 z.2 z.3 e same f

pub break_followed : (q : Pos) (a : Ahead) → IsFollowed (work.Do (tree.break q) a)
break_followed q a g proper chosen p m k h vs s b x hs l e same f =
    let z = break_laid g k h x q a p hs l in along g chosen p x.broken m k h (work.Do (tree.break q) a) vs s b (meaning.broken a) hs z.0 z.1 e same f

return_by : (g : Whole) (proper : Proper g) (chosen : Numbers) (m : Memory) (k : ℕ) (h : Place) (x : Exits) (q : Pos) (v : Option ValueTree) (a : Ahead) (n : ℕ) (d : Draft) (vs : Numbers) (s : Objects) (b : Bool) (w : Work) (hs : List Held)
    (r : Option IntType) → (function_of g.program k).returns ≡ r → IsValueIf (around g k n) v → AreCalm d.variables hs → Stage g k (place d.here.at h.scope) (calls_if v) d (returned (context_of g k) x.left r v (on q d))
    → LaidAhead g k x a (returned (context_of g k) x.left r v (on q d)).point hs → Means m hs vs → m.objects ≡ s → FitsObjects g.program s
    → Answers g chosen k h d.point m (meaning.returns (meaning.standing_at q (config k h w vs s b)) r v (caller_of a))
return_by g proper chosen m k h x q None a n d vs s b w hs None is fits calm t l e same f =
    still g chosen d.point m k (place q h.scope) (work.Leave (caller_of a)) vs s x hs (leave_laid g k (place d.here.at h.scope) x q None a d.point hs d [] refl calm t l) e same f
return_by g proper chosen m k h x q (Some v) a n d vs s b w hs None is fits calm t l e same f =
    still g chosen d.point m k (place q h.scope) (work.Leave (caller_of a)) vs s x hs (leave_laid g k (place d.here.at h.scope) x q (Some v) a d.point hs d (calls_in v) refl calm t l) e same f
return_by g proper chosen m k h x q None a n d vs s b w hs (Some i) is fits calm t l e same f =
    still g chosen d.point m k (place q h.scope) (work.Leave (caller_of a)) vs s x hs (leave_laid g k (place d.here.at h.scope) x q None a d.point hs d [] refl calm t l) e same f
return_by g proper chosen m k h x q (Some v) a n d vs s b w hs (Some i) is fits calm t l e same f =
    still g chosen d.point m k (place q h.scope) (work.Evaluate v (work.Put i (result k) (work.Leave (caller_of a)))) vs s x hs (value_laid g proper k h x q i v a n d hs is fits calm t l) e same f

value_if : (a : Around) (r : Option IntType) (v : Option ValueTree) → IsReturned a r v → IsValueIf a v
value_if a None None is = is
value_if a None (Some v) is = absurd is
value_if a (Some i) None is = absurd is
value_if a (Some i) (Some v) is = is

pub return_followed : (q : Pos) (v : Option ValueTree) (a : Ahead) → IsFollowed (work.Do (tree.return q v) a)
unfolding lowered IsStatement calls_in_statement
return_followed q v a g proper chosen p m k h vs s b x hs (d, n, marks, at', fits, calm, t, marking, settled, l) e same f =
    subst (λ i. Answers g chosen k h i m (step_of g.program chosen (config k h (work.Do (tree.return q v) a) vs s b) (work.Do (tree.return q v) a))) at'
    (return_by g proper chosen m k h x q v a n d vs s b (work.Do (tree.return q v) a) hs (function_of g.program k).returns refl (value_if (around g k n) marks.returns v fits) calm t l e same f)

pub continue_followed : (q : Pos) (a : Ahead) → IsFollowed (work.Do (tree.continue q) a)
continue_followed q a g proper chosen p m k h vs s b x hs l e same f =
    let z = continue_laid g proper k h x q a p hs l in along g chosen p x.continued m k h (work.Do (tree.continue q) a) vs s b (meaning.continued a) hs z.0 z.1 e same f

-- ---- behind a statement

pub next_followed : (xs : Scope) (r : StatementTree) (is : ItemTrees) (a : Ahead) → IsFollowed (work.Go (work.Rest xs (tree.statement_before r is) a))
next_followed xs r is a g proper chosen p m k h vs s b x hs l e same f =
    still g chosen p m k (place h.at xs) (work.Do r (work.Rest xs is a)) vs s x hs (next_laid g proper k h x xs r is a p hs h.at l) e same f

pub none_followed : (xs : Scope) (a : Ahead) → IsFollowed (work.Go (work.Rest xs tree.no_items a))
none_followed xs a g proper chosen p m k h vs s b x hs l e same f = still g chosen p m k h (work.Go a) vs s x hs (none_laid g k h x xs a p hs l) e same f

pub join_followed : (j : Place) (a : Ahead) → IsFollowed (work.Go (work.Join j a))
join_followed j a g proper chosen p m k h vs s b x hs (plain, (q, there, shown, l)) e same f = jump g chosen p q m k j (work.Go a) vs s x hs there shown (plain, l) e same f

pub close_followed : (j : Place) (a : Ahead) → IsFollowed (work.Go (work.Close j a))
close_followed j a g proper chosen p m k h vs s b x hs (plain, (y, there, shown, is, l)) e same f = jump g chosen p x.broken m k j (work.Go a) vs s y hs there shown (plain, l) e same f

pub again_followed : (j : Place) (u : work.Loop) (o : Place) (a : Ahead) → IsFollowed (work.Go (work.Again j u o a))
again_followed j u o a g proper chosen p m k h vs s b x hs (plain, l) e same f =
    let z = resumed_laid g proper k j x u o a p hs plain l in jump g chosen p x.continued m k j (meaning.resumed j u o a) vs s z.0 hs l.2 l.3 z.1 e same f

-- ---- where a loop begins again

pub turn_while_followed : (j : Place) (c : ValueTree) (r : StatementTree) (o : Place) (a : Ahead) → IsFollowed (work.Turn j (While c r) o a)
turn_while_followed j c r o a g proper chosen p m k h vs s b x hs l e same f =
    let w = work.Test c (Onward j (work.Do r (work.Again j (While c r) o a))) (Onward o (work.Go a)) in
    still g chosen p m k h w vs s x hs (subst (λ i. Laid g k i x w p hs) (sym l.0) (turn_while g proper k j h x c r o a p hs l)) e same f

pub turn_for_followed : (j : Place) (c : ValueTree) (third : Option EffectTree) (r : StatementTree) (o : Place) (a : Ahead) → IsFollowed (work.Turn j (For (Some c) third r) o a)
turn_for_followed j c third r o a g proper chosen p m k h vs s b x hs l e same f =
    let w = work.Test c (Onward j (work.Do r (work.Again j (For (Some c) third r) o a))) (Onward o (work.Go a)) in
    still g chosen p m k h w vs s x hs (subst (λ i. Laid g k i x w p hs) (sym l.0) (turn_for g proper k j h x c third r o a p hs l)) e same f

pub turn_ever_followed : (j : Place) (third : Option EffectTree) (r : StatementTree) (o : Place) (a : Ahead) → IsFollowed (work.Turn j (For None third r) o a)
turn_ever_followed j third r o a g proper chosen p m k h vs s b x hs l e same f =
    let z = turn_ever g proper k j h x third r o a p hs l in
    let v = z.3 in jump g chosen p z.0 m k j (work.Do r (work.Again j (For None third r) o a)) vs s v.0 hs z.1 z.2 v.1 e same f

pub turn_do_followed : (j : Place) (r : StatementTree) (c : ValueTree) (o : Place) (a : Ahead) → IsFollowed (work.Turn j (DoWhile r c) o a)
turn_do_followed j r c o a g proper chosen p m k h vs s b x hs l e same f =
    let w = work.Do r (work.Again j (DoWhile r c) o a) in
    let z = turn_do g proper k j h x c r o a p hs l in
    let y = inside z.0 z.1 x in still g chosen p m k h w vs s y hs (subst (λ i. Laid g k i y w p hs) (sym l.0) z.2) e same f

pub back_followed : (j : Place) (u : work.Loop) (o : Place) (a : Ahead) → IsFollowed (work.Back j u o a)
back_followed j u o a g proper chosen p m k h vs s b x hs (plain, q, c, i, there, shown, loop, cont, behind, l) e same f =
    jump g chosen p q m k j (work.Turn j u o a) vs s x hs there shown (refl, plain, c, i, loop, cont, behind, l) e same f

-- ---- a `for` whose first part is no declaration

for_by : (g : Whole) (proper : Proper g) (chosen : Numbers) (m : Memory) (k : ℕ) (h : Place) (x : Exits) (q : Pos) (v : Option EffectTree) (t : Option ValueTree) (third : Option EffectTree) (r : StatementTree) (a : Ahead) (d : Draft) (n : ℕ) (mark : Marks) (vs : Numbers) (s : Objects) (b : Bool) (w : Work) (hs : List Held)
    → IsStatement (around g k n) mark (tree.for_loop q (tree.expression v) t third r) → AreCalm d.variables hs
    → (z : Stage g k (place d.here.at h.scope) (calls_in_statement (tree.for_loop q (tree.expression v) t third r)) d (lowered (context_of g k) (tree.for_loop q (tree.expression v) t third r) x d))
    → Marking x mark z.marks → Settles (final g k) (context_of g k) (tree.for_loop q (tree.expression v) t third r) x d → LaidAhead g k x a (lowered (context_of g k) (tree.for_loop q (tree.expression v) t third r) x d).point hs → Means m hs vs → m.objects ≡ s → FitsObjects g.program s
    → Answers g chosen k h d.point m (meaning.for_start (meaning.standing (place q h.scope) (config k h w vs s b)) (tree.expression v) (work.Back (place q h.scope) (For t third r) (place q h.scope) a))
unfolding IsStatement
for_by g proper chosen m k h x q None t third r a d n mark vs s b w hs fits calm z marking settled l e same f =
    let parts = for_begun g proper k h x q (tree.expression None) t third r a hs d n mark fits calm z marking settled l in
    still g chosen d.point m k (place q h.scope) (work.Back (place q h.scope) (For t third r) (place q h.scope) a) vs s x hs parts.1 e same f
for_by g proper chosen m k h x q (Some v) t third r a d n mark vs s b w hs fits calm z marking settled l e same f =
    let parts = for_begun g proper k h x q (tree.expression (Some v)) t third r a hs d n mark fits calm z marking settled l in
    still g chosen d.point m k (place q h.scope) (work.Perform v (work.Back (place q h.scope) (For t third r) (place q h.scope) a)) vs s x hs
    (fresh 1 (on q d), n, refl, fits.0, (λ y. calm), parts.0, parts.1) e same f

pub for_followed : (q : Pos) (v : Option EffectTree) (t : Option ValueTree) (third : Option EffectTree) (r : StatementTree) (a : Ahead) → IsFollowed (work.Do (tree.for_loop q (tree.expression v) t third r) a)
for_followed q v t third r a g proper chosen p m k h vs s b x hs (d, n, marks, at', fits, calm, z, marking, settled, l) e same f =
    let w = work.Do (tree.for_loop q (tree.expression v) t third r) a in
    subst (λ i. Answers g chosen k h i m (step_of g.program chosen (config k h w vs s b) w)) at' (for_by g proper chosen m k h x q v t third r a d n marks vs s b w hs fits calm z marking settled l e same f)

-- ---- braced lists

pub fill_followed : (d : Array) (j : ℕ) (es : ValueTrees) (w : Work) → IsFollowed (work.Fill d j es w)
fill_followed d j tree.no_values w g proper chosen p m k h vs s b x hs l e same f = still g chosen p m k h w vs s x hs (filled_laid g k h x d j w p hs l) e same f
fill_followed d j (tree.value_before v es) w g proper chosen p m k h vs s b x hs l e same f =
    still g chosen p m k h (work.Evaluate v (work.Item d j (work.Fill d (j + 1) es w))) vs s x hs (item_laid g k h x d j v es w p hs l) e same f

-- ---- declarations at the start of a `for`

pub declare_followed : (vs : List DeclaredTree) (w : Work) → IsFollowed (work.Declare vs w)
declare_followed [] w g proper chosen p m k h us s b x hs l e same f = still g chosen p m k h w us s x hs (none_declared g k h x w p hs l) e same f
declare_followed (v ∷ vs) w g proper chosen p m k h us s b x hs l e same f = all_declared_next g proper chosen p m k h us s b x hs v vs w l e same f
