-- The graph follows the program at each step.
use Rattle.std.proofs.Common.{◌≡◌, ℕ, List, [], ◌∷◌, Bool, Some, None, refl}
use Rattle.pk_typed.specs.Trees as tree
use Rattle.pk_graph.specs.Steps.{Numbers}
use Rattle.pk_lower_statement.specs.declared.statements.Exits.{Exits}
use Rattle.pk_meaning.specs.Objects.{Objects}
use Rattle.pk_meaning.specs.Work as work
use Rattle.pk_meaning.specs.Work.{Place, Work, While, DoWhile, For}
use Rattle.pk_meaning.specs.Steps.{step_of}
use Rattle.pk_visits.proofs.Slots.{Memory}
use Rattle.pk_visits.proofs.Stands.{Whole, Proper, BodiesStand, Held, Means, FitsObjects, Laid}
use Rattle.pk_visits.proofs.Follow.{IsNoted, Answers, config, convert, settle, keep, drop, truth, put, assign}
use Rattle.pk_visits.proofs.Steps.Operators.{apply, operate, fetched, update, advance}
use Rattle.pk_visits.proofs.Steps.Elements.{load, reload, store, store_kept, item, renew, replace, renewed}
use Rattle.pk_visits.proofs.Steps.Tests.{branch, claim, leave, return}
use Rattle.pk_visits.proofs.Steps.Evaluations.{evaluate, perform, test, pass}
use Rattle.pk_visits.proofs.Steps.Entering.{bind, enter}
use Rattle.pk_visits.proofs.Steps.Returns.{fall}
use Rattle.pk_visits.proofs.Steps.Declared.{next_declared, for_declared}
use Rattle.pk_visits.proofs.Steps.Jumps.{label_followed, case_followed, default_followed, goto_followed, switch_followed, choose_followed}
use Rattle.pk_visits.proofs.Steps.Going.{declare_followed, block_followed, empty_followed, effect_followed, if_then_followed, if_else_followed, while_followed, do_followed, for_followed, break_followed, continue_followed, return_followed, next_followed, none_followed, join_followed, close_followed, again_followed, turn_while_followed, turn_do_followed, turn_for_followed, turn_ever_followed, back_followed, fill_followed}

pub followed : (w : Work) (g : Whole) (proper : Proper g) (bodies : BodiesStand g) (chosen : Numbers) (p : ℕ) (m : Memory) (k : ℕ) (h : Place) (vs : Numbers) (s : Objects) (b : Bool) (x : Exits) (hs : List Held)
    → Laid g k h x w p hs → Means m hs vs → m.objects ≡ s → FitsObjects g.program s → IsNoted g k w → Answers g chosen k h p m (step_of g.program chosen (config k h w vs s b) w)
followed (work.Keep w) g proper bodies chosen p m k h [] s b x [] l e same f come = absurd l
followed (work.Keep w) g proper bodies chosen p m k h [] s b x (c ∷ hs) l e same f come = absurd e
followed (work.Keep w) g proper bodies chosen p m k h (v ∷ vs) s b x [] l e same f come = absurd l
followed (work.Keep w) g proper bodies chosen p m k h (v ∷ vs) s b x (c ∷ hs) l e same f come = keep g chosen p m k h w v vs s b x c hs l e same f
followed (work.Branch y n) g proper bodies chosen p m k h [] s b x [] l e same f come = absurd l
followed (work.Branch y n) g proper bodies chosen p m k h [] s b x (d ∷ hs) l e same f come = absurd e
followed (work.Branch y n) g proper bodies chosen p m k h (v ∷ vs) s b x [] l e same f come = absurd l
followed (work.Branch y n) g proper bodies chosen p m k h (v ∷ vs) s b x (c ∷ hs) l e same f come = branch g chosen p m k h y n v vs s b x c hs l e same f
followed (work.Apply op q t w) g proper bodies chosen p m k h [] s b x [] l e same f come = absurd l
followed (work.Apply op q t w) g proper bodies chosen p m k h [] s b x (d ∷ hs) l e same f come = absurd e
followed (work.Apply op q t w) g proper bodies chosen p m k h (v ∷ vs) s b x [] l e same f come = absurd l
followed (work.Apply op q t w) g proper bodies chosen p m k h (v ∷ vs) s b x (c ∷ hs) l e same f come = apply g chosen p m k h op q t w v vs s b x c hs l e same f
followed (work.Operate op q t w) g proper bodies chosen p m k h [] s b x [] l e same f come = absurd l
followed (work.Operate op q t w) g proper bodies chosen p m k h [] s b x (d ∷ hs) l e same f come = absurd e
followed (work.Operate op q t w) g proper bodies chosen p m k h (v ∷ []) s b x [] l e same f come = absurd l
followed (work.Operate op q t w) g proper bodies chosen p m k h (v ∷ []) s b x (d ∷ []) l e same f come = absurd l
followed (work.Operate op q t w) g proper bodies chosen p m k h (v ∷ []) s b x (d ∷ c ∷ hs) l e same f come = absurd e.2
followed (work.Operate op q t w) g proper bodies chosen p m k h (v ∷ u ∷ vs) s b x [] l e same f come = absurd l
followed (work.Operate op q t w) g proper bodies chosen p m k h (v ∷ u ∷ vs) s b x (d ∷ []) l e same f come = absurd l
followed (work.Operate op q t w) g proper bodies chosen p m k h (v ∷ u ∷ vs) s b x (d ∷ c ∷ hs) l e same f come = operate g chosen p m k h op q t w u v vs s b x c d hs l e same f
followed (work.Convert t w) g proper bodies chosen p m k h [] s b x [] l e same f come = absurd l
followed (work.Convert t w) g proper bodies chosen p m k h [] s b x (d ∷ hs) l e same f come = absurd e
followed (work.Convert t w) g proper bodies chosen p m k h (v ∷ vs) s b x [] l e same f come = absurd l
followed (work.Convert t w) g proper bodies chosen p m k h (v ∷ vs) s b x (c ∷ hs) l e same f come = convert g chosen p m k h t w v vs s b x c hs l e same f
followed (work.Settle t w) g proper bodies chosen p m k h [] s b x [] l e same f come = absurd l
followed (work.Settle t w) g proper bodies chosen p m k h [] s b x (d ∷ hs) l e same f come = absurd e
followed (work.Settle t w) g proper bodies chosen p m k h (v ∷ vs) s b x [] l e same f come = absurd l
followed (work.Settle t w) g proper bodies chosen p m k h (v ∷ vs) s b x (c ∷ hs) l e same f come = settle g chosen p m k h t w v vs s b x c hs l e same f
followed (work.Drop w) g proper bodies chosen p m k h [] s b x [] l e same f come = absurd l
followed (work.Drop w) g proper bodies chosen p m k h [] s b x (d ∷ hs) l e same f come = absurd e
followed (work.Drop w) g proper bodies chosen p m k h (v ∷ vs) s b x [] l e same f come = absurd l
followed (work.Drop w) g proper bodies chosen p m k h (v ∷ vs) s b x (c ∷ hs) l e same f come = drop g chosen p m k h w v vs s b x c hs l e same f
followed (work.Assign t y w) g proper bodies chosen p m k h [] s b x [] l e same f come = absurd l
followed (work.Assign t y w) g proper bodies chosen p m k h [] s b x (d ∷ hs) l e same f come = absurd e
followed (work.Assign t y w) g proper bodies chosen p m k h (v ∷ vs) s b x [] l e same f come = absurd l
followed (work.Assign t y w) g proper bodies chosen p m k h (v ∷ vs) s b x (c ∷ hs) l e same f come = assign g chosen p m k h t y w v vs s b x c hs l e same f
followed (work.Put t y w) g proper bodies chosen p m k h [] s b x [] l e same f come = absurd l
followed (work.Put t y w) g proper bodies chosen p m k h [] s b x (d ∷ hs) l e same f come = absurd e
followed (work.Put t y w) g proper bodies chosen p m k h (v ∷ vs) s b x [] l e same f come = absurd l
followed (work.Put t y w) g proper bodies chosen p m k h (v ∷ vs) s b x (c ∷ hs) l e same f come = put g chosen p m k h t y w v vs s b x c hs l e same f
followed (work.Update op q o t y w) g proper bodies chosen p m k h [] s b x [] l e same f come = absurd l
followed (work.Update op q o t y w) g proper bodies chosen p m k h [] s b x (d ∷ hs) l e same f come = absurd e
followed (work.Update op q o t y w) g proper bodies chosen p m k h (v ∷ vs) s b x [] l e same f come = absurd l
followed (work.Update op q o t y w) g proper bodies chosen p m k h (v ∷ vs) s b x (c ∷ hs) l e same f come = update g chosen p m k h op q o t y w v vs s b x c hs l e same f
followed (work.Advance op q o t y w) g proper bodies chosen p m k h vs s b x hs l e same f come = advance g chosen p m k h op q o t y w vs s b x hs l e same f
followed (work.Fetch t y w) g proper bodies chosen p m k h vs s b x hs l e same f come = fetched g chosen p m k h t y w vs s b x hs l e same f
followed (work.Load q a w) g proper bodies chosen p m k h [] s b x [] l e same f come = absurd l
followed (work.Load q a w) g proper bodies chosen p m k h [] s b x (d ∷ hs) l e same f come = absurd e
followed (work.Load q a w) g proper bodies chosen p m k h (v ∷ vs) s b x [] l e same f come = absurd l
followed (work.Load q a w) g proper bodies chosen p m k h (v ∷ vs) s b x (c ∷ hs) l e same f come = load g chosen p m k h q a w v vs s b x c hs l e same f
followed (work.Reload q a w) g proper bodies chosen p m k h [] s b x [] l e same f come = absurd l
followed (work.Reload q a w) g proper bodies chosen p m k h [] s b x (d ∷ hs) l e same f come = absurd e
followed (work.Reload q a w) g proper bodies chosen p m k h (v ∷ []) s b x [] l e same f come = absurd l
followed (work.Reload q a w) g proper bodies chosen p m k h (v ∷ []) s b x (d ∷ []) l e same f come = absurd l
followed (work.Reload q a w) g proper bodies chosen p m k h (v ∷ []) s b x (d ∷ c ∷ hs) l e same f come = absurd e.2
followed (work.Reload q a w) g proper bodies chosen p m k h (v ∷ u ∷ vs) s b x [] l e same f come = absurd l
followed (work.Reload q a w) g proper bodies chosen p m k h (v ∷ u ∷ vs) s b x (d ∷ []) l e same f come = absurd l
followed (work.Reload q a w) g proper bodies chosen p m k h (v ∷ u ∷ vs) s b x (d ∷ c ∷ hs) l e same f come = reload g chosen p m k h q a w u v vs s b x c d hs l e same f (come.reads q a w refl)
followed (work.Store q a w) g proper bodies chosen p m k h [] s b x [] l e same f come = absurd l
followed (work.Store q a w) g proper bodies chosen p m k h [] s b x (d ∷ hs) l e same f come = absurd e
followed (work.Store q a w) g proper bodies chosen p m k h (v ∷ []) s b x [] l e same f come = absurd l
followed (work.Store q a w) g proper bodies chosen p m k h (v ∷ []) s b x (d ∷ []) l e same f come = absurd l
followed (work.Store q a w) g proper bodies chosen p m k h (v ∷ []) s b x (d ∷ c ∷ hs) l e same f come = absurd e.2
followed (work.Store q a w) g proper bodies chosen p m k h (v ∷ u ∷ vs) s b x [] l e same f come = absurd l
followed (work.Store q a w) g proper bodies chosen p m k h (v ∷ u ∷ vs) s b x (d ∷ []) l e same f come = absurd l
followed (work.Store q a w) g proper bodies chosen p m k h (v ∷ u ∷ vs) s b x (d ∷ c ∷ hs) l e same f come = store g chosen p m k h q a w u v vs s b x c d hs l e same f
followed (work.StoreKept q a w) g proper bodies chosen p m k h [] s b x [] l e same f come = absurd l
followed (work.StoreKept q a w) g proper bodies chosen p m k h [] s b x (d ∷ hs) l e same f come = absurd e
followed (work.StoreKept q a w) g proper bodies chosen p m k h (v ∷ []) s b x [] l e same f come = absurd l
followed (work.StoreKept q a w) g proper bodies chosen p m k h (v ∷ []) s b x (d ∷ []) l e same f come = absurd l
followed (work.StoreKept q a w) g proper bodies chosen p m k h (v ∷ []) s b x (d ∷ c ∷ hs) l e same f come = absurd e.2
followed (work.StoreKept q a w) g proper bodies chosen p m k h (v ∷ u ∷ vs) s b x [] l e same f come = absurd l
followed (work.StoreKept q a w) g proper bodies chosen p m k h (v ∷ u ∷ vs) s b x (d ∷ []) l e same f come = absurd l
followed (work.StoreKept q a w) g proper bodies chosen p m k h (v ∷ u ∷ vs) s b x (d ∷ c ∷ hs) l e same f come = store_kept g chosen p m k h q a w u v vs s b x c d hs l e same f
followed (work.Renew op q o r a w) g proper bodies chosen p m k h [] s b x [] l e same f come = absurd l
followed (work.Renew op q o r a w) g proper bodies chosen p m k h [] s b x (d ∷ hs) l e same f come = absurd e
followed (work.Renew op q o r a w) g proper bodies chosen p m k h (v ∷ []) s b x [] l e same f come = absurd l
followed (work.Renew op q o r a w) g proper bodies chosen p m k h (v ∷ []) s b x (d ∷ []) l e same f come = absurd l
followed (work.Renew op q o r a w) g proper bodies chosen p m k h (v ∷ []) s b x (d ∷ c ∷ hs) l e same f come = absurd e.2
followed (work.Renew op q o r a w) g proper bodies chosen p m k h (v ∷ u ∷ []) s b x [] l e same f come = absurd l
followed (work.Renew op q o r a w) g proper bodies chosen p m k h (v ∷ u ∷ []) s b x (d ∷ []) l e same f come = absurd l
followed (work.Renew op q o r a w) g proper bodies chosen p m k h (v ∷ u ∷ []) s b x (d ∷ c ∷ []) l e same f come = absurd l
followed (work.Renew op q o r a w) g proper bodies chosen p m k h (v ∷ u ∷ []) s b x (d ∷ c ∷ i ∷ hs) l e same f come = absurd e.2.2
followed (work.Renew op q o r a w) g proper bodies chosen p m k h (v ∷ u ∷ i ∷ vs) s b x [] l e same f come = absurd l
followed (work.Renew op q o r a w) g proper bodies chosen p m k h (v ∷ u ∷ i ∷ vs) s b x (d ∷ []) l e same f come = absurd l
followed (work.Renew op q o r a w) g proper bodies chosen p m k h (v ∷ u ∷ i ∷ vs) s b x (d ∷ c ∷ []) l e same f come = absurd l
followed (work.Renew op q o r a w) g proper bodies chosen p m k h (v ∷ u ∷ i ∷ vs) s b x (d ∷ c ∷ n ∷ hs) l e same f come = renew g chosen p m k h op q o r a w i u v vs s b x n c d hs l e same f
followed (work.Renewed op q o t w) g proper bodies chosen p m k h [] s b x [] l e same f come = absurd l
followed (work.Renewed op q o t w) g proper bodies chosen p m k h [] s b x (d ∷ hs) l e same f come = absurd e
followed (work.Renewed op q o t w) g proper bodies chosen p m k h (v ∷ []) s b x [] l e same f come = absurd l
followed (work.Renewed op q o t w) g proper bodies chosen p m k h (v ∷ []) s b x (d ∷ []) l e same f come = absurd l
followed (work.Renewed op q o t w) g proper bodies chosen p m k h (v ∷ []) s b x (d ∷ c ∷ hs) l e same f come = absurd e.2
followed (work.Renewed op q o t w) g proper bodies chosen p m k h (v ∷ u ∷ []) s b x [] l e same f come = absurd l
followed (work.Renewed op q o t w) g proper bodies chosen p m k h (v ∷ u ∷ []) s b x (d ∷ []) l e same f come = absurd l
followed (work.Renewed op q o t w) g proper bodies chosen p m k h (v ∷ u ∷ []) s b x (d ∷ c ∷ []) l e same f come = absurd l
followed (work.Renewed op q o t w) g proper bodies chosen p m k h (v ∷ u ∷ []) s b x (d ∷ c ∷ i ∷ hs) l e same f come = absurd e.2.2
followed (work.Renewed op q o t w) g proper bodies chosen p m k h (v ∷ u ∷ i ∷ vs) s b x [] l e same f come = absurd l
followed (work.Renewed op q o t w) g proper bodies chosen p m k h (v ∷ u ∷ i ∷ vs) s b x (d ∷ []) l e same f come = absurd l
followed (work.Renewed op q o t w) g proper bodies chosen p m k h (v ∷ u ∷ i ∷ vs) s b x (d ∷ c ∷ []) l e same f come = absurd l
followed (work.Renewed op q o t w) g proper bodies chosen p m k h (v ∷ u ∷ i ∷ vs) s b x (d ∷ c ∷ n ∷ hs) l e same f come = renewed g chosen p m k h op q o t w i u v vs s b x n c d hs l e same f
followed (work.Replace op q o r a w) g proper bodies chosen p m k h [] s b x [] l e same f come = absurd l
followed (work.Replace op q o r a w) g proper bodies chosen p m k h [] s b x (d ∷ hs) l e same f come = absurd e
followed (work.Replace op q o r a w) g proper bodies chosen p m k h (v ∷ []) s b x [] l e same f come = absurd l
followed (work.Replace op q o r a w) g proper bodies chosen p m k h (v ∷ []) s b x (d ∷ []) l e same f come = absurd l
followed (work.Replace op q o r a w) g proper bodies chosen p m k h (v ∷ []) s b x (d ∷ c ∷ hs) l e same f come = absurd e.2
followed (work.Replace op q o r a w) g proper bodies chosen p m k h (v ∷ u ∷ []) s b x [] l e same f come = absurd l
followed (work.Replace op q o r a w) g proper bodies chosen p m k h (v ∷ u ∷ []) s b x (d ∷ []) l e same f come = absurd l
followed (work.Replace op q o r a w) g proper bodies chosen p m k h (v ∷ u ∷ []) s b x (d ∷ c ∷ []) l e same f come = absurd l
followed (work.Replace op q o r a w) g proper bodies chosen p m k h (v ∷ u ∷ []) s b x (d ∷ c ∷ i ∷ hs) l e same f come = absurd e.2.2
followed (work.Replace op q o r a w) g proper bodies chosen p m k h (v ∷ u ∷ i ∷ vs) s b x [] l e same f come = absurd l
followed (work.Replace op q o r a w) g proper bodies chosen p m k h (v ∷ u ∷ i ∷ vs) s b x (d ∷ []) l e same f come = absurd l
followed (work.Replace op q o r a w) g proper bodies chosen p m k h (v ∷ u ∷ i ∷ vs) s b x (d ∷ c ∷ []) l e same f come = absurd l
followed (work.Replace op q o r a w) g proper bodies chosen p m k h (v ∷ u ∷ i ∷ vs) s b x (d ∷ c ∷ n ∷ hs) l e same f come = replace g chosen p m k h op q o r a w i u v vs s b x n c d hs l e same f
followed (work.Item a j w) g proper bodies chosen p m k h [] s b x [] l e same f come = absurd l
followed (work.Item a j w) g proper bodies chosen p m k h [] s b x (d ∷ hs) l e same f come = absurd e
followed (work.Item a j w) g proper bodies chosen p m k h (v ∷ vs) s b x [] l e same f come = absurd l
followed (work.Item a j w) g proper bodies chosen p m k h (v ∷ vs) s b x (c ∷ hs) l e same f come = item g chosen p m k h a j w v vs s b x c hs l e same f
followed (work.Claim q w) g proper bodies chosen p m k h [] s b x [] l e same f come = absurd l
followed (work.Claim q w) g proper bodies chosen p m k h [] s b x (d ∷ hs) l e same f come = absurd e
followed (work.Claim q w) g proper bodies chosen p m k h (v ∷ vs) s b x [] l e same f come = absurd l
followed (work.Claim q w) g proper bodies chosen p m k h (v ∷ vs) s b x (c ∷ hs) l e same f come = claim g chosen p m k h q w v vs s b x c hs l e same f
followed (work.Go (work.Rest xs tree.no_items a)) g proper bodies chosen p m k h vs s b x hs l e same f come = none_followed xs a g proper chosen p m k h vs s b x hs l e same f
followed (work.Go (work.Rest xs (tree.statement_before r is) a)) g proper bodies chosen p m k h vs s b x hs l e same f come = next_followed xs r is a g proper chosen p m k h vs s b x hs l e same f
followed (work.Go (work.Rest xs (tree.declared_before r is) a)) g proper bodies chosen p m k h vs s b x hs l e same f come = next_declared g proper chosen p m k h vs s b x hs xs r is a l e same f
followed (work.Go (work.Join j a)) g proper bodies chosen p m k h vs s b x hs l e same f come = join_followed j a g proper chosen p m k h vs s b x hs l e same f
followed (work.Go (work.Again j u o a)) g proper bodies chosen p m k h vs s b x hs l e same f come = again_followed j u o a g proper chosen p m k h vs s b x hs l e same f
followed (work.Go (work.Close j a)) g proper bodies chosen p m k h vs s b x hs l e same f come = close_followed j a g proper chosen p m k h vs s b x hs l e same f
followed (work.Go (work.End c)) g proper bodies chosen p m k h vs s b x hs l e same f come = fall g chosen p m k h c vs s b x hs l e same f
followed (work.Do (tree.block q is) a) g proper bodies chosen p m k h vs s b x hs l e same f come = block_followed q is a g proper chosen p m k h vs s b x hs l e same f
followed (work.Do (tree.empty q) a) g proper bodies chosen p m k h vs s b x hs l e same f come = empty_followed q a g proper chosen p m k h vs s b x hs l e same f
followed (work.Do (tree.effect q d) a) g proper bodies chosen p m k h vs s b x hs l e same f come = effect_followed q d a g proper chosen p m k h vs s b x hs l e same f
followed (work.Do (tree.if_then q v r) a) g proper bodies chosen p m k h vs s b x hs l e same f come = if_then_followed q v r a g proper chosen p m k h vs s b x hs l e same f
followed (work.Do (tree.if_else q v r t) a) g proper bodies chosen p m k h vs s b x hs l e same f come = if_else_followed q v r t a g proper chosen p m k h vs s b x hs l e same f
followed (work.Do (tree.while q v r) a) g proper bodies chosen p m k h vs s b x hs l e same f come = while_followed q v r a g proper chosen p m k h vs s b x hs l e same f
followed (work.Do (tree.do_while q r v) a) g proper bodies chosen p m k h vs s b x hs l e same f come = do_followed q r v a g proper chosen p m k h vs s b x hs l e same f
followed (work.Do (tree.continue q) a) g proper bodies chosen p m k h vs s b x hs l e same f come = continue_followed q a g proper chosen p m k h vs s b x hs l e same f
followed (work.Do (tree.break q) a) g proper bodies chosen p m k h vs s b x hs l e same f come = break_followed q a g proper chosen p m k h vs s b x hs l e same f
followed (work.Do (tree.return q v) a) g proper bodies chosen p m k h vs s b x hs l e same f come = return_followed q v a g proper chosen p m k h vs s b x hs l e same f
followed (work.Do (tree.for_loop q (tree.expression v) t third r) a) g proper bodies chosen p m k h vs s b x hs l e same f come = for_followed q v t third r a g proper chosen p m k h vs s b x hs l e same f
followed (work.Do (tree.for_loop q (tree.declarations ds) t third r) a) g proper bodies chosen p m k h vs s b x hs l e same f come = for_declared g proper chosen p m k h vs s b x hs q ds t third r a l e same f
followed (work.Do (tree.label q n r) a) g proper bodies chosen p m k h vs s b x hs l e same f come = label_followed q n r a g proper chosen p m k h vs s b x hs l e same f
followed (work.Do (tree.case q n r) a) g proper bodies chosen p m k h vs s b x hs l e same f come = case_followed q n r a g proper chosen p m k h vs s b x hs l e same f
followed (work.Do (tree.default q r) a) g proper bodies chosen p m k h vs s b x hs l e same f come = default_followed q r a g proper chosen p m k h vs s b x hs l e same f
followed (work.Do (tree.switch q t v zs d r) a) g proper bodies chosen p m k h vs s b x hs l e same f come = switch_followed q t v zs d r a g proper chosen p m k h vs s b x hs l e same f
followed (work.Do (tree.goto q n) a) g proper bodies chosen p m k h vs s b x hs l e same f come = goto_followed q n a g proper chosen p m k h vs s b x hs l e same f
followed (work.Declare ds w) g proper bodies chosen p m k h vs s b x hs l e same f come = declare_followed ds w g proper chosen p m k h vs s b x hs l e same f
followed (work.Choose t zs i d r j a) g proper bodies chosen p m k h vs s b x hs l e same f come = choose_followed t zs i d r j a g proper chosen p m k h vs s b x hs l e same f
followed (work.Perform d w) g proper bodies chosen p m k h vs s b x hs l e same f come = perform g proper chosen p m k h d w vs s b x hs l e same f
followed (work.Evaluate v w) g proper bodies chosen p m k h vs s b x hs l e same f come = evaluate g proper chosen p m k h v w vs s b x hs l e same f (come.begins v w refl)
followed (work.Test v y n) g proper bodies chosen p m k h vs s b x hs l e same f come = test g chosen p m k h v y n vs s b x hs l e same f
followed (work.Truth z w) g proper bodies chosen p m k h vs s b x hs l e same f come = truth g chosen p m k h z w vs s b x hs l e same f
followed (work.Fill d j es w) g proper bodies chosen p m k h vs s b x hs l e same f come = fill_followed d j es w g proper chosen p m k h vs s b x hs l e same f
followed (work.Pass es w) g proper bodies chosen p m k h vs s b x hs l e same f come = pass g chosen p m k h es w vs s b x hs l e same f
followed (work.Bind j i ts w) g proper bodies chosen p m k h vs s b x hs l e same f come = bind g chosen p m k h j i ts w vs s b x hs l e same f
followed (work.Enter j w) g proper bodies chosen p m k h vs s b x hs l e same f come = enter g bodies chosen p m k h j w vs s b x hs l e same f
followed (work.Leave c) g proper bodies chosen p m k h vs s b x hs l e same f come = leave g chosen p m k h c vs s b x hs l e same f
followed (work.Return c) g proper bodies chosen p m k h vs s b x hs l e same f come = return g chosen p m k h c vs s b x hs l e same f
followed (work.Turn j (While v r) o a) g proper bodies chosen p m k h vs s b x hs l e same f come = turn_while_followed j v r o a g proper chosen p m k h vs s b x hs l e same f
followed (work.Turn j (DoWhile r v) o a) g proper bodies chosen p m k h vs s b x hs l e same f come = turn_do_followed j r v o a g proper chosen p m k h vs s b x hs l e same f
followed (work.Turn j (For (Some v) third r) o a) g proper bodies chosen p m k h vs s b x hs l e same f come = turn_for_followed j v third r o a g proper chosen p m k h vs s b x hs l e same f
followed (work.Turn j (For None third r) o a) g proper bodies chosen p m k h vs s b x hs l e same f come = turn_ever_followed j third r o a g proper chosen p m k h vs s b x hs l e same f
followed (work.Back j u o a) g proper bodies chosen p m k h vs s b x hs l e same f come = back_followed j u o a g proper chosen p m k h vs s b x hs l e same f
