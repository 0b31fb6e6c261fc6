use Rattle.std.proofs.Common.{◌≡◌, ap, ◌∙◌, sym, subst, List, [], ◌∷◌, take, Bool, true, Option, IfOk}
use Rattle.std.specs.Prelude.{pos, if◌then◌else◌}
use Rattle.pk_ctypes.specs.declared.places.Pos.{Pos}
use Rattle.pk_ctypes.specs.declared.types.IntType.{IntType}
use Rattle.pk_graph.specs.Steps.{Numbers, are_any}
use Rattle.pk_meaning.specs.Objects.{Object, result, Scope}
use Rattle.pk_meaning.specs.Programs.{Program, block_of, body_scope}
use Rattle.pk_meaning.specs.Work as work
use Rattle.pk_meaning.specs.Work.{Work, Caller, Place}
use Rattle.pk_meaning.specs.Steps as steps
use Rattle.pk_meaning.specs.Steps.{Config, on, writes, standing, place}
use Rattle.pk_runner_frame.specs.declared.works.Frame.{Frame}
use Rattle.pk_runner_state.specs.Shown.{told}
use Rattle.pk_runner_frame.specs.Frames.{Held, held, work_at, scope_in, caller_in, work_in}
use Rattle.pk_runner_state.specs.Shown.{program_in, shown, outcome, Outcome}
use Rattle.pk_runner_statement.proofs.StatementLemmas.{one_chosen}
use Rattle.pk_runner_statement.proofs.steps.fall.Goals as goal

pub returns-in-None-clause-told : goal.returns-in-None-clause-told
unfolding shown work_in
returns-in-None-clause-told c = λ s agrees.
    let old : Config = shown s c.args.state.now in
    let hs : List Held = held s c.args.state.now.frames.items in
    let p : Program = program_in c.args.program.now in
    let ch : Numbers = c.args.chosen.now in
    let x : Object = result c.args.state.now.path in
    let k : Caller = caller_in s (held s (take c.args.number c.args.state.now.frames.items)) c.args.caller in
    let there : Place = place c.closed.result (scope_in s c.in_ok-body_scope.field-0) in
    let here : Place = place (block_of p c.args.state.now.path).closed (body_scope p c.args.state.now.path) in
    let at : there ≡ here = ap (λ (xs : Scope). place c.closed.result xs) (c.in_ok-body_scope.ensures.scope s agrees) ∙ ap (λ (q : Pos). place q (body_scope p c.args.state.now.path)) c.closed.ensures in
    let d : Config = standing here old in
    c.go_on.ensures s
    ∙ (ap (λ (fs : List Frame). outcome (on (standing there old) (work.Leave (caller_in s (held s fs) c.args.caller)) old.values) old) c.truncate.ensures.items
    ∙ (ap (λ (q : Place). outcome (on (standing q old) (work.Leave k) old.values) old) at
    ∙ ap (λ (t : Option IntType). outcome (steps.falls p ch d t k) old) (sym c.in-None.is ∙ c.returns.ensures)))

pub returns-in_ok-leave-in-Some-clause-told : goal.returns-in_ok-leave-in-Some-clause-told
unfolding shown work_in
returns-in_ok-leave-in-Some-clause-told c = λ s agrees.
    let old : Config = shown s c.args.state.now in
    let hs : List Held = held s c.args.state.now.frames.items in
    let p : Program = program_in c.args.program.now in
    let ch : Numbers = c.args.chosen.now in
    let x : Object = result c.args.state.now.path in
    let k : Caller = caller_in s (held s (take c.args.number c.args.state.now.frames.items)) c.args.caller in
    let there : Place = place c.closed.result (scope_in s c.in_ok-body_scope.field-0) in
    let here : Place = place (block_of p c.args.state.now.path).closed (body_scope p c.args.state.now.path) in
    let at : there ≡ here = ap (λ (xs : Scope). place c.closed.result xs) (c.in_ok-body_scope.ensures.scope s agrees) ∙ ap (λ (q : Pos). place q (body_scope p c.args.state.now.path)) c.closed.ensures in
    let d : Config = standing here old in
    subst (λ (o : Outcome). IfOk c.write.result (λ r. told r (shown s c.write.new.state) ≡ o))
    (ap (λ (v : Work). outcome (writes (standing there old) x (pos 0 ∷ []) v old.values) old) (c.in_ok-leave-in-Some.ensures.work s
    ∙ ap (λ (fs : List Frame). work.Leave (caller_in s (held s fs) c.args.caller)) c.truncate-then-is_main.ensures.items)
    ∙ (ap (λ (q : Place). outcome (writes (standing q old) x (pos 0 ∷ []) (work.Leave k) old.values) old) at
    ∙ (ap (λ (b : Bool). outcome (if b then writes d x (pos 0 ∷ []) (work.Leave k) d.values else steps.with_choice c.in-Some.int_type 1 ch (writes d x ch (work.Leave k) d.values)) old)
    (sym c.if-is_main.true ∙ c.is_main.ensures)
    ∙ ap (λ (t : Option IntType). outcome (steps.falls p ch d t k) old) (sym c.in-Some.is ∙ c.returns.ensures))))
    (c.write.ensures s)

pub returns-in_ok-leave-in-Some-2-clause-told : goal.returns-in_ok-leave-in-Some-2-clause-told
unfolding shown work_in
returns-in_ok-leave-in-Some-2-clause-told c = λ s agrees.
    let old : Config = shown s c.args.state.now in
    let hs : List Held = held s c.args.state.now.frames.items in
    let p : Program = program_in c.args.program.now in
    let ch : Numbers = c.args.chosen.now in
    let x : Object = result c.args.state.now.path in
    let k : Caller = caller_in s (held s (take c.args.number c.args.state.now.frames.items)) c.args.caller in
    let there : Place = place c.closed.result (scope_in s c.in_ok-body_scope.field-0) in
    let here : Place = place (block_of p c.args.state.now.path).closed (body_scope p c.args.state.now.path) in
    let at : there ≡ here = ap (λ (xs : Scope). place c.closed.result xs) (c.in_ok-body_scope.ensures.scope s agrees) ∙ ap (λ (q : Pos). place q (body_scope p c.args.state.now.path)) c.closed.ensures in
    let d : Config = standing here old in
    let any : are_any c.in-Some.int_type 1 ch ≡ true = sym c.are_chosen.ensures ∙ c.if-are_chosen.true in
    subst (λ (o : Outcome). IfOk c.write-then-are_chosen.result (λ r. told r (shown s c.write-then-are_chosen.new.state) ≡ o))
    (ap (λ (zs : Numbers). outcome (writes (standing there old) x zs (work_at (held s c.then-then-are_chosen.new.frames.items) c.in_ok-leave-in-Some-2.leave) old.values) old)
    (one_chosen c.in-Some.int_type ch (pos 0) any)
    ∙ (ap (λ (v : Work). outcome (writes (standing there old) x ch v old.values) old) (c.in_ok-leave-in-Some-2.ensures.work s
    ∙ ap (λ (fs : List Frame). work.Leave (caller_in s (held s fs) c.args.caller)) c.truncate-then-are_chosen.ensures.items)
    ∙ (ap (λ (q : Place). outcome (writes (standing q old) x ch (work.Leave k) old.values) old) at
    ∙ (ap (λ (b : Bool). outcome (if b then writes d x ch (work.Leave k) d.values else steps.Wants c.in-Some.int_type 1) old) (sym c.if-are_chosen.true ∙ c.are_chosen.ensures)
    ∙ (ap (λ (b : Bool). outcome (if b then writes d x (pos 0 ∷ []) (work.Leave k) d.values else steps.with_choice c.in-Some.int_type 1 ch (writes d x ch (work.Leave k) d.values)) old)
    (sym c.if-is_main.false ∙ c.is_main.ensures)
    ∙ ap (λ (t : Option IntType). outcome (steps.falls p ch d t k) old) (sym c.in-Some.is ∙ c.returns.ensures))))))
    (c.write-then-are_chosen.ensures s)

pub returns-else-are_chosen-clause-told : goal.returns-else-are_chosen-clause-told
unfolding shown
returns-else-are_chosen-clause-told c = λ s agrees.
    let old : Config = shown s c.args.state.now in
    let hs : List Held = held s c.args.state.now.frames.items in
    let p : Program = program_in c.args.program.now in
    let ch : Numbers = c.args.chosen.now in
    let x : Object = result c.args.state.now.path in
    let k : Caller = caller_in s (held s (take c.args.number c.args.state.now.frames.items)) c.args.caller in
    let there : Place = place c.closed.result (scope_in s c.in_ok-body_scope.field-0) in
    let here : Place = place (block_of p c.args.state.now.path).closed (body_scope p c.args.state.now.path) in
    let at : there ≡ here = ap (λ (xs : Scope). place c.closed.result xs) (c.in_ok-body_scope.ensures.scope s agrees) ∙ ap (λ (q : Pos). place q (body_scope p c.args.state.now.path)) c.closed.ensures in
    let d : Config = standing here old in
    (ap (λ (b : Bool). outcome (if b then writes d x ch (work.Leave k) d.values else steps.Wants c.in-Some.int_type 1) old) (sym c.if-are_chosen.false ∙ c.are_chosen.ensures)
    ∙ (ap (λ (b : Bool). outcome (if b then writes d x (pos 0 ∷ []) (work.Leave k) d.values else steps.with_choice c.in-Some.int_type 1 ch (writes d x ch (work.Leave k) d.values)) old)
    (sym c.if-is_main.false ∙ c.is_main.ensures)
    ∙ ap (λ (t : Option IntType). outcome (steps.falls p ch d t k) old) (sym c.in-Some.is ∙ c.returns.ensures)))
