use Rattle.std.proofs.Common.{◌≡◌, sym, subst, IfOk}
use Rattle.pk_runner_frame.specs.Frames.{held, work_at, scope_in, work_in, ahead_in}
use Rattle.pk_runner_statement.specs.Afters.{after_in}
use Rattle.pk_runner_statement.specs.declared.declarations.After.{After}
use Rattle.pk_runner_statement.proofs.declarations.lay_after.Goals as goal

pub returns-in-Items : goal.returns-in-Items
unfolding ahead_in
returns-in-Items c = λ s.
    subst (λ (a : After). IfOk c.before-in-Items.result (λ n. work_at (held s c.before-in-Items.new.frames.items) n
    ≡ after_in s (held s c.args.frames.now.items) (scope_in s c.args.scope) a)) (sym c.in-Items.is) (c.before-in-Items.ensures.work s)

pub returns-in-Objects : goal.returns-in-Objects
unfolding work_in
returns-in-Objects c = λ s.
    subst (λ (a : After). IfOk c.then.result (λ n. work_at (held s c.then.new.frames.items) n ≡ after_in s (held s c.args.frames.now.items) (scope_in s c.args.scope) a)) (sym c.in-Objects.is) (c.then.ensures.work s)
