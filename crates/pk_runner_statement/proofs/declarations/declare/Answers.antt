use Rattle.std.proofs.Common.{◌≡◌, ℕ, ap, ◌∙◌, sym, subst, List, ◌∷◌, IfOk, option_map}
use Rattle.pk_typed.specs.declared.statements.Declared.{Declared}
use Rattle.pk_typed.specs.Views.{value_tree, declared_tree, optional_values}
use Rattle.pk_graph.specs.Steps.{Numbers}
use Rattle.pk_meaning.specs.Objects.{file, Scope}
use Rattle.pk_meaning.specs.Programs as programs
use Rattle.pk_meaning.specs.Programs.{Program}
use Rattle.pk_meaning.specs.Steps as steps
use Rattle.pk_meaning.specs.Steps.{Config, on, standing, place}
use Rattle.pk_runner_frame.specs.Frames.{Held, held, scope_in}
use Rattle.pk_runner_state.specs.Shown.{program_in, shown, Told}
use Rattle.pk_runner_statement.specs.Afters.{after_in}
use Rattle.pk_runner_statement.proofs.declarations.declare.Goals as goal

pub returns-in-Scalar-clause-told : goal.returns-in-Scalar-clause-told
unfolding declared_tree shown
returns-in-Scalar-clause-told c = λ s at agrees.
    let old : Config = shown s c.args.state.now in
    let p : Program = program_in c.args.program.now in
    let k : ℕ = c.args.state.now.path in
    let ch : Numbers = c.args.chosen.now in
    let hs : List Held = held s c.args.state.now.frames.items in
    let xs : Scope = scope_in s c.args.scope in
    let e : scope_in s c.in_ok-inner.inner ≡ programs.with_local p k c.in-Scalar.object xs = c.in_ok-inner.ensures.scope s agrees ∙ ap (λ (d : Declared). programs.with_declared p k (declared_tree d) xs) c.in-Scalar.is in
    subst (λ (d : Declared). IfOk c.begin_scalar.result (λ r. Told s c.args.state.now c.begin_scalar.new.state r (steps.declares p ch (standing (place at xs) old) (declared_tree d)
    (after_in s hs (programs.with_declared p k (declared_tree d) xs) c.args.after)))) (sym c.in-Scalar.is)
    (subst (λ (ys : Scope). IfOk c.begin_scalar.result (λ r. Told s c.args.state.now c.begin_scalar.new.state r (steps.scalar_first p ch (standing
    (place c.in-Scalar.at ys) old) c.in-Scalar.object (option_map value_tree c.in-Scalar.first) (after_in s hs ys c.args.after)))) e (c.begin_scalar.ensures s))

pub returns-in-Array-clause-told : goal.returns-in-Array-clause-told
unfolding declared_tree shown
returns-in-Array-clause-told c = λ s at agrees.
    let old : Config = shown s c.args.state.now in
    let p : Program = program_in c.args.program.now in
    let k : ℕ = c.args.state.now.path in
    let ch : Numbers = c.args.chosen.now in
    let hs : List Held = held s c.args.state.now.frames.items in
    let xs : Scope = scope_in s c.args.scope in
    let e : scope_in s c.in_ok-inner.inner ≡ programs.with_local p k c.in-Array.object xs = c.in_ok-inner.ensures.scope s agrees ∙ ap (λ (d : Declared). programs.with_declared p k (declared_tree d) xs) c.in-Array.is in
    subst (λ (d : Declared). IfOk c.begin_array.result (λ r. Told s c.args.state.now c.begin_array.new.state r (steps.declares p ch (standing (place at xs) old) (declared_tree d)
    (after_in s hs (programs.with_declared p k (declared_tree d) xs) c.args.after)))) (sym c.in-Array.is)
    (subst (λ (ys : Scope). IfOk c.begin_array.result (λ r. Told s c.args.state.now c.begin_array.new.state r (steps.array_first p ch (standing
    (place c.in-Array.at ys) old) c.in-Array.object (optional_values c.in-Array.list) (after_in s hs ys c.args.after)))) e (c.begin_array.ensures s))

pub returns-in-Static-clause-told : goal.returns-in-Static-clause-told
unfolding declared_tree shown
returns-in-Static-clause-told c = λ s at agrees.
    let old : Config = shown s c.args.state.now in
    let p : Program = program_in c.args.program.now in
    let k : ℕ = c.args.state.now.path in
    let ch : Numbers = c.args.chosen.now in
    let hs : List Held = held s c.args.state.now.frames.items in
    let xs : Scope = scope_in s c.args.scope in
    let e : scope_in s c.in_ok-inner.inner ≡ file c.in-Static._file ∷ xs = c.in_ok-inner.ensures.scope s agrees ∙ ap (λ (d : Declared). programs.with_declared p k (declared_tree d) xs) c.in-Static.is in
    subst (λ (d : Declared). IfOk c.go_past.result (λ r. Told s c.args.state.now c.go_past.new.state r (steps.declares p ch (standing (place at xs) old) (declared_tree d)
    (after_in s hs (programs.with_declared p k (declared_tree d) xs) c.args.after)))) (sym c.in-Static.is)
    (subst (λ (ys : Scope). IfOk c.go_past.result (λ r. Told s c.args.state.now c.go_past.new.state r (steps.on (standing
    (place c.in-Static.at ys) old) (after_in s hs ys c.args.after) old.values))) e (c.go_past.ensures s))

pub returns-in-Hiding-clause-told : goal.returns-in-Hiding-clause-told
unfolding declared_tree shown
returns-in-Hiding-clause-told c = λ s at agrees.
    let old : Config = shown s c.args.state.now in
    let p : Program = program_in c.args.program.now in
    let k : ℕ = c.args.state.now.path in
    let ch : Numbers = c.args.chosen.now in
    let hs : List Held = held s c.args.state.now.frames.items in
    let xs : Scope = scope_in s c.args.scope in
    let e : scope_in s c.in_ok-inner.inner ≡ xs = c.in_ok-inner.ensures.scope s agrees ∙ ap (λ (d : Declared). programs.with_declared p k (declared_tree d) xs) c.in-Hiding.is in
    subst (λ (d : Declared). IfOk c.go_past-in-Hiding.result (λ r. Told s c.args.state.now c.go_past-in-Hiding.new.state r (steps.declares p ch (standing (place at xs) old) (declared_tree d)
    (after_in s hs (programs.with_declared p k (declared_tree d) xs) c.args.after)))) (sym c.in-Hiding.is)
    (subst (λ (ys : Scope). IfOk c.go_past-in-Hiding.result (λ r. Told s c.args.state.now c.go_past-in-Hiding.new.state r (steps.on (standing
    (place c.in-Hiding.at ys) old) (after_in s hs ys c.args.after) old.values))) e (c.go_past-in-Hiding.ensures s))
