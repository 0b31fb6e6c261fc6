use Rattle.std.proofs.Common.{◌≡◌, ◌<◌, ℕ, List, [], length, reverse, ⊎_elim, sym, ◌∙◌, ap, subst, arith}
use Rattle.pk_typed.specs.Views.{unit_tree}
use Rattle.pk_calls.specs.declared.walk.Frame.{Frame}
use Rattle.pk_calls.specs.declared.walk.State.TheVariants.{Fresh, OnPath, Left}
use Rattle.pk_calls.specs.Frames.{path_of}
use Rattle.pk_calls.specs.Walk.{cycle_of}
use Rattle.pk_calls.proofs.CallLemmas.{has_body_in, functions_long, no_true}
use Rattle.pk_calls.proofs.Walking.{walk_begins, walk_ends, entry_left, entry_not_fresh, entry_not_on_path, site_of, state_read}
use Rattle.pk_calls.proofs.WalkSteps.{AtCall, has_state, has_frame_state, site_state, steps_out, steps_over, steps_in, meets_recursion, meets_bodiless, out_is_less, over_is_less, in_is_less, ends}
use Rattle.pk_calls.proofs.walk.walk.Goals as goal

pub index_mut-requires : goal.index_mut-requires
index_mut-requires c = omega (arith, has_body_in c.args.unit.now c.args.entry c.requires, c.in_ok-states.ensures.len)

pub loop-frame-init : goal.loop-frame-init
loop-frame-init c =
    let lt : c.args.entry < c.len.result = omega (arith, has_body_in c.args.unit.now c.args.entry c.requires) in
    let long : c.len.result ≡ length (unit_tree c.args.unit.now).functions = omega (arith, functions_long c.args.unit.now) in
    rw (c.in_ok-states.ensures.items_if_clones_equal (λ y e. e), c.in_ok-push.ensures.items, c.new-frames.ensures.items) (walk_begins (unit_tree c.args.unit.now) c.args.entry c.len.result c.alone.result long lt c.requires c.alone.ensures.paths c.alone.ensures.variables)

pub index_mut-requires-then-next-calls : goal.index_mut-requires-then-next-calls
index_mut-requires-then-next-calls c = subst (λ (n : ℕ). c.in-Some.frame.function < n) (sym c.loop-frame.states.ok.0) (has_frame_state c.args.unit.now c.args.entry c.loop-frame.states.items c.loop-frame.frames.items c.pop.new.self.items c.in-Some.frame c.in-Some.ensures.items c.loop-frame.invariant)

pub loop-frame-preserved-then-next-calls : goal.loop-frame-preserved-then-next-calls
loop-frame-preserved-then-next-calls c =
    steps_out c.args.unit.now c.args.entry c.loop-frame.states.items c.loop-frame.frames.items c.pop.new.self.items c.in-Some.frame c.calls-calls.result.now c.in-Some.ensures.items c.loop-frame.invariant c.calls-calls.ensures c.if-next-calls.true

pub loop-frame-smaller-then-next-calls : goal.loop-frame-smaller-then-next-calls
loop-frame-smaller-then-next-calls c = out_is_less c.args.unit.now c.args.entry c.loop-frame.states.items c.loop-frame.frames.items c.pop.new.self.items c.in-Some.frame c.in-Some.ensures.items c.loop-frame.invariant

pub returns-then-not-has_body : goal.returns-then-not-has_body
returns-then-not-has_body c =
    let a : AtCall c.args.unit.now c.args.entry c.loop-frame.states.items c.loop-frame.frames.items c.pop.new.self.items c.in-Some.frame c.calls-calls.result.now =
    record { is_pushed = c.in-Some.ensures.items; goes = c.loop-frame.invariant; calls = c.calls-calls.ensures; more = c.if-next-calls.false } in
    meets_bodiless a c.in_ok-name.field-0 (λ h. no_true (sym c.if-not-has_body.true ∙ c.has_body.ensures.1 h)) c.in_ok-name.ensures

pub index-requires : goal.index-requires
index-requires c =
    let a : AtCall c.args.unit.now c.args.entry c.loop-frame.states.items c.loop-frame.frames.items c.pop.new.self.items c.in-Some.frame c.calls-calls.result.now =
    record { is_pushed = c.in-Some.ensures.items; goes = c.loop-frame.invariant; calls = c.calls-calls.ensures; more = c.if-next-calls.false } in
    subst (λ (n : ℕ). (site_of c.calls-calls.result.now c.in-Some.frame.next).function < n) (sym c.loop-frame.states.ok.0) (site_state a (c.has_body.ensures.0 c.if-not-has_body.false))

pub loop-frame-preserved-in_ok-push-in-Left : goal.loop-frame-preserved-in_ok-push-in-Left
loop-frame-preserved-in_ok-push-in-Left c =
    let a : AtCall c.args.unit.now c.args.entry c.loop-frame.states.items c.loop-frame.frames.items c.pop.new.self.items c.in-Some.frame c.calls-calls.result.now =
    record { is_pushed = c.in-Some.ensures.items; goes = c.loop-frame.invariant; calls = c.calls-calls.ensures; more = c.if-next-calls.false } in
    steps_over a c.push-in-Left.new.self.items c.in-Left.below c.and.result c.index.result.now (c.has_body.ensures.0 c.if-not-has_body.false) c.index.ensures c.in-Left.is c.and.ensures.paths c.and.ensures.variables c.in_ok-push-in-Left.ensures.items

pub loop-frame-smaller-in_ok-push-in-Left : goal.loop-frame-smaller-in_ok-push-in-Left
loop-frame-smaller-in_ok-push-in-Left c =
    let a : AtCall c.args.unit.now c.args.entry c.loop-frame.states.items c.loop-frame.frames.items c.pop.new.self.items c.in-Some.frame c.calls-calls.result.now =
    record { is_pushed = c.in-Some.ensures.items; goes = c.loop-frame.invariant; calls = c.calls-calls.ensures; more = c.if-next-calls.false } in
    over_is_less a c.push-in-Left.new.self.items c.and.result c.in_ok-push-in-Left.ensures.items

pub index_mut-requires-in-Fresh : goal.index_mut-requires-in-Fresh
index_mut-requires-in-Fresh c =
    let a : AtCall c.args.unit.now c.args.entry c.loop-frame.states.items c.loop-frame.frames.items c.pop.new.self.items c.in-Some.frame c.calls-calls.result.now =
    record { is_pushed = c.in-Some.ensures.items; goes = c.loop-frame.invariant; calls = c.calls-calls.ensures; more = c.if-next-calls.false } in
    subst (λ (n : ℕ). (site_of c.calls-calls.result.now c.in-Some.frame.next).function < n) (sym c.loop-frame.states.ok.0) (site_state a (c.has_body.ensures.0 c.if-not-has_body.false))

pub loop-frame-preserved : goal.loop-frame-preserved
loop-frame-preserved c =
    let a : AtCall c.args.unit.now c.args.entry c.loop-frame.states.items c.loop-frame.frames.items c.pop.new.self.items c.in-Some.frame c.calls-calls.result.now =
    record { is_pushed = c.in-Some.ensures.items; goes = c.loop-frame.invariant; calls = c.calls-calls.ensures; more = c.if-next-calls.false } in
    steps_in a c.push-in-Fresh.new.self.items c.push-in-Fresh-2.new.self.items c.alone-in-Fresh.result c.index.result.now (c.has_body.ensures.0 c.if-not-has_body.false) c.index.ensures c.in-Fresh.is c.alone-in-Fresh.ensures.paths c.alone-in-Fresh.ensures.variables
    c.in_ok-push-in-Fresh.ensures.items c.in_ok-push-in-Fresh-2.ensures.items

pub loop-frame-smaller : goal.loop-frame-smaller
loop-frame-smaller c =
    let a : AtCall c.args.unit.now c.args.entry c.loop-frame.states.items c.loop-frame.frames.items c.pop.new.self.items c.in-Some.frame c.calls-calls.result.now =
    record { is_pushed = c.in-Some.ensures.items; goes = c.loop-frame.invariant; calls = c.calls-calls.ensures; more = c.if-next-calls.false } in
    in_is_less a c.push-in-Fresh.new.self.items c.push-in-Fresh-2.new.self.items c.alone-in-Fresh.result c.index.result.now (c.has_body.ensures.0 c.if-not-has_body.false) c.index.ensures c.in-Fresh.is c.in_ok-push-in-Fresh.ensures.items c.in_ok-push-in-Fresh-2.ensures.items

pub returns-in-OnPath : goal.returns-in-OnPath
returns-in-OnPath c =
    let a : AtCall c.args.unit.now c.args.entry c.loop-frame.states.items c.loop-frame.frames.items c.pop.new.self.items c.in-Some.frame c.calls-calls.result.now =
    record { is_pushed = c.in-Some.ensures.items; goes = c.loop-frame.invariant; calls = c.calls-calls.ensures; more = c.if-next-calls.false } in
    meets_recursion a c.push-in-OnPath.new.self.items c.in_ok-cycle-in-OnPath.field-0 c.index.result.now (c.has_body.ensures.0 c.if-not-has_body.false) c.index.ensures c.in-OnPath.is c.in_ok-push-in-OnPath.ensures.items
    (c.in_ok-cycle-in-OnPath.ensures ∙ ap (λ (fs : List Frame). cycle_of (unit_tree c.args.unit.now) (site_of c.calls-calls.result.now c.in-Some.frame.next).function (path_of (reverse fs))) c.deref.ensures.value)

pub index-requires-2 : goal.index-requires-2
index-requires-2 c = subst (λ (n : ℕ). c.args.entry < n) (sym c.loop-frame.states.ok.0) (has_state c.args.unit.now c.args.entry c.loop-frame.states.items (reverse c.loop-frame.frames.items) c.args.entry c.loop-frame.invariant c.requires)

pub unreachable-requires : goal.unreachable-requires
unreachable-requires c =
    let w = ends c.args.unit.now c.args.entry c.loop-frame.states.items c.loop-frame.frames.items c.loop-frame.frames.len (sym c.loop-frame.frames.ok.0) c.in_default.ensures.cases.0 c.loop-frame.invariant in
    let lt = has_state c.args.unit.now c.args.entry c.loop-frame.states.items [] c.args.entry w c.requires in
    ⊎_elim
    (λ fresh. entry_not_fresh (unit_tree c.args.unit.now) c.args.entry c.loop-frame.states.items w (state_read c.loop-frame.states.items c.args.entry c.index-2.result.now Fresh lt c.index-2.ensures fresh))
    (λ on. entry_not_on_path (unit_tree c.args.unit.now) c.args.entry c.loop-frame.states.items w (state_read c.loop-frame.states.items c.args.entry c.index-2.result.now OnPath lt c.index-2.ensures on))
    c.in-Fresh-index.is

pub returns : goal.returns
returns c =
    let w = ends c.args.unit.now c.args.entry c.loop-frame.states.items c.loop-frame.frames.items c.loop-frame.frames.len (sym c.loop-frame.frames.ok.0) c.in_default.ensures.cases.0 c.loop-frame.invariant in
    let lt = has_state c.args.unit.now c.args.entry c.loop-frame.states.items [] c.args.entry w c.requires in (
      walk_ends (unit_tree c.args.unit.now) c.args.entry c.loop-frame.states.items w,
      entry_left (unit_tree c.args.unit.now) c.args.entry c.loop-frame.states.items c.in-Left-index.counts w (state_read c.loop-frame.states.items c.args.entry c.index-2.result.now (Left c.in-Left-index.counts) lt c.index-2.ensures c.in-Left-index.is),
    )
