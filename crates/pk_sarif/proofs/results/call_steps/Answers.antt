use Rattle.std.proofs.Common.{◌≡◌, ◌<◌, length, get_or, ap, arith}
use Rattle.pk_show.specs.Paths.{CallOf, PathOf}
use Rattle.pk_sarif.specs.Results.{call_steps}
use Rattle.pk_sarif.proofs.StepLemmas.{one_step, is_view}
use Rattle.pk_sarif.proofs.results.call_steps.Goals as goal

pub loop-k-preserved : goal.loop-k-preserved
loop-k-preserved c =
    let t = c.args.text.now in
    let calls = c.args.path.now.calls in
    let k = c.loop-k.k in
    let call : CallOf = record { name = c.call.inside.name.now; at = c.call.inside.at } in
    let same : c.path.inside.calls.items ≡ calls = ap (λ (p : PathOf). p.calls) c.path.view_is in
    let within : k < length calls = omega (arith, ap length same) in
    let is : call ≡ c.index-call.result.now = c.call.view_is in
    let at : call ≡ get_or calls k call = is_view call c.index-call.result.now c.path.inside.calls.items calls k is same c.index-call.ensures in
    one_step t c.loop-k.caller.now calls k call c.push.new.list.items c.loop-k.steps.items c.in_ok-step.step
    (call_steps t c.args.path.now.entry calls) within at c.in_ok-push.ensures.ok c.in_ok-step.ensures c.loop-k.invariant
