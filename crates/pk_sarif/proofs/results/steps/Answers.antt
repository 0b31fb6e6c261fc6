use Rattle.std.proofs.Common.{◌≡◌, ap, ◌∙◌, to_z, of_z}
use Rattle.std.specs.Prelude.{ℤ}
use Rattle.std.specs.Int.{w128}
use Rattle.std.proofs.lemmas.Int.{to_z-of_z}
use Rattle.pk_findings.specs.Operations.{WayOf}
use Rattle.pk_findings.specs.Messages.{message as said_of}
use Rattle.pk_sarif.specs.Objects.{step}
use Rattle.pk_sarif.specs.Results.{place}
use Rattle.pk_sarif.proofs.StepLemmas.{all_steps}
use Rattle.pk_sarif.proofs.results.steps.Goals as goal

pub returns : goal.returns
returns c =
    let t = c.args.text.now in
    let o = c.args.operation.now in
    let lo : to_z w128 (of_z w128 c.args.lo) ≡ c.args.lo = to_z-of_z w128 c.args.lo c.ranges.lo in
    let hi : to_z w128 (of_z w128 c.args.hi) ≡ c.args.hi = to_z-of_z w128 c.args.hi c.ranges.hi in
    let ends = c.in_ok-last.ensures
    ∙ ap (λ (x : ℤ). step (place t o.at) (said_of t o x (to_z w128 (of_z w128 c.args.hi)))) lo
    ∙ ap (λ (x : ℤ). step (place t o.at) (said_of t o c.args.lo x)) hi in
    all_steps t c.way.inside.path c.args.way.now c.push.new.list.items c.in_ok-steps.steps.items c.in_ok-last.last
    (step (place t o.at) (said_of t o c.args.lo c.args.hi))
    c.in_ok-push.ensures.ok c.in_ok-steps.ensures (ap (λ (w : WayOf). w.path) c.way.view_is) ends
