use Rattle.std.proofs.Common.{ℕ, List, All, get_or, ap, subst, sym, ◌∙◌, Contains}
use Rattle.std.proofs.lemmas.List.Elements.{Contains-get_or}
use Rattle.pk_plan.specs.declared.components.Component.{Component}
use Rattle.pk_plan.specs.Plans.{predecessors_of}
use Rattle.pk_board_tests.specs.Prepared.{MayRead}
use Rattle.pk_board_tests.proofs.plans.row.Goals as goal
use Rattle.pk_board_tests.proofs.plans.row.Goals.{then-component-e+in_ok-push, else-component-e, then-is_exit+in_ok-push-2, else-is_exit}
use Rattle.pk_board_tests.proofs.Fitting.{reads_more, reads_exit, reads_before, reads_itself}

pub loop-component-preserved : goal.loop-component-preserved
loop-component-preserved c =
    let may : List ℕ → Type 0 = λ us. All (MayRead c.args.plan.now c.args.e) us in
    let items = c.components-component-items.result.now in
    let none : Component = record { head = 0; exit = 0; first = 0; end = 0 } in
    let x : Component = get_or items c.loop-component.component-index none in
    elim c.if-component-e.branch [
      | then-component-e+in_ok-push w ↦
          let of : Contains c.args.plan.now.components x = subst (λ (cs : List Component). Contains cs x) c.components-component-items.ensures (Contains-get_or items c.loop-component.component-index none c.loop-component-test.true) in
          subst may (sym (ap (λ r. r.items) w.row-is ∙ w.in_ok-push.ensures.items)) (reads_more c.args.plan.now c.args.e x.exit c.loop-component.row.items (reads_exit c.args.plan.now x c.args.e of w.if-component-e.true) c.loop-component.invariant)
      | else-component-e w ↦ subst may (sym (ap (λ r. r.items) w.row-is)) c.loop-component.invariant
    ]

pub loop-u-init : goal.loop-u-init
loop-u-init c =
    let may : List ℕ → Type 0 = λ us. All (MayRead c.args.plan.now c.args.e) us in
    elim c.if-is_exit.branch [
      | then-is_exit+in_ok-push-2 w ↦ subst may (sym (ap (λ r. r.items) w.row-is ∙ w.in_ok-push-2.ensures.items)) (reads_more c.args.plan.now c.args.e c.args.e c.loop-component.row.items (reads_itself c.args.plan.now c.args.e) c.loop-component.invariant)
      | else-is_exit w ↦ subst may (sym (ap (λ r. r.items) w.row-is)) c.loop-component.invariant
    ]

pub loop-u-preserved : goal.loop-u-preserved
loop-u-preserved c =
    let may : List ℕ → Type 0 = λ us. All (MayRead c.args.plan.now c.args.e) us in
    let items = c.predecessors-u-items.result.now in
    let x : ℕ = get_or items c.loop-u.u-index 0 in
    let of : Contains (predecessors_of c.args.plan.now c.args.e) x = subst (λ (us : List ℕ). Contains us x) c.predecessors-u-items.ensures (Contains-get_or items c.loop-u.u-index 0 c.loop-u-test.true) in
    subst may (sym c.in_ok-push-3.ensures.items) (reads_more c.args.plan.now c.args.e x c.loop-u.row.items (reads_before c.args.plan.now c.args.e x c.axioms.ensures.axioms of) c.loop-u.invariant)
