use Rattle.std.proofs.Common.{◌≡◌, ◌<◌, ◌∙◌, IfOk, All, ap, subst, map, slice_get}
use Rattle.std.specs.Arc.{arc_value}
use Rattle.std.specs.List.{filter_map}
use Rattle.std.proofs.lemmas.Result.{IfOk-weaker}
use Rattle.pk_iterate.specs.Behaviour.{HoldEach, inputs_in}
use Rattle.pk_core.specs.Entries.{standing_of, cells_of}
use Rattle.pk_core.proofs.Asked.{held_inputs, shown_inputs}
use Rattle.pk_core.proofs.cores.Core.inputs.Goals as goal

pub returns-clause-inputs : goal.returns-clause-inputs
returns-clause-inputs g c =
    subst (λ v. IfOk c.shared.result (λ w. map arc_value w.items ≡ inputs_in (g.Y.System.meaning v.system) (cells_of v.elements) c.args.e)) c.self.view_is
    (IfOk-weaker c.shared.result _ _ (λ w h. h ∙ ap (λ us. filter_map (slice_get (cells_of (map standing_of c.deref.result.now))) us) c.reads.ensures ∙ ap (λ xs. filter_map (slice_get (cells_of (map standing_of xs))) ((g.Y.System.meaning c.self.inside.system.now).reads c.args.e)) c.deref.ensures.value) c.shared.ensures)

pub returns-clause-shown : goal.returns-clause-shown
returns-clause-shown g c = λ s shown.
    shown_inputs (g.Y.System.meaning c.args.self.now.system) c.args.self.now.plan.elements c.args.self.now.elements s ((g.Y.System.meaning c.args.self.now.system).reads c.args.e) shown
    (subst (λ v. c.args.e < v.plan.elements → All (λ u. u < v.plan.elements) ((g.Y.System.meaning v.system).reads c.args.e)) c.self.view_is (λ below. c.self.invariant.within c.args.e below) c.requires)

pub returns-clause-held : goal.returns-clause-held
returns-clause-held g c =
    subst (λ v. c.args.e < v.plan.elements → HoldEach (g.Y.System.may_hold v.system) ((g.Y.System.meaning v.system).reads c.args.e) (inputs_in (g.Y.System.meaning v.system) (cells_of v.elements) c.args.e)) c.self.view_is
    (λ below. held_inputs (g.Y.System.may_hold c.self.inside.system.now) c.self.inside.plan.now.elements (map standing_of c.self.inside.entries.items) ((g.Y.System.meaning c.self.inside.system.now).reads c.args.e) c.self.invariant.long c.self.invariant.held (c.self.invariant.within c.args.e below)) c.requires
