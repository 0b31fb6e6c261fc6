use Rattle.std.proofs.Common.{◌∙◌, ◌+◌, sym, ap, drop}
use Rattle.pk_ctypes.specs.declared.types.IntType.TheVariants.{Int}
use Rattle.pk_draft.specs.Drafts.{DraftOf}
use Rattle.std.specs.Prelude.{ℕ}
use Rattle.pk_draft.specs.Shown.{drafted}
use Rattle.pk_lower_row.specs.Views.{context_in}
use Rattle.pk_lower.specs.Parts.{all_introduced}
use Rattle.pk_lower.proofs.PartLemmas.{parameters_next, parameters_end}
use Rattle.pk_lower.proofs.parameters.introduce_all.Goals as goal

pub loop-object-preserved : goal.loop-object-preserved
loop-object-preserved c =
    let k = context_in c.args.context.now in
    ap (λ (d : DraftOf ℕ). all_introduced k c.args.caller (c.loop-object.object + 1) (drop (c.loop-object.object + 1) c.args.parameters.now) d) c.in_ok-introduce_parameter.ensures
    ∙ sym (parameters_next k c.args.caller c.args.parameters.now c.loop-object.object (drafted c.loop-object.draft) Int c.loop-object-test.true)
    ∙ c.loop-object.invariant

pub returns : goal.returns
returns c = sym (parameters_end (context_in c.args.context.now) c.args.caller c.args.parameters.now c.loop-object.object (drafted c.loop-object.draft) c.loop-object-test.false) ∙ c.loop-object.invariant
