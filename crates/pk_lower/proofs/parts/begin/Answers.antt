use Rattle.std.proofs.Common.{◌≡◌, ◌∙◌, ◌+◌, length, rules}
use Rattle.std.proofs.lemmas.Result.{on_ok_weaker}
use Rattle.pk_draft.specs.Shown.{drafted}
use Rattle.pk_lower.proofs.PartLemmas.{begun_is}
use Rattle.pk_lower.proofs.parts.begin.Goals as goal

pub returns : goal.returns
returns c =
    let count : c.in_ok-count.count ≡ length c.args.context.now.locals.now + 1 = search rules in
    on_ok_weaker c.add_result.result
    (λ h. h ∙ begun_is c.args.context.now c.args.function.now c.args.body.now c.args.caller c.args.region _ _ (drafted c.args.draft.now) _ _ count c.in_ok-begin.ensures c.as_slice.ensures.value c.in_ok-introduce_all.ensures)
    c.add_result.ensures
