use Rattle.std.proofs.Common.{◌≡◌, ◌∙◌, ◌+◌, rules}
use Rattle.std.proofs.lemmas.Result.{on_ok_weaker}
use Rattle.pk_draft.specs.Shown.{drafted}
use Rattle.pk_lower_row.specs.Views.{context_in}
use Rattle.pk_lower.proofs.PartLemmas.{body_is}
use Rattle.pk_lower.proofs.parts.lower_body.Goals as goal

pub returns : goal.returns
returns c =
    let count : c.in_ok-count.count ≡ c.args.body.now.labels + 1 = search rules in
    let labels : c.in_ok-labels.labels ≡ c.in_ok-exit.exit + 1 = search rules in
    on_ok_weaker c.go.result
    (λ h. h ∙ body_is (context_in c.args.context.now) c.args.function.now c.args.body.now _ _ _ _ _ _ (drafted c.args.draft.now) _ _ _ _ _ c.here-here.ensures count c.in_ok-exit.ensures.draft c.in_ok-exit.ensures.first labels c.as_slice.ensures.value c.in_ok-lower_items.ensures c.stand.ensures c.on.ensures c.in_ok-end.ensures c.skip.ensures)
    c.go.ensures
