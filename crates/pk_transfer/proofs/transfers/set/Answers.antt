use Rattle.std.specs.Prelude.{Option}
use Rattle.std.specs.Result.{IfOk}
use Rattle.std.proofs.Common.{subst, sym, ◌∙◌}
use Rattle.pk_graph.specs.Views.{tree_view}
use Rattle.pk_value.specs.Known.{Known}
use Rattle.pk_state.specs.Facts.{Facts}
use Rattle.pk_state.specs.Changes.{known_in}
use Rattle.pk_transfer.specs.Trees.{tree_known}
use Rattle.pk_transfer.specs.Linear.{variables_of, linear}
use Rattle.pk_transfer.specs.Assignments.{HasFacts, with_known_if}
use Rattle.pk_transfer.proofs.Assigning.{form_apart}
use Rattle.pk_transfer.proofs.transfers.set.Goals as goal

pub returns : goal.returns
returns c =
    let s = c.args.state in
    let e = tree_view c.args.e.now in
    let x = c.args.x in
    subst (λ (f : Option Facts). IfOk c.written.result (HasFacts s (with_known_if f x (tree_known (known_in s.facts) e))))
    (sym (form_apart s.layout s.facts x (linear s.layout.packs (known_in s.facts) e) (variables_of e) c.is_stated.ensures.facts (sym c.is_chosen.ensures.value ∙ c.if-is_chosen.false)))
    (subst (λ (v : Option Known). IfOk c.written.result (HasFacts s (with_known_if s.facts x v))) c.value-known.ensures.value c.written.ensures)
