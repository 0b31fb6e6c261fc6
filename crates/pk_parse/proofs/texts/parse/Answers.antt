use Rattle.std.proofs.Common.{sym, subst, ◌∙◌}
use Rattle.pk_constructs.proofs.DeterminedLemmas.{first_is_not_supported}
use Rattle.pk_parse_expression.proofs.RunLemmas.{passed}
use Rattle.pk_parse.specs.Refusals.{IsAccepted}
use Rattle.pk_parse.proofs.TextLemmas.{passed_on, accepted, refused_by, only_memory, only_trees}
use Rattle.pk_parse.proofs.texts.parse.Goals as goal

pub returns-in-Some-clause-only : goal.returns-in-Some-clause-only
returns-in-Some-clause-only c = λ u a. absurd (first_is_not_supported _ _ _ c.in-Some.ensures a.supported)

pub returns-in_err-list-clause-refused : goal.returns-in_err-list-clause-refused
returns-in_err-list-clause-refused c =
    passed_on _ c.from_residual.result _ c.from_residual.ensures.1
    (refused_by c.in-Some-split_last.front.now c.in-Some-split_last.end.now c.args.tokens.now c.in-Some-split_last.ensures.cases.0 c.requires c.in_default.ensures _ c.in_err-list.ensures)

pub returns-in_err-list-clause-only : goal.returns-in_err-list-clause-only
returns-in_err-list-clause-only c = λ u a.
    passed _ _ c.from_residual.result _ c.from_residual.ensures.1
    (only_memory c.in-Some-split_last.front.now c.in-Some-split_last.end.now c.args.tokens.now c.in-Some-split_last.ensures.cases.0 c.requires c.in_default.ensures u a _ c.in_err-list.ensures)

pub returns-clause-accepted : goal.returns-clause-accepted
returns-clause-accepted c =
    subst (λ q. IsAccepted c.args.tokens.now q) (sym c.new.ensures)
    (accepted c.in-Some-split_last.front.now c.in-Some-split_last.end.now c.args.tokens.now c.in-Some-split_last.ensures.cases.0 c.requires c.in_default.ensures _ c.in_ok-list.ensures)

pub returns-clause-only : goal.returns-clause-only
returns-clause-only c = λ u a.
    c.new.ensures
    ∙ only_trees c.in-Some-split_last.front.now c.in-Some-split_last.end.now c.args.tokens.now c.in-Some-split_last.ensures.cases.0 c.requires c.in_default.ensures u _ a c.in_ok-list.ensures
