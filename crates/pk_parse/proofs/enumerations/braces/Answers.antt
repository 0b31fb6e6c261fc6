use Rattle.std.proofs.Common.{ap, ◌∙◌, arith}
use Rattle.pk_ast.specs.Views.{enumerator_tree, enumerator_trees, enumeration_tree}
use Rattle.pk_parse_expression.proofs.RunLemmas.{passed}
use Rattle.pk_parse_expression.proofs.KeptLemmas.{made, not_made}
use Rattle.pk_parse.proofs.EnumerationLemmas.{fails_first, fails_others, reads_braces, braces_of}
use Rattle.pk_parse.proofs.enumerations.braces.Goals as goal

pub returns-in_err-first : goal.returns-in_err-first
returns-in_err-first c = passed _ _ c.from_residual.result _ c.from_residual.ensures.1 (λ s specs same. fails_first _ _ c.requires _ s specs same _ c.in_err-first.ensures)

pub returns-in_err-more : goal.returns-in_err-more
returns-in_err-more c =
    passed _ _ c.from_residual-in_err-more.result _ c.from_residual-in_err-more.ensures.1
    (λ s specs same. fails_others _ _ c.requires _ s specs same (enumerator_tree c.in_ok-first.first) _ _ c.in_ok-first.ensures.0 _ (not_made _ _ _ _ c.more_enumerators.ensures c.in_err-more.ensures))

pub returns : goal.returns
returns c =
    let f = c.in_ok-first.ensures in
    let r = made _ _ _ _ c.more_enumerators.ensures c.in_ok-more.ensures.0 in
    let q = made _ _ _ _ c.qualifiers.ensures c.in_ok-qualifiers.ensures.0 in
    let a = f.2 in
    let b = r.1 in
    let h = q.2 in (
      λ s specs same. reads_braces _ _ c.requires _ s specs same _ _ _ f.0 (enumerator_trees c.in_ok-more.more.items) _ r.0 _ _ q.0 (enumeration_tree c.new.result)
          (c.new.ensures ∙ ap (λ k. braces_of (enumerator_tree k.0) (enumerator_trees k.1.items) c.in_ok-qualifiers.qualifiers.items) c.in_ok-qualifiers.ensures.1
          ∙ ap (λ k. braces_of (enumerator_tree k) (enumerator_trees c.in_ok-more.more.items) c.in_ok-qualifiers.qualifiers.items) c.in_ok-more.ensures.1),
      q.1,
      omega arith,
    )
