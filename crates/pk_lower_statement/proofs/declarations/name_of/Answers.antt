use Rattle.std.proofs.Common.{◌∙◌, sym, ap, List, ℕ}
use Rattle.std.specs.Prelude.{Some}
use Rattle.pk_lower_row.specs.Views.{context_in}
use Rattle.pk_lower_statement.proofs.NameLemmas.{local_name, local_past}
use Rattle.pk_lower_statement.proofs.declarations.name_of.Goals as goal

pub returns-in-None : goal.returns-in-None
unfolding context_in
returns-in-None c = sym c.in-None.is ∙ local_name c.args.context.now.locals.now _ c.index-context-object.result c.if-object-context.true

pub returns-in_ok-copy-in-Some : goal.returns-in_ok-copy-in-Some
unfolding context_in
returns-in_ok-copy-in-Some c =
    ap (λ (n : List ℕ). Some n) c.in_ok-copy-in-Some.ensures ∙ (sym c.in-Some.is ∙ local_name c.args.context.now.locals.now _ c.index-context-object.result c.if-object-context.true)

pub returns-else-object-context : goal.returns-else-object-context
unfolding context_in
returns-else-object-context c = local_past c.args.context.now.locals.now _ c.if-object-context.false
