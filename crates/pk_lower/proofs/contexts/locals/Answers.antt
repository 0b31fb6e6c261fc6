use Rattle.std.proofs.Common.{◌∙◌, ap, map}
use Rattle.pk_typed.specs.Views.{local_tree}
use Rattle.pk_lower.proofs.FunctionLemmas.{locals_some}
use Rattle.pk_lower.proofs.contexts.locals.Goals as goal

pub returns-in-Some : goal.returns-in-Some
returns-in-Some c = ap (map local_tree) c.as_slice.ensures.value ∙ locals_some _ _ _ c.in-Some.ensures
