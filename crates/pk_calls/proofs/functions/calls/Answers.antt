use Rattle.std.proofs.Common.{◌∙◌}
use Rattle.pk_calls.proofs.CallLemmas.{calls_some, calls_none}
use Rattle.pk_calls.proofs.functions.calls.Goals as goal

pub returns-in-Some : goal.returns-in-Some
returns-in-Some c = c.as_slice.ensures.value ∙ calls_some _ _ _ c.in-Some.ensures

pub returns-in-None : goal.returns-in-None
returns-in-None c = calls_none _ _ c.in-None.ensures
