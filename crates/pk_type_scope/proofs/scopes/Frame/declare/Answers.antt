-- Functions that agree at each spelling are equal.
use mathlib.Core.Path.{fun_ext}
use Rattle.pk_type_scope.proofs.scopes.Frame.declare.Goals as goal

pub returns-clause-declared : goal.returns-clause-declared
returns-clause-declared c = fun_ext (λ q. c.in_ok-again.ensures.declared q)
