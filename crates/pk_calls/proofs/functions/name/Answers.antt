use Rattle.std.proofs.Common.{◌≡◌, ℕ, List, arith, subst}
use Rattle.std.specs.Prelude.{IfOk}
use Rattle.pk_calls.proofs.CallLemmas.{name_read, name_past, empty_name}
use Rattle.pk_calls.proofs.functions.name.Goals as goal

pub returns-then-function-len : goal.returns-then-function-len
returns-then-function-len c = subst (λ (n : List ℕ). IfOk c.copy.result (λ name. name ≡ n)) (name_read c.args.unit.now c.args.function c.index.result.now (omega arith) c.index.ensures) c.copy.ensures

pub returns-else-function-len : goal.returns-else-function-len
returns-else-function-len c = subst (λ (n : List ℕ). IfOk c.new.result (λ name. name ≡ n)) (name_past c.args.unit.now c.args.function (omega arith)) (empty_name c.new.result c.new.ensures.exact)
