use Rattle.std.proofs.Common.{◌∙◌, ap, sym, of_z}
use Rattle.std.specs.Int.{w128}
use Rattle.std.specs.Prelude.{Ok, int_div}
use Rattle.pk_ctypes.specs.declared.faults.Fault.TheVariants.{Overflow}
use Rattle.pk_ctypes.specs.Operators.{fitted, fitted_if}
use Rattle.pk_ctypes.proofs.Back.{quotient_back}
use Rattle.pk_ctypes.proofs.Values.{divided_by}
use Rattle.pk_ctypes.proofs.operators.quotient.Goals as goal

pub returns-else-b-eq0 : goal.returns-else-b-eq0
returns-else-b-eq0 c =
    c.fit.ensures ∙ ap (fitted Overflow c.args.t) (quotient_back c.args.t c.args.a c.args.b c.requires.left c.requires.right)
    ∙ sym (ap (fitted_if Overflow c.args.t) (divided_by c.args.b (Ok (int_div c.args.a c.args.b)) (λ e. c.if-b-eq0.false (ap (of_z w128) e))))
