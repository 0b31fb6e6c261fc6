use Rattle.std.proofs.Common.{◌∙◌, ap, sym, of_z}
use Rattle.std.specs.Int.{w128}
use Rattle.std.specs.Prelude.{Ok}
use Rattle.pk_ctypes.specs.Types.{is_in_type}
use Rattle.pk_ctypes.proofs.Back.{quotient_back, rest_back}
use Rattle.pk_ctypes.proofs.Values.{rest_value, rest_past}
use Rattle.pk_ctypes.proofs.operators.rest.Goals as goal

pub returns-then-fits : goal.returns-then-fits
returns-then-fits c =
    ap Ok (rest_back c.args.t c.args.a c.args.b c.requires.left c.requires.right)
    ∙ sym (rest_value c.args.t c.args.a c.args.b c.requires.left (λ e. c.if-b-eq0.false (ap (of_z w128) e))
    (sym (ap (is_in_type c.args.t) (quotient_back c.args.t c.args.a c.args.b c.requires.left c.requires.right)) ∙ sym c.fits.ensures ∙ c.if-fits.true))

pub returns-else-fits : goal.returns-else-fits
returns-else-fits c =
    sym (rest_past c.args.t c.args.a c.args.b (λ e. c.if-b-eq0.false (ap (of_z w128) e))
    (sym (ap (is_in_type c.args.t) (quotient_back c.args.t c.args.a c.args.b c.requires.left c.requires.right)) ∙ sym c.fits.ensures ∙ c.if-fits.false))
