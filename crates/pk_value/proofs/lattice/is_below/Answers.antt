use Rattle.std.proofs.Common.{◌∙◌, ap, sym}
use Rattle.pk_congr.specs.Classes.{is_within}
use Rattle.pk_congr.proofs.Keeping.{unchanged}
use Rattle.pk_value.proofs.lattice.is_below.Goals as goal

pub returns-then-equals : goal.returns-then-equals
returns-then-equals c =
    let a = c.args.a.now in
    sym (ap (is_within a) (sym (c.equals.ensures.0 c.if-equals.true)) ∙ unchanged.within_itself a)
