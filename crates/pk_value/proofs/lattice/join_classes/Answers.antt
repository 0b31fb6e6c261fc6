use Rattle.std.proofs.Common.{◌∙◌, ap, sym}
use Rattle.pk_congr.specs.Classes.{joined}
use Rattle.pk_congr.proofs.Keeping.{unchanged}
use Rattle.pk_value.proofs.lattice.join_classes.Goals as goal

pub returns-then-equals : goal.returns-then-equals
returns-then-equals c =
    let a = c.args.a.now in
    sym (ap (joined a) (sym (c.equals.ensures.0 c.if-equals.true)) ∙ unchanged.joins a a c.reduced_law.ensures (unchanged.within_itself a))
