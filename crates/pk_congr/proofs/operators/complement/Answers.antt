use Rattle.std.specs.Prelude.{◌-ℤ◌, pos}
use Rattle.std.proofs.Common.{◌∙◌, ap, arith}
use Rattle.std.proofs.lemmas.Int.{ints}
use Rattle.pk_congr.specs.Operators.{class_complement, complement_total}
use Rattle.pk_congr.proofs.Held.{some_class_is}
use Rattle.pk_congr.proofs.operators.complement.Goals as goal

pub returns : goal.returns
returns c =
    c.class_or.ensures
    ∙ some_class_is (pos c.unsigned_abs.result) c.a.inside.m _ (complement_total c.args.t -ℤ c.a.inside.r) c.checked_sub.result c.checked_sub.ensures (omega (arith, ints)) (omega (arith, ints))
    ∙ ap (class_complement c.args.t) c.a.view_is
