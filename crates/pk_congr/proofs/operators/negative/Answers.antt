use Rattle.std.specs.Prelude.{neg_ℤ, pos, ◌-ℤ◌}
use Rattle.std.specs.Int.{w128}
use Rattle.std.proofs.Common.{◌∙◌, ap, arith, to_z, of_z}
use Rattle.std.proofs.lemmas.Int.{ints}
use Rattle.pk_congr.specs.Operators.{class_negative}
use Rattle.pk_congr.proofs.Held.{same_class}
use Rattle.pk_congr.proofs.operators.negative.Goals as goal

pub returns : goal.returns
returns c =
    c.class.ensures
    ∙ same_class (pos c.unsigned_abs.result) c.a.inside.m (to_z w128 (of_z w128 (pos 0 -ℤ to_z w128 (of_z w128 c.a.inside.r)))) (neg_ℤ c.a.inside.r) (omega (arith, ints)) (omega (arith, ints))
    ∙ ap class_negative c.a.view_is
