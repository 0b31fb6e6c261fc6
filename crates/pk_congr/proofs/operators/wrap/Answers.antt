use Rattle.std.proofs.Common.{◌∙◌, ap, sym, arith}
use Rattle.std.proofs.lemmas.Int.{ints}
use Rattle.std.specs.Prelude.{Some, ◌+ℤ◌, pos}
use Rattle.pk_congr.specs.Operators.{wrapped_class}
use Rattle.pk_congr.proofs.Held.{some_class_is}
use Rattle.pk_congr.proofs.operators.wrap.Goals as goal

pub returns-in-Some : goal.returns-in-Some
returns-in-Some c =
    c.class_or.ensures
    ∙ some_class_is (pos c.unsigned_abs.result) c.a.inside.m _ (c.a.inside.r +ℤ c.in-Some.added) c.checked_add.result c.checked_add.ensures (omega (arith, ints)) (omega (arith, ints))
    ∙ ap (λ v. wrapped_class c.args.t v (Some c.in-Some.added)) c.a.view_is
    ∙ ap (wrapped_class c.args.t c.args.a.now) (sym c.in-Some.is)
