use Rattle.std.proofs.Common.{sym, subst, ℤ, to_z, of_z}
use Rattle.std.proofs.lemmas.Int.{to_z-of_z}
use Rattle.std.specs.Int.{w128}
use Rattle.pk_congr.specs.Classes.{IsReduced}
use Rattle.pk_cert_states.proofs.Fours.{is_classless}
use Rattle.pk_cert_states.proofs.numbers.value_of.Goals as goal

pub returns-in-None-class_of : goal.returns-in-None-class_of
returns-in-None-class_of c =
    is_classless c.args.t c.args.lo c.args.hi c.args.m c.args.r
    (λ h. c.in-None-class_of.ensures
    (subst (λ (x : ℤ). IsReduced x (to_z w128 (of_z w128 c.args.r))) (sym (to_z-of_z w128 c.args.m c.ranges.m)) (subst (λ (x : ℤ). IsReduced c.args.m x) (sym (to_z-of_z w128 c.args.r c.ranges.r)) h)))
