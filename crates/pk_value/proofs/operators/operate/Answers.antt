use Rattle.std.proofs.Common.{rules, FitsSigned, ap, sym, ◌∙◌, ◌≡◌}
use Rattle.std.specs.Int.{w128}
use Rattle.std.proofs.lemmas.Int.{to_z-of_z}
use Rattle.pk_ctypes.specs.Operators.{result_type}
use Rattle.pk_value.proofs.Sound.{value_in, small_in}
use Rattle.pk_value.specs.Known.{exactly}
use Rattle.pk_value.proofs.Reducing.{constant_of}
use Rattle.pk_value.proofs.operators.operate.Goals as goal
use Rattle.pk_value.proofs.operators.operate.Goals.{After-exactly}

pub exactly-requires : goal.exactly-requires
exactly-requires c =
    let fits : FitsSigned w128 c.in-Ok.z = search rules in
    rw (to_z-of_z w128 c.in-Ok.z fits) (small_in (result_type c.args.op c.args.t) c.in-Ok.z (value_in c.args.op c.args.t _ _ c.in-Ok.z (sym c.apply.ensures ∙ c.in-Ok.is)))

-- what is exact is the number
is : (c : After-exactly) → c.exactly.result ≡ exactly c.in-Ok.z
is c = let fits : FitsSigned w128 c.in-Ok.z = search rules in c.exactly.ensures ∙ ap exactly (to_z-of_z w128 c.in-Ok.z fits)

pub returns-in-Ok-clause-inside : goal.returns-in-Ok-clause-inside
returns-in-Ok-clause-inside c =
    let i = value_in c.args.op c.args.t _ _ c.in-Ok.z (sym c.apply.ensures ∙ c.in-Ok.is) in
    rw (is c) (record { from = i; to = i })

pub returns-in-Ok-clause-class : goal.returns-in-Ok-clause-class
returns-in-Ok-clause-class c = rw (is c) (constant_of (result_type c.args.op c.args.t) c.in-Ok.z (value_in c.args.op c.args.t _ _ c.in-Ok.z (sym c.apply.ensures ∙ c.in-Ok.is)))
