use Rattle.std.specs.Prelude.{◌≡◌, ◌<ℤ◌, ◌-ℤ◌, pos, FitsSigned}
use Rattle.std.specs.Int.{w128, int_rem_euclid}
use Rattle.std.proofs.Common.{◌∙◌, ap, arith, to_z, of_z}
use Rattle.std.proofs.lemmas.Int.{ints, to_z-of_z}
use Rattle.pk_congr.specs.Classes.{Class}
use Rattle.pk_congr.proofs.Held.{up_same}
use Rattle.pk_congr.proofs.Next.{rest_bounds}
use Rattle.pk_congr.proofs.congr.Congr.next_up.Goals as goal

pub returns-else-self-eq0 : goal.returns-else-self-eq0
returns-else-self-eq0 c =
    let m : c.self.inside.m ≡ c.args.self.now.m = ap (λ (v : Class). v.m) c.self.view_is in
    let r : c.self.inside.r ≡ c.args.self.now.r = ap (λ (v : Class). v.r) c.self.view_is in
    let some : c.self.inside.m ≡ pos 0 → ⊥ = λ e. c.if-self-eq0.false (ap (of_z w128) e) in
    let positive : pos 0 <ℤ c.args.self.now.m = omega (arith, ints, c.self.invariant.from) in
    let modulus : to_z w128 (of_z w128 c.self.inside.m) ≡ c.args.self.now.m = omega (arith, ints, c.self.invariant.modulus_held) in
    let x : to_z w128 (of_z w128 c.args.x) ≡ c.args.x = to_z-of_z w128 c.args.x c.ranges.x in
    let first : c.rem_euclid.result ≡ int_rem_euclid c.args.x c.args.self.now.m =
    c.rem_euclid.ensures.value ∙ ap (λ v. int_rem_euclid v (to_z w128 (of_z w128 c.self.inside.m))) x ∙ ap (int_rem_euclid c.args.x) modulus in
    let bounds = rest_bounds c.args.x c.args.self.now.m (omega (arith, ints)) (λ e. some (m ∙ e)) in
    let inner : to_z w128 (of_z w128 (to_z w128 (of_z w128 c.self.inside.r) -ℤ to_z w128 (of_z w128 c.rem_euclid.result))) ≡ c.args.self.now.r -ℤ int_rem_euclid c.args.x c.args.self.now.m =
    omega (arith, ints, c.self.invariant.rest, c.self.invariant.modulus_held, c.self.invariant.rest_held) in
    let second : c.rem_euclid-above.result ≡ int_rem_euclid (c.args.self.now.r -ℤ int_rem_euclid c.args.x c.args.self.now.m) c.args.self.now.m =
    c.rem_euclid-above.ensures.value ∙ ap (λ v. int_rem_euclid v (to_z w128 (of_z w128 c.self.inside.m))) inner
    ∙ ap (int_rem_euclid (c.args.self.now.r -ℤ int_rem_euclid c.args.x c.args.self.now.m)) modulus in
    let fits : FitsSigned w128 c.rem_euclid-above.result = record { sfits = c.rem_euclid-above.type_inv } in
    c.held.ensures
    ∙ up_same c.args.self.now c.args.x c.rem_euclid-above.result _ c.checked_add.result positive c.checked_add.ensures (omega (arith, ints)) second
