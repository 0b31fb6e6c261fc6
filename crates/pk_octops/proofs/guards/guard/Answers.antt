use Rattle.std.proofs.Common.{ℕ, ap, refl, sym, subst, ◌∙◌, ◌≡◌, Some, to_z, of_z}
use Rattle.std.specs.Prelude.{◌-ℤ◌, ◌+ℤ◌}
use Rattle.std.specs.Int.{w128}
use Rattle.std.specs.Int.RustNames.{FitsSigned}
use Rattle.std.proofs.lemmas.Int.{to_z-of_z}
use Rattle.std.proofs.Common.{rules}
use Rattle.pk_octmat.specs.Bounds.{AtMost, capped, lesser}
use Rattle.pk_octmat.specs.Octagon.{bar, entry, side, written, Meets}
use Rattle.pk_octops.specs.Guards.{Obeys, guard_of, guarded, lowered}
use Rattle.pk_octops.proofs.Kept.{guard_exact, guard_is}
use Rattle.pk_octops.proofs.Along.{one_term, two_terms}
use Rattle.pk_octops.proofs.guards.guard.Goals as goal
use Rattle.pk_octops.proofs.guards.guard.Goals.{After-lower}

cap : (c : After-lower) → capped (Some (to_z w128 (of_z w128 c.twice.result))) ≡ capped (Some (c.args.c +ℤ c.args.c))
cap c =
    let fits : FitsSigned w128 c.twice.result = search rules in
    ap (λ z. capped (Some z)) (to_z-of_z w128 c.twice.result fits) ∙ c.twice.ensures ∙ ap (λ z. capped (Some (z +ℤ z))) (to_z-of_z w128 c.args.c c.ranges.c)

pub returns-in-Some-None-clause-value : goal.returns-in-Some-None-clause-value
returns-in-Some-None-clause-value c = λ i j.
    let e = entry c.args.m.now in
    let a = c.in-Some-None.a in
    subst (λ t. entry c.lower.new.m i j ≡ guarded e t c.args.b c.args.c i j) (sym c.in-Some-None.is-0)
    (subst (λ t. entry c.lower.new.m i j ≡ guarded e (Some a) t c.args.c i j) (sym c.in-Some-None.is-1)
    (c.lower.ensures.value i j ∙ ap (λ q. lowered e q a (to_z w128 (of_z w128 c.twice.result)) i j) c.opposite.ensures ∙ ap (λ s. written e (bar a) a (lesser (e (bar a) a) s) i j) (cap c)))

pub returns-in-Some-None-clause-sound : goal.returns-in-Some-None-clause-sound
returns-in-Some-None-clause-sound c = λ x m h.
    let first = subst (λ t. Obeys x t c.args.b c.args.c) c.in-Some-None.is-0 h in
    let both = subst (λ t. Obeys x (Some c.in-Some-None.a) t c.args.c) c.in-Some-None.is-1 first in
    let held = one_term x c.in-Some-None.a c.opposite.result c.args.c c.opposite.ensures both in
    let passed = subst (λ b. AtMost (Some (side x c.in-Some-None.a -ℤ side x c.opposite.result)) b) (sym (cap c)) held in
    (refl, c.lower.ensures.sound x m passed)

pub returns-in-Some-Some-clause-value : goal.returns-in-Some-Some-clause-value
returns-in-Some-Some-clause-value c = λ i j.
    let e = entry c.args.m.now in
    let a = c.in-Some-Some.a in
    let b = c.in-Some-Some.b in
    subst (λ t. entry c.lower-in-Some-Some.new.m i j ≡ guarded e t c.args.b c.args.c i j) (sym c.in-Some-Some.is-0)
    (subst (λ t. entry c.lower-in-Some-Some.new.m i j ≡ guarded e (Some a) t c.args.c i j) (sym c.in-Some-Some.is-1)
    (c.lower-in-Some-Some.ensures.value i j ∙ ap (λ q. lowered e q a (to_z w128 (of_z w128 c.args.c)) i j) c.opposite-in-Some-Some.ensures ∙ ap (λ z. lowered e (bar b) a z i j) (to_z-of_z w128 c.args.c c.ranges.c)))

pub returns-in-Some-Some-clause-sound : goal.returns-in-Some-Some-clause-sound
returns-in-Some-Some-clause-sound c = λ x m h.
    let first = subst (λ t. Obeys x t c.args.b c.args.c) c.in-Some-Some.is-0 h in
    let both = subst (λ t. Obeys x (Some c.in-Some-Some.a) t c.args.c) c.in-Some-Some.is-1 first in
    let held = two_terms x c.in-Some-Some.a c.in-Some-Some.b c.opposite-in-Some-Some.result c.args.c c.opposite-in-Some-Some.ensures both in
    let passed = subst (λ z. AtMost (Some (side x c.in-Some-Some.a -ℤ side x c.opposite-in-Some-Some.result)) (capped (Some z))) (sym (to_z-of_z w128 c.args.c c.ranges.c)) held in
    (refl, c.lower-in-Some-Some.ensures.sound x m passed)

pub returns-in-Some-None-clause-is : goal.returns-in-Some-None-clause-is
returns-in-Some-None-clause-is c =
    let n = c.lower.new.m in
    subst (λ t. Some n ≡ guard_of c.args.m.now t c.args.b c.args.c) (sym c.in-Some-None.is-0)
    (guard_is c.args.m.now n c.in-Some-None.a c.args.b c.args.c c.lower.ensures.octagon c.lower.ensures.vars
    (subst (λ t. (i j : ℕ) → entry n i j ≡ guarded (entry c.args.m.now) t c.args.b c.args.c i j) c.in-Some-None.is-0 (returns-in-Some-None-clause-value c)))

pub returns-in-Some-None-clause-exact : goal.returns-in-Some-None-clause-exact
returns-in-Some-None-clause-exact c = λ e near x k.
    let n = c.lower.new.m in
    subst (λ t. Meets (entry c.args.m.now) x × Obeys x t c.args.b c.args.c) (sym c.in-Some-None.is-0)
    (guard_exact c.args.m.now (entry n) c.in-Some-None.a c.args.b c.args.c x c.lower.ensures.was
    (subst (λ t. (i j : ℕ) → entry n i j ≡ guarded (entry c.args.m.now) t c.args.b c.args.c i j) c.in-Some-None.is-0 (returns-in-Some-None-clause-value c)) near k)

pub returns-in-Some-Some-clause-is : goal.returns-in-Some-Some-clause-is
returns-in-Some-Some-clause-is c =
    let n = c.lower-in-Some-Some.new.m in
    subst (λ t. Some n ≡ guard_of c.args.m.now t c.args.b c.args.c) (sym c.in-Some-Some.is-0)
    (guard_is c.args.m.now n c.in-Some-Some.a c.args.b c.args.c c.lower-in-Some-Some.ensures.octagon c.lower-in-Some-Some.ensures.vars
    (subst (λ t. (i j : ℕ) → entry n i j ≡ guarded (entry c.args.m.now) t c.args.b c.args.c i j) c.in-Some-Some.is-0 (returns-in-Some-Some-clause-value c)))

pub returns-in-Some-Some-clause-exact : goal.returns-in-Some-Some-clause-exact
returns-in-Some-Some-clause-exact c = λ e near x k.
    let n = c.lower-in-Some-Some.new.m in
    subst (λ t. Meets (entry c.args.m.now) x × Obeys x t c.args.b c.args.c) (sym c.in-Some-Some.is-0)
    (guard_exact c.args.m.now (entry n) c.in-Some-Some.a c.args.b c.args.c x c.lower-in-Some-Some.ensures.was
    (subst (λ t. (i j : ℕ) → entry n i j ≡ guarded (entry c.args.m.now) t c.args.b c.args.c i j) c.in-Some-Some.is-0 (returns-in-Some-Some-clause-value c)) near k)
