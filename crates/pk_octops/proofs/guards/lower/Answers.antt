use Rattle.std.proofs.Common.{ap, ◌∙◌, ◌≡◌, Some, ℕ}
use Rattle.std.specs.Int.{w128}
use Rattle.std.proofs.lemmas.Int.{to_z-of_z}
use Rattle.pk_octmat.specs.Bounds.{capped}
use Rattle.pk_octmat.specs.Octagon.{entry, written}
use Rattle.pk_octops.specs.Guards.{lowered}
use Rattle.pk_octops.proofs.Along.{lowered_holds, lowered_is}
use Rattle.pk_octops.proofs.guards.lower.Goals as goal
use Rattle.pk_octops.proofs.guards.lower.Goals.{After-is_octagon-2}

value : (c : After-is_octagon-2) (a b : ℕ) → entry c.set.new.self a b ≡ lowered (entry c.args.m.now) c.args.i c.args.j c.args.c a b
value c a b =
    c.set.ensures.value a b
    ∙ ap (λ s. written (entry c.args.m.now) c.args.i c.args.j s a b)
    (ap capped (c.number.ensures ∙ c.lesser-least.ensures)
    ∙ lowered_is (entry c.args.m.now) c.args.i c.args.j c.args.c c.bound.result c.of.result c.bound.ensures.value c.bound.ensures.near (c.of.ensures.value ∙ ap (λ z. capped (Some z)) (to_z-of_z w128 c.args.c c.ranges.c)) c.of.ensures.near)

pub returns-clause-value : goal.returns-clause-value
returns-clause-value c = value c

pub returns-clause-sound : goal.returns-clause-sound
returns-clause-sound c = λ x m h. record { each = λ a b. rw (value c a b) (lowered_holds (entry c.args.m.now) c.args.i c.args.j c.args.c x m h a b) }
