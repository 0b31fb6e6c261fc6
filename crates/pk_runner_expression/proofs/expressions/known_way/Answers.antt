use Rattle.std.proofs.Common.{ap, [], ◌∷◌}
use Rattle.pk_meaning.specs.Work as works
use Rattle.pk_runner_frame.specs.Frames.{Held, place_in, work_of, ahead_of, into, head, behind, nothing}
use Rattle.pk_runner_frame.proofs.FrameLemmas.{below_stays}
use Rattle.pk_runner_expression.proofs.expressions.known_way.Goals as goal

pub returns-in_ok-known-in-Onward-clause-stays : goal.returns-in_ok-known-in-Onward-clause-stays
returns-in_ok-known-in-Onward-clause-stays c = λ s f. ap (λ (x : Held). works.Onward (place_in s c.in-Onward.here) (work_of x)) (below_stays s c.known.new.frames.items (f
    ∷ []) c.in_ok-known-in-Onward.field-0 nothing c.in_ok-known-in-Onward.ensures.there)

pub returns-in_ok-known-in-Into-clause-stays : goal.returns-in_ok-known-in-Into-clause-stays
returns-in_ok-known-in-Into-clause-stays c = λ s f. ap (λ (x : Held). into (ahead_of x)) (below_stays s c.known-in-Into.new.frames.items (f ∷ []) c.in_ok-known-in-Into.field-0 nothing c.in_ok-known-in-Into.ensures.there)

pub returns-in_ok-known-in-Head-clause-stays : goal.returns-in_ok-known-in-Head-clause-stays
returns-in_ok-known-in-Head-clause-stays c = λ s f. ap (λ (x : Held). head (ahead_of x)) (below_stays s c.known-in-Head.new.frames.items (f ∷ []) c.in_ok-known-in-Head.field-0 nothing c.in_ok-known-in-Head.ensures.there)

pub returns-in_ok-known-in-Behind-clause-stays : goal.returns-in_ok-known-in-Behind-clause-stays
returns-in_ok-known-in-Behind-clause-stays c = λ s f. ap (λ (x : Held). behind (ahead_of x)) (below_stays s c.known-in-Behind.new.frames.items (f
    ∷ []) c.in_ok-known-in-Behind.field-0 nothing c.in_ok-known-in-Behind.ensures.there)
