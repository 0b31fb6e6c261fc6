use Rattle.std.proofs.Common.{ap, ◌∙◌, sym, Some}
use Rattle.pk_value.specs.Known.{Known}
use Rattle.pk_value.proofs.Tight.{tight_is_reduced}
use Rattle.pk_state.proofs.marks.is_tight.Goals as goal

pub returns-in-Some : goal.returns-in-Some
returns-in-Some c = λ yes.
    tight_is_reduced.tight c.args.value.now c.args.value.now c.requires.class.from (sym c.reduced.ensures.value ∙ c.in-Some.is ∙ ap (λ (k : Known). Some k) (c.equals.ensures.0 yes))
