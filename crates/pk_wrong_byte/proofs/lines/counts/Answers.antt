use Rattle.std.proofs.Common.{ap, ◌∙◌}
use Rattle.std.specs.Prelude.{codes}
use Rattle.pk_wrong_byte.specs.Pieces.{literal, count}
use Rattle.pk_wrong_byte.specs.Lines.{counts}
use Rattle.pk_wrong_byte.proofs.lines.counts.Goals as goal

pub returns : goal.returns
unfolding counts
returns c =
    c.count.ensures
    ∙ ap count (c.literal-3.ensures ∙ ap (literal (codes " unreachable ")) (
    c.count-unknown.ensures
    ∙ ap count (c.literal-2.ensures ∙ ap (literal (codes " unknown ")) (c.count-safe.ensures ∙ ap count c.literal.ensures))))
