use Rattle.std.proofs.Common.{arith}
use Rattle.pk_octmat.specs.Half.{kept_at}
use Rattle.pk_octclose.proofs.Lined.{lines_near}
use Rattle.pk_octclose.proofs.Lowered.{line_lined}
use Rattle.pk_octclose.proofs.after.line_of.Goals as goal

pub lower_owns-requires-clause-first : goal.lower_owns-requires-clause-first
lower_owns-requires-clause-first g c = λ b bd. lines_near c.args.d (kept_at c.args.d c.args.cells.now) c.args.r b _ (omega (arith, c.requires.few)) (λ i j w. c.requires.near i j) (c.lower_lines.ensures.lowered b bd)

pub returns-clause-lowered : goal.returns-clause-lowered
returns-clause-lowered g c = line_lined c.args.d c.args.r (kept_at c.args.d c.args.cells.now) c.lower_lines.new.line c.lower_owns.new.line c.lower_lines.ensures.lowered c.lower_owns.ensures.lowered c.lower_owns.ensures.others
