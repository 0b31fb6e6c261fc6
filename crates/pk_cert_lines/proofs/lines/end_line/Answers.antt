use Rattle.std.proofs.Common.{◌<◌, ◌-◌, length, arith}
use Rattle.pk_cert_lines.proofs.Spacing.{line_ended}
use Rattle.pk_cert_lines.proofs.lines.end_line.Goals as goal

pub returns : goal.returns
returns c = λ before zs size told.
    let more : length before < length c.args.bytes.now.items = omega (arith, size, c.len.ensures, c.if-len-start.false) in
    line_ended before c.args.bytes.now.items zs (c.len-last.result - 1) told more (omega (arith, more, c.len-last.ensures))
