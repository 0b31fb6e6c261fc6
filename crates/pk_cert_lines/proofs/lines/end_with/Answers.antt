use Rattle.std.proofs.Common.{◌++◌, ℕ, List, ap, ◌∙◌, arith}
use Rattle.pk_cert_lines.proofs.lines.end_with.Goals as goal

pub returns : goal.returns
returns c = λ zs e.
    c.in_ok-end_line.ensures c.args.bytes.now.items zs (omega (arith, c.len-start.ensures)) (c.in_ok-extend_from_slice.ensures.items ∙ ap (λ (r : List ℕ). c.args.bytes.now.items ++ r) e)
