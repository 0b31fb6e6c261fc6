use Rattle.std.proofs.Common.{◌≡◌, ◌++◌, ℕ, ℤ, List, Option, subst}
use Rattle.pk_cert.specs.Rows.{symbols_text}
use Rattle.pk_cert_lines.specs.Symbols.{spaced}
use Rattle.pk_cert_lines.proofs.Telling.{line_written}
use Rattle.pk_cert_lines.proofs.lines.write_in.Goals as goal

pub returns-clause-bytes : goal.returns-clause-bytes
returns-clause-bytes c =
    line_written c.args.order.now c.args.frame.now c.tell.new.told c.args.state.now.facts c.args.bytes.now.items c.end_with.new.bytes.items c.in_ok-tell.ensures.told c.in_ok-tell.ensures.state
    (subst (λ (x : List ℕ). (zs : List (Option ℤ)) → x ≡ spaced zs → c.end_with.new.bytes.items ≡ c.args.bytes.now.items ++ symbols_text zs) c.deref.ensures.value c.in_ok-end_with.ensures)
