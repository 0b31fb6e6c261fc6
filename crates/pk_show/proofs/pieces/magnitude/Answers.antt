use Rattle.std.proofs.Common.{sym, ◌∙◌}
use Rattle.std.specs.Cmp.Lexicographic.{same_text}
use Rattle.pk_show.proofs.PieceLemmas.{magnitude_read, magnitude_unread, not_written, too_great}
use Rattle.pk_show.proofs.pieces.magnitude.Goals as goal
use Rattle.pk_show.proofs.pieces.magnitude.Goals.{else-number-via-then-number+else-is_written, else-number-via-else-number}

pub returns-then-is_written-clause-value : goal.returns-then-is_written-clause-value
returns-then-is_written-clause-value c =
    sym (magnitude_read c.in_ok-number.number c.args.text.now c.if-number.true (sym (same_text _ _ (sym c.if-is_written.true ∙ c.is_written.ensures))))

pub returns-else-number-clause-value : goal.returns-else-number-clause-value
returns-else-number-clause-value c =
    sym (magnitude_unread c.args.text.now (λ n h e.
    elim c.else-number.branch [
      | else-number-via-then-number+else-is_written w ↦
          not_written c.args.text.now c.in_ok-number.number n c.parsed.result _ (c.parsed.ensures n h e) c.in_ok-number.was e w.is_written.ensures w.if-is_written.false
      | else-number-via-else-number w ↦ too_great c.in_ok-number.number n c.parsed.result (c.parsed.ensures n h e) c.in_ok-number.was h w.if-number.false
    ]))

pub returns-in_err-number-clause-value : goal.returns-in_err-number-clause-value
returns-in_err-number-clause-value c =
    c.from_residual.ensures
    ∙ sym (magnitude_unread c.args.text.now (λ n h e.
    let read = c.parsed.ensures n h e in
    let was = sym c.in_err-number.was ∙ read in
    absurd (cc was)))
