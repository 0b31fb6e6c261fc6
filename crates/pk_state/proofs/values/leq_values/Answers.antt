use Rattle.std.proofs.Common.{◌≡◌, true, refl, sym, ◌∙◌, arith}
use Rattle.pk_value.specs.Known.{Known, is_within}
use Rattle.pk_blocks.proofs.Merging.{never}
use Rattle.pk_state.proofs.Rows.{rows_more, row_of_all}
use Rattle.pk_state.proofs.values.leq_values.Goals as goal

pub returns-then-not-leq_row : goal.returns-then-not-leq_row
returns-then-not-leq_row c = (
  λ e. absurd (never _ refl e),
  λ h. sym c.if-not-leq_row.true
      ∙ c.leq_row.ensures.1 (λ r p q.
      row_of_all c.args.a.now c.args.b.now c.row.result.now c.row-in-loop-k.result.now (λ (v w : Known). is_within v w ≡ true) c.loop-k.k c.requires c.row.ensures.items c.row-in-loop-k.ensures.items h r p (omega (arith, q, c.len-n.ensures.value))),
)

pub loop-k-preserved : goal.loop-k-preserved
loop-k-preserved c =
    rows_more c.args.a.now c.args.b.now c.row.result.now c.row-in-loop-k.result.now (λ (v w : Known). is_within v w ≡ true) c.loop-k.k c.requires c.row.ensures.items c.row-in-loop-k.ensures.items c.loop-k.invariant
    (λ r p q. c.leq_row.ensures.0 c.if-not-leq_row.false r p (omega (arith, q, c.len-n.ensures.value)))

pub returns : goal.returns
returns c = (λ e x p. c.loop-k.invariant x (omega (arith, p, c.loop-k-test.false, c.rows-k-end.ensures, c.len-n.ensures.value)) p, λ e. refl)
