use Rattle.std.proofs.Common.{ap, arith}
use Rattle.pk_constructs.proofs.ScanLemmas.{at_most_one}
use Rattle.pk_typenames.specs.Spellings.{Layer}
use Rattle.pk_typenames.proofs.PlaceLemmas.{marking_none, marking_more, marking_all}
use Rattle.pk_typenames.proofs.marking.mark.Goals as goal

pub returns : goal.returns
returns c = marking_all _ _ _ _ _ _ _ _ c.loop-i.invariant.0 (omega arith)

pub loop-i-init : goal.loop-i-init
loop-i-init c = (marking_none _ _ _ (λ q. ap (λ (l : Layer). l q) c.new-types.ensures), omega arith)

pub loop-i-preserved : goal.loop-i-preserved
loop-i-preserved c = (
  marking_more _ _ _ _ _ _ _ _ c.loop-i.invariant.0 (omega arith) _ _ c.spelling-name.ensures _ c.is_name-named.ensures _ c.has-known.ensures _ c.is_end.ensures _ c.in_ok-note.ensures
      _ c.is_outside-outside.ensures _ c.pending_after-pending.ensures _ c.open_after-within.ensures _ c.braces_after-braces.ensures _ c.marked.ensures,
  (let many = at_most_one _ _ _ c.braces_after-braces.ensures in let was = c.loop-i.invariant.1 in omega arith),
)
