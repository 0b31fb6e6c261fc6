use Rattle.std.proofs.Common.{◌≡◌, ap, refl, sym, ◌∙◌, arith}
use Rattle.std.proofs.lemmas.List.{ext_get_or}
use Rattle.pk_ctypes.specs.declared.types.IntType.TheVariants.{Int}
use Rattle.pk_value.specs.Known.{Known, any_of}
use Rattle.pk_octagons.specs.Values.{known_at}
use Rattle.pk_blocks.proofs.Merging.{never}
use Rattle.pk_state.proofs.Rows.{rows_more, row_of_all}
use Rattle.pk_state.proofs.values.same_values.Goals as goal

pub returns-then-not-same_row : goal.returns-then-not-same_row
returns-then-not-same_row c = (
  λ e. absurd (never _ refl e),
  λ h. sym c.if-not-same_row.true
      ∙ c.same_row.ensures.1 (λ r p q.
      row_of_all c.args.a.now c.args.b.now c.row.result.now c.row-in-loop-k.result.now (λ (v w : Known). v ≡ w) c.loop-k.k c.requires c.row.ensures.items c.row-in-loop-k.ensures.items (λ y p. ap (λ vs. known_at vs y) h) r p (omega (arith, q, c.len-n.ensures.value))),
)

pub loop-k-preserved : goal.loop-k-preserved
loop-k-preserved c =
    rows_more c.args.a.now c.args.b.now c.row.result.now c.row-in-loop-k.result.now (λ (v w : Known). v ≡ w) c.loop-k.k c.requires c.row.ensures.items c.row-in-loop-k.ensures.items c.loop-k.invariant
    (λ r p q. c.same_row.ensures.0 c.if-not-same_row.false r p (omega (arith, q, c.len-n.ensures.value)))

pub returns : goal.returns
returns c = (λ e. ext_get_or (any_of Int) c.args.a.now c.args.b.now c.requires (λ y p. c.loop-k.invariant y (omega (arith, p, c.loop-k-test.false, c.rows-k-end.ensures, c.len-n.ensures.value)) p), λ e. refl)
