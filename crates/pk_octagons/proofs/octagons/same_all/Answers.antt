use Rattle.std.proofs.Common.{◌<◌, ap, sym, ◌∙◌, refl, arith, below_more, length}
use Rattle.std.proofs.lemmas.List.{ext_get_or}
use Rattle.pk_blocks.proofs.Merging.{never}
use Rattle.pk_octagons.specs.Octagons.{octagon_at, no_octagon}
use Rattle.pk_octagons.proofs.Zips.{read_is}
use Rattle.pk_octagons.proofs.octagons.same_all.Goals as goal

pub returns-then-not-equals : goal.returns-then-not-equals
returns-then-not-equals c =
    let a = c.args.a.now in
    let b = c.args.b.now in
    let p = c.loop-p.p in
    let other : p < length b = omega (arith, c.loop-p-test.true, c.requires) in (
      λ e. absurd (never _ refl e),
      λ h. absurd (never _ c.if-not-equals.true
          (c.equals.ensures.1 (read_is a p c.index-a-p.result c.loop-p-test.true c.index-a-p.is ∙ ap (λ ms. octagon_at ms p) h ∙ sym (read_is b p c.index-b-p.result other c.index-b-p.is)))),
    )

pub loop-p-preserved : goal.loop-p-preserved
loop-p-preserved c =
    let a = c.args.a.now in
    let b = c.args.b.now in
    let p = c.loop-p.p in
    let other : p < length b = omega (arith, c.loop-p-test.true, c.requires) in
    below_more _ _ c.loop-p.invariant
    (sym (read_is a p c.index-a-p.result c.loop-p-test.true c.index-a-p.is) ∙ c.equals.ensures.0 c.if-not-equals.false ∙ read_is b p c.index-b-p.result other c.index-b-p.is)

pub returns : goal.returns
returns c = (λ e. ext_get_or no_octagon c.args.a.now c.args.b.now (sym c.requires) (λ p h. c.loop-p.invariant p (omega (arith, h, c.loop-p-test.false))), λ e. refl)
