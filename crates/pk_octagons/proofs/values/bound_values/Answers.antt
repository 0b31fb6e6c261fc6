use Rattle.std.proofs.Common.{◌≡◌, ◌<◌, ◌+◌, drop, ap, sym, subst, ◌∙◌, arith, length, below_more}
use Rattle.std.specs.Prelude.{List, [], Some, None}
use Rattle.pk_value.specs.Known.{Known}
use Rattle.pk_octmat.specs.Octagon.{Octagon}
use Rattle.pk_octagons.specs.Packs.{pack_at}
use Rattle.pk_octagons.specs.Reduced.{kept_if, bounded_all, bounded_values, BoundsNone}
use Rattle.pk_octagons.specs.Changes.{then_with}
use Rattle.pk_octagons.proofs.Zips.{read_is}
use Rattle.pk_octagons.proofs.Overs.{same_count, place_width}
use Rattle.pk_octagons.proofs.Bounding.{bounded_step, bounded_over}
use Rattle.pk_octagons.proofs.values.bound_values.Goals as goal

pub pack-requires : goal.pack-requires
pack-requires c = omega (arith, c.loop-p-test.true, same_count c.args.packs.now c.args.all.now c.requires.widths)

pub bound_by_one-requires-clause-pack : goal.bound_by_one-requires-clause-pack
bound_by_one-requires-clause-pack c =
    let here : c.loop-p.p < length c.args.packs.now = omega (arith, c.loop-p-test.true, same_count c.args.packs.now c.args.all.now c.requires.widths) in
    rw (c.pack.ensures.value, c.loop-p.invariant.0) (c.requires.packs c.loop-p.p [] here)

pub bound_by_one-requires-clause-vars : goal.bound_by_one-requires-clause-vars
bound_by_one-requires-clause-vars c =
    let all = c.args.all.now in
    let p = c.loop-p.p in
    let here : p < length c.args.packs.now = omega (arith, c.loop-p-test.true, same_count c.args.packs.now all c.requires.widths) in
    ap (λ (m : Octagon). m.vars) (read_is all p c.index-all-p.result c.loop-p-test.true c.index-all-p.is) ∙ (place_width c.args.packs.now all p c.requires.widths here).1 ∙ sym (ap length c.pack.ensures.value)

pub returns-then-not-branch-clause-value : goal.returns-then-not-branch-clause-value
returns-then-not-branch-clause-value c =
    let packs = c.args.packs.now in
    let all = c.args.all.now in
    let p = c.loop-p.p in
    let l = c.pack.result.now in
    let m = c.index-all-p.result in
    let here : p < length packs = omega (arith, c.loop-p-test.true, same_count packs all c.requires.widths) in
    let none : None ≡ bounded_all l m (length l) c.loop-p.values = subst (λ b. kept_if b c.bound_by_one.new.values ≡ bounded_all l m (length l) c.loop-p.values) c.if-not-branch.true c.in_ok-bound_by_one.ensures.value in
    ap (λ o. then_with o (bounded_values (drop (p + 1) packs) (drop (p + 1) all))) none
    ∙ sym (bounded_step packs all p l m c.loop-p.values here c.loop-p-test.true c.pack.ensures.value (read_is all p m c.loop-p-test.true c.index-all-p.is)) ∙ c.loop-p.invariant.2

pub loop-p-preserved : goal.loop-p-preserved
loop-p-preserved c =
    let packs = c.args.packs.now in
    let all = c.args.all.now in
    let p = c.loop-p.p in
    let l = c.pack.result.now in
    let m = c.index-all-p.result in
    let yes = c.if-not-branch.false in
    let b = c.in_ok-bound_by_one.ensures in
    let here : p < length packs = omega (arith, c.loop-p-test.true, same_count packs all c.requires.widths) in
    let own = read_is all p m c.loop-p-test.true c.index-all-p.is in
    let some : Some c.bound_by_one.new.values ≡ bounded_all l m (length l) c.loop-p.values = subst (λ t. kept_if t c.bound_by_one.new.values ≡ bounded_all l m (length l) c.loop-p.values) yes b.value in (
      b.size yes ∙ c.loop-p.invariant.0,
      λ types h. b.stays yes types (c.loop-p.invariant.1 types h),
      ap (λ o. then_with o (bounded_values (drop (p + 1) packs) (drop (p + 1) all))) some ∙ sym (bounded_step packs all p l m c.loop-p.values here c.loop-p-test.true c.pack.ensures.value own) ∙ c.loop-p.invariant.2,
      b.marked yes,
      λ none.
          let s = b.still yes none in
          let before = c.loop-p.invariant.4 s.0 in (
            s.1 ∙ before.0,
            below_more _ _ before.1
                (subst (λ (n : Octagon). BoundsNone (pack_at packs p) c.args.values.now n) own
                (subst (λ q. BoundsNone q c.args.values.now m) c.pack.ensures.value (subst (λ (vs : List Known). BoundsNone l vs m) before.0 s.2))),
          ),
    )

pub returns-clause-value : goal.returns-clause-value
returns-clause-value c =
    sym (bounded_over c.args.packs.now c.args.all.now c.loop-p.p c.loop-p.values (omega (arith, c.loop-p-test.false, same_count c.args.packs.now c.args.all.now c.requires.widths))) ∙ c.loop-p.invariant.2

pub returns-clause-still : goal.returns-clause-still
returns-clause-still c = λ yes none. let s = c.loop-p.invariant.4 none in (s.0, λ q h. s.1 q (omega (arith, h, c.loop-p-test.false)))
