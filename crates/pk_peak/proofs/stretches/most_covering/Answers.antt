use Rattle.std.proofs.Common.{◌≡◌, ◌==◌, ◌∙◌, ◌+◌, count_by, max, refl, sym, arith, w32}
use Rattle.std.proofs.Math.Facts.{Fits-of_lt}
use Rattle.std.proofs.lemmas.Grind.{get_or_default_zero}
use Rattle.std.proofs.lemmas.List.Sums.{count_by-le-length}
use Rattle.pk_peak.specs.Stretches.{covers, covering}
use Rattle.pk_peak.proofs.Covering.{begun, ended, none_begun, greatest_more}
use Rattle.pk_peak.proofs.stretches.most_covering.Goals as goal

pub loop-place-init : goal.loop-place-init
loop-place-init c = record { begun = sym (none_begun c.args.stretches.now); most = refl }

pub overflow_add-covering : goal.overflow_add-covering
overflow_add-covering c =
    let ss = c.args.stretches.now in
    let place = c.loop-place.place in
    let ends = c.in_ok-ends.ensures in
    let begins = c.index.ensures ∙ get_or_default_zero c.in_ok-ends.ends.first.items place c.index.result.now (omega (arith, c.loop-place-test.true, ends.long_first)) ∙ ends.begins place c.loop-place-test.true in
    Fits-of_lt {w = w32} (omega (arith, begins, c.loop-place.invariant.begun, begun ss place c.requires.rising, count_by-le-length (covers place) ss, c.requires.few))

pub overflow_sub-covering : goal.overflow_sub-covering
overflow_sub-covering c =
    let ss = c.args.stretches.now in
    let place = c.loop-place.place in
    let ends = c.in_ok-ends.ensures in
    let begins = c.index.ensures ∙ get_or_default_zero c.in_ok-ends.ends.first.items place c.index.result.now (omega (arith, c.loop-place-test.true, ends.long_first)) ∙ ends.begins place c.loop-place-test.true in
    let lasts = c.index-in-loop-place.ensures ∙ get_or_default_zero c.in_ok-ends.ends.last.items place c.index-in-loop-place.result.now (omega (arith, c.loop-place-test.true, ends.long_last)) ∙ ends.ends place c.loop-place-test.true in
    omega (arith, begins, lasts, c.loop-place.invariant.begun, begun ss place c.requires.rising, ended ss place c.requires.rising)

pub loop-place-preserved : goal.loop-place-preserved
loop-place-preserved c =
    let ss = c.args.stretches.now in
    let place = c.loop-place.place in
    let ends = c.in_ok-ends.ensures in
    let begins : c.index.result.now ≡ count_by (λ s. s.from == place) ss =
    c.index.ensures ∙ get_or_default_zero c.in_ok-ends.ends.first.items place c.index.result.now (omega (arith, c.loop-place-test.true, ends.long_first)) ∙ ends.begins place c.loop-place-test.true in
    let lasts : c.index-in-loop-place.result.now ≡ count_by (λ s. s.to == place) ss =
    c.index-in-loop-place.ensures ∙ get_or_default_zero c.in_ok-ends.ends.last.items place c.index-in-loop-place.result.now (omega (arith, c.loop-place-test.true, ends.long_last)) ∙ ends.ends place c.loop-place-test.true in
    let all : c.loop-place.covering + c.index.result.now ≡ covering ss place = omega (arith, begins, c.loop-place.invariant.begun, begun ss place c.requires.rising) in
    record {
      begun = omega (arith, lasts, all, ended ss place c.requires.rising);
      most = c.max-most.ensures ∙ (λ k. max (c.loop-place.invariant.most k) (all k)) ∙ sym (greatest_more (covering ss) place);
    }
