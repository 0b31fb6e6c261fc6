use Rattle.std.proofs.Common.{◌≡◌, ◌==◌, ◌∙◌, ◌+◌, ◌<◌, ◌≤◌, length, get_or, take, arith, w32, length-take}
use Rattle.std.proofs.Math.Facts.{Fits-of_lt}
use Rattle.std.proofs.lemmas.Grind.{get_or_default_zero}
use Rattle.std.proofs.lemmas.List.{length-set}
use Rattle.std.proofs.lemmas.List.Elements.{All-get_or}
use Rattle.std.proofs.lemmas.List.Sums.{count_by-le-length}
use Rattle.pk_peak.specs.declared.stretches.Stretch.{Stretch}
use Rattle.pk_peak.proofs.Listing.{counted_more}
use Rattle.pk_peak.proofs.stretches.count_ends.Goals as goal

pub overflow_add-index_mut : goal.overflow_add-index_mut
overflow_add-index_mut c =
    let i = c.loop-stretch.stretch-index in
    let xs = c.args.stretches.now in
    let s : Stretch = get_or xs i (record { from = 0; to = 0 }) in
    let rise = All-get_or (λ (t : Stretch). t.from ≤ t.to) xs i (record { from = 0; to = 0 }) c.loop-stretch-test.true c.requires.rising in
    let high = All-get_or (λ (t : Stretch). t.to < c.args.places) xs i (record { from = 0; to = 0 }) c.loop-stretch-test.true c.requires.within in
    let low : s.from < c.args.places = omega (arith, rise, high) in
    let at = get_or_default_zero c.loop-stretch.first.items s.from c.index_mut.result.now (omega (arith, low, c.loop-stretch.invariant.long_first)) in
    let few = count_by-le-length (λ (t : Stretch). t.from == s.from) (take i xs) in
    Fits-of_lt {w = w32} (omega (arith, c.index_mut.ensures.value, at, c.loop-stretch.invariant.begins s.from low, few, length-take i xs, c.loop-stretch-test.true, c.requires.few))

pub overflow_add-index_mut-in-loop-stretch : goal.overflow_add-index_mut-in-loop-stretch
overflow_add-index_mut-in-loop-stretch c =
    let i = c.loop-stretch.stretch-index in
    let xs = c.args.stretches.now in
    let s : Stretch = get_or xs i (record { from = 0; to = 0 }) in
    let high : s.to < c.args.places = All-get_or (λ (t : Stretch). t.to < c.args.places) xs i (record { from = 0; to = 0 }) c.loop-stretch-test.true c.requires.within in
    let at = get_or_default_zero c.loop-stretch.last.items s.to c.index_mut-in-loop-stretch.result.now (omega (arith, high, c.loop-stretch.invariant.long_last)) in
    let few = count_by-le-length (λ (t : Stretch). t.to == s.to) (take i xs) in
    Fits-of_lt {w = w32} (omega (arith, c.index_mut-in-loop-stretch.ensures.value, at, c.loop-stretch.invariant.ends s.to high, few, length-take i xs, c.loop-stretch-test.true, c.requires.few))

pub loop-stretch-preserved : goal.loop-stretch-preserved
loop-stretch-preserved c =
    let i = c.loop-stretch.stretch-index in
    let xs = c.args.stretches.now in
    let none : Stretch = record { from = 0; to = 0 } in
    let s : Stretch = get_or xs i none in
    let first = c.loop-stretch.first.items in
    let last = c.loop-stretch.last.items in
    let begins = c.index_mut.result.now + 1 in
    let ends = c.index_mut-in-loop-stretch.result.now + 1 in
    let long_first = c.loop-stretch.invariant.long_first in
    let long_last = c.loop-stretch.invariant.long_last in
    let rise = All-get_or (λ (t : Stretch). t.from ≤ t.to) xs i none c.loop-stretch-test.true c.requires.rising in
    let high : s.to < c.args.places = All-get_or (λ (t : Stretch). t.to < c.args.places) xs i none c.loop-stretch-test.true c.requires.within in
    let from_in : s.from < length first = omega (arith, rise, high, long_first) in
    let to_in : s.to < length last = omega (arith, high, long_last) in
    let begins_is : begins ≡ get_or first s.from 0 + 1 = (let at = get_or_default_zero first s.from c.index_mut.result.now from_in in omega (arith, c.index_mut.ensures.value, at)) in
    let ends_is : ends ≡ get_or last s.to 0 + 1 = (let at = get_or_default_zero last s.to c.index_mut-in-loop-stretch.result.now to_in in omega (arith, c.index_mut-in-loop-stretch.ensures.value, at)) in
    record {
      long_first = length-set first s.from begins ∙ long_first;
      long_last = length-set last s.to ends ∙ long_last;
      begins = λ j low. counted_more (λ (t : Stretch). t.from) first xs i begins none c.loop-stretch-test.true from_in (λ u h. c.loop-stretch.invariant.begins u (omega (arith, h, long_first))) begins_is j (omega (arith, low, long_first));
      ends = λ j low. counted_more (λ (t : Stretch). t.to) last xs i ends none c.loop-stretch-test.true to_in (λ u h. c.loop-stretch.invariant.ends u (omega (arith, h, long_last))) ends_is j (omega (arith, low, long_last));
    }
