use Rattle.std.proofs.Common.{◌≡◌, ℕ, ◌+◌, ◌++◌, List, [], ◌∷◌, length, refl, sym, ap, subst, ◌∙◌, arith, get_or}
use Rattle.std.proofs.lemmas.List.{length-replicate}
use Rattle.std.proofs.lemmas.List.Sums.{sum_by_more_le}
use Rattle.pk_layout.specs.Gathered.{gathered, owned_by, AreStarts}
use Rattle.pk_layout.proofs.Lists.{length_more, starts_none, starts_more}
use Rattle.pk_layout.proofs.Counting.{long_owned}
use Rattle.pk_layout.proofs.gathering.own_slots.Goals as goal

pub overflow_add-slots-in-loop-count : goal.overflow_add-slots-in-loop-count
overflow_add-slots-in-loop-count c =
    let counts = c.args.counts.now in
    let i = c.loop-count.count-index in
    omega (arith, c.loop-count.invariant.slots, long_owned counts i (omega (arith, c.loop-count-test.true)), sum_by_more_le (λ x. x) counts i 0 c.loop-count-test.true, c.requires, c.loop-count-test.true)

pub loop-count-preserved : goal.loop-count-preserved
loop-count-preserved c =
    let counts = c.args.counts.now in
    let i = c.loop-count.count-index in
    let m = c.loop-count.slots + (get_or counts i 0 + 1) in
    let is : m ≡ length (gathered (owned_by counts) (i + 1)) = omega (arith, c.loop-count.invariant.slots, length_more (owned_by counts) i, length-replicate (get_or counts i 0 + 1) i) in
    record {
      slots = is;
      first = subst (AreStarts (owned_by counts) (i + 1)) (sym c.in_ok-push-2.ensures.items) (starts_more (owned_by counts) i c.loop-count.first.items m c.loop-count.invariant.first is);
    }

pub loop-count-init : goal.loop-count-init
loop-count-init c = record {
  slots = refl;
  first = subst (AreStarts (owned_by c.args.counts.now) 0) (sym (c.in_ok-push.ensures.items ∙ ap (λ (xs : List ℕ). xs ++ 0 ∷ []) c.new-first.ensures.items)) (starts_none (owned_by c.args.counts.now));
}
