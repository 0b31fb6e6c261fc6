use Rattle.std.proofs.Common.{rules, ◌≡◌, ◌+◌, ℤ, pos, List, drop, slice_index_or, ap, sym, ◌∙◌}
use Rattle.std.proofs.lemmas.List.{drop_more}
use Rattle.pk_value.specs.Known.{Known, joined, exactly}
use Rattle.pk_analysis.specs.Starts.{joined_with}
use Rattle.pk_analysis.proofs.starts.joined.Goals as goal

pub loop-number-preserved : goal.loop-number-preserved
loop-number-preserved c =
    let zs : List ℤ = c.args.numbers.now in
    let i = c.loop-number.number-index in
    let one : c.exactly_in.result ≡ exactly (slice_index_or zs i (pos 0)) = search rules in (
      ap (λ (k : Known). joined_with k (drop (i + 1) zs)) (c.join_in-all.ensures.value ∙ ap (λ (k : Known). joined c.loop-number.all k) one)
          ∙ ap (λ (xs : List ℤ). joined_with c.loop-number.all xs) (sym (drop_more zs i (pos 0) c.loop-number-test.true)) ∙ c.loop-number.invariant.0,
      c.join_in-all.ensures.inside,
    )
