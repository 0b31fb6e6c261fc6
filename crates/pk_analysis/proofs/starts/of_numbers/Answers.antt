use Rattle.std.proofs.Common.{rules, ◌≡◌, ◌-◌, pos, length, take, drop, slice_index_or, if◌then◌else◌, ap, ◌∙◌}
use Rattle.pk_value.specs.Known.{Known, joined, exactly}
use Rattle.pk_analysis.specs.Starts.{joined_with}
use Rattle.pk_analysis.proofs.StartLemmas.{of_first}
use Rattle.pk_analysis.proofs.starts.of_numbers.Goals as goal

pub returns-in-len1-up-clause-value : goal.returns-in-len1-up-clause-value
returns-in-len1-up-clause-value c =
    let zs = c.args.numbers.now in
    let one : c.exactly_in-in-len1-up.result ≡ exactly (slice_index_or zs 0 (pos 0)) = search rules in
    c.filled.ensures.value
    ∙ ap (λ (k : Known). if c.args.short then joined k (exactly (pos 0)) else k) (c.joined.ensures.value ∙ ap (λ (k : Known). joined_with k (take (length zs - 1) (drop 1 zs))) one)
    ∙ of_first c.args.short zs c.in-len1-up.len_at_least
