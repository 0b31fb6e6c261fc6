use Rattle.std.proofs.Common.{◌≡◌, drop}
use Rattle.std.specs.List.{list_all}
use Rattle.pk_findings.specs.Texts.{is_within}
use Rattle.pk_findings.proofs.shown.are_calls_within.Given as goal

-- it depends on the rest
abbrev pub invariant-loop-k : goal.invariant-loop-k
invariant-loop-k l =
    list_all (λ c. is_within l.text c.at) (drop l.k l.calls) ≡ list_all (λ c. is_within l.text c.at) l.calls
