-- The verdict on an operation over all its ways.
use Rattle.std.specs.Prelude.{ℤ, int_lt, Bool, true, false, if◌then◌else◌, List, fold, count_by}
use Rattle.pk_show.specs.declared.rows.Verdict.{Verdict}
use Rattle.pk_show.specs.declared.rows.Verdict.TheVariants.{Safe, Unknown, Unreachable}
use Rattle.pk_show.specs.declared.rows.Counts.{Counts}
use Rattle.pk_findings.specs.Operations.{OperationOf}

-- ---- verdicts

abbrev pub lesser : ℤ → ℤ → ℤ
lesser a b = if int_lt b a then b else a

abbrev pub greater : ℤ → ℤ → ℤ
greater a b = if int_lt a b then b else a

abbrev pub joined_to_safe : Verdict → Verdict
joined_to_safe Safe = Safe
joined_to_safe (Unknown lo hi) = Unknown lo hi
joined_to_safe Unreachable = Safe

-- the least range around both, where both are unknown
abbrev pub joined_to_unknown : (lo hi : ℤ) → Verdict → Verdict
joined_to_unknown lo hi Safe = Unknown lo hi
joined_to_unknown lo hi (Unknown low high) = Unknown (lesser lo low) (greater hi high)
joined_to_unknown lo hi Unreachable = Unknown lo hi

-- of two ways: unknown where one is, else safe where one is
abbrev pub joined : Verdict → Verdict → Verdict
joined Safe v = joined_to_safe v
joined (Unknown lo hi) v = joined_to_unknown lo hi v
joined Unreachable v = v

-- of all ways of an operation
abbrev pub verdict_of : OperationOf → Verdict
verdict_of o = fold (λ v w. joined v w.verdict) Unreachable o.ways

abbrev pub is_safe : Verdict → Bool
is_safe Safe = true
is_safe (Unknown lo hi) = false
is_safe Unreachable = false

abbrev pub is_unknown : Verdict → Bool
is_unknown Safe = false
is_unknown (Unknown lo hi) = true
is_unknown Unreachable = false

abbrev pub is_unreachable : Verdict → Bool
is_unreachable Safe = false
is_unreachable (Unknown lo hi) = false
is_unreachable Unreachable = true

-- a finding is an operation that is unknown on one of its ways
abbrev pub is_finding : OperationOf → Bool
is_finding o = is_unknown (verdict_of o)

-- how many operations have each verdict
unfoldable pub counts_of : List OperationOf → Counts
counts_of operations = record {
  safe = count_by (λ o. is_safe (verdict_of o)) operations;
  unknown = count_by is_finding operations;
  unreachable = count_by (λ o. is_unreachable (verdict_of o)) operations;
}
