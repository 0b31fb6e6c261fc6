-- Findings as a compiler writes its warnings.
use Rattle.std.specs.Prelude.{ℕ, ℤ, Bool, true, false, List, [], ◌++◌, codes, length, count_by, nat_lt, Option, Some, None}
use Rattle.std.specs.List.{flat_map}
use Rattle.std.specs.Fmt.{decimal}
use Rattle.pk_ctypes.specs.declared.faults.Fault.{Fault}
use Rattle.pk_ctypes.specs.declared.places.Pos.{Pos}
use Rattle.pk_ctypes.specs.Words.{fault_text}
use Rattle.pk_show.specs.declared.rows.Verdict.{Verdict}
use Rattle.pk_show.specs.declared.rows.Verdict.TheVariants.{Safe, Unknown, Unreachable}
use Rattle.pk_show.specs.declared.rows.Counts.{Counts}
use Rattle.pk_show.specs.Paths.{PathOf}
use Rattle.pk_findings.specs.Texts.{TextOf, line_of}
use Rattle.pk_findings.specs.Operations.{WayOf, OperationOf}
use Rattle.pk_findings.specs.Words.{is_unknown, verdict_of, counts_of}
use Rattle.pk_findings.specs.Messages.{range_text, message}
use Rattle.pk_findings.specs.Shown.{ShownOf}
use Rattle.pk_findings.specs.Refused.{RefusedOf}
use Rattle.pk_listing.specs.Places.{head_text, excerpt_with, path_text}
use Rattle.pk_listing.specs.Sources.{SourceOf, own_line, is_own}
use Rattle.pk_listing.specs.Invariants.{invariants_text}

-- ---- the ways of a finding

-- the range of one way, where there are several
abbrev pub way_range : (is_one_of_many : Bool) → (lo hi : ℤ) → List ℕ
way_range true lo hi = codes ": " ++ range_text lo hi
way_range false lo hi = []

unfoldable pub way_line : TextOf → (is_one_of_many : Bool) → PathOf → (lo hi : ℤ) → List ℕ
way_line t is_one_of_many p lo hi = path_text t p ++ (way_range is_one_of_many lo hi ++ codes "\n")

-- a way that is unknown has a line
abbrev pub way_text : TextOf → (is_one_of_many : Bool) → PathOf → Verdict → List ℕ
way_text t is_one_of_many p Safe = []
way_text t is_one_of_many p (Unknown lo hi) = way_line t is_one_of_many p lo hi
way_text t is_one_of_many p Unreachable = []

abbrev pub ways_text : TextOf → (is_one_of_many : Bool) → List WayOf → List ℕ
ways_text t is_one_of_many = flat_map (λ w. way_text t is_one_of_many w.path w.verdict)

abbrev pub unknown_ways : List WayOf → ℕ
unknown_ways = count_by (λ w. is_unknown w.verdict)

-- ---- findings

abbrev pub said_end : TextOf → OperationOf → (lo hi : ℤ) → List ℕ
said_end t o lo hi = message t o lo hi ++ codes "\n"

unfoldable pub said_text : TextOf → OperationOf → (lo hi : ℤ) → List ℕ
said_text t o lo hi = codes ": unknown [" ++ (fault_text o.fault ++ (codes "]: " ++ said_end t o lo hi))

-- a place, and its line: the file's own is given, where it is at hand
abbrev pub head_at : (own : Option (List ℕ)) → TextOf → Pos → List ℕ
head_at own t at = head_text (is_own own (line_of t at) at.column) t at

abbrev pub excerpt_at : (own : Option (List ℕ)) → TextOf → Pos → List ℕ
excerpt_at own t at = excerpt_with (is_own own (line_of t at) at.column) own (line_of t at) at.column

abbrev pub all_ways : TextOf → List WayOf → List ℕ
all_ways t ways = ways_text t (nat_lt 1 (unknown_ways ways)) ways

-- an operation that is unknown: where and what, its line, and the calls that lead to it
unfoldable pub finding_at : (own : Option (List ℕ)) → TextOf → OperationOf → (lo hi : ℤ) → List ℕ
finding_at own t o lo hi = head_at own t o.at ++ (said_text t o lo hi ++ (excerpt_at own t o.at ++ all_ways t o.ways))

abbrev pub finding_with : List SourceOf → TextOf → OperationOf → (lo hi : ℤ) → List ℕ
finding_with sources t o lo hi = finding_at (own_line sources t o.at) t o lo hi

abbrev pub unreachable_words : List ℕ
unreachable_words =
    codes "]: no run comes here: what stands before it always fails, never ends or leads elsewhere\n"

abbrev pub fault_end : Fault → List ℕ
fault_end f = fault_text f ++ unreachable_words

-- an operation that no run computes
unfoldable pub unreachable_at : (own : Option (List ℕ)) → TextOf → Pos → Fault → List ℕ
unreachable_at own t at f = head_at own t at ++ (codes ": unreachable [" ++ fault_end f)

abbrev pub finding_by : List SourceOf → TextOf → OperationOf → Verdict → List ℕ
finding_by sources t o Safe = []
finding_by sources t o (Unknown lo hi) = finding_with sources t o lo hi
finding_by sources t o Unreachable = unreachable_at (own_line sources t o.at) t o.at o.fault

abbrev pub finding_text : List SourceOf → TextOf → OperationOf → List ℕ
finding_text sources t o = finding_by sources t o (verdict_of o)

-- ---- a text

abbrev pub unreachable_text : ℕ → List ℕ
unreachable_text n = decimal n ++ codes " unreachable\n"

unfoldable pub counts_text : Counts → List ℕ
counts_text c =
    decimal c.safe ++ (codes " safe, " ++ (decimal c.unknown ++ (codes " unknown, " ++ unreachable_text c.unreachable)))

unfoldable pub summary_line : (name : List ℕ) → (operations : ℕ) → Counts → List ℕ
summary_line name operations c =
    name ++ (codes ": " ++ (decimal operations ++ (codes " operations: " ++ counts_text c)))

abbrev pub findings_text : List SourceOf → TextOf → List OperationOf → List ℕ
findings_text sources t = flat_map (finding_text sources t)

-- the findings of a report, what holds at its heads if that is asked for, then how many operations there are
abbrev pub shown_text : List SourceOf → (with_invariants : Bool) → ShownOf → List ℕ
shown_text sources with_invariants s =
    findings_text sources s.text s.operations ++ (invariants_text with_invariants s.text s.rows ++
    summary_line s.text.name (length s.operations) (counts_of s.operations))

-- of several texts one after the other
abbrev pub listing_text : List SourceOf → (with_invariants : Bool) → List ShownOf → List ℕ
listing_text sources with_invariants = flat_map (shown_text sources with_invariants)

-- ---- texts without a report

abbrev pub said_line : (said : List ℕ) → List ℕ
said_line said = codes ": " ++ (said ++ codes "\n")

-- where, and what was said
unfoldable pub refusal_at : (own : Option (List ℕ)) → TextOf → (said : List ℕ) → Pos → List ℕ
refusal_at own t said at = head_at own t at ++ (said_line said ++ excerpt_at own t at)

abbrev pub refusal_by : List SourceOf → RefusedOf → Option Pos → List ℕ
refusal_by sources r None = r.text.name ++ said_line r.said
refusal_by sources r (Some at) = refusal_at (own_line sources r.text at) r.text r.said at

abbrev pub refusal_text : List SourceOf → RefusedOf → List ℕ
refusal_text sources r = refusal_by sources r r.at

abbrev pub refusals_text : List SourceOf → List RefusedOf → List ℕ
refusals_text sources = flat_map (refusal_text sources)
