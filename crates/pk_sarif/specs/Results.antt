-- The results of a log (3.27): one for each operation that is unknown, with a code flow for each of its ways that is.
use Rattle.std.specs.Prelude.{ℕ, ℤ, List, [], ◌∷◌, ◌++◌, codes}
use Rattle.std.specs.List.{flat_map}
use Rattle.pk_ctypes.specs.declared.places.Pos.{Pos}
use Rattle.pk_ctypes.specs.Words.{fault_text}
use Rattle.pk_show.specs.declared.rows.Verdict.{Verdict}
use Rattle.pk_show.specs.declared.rows.Verdict.TheVariants.{Safe, Unknown, Unreachable}
use Rattle.pk_show.specs.Paths.{CallOf}
use Rattle.pk_findings.specs.Texts.{TextOf, origin_at, file_of}
use Rattle.pk_findings.specs.Operations.{WayOf, OperationOf}
use Rattle.pk_findings.specs.Words.{verdict_of}
use Rattle.pk_findings.specs.Messages.{message as said_of}
use Rattle.serde_json.specs.Data.{Data, string, array, object, item, no_items, member, no_members}
use Rattle.serde_json.specs.View.{items_of}
use Rattle.pk_sarif.specs.Objects.{message, physical_location, location, step}
use Rattle.pk_sarif.specs.Rules.{level}

-- a place of a text, where it comes from
abbrev pub place : TextOf → Pos → Data
place t at = physical_location (file_of t (origin_at t at)) (origin_at t at).line at.column

abbrev pub call_said : (caller name : List ℕ) → List ℕ
call_said caller name = caller ++ codes " calls " ++ name

-- the calls of a path, the first one first
abbrev pub call_steps : TextOf → (caller : List ℕ) → List CallOf → List Data
call_steps t caller [] = []
call_steps t caller (c ∷ calls) = step (place t c.at) (call_said caller c.name) ∷ call_steps t c.name calls

-- the calls that lead to an operation, and the operation with the range that was found there
abbrev pub steps : TextOf → OperationOf → WayOf → (lo hi : ℤ) → List Data
steps t o w lo hi =
    call_steps t w.path.entry w.path.calls ++ step (place t o.at) (said_of t o lo hi) ∷ []

-- a code flow (3.36), which has one thread (3.37)
abbrev pub flow : List Data → Data
flow ds =
    object (member (codes "threadFlows")
    (array (item (object (member (codes "locations") (array (items_of ds)) no_members)) no_items)) no_members)

abbrev pub flows_by : TextOf → OperationOf → WayOf → Verdict → List Data
flows_by t o w Safe = []
flows_by t o w (Unknown lo hi) = flow (steps t o w lo hi) ∷ []
flows_by t o w Unreachable = []

abbrev pub flows : TextOf → OperationOf → List Data
flows t o = flat_map (λ w. flows_by t o w w.verdict) o.ways

abbrev pub result_with : TextOf → OperationOf → (lo hi : ℤ) → Data
result_with t o lo hi =
    object (member (codes "codeFlows") (array (items_of (flows t o)))
    (member (codes "level") level
    (member (codes "locations") (array (item (location (place t o.at)) no_items))
    (member (codes "message") (message (said_of t o lo hi))
    (member (codes "ruleId") (string (fault_text o.fault)) no_members)))))

abbrev pub results_by : TextOf → OperationOf → Verdict → List Data
results_by t o Safe = []
results_by t o (Unknown lo hi) = result_with t o lo hi ∷ []
results_by t o Unreachable = []

-- the results of operations: one for each that is unknown, in order
abbrev pub results : TextOf → List OperationOf → List Data
results t = flat_map (λ o. results_by t o (verdict_of o))
