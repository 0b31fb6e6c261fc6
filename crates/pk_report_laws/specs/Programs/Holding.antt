-- What the bytes of a report, of a summary and of a check tell holds of every run of the program that the text is.
use Rattle.std.specs.Prelude.{◌≡◌, ℕ, Bool, List, map}
use Rattle.pk_typed.specs.Trees.{UnitTree}
use Rattle.pk_calls.specs.declared.listings.CallPath.{CallPath}
use Rattle.pk_front.specs.Programs.{IsProgram}
use Rattle.pk_graph.specs.declared.verdicts.Verdict.{Verdict}
use Rattle.pk_report.specs.Reports.{report_text, summary_text, checked_text, unknown_in}
use Rattle.pk_report_laws.specs.Programs.Told.{Told, told_verdict}
use Rattle.pk_report_laws.specs.Programs.ToldOfPrograms.{HoldsOfProgram}

abbrev pub verdicts_in : Told → List Verdict
verdicts_in t = map (told_verdict t) t.accesses

-- the bytes are a report of it, with so many unknown verdicts
pub record AreReport (all : Bool) (unknown : ℕ) (bytes : List ℕ) (t : Told) : Type 0 where
  pub elements : ℕ
  pub counted : unknown ≡ unknown_in (verdicts_in t)
  pub text : bytes ≡ report_text all t.graph t.heads elements t.states t.accesses (verdicts_in t)

-- a summary of it, for a made text of this length
pub record AreSummary (seed size text_length unknown : ℕ) (bytes : List ℕ) (t : Told) : Type 0 where
  pub elements : ℕ
  pub counted : unknown ≡ unknown_in (verdicts_in t)
  pub text : bytes ≡ summary_text seed size text_length t.graph elements (verdicts_in t)

-- the verdicts of a check
pub record AreVerdicts (unknown : ℕ) (bytes : List ℕ) (t : Told) : Type 0 where
  pub counted : unknown ≡ unknown_in (verdicts_in t)
  pub text : bytes ≡ checked_text t.graph t.accesses (verdicts_in t)

-- The text, begun with this function, is a program, of which what is told so holds.
pub record HoldOfText (text entry : List ℕ) (AreBytes : Told → Type 0) : Type 0 where
  pub unit : UnitTree
  pub paths : List CallPath
  pub program : IsProgram text entry unit paths
  pub told : Told
  pub bytes : AreBytes told
  pub holds : HoldsOfProgram (record { unit = unit; paths = paths }) told
