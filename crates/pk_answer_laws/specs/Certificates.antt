-- What is written as a certificate is checked well, with the verdicts of the report.
use Rattle.std.specs.Prelude.{◌≡◌, ℕ, Bool, List, ◌++◌}
use Rattle.std.specs.List.{flat_map, zip}
use Rattle.pk_command.specs.declared.asked.CertOptions.{CertOptions}
use Rattle.pk_command.specs.declared.asked.Command.TheVariants.{Cert, Check}
use Rattle.pk_command.specs.Given.{IsInRange}
use Rattle.pk_graph.specs.declared.verdicts.Verdict.{Verdict}
use Rattle.pk_graph.specs.Accesses.{accesses_of}
use Rattle.pk_graph.specs.Graphs.{GraphOf}
use Rattle.pk_report.specs.Reports.{access_line, last_line, valid_line}
use Rattle.pk_graph_report.specs.Reported.{IsReport}
use Rattle.pk_status.specs.declared.status.Status.TheVariants.{Ok}
use Rattle.pk_text_graph.specs.Graphs.{HasGraph}
use Rattle.pk_text_report.specs.Answers.{IsReply, certified_options}

-- the lines of the accesses, and the last line
abbrev pub verdict_lines : GraphOf → List Verdict → List ℕ
verdict_lines g verdicts = flat_map (access_line g.paths) (zip (accesses_of g) verdicts) ++ last_line verdicts

-- a report on a graph ends with these lines, and so many of its verdicts are unknown
pub record EndsSo (g : GraphOf) (verdicts : List Verdict) (unknown : ℕ) (number : ℕ) (report : List ℕ) : Type 0 where
  pub count : number ≡ unknown
  pub before : List ℕ
  pub ends : report ≡ before ++ verdict_lines g verdicts

-- A check of the bytes tells verdicts: those of each report on the text with the same options, of every point or of its heads.
pub record IsCheckedAs (text : List ℕ) (o : CertOptions) (bytes : List ℕ) : Type 0 where
  pub graph : GraphOf
  pub has_graph : HasGraph text o.entry graph
  pub verdicts : List Verdict
  pub unknown : ℕ
  pub reply : IsReply Check bytes (Ok unknown) (valid_line graph ++ verdict_lines graph verdicts)
  pub reports : (all : Bool) (number : ℕ) (report : List ℕ) →
      IsReport graph (certified_options o) o.max_runs all number report → EndsSo graph verdicts unknown number report

-- Whatever is written as a certificate is checked so.
abbrev pub CertificatesAreChecked : Type 0
CertificatesAreChecked =
    (text : List ℕ) (o : CertOptions) (bytes : List ℕ) → IsInRange (Cert o) → IsReply (Cert o) text (Ok 0) bytes →
    IsCheckedAs text o bytes
