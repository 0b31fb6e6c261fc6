-- At a success what is told is true of every run of the C program.
use Rattle.std.specs.Prelude.{ℕ, List, [], codes}
use Rattle.std.specs.declared.option.Option.{Option}
use Rattle.std.specs.Io.KnownBytes.{Appends}
use Rattle.pk_command.specs.declared.asked.Command.{Command}
use Rattle.pk_command.specs.declared.asked.Command.TheVariants.{Run, Order, Gen, Cert, Check}
use Rattle.pk_command.specs.Given.{AsksFor, IsInRange}
use Rattle.pk_order.specs.Ordered.{heads_of}
use Rattle.pk_transfer.specs.Graphs.{layout_of}
use Rattle.pk_cert.specs.Heads.{HeadOf}
use Rattle.pk_cert.specs.Pieces.{BeginsWith}
use Rattle.pk_cert_report.specs.Checked.{reduced_states}
use Rattle.pk_text_report.specs.Answers.{IsTold}
use Rattle.pk_report_laws.specs.Programs.Faultless.{IsFaultless}
use Rattle.pk_report_laws.specs.Programs.TrueOfPrograms.{told_by, IsTrueOfProgram, program_of}

-- the words ask for a command, whose numbers lie in their ranges
abbrev pub AskInRange : List (List ℕ) → Type 0
AskInRange words = (command : Command) × AsksFor words command × IsInRange command

-- A report and a summary are true of every run of the C program that the text is; an order tells nothing of runs, and a certificate nothing until it is checked.
-- What a check tells is true of every run of the program that the text in the certificate is, whoever wrote its bytes: the cells that they have for the points, reduced, are.
abbrev pub IsTrueTold : (text : List ℕ) (command : Command) (unknown : ℕ) (bytes : List ℕ) →
    IsTold text command unknown bytes → Type 0
IsTrueTold text (Run options) unknown bytes told =
    IsTrueOfProgram (program_of told.has_graph)
    (told_by (program_of told.has_graph) told.graph (heads_of told.report.plan) told.report.states)
IsTrueTold text (Order options) unknown bytes told = Unit {0}
IsTrueTold text (Gen options) unknown bytes told =
    IsTrueOfProgram (program_of told.has_graph)
    (told_by (program_of told.has_graph) told.graph [] told.summary.states)
IsTrueTold text (Cert options) unknown bytes told = Unit {0}
IsTrueTold text Check unknown bytes told =
    IsTrueOfProgram (program_of told.of_graph.has_graph)
    (told_by (program_of told.of_graph.has_graph) told.graph []
    (reduced_states (layout_of told.graph told.head.oct) told.cells))

-- The text that a command analyses, or that stands in the certificate that it checks, is a program of which no run fails. An order tells no verdicts, and a certificate none until it is checked.
abbrev pub IsFaultlessFor : Command → (text : List ℕ) → Type 0
IsFaultlessFor (Run options) text = IsFaultless text options.entry
IsFaultlessFor (Order options) text = Unit {0}
IsFaultlessFor (Gen options) text = IsFaultless text (codes "main")
IsFaultlessFor (Cert options) text = Unit {0}
IsFaultlessFor Check text = (h : HeadOf) × BeginsWith text h × IsFaultless h.text h.entry

-- the same of the command that the words ask for
abbrev pub AskFaultless : List (List ℕ) → (text : List ℕ) → Type 0
AskFaultless words text = (command : Command) → AsksFor words command → IsFaultlessFor command text

-- The words ask for a command, exactly the bytes of what it tells of the text were written, and that is true.
pub record TellsTruth (words : List (List ℕ)) (text : List ℕ) (unknown : ℕ)
    (before after : Option (List ℕ)) : Type 0 where
  pub command : Command
  pub asked : AsksFor words command
  pub bytes : List ℕ
  pub told : IsTold text command unknown bytes
  pub written : Appends before after bytes
  pub holds : IsTrueTold text command unknown bytes told
