-- At a success what was written is true: of every run of the C program, and of the points of its graph.
use Rattle.std.specs.Prelude.{ℕ, List, codes, length}
use Rattle.std.specs.declared.option.Option.{Option}
use Rattle.std.specs.Io.KnownBytes.{Appends}
use Rattle.pk_command.specs.declared.asked.Command.{Command}
use Rattle.pk_command.specs.declared.asked.Command.TheVariants.{Run, Order, Gen, Cert, Check}
use Rattle.pk_command.specs.Given.{AsksFor}
use Rattle.pk_cert.specs.Heads.{HeadOf}
use Rattle.pk_cert.specs.Pieces.{BeginsWith}
use Rattle.pk_report_laws.specs.Programs.Told.{Told}
use Rattle.pk_report_laws.specs.Programs.Holding.{AreReport, AreSummary, AreVerdicts, HoldOfText}
use Rattle.pk_report_laws.specs.Programs.Points.{AreHeadsOf, TrueOfText}

-- A report, a summary and the verdicts of a check hold of every run of the program that the text is, or that stands in the certificate. An order tells nothing of runs, and a certificate nothing until it is checked.
abbrev pub HoldFor : Command → (text : List ℕ) → (unknown : ℕ) → (bytes : List ℕ) → Type 0
HoldFor (Run options) text unknown bytes = HoldOfText text options.entry (AreReport options.points unknown bytes)
HoldFor (Order options) text unknown bytes = Unit {0}
HoldFor (Gen options) text unknown bytes =
    HoldOfText text (codes "main") (AreSummary options.seed options.size (length text) unknown bytes)
HoldFor (Cert options) text unknown bytes = Unit {0}
HoldFor Check text unknown bytes =
    (h : HeadOf) × BeginsWith text h × HoldOfText h.text h.entry (AreVerdicts unknown bytes)

-- And they are true of the points of its graph, of which a report tells the heads.
abbrev pub TrueFor : Command → (text : List ℕ) → (unknown : ℕ) → (bytes : List ℕ) → Type 0
TrueFor (Run options) text unknown bytes =
    TrueOfText text options.entry (λ (t : Told). AreReport options.points unknown bytes t × AreHeadsOf t)
TrueFor (Order options) text unknown bytes = Unit {0}
TrueFor (Gen options) text unknown bytes =
    TrueOfText text (codes "main") (AreSummary options.seed options.size (length text) unknown bytes)
TrueFor (Cert options) text unknown bytes = Unit {0}
TrueFor Check text unknown bytes =
    (h : HeadOf) × BeginsWith text h × TrueOfText h.text h.entry (AreVerdicts unknown bytes)

-- The words ask for a command, and exactly these bytes were written, of which this is true.
pub record Writes (IsTrue : Command → (text : List ℕ) → (unknown : ℕ) → (bytes : List ℕ) → Type 0)
    (words : List (List ℕ)) (text : List ℕ) (unknown : ℕ) (before after : Option (List ℕ)) : Type 0 where
  pub command : Command
  pub asked : AsksFor words command
  pub bytes : List ℕ
  pub written : Appends before after bytes
  pub holds : IsTrue command text unknown bytes
