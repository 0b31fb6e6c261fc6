-- What is answered to the words and a text.
use Rattle.std.specs.Prelude.{◌≡◌, ◌⊎◌, ℕ, ◌<◌, ◌≤◌, ◌++◌, List, [], codes, length, false, Option, Some}
use Rattle.pk_ctypes.specs.declared.words.Quantity.TheVariants.{Text}
use Rattle.pk_command.specs.declared.asked.RunOptions.{RunOptions}
use Rattle.pk_command.specs.declared.asked.OrderOptions.{OrderOptions}
use Rattle.pk_command.specs.declared.asked.GenOptions.{GenOptions}
use Rattle.pk_command.specs.declared.asked.CertOptions.{CertOptions}
use Rattle.pk_command.specs.declared.asked.Command.{Command}
use Rattle.pk_command.specs.declared.asked.Command.TheVariants.{Run, Order, Gen, Cert, Check}
use Rattle.pk_command.specs.CommandLine.{is_taken}
use Rattle.pk_command.specs.Given.{AsksFor}
use Rattle.pk_graph.specs.Graphs.{GraphOf}
use Rattle.pk_analysis.specs.declared.analysis.Options.{Options}
use Rattle.pk_graph_report.specs.Reported.{IsReport, IsSummary, IsOrderText}
use Rattle.pk_text_graph.specs.Graphs.{HasGraph}
use Rattle.pk_gen.specs.Generator.{generated}
use Rattle.pk_cert_cells.specs.Cells.{most_bytes}
use Rattle.pk_cert_report.specs.Causes.{IsUngraphed, IsUnanalysed}
use Rattle.pk_cert_report.specs.Written.{IsCertified, IsUncertified}
use Rattle.pk_cert_report.specs.Checked.{IsValid, IsInvalid}
use Rattle.pk_status.specs.declared.status.Status.{Status}
use Rattle.pk_status.specs.declared.status.Status.TheVariants.{Ok, Usage, Limit, CertLimit, ReadFault, WriteFault, Memory}

-- the greatest number of bytes of a text
abbrev pub text_limit : ℕ
text_limit = 4194304

-- ---- commands

-- how a graph is analysed where the words don't say otherwise
abbrev pub default_options : Options
default_options = record { delay = 0; narrow = 2; oct = 16; packs = false }

abbrev pub default_runs : ℕ
default_runs = 1000000

abbrev pub options_of : RunOptions → Options
options_of o = record { delay = o.delay; narrow = o.narrow; oct = o.oct; packs = o.packs }

abbrev pub certified_options : CertOptions → Options
certified_options o = record { delay = o.delay; narrow = o.narrow; oct = o.oct; packs = false }

-- what a command is about: a made text, or what the source tells, of which a check asks that it is a certificate
abbrev pub text_of : Command → Option (List ℕ) → Option (List ℕ)
text_of (Run options) left = left
text_of (Order options) left = left
text_of (Gen options) left = Some (generated options.seed options.size)
text_of (Cert options) left = left
text_of Check left = left

-- the words ask about this text; words that aren't taken about none
abbrev pub AskAbout : List (List ℕ) → Option (List ℕ) → List ℕ → Type 0
AskAbout words left text =
    ((is_taken words ≡ false) × (text ≡ []))
    ⊎ ((command : Command) × AsksFor words command × (text_of command left ≡ Some text))

-- a command that makes its own text
abbrev pub IsMaking : Command → Type 0
IsMaking (Run options) = ⊥
IsMaking (Order options) = ⊥
IsMaking (Gen options) = Unit {0}
IsMaking (Cert options) = ⊥
IsMaking Check = ⊥

-- the words aren't taken, or ask for such a command
abbrev pub AskNoSource : List (List ℕ) → Type 0
AskNoSource words = (is_taken words ≡ false) ⊎ ((command : Command) × AsksFor words command × IsMaking command)

-- the report on the text's graph
pub record IsRun (text : List ℕ) (options : RunOptions) (unknown : ℕ) (bytes : List ℕ) : Type 0 where
  pub graph : GraphOf
  pub has_graph : HasGraph text options.entry graph
  pub report : IsReport graph (options_of options) options.max_runs options.points unknown bytes

-- the linear order of the text's graph, and its peak where it is asked for, each as a line
pub record IsOrder (text : List ℕ) (options : OrderOptions) (unknown : ℕ) (bytes : List ℕ) : Type 0 where
  pub graph : GraphOf
  pub has_graph : HasGraph text options.entry graph
  pub lines : List ℕ
  pub order : IsOrderText graph options.peak lines
  pub told : bytes ≡ lines ++ codes "\n"
  pub none_unknown : unknown ≡ 0

-- the summary of a made text
pub record IsMade (text : List ℕ) (options : GenOptions) (unknown : ℕ) (bytes : List ℕ) : Type 0 where
  pub graph : GraphOf
  pub has_graph : HasGraph text (codes "main") graph
  pub summary : IsSummary graph default_options default_runs options.seed options.size (length text) unknown bytes

-- what is told of a text, and how many verdicts are unknown
abbrev pub IsTold : (text : List ℕ) → Command → (unknown : ℕ) → List ℕ → Type 0
IsTold text (Run options) unknown bytes = IsRun text options unknown bytes
IsTold text (Order options) unknown bytes = IsOrder text options unknown bytes
IsTold text (Gen options) unknown bytes = IsMade text options unknown bytes
IsTold text (Cert options) unknown bytes =
    IsCertified text options.entry (certified_options options) options.max_runs bytes × (unknown ≡ 0)
IsTold text Check unknown bytes = IsValid text unknown bytes

-- what a source tells may be too long; a made text isn't asked
abbrev pub IsShort : List ℕ → Command → Type 0
IsShort text (Run options) = length text ≤ text_limit
IsShort text (Order options) = length text ≤ text_limit
IsShort text (Gen options) = Unit {0}
IsShort text (Cert options) = length text ≤ text_limit
IsShort text Check = length text ≤ most_bytes

abbrev pub IsLong : List ℕ → Command → Type 0
IsLong text (Run options) = text_limit < length text
IsLong text (Order options) = text_limit < length text
IsLong text (Gen options) = ⊥
IsLong text (Cert options) = text_limit < length text
IsLong text Check = most_bytes < length text

-- and is then told so
abbrev pub limit_of : Command → Status
limit_of (Run options) = Limit Text text_limit
limit_of (Order options) = Limit Text text_limit
limit_of (Gen options) = Limit Text text_limit
limit_of (Cert options) = Limit Text text_limit
limit_of Check = CertLimit

-- ---- without anything told

-- a command about a text ends so, or for want of memory
abbrev pub IsStopped : List ℕ → Command → Status → Type 0
IsStopped text (Run options) s = IsUnanalysed text options.entry (options_of options) options.max_runs s
IsStopped text (Order options) s = IsUngraphed text options.entry s
IsStopped text (Gen options) s = IsUnanalysed text (codes "main") default_options default_runs s
IsStopped text (Cert options) s = IsUncertified text options.entry (certified_options options) options.max_runs s
IsStopped text Check s = IsInvalid text s

-- the text is too long, or it isn't and the command about it ends so
abbrev pub IsEnded : Command → List ℕ → Status → Type 0
IsEnded command text s =
    (IsLong text command × (s ≡ limit_of command)) ⊎ (IsShort text command × IsStopped text command s)

-- ---- the answer

-- The reply to a command about a text, status by status. Nothing is told but a report, an order, a summary, a certificate or the verdicts of one.
abbrev pub IsReply : Command → List ℕ → Status → List ℕ → Type 0
IsReply command text (Ok unknown) bytes = IsShort text command × IsTold text command unknown bytes
IsReply command text Usage bytes = ⊥
IsReply command text ReadFault bytes = ⊥
IsReply command text (WriteFault sent) bytes = ⊥
IsReply command text Memory bytes = ⊥
IsReply command text status bytes = IsEnded command text status × (bytes ≡ [])

-- words that aren't taken
pub record IsUsage (words : List (List ℕ)) (status : Status) (bytes : List ℕ) : Type 0 where
  pub refused : is_taken words ≡ false
  pub status_is : status ≡ Usage
  pub nothing : bytes ≡ []

-- the reply to the command that the words ask for
pub record Replies (words : List (List ℕ)) (text : List ℕ) (status : Status) (bytes : List ℕ) : Type 0 where
  pub command : Command
  pub asked : AsksFor words command
  pub reply : IsReply command text status bytes

-- the answer to the words and the text that they ask about
abbrev pub IsAnswer : List (List ℕ) → List ℕ → Status → List ℕ → Type 0
IsAnswer words text status bytes = IsUsage words status bytes ⊎ Replies words text status bytes

-- ---- laws

-- there is at most one answer
abbrev pub OneAnswer : Type 0
OneAnswer = (words : List (List ℕ)) (text : List ℕ) (s t : Status) (a b : List ℕ) →
    IsAnswer words text s a → IsAnswer words text t b → (s ≡ t) × (a ≡ b)

-- two runs asked for, alike but for the means: how many workers there are, and what is let go of
pub record DifferInMeans (a b : RunOptions) : Type 0 where
  pub delay : a.delay ≡ b.delay
  pub narrow : a.narrow ≡ b.narrow
  pub oct : a.oct ≡ b.oct
  pub packs : a.packs ≡ b.packs
  pub max_runs : a.max_runs ≡ b.max_runs
  pub entry : a.entry ≡ b.entry
  pub points : a.points ≡ b.points

-- words that differ in the means alone have the same answers
abbrev pub MeansTellNothing : Type 0
MeansTellNothing = (words other : List (List ℕ)) (text : List ℕ) (o p : RunOptions) (s : Status) (bytes : List ℕ) →
    AsksFor words (Run o) → AsksFor other (Run p) → DifferInMeans o p → IsAnswer words text s bytes →
    IsAnswer other text s bytes
