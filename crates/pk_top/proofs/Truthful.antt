-- What is told at a success is true.
use Rattle.std.specs.Prelude.{◌≡◌, ℕ, List, [], Option, OnOk, codes, length}
use Rattle.std.specs.declared.result.Result.{Result}
use Rattle.std.specs.Io.KnownBytes.{Appends}
use Rattle.std.proofs.Common.{arith, ap, refl, subst, sym, lit<, inl, inr, Ok, Err}
use Rattle.pk_command.specs.declared.asked.Command.{Command}
use Rattle.pk_command.specs.declared.asked.Command.TheVariants.{Run, Order, Gen, Cert, Check}
use Rattle.pk_command.specs.Given.{IsInRange}
use Rattle.pk_command.proofs.Asking.{one_asked}
use Rattle.pk_status.specs.declared.status.Status.TheVariants as status
use Rattle.pk_status.specs.declared.status.Status.{Status}
use Rattle.pk_text_report.specs.Answers.{IsAnswer, IsTold, default_options, default_runs, options_of}
use Rattle.pk_report_laws.specs.Programs.Faultless.{ChecksAreFaultless, ProgramsAreFaultless}
use Rattle.pk_report_laws.specs.Programs.Told.{Told}
use Rattle.pk_report_laws.specs.Programs.TrueOfPrograms.{ChecksAreTrueOfPrograms, IsTrueOfProgram, ReportsAreTrueOfPrograms, program_of, told_by}
use Rattle.pk_report_laws.specs.Programs.Holding.{AreReport, AreSummary, AreVerdicts, HoldOfText}
use Rattle.pk_report_laws.specs.Programs.Points.{AreHeadsOf, TrueOfText}
use Rattle.pk_front.specs.Programs.{AcceptedArePrograms}
use Rattle.pk_graph.specs.Accesses.{accesses_of}
use Rattle.pk_graph.specs.Graphs.{GraphOf}
use Rattle.pk_text_graph.specs.Graphs.{HasGraph}
use Rattle.pk_state.specs.Facts.{Stated}
use Rattle.pk_order.specs.Ordered.{heads_of}
use Rattle.pk_transfer.specs.Graphs.{layout_of}
use Rattle.pk_cert_report.specs.Checked.{reduced_states}
use Rattle.pk_top.specs.Headline.{IsStop}
use Rattle.pk_top.specs.Holding.{HoldFor, TrueFor, Writes}
use Rattle.pk_top.specs.Truth.{AskFaultless, AskInRange, IsFaultlessFor, IsTrueTold, TellsTruth}

-- no stop is a success
pub no_success : (s : Status) (unknown : ℕ) → IsStop s → s ≡ status.Ok unknown → ⊥
no_success s unknown stop is = subst IsStop is stop

pub told_if_ok : {A E X : Type 0} (r : Result A E) → X → OnOk r X
told_if_ok (Ok x) h = h
told_if_ok (Err e) h = tt

-- what is told of a text by a command in range
true_told : ReportsAreTrueOfPrograms → ChecksAreTrueOfPrograms → (text : List ℕ) (c : Command) (unknown : ℕ) (bytes : List ℕ) → IsInRange c → (told : IsTold text c unknown bytes) → IsTrueTold text c unknown bytes told
true_told law checks text (Run o) unknown bytes range told =
    law text o.entry told.graph told.has_graph (options_of o) o.max_runs told.report.plan (heads_of told.report.plan) told.report.states (omega (arith, range.4)) told.report.are_states
true_told law checks text (Order o) unknown bytes range told = tt
true_told law checks text (Gen o) unknown bytes range told =
    law text (codes "main") told.graph told.has_graph default_options default_runs told.summary.plan [] told.summary.states (lit< tt) told.summary.are_states
true_told law checks text (Cert o) unknown bytes range told = tt
true_told law checks text Check unknown bytes range told = checks text unknown bytes told

told_truly : ReportsAreTrueOfPrograms → ChecksAreTrueOfPrograms → (words : List (List ℕ)) (text : List ℕ) (unknown : ℕ) (bytes : List ℕ) (before after : Option (List ℕ)) → AskInRange words → IsAnswer words text (status.Ok unknown) bytes
    → Appends before after bytes → TellsTruth words text unknown before after
told_truly law checks words text unknown bytes before after range (inl usage) written = absurd (let is = usage.status_is in cc)
told_truly law checks words text unknown bytes before after range (inr x) written =
    let command : range.0 ≡ x.command = one_asked words range.0 x.command range.1 x.asked in
    record {
      command = x.command;
      asked = x.asked;
      bytes = bytes;
      told = x.reply.1;
      written = written;
      holds = true_told law checks text x.command unknown bytes (subst IsInRange command range.2) x.reply.1;
    }

-- what is told of a text without an unknown verdict
faultless_for : ProgramsAreFaultless → ChecksAreFaultless → (text : List ℕ) (c : Command) (bytes : List ℕ) → IsInRange c → IsTold text c 0 bytes → IsFaultlessFor c text
faultless_for law checks text (Run o) bytes range told =
    law text o.entry told.graph told.has_graph (options_of o) o.max_runs told.report.plan told.report.states (omega (arith, range.4)) told.report.are_states (sym told.report.counted)
faultless_for law checks text (Order o) bytes range told = tt
faultless_for law checks text (Gen o) bytes range told =
    law text (codes "main") told.graph told.has_graph default_options default_runs told.summary.plan told.summary.states (lit< tt) told.summary.are_states (sym told.summary.counted)
faultless_for law checks text (Cert o) bytes range told = tt
faultless_for law checks text Check bytes range told = (told.head, told.of_graph.begins, checks text bytes told)

same_count : (m n : ℕ) → status.Ok m ≡ status.Ok n → m ≡ n
same_count m n is = cc

-- what was written at a success
pub truthful : ReportsAreTrueOfPrograms → ChecksAreTrueOfPrograms → (words : List (List ℕ)) (text : List ℕ) (m unknown : ℕ) (bytes sent : List ℕ) (before after : Option (List ℕ)) → status.Ok m ≡ status.Ok unknown → AskInRange words
    → IsAnswer words text (status.Ok m) bytes → sent ≡ bytes → Appends before after sent → TellsTruth words text unknown before after
truthful law checks words text m unknown bytes sent before after is range answer same written =
    subst (λ n. TellsTruth words text n before after) (same_count m unknown is)
    (told_truly law checks words text m bytes before after range answer (subst (Appends before after) same written))

-- at a success without an unknown verdict
pub no_fault : ProgramsAreFaultless → ChecksAreFaultless → (words : List (List ℕ)) (text : List ℕ) (m : ℕ) (bytes : List ℕ) → status.Ok m ≡ status.Ok 0 → AskInRange words → IsAnswer words text (status.Ok m) bytes → AskFaultless words text
no_fault law checks words text m bytes is range (inl usage) command asked = absurd (let same = usage.status_is in cc)
no_fault law checks words text m bytes is range (inr x) command asked =
    let told : IsTold text x.command 0 bytes = subst (λ n. IsTold text x.command n bytes) (same_count m 0 is) x.reply.1 in
    let mine = faultless_for law checks text x.command bytes (subst IsInRange (one_asked words range.0 x.command range.1 x.asked) range.2) told in
    subst (λ c. IsFaultlessFor c text) (one_asked words x.command command x.asked asked) mine

-- ---- without the iteration

-- what is told of a program's graph holds of the program, and is true of the graph
module _ (law : AcceptedArePrograms) (text entry : List ℕ) (g : GraphOf) (h : HasGraph text entry g) (heads : List ℕ) (states : List Stated) (AreBytes : Told → Type 0) where
  of_program : AreBytes (told_by (program_of h) g heads states) → IsTrueOfProgram (program_of h) (told_by (program_of h) g heads states) → HoldOfText text entry AreBytes
  of_program bytes t = record {
    unit = h.unit;
    paths = h.paths;
    program = law text entry h.unit h.paths h.called;
    told = told_by (program_of h) g heads states;
    bytes = bytes;
    holds = t.holds;
  }

  of_graph : AreBytes (told_by (program_of h) g heads states) → IsTrueOfProgram (program_of h) (told_by (program_of h) g heads states) → TrueOfText text entry AreBytes
  of_graph bytes t = record {
    unit = h.unit;
    paths = h.paths;
    program = law text entry h.unit h.paths h.called;
    told = told_by (program_of h) g heads states;
    bytes = bytes;
    graph = h.graph;
    accesses = ap accesses_of h.graph;
    turns = refl;
    holds = t;
  }

hold_for : AcceptedArePrograms → (text : List ℕ) (c : Command) (unknown : ℕ) (bytes : List ℕ) (told : IsTold text c unknown bytes) → IsTrueTold text c unknown bytes told → HoldFor c text unknown bytes
hold_for law text (Run o) unknown bytes told t =
    of_program law text o.entry told.graph told.has_graph (heads_of told.report.plan) told.report.states (AreReport o.points unknown bytes)
    (record { elements = told.report.plan.elements; counted = told.report.counted; text = told.report.told }) t
hold_for law text (Order o) unknown bytes told t = tt
hold_for law text (Gen o) unknown bytes told t =
    of_program law text (codes "main") told.graph told.has_graph [] told.summary.states (AreSummary o.seed o.size (length text) unknown bytes)
    (record { elements = told.summary.plan.elements; counted = told.summary.counted; text = told.summary.told }) t
hold_for law text (Cert o) unknown bytes told t = tt
hold_for law text Check unknown bytes told t = (
  told.head,
  told.of_graph.begins,
  of_program law told.head.text told.head.entry told.graph told.of_graph.has_graph [] (reduced_states (layout_of told.graph told.head.oct) told.cells) (AreVerdicts unknown bytes)
      (record { counted = told.counted; text = told.told_is }) t,
)

true_for : AcceptedArePrograms → (text : List ℕ) (c : Command) (unknown : ℕ) (bytes : List ℕ) (told : IsTold text c unknown bytes) → IsTrueTold text c unknown bytes told → TrueFor c text unknown bytes
true_for law text (Run o) unknown bytes told t =
    of_graph law text o.entry told.graph told.has_graph (heads_of told.report.plan) told.report.states (λ (x : Told). AreReport o.points unknown bytes x × AreHeadsOf x) (
      record { elements = told.report.plan.elements; counted = told.report.counted; text = told.report.told },
      record { plan = told.report.plan; order = told.report.are_states.order; ordered = told.report.are_states.system.ordered; heads = refl },
    ) t
true_for law text (Order o) unknown bytes told t = tt
true_for law text (Gen o) unknown bytes told t =
    of_graph law text (codes "main") told.graph told.has_graph [] told.summary.states (AreSummary o.seed o.size (length text) unknown bytes)
    (record { elements = told.summary.plan.elements; counted = told.summary.counted; text = told.summary.told }) t
true_for law text (Cert o) unknown bytes told t = tt
true_for law text Check unknown bytes told t = (
  told.head,
  told.of_graph.begins,
  of_graph law told.head.text told.head.entry told.graph told.of_graph.has_graph [] (reduced_states (layout_of told.graph told.head.oct) told.cells) (AreVerdicts unknown bytes)
      (record { counted = told.counted; text = told.told_is }) t,
)

pub holding : AcceptedArePrograms → (words : List (List ℕ)) (text : List ℕ) (unknown : ℕ) (before after : Option (List ℕ)) → TellsTruth words text unknown before after → Writes HoldFor words text unknown before after
holding law words text unknown before after x =
    record { command = x.command; asked = x.asked; bytes = x.bytes; written = x.written; holds = hold_for law text x.command unknown x.bytes x.told x.holds }

pub pointing : AcceptedArePrograms → (words : List (List ℕ)) (text : List ℕ) (unknown : ℕ) (before after : Option (List ℕ)) → TellsTruth words text unknown before after → Writes TrueFor words text unknown before after
pointing law words text unknown before after x =
    record { command = x.command; asked = x.asked; bytes = x.bytes; written = x.written; holds = true_for law text x.command unknown x.bytes x.told x.holds }
