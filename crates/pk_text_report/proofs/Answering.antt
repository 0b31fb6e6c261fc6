-- Words and a text have at most one answer, and the number of workers tells nothing.
use Rattle.std.specs.Prelude.{◌≡◌, ◌≢◌, ◌⊎◌, ℕ, ◌++◌, List, [], codes, length, false}
use Rattle.std.proofs.Common.{sym, ap, subst, ◌∙◌, inl, inr, refl, arith}
use Rattle.pk_command.specs.declared.asked.RunOptions.{RunOptions}
use Rattle.pk_command.specs.declared.asked.Command.{Command}
use Rattle.pk_command.specs.declared.asked.Command.TheVariants.{Run, Order, Gen, Cert, Check}
use Rattle.pk_command.specs.CommandLine.{is_taken}
use Rattle.pk_command.specs.Given.{AsksFor}
use Rattle.pk_command.specs.Laws.{OneCommand}
use Rattle.pk_command.proofs.Asking.{asked_taken}
use Rattle.pk_graph.specs.Graphs.{GraphOf}
use Rattle.pk_state.specs.Facts.{Stated}
use Rattle.pk_plan.specs.Plans.{PlanView}
use Rattle.pk_analysis.specs.declared.analysis.Options.{Options}
use Rattle.pk_analysis_laws.specs.Systems.{HasManyPacks, IsOver}
use Rattle.pk_solver.specs.Solved.{AreStates}
use Rattle.pk_graph_report.specs.Reported.{IsReport, IsSummary, IsOrderText, OneReport}
use Rattle.pk_text_graph.specs.Graphs.{GraphIsDetermined, HasGraph}
use Rattle.pk_status.specs.declared.status.Status.{Status}
use Rattle.pk_status.specs.declared.status.Status.TheVariants as status
use Rattle.pk_cert_report.specs.Causes.{IsUnanalysed, OneCause}
use Rattle.pk_cert_report.specs.Laws.{OneCertificate, OneAnswerOfChecks}
use Rattle.pk_text_report.specs.Answers.{IsReply, IsTold, IsShort, IsLong, IsStopped, IsEnded, options_of, certified_options, default_options, default_runs, OneAnswer, DifferInMeans, MeansTellNothing}

pub not_taken : (words : List (List ℕ)) (command : Command) → AsksFor words command → is_taken words ≡ false → ⊥
not_taken words command asks refused = let taken = asked_taken words command asks in cc

-- what the answer stands on
pub record Laws : Type 0 where
  pub graphs : GraphIsDetermined
  pub reports : OneReport
  pub causes : OneCause
  pub certificates : OneCertificate
  pub checks : OneAnswerOfChecks

-- ---- replies to one command

short_or_long : (text : List ℕ) (c : Command) → IsShort text c → IsLong text c → ⊥
short_or_long text (Run options) short long = absurd (omega (arith, short, long))
short_or_long text (Order options) short long = absurd (omega (arith, short, long))
short_or_long text (Gen options) short long = long
short_or_long text (Cert options) short long = absurd (omega (arith, short, long))
short_or_long text Check short long = absurd (omega (arith, short, long))

module _ (laws : Laws) where
  -- a report or a summary, and why there is none
  report_or_cause : (text entry : List ℕ) (o : Options) (most : ℕ) (s : Status) (g : GraphOf) → s ≢ status.Memory → HasGraph text entry g → (p : PlanView) (states : List Stated) → AreStates g o most p states
      → IsUnanalysed text entry o most s → ⊥
  report_or_cause text entry o most s g other has p states are (inl x) = laws.causes.graph text entry g s other has x
  report_or_cause text entry o most s g other has p states are (inr (inl x)) =
      laws.reports.few_packs g o most p states are (subst (λ (h : GraphOf). HasManyPacks h o) (laws.graphs.graph text entry x.0.graph g x.0.has_graph has) x.0.many)
  report_or_cause text entry o most s g other has p states are (inr (inr x)) =
      laws.reports.within g o most p states are (subst (λ (h : GraphOf). IsOver h o most) (laws.graphs.graph text entry x.0.graph g x.0.has_graph has) x.0.over)

  one_told : (text : List ℕ) (c : Command) (m n : ℕ) (a b : List ℕ) → IsTold text c m a → IsTold text c n b → (m ≡ n) × (a ≡ b)
  one_told text (Run o) m n a b x y =
      let same = laws.graphs.graph text o.entry x.graph y.graph x.has_graph y.has_graph in
      laws.reports.reports y.graph (options_of o) o.max_runs o.points m n a b (subst (λ (g : GraphOf). IsReport g (options_of o) o.max_runs o.points m a) same x.report) y.report
  one_told text (Order o) m n a b x y =
      let same = laws.graphs.graph text o.entry x.graph y.graph x.has_graph y.has_graph in
      let lines : x.lines ≡ y.lines = laws.reports.orders y.graph o.peak x.lines y.lines (subst (λ (g : GraphOf). IsOrderText g o.peak x.lines) same x.order) y.order in
      (x.none_unknown ∙ sym y.none_unknown, x.told ∙ ap (λ (l : List ℕ). l ++ codes "\n") lines ∙ sym y.told)
  one_told text (Gen o) m n a b x y =
      let same = laws.graphs.graph text (codes "main") x.graph y.graph x.has_graph y.has_graph in
      laws.reports.summaries y.graph default_options default_runs o.seed o.size (length text) m n a b
      (subst (λ (g : GraphOf). IsSummary g default_options default_runs o.seed o.size (length text) m a) same x.summary) y.summary
  one_told text (Cert o) m n a b x y = (x.1 ∙ sym y.1, laws.certificates.certificates text o.entry (certified_options o) o.max_runs a b x.0 y.0)
  one_told text Check m n a b x y = laws.checks.told text m n a b x y

  told_or_stopped : (text : List ℕ) (c : Command) (m : ℕ) (a : List ℕ) (s : Status) → s ≢ status.Memory → IsTold text c m a → IsStopped text c s → ⊥
  told_or_stopped text (Run o) m a s other x y =
      report_or_cause text o.entry (options_of o) o.max_runs s x.graph other x.has_graph x.report.plan x.report.states x.report.are_states y
  told_or_stopped text (Order o) m a s other x y = laws.causes.graph text o.entry x.graph s other x.has_graph y
  told_or_stopped text (Gen o) m a s other x y =
      report_or_cause text (codes "main") default_options default_runs s x.graph other x.has_graph x.summary.plan x.summary.states x.summary.are_states y
  told_or_stopped text (Cert o) m a s other x y = laws.certificates.apart text o.entry (certified_options o) o.max_runs a s other x.0 y
  told_or_stopped text Check m a s other x y = laws.checks.apart text m a s other x y

  one_stop : (text : List ℕ) (c : Command) (s t : Status) → s ≢ status.Memory → t ≢ status.Memory → IsStopped text c s → IsStopped text c t → s ≡ t
  one_stop text (Run o) s t hs ht x y = laws.causes.unanalysed text o.entry (options_of o) o.max_runs s t hs ht x y
  one_stop text (Order o) s t hs ht x y = laws.causes.ungraphed text o.entry s t hs ht x y
  one_stop text (Gen o) s t hs ht x y = laws.causes.unanalysed text (codes "main") default_options default_runs s t hs ht x y
  one_stop text (Cert o) s t hs ht x y = laws.certificates.causes text o.entry (certified_options o) o.max_runs s t hs ht x y
  one_stop text Check s t hs ht x y = laws.checks.causes text s t hs ht x y

  one_end : (c : Command) (text : List ℕ) (s t : Status) → s ≢ status.Memory → t ≢ status.Memory → IsEnded c text s → IsEnded c text t → s ≡ t
  one_end c text s t hs ht (inl x) (inl y) = x.1 ∙ sym y.1
  one_end c text s t hs ht (inl x) (inr y) = absurd (short_or_long text c y.0 x.0)
  one_end c text s t hs ht (inr x) (inl y) = absurd (short_or_long text c x.0 y.0)
  one_end c text s t hs ht (inr x) (inr y) = one_stop text c s t hs ht x.1 y.1

  told_or_ended : (c : Command) (text : List ℕ) (m : ℕ) (a : List ℕ) (s : Status) → s ≢ status.Memory → IsShort text c → IsTold text c m a → IsEnded c text s → ⊥
  told_or_ended c text m a s other short told (inl y) = short_or_long text c short y.0
  told_or_ended c text m a s other short told (inr y) = told_or_stopped text c m a s other told y.1

-- a success, or an end without anything told
record IsSuccess (c : Command) (text : List ℕ) (s : Status) (bytes : List ℕ) : Type 0 where
  unknown : ℕ
  is : s ≡ status.Ok unknown
  short : IsShort text c
  told : IsTold text c unknown bytes

record IsEnd (c : Command) (text : List ℕ) (s : Status) (bytes : List ℕ) : Type 0 where
  known : s ≢ status.Memory
  ended : IsEnded c text s
  nothing : bytes ≡ []

ended_so : (c : Command) (text : List ℕ) (s : Status) (bytes : List ℕ) → s ≢ status.Memory → IsEnded c text s × (bytes ≡ []) → IsSuccess c text s bytes ⊎ IsEnd c text s bytes
ended_so c text s bytes known x = inr (record { known = known; ended = x.0; nothing = x.1 })

either : (c : Command) (text : List ℕ) (s : Status) (bytes : List ℕ) → IsReply c text s bytes → IsSuccess c text s bytes ⊎ IsEnd c text s bytes
either c text (status.Ok unknown) bytes x = inl (record { unknown = unknown; is = refl; short = x.0; told = x.1 })
either c text (status.Refused refusal) bytes x = ended_so c text (status.Refused refusal) bytes (λ e. absurd (cc)) x
either c text (status.Limit what number) bytes x = ended_so c text (status.Limit what number) bytes (λ e. absurd (cc)) x
either c text (status.RunLimit max_runs) bytes x = ended_so c text (status.RunLimit max_runs) bytes (λ e. absurd (cc)) x
either c text status.CertLimit bytes x = ended_so c text status.CertLimit bytes (λ e. absurd (cc)) x
either c text (status.CertByte offset) bytes x = ended_so c text (status.CertByte offset) bytes (λ e. absurd (cc)) x
either c text (status.CertState point) bytes x = ended_so c text (status.CertState point) bytes (λ e. absurd (cc)) x
either c text (status.CertFails point) bytes x = ended_so c text (status.CertFails point) bytes (λ e. absurd (cc)) x
either c text status.Usage bytes x = absurd x
either c text status.ReadFault bytes x = absurd x
either c text (status.WriteFault sent) bytes x = absurd x
either c text status.Memory bytes x = absurd x

module _ (laws : Laws) (c : Command) (text : List ℕ) where
  both_ways : (s t : Status) (a b : List ℕ) → IsSuccess c text s a ⊎ IsEnd c text s a → IsSuccess c text t b ⊎ IsEnd c text t b → (s ≡ t) × (a ≡ b)
  both_ways s t a b (inl x) (inl y) =
      let same = one_told laws text c x.unknown y.unknown a b x.told y.told in (x.is ∙ ap status.Ok same.0 ∙ sym y.is, same.1)
  both_ways s t a b (inl x) (inr y) = absurd (told_or_ended laws c text x.unknown a t y.known x.short x.told y.ended)
  both_ways s t a b (inr x) (inl y) = absurd (told_or_ended laws c text y.unknown b s x.known y.short y.told x.ended)
  both_ways s t a b (inr x) (inr y) = (one_end laws c text s t x.known y.known x.ended y.ended, x.nothing ∙ sym y.nothing)

  one_reply : (s t : Status) (a b : List ℕ) → IsReply c text s a → IsReply c text t b → (s ≡ t) × (a ≡ b)
  one_reply s t a b x y = both_ways s t a b (either c text s a x) (either c text t b y)

pub one_answer : OneCommand → Laws → OneAnswer
one_answer one laws words text s t a b (inl x) (inl y) = (x.status_is ∙ sym y.status_is, x.nothing ∙ sym y.nothing)
one_answer one laws words text s t a b (inl x) (inr y) = absurd (not_taken words y.command y.asked x.refused)
one_answer one laws words text s t a b (inr x) (inl y) = absurd (not_taken words x.command x.asked y.refused)
one_answer one laws words text s t a b (inr x) (inr y) =
    one_reply laws y.command text s t a b (subst (λ (c : Command). IsReply c text s a) (one words x.command y.command x.asked y.asked) x.reply) y.reply

-- ---- means

module _ (o p : RunOptions) (d : DifferInMeans o p) where
  same_options : options_of o ≡ options_of p
  same_options =
      ap (λ (n : ℕ). let r : Options = record { delay = n; narrow = o.narrow; oct = o.oct; packs = o.packs } in r) d.delay
      ∙ ap (λ (n : ℕ). let r : Options = record { delay = p.delay; narrow = n; oct = o.oct; packs = o.packs } in r) d.narrow
      ∙ ap (λ (n : ℕ). let r : Options = record { delay = p.delay; narrow = p.narrow; oct = n; packs = o.packs } in r) d.oct
      ∙ ap (λ b. let r : Options = record { delay = p.delay; narrow = p.narrow; oct = p.oct; packs = b } in r) d.packs

  other_report : (g : GraphOf) (u : ℕ) (a : List ℕ) → IsReport g (options_of o) o.max_runs o.points u a → IsReport g (options_of p) p.max_runs p.points u a
  other_report g u a h =
      subst (λ b. IsReport g (options_of p) p.max_runs b u a) d.points
      (subst (λ (n : ℕ). IsReport g (options_of p) n o.points u a) d.max_runs
      (subst (λ (k : Options). IsReport g k o.max_runs o.points u a) same_options h))

  other_stop : (text : List ℕ) (s : Status) → IsStopped text (Run o) s → IsStopped text (Run p) s
  other_stop text s x =
      subst (λ (e : List ℕ). IsUnanalysed text e (options_of p) p.max_runs s) d.entry
      (subst (λ (n : ℕ). IsUnanalysed text o.entry (options_of p) n s) d.max_runs
      (subst (λ (k : Options). IsUnanalysed text o.entry k o.max_runs s) same_options x))

  other_end : (text : List ℕ) (s : Status) → IsEnded (Run o) text s → IsEnded (Run p) text s
  other_end text s (inl x) = inl x
  other_end text s (inr x) = inr (x.0, other_stop text s x.1)

  other_reply : (text : List ℕ) (s : Status) (a : List ℕ) → IsReply (Run o) text s a → IsReply (Run p) text s a
  other_reply text (status.Ok u) a x = (
    x.0,
    record {
      graph = x.1.graph;
      has_graph = subst (λ (e : List ℕ). HasGraph text e x.1.graph) d.entry x.1.has_graph;
      report = other_report x.1.graph u a x.1.report;
    },
  )
  other_reply text (status.Refused r) a x = (other_end text (status.Refused r) x.0, x.1)
  other_reply text (status.Limit w n) a x = (other_end text (status.Limit w n) x.0, x.1)
  other_reply text (status.RunLimit m) a x = (other_end text (status.RunLimit m) x.0, x.1)
  other_reply text status.CertLimit a x = (other_end text status.CertLimit x.0, x.1)
  other_reply text (status.CertByte n) a x = (other_end text (status.CertByte n) x.0, x.1)
  other_reply text (status.CertState v) a x = (other_end text (status.CertState v) x.0, x.1)
  other_reply text (status.CertFails v) a x = (other_end text (status.CertFails v) x.0, x.1)
  other_reply text status.Usage a x = absurd x
  other_reply text status.ReadFault a x = absurd x
  other_reply text (status.WriteFault sent) a x = absurd x
  other_reply text status.Memory a x = absurd x

pub means_nothing : OneCommand → MeansTellNothing
means_nothing one words other text o p s bytes asks asks' d (inl x) = absurd (not_taken words (Run o) asks x.refused)
means_nothing one words other text o p s bytes asks asks' d (inr x) =
    inr (record { command = Run p; asked = asks'; reply = other_reply o p d text s bytes (subst (λ (c : Command). IsReply c text s bytes) (one words x.command (Run o) x.asked asks) x.reply) })
