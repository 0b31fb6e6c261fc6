-- What is told of a text's graph, and why nothing is, by status.
use Rattle.std.specs.Prelude.{◌≡◌, ℕ, ◌≤◌, List, codes, length}
use Rattle.std.proofs.Common.{ap, arith, inl, refl, subst, sym, Result, Ok, Err, IsErrAnd, IfErr}
use Rattle.pk_command.specs.declared.asked.RunOptions.{RunOptions}
use Rattle.pk_command.specs.declared.asked.GenOptions.{GenOptions}
use Rattle.pk_command.specs.declared.asked.CertOptions.{CertOptions}
use Rattle.pk_command.specs.declared.asked.Command.TheVariants.{Run, Cert}
use Rattle.pk_command.specs.Given.{IsInRange}
use Rattle.pk_front.specs.declared.failures.TextError.{TextError}
use Rattle.pk_front.specs.declared.failures.TextError.TheVariants.{Memory}
use Rattle.pk_graph.specs.Graphs.{GraphOf}
use Rattle.pk_analysis.specs.declared.analysis.Options.{Options}
use Rattle.pk_graph_report.specs.Reported.{IsReport, IsSummary}
use Rattle.pk_solver.specs.Bounds.{AreInRange, most_workers}
use Rattle.pk_solver.specs.declared.solving.SolverError.{SolverError}
use Rattle.pk_solver.specs.Solved.{IsCause}
use Rattle.pk_text_graph.specs.Graphs.{HasGraph, HasNoGraph}
use Rattle.pk_status.specs.declared.status.Status.{Status}
use Rattle.pk_status.specs.declared.status.Status.TheVariants as status
use Rattle.pk_status.specs.Statuses.{status_of}
use Rattle.pk_cert_report.specs.Causes.{IsUnanalysed, IsUngraphed, status_of_cause}
use Rattle.pk_cert_report.specs.Written.{IsCertified, IsUncertified}
use Rattle.pk_cert_report.proofs.Deciding.{cause_so}
use Rattle.pk_text_report.specs.Answers.{IsMade, IsRun, certified_options, default_options, default_runs, options_of}

-- what an iteration is asked for
pub run_range : (o : RunOptions) (p : Options) → p ≡ options_of o → IsInRange (Run o) → AreInRange (record { analysis = p; workers = o.workers; max_runs = o.max_runs })
run_range o p is range = record {
  oct = omega (arith, ap (λ (q : Options). q.oct) is, range.4);
  some_worker = range.0;
  few_workers = range.1;
  runs = range.6;
}

pub default_range : (workers : ℕ) (p : Options) → p ≡ default_options → (1 ≤ workers) × (workers ≤ most_workers) → AreInRange (record { analysis = p; workers = workers; max_runs = default_runs })
default_range workers p is range = record {
  oct = omega (arith, ap (λ (q : Options). q.oct) is);
  some_worker = range.0;
  few_workers = range.1;
  runs = omega arith;
}

-- an iteration of a certificate
pub certified_range : (o : CertOptions) (p : Options) → p ≡ certified_options o → IsInRange (Cert o) → AreInRange (record { analysis = p; workers = o.workers; max_runs = o.max_runs })
certified_range o p is range = record {
  oct = omega (arith, ap (λ (q : Options). q.oct) is, range.4);
  some_worker = range.0;
  few_workers = range.1;
  runs = range.6;
}

-- without a graph
pub handed_on : {X : Type 0} (text entry name : List ℕ) (F : Status → Type 0) (r : Result X Status) (e : TextError) → ((s : Status) → IsUngraphed text name s → F s) → IsErrAnd r (λ s. s ≡ status_of e) → entry ≡ name
    → HasNoGraph text entry e → IfErr r F
handed_on text entry name F (Ok x) e by same is none = tt
handed_on text entry name F (Err s) e by same is none = by s (e, subst (λ (n : List ℕ). HasNoGraph text n e) is none, same)

-- without memory
pub memory_so : (text entry : List ℕ) → IsUngraphed text entry status.Memory
memory_so text entry = (Memory, inl tt, refl)

pub wanting : {X : Type 0} (text entry : List ℕ) (r : Result X Status) → IsErrAnd r (λ s. s ≡ status.Memory) → IfErr r (IsUngraphed text entry)
wanting text entry (Ok x) is = tt
wanting text entry (Err s) is = subst (IsUngraphed text entry) (sym is) (memory_so text entry)

-- with one
pub run_so : (text entry : List ℕ) (o : RunOptions) (g : GraphOf) (p : Options) (most unknown : ℕ) (bytes : List ℕ) → entry ≡ o.entry → p ≡ options_of o → most ≡ o.max_runs
    → HasGraph text entry g → IsReport g p most o.points unknown bytes → IsRun text o unknown bytes
run_so text entry o g p most unknown bytes name same limit has report = record {
  graph = g;
  has_graph = subst (λ (e : List ℕ). HasGraph text e g) name has;
  report =
      subst (λ (n : ℕ). IsReport g (options_of o) n o.points unknown bytes) limit
      (subst (λ (q : Options). IsReport g q most o.points unknown bytes) same report);
}

pub made_so : (text entry : List ℕ) (o : GenOptions) (g : GraphOf) (p : Options) (most size unknown : ℕ) (bytes : List ℕ) → entry ≡ codes "main" → p ≡ default_options → most ≡ default_runs → size ≡ length text
    → HasGraph text entry g → IsSummary g p most o.seed o.size size unknown bytes → IsMade text o unknown bytes
made_so text entry o g p most size unknown bytes name same limit long has summary = record {
  graph = g;
  has_graph = subst (λ (e : List ℕ). HasGraph text e g) name has;
  summary =
      subst (λ (n : ℕ). IsSummary g default_options default_runs o.seed o.size n unknown bytes) long
      (subst (λ (n : ℕ). IsSummary g default_options n o.seed o.size size unknown bytes) limit
      (subst (λ (q : Options). IsSummary g q most o.seed o.size size unknown bytes) same summary));
}

-- without what the iteration leaves
pub cut_so : (text entry name : List ℕ) (o p : Options) (m n : ℕ) (g : GraphOf) (why : SolverError) (s : Status) → entry ≡ name → p ≡ o → n ≡ m → HasGraph text entry g → IsCause g p n why → s ≡ status_of_cause m why → IsUnanalysed text name o m s
cut_so text entry name o p m n g why s is same limit has cause told =
    subst (λ (t : Status). IsUnanalysed text name o m t) (sym told)
    (cause_so text name g o m why (subst (λ (e : List ℕ). HasGraph text e g) is has)
    (subst (λ (k : ℕ). IsCause g o k why) limit (subst (λ (q : Options). IsCause g q n why) same cause)))

-- a certificate
pub certified_so : (text entry name : List ℕ) (p o : Options) (most n : ℕ) (bytes : List ℕ) → entry ≡ name → p ≡ o → most ≡ n → IsCertified text entry p most bytes → IsCertified text name o n bytes
certified_so text entry name p o most n bytes name_is options_are limit h =
    subst (λ (k : ℕ). IsCertified text name o k bytes) limit
    (subst (λ (q : Options). IsCertified text name q most bytes) options_are
    (subst (λ (e : List ℕ). IsCertified text e p most bytes) name_is h))

pub uncertified_so : (text entry name : List ℕ) (p o : Options) (most n : ℕ) (s : Status) → entry ≡ name → p ≡ o → most ≡ n → IsUncertified text entry p most s → IsUncertified text name o n s
uncertified_so text entry name p o most n s name_is options_are limit h =
    subst (λ (k : ℕ). IsUncertified text name o k s) limit
    (subst (λ (q : Options). IsUncertified text name q most s) options_are
    (subst (λ (e : List ℕ). IsUncertified text e p most s) name_is h))
