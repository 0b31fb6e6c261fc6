-- A text has one cause why it isn't analysed, and at most one certificate.
use Rattle.std.specs.Prelude.{◌≡◌, ◌≢◌, ℕ, ◌≤◌, List, length}
use Rattle.std.proofs.Common.{inl, inr, refl, sym, ap, subst, ◌∙◌, arith}
use Rattle.pk_front.specs.declared.failures.TextError.{TextError}
use Rattle.pk_front.specs.declared.failures.TextError.TheVariants as errors
use Rattle.pk_graph.specs.Graphs.{GraphOf}
use Rattle.pk_state.specs.Facts.{Stated}
use Rattle.pk_phases.specs.declared.equations.Cell.{Cell}
use Rattle.pk_analysis.specs.declared.analysis.Options.{Options}
use Rattle.pk_analysis_laws.specs.Systems.{HasManyPacks, IsOver}
use Rattle.pk_solver.specs.declared.solving.SolverError.{SolverError}
use Rattle.pk_solver.specs.declared.solving.SolverError.TheVariants as solver
use Rattle.pk_solver.specs.Solved.{AreRawCells, IsCause, RawCellsAreDetermined, StatesAreDetermined}
use Rattle.pk_status.specs.declared.status.Status.{Status}
use Rattle.pk_status.specs.declared.status.Status.TheVariants.{Memory}
use Rattle.pk_status.specs.Statuses.{status_of}
use Rattle.pk_text_graph.specs.Graphs.{GraphIsDetermined, HasGraph}
use Rattle.pk_cert_cells.specs.Cells.{head_of, cells_text, most_bytes}
use Rattle.pk_cert_report.specs.Causes.{HasTooManyPacks, IsTooLong, IsUngraphed, IsUnanalysed, OneCause, status_of_cause}
use Rattle.pk_cert_report.specs.Written.{IsCertificateOf, IsCertified, IsUncertified}
use Rattle.pk_cert_report.specs.Laws.{OneCertificate}

-- a cause that isn't want of memory
known_cause : (s : Status) (e : TextError) → s ≢ Memory → s ≡ status_of e → e ≢ errors.Memory
known_cause s e other is memory = other (is ∙ ap status_of memory)

module _ (law : GraphIsDetermined) where
  pub graph_or_cause : (text entry : List ℕ) (g : GraphOf) (s : Status) → s ≢ Memory → HasGraph text entry g → IsUngraphed text entry s → ⊥
  graph_or_cause text entry g s other has (e, none, is) = law.apart text entry g e (known_cause s e other is) has none

  pub one_ungraphed : (text entry : List ℕ) (s t : Status) → s ≢ Memory → t ≢ Memory → IsUngraphed text entry s → IsUngraphed text entry t → s ≡ t
  one_ungraphed text entry s t hs ht (e, none, is) (f, other, also) =
      is ∙ ap status_of (law.none text entry e f (known_cause s e hs is) (known_cause t f ht also) none other) ∙ sym also

  -- one of two limits, and not both
  module _ (states : StatesAreDetermined) (text entry : List ℕ) (o : Options) (most : ℕ) where
    one_limit : HasTooManyPacks text entry o → IsTooLong text entry o most → ⊥
    one_limit x y =
        let graph : x.graph ≡ y.graph = law.graph text entry x.graph y.graph x.has_graph y.has_graph in
        states.one_limit y.graph o most y.over (subst (λ (g : GraphOf). HasManyPacks g o) graph x.many)

    pub one_unanalysed : (s t : Status) → s ≢ Memory → t ≢ Memory → IsUnanalysed text entry o most s → IsUnanalysed text entry o most t → s ≡ t
    one_unanalysed s t hs ht (inl x) (inl y) = one_ungraphed text entry s t hs ht x y
    one_unanalysed s t hs ht (inl x) (inr (inl y)) = absurd (graph_or_cause text entry y.0.graph s hs y.0.has_graph x)
    one_unanalysed s t hs ht (inl x) (inr (inr y)) = absurd (graph_or_cause text entry y.0.graph s hs y.0.has_graph x)
    one_unanalysed s t hs ht (inr (inl x)) (inl y) = absurd (graph_or_cause text entry x.0.graph t ht x.0.has_graph y)
    one_unanalysed s t hs ht (inr (inl x)) (inr (inl y)) = x.1 ∙ sym y.1
    one_unanalysed s t hs ht (inr (inl x)) (inr (inr y)) = absurd (one_limit x.0 y.0)
    one_unanalysed s t hs ht (inr (inr x)) (inl y) = absurd (graph_or_cause text entry x.0.graph t ht x.0.has_graph y)
    one_unanalysed s t hs ht (inr (inr x)) (inr (inl y)) = absurd (one_limit y.0 x.0)
    one_unanalysed s t hs ht (inr (inr x)) (inr (inr y)) = x.1 ∙ sym y.1

pub one_cause : GraphIsDetermined → StatesAreDetermined → OneCause
one_cause law states = record { ungraphed = one_ungraphed law; unanalysed = one_unanalysed law states; graph = graph_or_cause law }

-- why nothing is left of a text's graph
pub cause_so : (text entry : List ℕ) (g : GraphOf) (o : Options) (most : ℕ) (why : SolverError) → HasGraph text entry g → IsCause g o most why → IsUnanalysed text entry o most (status_of_cause most why)
cause_so text entry g o most solver.RunLimit has over = inr (inr (record { graph = g; has_graph = has; over = over }, refl))
cause_so text entry g o most solver.PackLimit has many = inr (inl (record { graph = g; has_graph = has; many = many }, refl))
cause_so text entry g o most solver.Memory has wanting = inl (errors.Memory, inl tt, refl)

-- ---- certificates

module _ (law : GraphIsDetermined) (raw : RawCellsAreDetermined) (states : StatesAreDetermined) (text entry : List ℕ) (o : Options) (most : ℕ) where
  same_bytes : (a b : List ℕ) → IsCertificateOf text entry o most a → IsCertificateOf text entry o most b → a ≡ b
  same_bytes a b x y =
      let graph : x.graph ≡ y.graph = law.graph text entry x.graph y.graph x.has_graph y.has_graph in
      let cells : x.cells ≡ y.cells = raw.cells y.graph o most x.cells y.cells (subst (λ (g : GraphOf). AreRawCells g o most x.cells) graph x.are) y.are in
      x.told ∙ ap (λ (g : GraphOf). cells_text g (head_of text o.oct entry) x.cells) graph
      ∙ ap (λ (cs : List (Cell Stated)). cells_text y.graph (head_of text o.oct entry) cs) cells ∙ sym y.told

  -- a text that has a certificate is analysed
  analysed : (bytes : List ℕ) (s : Status) → s ≢ Memory → IsCertificateOf text entry o most bytes → IsUnanalysed text entry o most s → ⊥
  analysed bytes s other x (inl y) = graph_or_cause law text entry x.graph s other x.has_graph y
  analysed bytes s other x (inr (inl y)) =
      let graph : y.0.graph ≡ x.graph = law.graph text entry y.0.graph x.graph y.0.has_graph x.has_graph in
      raw.few_packs x.graph o most x.cells x.are (subst (λ (g : GraphOf). HasManyPacks g o) graph y.0.many)
  analysed bytes s other x (inr (inr y)) =
      let graph : y.0.graph ≡ x.graph = law.graph text entry y.0.graph x.graph y.0.has_graph x.has_graph in
      raw.within x.graph o most x.cells x.are (subst (λ (g : GraphOf). IsOver g o most) graph y.0.over)

  causes : (s t : Status) → s ≢ Memory → t ≢ Memory → IsUncertified text entry o most s → IsUncertified text entry o most t → s ≡ t
  causes s t hs ht (inl x) (inl y) = one_unanalysed law states text entry o most s t hs ht x y
  causes s t hs ht (inl x) (inr y) = absurd (analysed y.0.bytes s hs y.0.certificate x)
  causes s t hs ht (inr x) (inl y) = absurd (analysed x.0.bytes t ht x.0.certificate y)
  causes s t hs ht (inr x) (inr y) = x.1 ∙ sym y.1

  apart : (bytes : List ℕ) (s : Status) → s ≢ Memory → IsCertified text entry o most bytes → IsUncertified text entry o most s → ⊥
  apart bytes s other x (inl y) = analysed bytes s other x.certificate y
  apart bytes s other x (inr y) =
      let same : bytes ≡ y.0.bytes = same_bytes bytes y.0.bytes x.certificate y.0.certificate in
      absurd (omega (arith, subst (λ (b : List ℕ). length b ≤ most_bytes) same x.few, y.0.many))

pub one_certificate : GraphIsDetermined → RawCellsAreDetermined → StatesAreDetermined → OneCertificate
one_certificate law raw states = record {
  certificates = λ text entry o most a b x y. same_bytes law raw states text entry o most a b x.certificate y.certificate;
  causes = causes law raw states;
  apart = apart law raw states;
}
