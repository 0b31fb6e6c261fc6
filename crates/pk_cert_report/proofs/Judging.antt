-- A check of bytes has one answer.
use Rattle.std.specs.Prelude.{◌≡◌, ◌≢◌, ◌⊎◌, ℕ, ◌<◌, ◌≤◌, ◌^◌, List, drop, None, Some, Option}
use Rattle.std.proofs.Common.{inl, inr, refl, sym, ap, subst, ◌∙◌, arith}
use Rattle.pk_graph.specs.Accesses.{accesses_of}
use Rattle.pk_graph.specs.Graphs.{GraphOf}
use Rattle.pk_state.specs.Facts.{Stated}
use Rattle.pk_transfer.specs.Graphs.{GraphsAreOver, layout_of}
use Rattle.pk_phases.specs.declared.equations.Cell.{Cell}
use Rattle.pk_report.specs.Reports.{checked_text, unknown_in}
use Rattle.pk_graph_report.specs.Reported.{verdicts_of}
use Rattle.pk_status.specs.declared.status.Status.{Status}
use Rattle.pk_status.specs.declared.status.Status.TheVariants.{CertByte, CertFails, Memory}
use Rattle.pk_text_graph.specs.Graphs.{GraphIsDetermined, GraphsAreWellMade, HasGraph}
use Rattle.pk_cert.specs.Beginnings.{IsFirstWrong}
use Rattle.pk_cert.specs.Heads.{HeadOf, HasHead, head_text}
use Rattle.pk_cert.specs.Pieces.{BeginsWith}
use Rattle.pk_cert.specs.Laws.{HeadsAreTold, FirstWrongIsOne}
use Rattle.pk_cert_cells.specs.declared.failures.Unfit.{Unfit}
use Rattle.pk_cert_cells.specs.declared.failures.Unfit.TheVariants as unfit
use Rattle.pk_cert_cells.specs.Reading.{AreReadCells, IsUnfit}
use Rattle.pk_cert_cells.specs.Laws.{OneReading}
use Rattle.pk_cert_check.specs.Checked.{IsChecked}
use Rattle.pk_cert_check.specs.Laws.{OneCheck}
use Rattle.pk_sound.specs.Families.{IsLaidOut}
use Rattle.pk_cert_report.specs.Causes.{IsUngraphed}
use Rattle.pk_cert_report.specs.Checked.{HasCertifiedGraph, reduced_states, IsValid, FailsAt, IsUnproved, IsInvalid, status_of_unfit}
use Rattle.pk_cert_report.specs.Laws.{OneAnswerOfChecks}
use Rattle.pk_cert_report.proofs.Deciding.{graph_or_cause, one_ungraphed}

-- what all of it stands on
pub record Laws : Type 0 where
  pub graphs : GraphIsDetermined
  pub made : GraphsAreWellMade
  pub layouts : GraphsAreOver
  pub heads : HeadsAreTold
  pub wrong : FirstWrongIsOne
  pub reading : OneReading
  pub check : OneCheck

-- an octagon of so few variables has a layout
few : (n : ℕ) → n ≤ 64 → n < 2 ^ 31
few n h = omega (arith, h)

known_unfit : (s : Status) (e : Unfit) → s ≢ Memory → s ≡ status_of_unfit e → e ≡ unfit.Memory → ⊥
known_unfit s e other is memory = other (is ∙ ap status_of_unfit memory)

module _ (laws : Laws) (bytes : List ℕ) where
  one_head : (h k : HeadOf) → BeginsWith bytes h → BeginsWith bytes k → h ≡ k
  one_head h k x y = (laws.heads h k (drop x.len bytes) (drop y.len bytes) x.is y.is (sym x.first.told ∙ y.first.told)).0

  has_head : (h : HeadOf) → BeginsWith bytes h → HasHead bytes
  has_head h x = (head_text h, drop x.len bytes, (h, x.is, refl), x.first.told)

  wrong_or_head : (n : ℕ) (h : HeadOf) → IsFirstWrong HasHead bytes n → BeginsWith bytes h → ⊥
  wrong_or_head n h w x = (laws.wrong.heads bytes).none n w (has_head h x)

  moved_graph : (h k : HeadOf) (g : GraphOf) → HasCertifiedGraph bytes h g → BeginsWith bytes k → HasGraph k.text k.entry g
  moved_graph h k g x y = subst (λ (i : HeadOf). HasGraph i.text i.entry g) (one_head h k x.begins y) x.has_graph

  one_graph : (h k : HeadOf) (g j : GraphOf) → HasCertifiedGraph bytes h g → HasCertifiedGraph bytes k j → g ≡ j
  one_graph h k g j x y = laws.graphs.graph k.text k.entry g j (moved_graph h k g x y.begins) y.has_graph

  -- a statement of one head and graph holds of the others
  moved : (P : HeadOf → GraphOf → Type 0) (h k : HeadOf) (g j : GraphOf) → HasCertifiedGraph bytes h g → HasCertifiedGraph bytes k j → P h g → P k j
  moved P h k g j x y p = subst (P k) (one_graph h k g j x y) (subst (λ (i : HeadOf). P i g) (one_head h k x.begins y.begins) p)

  laid_out : (h : HeadOf) (g : GraphOf) → HasCertifiedGraph bytes h g → IsLaidOut g (layout_of g h.oct)
  laid_out h g x = record {
    graph = laws.made h.text h.entry g x.has_graph;
    layout = laws.layouts.layouts g h.oct (few h.oct x.begins.is.oct);
    over = laws.layouts.over g h.oct;
  }

  graph_or_ungraphed : (h k : HeadOf) (g : GraphOf) (s : Status) → s ≢ Memory → HasCertifiedGraph bytes h g → BeginsWith bytes k → IsUngraphed k.text k.entry s → ⊥
  graph_or_ungraphed h k g s other x y none = graph_or_cause laws.graphs k.text k.entry g s other (moved_graph h k g x y) none

  -- ---- what stands behind a head

  module _ (h : HeadOf) (g : GraphOf) (of_graph : HasCertifiedGraph bytes h g) where
    one_cells : (a b : List (Cell Stated)) → AreReadCells g h bytes a → AreReadCells g h bytes b → a ≡ b
    one_cells = (laws.reading g h bytes of_graph.begins.is).cells

    read_or_unfit : (s : Status) (cells : List (Cell Stated)) (e : Unfit) → s ≢ Memory → s ≡ status_of_unfit e → AreReadCells g h bytes cells → IsUnfit g h bytes e → ⊥
    read_or_unfit s cells e other is read unfits = known_unfit s e other is ((laws.reading g h bytes of_graph.begins.is).fit cells e read unfits)

    same_unfit : (s t : Status) (d e : Unfit) → s ≢ Memory → t ≢ Memory → s ≡ status_of_unfit d → t ≡ status_of_unfit e → (d ≡ unfit.Memory) ⊎ ((e ≡ unfit.Memory) ⊎ (d ≡ e)) → s ≡ t
    same_unfit s t d e hs ht p q (inl memory) = absurd (known_unfit s d hs p memory)
    same_unfit s t d e hs ht p q (inr (inl memory)) = absurd (known_unfit t e ht q memory)
    same_unfit s t d e hs ht p q (inr (inr same)) = p ∙ ap status_of_unfit same ∙ sym q

    checked_once : (a b : List (Cell Stated)) (u v : Option ℕ) → AreReadCells g h bytes a → AreReadCells g h bytes b → IsChecked g (layout_of g h.oct) a u → IsChecked g (layout_of g h.oct) b v → u ≡ v
    checked_once a b u v x y p q =
        laws.check g (layout_of g h.oct) b u v (laid_out h g of_graph) (subst (λ (cs : List (Cell Stated)). IsChecked g (layout_of g h.oct) cs u) (one_cells a b x y) p) q

    same_point : (u v : ℕ) → FailsAt bytes h g u → FailsAt bytes h g v → u ≡ v
    same_point u v x y = let same : Some u ≡ Some v = checked_once x.cells y.cells (Some u) (Some v) x.read y.read x.fails y.fails in cc

    one_unproved : (s t : Status) → s ≢ Memory → t ≢ Memory → IsUnproved bytes h g s → IsUnproved bytes h g t → s ≡ t
    one_unproved s t hs ht (inl (d, x, p)) (inl (e, y, q)) = same_unfit s t d e hs ht p q ((laws.reading g h bytes of_graph.begins.is).unfit d e x y)
    one_unproved s t hs ht (inl (d, x, p)) (inr (v, y, q)) = absurd (read_or_unfit s y.cells d hs p y.read x)
    one_unproved s t hs ht (inr (u, x, p)) (inl (e, y, q)) = absurd (read_or_unfit t x.cells e ht q x.read y)
    one_unproved s t hs ht (inr (u, x, p)) (inr (v, y, q)) = p ∙ ap CertFails (same_point u v x y) ∙ sym q

    valid_or_unproved : (cells : List (Cell Stated)) (s : Status) → s ≢ Memory → AreReadCells g h bytes cells → IsChecked g (layout_of g h.oct) cells None → IsUnproved bytes h g s → ⊥
    valid_or_unproved cells s other read solved (inl (e, y, q)) = read_or_unfit s cells e other q read y
    valid_or_unproved cells s other read solved (inr (v, y, q)) = let same : None ≡ Some v = checked_once cells y.cells None (Some v) read y.read solved y.fails in absurd (cc)

  -- ---- the whole

  causes : (s t : Status) → s ≢ Memory → t ≢ Memory → IsInvalid bytes s → IsInvalid bytes t → s ≡ t
  causes s t hs ht (inl (n, x, p)) (inl (m, y, q)) = p ∙ ap CertByte ((laws.wrong.heads bytes).one n m x y) ∙ sym q
  causes s t hs ht (inl (n, x, p)) (inr (inl (k, y, none))) = absurd (wrong_or_head n k x y)
  causes s t hs ht (inl (n, x, p)) (inr (inr (k, j, y, left))) = absurd (wrong_or_head n k x y.begins)
  causes s t hs ht (inr (inl (h, x, none))) (inl (m, y, q)) = absurd (wrong_or_head m h y x)
  causes s t hs ht (inr (inl (h, x, none))) (inr (inl (k, y, other))) =
      one_ungraphed laws.graphs k.text k.entry s t hs ht (subst (λ (i : HeadOf). IsUngraphed i.text i.entry s) (one_head h k x y) none) other
  causes s t hs ht (inr (inl (h, x, none))) (inr (inr (k, j, y, left))) = absurd (graph_or_ungraphed k h j s hs y x none)
  causes s t hs ht (inr (inr (h, g, x, left))) (inl (m, y, q)) = absurd (wrong_or_head m h y x.begins)
  causes s t hs ht (inr (inr (h, g, x, left))) (inr (inl (k, y, none))) = absurd (graph_or_ungraphed h k g t ht x y none)
  causes s t hs ht (inr (inr (h, g, x, left))) (inr (inr (k, j, y, other))) =
      one_unproved k j y s t hs ht (moved (λ i f. IsUnproved bytes i f s) h k g j x y left) other

  apart : (unknown : ℕ) (told : List ℕ) (s : Status) → s ≢ Memory → IsValid bytes unknown told → IsInvalid bytes s → ⊥
  apart unknown told s other x (inl (n, y, p)) = wrong_or_head n x.head y x.of_graph.begins
  apart unknown told s other x (inr (inl (k, y, none))) = graph_or_ungraphed x.head k x.graph s other x.of_graph y none
  apart unknown told s other x (inr (inr (k, j, y, left))) =
      let read = moved (λ i f. AreReadCells f i bytes x.cells) x.head k x.graph j x.of_graph y x.read in
      let solved = moved (λ i f. IsChecked f (layout_of f i.oct) x.cells None) x.head k x.graph j x.of_graph y x.solved in
      valid_or_unproved k j y x.cells s other read solved left

  told : (m n : ℕ) (a b : List ℕ) → IsValid bytes m a → IsValid bytes n b → (m ≡ n) × (a ≡ b)
  told m n a b x y =
      let cells : x.cells ≡ y.cells =
      one_cells y.head y.graph y.of_graph x.cells y.cells (moved (λ i f. AreReadCells f i bytes x.cells) x.head y.head x.graph y.graph x.of_graph y.of_graph x.read) y.read in
      let counted = moved (λ i f. m ≡ unknown_in (verdicts_of f (reduced_states (layout_of f i.oct) x.cells))) x.head y.head x.graph y.graph x.of_graph y.of_graph x.counted in
      let told = moved (λ i f. a ≡ checked_text f (accesses_of f) (verdicts_of f (reduced_states (layout_of f i.oct) x.cells))) x.head y.head x.graph y.graph x.of_graph y.of_graph x.told_is in (
        counted ∙ ap (λ (cs : List (Cell Stated)). unknown_in (verdicts_of y.graph (reduced_states (layout_of y.graph y.head.oct) cs))) cells ∙ sym y.counted,
        told ∙ ap (λ (cs : List (Cell Stated)). checked_text y.graph (accesses_of y.graph) (verdicts_of y.graph (reduced_states (layout_of y.graph y.head.oct) cs))) cells ∙ sym y.told_is,
      )

pub one_answer_of_checks : Laws → OneAnswerOfChecks
one_answer_of_checks laws = record {
  told = told laws;
  causes = causes laws;
  apart = apart laws;
}
