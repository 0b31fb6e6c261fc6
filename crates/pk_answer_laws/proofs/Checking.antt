-- A check of bytes has a reply, whatever they are.
use Rattle.std.proofs.Common.{◌≢◌, inl, inr, ℕ, List, [], refl, Option, Some, None}
use Rattle.pk_command.specs.declared.asked.Command.TheVariants.{Check}
use Rattle.pk_graph.specs.Accesses.{accesses_of}
use Rattle.pk_graph.specs.Graphs.{GraphOf}
use Rattle.pk_state.specs.Facts.{Stated}
use Rattle.pk_transfer.specs.Graphs.{layout_of}
use Rattle.pk_phases.specs.declared.equations.Cell.{Cell}
use Rattle.pk_report.specs.Reports.{checked_text, unknown_in}
use Rattle.pk_graph_report.specs.Reported.{verdicts_of}
use Rattle.pk_text_laws.specs.Total.Ends.{EveryTextEnds}
use Rattle.pk_text_graph.specs.Graphs.{GraphsAreWellMade}
use Rattle.pk_status.specs.declared.status.Status.TheVariants as status
use Rattle.pk_cert.specs.Heads.{HeadOf}
use Rattle.pk_cert.specs.Pieces.{BeginsWith}
use Rattle.pk_cert.specs.Laws.{EveryHeadEnds}
use Rattle.pk_cert_cells.specs.declared.failures.Unfit.{Unfit}
use Rattle.pk_cert_cells.specs.declared.failures.Unfit.TheVariants as unfit
use Rattle.pk_cert_cells.specs.Reading.{AreReadCells, IsUnfit}
use Rattle.pk_cert_cells.specs.Laws.{EveryReadingEnds}
use Rattle.pk_cert_check.specs.Checked.{IsChecked}
use Rattle.pk_cert_laws.specs.Checks.{ReadCellsAreChecked}
use Rattle.pk_cert_report.specs.Checked.{HasCertifiedGraph, reduced_states}
use Rattle.pk_text_report.specs.Answers.{IsShort}
use Rattle.pk_answer_laws.specs.Answers.{ChecksAreAnswered, HasReply}
use Rattle.pk_answer_laws.proofs.Replying.{ended, unless_long}

-- what all of it stands on
pub record Laws : Type 0 where
  pub ends : EveryTextEnds
  pub made : GraphsAreWellMade
  pub heads : EveryHeadEnds
  pub readings : EveryReadingEnds
  pub checks : ReadCellsAreChecked

module _ (laws : Laws) (bytes : List ℕ) (short : IsShort bytes Check) where
  module _ (h : HeadOf) (g : GraphOf) (of_graph : HasCertifiedGraph bytes h g) where
    told : (cells : List (Cell Stated)) → AreReadCells g h bytes cells → IsChecked g (layout_of g h.oct) cells None → HasReply Check bytes
    told cells read solved =
        let vs = verdicts_of g (reduced_states (layout_of g h.oct) cells) in
        record {
          status = status.Ok (unknown_in vs);
          bytes = checked_text g (accesses_of g) vs;
          reply = (short, record { head = h; graph = g; of_graph = of_graph; cells = cells; read = read; solved = solved; counted = refl; told_is = refl });
        }

    unproved : (cells : List (Cell Stated)) → AreReadCells g h bytes cells → (o : Option ℕ) → IsChecked g (layout_of g h.oct) cells o → HasReply Check bytes
    unproved cells read None solved = told cells read solved
    unproved cells read (Some v) fails = record {
      status = status.CertFails v;
      bytes = [];
      reply = (inr (short, inr (inr (h, g, of_graph, inr (v, record { cells = cells; read = read; fails = fails }, refl)))), refl);
    }

    unfit_reply : (e : Unfit) → e ≢ unfit.Memory → IsUnfit g h bytes e → HasReply Check bytes
    unfit_reply (unfit.Byte n) known x = record { status = status.CertByte n; bytes = []; reply = (inr (short, inr (inr (h, g, of_graph, inl (unfit.Byte n, x, refl)))), refl) }
    unfit_reply (unfit.State v) known x = record { status = status.CertState v; bytes = []; reply = (inr (short, inr (inr (h, g, of_graph, inl (unfit.State v, x, refl)))), refl) }
    unfit_reply unfit.Memory known x = absurd (known refl)

    lines : HasReply Check bytes
    lines = elim (laws.readings g h bytes of_graph.begins) [
      | inl (cells, read) ↦
          let o = laws.checks g h bytes cells (laws.made h.text h.entry g of_graph.has_graph) of_graph.begins.is read in unproved cells read o.0 o.1
      | inr (e, known, x) ↦ unfit_reply e known x
    ]

  headed : (h : HeadOf) → BeginsWith bytes h → HasReply Check bytes
  headed h begins =
      ended Check bytes h.text h.entry short (λ s x. inr (inl (h, begins, x)))
      (λ g has. lines h g (record { begins = begins; has_graph = has })) (laws.ends h.text h.entry)

  answered : HasReply Check bytes
  answered = elim (laws.heads bytes) [
    | inl (h, begins) ↦ headed h begins
    | inr (n, wrong) ↦ record { status = status.CertByte n; bytes = []; reply = (inr (short, inl (n, wrong, refl)), refl) }
  ]

pub checks : Laws → ChecksAreAnswered
checks laws bytes = unless_long Check bytes (λ short. answered laws bytes short)
