-- Cells that were read of bytes, as states.
use Rattle.std.specs.Prelude.{◌≡◌, ℕ, zero, suc, ◌<◌, ◌≤◌, ◌^◌, true, false, List, [], ◌∷◌, length, map, take, All, None}
use Rattle.std.specs.List.{list_all}
use Rattle.std.specs.Str.{IsAscii, IsUtf8}
use Rattle.std.proofs.Common.{arith, refl, sym, ap, subst, ◌∙◌, Result, IfOk}
use Rattle.std.proofs.lemmas.Bool.{false≢true, and_parts}
use Rattle.std.proofs.lemmas.Bool.Decides.{nat_tests}
use Rattle.std.proofs.lemmas.List.{length-map, take_all}
use Rattle.std.proofs.lemmas.List.Elements.{All-map}
use Rattle.std.proofs.lemmas.Str.{IsUtf8-from_ascii}
use Rattle.std.proofs.lemmas.Str.Ascii.{IsAscii-nil}
use Rattle.pk_lex.specs.Bytes.{is_letter, is_part}
use Rattle.pk_lex.specs.Words.{is_name}
use Rattle.pk_graph.specs.Graphs.{GraphOf, kinds_of}
use Rattle.pk_state.specs.Layouts.{Layout}
use Rattle.pk_state.specs.Facts.{Stated}
use Rattle.pk_transfer.specs.Graphs.{GraphsAreOver, layout_of}
use Rattle.pk_transfer.specs.Trees.{IsOver}
use Rattle.pk_phases.specs.declared.equations.Cell.{Cell}
use Rattle.pk_phases.specs.Equations.{value_of}
use Rattle.pk_analysis.specs.declared.analysis.Options.{Options}
use Rattle.pk_analysis.specs.Flows.{reduced_over, stated}
use Rattle.pk_graph.specs.Accesses.{accesses_of}
use Rattle.pk_report.specs.Reports.{checked_text, unknown_in}
use Rattle.pk_graph_report.specs.Reported.{verdicts_of}
use Rattle.pk_solver.specs.Solved.{AreOver, AreRawCells}
use Rattle.pk_text_graph.specs.Graphs.{HasGraph}
use Rattle.pk_cert.specs.Heads.{HeadOf}
use Rattle.pk_cert_cells.specs.Cells.{cells_text, head_of, most_bytes}
use Rattle.pk_cert_cells.specs.Reading.{AreReadCells, cell_of}
use Rattle.pk_cert_report.specs.Written.{IsOverlong}
use Rattle.pk_cert_report.specs.Checked.{reduced_states}

module _ (g : GraphOf) (h : HeadOf) (bytes : List ℕ) (cells : List (Cell Stated)) (r : AreReadCells g h bytes cells) where
  many_cells : length cells ≡ length g.points
  many_cells = ap (λ (cs : List (Cell Stated)). length cs) r.cells_are ∙ length-map r.known (cell_of (layout_of g h.oct)) ∙ r.each

  -- each is over the graph's layout
  pub cells_over : (y : Layout) → y ≡ layout_of g h.oct → All (λ (c : Cell Stated). (value_of (stated y None) c).layout ≡ y) cells
  cells_over y same =
      let l = layout_of g h.oct in
      subst (λ (z : Layout). All (λ (c : Cell Stated). (value_of (stated z None) c).layout ≡ z) cells) (sym same)
      (subst (All (λ (c : Cell Stated). (value_of (stated l None) c).layout ≡ l)) (sym r.cells_are)
      (All-map (λ (c : Cell Stated). (value_of (stated l None) c).layout ≡ l) (cell_of l) r.known (λ k d below. refl)))

  pub states_are : (y : Layout) (n : ℕ) (states : List Stated) → y ≡ layout_of g h.oct → n ≡ length g.points → states ≡ map (reduced_over y) (take n cells) → states ≡ reduced_states (layout_of g h.oct) cells
  states_are y n states same size e =
      e ∙ ap (λ (z : Layout). map (reduced_over z) (take n cells)) same ∙ ap (map (reduced_over (layout_of g h.oct))) (take_all n cells (omega (arith, many_cells, size)))

  pub states_over : (states : List Stated) → GraphsAreOver → states ≡ reduced_states (layout_of g h.oct) cells → AreOver g states
  states_over states law e = record {
    size = ap (λ (ss : List Stated). length ss) e ∙ length-map cells (reduced_over (layout_of g h.oct)) ∙ many_cells;
    each =
        subst (All (λ (s : Stated). IsOver (kinds_of g) s.layout)) (sym e)
        (All-map (λ (s : Stated). IsOver (kinds_of g) s.layout) (reduced_over (layout_of g h.oct)) cells (λ k d below. law.over g h.oct));
  }

-- what is told by states is told by the same ones
pub told_over : {X E : Type 0} (f : X → List ℕ) (j : GraphOf) (r : Result X E) (a b : List Stated) → a ≡ b → IfOk r (λ x. f x ≡ checked_text j (accesses_of j) (verdicts_of j a)) → IfOk r (λ x. f x ≡ checked_text j (accesses_of j) (verdicts_of j b))
told_over f j r a b same h = subst (λ (ss : List Stated). IfOk r (λ x. f x ≡ checked_text j (accesses_of j) (verdicts_of j ss))) same h

pub counted_over : {X E : Type 0} (f : X → ℕ) (j : GraphOf) (r : Result X E) (a b : List Stated) → a ≡ b → IfOk r (λ x. f x ≡ unknown_in (verdicts_of j a)) → IfOk r (λ x. f x ≡ unknown_in (verdicts_of j b))
counted_over f j r a b same h = subst (λ (ss : List Stated). IfOk r (λ x. f x ≡ unknown_in (verdicts_of j ss))) same h

-- a certificate that would be too long
pub overlong_so : (j : GraphOf) (text entry name : List ℕ) (o : Options) (most : ℕ) (cells : List (Cell Stated)) → name ≡ entry → o.packs ≡ false → HasGraph text entry j → AreRawCells j o most cells → most_bytes < length (cells_text j (head_of text o.oct name) cells) → IsOverlong text entry o most
overlong_so j text entry name o most cells same one has are many = record {
  bytes = cells_text j (head_of text o.oct entry) cells;
  certificate = record { one_octagon = one; graph = j; has_graph = has; cells = cells; are = are; told = refl };
  many = subst (λ (e : List ℕ). most_bytes < length (cells_text j (head_of text o.oct e) cells)) same many;
}

pub few : (n : ℕ) → n ≤ 64 → n < 2 ^ 31
few n h = omega (arith, h)

-- ---- the bytes of a name are a text

small_letter : (b : ℕ) → is_letter b ≡ true → b < 128
small_letter b h = grind (arith, nat_tests)

small_part : (b : ℕ) → is_part b ≡ true → b < 128
small_part b h = grind (arith, nat_tests)

parts_ascii : (bs : List ℕ) → list_all is_part bs ≡ true → IsAscii bs
parts_ascii [] h i = IsAscii-nil i
parts_ascii (b ∷ bs) h zero = small_part b (and_parts (is_part b) (list_all is_part bs) h).0
parts_ascii (b ∷ bs) h (suc i) = parts_ascii bs (and_parts (is_part b) (list_all is_part bs) h).1 i

name_ascii : (bs : List ℕ) → is_name bs ≡ true → IsAscii bs
name_ascii [] h i = absurd (false≢true h)
name_ascii (b ∷ bs) h zero = small_letter b (and_parts (is_letter b) (list_all is_part bs) h).0
name_ascii (b ∷ bs) h (suc i) = parts_ascii bs (and_parts (is_letter b) (list_all is_part bs) h).1 i

pub name_text : (bs : List ℕ) → is_name bs ≡ true → IsUtf8 bs
name_text bs h = IsUtf8-from_ascii bs (name_ascii bs h)
