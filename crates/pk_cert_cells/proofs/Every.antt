-- Bytes behind a head are read: as cells, to a first wrong byte, or to a first point of no state.
use Rattle.std.specs.Prelude.{◌≡◌, ◌⊎◌, ◌≢◌, ℕ, zero, suc, ◌<◌, List, [], ◌∷◌, map, length, slice_index_or, Option, None}
use Rattle.std.proofs.Common.{arith, refl, sym, ap, subst, ◌∙◌, inl, inr}
use Rattle.std.proofs.lemmas.Bool.{cases_eq}
use Rattle.pk_graph.specs.Kinds.{Kinds}
use Rattle.pk_graph.specs.Graphs.{GraphOf, kinds_of}
use Rattle.pk_state.specs.Layouts.{Layout}
use Rattle.pk_state.specs.Facts.{Facts, Stated, AreFactsIf}
use Rattle.pk_transfer.specs.Graphs.{layout_of}
use Rattle.pk_phases.specs.declared.equations.Cell.{Cell}
use Rattle.pk_cert.specs.Rows.{Line, AreLines}
use Rattle.pk_cert.specs.Heads.{HeadOf}
use Rattle.pk_cert.specs.Certificates.{certificate_text}
use Rattle.pk_cert.specs.Laws.{EveryLinesEnd}
use Rattle.pk_cert_states.specs.Lines.{line_of, IsState}
use Rattle.pk_cert_states.specs.Laws.{EveryLineIsSettled}
use Rattle.pk_cert_cells.specs.Reading.{cell_of, shape_in, AreReadCells, IsUnfit}
use Rattle.pk_cert_cells.specs.Laws.{EveryReadingEnds}
use Rattle.pk_cert_cells.specs.declared.failures.Unfit.{Unfit}
use Rattle.pk_cert_cells.specs.declared.failures.Unfit.TheVariants.{Byte, State, Memory}

-- P fails at v, and at no number before
record IsFirstNot (P : ℕ → Type 0) (n v : ℕ) : Type 0 where
  point : v < n
  before : (u : ℕ) → u < v → P u
  none : P v → ⊥

-- P holds below n, or there is a first number at which it doesn't
all_or_first : (P : ℕ → Type 0) → ((u : ℕ) → P u ⊎ (P u → ⊥)) → (n : ℕ) → ((u : ℕ) → u < n → P u) ⊎ ((v : ℕ) × IsFirstNot P n v)
all_or_first P each zero = inl (λ u p. absurd (omega (arith, p)))
all_or_first P each (suc n) = elim (all_or_first P each n) [
  | inl all ↦ elim (each n) [
    | inl last ↦ inl (λ u p. elim (cases_eq u n) [ inl e ↦ subst P (sym e) last | inr e ↦ all u (omega (arith, p, e)) ])
    | inr never ↦ inr (n, record { point = omega arith; before = all; none = never })
  ]
  | inr f ↦ inr (f.0, record { point = omega (arith, f.1.point); before = f.1.before; none = f.1.none })
]

-- ---- lines of states

-- facts, of which these are the lines
record AreFactsOfLines (ks : Kinds) (l : Layout) (lines : List Line) : Type 0 where
  known : List (Option Facts)
  each : length known ≡ length lines
  facts : (v : ℕ) → v < length known → AreFactsIf l (slice_index_or known v None)
  told : lines ≡ map (line_of ks) known

one_more : (l : Layout) (f : Option Facts) (known : List (Option Facts)) → AreFactsIf l f → ((v : ℕ) → v < length known → AreFactsIf l (slice_index_or known v None))
    → (v : ℕ) → v < length (f ∷ known) → AreFactsIf l (slice_index_or (f ∷ known) v None)
one_more l f known is facts zero p = is
one_more l f known is facts (suc v) p = facts v (omega (arith, p))

all_facts : (ks : Kinds) (l : Layout) (lines : List Line) → ((v : ℕ) → v < length lines → IsState ks l (slice_index_or lines v None)) → AreFactsOfLines ks l lines
all_facts ks l [] states = record { known = []; each = refl; facts = λ v p. absurd (omega (arith, p)); told = refl }
all_facts ks l (line ∷ lines) states =
    let first = states 0 (omega arith) in
    let rest = all_facts ks l lines (λ v p. states (suc v) (omega (arith, p))) in
    record {
      known = first.0 ∷ rest.known;
      each = omega (arith, rest.each);
      facts = one_more l first.0 rest.known first.1 rest.facts;
      told = ap (λ (x : Line). x ∷ lines) first.2 ∙ ap (λ (ls : List Line). line_of ks first.0 ∷ ls) rest.told;
    }

-- ---- the law

module _ (g : GraphOf) (h : HeadOf) (bytes : List ℕ) where
  abbrev Answered : Type 0
  Answered = ((cells : List (Cell Stated)) × AreReadCells g h bytes cells) ⊎ ((u : Unfit) × (u ≢ Memory) × IsUnfit g h bytes u)

  read : (lines : List Line) → AreLines (shape_in g h) (length g.points) lines → bytes ≡ certificate_text h lines
      → AreFactsOfLines (kinds_of g) (layout_of g h.oct) lines → (cells : List (Cell Stated)) × AreReadCells g h bytes cells
  read lines are told f = (
    map (cell_of (layout_of g h.oct)) f.known,
    record {
      known = f.known;
      each = f.each ∙ are.size;
      facts = λ v p. f.facts v (omega (arith, p, f.each, are.size));
      cells_are = refl;
      told = told ∙ ap (certificate_text h) f.told;
    },
  )

  by_lines : EveryLineIsSettled → (lines : List Line) → AreLines (shape_in g h) (length g.points) lines → bytes ≡ certificate_text h lines → Answered
  by_lines settled lines are told =
      elim (all_or_first (λ (v : ℕ). IsState (kinds_of g) (layout_of g h.oct) (slice_index_or lines v None)) (λ v. settled g h.oct (slice_index_or lines v None)) (length lines)) [
        | inl all ↦ inl (read lines are told (all_facts (kinds_of g) (layout_of g h.oct) lines all))
        | inr f ↦ inr (State f.0, (λ e. cc), record { lines = lines; are = are; told = told; point = omega (arith, f.1.point, are.size); before = f.1.before; none = f.1.none })
      ]

pub every_reading_ends : EveryLinesEnd → EveryLineIsSettled → EveryReadingEnds
every_reading_ends lines settled g h bytes begins = elim (lines (shape_in g h) (length g.points) h bytes begins) [
  | inl c ↦ by_lines g h bytes settled c.0 c.1 c.2
  | inr w ↦ inr (Byte w.0, (λ e. cc), w.1)
]
