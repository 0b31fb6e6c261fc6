-- The cells of lines that are read one behind the other.
use Rattle.std.specs.Prelude.{◌≡◌, ℕ, suc, ◌+◌, ◌-◌, ◌<◌, ◌≤◌, List, [], ◌∷◌, ◌++◌, map, length, take, drop, slice_index_or, Option, None}
use Rattle.std.proofs.Common.{arith, refl, sym, ap, subst, ◌∙◌, inl, inr}
use Rattle.std.proofs.lemmas.Bool.{cases_eq}
use Rattle.std.proofs.lemmas.List.{length-append, length-map, map-append, take-append-le, get_or_append_left, get_or-take}
use Rattle.std.proofs.Math.ListN.{get_or-map}
use Rattle.std.proofs.Math.Seq.{take-length, get_or-append_seam}
use Rattle.pk_graph.specs.Kinds.{Kinds}
use Rattle.pk_graph.specs.Graphs.{GraphOf, kinds_of}
use Rattle.pk_state.specs.Layouts.{Layout}
use Rattle.pk_state.specs.Facts.{Facts, Stated, AreFactsIf}
use Rattle.pk_transfer.specs.Graphs.{layout_of}
use Rattle.pk_phases.specs.declared.equations.Cell.{Cell}
use Rattle.pk_cert.specs.declared.rows.Shape.{Shape}
use Rattle.pk_cert.specs.declared.rows.Row.{Row}
use Rattle.pk_cert.specs.Beginnings.{TextsOf, IsStop, IsFirstWrong}
use Rattle.pk_cert.specs.Rows.{Line, IsLine, line_text, AreLines, lines_text, kept_line, seen_line, row_view}
use Rattle.pk_cert.specs.Heads.{HeadOf, head_text}
use Rattle.pk_cert.specs.Pieces.{AreFirst}
use Rattle.pk_cert.specs.Certificates.{certificate_text, IsCertificate}
use Rattle.pk_cert.proofs.Sequences.{AreReading, begun, ended, next, stopped}
use Rattle.pk_cert.proofs.Lines.{line_told, certificate_stops, certificate_goes_on, certificate_ends}
use Rattle.pk_cert_states.specs.Lines.{HasOne, line_slots, line_of, shape_of, IsState}
use Rattle.pk_cert_states.proofs.Telling.{is_kept, read_is_kept}
use Rattle.pk_cert_cells.specs.Reading.{cell_of, shape_in, AreReadCells, IsStateless, AreCellsOf, AreCellsRead, IsNextRead}

module _ (ks : Kinds) (l : Layout) where
  as_many : (lines : List Line) (cells : List (Cell Stated)) (h : AreCellsOf ks l lines cells) → length h.known ≡ length cells
  as_many lines cells h = sym (ap (λ (cs : List (Cell Stated)). length cs) h.cells_are ∙ length-map h.known (cell_of l))

  pub cells_begun : AreCellsOf ks l [] []
  cells_begun = record { known = []; facts = λ v p. absurd (omega (arith, p)); cells_are = refl; told = refl; few = omega arith; next = λ p. absurd (omega (arith, p)) }

  -- behind a line that is of no state
  pub add_past : (lines : List Line) (line : Line) (cells : List (Cell Stated)) → AreCellsOf ks l lines cells → (length cells ≡ length lines → ⊥) → AreCellsOf ks l (lines ++ line ∷ []) cells
  add_past lines line cells h other =
      let many = as_many lines cells h in
      let less : length cells < length lines = elim (cases_eq (length cells) (length lines)) [ inl s ↦ absurd (other s) | inr s ↦ omega (arith, s, h.few) ] in
      record {
        known = h.known;
        facts = h.facts;
        cells_are = h.cells_are;
        told = take-append-le (length h.known) lines (line ∷ []) (omega (arith, many, h.few)) ∙ h.told;
        few = omega (arith, h.few, length-append lines (line ∷ []));
        next = λ p. subst (λ (x : Line). IsState ks l x → ⊥) (sym (get_or_append_left lines (line ∷ []) None (length cells) less)) (h.next less);
      }

  -- such a line
  pub add_stateless : (lines : List Line) (line : Line) (cells : List (Cell Stated)) → AreCellsOf ks l lines cells → length cells ≡ length lines → (IsState ks l line → ⊥) → AreCellsOf ks l (lines ++ line ∷ []) cells
  add_stateless lines line cells h same none =
      let many = as_many lines cells h in
      let here : slice_index_or (lines ++ line ∷ []) (length cells) None ≡ line = ap (λ (k : ℕ). slice_index_or (lines ++ line ∷ []) k None) same ∙ get_or-append_seam lines line [] None in
      record {
        known = h.known;
        facts = h.facts;
        cells_are = h.cells_are;
        told = take-append-le (length h.known) lines (line ∷ []) (omega (arith, many, h.few)) ∙ h.told;
        few = omega (arith, h.few, length-append lines (line ∷ []));
        next = λ p. subst (λ (x : Line). IsState ks l x → ⊥) (sym here) none;
      }

  -- the line of a state
  pub add_state : (lines : List Line) (line : Line) (cells : List (Cell Stated)) (f : Option Facts) → AreCellsOf ks l lines cells → length cells ≡ length lines → AreFactsIf l f → line ≡ line_of ks f
      → AreCellsOf ks l (lines ++ line ∷ []) (cells ++ cell_of l f ∷ [])
  add_state lines line cells f h same is told =
      let many = as_many lines cells h in
      let one = length-append lines (line ∷ []) in
      let two = length-append h.known (f ∷ []) in
      let three = length-append cells (cell_of l f ∷ []) in
      let full : length (h.known ++ f ∷ []) ≡ length (lines ++ line ∷ []) = omega (arith, one, two, many, same) in
      record {
        known = h.known ++ f ∷ [];
        facts = λ v p. elim (cases_eq v (length h.known)) [
          | inl s ↦ subst (AreFactsIf l) (sym (ap (λ (k : ℕ). slice_index_or (h.known ++ f ∷ []) k None) s ∙ get_or-append_seam h.known f [] None)) is
          | inr s ↦ let q : v < length h.known = omega (arith, p, s, two) in subst (AreFactsIf l) (sym (get_or_append_left h.known (f ∷ []) None v q)) (h.facts v q)
        ];
        cells_are = ap (λ (cs : List (Cell Stated)). cs ++ cell_of l f ∷ []) h.cells_are ∙ sym (map-append (cell_of l) h.known (f ∷ []));
        told =
            ap (λ (k : ℕ). take k (lines ++ line ∷ [])) full ∙ take-length (lines ++ line ∷ [])
            ∙ ap (λ (x : List Line). x ++ line ∷ []) (sym (take-length lines) ∙ ap (λ (k : ℕ). take k lines) (sym same ∙ sym many) ∙ h.told)
            ∙ ap (λ (x : Line). map (line_of ks) h.known ++ x ∷ []) told ∙ sym (map-append (line_of ks) h.known (f ∷ []));
        few = omega (arith, three, one, same);
        next = λ p. absurd (omega (arith, p, three, one, same));
      }

  -- ---- what a row tells

  pub row_stateless : (row : Row) (line : Line) → HasOne l → length l.types ≡ length (line_slots ks) → row_view row ≡ seen_line line → ((f : Option Facts) → AreFactsIf l f → row_view row ≡ kept_line (line_of ks f) → ⊥) → IsState ks l line → ⊥
  row_stateless row line one same seen none s = none s.0 s.1 (seen ∙ ap seen_line s.2 ∙ is_kept l ks s.0 one same s.1)

  pub row_state : (row : Row) (line : Line) (f : Option Facts) → row_view row ≡ seen_line line → row_view row ≡ kept_line (line_of ks f) → line ≡ line_of ks f
  row_state row line f seen kept = read_is_kept line (line_of ks f) (sym seen ∙ kept)

  -- ---- line by line

  abbrev pub CellsSo : (shape : Shape) (points : ℕ) (bytes : List ℕ) (cells : List (Cell Stated)) (k at : ℕ) → Type 0
  CellsSo shape points bytes cells k at =
      (lines : List Line) × (k ≤ points) × AreReading (λ (m : ℕ). IsLine shape) (λ (m : ℕ). line_text) points (points - k) bytes lines at × AreCellsOf ks l lines cells

  left : (count k : ℕ) → k < count → count - k ≡ suc (count - 1 - k)
  left count k h = omega (arith, h)

  pub so_begun : (shape : Shape) (points : ℕ) (bytes : List ℕ) → CellsSo shape points bytes [] 0 0
  so_begun shape points bytes =
      let all : points ≡ points - 0 = omega arith in
      ([], omega arith, subst (λ (j : ℕ). AreReading (λ (m : ℕ). IsLine shape) (λ (m : ℕ). line_text) points j bytes [] 0) all (begun (λ (m : ℕ). IsLine shape) (λ (m : ℕ). line_text) points bytes), cells_begun)

  pub so_next : (shape : Shape) (points : ℕ) (bytes : List ℕ) (old new : List (Cell Stated)) (k at n : ℕ) → CellsSo shape points bytes old k at → k < points → IsNextRead ks l shape k (drop at bytes) old new n
      → CellsSo shape points bytes new (k + 1) (at + n)
  so_next shape points bytes old new k at n so h r =
      let same : points - 1 - k ≡ points - (k + 1) = omega (arith, h) in
      let before = subst (λ (j : ℕ). AreReading (λ (i : ℕ). IsLine shape) (λ (i : ℕ). line_text) points j bytes so.0 at) (left points k h) so.2 in
      let after = next (λ (i : ℕ). IsLine shape) (λ (i : ℕ). line_text) (λ j. line_told shape) points (points - 1 - k) bytes so.0 at r.line n before r.is r.first in (
        so.0 ++ r.line ∷ [],
        omega (arith, h),
        subst (λ (j : ℕ). AreReading (λ (i : ℕ). IsLine shape) (λ (i : ℕ). line_text) points j bytes (so.0 ++ r.line ∷ []) (at + n)) same after,
        r.cells_of so.0 (omega (arith, so.2.count, so.1)) so.3,
      )

  bottom_there : (shape : Shape) (m : ℕ) → (line : Line) × IsLine shape line
  bottom_there shape m = (None, tt)

  pub so_stop : (shape : Shape) (points : ℕ) (bytes : List ℕ) (cells : List (Cell Stated)) (k at n : ℕ) → CellsSo shape points bytes cells k at → k < points
      → IsStop (TextsOf (IsLine shape) line_text) (drop at bytes) n → IsStop (TextsOf (AreLines shape points) lines_text) bytes (at + n)
  so_stop shape points bytes cells k at n so h s =
      stopped (λ (i : ℕ). IsLine shape) (λ (i : ℕ). line_text) (λ j. line_told shape) (bottom_there shape) points (points - 1 - k) bytes so.0 at n
      (subst (λ (j : ℕ). AreReading (λ (i : ℕ). IsLine shape) (λ (i : ℕ). line_text) points j bytes so.0 at) (left points k h) so.2) s

  pub so_ended : (shape : Shape) (points : ℕ) (bytes : List ℕ) (cells : List (Cell Stated)) (at : ℕ) → CellsSo shape points bytes cells points at → AreCellsRead ks l shape points bytes cells at
  so_ended shape points bytes cells at so =
      let none : points - points ≡ 0 = omega arith in
      let e = ended (λ (i : ℕ). IsLine shape) (λ (i : ℕ). line_text) points bytes so.0 at (subst (λ (j : ℕ). AreReading (λ (i : ℕ). IsLine shape) (λ (i : ℕ). line_text) points j bytes so.0 at) none so.2) in
      record { lines = so.0; are = e.0; first = e.1; cells_of = so.3 }

-- ---- whole certificates

module _ (g : GraphOf) (h : HeadOf) (bytes : List ℕ) (len : ℕ) (first : AreFirst (head_text h) bytes len) (l : Layout) (layout : l ≡ layout_of g h.oct) (shape : Shape) (shaped : shape ≡ shape_of (kinds_of g) l) where
  same_shape : shape ≡ shape_in g h
  same_shape = shaped ∙ ap (shape_of (kinds_of g)) layout

  -- in terms of the head
  over : (cells : List (Cell Stated)) (n : ℕ) → AreCellsRead (kinds_of g) l shape (length g.points) (drop len bytes) cells n
      → AreCellsRead (kinds_of g) (layout_of g h.oct) (shape_in g h) (length g.points) (drop len bytes) cells n
  over cells n r =
      subst (λ (y : Layout). AreCellsRead (kinds_of g) y (shape_in g h) (length g.points) (drop len bytes) cells n) layout
      (subst (λ (s : Shape). AreCellsRead (kinds_of g) l s (length g.points) (drop len bytes) cells n) same_shape r)

  pub read_stops : (n : ℕ) → IsStop (TextsOf (AreLines shape (length g.points)) lines_text) (drop len bytes) n → IsFirstWrong (IsCertificate (shape_in g h) (length g.points) h) bytes (len + n)
  read_stops n s =
      certificate_stops (shape_in g h) (length g.points) h bytes len first n (subst (λ (x : Shape). IsStop (TextsOf (AreLines x (length g.points)) lines_text) (drop len bytes) n) same_shape s)

  pub read_goes_on : (cells : List (Cell Stated)) (n : ℕ) → AreCellsRead (kinds_of g) l shape (length g.points) (drop len bytes) cells n → len + n < length bytes
      → IsFirstWrong (IsCertificate (shape_in g h) (length g.points) h) bytes (len + n)
  read_goes_on cells n r more = let s = over cells n r in certificate_goes_on (shape_in g h) (length g.points) h bytes len first s.lines n s.are s.first more

  pub read_stateless : (cells : List (Cell Stated)) (n : ℕ) → AreCellsRead (kinds_of g) l shape (length g.points) (drop len bytes) cells n → length bytes ≤ len + n → length cells < length g.points
      → IsStateless g h bytes (length cells)
  read_stateless cells n r last few =
      let s = over cells n r in
      let k = s.cells_of in
      let many = as_many (kinds_of g) (layout_of g h.oct) s.lines cells k in
      record {
        lines = s.lines;
        are = s.are;
        told = certificate_ends (shape_in g h) (length g.points) h bytes len first s.lines n s.first last;
        point = few;
        before = λ u p.
            let q : u < length k.known = omega (arith, p, many) in (
              slice_index_or k.known u None,
              k.facts u q,
              sym (get_or-take (length k.known) s.lines u None q) ∙ ap (λ (x : List Line). slice_index_or x u None) k.told ∙ get_or-map (line_of (kinds_of g)) k.known u None,
            );
        none = k.next (omega (arith, few, s.are.size));
      }

  pub read_whole : (cells : List (Cell Stated)) (n : ℕ) → AreCellsRead (kinds_of g) l shape (length g.points) (drop len bytes) cells n → length bytes ≤ len + n → length g.points ≤ length cells
      → AreReadCells g h bytes cells
  read_whole cells n r last all =
      let s = over cells n r in
      let k = s.cells_of in
      let many = as_many (kinds_of g) (layout_of g h.oct) s.lines cells k in
      let each : length k.known ≡ length g.points = omega (arith, many, all, k.few, s.are.size) in
      let full : s.lines ≡ map (line_of (kinds_of g)) k.known = sym (take-length s.lines) ∙ ap (λ (j : ℕ). take j s.lines) (s.are.size ∙ sym each) ∙ k.told in
      record {
        known = k.known;
        each = each;
        facts = λ v p. k.facts v (omega (arith, p, each));
        cells_are = k.cells_are;
        told = certificate_ends (shape_in g h) (length g.points) h bytes len first s.lines n s.first last ∙ ap (certificate_text h) full;
      }
