-- Lines are told by their bytes, and where one that is read stops.
use Rattle.std.specs.Prelude.{◌≡◌, ℕ, suc, ◌+◌, ◌-◌, ◌<◌, ◌≤◌, ℤ, pos, List, [], ◌∷◌, ◌++◌, map, length, take, drop, slice_index, Option, Some, None, codes}
use Rattle.std.proofs.Common.{arith, refl, sym, ap, subst, ◌∙◌, append_assoc}
use Rattle.std.proofs.lemmas.List.{append-nil, append_cancel_left, length-drop, drop_all, map-append}
use Rattle.std.proofs.Math.Seq.{take-suc, take-add, take-append_seam}
use Rattle.pk_cert.specs.declared.failures.Unread.{Unread}
use Rattle.pk_cert.specs.declared.failures.Unread.TheVariants.{Byte, Memory}
use Rattle.pk_cert.specs.declared.rows.Shape.{Shape}
use Rattle.pk_cert.specs.declared.rows.Symbol.{Symbol}
use Rattle.pk_cert.specs.declared.rows.Row.{Row}
use Rattle.pk_cert.specs.Beginnings.{TextsOf, Begins, Leads, IsStop, IsFirstWrong}
use Rattle.pk_cert.specs.Rows.{IsSymbol, ended_text, AreEach, text_of, Line, symbols_text, line_text, IsLine, AreLines, lines_text, seen, seen_line, row_view}
use Rattle.pk_cert.specs.Heads.{HeadOf, head_text}
use Rattle.pk_cert.specs.Pieces.{AreFirst, StopsAt, IsSymbolRead, AreSymbolsRead, IsRowRead, AreRowsRead}
use Rattle.pk_cert.specs.Certificates.{certificate_text, IsCertificate, AreRead}
use Rattle.pk_cert.specs.Laws.{LinesAreTold}
use Rattle.pk_cert.proofs.Stops.{stop_part_first, stop_alone, wrong_behind}
use Rattle.pk_cert.proofs.SymbolLemmas.{symbols_told, no_b}
use Rattle.pk_cert.proofs.Sequences.{AreTold, Texts, AreReading, begun, ended, next, stopped, lists_told}
use Rattle.pk_cert.proofs.Heading.{heads_told}

pub all_symbols_told : (bounds count : ℕ) → AreTold (AreEach count (IsSymbol bounds)) (text_of ended_text)
all_symbols_told bounds count = lists_told (IsSymbol bounds) ended_text (λ m. symbols_told bounds m) count

line_no_b : (count bounds : ℕ) (zs : List (Option ℤ)) (r s : List ℕ) → AreEach count (IsSymbol bounds) zs → symbols_text zs ++ r ≡ 98 ∷ s → ⊥
line_no_b count bounds [] r s h e = let c : ◌≡◌ {A = ℕ} 10 98 = cc in omega (arith, c)
line_no_b count bounds (z ∷ zs) r s h e = no_b bounds (length zs) z (text_of ended_text zs ++ r) s h.each.0 (sym (append_assoc (ended_text (length zs) z) (text_of ended_text zs) r) ∙ e)

pub line_told : (shape : Shape) → AreTold (IsLine shape) line_text
line_told shape None None x y h k e = (refl, append_cancel_left (codes "bot\n") x y e)
line_told shape None (Some zs) x y h k e = absurd (line_no_b (shape.numbers + shape.bounds) shape.bounds zs y _ k (sym e))
line_told shape (Some zs) None x y h k e = absurd (line_no_b (shape.numbers + shape.bounds) shape.bounds zs x _ h e)
line_told shape (Some []) (Some []) x y h k e = (refl, cc)
line_told shape (Some []) (Some (w ∷ ws)) x y h k e = absurd (omega (arith, h.size, k.size))
line_told shape (Some (z ∷ zs)) (Some []) x y h k e = absurd (omega (arith, h.size, k.size))
line_told shape (Some (z ∷ zs)) (Some (w ∷ ws)) x y h k e =
    let q = all_symbols_told shape.bounds (shape.numbers + shape.bounds) (z ∷ zs) (w ∷ ws) x y h k e in
    (ap (λ (l : List (Option ℤ)). Some l) q.0, q.1)

pub all_lines_told : (shape : Shape) (points : ℕ) → AreTold (AreLines shape points) lines_text
all_lines_told shape points = lists_told (λ (m : ℕ). IsLine shape) (λ (m : ℕ). line_text) (λ m. line_told shape) points

pub lines_are_told : LinesAreTold
lines_are_told shape points h k a b i j x y e =
    let heads = heads_told h k (lines_text a) (lines_text b) i j e in
    let q = all_lines_told shape points a b [] [] x y (ap (λ (t : List ℕ). t ++ []) heads.1) in
    (heads.0, q.0)

-- ---- where a line stops

same_b : (x y : List ℕ) → slice_index x 0 ≡ 98 → x ≡ y → (s : List ℕ) × (y ≡ 98 ∷ s)
same_b x [] h e = absurd (let z : slice_index x 0 ≡ 0 = ap (λ (t : List ℕ). slice_index t 0) e in omega (arith, h, z))
same_b x (c ∷ y) h e = (y, ap (λ (d : ℕ). d ∷ y) (sym (ap (λ (t : List ℕ). slice_index t 0) e) ∙ h))

-- bytes that begin with `b`
pub bottom_stops : (shape : Shape) (bytes : List ℕ) (n : ℕ) → slice_index bytes 0 ≡ 98 → IsStop (λ (t : List ℕ). t ≡ codes "bot\n") bytes n
    → IsStop (TextsOf (IsLine shape) line_text) bytes n
bottom_stops shape bytes n first = stop_part_first (λ (t : List ℕ). t ≡ codes "bot\n") (TextsOf (IsLine shape) line_text) bytes n
    (λ x e. ([], (None, tt, append-nil x ∙ e)))
    (λ x f b. back x b.1 b.2.0 b.2.1 (f ∙ first) (b.3 ∙ ap (λ (t : List ℕ). t ++ b.1) b.2.2))
  where
    back : (x r : List ℕ) (line : Line) → IsLine shape line → slice_index x 0 ≡ 98 → x ≡ line_text line ++ r → Leads (λ (t : List ℕ). t ≡ codes "bot\n") x
    back x r None is f e = (codes "bot\n", r, refl, e)
    back x r (Some zs) is f e = let s = same_b x (symbols_text zs ++ r) f e in absurd (line_no_b (shape.numbers + shape.bounds) shape.bounds zs r s.0 is s.1)

-- bytes that don't, where lines have no symbols
pub empty_stops : (shape : Shape) (bytes : List ℕ) (n : ℕ) → (slice_index bytes 0 ≡ 98 → ⊥) → shape.numbers + shape.bounds ≡ 0
    → IsStop (λ (t : List ℕ). t ≡ 10 ∷ []) bytes n → IsStop (TextsOf (IsLine shape) line_text) bytes n
empty_stops shape bytes n first none = stop_part_first (λ (t : List ℕ). t ≡ 10 ∷ []) (TextsOf (IsLine shape) line_text) bytes n
    (λ x e. ([], (Some [], record { size = sym none; each = tt }, append-nil x ∙ e)))
    (λ x f b. back x b.1 b.2.0 b.2.1 f (b.3 ∙ ap (λ (t : List ℕ). t ++ b.1) b.2.2))
  where
    back : (x r : List ℕ) (line : Line) → IsLine shape line → slice_index x 0 ≡ slice_index bytes 0 → x ≡ line_text line ++ r → Leads (λ (t : List ℕ). t ≡ 10 ∷ []) x
    back x r None is f e = absurd (first (sym f ∙ ap (λ (t : List ℕ). slice_index t 0) e))
    back x r (Some []) is f e = (10 ∷ [], r, refl, e)
    back x r (Some (z ∷ zs)) is f e = absurd (omega (arith, is.size, none))

-- and where they have some
pub line_stops : (shape : Shape) (bytes : List ℕ) (n : ℕ) → (slice_index bytes 0 ≡ 98 → ⊥) → 0 < shape.numbers + shape.bounds
    → IsStop (Texts (IsSymbol shape.bounds) ended_text (shape.numbers + shape.bounds)) bytes n → IsStop (TextsOf (IsLine shape) line_text) bytes n
line_stops shape bytes n first some = stop_part_first (Texts (IsSymbol shape.bounds) ended_text (shape.numbers + shape.bounds)) (TextsOf (IsLine shape) line_text) bytes n
    (λ x t. on x t.0 t.1 t.2)
    (λ x f b. back x b.1 b.2.0 b.2.1 f (b.3 ∙ ap (λ (t : List ℕ). t ++ b.1) b.2.2))
  where
    on : (x : List ℕ) (zs : List (Option ℤ)) → AreEach (shape.numbers + shape.bounds) (IsSymbol shape.bounds) zs → x ≡ text_of ended_text zs → Begins (TextsOf (IsLine shape) line_text) x
    on x [] each e = absurd (omega (arith, each.size, some))
    on x (z ∷ zs) each e = ([], (Some (z ∷ zs), each, append-nil x ∙ e))

    back : (x r : List ℕ) (line : Line) → IsLine shape line → slice_index x 0 ≡ slice_index bytes 0 → x ≡ line_text line ++ r
        → Leads (Texts (IsSymbol shape.bounds) ended_text (shape.numbers + shape.bounds)) x
    back x r None is f e = absurd (first (sym f ∙ ap (λ (t : List ℕ). slice_index t 0) e))
    back x r (Some []) is f e = absurd (omega (arith, is.size, some))
    back x r (Some (z ∷ zs)) is f e = (text_of ended_text (z ∷ zs), r, (z ∷ zs, is, refl), e)

-- ---- the symbols of a line, one behind the other

abbrev pub SymbolsSo : (bounds count : ℕ) (bytes : List ℕ) (symbols : List Symbol) (k at : ℕ) → Type 0
SymbolsSo bounds count bytes symbols k at =
    (zs : List (Option ℤ)) × (k ≤ count) × AreReading (IsSymbol bounds) ended_text count (count - k) bytes zs at × (symbols ≡ map seen zs)

pub symbols_begun : (bounds count : ℕ) (bytes : List ℕ) → SymbolsSo bounds count bytes [] 0 0
symbols_begun bounds count bytes =
    let all : count ≡ count - 0 = omega arith in
    ([], omega arith, subst (λ (j : ℕ). AreReading (IsSymbol bounds) ended_text count j bytes [] 0) all (begun (IsSymbol bounds) ended_text count bytes), refl)

left : (count k : ℕ) → k < count → count - k ≡ suc (count - 1 - k)
left count k h = omega (arith, h)

pub symbols_next : (bounds count : ℕ) (bytes : List ℕ) (symbols : List Symbol) (k at : ℕ) (s : Symbol) (n : ℕ) → SymbolsSo bounds count bytes symbols k at → k < count
    → IsSymbolRead bounds (count - 1 - k) (drop at bytes) s n → SymbolsSo bounds count bytes (symbols ++ s ∷ []) (k + 1) (at + n)
symbols_next bounds count bytes symbols k at s n so h r =
    let m : ℕ = count - 1 - k in
    let same : m ≡ count - (k + 1) = omega (arith, h) in
    let before = subst (λ (j : ℕ). AreReading (IsSymbol bounds) ended_text count j bytes so.0 at) (left count k h) so.2 in
    let after = next (IsSymbol bounds) ended_text (λ j. symbols_told bounds j) count m bytes so.0 at r.z n before r.is r.first in (
      so.0 ++ r.z ∷ [],
      omega (arith, h),
      subst (λ (j : ℕ). AreReading (IsSymbol bounds) ended_text count j bytes (so.0 ++ r.z ∷ []) (at + n)) same after,
      (λ i. so.3 i ++ r.seen i ∷ []) ∙ sym (map-append seen so.0 (r.z ∷ [])),
    )

pub number_there : (bounds m : ℕ) → (z : Option ℤ) × IsSymbol bounds m z
number_there bounds m = (Some (pos 0), record { number = λ _. refl; short = omega arith })

pub symbols_stop : (bounds count : ℕ) (bytes : List ℕ) (symbols : List Symbol) (k at n : ℕ) → SymbolsSo bounds count bytes symbols k at → k < count
    → IsStop (TextsOf (IsSymbol bounds (count - 1 - k)) (ended_text (count - 1 - k))) (drop at bytes) n → IsStop (Texts (IsSymbol bounds) ended_text count) bytes (at + n)
symbols_stop bounds count bytes symbols k at n so h s =
    stopped (IsSymbol bounds) ended_text (λ j. symbols_told bounds j) (number_there bounds) count (count - 1 - k) bytes so.0 at n
    (subst (λ (j : ℕ). AreReading (IsSymbol bounds) ended_text count j bytes so.0 at) (left count k h) so.2) s

pub symbols_ended : (bounds count : ℕ) (bytes : List ℕ) (symbols : List Symbol) (at : ℕ) → SymbolsSo bounds count bytes symbols count at → AreSymbolsRead bounds count bytes symbols at
symbols_ended bounds count bytes symbols at so =
    let none : count - count ≡ 0 = omega arith in
    let e = ended (IsSymbol bounds) ended_text count bytes so.0 at (subst (λ (j : ℕ). AreReading (IsSymbol bounds) ended_text count j bytes so.0 at) none so.2) in
    record { zs = so.0; are = e.0; seen = so.3; first = e.1 }

-- so the line is read
pub line_read : (shape : Shape) (bytes : List ℕ) (row : Row) (symbols : List Symbol) (at : ℕ) → 0 < shape.numbers + shape.bounds → row_view row ≡ Some symbols
    → AreSymbolsRead shape.bounds (shape.numbers + shape.bounds) bytes symbols at → IsRowRead shape bytes row at
line_read shape bytes row symbols at some view r = by r.zs r.are r.seen r.first
  where
    by : (zs : List (Option ℤ)) → AreEach (shape.numbers + shape.bounds) (IsSymbol shape.bounds) zs → symbols ≡ map seen zs → AreFirst (text_of ended_text zs) bytes at → IsRowRead shape bytes row at
    by [] are is first = absurd (omega (arith, are.size, some))
    by (z ∷ zs) are is first = record { line = Some (z ∷ zs); is = are; seen = view ∙ ap (λ (l : List Symbol). Some l) is; first = first }

-- ---- the lines of a certificate, one behind the other

abbrev pub LinesSo : (shape : Shape) (points : ℕ) (bytes : List ℕ) (rows : List Row) (k at : ℕ) → Type 0
LinesSo shape points bytes rows k at =
    (lines : List Line) × (k ≤ points) × AreReading (λ (m : ℕ). IsLine shape) (λ (m : ℕ). line_text) points (points - k) bytes lines at × (map row_view rows ≡ map seen_line lines)

pub lines_begun : (shape : Shape) (points : ℕ) (bytes : List ℕ) → LinesSo shape points bytes [] 0 0
lines_begun shape points bytes =
    let all : points ≡ points - 0 = omega arith in
    ([], omega arith, subst (λ (j : ℕ). AreReading (λ (m : ℕ). IsLine shape) (λ (m : ℕ). line_text) points j bytes [] 0) all (begun (λ (m : ℕ). IsLine shape) (λ (m : ℕ). line_text) points bytes), refl)

pub lines_next : (shape : Shape) (points : ℕ) (bytes : List ℕ) (rows : List Row) (k at : ℕ) (row : Row) (n : ℕ) → LinesSo shape points bytes rows k at → k < points
    → IsRowRead shape (drop at bytes) row n → LinesSo shape points bytes (rows ++ row ∷ []) (k + 1) (at + n)
lines_next shape points bytes rows k at row n so h r =
    let m : ℕ = points - 1 - k in
    let same : m ≡ points - (k + 1) = omega (arith, h) in
    let before = subst (λ (j : ℕ). AreReading (λ (i : ℕ). IsLine shape) (λ (i : ℕ). line_text) points j bytes so.0 at) (left points k h) so.2 in
    let after = next (λ (i : ℕ). IsLine shape) (λ (i : ℕ). line_text) (λ j. line_told shape) points m bytes so.0 at r.line n before r.is r.first in (
      so.0 ++ r.line ∷ [],
      omega (arith, h),
      subst (λ (j : ℕ). AreReading (λ (i : ℕ). IsLine shape) (λ (i : ℕ). line_text) points j bytes (so.0 ++ r.line ∷ []) (at + n)) same after,
      map-append row_view rows (row ∷ []) ∙ (λ i. so.3 i ++ r.seen i ∷ []) ∙ sym (map-append seen_line so.0 (r.line ∷ [])),
    )

pub bottom_there : (shape : Shape) (m : ℕ) → (line : Line) × IsLine shape line
bottom_there shape m = (None, tt)

pub lines_stop : (shape : Shape) (points : ℕ) (bytes : List ℕ) (rows : List Row) (k at n : ℕ) → LinesSo shape points bytes rows k at → k < points
    → IsStop (TextsOf (IsLine shape) line_text) (drop at bytes) n → IsStop (TextsOf (AreLines shape points) lines_text) bytes (at + n)
lines_stop shape points bytes rows k at n so h s =
    stopped (λ (i : ℕ). IsLine shape) (λ (i : ℕ). line_text) (λ j. line_told shape) (bottom_there shape) points (points - 1 - k) bytes so.0 at n
    (subst (λ (j : ℕ). AreReading (λ (i : ℕ). IsLine shape) (λ (i : ℕ). line_text) points j bytes so.0 at) (left points k h) so.2) s

pub lines_ended : (shape : Shape) (points : ℕ) (bytes : List ℕ) (rows : List Row) (at : ℕ) → LinesSo shape points bytes rows points at → AreRowsRead shape points bytes rows at
lines_ended shape points bytes rows at so =
    let none : points - points ≡ 0 = omega arith in
    let e = ended (λ (i : ℕ). IsLine shape) (λ (i : ℕ). line_text) points bytes so.0 at (subst (λ (j : ℕ). AreReading (λ (i : ℕ). IsLine shape) (λ (i : ℕ). line_text) points j bytes so.0 at) none so.2) in
    record { lines = so.0; are = e.0; seen = so.3; first = e.1 }

-- ---- whole certificates

module _ (shape : Shape) (points : ℕ) (h : HeadOf) (bytes : List ℕ) (len : ℕ) (first : AreFirst (head_text h) bytes len) where
  -- a stop in the lines
  pub certificate_stops : (n : ℕ) → IsStop (TextsOf (AreLines shape points) lines_text) (drop len bytes) n → IsFirstWrong (IsCertificate shape points h) bytes (len + n)
  certificate_stops n s =
      let there = wrong_behind (TextsOf (AreLines shape points) lines_text) (IsCertificate shape points h) (head_text h) (drop len bytes) n
      (λ x t. (t.0, t.1, ap (λ (y : List ℕ). head_text h ++ y) t.2))
      (λ x c. (c.0, c.1, append_cancel_left (head_text h) x (lines_text c.0) c.2))
      (stop_alone (TextsOf (AreLines shape points) lines_text) (drop len bytes) n s) in
      subst (λ (j : ℕ). IsFirstWrong (IsCertificate shape points h) bytes (j + n)) (sym first.size)
      (subst (λ (b : List ℕ). IsFirstWrong (IsCertificate shape points h) b (length (head_text h) + n)) (sym first.told) there)

  -- bytes behind the lines
  pub certificate_goes_on : (lines : List Line) (n : ℕ) → AreLines shape points lines → AreFirst (lines_text lines) (drop len bytes) n → len + n < length bytes
      → IsFirstWrong (IsCertificate shape points h) bytes (len + n)
  certificate_goes_on lines n are first_lines more = record {
    there = omega (arith, more);
    before = ([], (lines, are, append-nil (take (len + n) bytes) ∙ all));
    wrong = λ l b.
        let rest : List ℕ = slice_index bytes (len + n) ∷ b.0 in
        let e : lines_text lines ++ rest ≡ lines_text b.1.0 ++ [] =
        append_cancel_left (head_text h) (lines_text lines ++ rest) (lines_text b.1.0 ++ [])
        (sym (append_assoc (head_text h) (lines_text lines) rest) ∙ ap (λ (x : List ℕ). x ++ rest) (sym all) ∙ sym (append_assoc (take (len + n) bytes) (slice_index bytes (len + n) ∷ []) b.0)
        ∙ ap (λ (x : List ℕ). x ++ b.0) (sym (take-suc bytes (len + n) 0 l)) ∙ b.1.2 ∙ ap (λ (x : List ℕ). head_text h ++ x) (sym (append-nil (lines_text b.1.0)))) in
        let q = all_lines_told shape points lines b.1.0 rest [] are b.1.1 e in
        let none : rest ≡ [] = q.1 in
        cc;
    early = λ e c. omega (arith, e, more);
  }
    where
      all : take (len + n) bytes ≡ certificate_text h lines
      all =
          take-add len n bytes
          ∙ (λ i. front i ++ behind i)
        where
          front : take len bytes ≡ head_text h
          front = ap (λ (x : List ℕ). take len x) first.told ∙ ap (λ (j : ℕ). take j (head_text h ++ drop len bytes)) first.size ∙ take-append_seam (head_text h) (drop len bytes)

          behind : take n (drop len bytes) ≡ lines_text lines
          behind = ap (λ (x : List ℕ). take n x) first_lines.told ∙ ap (λ (j : ℕ). take j (lines_text lines ++ drop n (drop len bytes))) first_lines.size ∙ take-append_seam (lines_text lines) (drop n (drop len bytes))

  -- nothing behind them
  pub certificate_ends : (lines : List Line) (n : ℕ) → AreFirst (lines_text lines) (drop len bytes) n → length bytes ≤ len + n → bytes ≡ certificate_text h lines
  certificate_ends lines n first_lines last =
      first.told ∙ ap (λ (x : List ℕ). head_text h ++ x)
      (first_lines.told ∙ ap (λ (x : List ℕ). lines_text lines ++ x) (drop_all n (drop len bytes) (omega (arith, length-drop len bytes, last))) ∙ append-nil (lines_text lines))

  pub certificate_read : (rows : List Row) (n : ℕ) → AreRowsRead shape points (drop len bytes) rows n → length bytes ≤ len + n → AreRead shape points h bytes rows
  certificate_read rows n r last = record { lines = r.lines; are = r.are; told = certificate_ends r.lines n r.first last; seen = r.seen }

-- ---- what errors tell

pub line_stops_at : (shape : Shape) (bytes : List ℕ) (e : Unread) → (slice_index bytes 0 ≡ 98 → ⊥) → 0 < shape.numbers + shape.bounds
    → StopsAt (Texts (IsSymbol shape.bounds) ended_text (shape.numbers + shape.bounds)) bytes e → StopsAt (TextsOf (IsLine shape) line_text) bytes e
line_stops_at shape bytes (Byte n) first some s = line_stops shape bytes n first some s
line_stops_at shape bytes Memory first some s = tt
