-- Every list of bytes begins with a symbol, with a line and with the lines of a certificate, or stops.
use Rattle.std.specs.Prelude.{◌≡◌, ℕ, zero, suc, ◌+◌, ◌-◌, ◌<◌, ◌≤◌, ◌^◌, ℤ, pos, negsuc, List, [], ◌∷◌, ◌++◌, length, drop, slice_index, Option, Some, None, codes}
use Rattle.std.proofs.Common.{arith, refl, sym, ap, subst, ◌∙◌, inl, inr}
use Rattle.std.proofs.lemmas.Bool.{cases_eq, cases_lt}
use Rattle.pk_cert.specs.declared.rows.Shape.{Shape}
use Rattle.pk_cert.specs.Beginnings.{TextsOf, Leads}
use Rattle.pk_cert.specs.Rows.{IsSymbol, end_of, ended_text, AreEach, text_of, IsLine, line_text, AreLines, lines_text}
use Rattle.pk_cert.specs.Pieces.{IsBetween, counted, BeginsAsNumber}
use Rattle.pk_cert.specs.Laws.{EveryLinesEnd}
use Rattle.pk_cert.proofs.SymbolLemmas.{Symbols, Counts, end_mark, no_star, symbols_told, star_stops, positive_stops, negative_stops}
use Rattle.pk_cert.proofs.Sequences.{AreTold, Texts, AreReading, begun, ended, next, stopped}
use Rattle.pk_cert.proofs.Every.{Ends, first_there, literal_ends, count_ends}
use Rattle.pk_cert.proofs.Lines.{number_there, bottom_there, line_told, bottom_stops, empty_stops, line_stops, certificate_stops, certificate_goes_on, certificate_ends}

-- ---- symbols

number_ends : (least m : ℕ) (bytes : List ℕ) → least ≤ 1 → Ends (Counts least m) bytes
number_ends least m bytes low = count_ends least (10 ^ 39 - 1) (end_of m) low (omega arith) (omega arith) (end_mark m) bytes

positive_ends : (bounds m : ℕ) (bytes : List ℕ) → BeginsAsNumber bounds m bytes → Ends (Symbols bounds m) bytes
positive_ends bounds m bytes begins = elim (number_ends 0 m bytes (omega arith)) [
  | inl l ↦ inl (l.0, l.1, (Some (pos l.2.0), record { number = λ _. refl; short = omega (arith, l.2.1.high) }, l.2.2), l.3)
  | inr s ↦ inr (s.0, positive_stops bounds m bytes s.0 begins s.1)
]

below_0 : (bounds m v : ℕ) (rest text behind : List ℕ) → IsBetween 1 (10 ^ 39 - 1) v → text ≡ counted (end_of m) v → rest ≡ text ++ behind
    → Leads (Symbols bounds m) (45 ∷ rest)
below_0 bounds m zero rest text behind is e f = absurd (omega (arith, is.low))
below_0 bounds m (suc v) rest text behind is e f =
    (45 ∷ text, behind, (Some (negsuc v), record { number = λ _. refl; short = omega (arith, is.high) }, ap (λ (y : List ℕ). 45 ∷ y) e), ap (λ (y : List ℕ). 45 ∷ y) f)

negative_ends : (bounds m : ℕ) (rest : List ℕ) → Ends (Symbols bounds m) (45 ∷ rest)
negative_ends bounds m rest = elim (number_ends 1 m rest (omega arith)) [
  | inl l ↦ inl (below_0 bounds m l.2.0 rest l.0 l.1 l.2.1 l.2.2 l.3)
  | inr s ↦ inr (1 + s.0, negative_stops bounds m rest s.0 s.1)
]

star_ends : (bounds m : ℕ) (bytes : List ℕ) → m < bounds → slice_index bytes 0 ≡ 42 → Ends (Symbols bounds m) bytes
star_ends bounds m bytes some first = elim (literal_ends (42 ∷ end_of m ∷ []) bytes) [
  | inl l ↦ inl (l.0, l.1, (None, no_star bounds m some, l.2), l.3)
  | inr s ↦ inr (s.0, star_stops bounds m bytes s.0 some first s.1)
]

symbol_ends : (bounds m : ℕ) (bytes : List ℕ) → Ends (Symbols bounds m) bytes
symbol_ends bounds m [] = positive_ends bounds m [] record { sign = λ h. omega (arith, h); star = λ _ h. omega (arith, h) }
symbol_ends bounds m (b ∷ rest) = elim (cases_eq b 45) [
  | inl sign ↦ subst (λ (c : ℕ). Ends (Symbols bounds m) (c ∷ rest)) (sym sign) (negative_ends bounds m rest)
  | inr digit ↦ elim (cases_eq b 42) [
    | inl star ↦ elim (cases_lt m bounds) [
      | inl some ↦ star_ends bounds m (b ∷ rest) some star
      | inr none ↦ positive_ends bounds m (b ∷ rest) record { sign = digit; star = λ h _. omega (arith, h, none) }
    ]
    | inr other ↦ positive_ends bounds m (b ∷ rest) record { sign = digit; star = λ _. other }
  ]
]

-- ---- values one behind the other

module _ {A : Type 0} (P : ℕ → A → Type 0) (text : ℕ → A → List ℕ) (told : (m : ℕ) → AreTold (P m) (text m))
    (some : (m : ℕ) → (a : A) × P m a) (one : (m : ℕ) (bytes : List ℕ) → Ends (TextsOf (P m) (text m)) bytes) where
  others_end : (n m : ℕ) (bytes : List ℕ) (done : List A) (at : ℕ) → AreReading P text n m bytes done at → Ends (Texts P text n) bytes
  others_end n zero bytes done at r =
      let e = ended P text n bytes done at r in
      inl (text_of text done, drop at bytes, (done, e.0, refl), e.1.told)
  others_end n (suc m) bytes done at r = elim (one m (drop at bytes)) [
    | inl l ↦
        let a : A = l.2.0 in
        let first = first_there (text m a) l.1 (drop at bytes) (l.3 ∙ ap (λ (x : List ℕ). x ++ l.1) l.2.2) in
        others_end n m bytes (done ++ a ∷ []) (at + length (text m a)) (next P text told n m bytes done at a (length (text m a)) r l.2.1 first)
    | inr s ↦ inr (at + s.0, stopped P text told some n m bytes done at s.0 r s.1)
  ]

  pub each_ends : (n : ℕ) (bytes : List ℕ) → Ends (Texts P text n) bytes
  each_ends n bytes = others_end n n bytes [] 0 (begun P text n bytes)

-- ---- lines

module _ (shape : Shape) (bytes : List ℕ) where
  symbols_line : (zs : List (Option ℤ)) (text rest : List ℕ) → 0 < shape.numbers + shape.bounds → AreEach (shape.numbers + shape.bounds) (IsSymbol shape.bounds) zs
      → text ≡ text_of ended_text zs → bytes ≡ text ++ rest → Leads (TextsOf (IsLine shape) line_text) bytes
  symbols_line [] text rest some are e f = absurd (omega (arith, are.size, some))
  symbols_line (z ∷ zs) text rest some are e f = (text, rest, (Some (z ∷ zs), are, e), f)

  line_ends : Ends (TextsOf (IsLine shape) line_text) bytes
  line_ends = elim (cases_eq (slice_index bytes 0) 98) [
    | inl first ↦ elim (literal_ends (codes "bot\n") bytes) [
      | inl l ↦ inl (l.0, l.1, (None, tt, l.2), l.3)
      | inr s ↦ inr (s.0, bottom_stops shape bytes s.0 first s.1)
    ]
    | inr other ↦ elim (cases_lt 0 (shape.numbers + shape.bounds)) [
      | inl some ↦ elim (each_ends (IsSymbol shape.bounds) ended_text (λ m. symbols_told shape.bounds m) (number_there shape.bounds) (symbol_ends shape.bounds) (shape.numbers + shape.bounds) bytes) [
        | inl l ↦ inl (symbols_line l.2.0 l.0 l.1 some l.2.1 l.2.2 l.3)
        | inr s ↦ inr (s.0, line_stops shape bytes s.0 other some s.1)
      ]
      | inr none ↦
          let no : shape.numbers + shape.bounds ≡ 0 = omega (arith, none) in
          elim (literal_ends (10 ∷ []) bytes) [
            | inl l ↦ inl (l.0, l.1, (Some [], record { size = sym no; each = tt }, l.2), l.3)
            | inr s ↦ inr (s.0, empty_stops shape bytes s.0 other no s.1)
          ]
    ]
  ]

lines_end : (shape : Shape) (points : ℕ) (bytes : List ℕ) → Ends (TextsOf (AreLines shape points) lines_text) bytes
lines_end shape =
    each_ends (λ (m : ℕ). IsLine shape) (λ (m : ℕ). line_text) (λ m. line_told shape) (bottom_there shape) (λ m. line_ends shape)

pub every_lines_end : EveryLinesEnd
every_lines_end shape points h bytes begins = elim (lines_end shape points (drop begins.len bytes)) [
  | inl l ↦
      let n : ℕ = length (lines_text l.2.0) in
      let first = first_there (lines_text l.2.0) l.1 (drop begins.len bytes) (l.3 ∙ ap (λ (x : List ℕ). x ++ l.1) l.2.2) in
      elim (cases_lt (begins.len + n) (length bytes)) [
        | inl more ↦ inr (begins.len + n, certificate_goes_on shape points h bytes begins.len begins.first l.2.0 n l.2.1 first more)
        | inr last ↦ inl (l.2.0, l.2.1, certificate_ends shape points h bytes begins.len begins.first l.2.0 n first last)
      ]
  | inr s ↦ inr (begins.len + s.0, certificate_stops shape points h bytes begins.len begins.first s.0 s.1)
]
