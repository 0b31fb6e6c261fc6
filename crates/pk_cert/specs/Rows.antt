-- Lines of cells: `bot`, or numbers and `*` parted by one space.
use Rattle.std.specs.Prelude.{◌≡◌, ℕ, ◌+◌, ◌<◌, ◌≤◌, ◌^◌, ◌==◌, if◌then◌else◌, nat_lt, ℤ, unsigned_abs, List, [], ◌∷◌, ◌++◌, map, length, Option, Some, None, option_map, IfSome, is_some, true, codes}
use Rattle.std.specs.Fmt.{signed_decimal}
use Rattle.pk_cert.specs.declared.rows.Shape.{Shape}
use Rattle.pk_cert.specs.declared.rows.Symbol.{Symbol}
use Rattle.pk_cert.specs.declared.rows.Symbol.TheVariants.{Star, Number, Far}
use Rattle.pk_cert.specs.declared.rows.Row.{Row}
use Rattle.pk_cert.specs.declared.rows.Row.TheVariants.{Bottom, Symbols}

-- a number, or none for `*`
abbrev pub symbol_text : Option ℤ → List ℕ
symbol_text None = codes "*"
symbol_text (Some z) = signed_decimal z

-- at most 39 digits
abbrev pub IsShort : ℤ → Type 0
IsShort z = unsigned_abs z < 10 ^ 39

-- the symbol behind which m others stand: one of the bounds, of which each may be `*`, if there are more bounds than that
pub record IsSymbol (bounds m : ℕ) (z : Option ℤ) : Type 0 where
  pub number : bounds ≤ m → is_some z ≡ true
  pub short : IfSome z IsShort

abbrev pub end_of : ℕ → ℕ
end_of m = if m == 0 then 10 else 32

-- a symbol behind which m others stand, and what ends it: a space, or the line's end
abbrev pub ended_text : ℕ → Option ℤ → List ℕ
ended_text m z = symbol_text z ++ end_of m ∷ []

-- each of a list's values, of which it is told how many stand behind it
abbrev pub EachOf : {A : Type 0} → (ℕ → A → Type 0) → List A → Type 0
EachOf P [] = Unit {0}
EachOf P (a ∷ more) = P (length more) a × EachOf P more

-- so many such values
pub record AreEach {A : Type 0} (count : ℕ) (P : ℕ → A → Type 0) (list : List A) : Type 0 where
  pub size : length list ≡ count
  pub each : EachOf P list

abbrev pub text_of : {A : Type 0} → (ℕ → A → List ℕ) → List A → List ℕ
text_of text [] = []
text_of text (a ∷ more) = text (length more) a ++ text_of text more

-- the symbols of a line, which are none where it is `bot`
abbrev pub Line : Type 0
Line = Option (List (Option ℤ))

abbrev pub symbols_text : List (Option ℤ) → List ℕ
symbols_text [] = 10 ∷ []
symbols_text (z ∷ zs) = text_of ended_text (z ∷ zs)

abbrev pub line_text : Line → List ℕ
line_text None = codes "bot\n"
line_text (Some zs) = symbols_text zs

-- as many symbols as the shape has numbers and bounds, the numbers first
abbrev pub IsLine : Shape → Line → Type 0
IsLine shape None = Unit {0}
IsLine shape (Some zs) = AreEach (shape.numbers + shape.bounds) (IsSymbol shape.bounds) zs

abbrev pub AreLines : Shape → ℕ → List Line → Type 0
AreLines shape points = AreEach points (λ (m : ℕ). IsLine shape)

abbrev pub lines_text : List Line → List ℕ
lines_text = text_of (λ (m : ℕ). line_text)

-- ---- as values of the program

-- a number of less than 2^127, without its sign, is kept
abbrev pub seen : Option ℤ → Symbol
seen None = Star
seen (Some z) = if nat_lt (unsigned_abs z) (2 ^ 127) then Number z else Far

-- each number is kept
abbrev pub kept : Option ℤ → Symbol
kept None = Star
kept (Some z) = Number z

abbrev pub kept_line : Line → Option (List Symbol)
kept_line = option_map (map kept)

abbrev pub seen_line : Line → Option (List Symbol)
seen_line = option_map (map seen)

abbrev pub row_view : Row → Option (List Symbol)
row_view Bottom = None
row_view (Symbols v) = Some v.items
