-- The pieces of a certificate's lines, as they are read one behind the other.
use Rattle.std.specs.Prelude.{◌≡◌, ℕ, ◌+◌, ◌-◌, ◌*◌, ◌^◌, ◌<◌, ◌≤◌, true, ℤ, List, [], ◌∷◌, ◌++◌, map, length, take, drop, slice_index, Option}
use Rattle.std.specs.Fmt.{decimal}
use Rattle.pk_lex.specs.Words.{is_name}
use Rattle.pk_cert.specs.Beginnings.{TextsOf, IsStop}
use Rattle.pk_cert.specs.declared.failures.Unread.{Unread}
use Rattle.pk_cert.specs.declared.failures.Unread.TheVariants.{Byte, Memory}
use Rattle.pk_cert.specs.declared.numbers.Decimal.{Decimal}
use Rattle.pk_cert.specs.declared.rows.Shape.{Shape}
use Rattle.pk_cert.specs.declared.rows.Symbol.{Symbol}
use Rattle.pk_cert.specs.declared.rows.Row.{Row}
use Rattle.pk_cert.specs.declared.heads.Head.{Head}
use Rattle.pk_cert.specs.declared.heads.Places.{Places}
use Rattle.pk_cert.specs.Rows.{Line, IsSymbol, ended_text, AreEach, text_of, IsLine, line_text, AreLines, lines_text, seen, seen_line, row_view}
use Rattle.pk_cert.specs.Heads.{HeadOf, IsHead, head_text, head_view}

-- the first n bytes are this text
pub record AreFirst (text bytes : List ℕ) (n : ℕ) : Type 0 where
  pub size : n ≡ length text
  pub told : bytes ≡ text ++ drop n bytes

-- ---- numbers

-- a number of up to 39 digits, of which the last is kept apart: it can pass 2^128
abbrev pub value_of : Decimal → ℕ
value_of d = 10 * d.tens + d.last

pub record IsDecimal (d : Decimal) : Type 0 where
  pub tens : d.tens < 10 ^ 38
  pub last : d.last < 10

-- the first byte is a digit of a number from `least` on, which is 0 or 1
pub record IsFirstDigit (least : ℕ) (bytes : List ℕ) : Type 0 where
  pub some : 0 < length bytes
  pub low : 48 + least ≤ slice_index bytes 0
  pub high : slice_index bytes 0 ≤ 57

pub record IsDigitRead (least : ℕ) (bytes : List ℕ) (d : Decimal) : Type 0 where
  pub first : IsFirstDigit least bytes
  pub tens : d.tens ≡ 0
  pub last : d.last ≡ slice_index bytes 0 - 48

-- the digit b makes w of the number v: behind 0 none stands
pub record IsDigitBehind (v b w : ℕ) : Type 0 where
  pub low : 48 ≤ b
  pub high : b ≤ 57
  pub some : 0 < v
  pub value : w ≡ 10 * v + (b - 48)

pub record IsBetween (least most n : ℕ) : Type 0 where
  pub low : least ≤ n
  pub high : n ≤ most

abbrev pub counted : ℕ → ℕ → List ℕ
counted end n = decimal n ++ end ∷ []

pub record IsCount (least most end : ℕ) (bytes : List ℕ) (d : Decimal) (n : ℕ) : Type 0 where
  pub is : IsDecimal d
  pub between : IsBetween least most (value_of d)
  pub first : AreFirst (counted end (value_of d)) bytes n

-- ---- names and texts

abbrev pub IsName : List ℕ → Type 0
IsName name = is_name name ≡ true

abbrev pub IsBlock : ℕ → List ℕ → Type 0
IsBlock size text = length text ≡ size

-- a text, and the line's end
abbrev pub lined : List ℕ → List ℕ
lined text = text ++ 10 ∷ []

-- the first n bytes are a name, and a line's end stands behind it
pub record IsLinedName (bytes : List ℕ) (n : ℕ) : Type 0 where
  pub is : IsName (take n bytes)
  pub first : AreFirst (lined (take n bytes)) bytes (n + 1)

pub record IsLinedBlock (size : ℕ) (bytes : List ℕ) : Type 0 where
  pub is : IsBlock size (take size bytes)
  pub first : AreFirst (lined (take size bytes)) bytes (size + 1)

-- ---- heads, part by part

-- the text of a value, and behind it a text of a class that the value decides
abbrev pub Two : {A : Type 0} → (A → Type 0) → (A → List ℕ) → (A → List ℕ → Type 0) → List ℕ → Type 0
Two {A} P text K bytes = (a : A) × (x : List ℕ) × P a × K a x × (bytes ≡ text a ++ x)

-- a head from its entry on, where its text has so many bytes
abbrev pub FromEntry : ℕ → List ℕ → Type 0
FromEntry size = Two IsName lined (λ (e : List ℕ). TextsOf (IsBlock size) lined)

-- from the octagon's size on
abbrev pub FromOct : ℕ → List ℕ → Type 0
FromOct size = Two (IsBetween 0 64) (counted 32) (λ (n : ℕ). FromEntry size)

-- from the text's length on
abbrev pub FromSize : List ℕ → Type 0
FromSize = Two (IsBetween 0 4194304) (counted 32) FromOct

pub record IsNumber (most : ℕ) (bytes : List ℕ) (number n : ℕ) : Type 0 where
  pub between : IsBetween 0 most number
  pub first : AreFirst (counted 32 number) bytes n

-- an entry of n bytes, and a text
pub record IsEntryRead (size : ℕ) (bytes : List ℕ) (n : ℕ) : Type 0 where
  pub entry : IsLinedName bytes n
  pub text : IsLinedBlock size (drop (n + 1) bytes)

pub record IsOctRead (size : ℕ) (bytes : List ℕ) (p : Places) : Type 0 where
  pub oct : IsNumber 64 bytes p.oct p.oct_len
  pub entry : IsEntryRead size (drop p.oct_len bytes) p.entry_len

pub record IsSizeRead (bytes : List ℕ) (size n : ℕ) (p : Places) : Type 0 where
  pub first : IsNumber 4194304 bytes size n
  pub rest : IsOctRead size (drop n bytes) p

pub record IsHeadRead (bytes : List ℕ) (h : Head) : Type 0 where
  pub is : IsHead (head_view h)
  pub first : AreFirst (head_text (head_view h)) bytes h.len

-- bytes begin with this head
pub record BeginsWith (bytes : List ℕ) (h : HeadOf) : Type 0 where
  pub is : IsHead h
  pub len : ℕ
  pub first : AreFirst (head_text h) bytes len

-- ---- lines

-- the error tells the byte at which bytes stop, unless memory was wanting
abbrev pub StopsAt : (List ℕ → Type 0) → List ℕ → Unread → Type 0
StopsAt C bytes (Byte n) = IsStop C bytes n
StopsAt C bytes Memory = Unit {0}

-- neither `-` stands first, nor a `*` that could stand there
pub record BeginsAsNumber (bounds m : ℕ) (bytes : List ℕ) : Type 0 where
  pub sign : slice_index bytes 0 ≡ 45 → ⊥
  pub star : m < bounds → slice_index bytes 0 ≡ 42 → ⊥

pub record IsSymbolRead (bounds m : ℕ) (bytes : List ℕ) (s : Symbol) (n : ℕ) : Type 0 where
  pub z : Option ℤ
  pub is : IsSymbol bounds m z
  pub seen : s ≡ seen z
  pub first : AreFirst (ended_text m z) bytes n

-- the symbols of a line that has so many
pub record AreSymbolsRead (bounds count : ℕ) (bytes : List ℕ) (symbols : List Symbol) (n : ℕ) : Type 0 where
  pub zs : List (Option ℤ)
  pub are : AreEach count (IsSymbol bounds) zs
  pub seen : symbols ≡ map seen zs
  pub first : AreFirst (text_of ended_text zs) bytes n

pub record IsRowRead (shape : Shape) (bytes : List ℕ) (row : Row) (n : ℕ) : Type 0 where
  pub line : Line
  pub is : IsLine shape line
  pub seen : row_view row ≡ seen_line line
  pub first : AreFirst (line_text line) bytes n

pub record AreRowsRead (shape : Shape) (points : ℕ) (bytes : List ℕ) (rows : List Row) (n : ℕ) : Type 0 where
  pub lines : List Line
  pub are : AreLines shape points lines
  pub seen : map row_view rows ≡ map seen_line lines
  pub first : AreFirst (lines_text lines) bytes n
