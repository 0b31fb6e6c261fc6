-- Certificates: a head, and for each point a line.
use Rattle.std.specs.Prelude.{◌≡◌, ℕ, List, ◌++◌, map}
use Rattle.pk_cert.specs.Beginnings.{TextsOf, IsFirstWrong}
use Rattle.pk_cert.specs.declared.failures.Unread.{Unread}
use Rattle.pk_cert.specs.declared.failures.Unread.TheVariants.{Byte, Memory}
use Rattle.pk_cert.specs.declared.rows.Shape.{Shape}
use Rattle.pk_cert.specs.declared.rows.Row.{Row}
use Rattle.pk_cert.specs.Rows.{Line, AreLines, lines_text, seen_line, row_view}
use Rattle.pk_cert.specs.Heads.{HeadOf, head_text}

-- the bytes of a head and of lines
abbrev pub certificate_text : HeadOf → List Line → List ℕ
certificate_text h lines = head_text h ++ lines_text lines

-- these bytes, whose head is h, are a certificate over so many points
abbrev pub IsCertificate : Shape → ℕ → HeadOf → List ℕ → Type 0
IsCertificate shape points h = TextsOf (AreLines shape points) (certificate_text h)

-- the rows that these bytes are, one for each point, with nothing behind them
pub record AreRead (shape : Shape) (points : ℕ) (h : HeadOf) (bytes : List ℕ) (rows : List Row) : Type 0 where
  pub lines : List Line
  pub are : AreLines shape points lines
  pub told : bytes ≡ certificate_text h lines
  pub seen : map row_view rows ≡ map seen_line lines

-- the error tells the first wrong byte, unless memory was wanting
abbrev pub IsWrongAt : (List ℕ → Type 0) → List ℕ → Unread → Type 0
IsWrongAt C bytes (Byte n) = IsFirstWrong C bytes n
IsWrongAt C bytes Memory = Unit {0}
