-- Certificates and their bytes determine one another, and all bytes have an answer.
use Rattle.std.specs.Prelude.{◌≡◌, ◌⊎◌, ℕ, List, ◌++◌}
use Rattle.pk_cert.specs.Beginnings.{IsFirstWrong, IsOneWrong}
use Rattle.pk_cert.specs.declared.rows.Shape.{Shape}
use Rattle.pk_cert.specs.Rows.{Line, AreLines}
use Rattle.pk_cert.specs.Heads.{HeadOf, IsHead, head_text, HasHead}
use Rattle.pk_cert.specs.Certificates.{certificate_text, IsCertificate}
use Rattle.pk_cert.specs.Pieces.{BeginsWith}

-- A head and what stands behind it are told by their bytes.
abbrev pub HeadsAreTold : Type 0
HeadsAreTold =
    (h k : HeadOf) (x y : List ℕ) → IsHead h → IsHead k → head_text h ++ x ≡ head_text k ++ y → (h ≡ k) × (x ≡ y)

-- Lines of one shape, as many, are told by the bytes of their certificates.
abbrev pub LinesAreTold : Type 0
LinesAreTold =
    (shape : Shape) (points : ℕ) (h k : HeadOf) (a b : List Line) → IsHead h → IsHead k → AreLines shape points a
    → AreLines shape points b → certificate_text h a ≡ certificate_text k b → (h ≡ k) × (a ≡ b)

-- Bytes have at most one first wrong byte, and none if they have a head, or are a certificate.
pub record FirstWrongIsOne : Type 0 where
  pub heads : (bytes : List ℕ) → IsOneWrong HasHead bytes
  pub lines : (shape : Shape) (points : ℕ) (h : HeadOf) (bytes : List ℕ) →
      IsOneWrong (IsCertificate shape points h) bytes

-- All bytes begin with a head, or have a first byte with which none goes on.
abbrev pub EveryHeadEnds : Type 0
EveryHeadEnds =
    (bytes : List ℕ) → ((h : HeadOf) × BeginsWith bytes h) ⊎ ((n : ℕ) × IsFirstWrong HasHead bytes n)

-- Bytes that begin with a head are a certificate over so many points, or have a first byte with which none goes on.
abbrev pub EveryLinesEnd : Type 0
EveryLinesEnd =
    (shape : Shape) (points : ℕ) (h : HeadOf) (bytes : List ℕ) → BeginsWith bytes h →
    IsCertificate shape points h bytes ⊎ ((n : ℕ) × IsFirstWrong (IsCertificate shape points h) bytes n)
