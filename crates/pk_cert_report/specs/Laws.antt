-- A text has at most one certificate, and bytes one answer of a check.
use Rattle.std.specs.Prelude.{◌≡◌, ◌≢◌, ℕ, List}
use Rattle.pk_analysis.specs.declared.analysis.Options.{Options}
use Rattle.pk_status.specs.declared.status.Status.{Status}
use Rattle.pk_status.specs.declared.status.Status.TheVariants.{Memory}
use Rattle.pk_cert_report.specs.Written.{IsCertified, IsUncertified}
use Rattle.pk_cert_report.specs.Checked.{IsValid, IsInvalid}

-- One certificate, or one cause why there is none, and not both. Want of memory says nothing of the text.
pub record OneCertificate : Type 0 where
  pub certificates : (text entry : List ℕ) (o : Options) (most : ℕ) (a b : List ℕ) →
      IsCertified text entry o most a → IsCertified text entry o most b → a ≡ b
  pub causes : (text entry : List ℕ) (o : Options) (most : ℕ) (s t : Status) → s ≢ Memory → t ≢ Memory →
      IsUncertified text entry o most s → IsUncertified text entry o most t → s ≡ t
  pub apart : (text entry : List ℕ) (o : Options) (most : ℕ) (bytes : List ℕ) (s : Status) → s ≢ Memory →
      IsCertified text entry o most bytes → IsUncertified text entry o most s → ⊥

-- What a check tells, or one cause why it tells nothing, and not both.
pub record OneAnswerOfChecks : Type 0 where
  pub told : (bytes : List ℕ) (m n : ℕ) (a b : List ℕ) → IsValid bytes m a → IsValid bytes n b → (m ≡ n) × (a ≡ b)
  pub causes : (bytes : List ℕ) (s t : Status) → s ≢ Memory → t ≢ Memory → IsInvalid bytes s → IsInvalid bytes t →
      s ≡ t
  pub apart : (bytes : List ℕ) (unknown : ℕ) (told : List ℕ) (s : Status) → s ≢ Memory → IsValid bytes unknown told →
      IsInvalid bytes s → ⊥
