-- The line of an access is read back, and only from its text.
use Rattle.std.proofs.Common.{◌≡◌, [], ◌++◌, refl, true, arith, Some, lit≤}
use Rattle.std.specs.Prelude.{ℤ, codes}
use Rattle.std.specs.Fmt.{decimal, signed_decimal}
use Rattle.pk_ctypes.specs.declared.faults.Fault.{Fault}
use Rattle.pk_ctypes.specs.declared.faults.Fault.TheVariants.{Index, DivZero, Overflow, Shift, Assert}
use Rattle.pk_ctypes.specs.declared.places.Pos.{Pos}
use Rattle.pk_ctypes.specs.Words.{fault_text}
use Rattle.pk_show.specs.declared.rows.Verdict.{Verdict}
use Rattle.pk_show.specs.declared.rows.Verdict.TheVariants.{Safe, Unknown, Unreachable}
use Rattle.pk_show.specs.Pieces.{lacks, place_in, fault_in}
use Rattle.pk_show.specs.Rows.{AccessOf, verdict_text, access_text}
use Rattle.pk_show.specs.Reading.{unknown_in, verdict_in, access_in}
use Rattle.pk_show.specs.Laws.{IsNumber, IsPlace, IsVerdict, IsAccess}
use Rattle.pk_show.proofs.PieceLemmas.{strip_read, cut_read, place_onto, count_read, signed_read, decimal_lacks, signed_lacks}

pub place_read : (at : Pos) → IsPlace at → place_in (decimal at.line) (decimal at.column) ≡ Some at
unfolding place_in
place_read at h = rw (count_read at.line h.line, count_read at.column h.column) refl

fault_read : (f : Fault) → fault_in (fault_text f) ≡ Some f
unfolding fault_in
fault_read Index = refl
fault_read DivZero = refl
fault_read Overflow = refl
fault_read Shift = refl
fault_read Assert = refl

fault_lacks : (f : Fault) → lacks 32 (fault_text f) ≡ true
fault_lacks Index = refl
fault_lacks DivZero = refl
fault_lacks Overflow = refl
fault_lacks Shift = refl
fault_lacks Assert = refl

unknown_read : (lo hi : ℤ) → IsNumber lo → IsNumber hi → unknown_in (verdict_text (Unknown lo hi)) ≡ Some (Unknown lo hi)
unfolding unknown_in
unknown_read lo hi low high =
    rw (
      strip_read (codes "unknown [") (signed_decimal lo ++ (codes "," ++ (signed_decimal hi ++ codes "]"))),
      cut_read 44 [] (signed_decimal lo) (signed_decimal hi ++ codes "]") (signed_lacks 44 lo (lit≤ tt) refl low),
      cut_read 93 [] (signed_decimal hi) [] (signed_lacks 93 hi (lit≤ tt) refl high),
      signed_read lo low,
      signed_read hi high,
    )
    refl

verdict_read : (v : Verdict) → IsVerdict v → verdict_in (verdict_text v) ≡ Some v
unfolding verdict_in
verdict_read Safe h = refl
verdict_read (Unknown lo hi) h = unknown_read lo hi h.0 h.1
verdict_read Unreachable h = refl

pub access_read : (a : AccessOf) → IsAccess a → access_in (access_text a) ≡ Some a
unfolding access_in
access_read a h =
    let behind = codes " " ++ verdict_text a.verdict in
    let kind = codes " " ++ (fault_text a.fault ++ behind) in
    rw (
      place_onto a.at kind,
      strip_read (codes "access ") (a.path ++ (codes " " ++ (decimal a.at.line ++ (codes ":" ++ (decimal a.at.column ++ kind))))),
      cut_read 32 [] a.path (decimal a.at.line ++ (codes ":" ++ (decimal a.at.column ++ kind))) h.path,
      cut_read 58 [] (decimal a.at.line) (decimal a.at.column ++ kind) (decimal_lacks 58 a.at.line (lit≤ tt) (let h' = h.at.line in omega arith)),
      cut_read 32 [] (decimal a.at.column) (fault_text a.fault ++ behind) (decimal_lacks 32 a.at.column (lit≤ tt) (let h' = h.at.column in omega arith)),
      cut_read 32 [] (fault_text a.fault) (verdict_text a.verdict) (fault_lacks a.fault),
      place_read a.at h.at,
      fault_read a.fault,
      verdict_read a.verdict h.verdict,
    )
    refl
