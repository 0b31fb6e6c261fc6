use Rattle.std.proofs.Common.{◌≡◌, ℕ, zero, suc, ◌+◌, List, Option, Some, None, refl, ap, ◌∙◌, arith}
use Rattle.pk_origin.specs.declared.sources.Origin.{Origin}
use Rattle.pk_origin.specs.Markers.{MarkerOf}
use Rattle.pk_origin.specs.Origins.{marker_at, origin_behind, origin_of}
use Rattle.pk_origin.specs.Laws.{IsSilent}
use Rattle.pk_origin.proofs.laws.markers_tell_origins.Goals as goal

abbrev place : Option ℕ → ℕ → Origin
place marker line = record { marker = marker; line = line }

-- a silent line
silent : (lines : List (List ℕ)) (k : ℕ) (o : Origin) → marker_at lines k ≡ None → origin_of lines k ≡ o → origin_of lines (suc k) ≡ place o.marker (o.line + 1)
silent lines k o none before = ap (λ (m : Option MarkerOf). origin_behind k m (origin_of lines k)) none ∙ ap (origin_behind k None) before

unmarked : (lines : List (List ℕ)) (k : ℕ) → IsSilent lines 0 k → origin_of lines k ≡ place None (k + 1)
unmarked lines zero none = refl
unmarked lines (suc k) none =
    silent lines k (place None (k + 1)) (none k (omega arith) (omega arith)) (unmarked lines k (λ j h l. none j h (omega arith)))
    ∙ ap (place None) (omega arith)

marked : (lines : List (List ℕ)) (j n : ℕ) (m : MarkerOf) → marker_at lines j ≡ Some m → IsSilent lines (j + 1) (j + 1 + n) →
    origin_of lines (j + 1 + n) ≡ place (Some j) (m.line + n)
marked lines j zero m said none =
    ap (origin_of lines) (let e : j + 1 + 0 ≡ suc j = omega arith in e)
    ∙ ap (λ (o : Option MarkerOf). origin_behind j o (origin_of lines j)) said
    ∙ ap (place (Some j)) (omega arith)
marked lines j (suc n) m said none =
    ap (origin_of lines) (let e : j + 1 + suc n ≡ suc (j + 1 + n) = omega arith in e)
    ∙ silent lines (j + 1 + n) (place (Some j) (m.line + n)) (none (j + 1 + n) (omega arith) (omega arith)) (marked lines j n m said (λ i h l. none i h (omega arith)))
    ∙ ap (place (Some j)) (omega arith)

pub returns : goal.returns
returns c = record { marked = marked; unmarked = unmarked }
