-- Closings of octagons that ranges have lowered.
use Rattle.std.specs.Prelude.{◌≡◌, ◌*◌, ℕ, List, Some}
use Rattle.std.proofs.Common.{◌∙◌, ap, sym, subst, refl, arith, length}
use Rattle.pk_octmat.specs.Octagon.{Octagon, entry, cell_at, IsOctagon}
use Rattle.pk_octclose.specs.Closing.{IsClosing}
use Rattle.pk_octclose.specs.Places.{closing_of}
use Rattle.pk_octclose.proofs.Again.{closing_again}
use Rattle.pk_octclose.proofs.Floyd.{closing_right}
use Rattle.pk_octmarks.specs.Marks.{IsMarked}
use Rattle.pk_octmarks.specs.declared.mark.Mark.TheVariants.{Closed}
use Rattle.pk_octagons.specs.Reduced.{by_ranges}
use Rattle.pk_value.specs.Known.{Known}
use Rattle.pk_octagons.proofs.Octs.{by_ranges_vars, by_ranges_octagon}

pub closing_closed : (m r : Octagon) → IsOctagon m → closing_of m ≡ Some r → IsMarked Closed r
closing_closed m r h e =
    let same = closing_right.vars m r h e in
    subst (λ n. IsClosing (2 * n) (cell_at (2 * n) r.cells) (cell_at (2 * n) r.cells)) (sym same)
    (closing_again (2 * m.vars) m.vars m.cells r.cells refl h.whole (subst (λ n. IsClosing (2 * m.vars) (entry m) (cell_at (2 * n) r.cells)) same (closing_right.some m r h e)))

-- what is closed, and lowered nowhere, is its own closing
pub own_closing : (m n : Octagon) → IsOctagon m → IsMarked Closed m → n ≡ m → Some m ≡ closing_of n
own_closing m n h f e = sym (closing_right.again m h f) ∙ ap closing_of (sym e)

pub reduced_vars : (l : List ℕ) (vs : List Known) (m r : Octagon) → m.vars ≡ length l → IsOctagon m → closing_of (by_ranges l vs (length l) m) ≡ Some r → r.vars ≡ length l
reduced_vars l vs m r v h e =
    let n = by_ranges l vs (length l) m in
    closing_right.vars n r (by_ranges_octagon l vs (length l) m h (omega (arith, v))) e ∙ by_ranges_vars l vs (length l) m ∙ v

pub reduced_closed : (l : List ℕ) (vs : List Known) (m r : Octagon) → m.vars ≡ length l → IsOctagon m → closing_of (by_ranges l vs (length l) m) ≡ Some r → IsMarked Closed r
reduced_closed l vs m r v h e = let n = by_ranges l vs (length l) m in closing_closed n r (by_ranges_octagon l vs (length l) m h (omega (arith, v))) e
