-- Symbols with a space behind each, and the line that they make.
use Rattle.std.specs.Prelude.{◌≡◌, ℕ, zero, suc, ◌+◌, ◌*◌, ◌<◌, ◌≤◌, ◌==◌, Bool, false, if◌then◌else◌, ℤ, List, [], ◌∷◌, ◌++◌, length, take, slice_index_or, slice_set, Option, Some, None}
use Rattle.std.proofs.Common.{arith, refl, sym, ap, ◌∙◌, append_assoc}
use Rattle.std.proofs.lemmas.Bool.Decides.{nat_tests}
use Rattle.std.proofs.lemmas.Grind.{flat_map-append}
use Rattle.std.proofs.lemmas.List.{length-append, append-nil}
use Rattle.std.proofs.Math.Seq.{take-suc}
use Rattle.pk_octmat.specs.Octagon.{entry}
use Rattle.pk_octmat.proofs.Cells.{cell_in, place_in}
use Rattle.pk_state.specs.Layouts.{Layout}
use Rattle.pk_state.specs.Facts.{Facts, AreFactsIf}
use Rattle.pk_state.specs.Changes.{entry_in}
use Rattle.pk_cert.specs.Rows.{symbol_text, end_of, symbols_text}
use Rattle.pk_cert_states.specs.Lines.{own_octagon, own_pack, HasOne}
use Rattle.pk_cert_states.proofs.Ones.{one_of}
use Rattle.pk_cert_lines.specs.Symbols.{spaced, cells_in}

abbrev one : Option ℤ → List ℕ
one z = symbol_text z ++ 32 ∷ []

pub spaced_joined : (a b : List (Option ℤ)) → spaced (a ++ b) ≡ spaced a ++ spaced b
spaced_joined a b = flat_map-append one a b

-- written behind what was written
pub spaced_on : (before : List ℕ) (a b : List (Option ℤ)) → (before ++ spaced a) ++ spaced b ≡ before ++ spaced (a ++ b)
spaced_on before a b = append_assoc before (spaced a) (spaced b) ∙ ap (λ (r : List ℕ). before ++ r) (sym (spaced_joined a b))

-- ---- the end of a line

-- what stands before the last space, or before the line's end
pub but_last : List (Option ℤ) → List ℕ
but_last [] = []
but_last (z ∷ []) = symbol_text z
but_last (z ∷ (y ∷ zs)) = one z ++ but_last (y ∷ zs)

pub spaced_last : (z : Option ℤ) (zs : List (Option ℤ)) → spaced (z ∷ zs) ≡ but_last (z ∷ zs) ++ 32 ∷ []
unfolding but_last
spaced_last z [] = append-nil (one z)
spaced_last z (y ∷ zs) = ap (λ (r : List ℕ). one z ++ r) (spaced_last y zs) ∙ sym (append_assoc (one z) (but_last (y ∷ zs)) (32 ∷ []))

-- a space ends a symbol that isn't the last
some_end : (n : ℕ) → end_of (suc n) ≡ 32
some_end n = let e : (suc n == 0) ≡ false = grind (arith, nat_tests) in ap (λ (b : Bool). if b then 10 else 32) e

pub ended_last : (z : Option ℤ) (zs : List (Option ℤ)) → symbols_text (z ∷ zs) ≡ but_last (z ∷ zs) ++ 10 ∷ []
unfolding but_last
ended_last z [] = append-nil (symbol_text z ++ 10 ∷ [])
ended_last z (y ∷ zs) =
    ap (λ (e : ℕ). (symbol_text z ++ e ∷ []) ++ symbols_text (y ∷ zs)) (some_end (length zs)) ∙ ap (λ (r : List ℕ). one z ++ r) (ended_last y zs)
    ∙ sym (append_assoc (one z) (but_last (y ∷ zs)) (10 ∷ []))

-- one byte behind others is written over
pub last_set : (x : List ℕ) (b c : ℕ) (n : ℕ) → n ≡ length x → slice_set (x ++ b ∷ []) n c ≡ x ++ c ∷ []
last_set [] b c zero e = refl
last_set [] b c (suc n) e = absurd (omega (arith, e))
last_set (y ∷ x) b c zero e = absurd (omega (arith, e))
last_set (y ∷ x) b c (suc n) e = ap (λ (r : List ℕ). y ∷ r) (last_set x b c n (omega (arith, e)))

-- where nothing stands behind `before` there were no symbols
pub line_empty : (before bytes : List ℕ) (zs : List (Option ℤ)) → bytes ≡ before ++ spaced zs → length bytes ≤ length before → bytes ++ 10 ∷ [] ≡ before ++ symbols_text zs
line_empty before bytes [] e h = ap (λ (r : List ℕ). r ++ 10 ∷ []) (e ∙ append-nil before)
line_empty before bytes (z ∷ zs) e h =
    absurd (omega (arith, h, ap (length {A = ℕ}) e, length-append before (spaced (z ∷ zs)), ap (length {A = ℕ}) (spaced_last z zs), length-append (but_last (z ∷ zs)) (32 ∷ [])))

pub line_ended : (before bytes : List ℕ) (zs : List (Option ℤ)) (n : ℕ) → bytes ≡ before ++ spaced zs → length before < length bytes → n + 1 ≡ length bytes → slice_set bytes n 10 ≡ before ++ symbols_text zs
line_ended before bytes [] n e h last = absurd (omega (arith, h, ap (length {A = ℕ}) e, length-append before []))
line_ended before bytes (z ∷ zs) n e h last =
    let front : List ℕ = before ++ but_last (z ∷ zs) in
    let whole : bytes ≡ (before ++ but_last (z ∷ zs)) ++ 32 ∷ [] = e ∙ ap (λ (r : List ℕ). before ++ r) (spaced_last z zs) ∙ sym (append_assoc before (but_last (z ∷ zs)) (32 ∷ [])) in
    ap (λ (r : List ℕ). slice_set r n 10) whole
    ∙ last_set (before ++ but_last (z ∷ zs)) 32 10 n (omega (arith, last, ap (length {A = ℕ}) whole, length-append (before ++ but_last (z ∷ zs)) (32 ∷ [])))
    ∙ append_assoc before (but_last (z ∷ zs)) (10 ∷ []) ∙ ap (λ (r : List ℕ). before ++ r) (sym (ended_last z zs))

-- ---- bounds

-- one more bound
pub bounds_more : (l : Layout) (o : Option Facts) (n i j : ℕ) → HasOne l → AreFactsIf l o → (o ≡ None → ⊥) → length (own_pack l) ≡ n → i < 2 * n → j < 2 * n
    → take (i * (2 * n) + j) (cells_in o) ++ entry_in o 0 i j ∷ [] ≡ take (i * (2 * n) + (j + 1)) (cells_in o)
bounds_more l None n i j single h some size p q = absurd (some refl)
bounds_more l (Some f) n i j single h some size p q =
    let m = own_octagon f in
    let own = one_of l f single h in
    let vars : m.vars ≡ n = own.vars ∙ size in
    let many : length m.cells ≡ 2 * n * (2 * n) = own.octagon.whole.size ∙ ap (λ (k : ℕ). 2 * k * (2 * k)) vars in
    let there : entry m i j ≡ slice_index_or m.cells (i * (2 * n) + j) None =
    cell_in (2 * m.vars) m.cells i j (omega (arith, p, vars)) (omega (arith, q, vars)) ∙ ap (λ (k : ℕ). slice_index_or m.cells (i * (2 * k) + j) None) vars in
    let up : i * (2 * n) + (j + 1) ≡ suc (i * (2 * n) + j) = omega arith in
    ap (λ (z : Option ℤ). take (i * (2 * n) + j) m.cells ++ z ∷ []) there
    ∙ sym (ap (λ (k : ℕ). take k m.cells) up ∙ take-suc m.cells (i * (2 * n) + j) None (place_in (2 * n) m.cells i j many p q))
