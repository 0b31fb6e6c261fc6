-- A line's bytes are shown by the marks at their columns alone.
use Rattle.std.proofs.Common.{◌≡◌, ℕ, suc, ◌+◌, ◌-◌, ◌<◌, List, [], ◌∷◌, ◌++◌, length, refl, ap, ◌∙◌, arith, Option, None}
use Rattle.std.specs.Prelude.{slice_index_or}
use Rattle.pk_html.specs.declared.parts.Part.{Part}
use Rattle.pk_page.specs.declared.marks.Mark.{Mark}
use Rattle.pk_page.specs.declared.lines.Opened.{Opened}
use Rattle.pk_page.specs.Source.{byte_parts, open_after, bytes_parts}

pub same_bytes : (f g : ℕ → Option Mark) (column : ℕ) (under : Option Opened) (text : List ℕ) →
    ((j : ℕ) → j < length text → f (column + j) ≡ g (column + j)) → bytes_parts f column under text ≡ bytes_parts g column under text
same_bytes f g column under [] same = refl
same_bytes f g column under (b ∷ text) same =
    let zero_more : column + 0 ≡ column = omega arith in
    let here : f column ≡ g column = rw zero_more at (same 0 (omega arith)) in
    let rest = same_bytes f g (column + 1) (open_after under (g column) b) text
    (λ j h. let e : (column + 1) + j ≡ column + suc j = omega arith in rw e (same (suc j) (omega arith))) in
    ap (λ (m : Option Mark). byte_parts under m b ++ bytes_parts f (column + 1) (open_after under m b) text) here ∙
    ap (λ (parts : List Part). byte_parts under (g column) b ++ parts) rest

-- a row of marks has what stands at each byte of its line
pub row_bytes : (f : ℕ → Option Mark) (row known : List (Option Mark)) (text line : List ℕ) → row ≡ known → text ≡ line →
    ((j : ℕ) → j < length line → slice_index_or known j None ≡ f (j + 1)) →
    bytes_parts (λ column. slice_index_or row (column - 1) None) 1 None text ≡ bytes_parts f 1 None line
row_bytes f row known text line row_is text_is each =
    rw (row_is, text_is) (same_bytes (λ column. slice_index_or known (column - 1) None) f 1 None line
    (λ j h.
    let less : (1 + j) - 1 ≡ j = omega arith in
    let more : 1 + j ≡ j + 1 = omega arith in
    rw (less, more) (each j h)))
