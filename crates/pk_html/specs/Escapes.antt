-- Text in a page: what stands for each byte of it (WHATWG HTML, 13.1.4, character references).
use Rattle.std.specs.Prelude.{ℕ, ◌==◌, List, [], ◌∷◌, codes, if◌then◌else◌, Option, Some, None}
use Rattle.std.specs.List.{flat_map}

-- the character reference that stands for a byte: for `&`, `<`, `>`, `"` and `'`
unfoldable pub reference_for : ℕ → Option (List ℕ)
reference_for b =
    if b == 38 then Some (codes "&amp;") else
    (if b == 60 then Some (codes "&lt;") else
    (if b == 62 then Some (codes "&gt;") else
    (if b == 34 then Some (codes "&quot;") else
    (if b == 39 then Some (codes "&#39;") else None))))

abbrev pub escape_by : Option (List ℕ) → ℕ → List ℕ
escape_by None b = b ∷ []
escape_by (Some text) b = text

-- what stands for a byte
abbrev pub escape : ℕ → List ℕ
escape b = escape_by (reference_for b) b

abbrev pub escaped : List ℕ → List ℕ
escaped = flat_map escape
