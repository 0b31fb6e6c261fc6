-- What holds of pages, whatever their texts say.
use Rattle.std.specs.Prelude.{◌≡◌, ℕ, ◌==◌, List, [], ◌∷◌, ◌++◌, codes, Bool, ◌||◌, if◌then◌else◌, Option, Some, None}
use Rattle.std.specs.List.{filter}
use Rattle.std.specs.Cmp.Lexicographic.{pointwise}
use Rattle.std.specs.Prelude.{nat_eq}
use Rattle.pk_html.specs.declared.parts.Part.{Part}
use Rattle.pk_html.specs.Escapes.{escaped}
use Rattle.pk_html.specs.Parts.{parts_text, tags_of}

-- what a reader of HTML takes for more than a character of text: `<`, `>`, `"` and `'`
abbrev pub is_mark : ℕ → Bool
is_mark b = b == 60 || b == 62 || b == 34 || b == 39

-- the marks of a page are those of its tags, in order
abbrev pub MarksAreTags : Type 0
MarksAreTags = (parts : List Part) → filter is_mark (parts_text parts) ≡ filter is_mark (parts_text (tags_of parts))

-- ---- how a text is read: a character reference is read up to its `;`

abbrev pub is_text : List ℕ → List ℕ → Bool
is_text a b = pointwise nat_eq a b

-- the character of a reference
unfoldable pub character : List ℕ → List ℕ
character name =
    if is_text name (codes "amp") then 38 ∷ [] else
    (if is_text name (codes "lt") then 60 ∷ [] else
    (if is_text name (codes "gt") then 62 ∷ [] else
    (if is_text name (codes "quot") then 34 ∷ [] else
    (if is_text name (codes "#39") then 39 ∷ [] else []))))

abbrev pub read_from : (name : Option (List ℕ)) → List ℕ → List ℕ
read_from None [] = []
read_from None (b ∷ text) = if b == 38 then read_from (Some []) text else b ∷ read_from None text
read_from (Some name) [] = []
read_from (Some name) (b ∷ text) =
    if b == 59 then character name ++ read_from None text else read_from (Some (name ++ b ∷ [])) text

-- a text that is written and read is itself
abbrev pub ReadBack : Type 0
ReadBack = (text : List ℕ) → read_from None (escaped text) ≡ text
