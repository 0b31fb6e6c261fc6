-- Places spell the level that they are of.
use Rattle.std.proofs.Common.{◌≡◌, ◌+◌, List, [], ◌∷◌, ◌++◌, length, refl, ap, sym, ◌∙◌, append_assoc, append-nil}
use Rattle.pk_plan.specs.declared.places.Role.TheVariants.{Vertex, Head, Exit}
use Rattle.pk_plan.specs.declared.places.Place.{Place}
use Rattle.pk_plan.specs.Order.{Level, Empty, Vertex_then, Component_then, places_of, Reading, read_place, reading_of, level_of, IsBracketed}

-- one level, and then another
abbrev level_then : Level → Level → Level
level_then Empty more = more
level_then (Vertex_then v rest) more = Vertex_then v (level_then rest more)
level_then (Component_then head exit inner rest) more = Component_then head exit inner (level_then rest more)

level_then-Empty : (level : Level) → level_then level Empty ≡ level
level_then-Empty Empty = refl
level_then-Empty (Vertex_then v more) = ap (Vertex_then v) (level_then-Empty more)
level_then-Empty (Component_then head exit rest more) = ap (Component_then head exit rest) (level_then-Empty more)

abbrev behind : Level → Reading → Reading
behind level read = record { level = level_then level read.level; waiting = read.waiting }

reading_of-places_of : (level : Level) (places : List Place) → reading_of (places_of level ++ places) ≡ behind level (reading_of places)
reading_of-places_of Empty places = refl
reading_of-places_of (Vertex_then v more) places = ap (read_place v Vertex) (reading_of-places_of more places)
reading_of-places_of (Component_then head exit rest more) places =
    let place : Place = record { element = exit; role = Exit (length (places_of rest) + 1) } in
    ap (λ (ps : List Place). read_place head Head (reading_of ps)) (append_assoc (places_of rest) (place ∷ places_of more) places)
    ∙ ap (read_place head Head) (reading_of-places_of rest (place ∷ (places_of more ++ places)))
    ∙ ap (λ (read : Reading). read_place head Head (behind rest (read_place exit (Exit (length (places_of rest) + 1)) read))) (reading_of-places_of more places)
    ∙ ap (λ (inner : Level). let read : Reading = record { level = Component_then head exit inner (level_then more (reading_of places).level); waiting = (reading_of places).waiting } in read) (level_then-Empty rest)

pub level_of-places_of : (level : Level) → level_of (places_of level) ≡ level
level_of-places_of level =
    ap level_of (sym (append-nil (places_of level)))
    ∙ ap (λ (read : Reading). read.level) (reading_of-places_of level [])
    ∙ level_then-Empty level

-- what shows that places are bracketed, and which level they spell
pub IsBracketed-from_level : {places : List Place} (level : Level) → places ≡ places_of level → IsBracketed places
IsBracketed-from_level level is = is ∙ sym (ap (λ (ps : List Place). places_of (level_of ps)) is ∙ ap places_of (level_of-places_of level))

pub level_of-from_level : {places : List Place} (level : Level) → places ≡ places_of level → level_of places ≡ level
level_of-from_level level is = ap level_of is ∙ level_of-places_of level
