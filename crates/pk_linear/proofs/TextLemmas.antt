-- The text of an order, place by place.
use Rattle.std.proofs.Common.{◌≡◌, ℕ, ◌==◌, ◌+◌, ◌<◌, ◌^◌, Bool, true, false, cond, List, [], ◌∷◌, ◌++◌, length, refl, sym, ap, ◌∙◌, arith, append_assoc, append-nil, codes, All}
use Rattle.std.specs.Fmt.{decimal}
use Rattle.std.proofs.lemmas.Fmt.{decimal_nonempty}
use Rattle.std.proofs.lemmas.List.Elements.{All-head, All-tail}
use Rattle.pk_plan.specs.declared.places.Role.TheVariants.{Vertex, Exit}
use Rattle.pk_plan.specs.declared.places.Place.{Place}
use Rattle.pk_plan.specs.Order.{Level, Empty, Vertex_then, Component_then, places_of}
use Rattle.pk_linear.specs.Texts.{spaced, item_texts, with_place}

-- a text with more places
abbrev pub written : ℕ → List ℕ → List Place → List ℕ
written end text [] = text
written end text (place ∷ places) = written end (with_place end text place) places

-- items, each after a space
abbrev parted : List (List ℕ) → List ℕ
parted [] = []
parted (t ∷ ts) = 32 ∷ (t ++ parted ts)

spaced_parted : (t : List ℕ) (ts : List (List ℕ)) → spaced (t ∷ ts) ≡ t ++ parted ts
spaced_parted t [] = sym (append-nil t)
spaced_parted t (u ∷ ts) = ap (λ (x : List ℕ). t ++ 32 ∷ x) (spaced_parted u ts)

-- a level after some text
written_after : (end : ℕ) (level : Level) (b : ℕ) (text : List ℕ) (more : List Place)
    → written end (b ∷ text) (places_of level ++ more) ≡ written end ((b ∷ text) ++ parted (item_texts end level)) more
written_after end Empty b text more = ap (λ (x : List ℕ). written end (b ∷ x) more) (sym (append-nil text))
written_after end (Vertex_then v level) b text more = by_end (λ t. written_after end level b t more) (v == end)
  where
    by_end : ((t : List ℕ) → written end (b ∷ t) (places_of level ++ more) ≡ written end ((b ∷ t) ++ parted (item_texts end level)) more) → (last : Bool)
        → written end (cond last (b ∷ text) ((b ∷ text) ++ codes " " ++ decimal v)) (places_of level ++ more)
        ≡ written end ((b ∷ text) ++ parted (cond last (item_texts end level) (decimal v ∷ item_texts end level))) more
    by_end after true = after text
    by_end after false =
        after (text ++ codes " " ++ decimal v)
        ∙ ap (λ (x : List ℕ). written end (b ∷ x) more) (append_assoc (text ++ codes " ") (decimal v) (parted (item_texts end level)) ∙ append_assoc text (codes " ") (decimal v ++ parted (item_texts end level)))
written_after end (Component_then head exit rest level) b text more =
    let x : Place = record { element = exit; role = Exit (length (places_of rest) + 1) } in
    let opened : List ℕ = text ++ codes " " ++ codes "(" ++ decimal head in
    let closed : List ℕ = opened ++ parted (item_texts end rest) ++ codes ")" in
    ap (written end (b ∷ opened)) (append_assoc (places_of rest) (x ∷ places_of level) more)
    ∙ written_after end rest b opened (x ∷ (places_of level ++ more))
    ∙ written_after end level b closed more
    ∙ ap (λ (t : List ℕ). written end (b ∷ t) more) (enclosed text (decimal head) (item_texts end rest) (parted (item_texts end level)))
  where
    enclosed : (text head : List ℕ) (inner : List (List ℕ)) (later : List ℕ)
        → (text ++ codes " " ++ codes "(" ++ head ++ parted inner ++ codes ")") ++ later ≡ text ++ (32 ∷ ((codes "(" ++ spaced (head ∷ inner) ++ codes ")") ++ later))
    enclosed text head inner later = rw (spaced_parted head inner) (simp append_assoc)

nonempty : (xs : List ℕ) → 0 < length xs → (x : ℕ) × (ys : List ℕ) × (xs ≡ x ∷ ys)
nonempty [] some = absurd (omega (arith, some))
nonempty (x ∷ xs) some = (x, xs, refl)

-- a level from its beginning
pub written_level : (end : ℕ) (level : Level) → All (λ q. q.element < 2 ^ 64) (places_of level) → written end [] (places_of level) ≡ spaced (item_texts end level)
written_level end Empty small = refl
written_level end (Vertex_then v level) small = by_end (written_level end level) (v == end)
  where
    by_end : (All (λ q. q.element < 2 ^ 64) (places_of level) → written end [] (places_of level) ≡ spaced (item_texts end level)) → (last : Bool)
        → written end (cond last [] (decimal v)) (places_of level) ≡ spaced (cond last (item_texts end level) (decimal v ∷ item_texts end level))
    by_end after true = after (All-tail (λ (q : Place). q.element < 2 ^ 64) (record { element = v; role = Vertex }) (places_of level) small)
    by_end after false =
        let some = nonempty (decimal v) (decimal_nonempty v (All-head (λ (q : Place). q.element < 2 ^ 64) (record { element = v; role = Vertex }) (places_of level) small)) in
        let is : decimal v ≡ some.0 ∷ some.1 = some.2 in
        ap (λ (t : List ℕ). written end t (places_of level)) is
        ∙ ap (written end (some.0 ∷ some.1)) (sym (append-nil (places_of level)))
        ∙ written_after end level some.0 some.1 []
        ∙ ap (λ (t : List ℕ). t ++ parted (item_texts end level)) (sym is)
        ∙ sym (spaced_parted (decimal v) (item_texts end level))
written_level end (Component_then head exit rest level) small =
    let x : Place = record { element = exit; role = Exit (length (places_of rest) + 1) } in
    let closed : List ℕ = decimal head ++ parted (item_texts end rest) ++ codes ")" in
    written_after end rest 40 (decimal head) (x ∷ places_of level)
    ∙ ap (written end (40 ∷ closed)) (sym (append-nil (places_of level)))
    ∙ written_after end level 40 closed []
    ∙ ap (λ (t : List ℕ). (40 ∷ (t ++ codes ")")) ++ parted (item_texts end level)) (sym (spaced_parted (decimal head) (item_texts end rest)))
    ∙ sym (spaced_parted (codes "(" ++ spaced (decimal head ∷ item_texts end rest) ++ codes ")") (item_texts end level))
