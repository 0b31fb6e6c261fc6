-- What is written piece by piece.
use Rattle.std.proofs.Common.{◌≡◌, ◌<◌, ◌≤◌, ◌+◌, ℕ, ap, ◌∙◌, sym, subst, List, [], ◌∷◌, ◌++◌, length, take, slice_index_or, append_assoc, append-nil, arith}
use Rattle.std.specs.List.{flat_map, zip}
use Rattle.std.proofs.lemmas.Slice.Zip.{get_or-zip, length-zip}
use Rattle.std.proofs.lemmas.List.{take_more, take_all}
use Rattle.std.proofs.lemmas.Grind.{flat_map-append}

-- one piece more
pub flat_more : {X : Type 0} (f : X → List ℕ) (xs : List X) (i : ℕ) (d : X) (old now new : List ℕ) → i < length xs → now ≡ old ++ flat_map f (take i xs) → new ≡ now ++ f (slice_index_or xs i d) → new ≡ old ++ flat_map f (take (i + 1) xs)
flat_more {X} f xs i d old now new below so_far step =
    step
    ∙ ap (λ (bytes : List ℕ). bytes ++ f (slice_index_or xs i d)) so_far
    ∙ append_assoc old (flat_map f (take i xs)) (f (slice_index_or xs i d))
    ∙ ap (λ (bytes : List ℕ). old ++ bytes) (
    ap (λ (bytes : List ℕ). flat_map f (take i xs) ++ bytes) (sym (append-nil (f (slice_index_or xs i d))))
    ∙ sym (flat_map-append f (take i xs) (slice_index_or xs i d ∷ []))
    ∙ ap (flat_map f) (sym (take_more xs i d below))
    )

pub flat_all : {X : Type 0} (f : X → List ℕ) (xs : List X) (i : ℕ) (old now : List ℕ) → length xs ≤ i → now ≡ old ++ flat_map f (take i xs) → now ≡ old ++ flat_map f xs
flat_all f xs i old now past so_far = so_far ∙ ap (λ ys. old ++ flat_map f ys) (take_all i xs past)

pub three : (old a b c first second new : List ℕ) → first ≡ old ++ a → second ≡ first ++ b → new ≡ second ++ c → new ≡ old ++ (a ++ b ++ c)
three old a b c first second new e f g =
    g
    ∙ ap (λ (xs : List ℕ). xs ++ c) (f ∙ ap (λ (xs : List ℕ). xs ++ b) e ∙ append_assoc old a b)
    ∙ append_assoc old (a ++ b) c

pub two : (old a b first new : List ℕ) → first ≡ old ++ a → new ≡ first ++ b → new ≡ old ++ (a ++ b)
two old a b first new e f = f ∙ ap (λ (xs : List ℕ). xs ++ b) e ∙ append_assoc old a b

pub four : (old a b c d first second third new : List ℕ) → first ≡ old ++ a → second ≡ first ++ b → third ≡ second ++ c → new ≡ third ++ d → new ≡ old ++ (a ++ b ++ c ++ d)
four old a b c d first second third new e f g h = two old (a ++ b ++ c) d third new (three old a b c first second third e f g) h

-- ---- two lists, pair by pair

pub zip_next : {A B : Type 0} (f : A × B → List ℕ) (xs : List A) (ys : List B) (i : ℕ) (x : A) (y : B) (old now new : List ℕ) → i < length xs → length xs ≡ length ys → x ≡ slice_index_or xs i x → y ≡ slice_index_or ys i y
    → now ≡ old ++ flat_map f (take i (zip xs ys)) → new ≡ now ++ f (x, y) → new ≡ old ++ flat_map f (take (i + 1) (zip xs ys))
zip_next {A} {B} f xs ys i x y old now new h s e g p q =
    let other : i < length ys = subst (λ (n : ℕ). i < n) s h in
    let both : i < length (zip xs ys) = omega (arith, length-zip xs ys, h, other) in
    let pair : slice_index_or (zip xs ys) i (x, y) ≡ (x, y) =
    get_or-zip xs ys i (x, y) h other
    ∙ ap (λ (a : A). let r : A × B = (a, slice_index_or ys i y) in r) (sym e)
    ∙ ap (λ (b : B). let r : A × B = (x, b) in r) (sym g) in
    flat_more f (zip xs ys) i (x, y) old now new both p (q ∙ ap (λ (r : A × B). now ++ f r) (sym pair))

pub zip_end : {A B : Type 0} (f : A × B → List ℕ) (xs : List A) (ys : List B) (i : ℕ) (old now : List ℕ) → length xs ≤ i → length xs ≡ length ys → now ≡ old ++ flat_map f (take i (zip xs ys)) → now ≡ old ++ flat_map f (zip xs ys)
zip_end f xs ys i old now h s p = flat_all f (zip xs ys) i old now (omega (arith, length-zip xs ys, h, s)) p
