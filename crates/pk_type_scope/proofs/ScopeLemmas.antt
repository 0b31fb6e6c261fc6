-- Layers: where a declaration is put, and from the inside out.
use Rattle.std.proofs.Common.{◌≡◌, ◌<◌, ◌≤◌, ℕ, ◌+◌, ◌-◌, Bool, true, false, if◌then◌else◌, List, [], ◌∷◌, ◌++◌, length, map, take, get_or, Option, Some, None, refl, ap, sym, ◌∙◌, arith}
use Rattle.std.proofs.lemmas.List.{map-append, take_more}
use Rattle.std.specs.Str.{bytes_eq}
use Rattle.indexmap.specs.IndexMap.{get_by}
use Rattle.pk_type_scope.specs.declared.declarations.Declaration.{Declaration}
use Rattle.pk_type_scope.specs.declared.scopes.Frame.{Frame}
use Rattle.pk_type_scope.specs.Scopes.{Key, Layer, layer_of, with_name, first_of, found_up}

-- the last layer's declaration goes before those of the others
last_first : (ls : List Layer) (l : Layer) (q : Key) (found : Option Declaration) → found_up (ls ++ l ∷ []) q found ≡ first_of (l q) (found_up ls q found)
last_first [] l q found = refl
last_first (k ∷ ls) l q found = last_first ls l q (first_of (k q) found)

one_less : (fs : List Frame) (n : ℕ) (f : Frame) (q : Key) → n < length fs → f ≡ get_or fs n f
    → found_up (map layer_of (take (n + 1) fs)) q None ≡ first_of (layer_of f q) (found_up (map layer_of (take n fs)) q None)
one_less fs n f q h is =
    ap (λ (gs : List Frame). found_up (map layer_of gs) q None) (take_more fs n f h ∙ ap (λ (g : Frame). take n fs ++ g ∷ []) (sym is))
    ∙ (ap (λ (ls : List Layer). found_up ls q None) (map-append layer_of (take n fs) (f ∷ []))
    ∙ last_first (map layer_of (take n fs)) (layer_of f) q None)

-- what is found in the last of those that are left
pub found_there : (fs : List Frame) (n : ℕ) (f : Frame) (q : Key) (d : Declaration) (all : Option Declaration) → 0 < n → n ≤ length fs → f ≡ get_or fs (n - 1) f
    → found_up (map layer_of (take n fs)) q None ≡ all → Some d ≡ layer_of f q → Some d ≡ all
found_there fs n f q d all p h is same there =
    let e : n ≡ (n - 1) + 1 = omega arith in
    ap (λ (o : Option Declaration). first_of o (found_up (map layer_of (take (n - 1) fs)) q None)) there
    ∙ (sym (one_less fs (n - 1) f q (omega arith) is) ∙ (ap (λ (k : ℕ). found_up (map layer_of (take k fs)) q None) (sym e) ∙ same))

-- or in those before it
pub found_before : (fs : List Frame) (n : ℕ) (f : Frame) (q : Key) (all : Option Declaration) → 0 < n → n ≤ length fs → f ≡ get_or fs (n - 1) f
    → found_up (map layer_of (take n fs)) q None ≡ all → None ≡ layer_of f q → found_up (map layer_of (take (n - 1) fs)) q None ≡ all
found_before fs n f q all p h is same there =
    let e : n ≡ (n - 1) + 1 = omega arith in
    ap (λ (o : Option Declaration). first_of o (found_up (map layer_of (take (n - 1) fs)) q None)) there
    ∙ (sym (one_less fs (n - 1) f q (omega arith) is) ∙ (ap (λ (k : ℕ). found_up (map layer_of (take k fs)) q None) (sym e) ∙ same))

-- a declaration at a tag leaves the other names, and one at another name leaves the tags
pub at_tag : (t : Bool) (name bytes : List ℕ) (d : Declaration) (f g : Frame) → g.declared ≡ f.declared →
    get_by (λ k. bytes_eq bytes k.now) g.tags ≡ (if bytes_eq name bytes then Some d else get_by (λ k. bytes_eq bytes k.now) f.tags) →
    layer_of g (record { is_tag = t; bytes = bytes }) ≡ with_name (layer_of f) (record { is_tag = true; bytes = name }) d (record { is_tag = t; bytes = bytes })
at_tag true name bytes d f g p h = h
at_tag false name bytes d f g p h = rw p refl

pub at_name : (t : Bool) (name bytes : List ℕ) (d : Declaration) (f g : Frame) → g.tags ≡ f.tags →
    get_by (λ k. bytes_eq bytes k.now) g.declared ≡ (if bytes_eq name bytes then Some d else get_by (λ k. bytes_eq bytes k.now) f.declared) →
    layer_of g (record { is_tag = t; bytes = bytes }) ≡ with_name (layer_of f) (record { is_tag = false; bytes = name }) d (record { is_tag = t; bytes = bytes })
at_name true name bytes d f g p h = rw p refl
at_name false name bytes d f g p h = h
