-- Pieces by raw cells.
use Rattle.std.specs.Prelude.{◌≡◌, ℕ, ◌+◌, ◌<◌, ◌≤◌, List, [], ◌∷◌, ◌++◌, length, map, take, slice_index_or, All, None}
use Rattle.std.specs.List.{zip}
use Rattle.std.proofs.Common.{arith, refl, sym, ap, subst, ◌∙◌}
use Rattle.std.proofs.lemmas.List.{map-append, take_more, take_all}
use Rattle.std.proofs.lemmas.List.Elements.{All-nil, All-cons}
use Rattle.std.proofs.lemmas.Slice.Zip.{get_or-zip, length-zip}
use Rattle.pk_state.specs.Facts.{Stated}
use Rattle.pk_iterate.specs.Behaviour.{HoldEach}
use Rattle.pk_phases.specs.declared.equations.Cell.{Cell}
use Rattle.pk_phases.specs.Equations.{may_hold_of, value_of}
use Rattle.pk_phases.specs.EquationsHeld.{value_at}
use Rattle.pk_analysis.specs.Flows.{Flow, equations_of, IsOverFlow, stated}
use Rattle.pk_analysis.specs.Keeping.{flow_keeps}

-- ---- one by one

pub zip_more : {A B C : Type 0} (f : A × B → C) (xs : List A) (ys : List B) (k : ℕ) (x : A) (y : B) (old new : List C) → k < length xs → length xs ≡ length ys
    → x ≡ slice_index_or xs k x → y ≡ slice_index_or ys k y → old ≡ map f (take k (zip xs ys)) → new ≡ old ++ f (x, y) ∷ [] → new ≡ map f (take (k + 1) (zip xs ys))
zip_more {A} {B} {C} f xs ys k x y old new h s e g so_far step =
    let other : k < length ys = subst (λ (n : ℕ). k < n) s h in
    let both : k < length (zip xs ys) = omega (arith, length-zip xs ys, h, other) in
    let pair : slice_index_or (zip xs ys) k (x, y) ≡ (x, y) =
    get_or-zip xs ys k (x, y) h other
    ∙ ap (λ (a : A). let r : A × B = (a, slice_index_or ys k y) in r) (sym e)
    ∙ ap (λ (b : B). let r : A × B = (x, b) in r) (sym g) in
    step
    ∙ ap (λ (cs : List C). cs ++ f (x, y) ∷ []) so_far
    ∙ ap (λ (r : A × B). map f (take k (zip xs ys)) ++ f r ∷ []) (sym pair)
    ∙ sym (map-append f (take k (zip xs ys)) (slice_index_or (zip xs ys) k (x, y) ∷ []))
    ∙ ap (map f) (sym (take_more (zip xs ys) k (x, y) both))

pub zip_all : {A B C : Type 0} (f : A × B → C) (xs : List A) (ys : List B) (k : ℕ) (now : List C) → length xs ≤ k → length xs ≡ length ys → now ≡ map f (take k (zip xs ys)) → now ≡ map f (zip xs ys)
zip_all f xs ys k now h s so_far = so_far ∙ ap (map f) (take_all k (zip xs ys) (omega (arith, length-zip xs ys, h, s)))

-- ---- cells that their elements may hold

pub many_held : (a : Flow) (vs : List ℕ) (cells : List (Cell Stated)) → HoldEach (may_hold_of (equations_of a) (IsOverFlow a)) vs cells → length vs ≡ length cells
many_held a [] [] h = refl
many_held a [] (c ∷ cells) h = absurd h
many_held a (v ∷ vs) [] h = absurd h
many_held a (v ∷ vs) (c ∷ cells) h = omega (arith, many_held a vs cells h.1)

pub over_held : (a : Flow) (vs : List ℕ) (cells : List (Cell Stated)) → HoldEach (may_hold_of (equations_of a) (IsOverFlow a)) vs cells
    → All (λ (c : Cell Stated). (value_of (stated a.layout None) c).layout ≡ a.layout) cells
over_held a [] [] h = All-nil (λ (c : Cell Stated). (value_of (stated a.layout None) c).layout ≡ a.layout)
over_held a [] (c ∷ cells) h = absurd h
over_held a (v ∷ vs) [] h = absurd h
over_held a (v ∷ vs) (c ∷ cells) h =
    All-cons (λ (x : Cell Stated). (value_of (stated a.layout None) x).layout ≡ a.layout) c cells
    (value_at (equations_of a) (IsOverFlow a) (flow_keeps a) v ((equations_of a).part v) c h.0)
    (over_held a vs cells h.1)
