-- The size that is known of a listed function is the one that is measured with all sizes.
use Rattle.std.proofs.Common.{◌≡◌, ◌<◌, ℕ, zero, suc, ◌+◌, List, [], ◌∷◌, length, inl, inr, refl, sym, ◌∙◌, ap, subst}
use Rattle.std.proofs.Math.Nat.{zero-add}
use Rattle.std.proofs.lemmas.List.{get_or-set_same, get_or-set_other, length-set, length-replicate}
use Rattle.std.specs.Option.{option_and_then}
use Rattle.std.proofs.lemmas.Bool.{false≢true}
use Rattle.std.proofs.lemmas.Bool.Decides.{eqb_tells}
use Rattle.std.proofs.lemmas.Option.{slice_get_within, none-some}
use Rattle.std.specs.Prelude.{Option, Some, None, IsSome, slice_get, slice_set, slice_index_or, replicate, unwrap_or}
use Rattle.pk_typed.specs.Trees.{FunctionTree, UnitTree}
use Rattle.pk_calls.specs.declared.listings.CallPath.{CallPath}
use Rattle.pk_calls.specs.Calls.{HasBody, body_of}
use Rattle.pk_draft.specs.declared.drafts.Size.{Size}
use Rattle.pk_draft.specs.Drafts.{by_number, no_region, empty_draft}
use Rattle.pk_lower_row.specs.Contexts.{no_size, size_in}
use Rattle.pk_lower.specs.Parts.{body_at, measured, with_size, sizes_of}
use Rattle.pk_lower_laws.specs.Parts.Called.{AtItems}
use Rattle.pk_lower_laws.specs.Parts.Steps.{AgreeAt}
use Rattle.pk_lower_laws.specs.Parts.Listed.{IsListed, CallsLeadBehind, SizesAreMeasured, PartsFillRegions}
use Rattle.pk_lower_laws.proofs.Parts.Sizes.{parts_make_their_size}
use Rattle.pk_lower_laws.proofs.Parts.Everywhere.{at_items}

abbrev Sizes : Type 0
Sizes = List (Option Size)

same_measure : (u : UnitTree) (ss rs : Sizes) (f : ℕ) → HasBody u f → AtItems (AgreeAt ss rs) (body_at u f).items → measured u ss f ≡ measured u rs f
same_measure u ss rs f h a =
    let law = parts_make_their_size ℕ in
    let points = law.points u ss rs 0 0 f None no_region (empty_draft by_number) h a ∙ zero-add (measured u rs f).points in
    let variables = law.variables u ss rs 0 0 f None no_region (empty_draft by_number) h a ∙ zero-add (measured u rs f).variables in
    ap (λ (n : ℕ). record { points = n; variables = (measured u ss f).variables }) points ∙ ap (λ (n : ℕ). record { points = (measured u rs f).points; variables = n }) variables

-- what is listed has a body, of which each call is listed
listed_body : (u : UnitTree) (ps : List CallPath) → CallsLeadBehind u ps → (f : ℕ) → IsListed ps f → HasBody u f × AtItems (λ g n. IsListed ps g) (body_at u f).items
listed_body u [] h f l = absurd l
listed_body u (p ∷ ps) h f (inl e) =
    let wide : AtItems (λ g n. IsListed (p ∷ ps) g) (body_at u p.function).items = at_items (λ g n. IsListed ps g) (λ g n. IsListed (p ∷ ps) g) (λ g n l. inr l) (body_at u p.function).items h.1 in
    subst (λ (g : ℕ). HasBody u g × AtItems (λ k n. IsListed (p ∷ ps) k) (body_at u g).items) (sym e) (h.0, wide)
listed_body u (p ∷ ps) h f (inr l) =
    let r = listed_body u ps h.2 f l in
    (r.0, at_items (λ g n. IsListed ps g) (λ g n. IsListed (p ∷ ps) g) (λ g n k. inr k) (body_at u f).items r.1)

-- ---- one more path

abbrev AllMeasured : UnitTree → List CallPath → Sizes → Type 0
AllMeasured u ps ss = (f : ℕ) → IsListed ps f → slice_index_or ss f None ≡ Some (measured u ss f)

agreeing : (u : UnitTree) (ps : List CallPath) (ss : Sizes) (g : ℕ) (m : Size) → AllMeasured u ps ss → slice_index_or ss g None ≡ None
    → (k n : ℕ) → IsListed ps k → AgreeAt ss (slice_set ss g (Some m)) k n
agreeing u ps ss g m all e k n i =
    ap (λ (x : Option Size). unwrap_or x no_size)
    (sym (get_or-set_other ss g k (Some m) None (λ same. none-some (measured u ss k) (sym e ∙ (ap (λ (j : ℕ). slice_index_or ss j None) (sym same) ∙ all k i)))))

same_with : (u : UnitTree) (ps : List CallPath) (ss : Sizes) (g : ℕ) (m : Size) → AllMeasured u ps ss → slice_index_or ss g None ≡ None
    → (k : ℕ) → HasBody u k → AtItems (λ j n. IsListed ps j) (body_at u k).items → measured u ss k ≡ measured u (slice_set ss g (Some m)) k
same_with u ps ss g m all e k b i =
    same_measure u ss (slice_set ss g (Some m)) k b (at_items (λ j n. IsListed ps j) (AgreeAt ss (slice_set ss g (Some m))) (agreeing u ps ss g m all e) (body_at u k).items i)

listed_step : (u : UnitTree) (p : CallPath) (ps : List CallPath) (ss : Sizes) → CallsLeadBehind u (p ∷ ps) → p.function < length ss → AllMeasured u ps ss
    → (o : Option Size) → slice_index_or ss p.function None ≡ o → ((s : Size) → o ≡ Some s → IsListed ps p.function)
    → AllMeasured u (p ∷ ps) (with_size u p.function o ss)
listed_step u p ps ss h at all (Some s) e known f (inl is) = all f (subst (IsListed ps) (sym is) (known s refl))
listed_step u p ps ss h at all (Some s) e known f (inr l) = all f l
listed_step u p ps ss h at all None e known f (inl is) =
    let g = p.function in
    let m = measured u ss g in
    let here : slice_index_or (slice_set ss g (Some m)) g None ≡ Some (measured u (slice_set ss g (Some m)) g) =
    get_or-set_same ss g (Some m) None at ∙ ap Some (same_with u ps ss g m all e g h.0 h.1) in
    subst (λ (j : ℕ). slice_index_or (slice_set ss g (Some m)) j None ≡ Some (measured u (slice_set ss g (Some m)) j)) (sym is) here
listed_step u p ps ss h at all None e known f (inr l) =
    let g = p.function in
    let m = measured u ss g in
    let b = listed_body u ps h.2 f l in
    get_or-set_other ss g f (Some m) None (λ same. none-some (measured u ss f) (sym e ∙ (ap (λ (j : ℕ). slice_index_or ss j None) (sym same) ∙ all f l)))
    ∙ (all f l ∙ ap Some (same_with u ps ss g m all e f b.0 b.1))

-- ---- what is known is listed

abbrev unknown : Option Size
unknown = None

none_in : (n f : ℕ) → slice_index_or (replicate n unknown) f unknown ≡ unknown
none_in zero f = refl
none_in (suc n) zero = refl
none_in (suc n) (suc f) = none_in n f

known_step : (u : UnitTree) (p : CallPath) (ps : List CallPath) (ss : Sizes) (o : Option Size) → ((f : ℕ) (s : Size) → slice_index_or ss f None ≡ Some s → IsListed ps f)
    → (f : ℕ) (s : Size) → slice_index_or (with_size u p.function o ss) f None ≡ Some s → IsListed (p ∷ ps) f
known_step u p ps ss (Some x) below f s h = inr (below f s h)
known_step u p ps ss None below f s h =
    elim (eqb_tells f p.function) [
      | inl e ↦ inl e.1
      | inr e ↦ inr (below f s (sym (get_or-set_other ss p.function f (Some (measured u ss p.function)) None e.1) ∙ h))
    ]

known_listed : (u : UnitTree) (ps : List CallPath) (f : ℕ) (s : Size) → slice_index_or (sizes_of u ps) f None ≡ Some s → IsListed ps f
unfolding sizes_of
known_listed u [] f s h = none-some s (sym (none_in (length u.functions) f) ∙ h)
known_listed u (p ∷ ps) f s h = known_step u p ps (sizes_of u ps) (slice_index_or (sizes_of u ps) p.function None) (known_listed u ps) f s h

-- ---- there is a place for each function

with_length : (u : UnitTree) (f : ℕ) (o : Option Size) (ss : Sizes) → length (with_size u f o ss) ≡ length ss
with_length u f (Some s) ss = refl
with_length u f None ss = length-set ss f (Some (measured u ss f))

sizes_length : (u : UnitTree) (ps : List CallPath) → length (sizes_of u ps) ≡ length u.functions
unfolding sizes_of
sizes_length u [] = length-replicate (length u.functions) None
sizes_length u (p ∷ ps) = with_length u p.function (slice_index_or (sizes_of u ps) p.function None) (sizes_of u ps) ∙ sizes_length u ps

found_within : (u : UnitTree) (f : ℕ) (o : Option FunctionTree) → slice_get u.functions f ≡ o → IsSome (option_and_then (λ (g : FunctionTree). g.body) o) → f < length u.functions
found_within u f None e h = absurd (false≢true h)
found_within u f (Some g) e h = slice_get_within u.functions f g e

body_within : (u : UnitTree) (f : ℕ) → HasBody u f → f < length u.functions
unfolding body_of
body_within u f h = found_within u f (slice_get u.functions f) refl h

pub sizes_are_measured : SizesAreMeasured
unfolding sizes_of
sizes_are_measured u [] h f l = absurd l
sizes_are_measured u (p ∷ ps) h f l =
    let ss = sizes_of u ps in
    listed_step u p ps ss h (subst (λ (n : ℕ). p.function < n) (sym (sizes_length u ps)) (body_within u p.function h.0)) (sizes_are_measured u ps h.2)
    (slice_index_or ss p.function None) refl (λ s e. known_listed u ps p.function s e) f l

size_known : (u : UnitTree) (ps : List CallPath) → CallsLeadBehind u ps → (f : ℕ) → IsListed ps f → measured u (sizes_of u ps) f ≡ size_in (sizes_of u ps) f
size_known u ps h f l = sym (ap (λ (x : Option Size). unwrap_or x no_size) (sizes_are_measured u ps h f l))

own_sizes : (u : UnitTree) (ps : List CallPath) → CallsLeadBehind u ps → (f : ℕ) → IsListed ps f → AtItems (AgreeAt (sizes_of u ps) (sizes_of u ps)) (body_at u f).items
own_sizes u ps h f l = at_items (λ g n. IsListed ps g) (AgreeAt (sizes_of u ps) (sizes_of u ps)) (λ g n i. refl) (body_at u f).items (listed_body u ps h f l).1

pub parts_fill_regions : (V : Type 0) → PartsFillRegions V
parts_fill_regions V = record {
  points = λ u ps k n f from r d h l.
      (parts_make_their_size V).points u (sizes_of u ps) (sizes_of u ps) k n f from r d (listed_body u ps h f l).0 (own_sizes u ps h f l) ∙ ap (λ (s : Size). r.points + s.points) (size_known u ps h f l);
  variables = λ u ps k n f from r d h l.
      (parts_make_their_size V).variables u (sizes_of u ps) (sizes_of u ps) k n f from r d (listed_body u ps h f l).0 (own_sizes u ps h f l) ∙ ap (λ (s : Size). r.variables + s.variables) (size_known u ps h f l);
}
