-- The layout of a nest.
use Rattle.std.proofs.Common.{◌≡◌, ◌≢◌, ℕ, ◌<◌, ◌^◌, List, [], ◌∷◌, ◌++◌, length, map, get_or, refl, sym, ◌∙◌, inl, inr, arith, Contains, AllPairs}
use Rattle.std.specs.List.{range_with_len}
use Rattle.std.proofs.lemmas.Bool.{cases_eq, cases_lt}
use Rattle.std.proofs.lemmas.List.{get_or_default}
use Rattle.std.proofs.lemmas.List.Elements.{Contains-get_or}
use Rattle.std.proofs.lemmas.List.FromFn.{get_or-map-range_with_len, length-map-range_with_len}
use Rattle.pk_plan.specs.Digraphs.{IsVertex, IsClosed}
use Rattle.pk_plan.specs.Nests.{Items, IsNest}
use Rattle.pk_linear.proofs.ListLemmas.{is_or_is_not}
use Rattle.pk_wpo.specs.Constraints.{exit_of}
use Rattle.pk_wpo.specs.Layouts.{elements_of, Laid, IsLaid}
use Rattle.pk_wpo.proofs.LaidOut.{whole_within, whole_once}

-- where a number stands in a list
pub record At (xs : List ℕ) (e : ℕ) : Type 0 where
  pub index : ℕ
  pub is : Contains xs e → (index < length xs) × (get_or xs index 0 ≡ e)

pub at_of : (xs : List ℕ) (e : ℕ) → At xs e
at_of xs e = elim (is_or_is_not xs e) [
  | inl i ↦ record { index = i.0; is = λ j. (i.1, get_or_default xs i.0 0 e i.1 ∙ i.2) }
  | inr none ↦ record { index = 0; is = λ j. absurd (none j) }
]

abbrev pub whole_of : List (List ℕ) → Items → List ℕ
whole_of g items = elements_of (exit_of g items) items ++ exit_of g items (length g) ∷ []

abbrev pub layout_of : List (List ℕ) → Items → Laid
layout_of g items = record {
  graph = g;
  items = items;
  elements = whole_of g items;
  places = map (λ e. (at_of (whole_of g items) e).index) (range_with_len 0 (length (whole_of g items)));
}

pub is_laid : (g : List (List ℕ)) (items : Items) → IsClosed g → length g < 2 ^ 31 → IsNest g (IsVertex g) items → IsLaid (layout_of g items)
is_laid g items closed few nest =
    let whole : List ℕ = whole_of g items in
    let F : ℕ → ℕ = λ e. (at_of (whole_of g items) e).index in
    record {
      closed = closed;
      few = few;
      nest = nest;
      elements = refl;
      placed = length-map-range_with_len F 0 (length whole);
      place = λ k below.
          let e : ℕ = get_or whole k 0 in
          let e_in : get_or whole k 0 < length whole = whole_within g items whole nest refl k 0 below in
          let a : (F (get_or whole k 0) < length whole) × (get_or whole (F (get_or whole k 0)) 0 ≡ get_or whole k 0) = (at_of whole (get_or whole k 0)).is (Contains-get_or whole k 0 below) in
          let once : AllPairs (λ a b. a ≢ b) whole = whole_once g items whole nest refl in
          get_or-map-range_with_len F 0 (length whole) (get_or whole k 0) (get_or whole k 0) 0 e_in (omega arith)
          ∙ elim (cases_lt (F (get_or whole k 0)) k) [
            | inl less ↦ absurd (once (F (get_or whole k 0)) k 0 less below a.1)
            | inr more ↦ elim (cases_eq k (F (get_or whole k 0))) [
              | inl same ↦ sym same
              | inr other ↦ absurd (once k (F (get_or whole k 0)) 0 (omega (arith, more, other)) a.0 (sym a.1))
            ]
          ];
    }
