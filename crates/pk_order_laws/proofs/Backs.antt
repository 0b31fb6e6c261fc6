-- How far back a place stands.
use Rattle.std.proofs.Common.{◌≡◌, ℕ, ◌+◌, List, ◌∷◌, ◌++◌, length, sym, ap, subst, ◌∙◌, inl, inr, arith, Contains}
use Rattle.std.proofs.lemmas.Bool.{cases_eq}
use Rattle.std.proofs.lemmas.List.{map-append, length_push}
use Rattle.pk_plan.specs.declared.places.Place.{Place}
use Rattle.pk_plan.specs.Plans.{PlanView}
use Rattle.pk_linear.specs.Steps.{elements_at, Stands, AreSteps, Start, Then}
use Rattle.pk_linear.proofs.ListLemmas.{push_split, nil_is_not, contains_between}

pub record Back (places : List Place) (h : ℕ) : Type 0 where
  pub number : ℕ
  pub is : (above below : List Place) (head : Place) → places ≡ above ++ head ∷ below → head.element ≡ h → number ≡ length below + 1

stands_between : (above below : List Place) (head : Place) (h : ℕ) → head.element ≡ h → Stands (above ++ head ∷ below) h
stands_between above below head h is =
    subst (λ (xs : List ℕ). Contains xs h) (sym (map-append (λ (q : Place). q.element) above (head ∷ below)))
    (subst (λ (x : ℕ). Contains (elements_at above ++ head.element ∷ elements_at below) x) is (contains_between (elements_at above) (elements_at below) head.element))

pub back_of : (p : PlanView) (lasts : List ℕ) (places : List Place) (h : ℕ) → AreSteps p lasts places → Back places h
back_of p lasts _ h Start = record { number = 0; is = λ above below head split same. absurd (nil_is_not above below head split) }
back_of p lasts _ h (Then {places} {place} steps step) = elim (cases_eq place.element h) [
  | inl here ↦ record {
    number = 1;
    is = λ above below head split same. elim (push_split places above below place head split) [
      | inl last ↦ ap (λ (ps : List Place). length ps + 1) (sym last.2)
      | inr inner ↦ absurd (step.fresh (subst (λ (x : ℕ). Stands places x) (sym here) (subst (λ (ps : List Place). Stands ps h) (sym inner.2) (stands_between above inner.0 head h same))))
    ];
  }
  | inr other ↦
      let b : Back places h = back_of p lasts places h steps in
      record {
        number = b.number + 1;
        is = λ above below head split same. elim (push_split places above below place head split) [
          | inl last ↦ absurd (other (ap (λ (q : Place). q.element) last.1 ∙ same))
          | inr inner ↦
              let n : b.number ≡ length inner.0 + 1 = b.is above inner.0 head inner.2 same in
              let long : length below ≡ length inner.0 + 1 = ap length inner.1 ∙ length_push inner.0 place in
              omega (arith, n, long)
        ];
      }
]
