-- Each element of an order stands once, where the elements of its places differ.
use Rattle.std.proofs.Common.{◌≡◌, ℕ, suc, ◌+◌, length, List, [], ◌∷◌, ◌++◌, map, ap, sym, subst, refl, inl, inr, arith, Contains}
use Rattle.std.specs.List.{slice_index_or}
use Rattle.std.proofs.lemmas.List.{map-append}
use Rattle.std.proofs.lemmas.List.Elements.{Contains-append_left, Contains-append_right, Contains-append_cases}
use Rattle.pk_plan.specs.declared.places.Place.{Place}
use Rattle.pk_plan.specs.declared.places.Role.TheVariants.{Exit as AtExit}
use Rattle.pk_plan.specs.Order.{Level, Empty, Vertex_then, Component_then, places_of}
use Rattle.pk_plan.proofs.Apart.{Apart, apart_of}
use Rattle.pk_iterate.specs.Settled.{In, Once}
use Rattle.pk_iterate.specs.BoundedTurns.{DifferentStandOnce}

abbrev elements : Level → List ℕ
elements level = map (λ (p : Place). p.element) (places_of level)

here : (x e : ℕ) (xs : List ℕ) → e ≡ x → Contains (x ∷ xs) e
here x e xs same = (0, omega arith, sym same)

there : (x e : ℕ) (xs : List ℕ) → Contains xs e → Contains (x ∷ xs) e
there x e xs has = (suc has.0, omega (arith, has.1), has.2)

-- two parts of a list have no element in common, and each is so
apart_parts : (xs ys : List ℕ) → Apart (xs ++ ys) → Apart xs × Apart ys × ((e : ℕ) → Contains xs e → Contains ys e → ⊥)
apart_parts [] ys apart = (tt, apart, λ e has more. absurd (omega (arith, has.1)))
apart_parts (x ∷ xs) ys apart =
    let r = apart_parts xs ys apart.1 in (
      ((λ has. apart.0 (Contains-append_left xs ys x has)), r.0),
      r.1,
      λ e has more. elim (Contains-append_cases (x ∷ []) xs e has) [
        | inl first ↦ apart.0 (Contains-append_right xs ys x (subst (Contains ys) (only e first) more))
        | inr later ↦ r.2 e later more
      ],
    )
  where
    only : (e : ℕ) → Contains (x ∷ []) e → e ≡ x
    only e (k, within, is) =
        let first : k ≡ 0 = omega (arith, within) in
        sym (subst (λ (i : ℕ). slice_index_or (x ∷ []) i e ≡ e) first is)

elements_of_component : (head exit : ℕ) (rest more : Level) → elements (Component_then head exit rest more) ≡ head ∷ (elements rest ++ exit ∷ elements more)
elements_of_component head exit rest more =
    ap (λ (xs : List ℕ). head ∷ xs) (map-append (λ (p : Place). p.element) (places_of rest) (record { element = exit; role = AtExit (length (places_of rest) + 1) } ∷ places_of more))

in_elements : (level : Level) (e : ℕ) → In level e → Contains (elements level) e
in_elements Empty e i = absurd i
in_elements (Vertex_then v more) e (inl same) = here v e (elements more) same
in_elements (Vertex_then v more) e (inr i) = there v e (elements more) (in_elements more e i)
in_elements (Component_then head exit rest more) e i = subst (λ (xs : List ℕ). Contains xs e) (sym (elements_of_component head exit rest more)) (by i (in_elements rest e) (in_elements more e))
  where
    by : In (Component_then head exit rest more) e → (In rest e → Contains (elements rest) e) → (In more e → Contains (elements more) e) → Contains (head ∷ (elements rest ++ exit ∷ elements more)) e
    by (inl same) inside after = here head e _ same
    by (inr (inl same)) inside after = there head e _ (Contains-append_right (elements rest) (exit ∷ elements more) e (here exit e (elements more) same))
    by (inr (inr (inl i))) inside after = there head e _ (Contains-append_left (elements rest) (exit ∷ elements more) e (inside i))
    by (inr (inr (inr i))) inside after = there head e _ (Contains-append_right (elements rest) (exit ∷ elements more) e (there exit e (elements more) (after i)))

once_of : (level : Level) → Apart (elements level) → Once level
once_of Empty apart = tt
once_of (Vertex_then v more) apart = ((λ i. apart.0 (in_elements more v i)), once_of more apart.1)
once_of (Component_then head exit rest more) apart =
    let all : Apart (head ∷ (elements rest ++ exit ∷ elements more)) = subst Apart (elements_of_component head exit rest more) apart in
    let parts = apart_parts (elements rest) (exit ∷ elements more) all.1 in (
      (λ same. all.0 (Contains-append_right (elements rest) (exit ∷ elements more) head (here exit head (elements more) same))),
      (λ i. all.0 (Contains-append_left (elements rest) (exit ∷ elements more) head (in_elements rest head i))),
      (λ i. all.0 (Contains-append_right (elements rest) (exit ∷ elements more) head (there exit head (elements more) (in_elements more head i)))),
      (λ i. parts.2 exit (in_elements rest exit i) (here exit exit (elements more) refl)),
      (λ i. parts.1.0 (in_elements more exit i)),
      (λ e i j. parts.2 e (in_elements rest e i) (there exit e (elements more) (in_elements more e j))),
      once_of rest parts.0,
      once_of more parts.1.1,
    )

pub different_once : DifferentStandOnce
different_once order differ = once_of order (apart_of (elements order) differ)
