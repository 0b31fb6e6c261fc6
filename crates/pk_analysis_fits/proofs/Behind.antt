-- What stands to the left of an element of an order is gone when the element's turn comes.
use Rattle.std.proofs.Common.{◌≡◌, ℕ, zero, suc, ◌⊎◌, inl, inr, List, [], ◌∷◌, ◌++◌, drop, true, false, ap, sym, subst, ◌∙◌, Contains}
use Rattle.std.proofs.lemmas.List.Elements.{Contains-append_left, Contains-append_right}
use Rattle.pk_plan.specs.Order.{Level, Empty, Vertex_then, Component_then}
use Rattle.pk_plan.specs.Shape.{has}
use Rattle.pk_plan.specs.Linear.{elements_of}
use Rattle.pk_plan.proofs.Apart.{Apart}
use Rattle.pk_linear.proofs.ListLemmas.{contains_none, contains_here, contains_there, contains_cases}
use Rattle.pk_iterate.specs.Settled.{In, Ahead}
use Rattle.pk_sound.proofs.Ahead.{in_contains}
use Rattle.pk_core.proofs.Basics.{not_true}
use Rattle.pk_core.proofs.Plan_shapes.{has_of, of_has}

-- e stands in the list, somewhere after u
abbrev pub After : List ℕ → ℕ → ℕ → Type 0
After [] u e = ⊥
After (x ∷ xs) u e = ((u ≡ x) × Contains xs e) ⊎ After xs u e

after_left : (xs ys : List ℕ) (u e : ℕ) → After xs u e → After (xs ++ ys) u e
after_left [] ys u e a = absurd a
after_left (x ∷ xs) ys u e (inl a) = inl (a.0, Contains-append_left xs ys e a.1)
after_left (x ∷ xs) ys u e (inr a) = inr (after_left xs ys u e a)

after_right : (xs ys : List ℕ) (u e : ℕ) → After ys u e → After (xs ++ ys) u e
after_right [] ys u e a = a
after_right (x ∷ xs) ys u e a = inr (after_right xs ys u e a)

after_across : (xs ys : List ℕ) (u e : ℕ) → Contains xs u → Contains ys e → After (xs ++ ys) u e
after_across [] ys u e i j = absurd (contains_none i)
after_across (x ∷ xs) ys u e i j = elim (contains_cases x u xs i) [
  | inl is ↦ inl (sym is, Contains-append_right xs ys e j)
  | inr later ↦ inr (after_across xs ys u e later j)
]

-- what stands to the left comes first in the list of the elements
pub ahead_after : (level : Level) (u e : ℕ) → Ahead level u e → After (elements_of level) u e
ahead_after Empty u e a = absurd a
ahead_after (Vertex_then v more) u e (inl a) = inl (a.0, in_contains more e a.1)
ahead_after (Vertex_then v more) u e (inr a) = inr (ahead_after more u e a)
ahead_after (Component_then h x rest more) u e (inl a) = inl (
  a.0,
  elim a.1 [
    | inl i ↦ Contains-append_left (elements_of rest) (x ∷ elements_of more) e (in_contains rest e i)
    | inr y ↦ Contains-append_right (elements_of rest) (x ∷ elements_of more) e (last x more e y)
  ],
)
  where
    last : (x : ℕ) (more : Level) (e : ℕ) → (e ≡ x) ⊎ In more e → Contains (x ∷ elements_of more) e
    last x more e (inl is) = subst (λ (k : ℕ). Contains (x ∷ elements_of more) k) (sym is) (contains_here x (elements_of more))
    last x more e (inr i) = contains_there x (elements_of more) (in_contains more e i)
ahead_after (Component_then h x rest more) u e (inr (inl a)) = inr (after_across (elements_of rest) (x ∷ elements_of more) u e (in_contains rest u a.0) (last x more e a.1))
  where
    last : (x : ℕ) (more : Level) (e : ℕ) → (e ≡ x) ⊎ In more e → Contains (x ∷ elements_of more) e
    last x more e (inl is) = subst (λ (k : ℕ). Contains (x ∷ elements_of more) k) (sym is) (contains_here x (elements_of more))
    last x more e (inr i) = contains_there x (elements_of more) (in_contains more e i)
ahead_after (Component_then h x rest more) u e (inr (inr (inl a))) = inr (after_right (elements_of rest) (x ∷ elements_of more) u e (inl (a.0, in_contains more e a.1)))
ahead_after (Component_then h x rest more) u e (inr (inr (inr (inl a)))) = inr (after_left (elements_of rest) (x ∷ elements_of more) u e (ahead_after rest u e a))
ahead_after (Component_then h x rest more) u e (inr (inr (inr (inr a)))) = inr (after_right (elements_of rest) (x ∷ elements_of more) u e (inr (ahead_after more u e a)))

after_has : (xs : List ℕ) (u e : ℕ) → After xs u e → Contains xs e
after_has [] u e a = absurd a
after_has (x ∷ xs) u e (inl a) = contains_there x xs a.1
after_has (x ∷ xs) u e (inr a) = contains_there x xs (after_has xs u e a)

drop_has : (xs : List ℕ) (i u : ℕ) → has u (drop i xs) ≡ true → has u xs ≡ true
drop_has [] zero u h = h
drop_has [] (suc i) u h = h
drop_has (x ∷ xs) zero u h = h
drop_has (x ∷ xs) (suc i) u h = has_of u (x ∷ xs) (contains_there x xs (of_has u xs (drop_has xs i u h)))

-- from e's place on u stands no more
pub gone : (xs : List ℕ) (i u e : ℕ) (rest : List ℕ) → Apart xs → After xs u e → drop i xs ≡ e ∷ rest → has u (e ∷ rest) ≡ false
gone [] i u e rest apart a is = absurd a
gone (x ∷ xs) zero u e rest apart a is =
    let here : x ≡ e = cc in
    absurd (apart.0 (subst (λ (k : ℕ). Contains xs k) (sym here) (elim a [ inl q ↦ q.1 | inr q ↦ after_has xs u e q ])))
gone (x ∷ xs) (suc i) u e rest apart (inl a) is =
    not_true (has u (e ∷ rest)) (λ h. apart.0 (subst (λ (k : ℕ). Contains xs k) a.0 (of_has u xs (drop_has xs i u (ap (has u) is ∙ h)))))
gone (x ∷ xs) (suc i) u e rest apart (inr a) is = gone xs i u e rest apart.1 a is

-- an element stands no more after its place
pub once_at : (xs : List ℕ) (i e : ℕ) (rest : List ℕ) → Apart xs → drop i xs ≡ e ∷ rest → has e rest ≡ false
once_at [] zero e rest apart is = absurd (cc)
once_at [] (suc i) e rest apart is = absurd (cc)
once_at (x ∷ xs) zero e rest apart is =
    let here : x ≡ e = cc in
    let more : xs ≡ rest = cc in
    not_true (has e rest) (λ h. apart.0 (subst (λ (k : ℕ). Contains xs k) (sym here) (of_has e xs (ap (has e) more ∙ h))))
once_at (x ∷ xs) (suc i) e rest apart is = once_at xs i e rest apart.1 is
