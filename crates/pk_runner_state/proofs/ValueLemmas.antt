-- Values that wait, and choices.
use Rattle.std.proofs.Common.{◌≡◌, ◌<◌, ◌≤◌, ◌+◌, ◌-◌, ℕ, zero, suc, refl, ap, ◌∙◌, sym, subst, arith, List, [], ◌∷◌, ◌++◌, length, take, drop}
use Rattle.std.specs.Prelude.{ℤ, pos, reverse}
use Rattle.std.specs.List.{remove}
use Rattle.std.proofs.lemmas.List.{drop_more, take-append-drop, length-take-le, length-drop, length-reverse, reverse-append, append_assoc, get_or-reverse}
use Rattle.pk_graph.specs.Steps.{Numbers, number_at}
use Rattle.pk_meaning.specs.Steps.{Next, Stuck, on_below}
use Rattle.pk_runner_state.specs.Shown.{without_one}

-- ---- the value under others

on_place : (ys : List ℤ) (n : ℕ) (f : ℤ → Numbers → Next) → n < length ys → on_below n ys f ≡ f (number_at ys n) (without_one n ys)
on_place [] n f h = absurd (omega (arith, h))
on_place (y ∷ ys) zero f h = refl
on_place (y ∷ ys) (suc n) f h = on_place ys n (λ w rest. f w (y ∷ rest)) (omega (arith, h))

past_place : (ys : List ℤ) (n : ℕ) (f : ℤ → Numbers → Next) → length ys ≤ n → on_below n ys f ≡ Stuck
past_place [] n f h = refl
past_place (y ∷ ys) zero f h = absurd (omega (arith, h))
past_place (y ∷ ys) (suc n) f h = past_place ys n (λ w rest. f w (y ∷ rest)) (omega (arith, h))

at_place : (a : List ℤ) (z : ℤ) (b : List ℤ) → without_one (length a) (a ++ z ∷ b) ≡ a ++ b
at_place [] z b = refl
at_place (y ∷ a) z b = ap (λ (xs : List ℤ). y ∷ xs) (at_place a z b)

place_at : (a : List ℤ) (z : ℤ) (b : List ℤ) (n : ℕ) → length a ≡ n → without_one n (a ++ z ∷ b) ≡ a ++ b
place_at a z b n e = ap (λ (m : ℕ). without_one m (a ++ z ∷ b)) (sym e) ∙ at_place a z b

-- what is left of a list in which the order is turned
left_of : (zs : List ℤ) (m n : ℕ) → m + n + 1 ≡ length zs → without_one n (reverse zs) ≡ reverse (without_one m zs)
left_of zs m n e =
    let z : ℤ = number_at zs m in
    let a : List ℤ = take m zs in
    let b : List ℤ = drop (m + 1) zs in
    let split : zs ≡ a ++ z ∷ b = sym (take-append-drop m zs) ∙ ap (λ (ys : List ℤ). take m zs ++ ys) (drop_more zs m (pos 0) (omega (arith, e))) in
    let short : length a ≡ m = length-take-le m zs (omega (arith, e)) in
    let long : length (reverse b) ≡ n = length-reverse b ∙ (length-drop (m + 1) zs ∙ omega (arith, e)) in
    let turned : reverse (a ++ z ∷ b) ≡ reverse b ++ z ∷ reverse a =
    reverse-append a (z ∷ b) ∙ (ap (λ (ys : List ℤ). ys ++ reverse a) (reverse-append (z ∷ []) b) ∙ append_assoc (reverse b) (z ∷ []) (reverse a)) in
    ap (λ (ys : List ℤ). without_one n (reverse ys)) split
    ∙ (ap (without_one n) turned
    ∙ (place_at (reverse b) z (reverse a) n long
    ∙ (sym (reverse-append a b)
    ∙ (ap reverse (sym (place_at a z b m short))
    ∙ ap (λ (ys : List ℤ). reverse (without_one m ys)) (sym split)))))

pub below_is : (zs : List ℤ) (n m : ℕ) (f : ℤ → Numbers → Next) → n < length zs → m ≡ length zs - 1 - n → on_below n (reverse zs) f ≡ f (number_at zs m) (reverse (without_one m zs))
below_is zs n m f h e =
    on_place (reverse zs) n f (subst (λ (k : ℕ). n < k) (sym (length-reverse zs)) h)
    ∙ (ap (λ (z : ℤ). f z (without_one n (reverse zs))) (get_or-reverse zs n (pos 0) h ∙ ap (number_at zs) (sym e))
    ∙ ap (f (number_at zs m)) (left_of zs m n (omega (arith, h, e))))

pub below_past : (zs : List ℤ) (n : ℕ) (f : ℤ → Numbers → Next) → length zs ≤ n → on_below n (reverse zs) f ≡ Stuck
below_past zs n f h = past_place (reverse zs) n f (subst (λ (k : ℕ). k ≤ n) (sym (length-reverse zs)) h)

pub removed_is : (zs : List ℤ) (k : ℕ) → k < length zs → remove zs k ≡ without_one k zs
removed_is [] k h = absurd (omega (arith, h))
removed_is (z ∷ zs) zero h = refl
removed_is (z ∷ zs) (suc k) h = ap (λ (xs : List ℤ). z ∷ xs) (removed_is zs k (omega (arith, h)))

pub none_removed : (zs : List ℤ) (k : ℕ) → length zs ≤ k → zs ≡ without_one k zs
none_removed [] k h = refl
none_removed (z ∷ zs) zero h = absurd (omega (arith, h))
none_removed (z ∷ zs) (suc k) h = ap (λ (xs : List ℤ). z ∷ xs) (none_removed zs k (omega (arith, h)))
