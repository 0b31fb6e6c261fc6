-- Trees of parts, one after another, where each part has one.
use Rattle.std.proofs.Common.{◌≡◌, List, [], ◌∷◌, ◌++◌, Option, Some, None, option_map, refl, ap, sym, append_assoc}
use Rattle.std.proofs.lemmas.List.{append-nil}
use Rattle.pk_type_expression.specs.Typed.{of_both}
use Rattle.pk_type_declaration.specs.Parts.{joined}

pub joined_step : {A : Type 0} (xs : Option (List A)) (t : Option A) (ts : Option (List A)) → joined xs (of_both (λ y ys. y ∷ ys) t ts) ≡ joined (of_both (λ ys y. ys ++ y ∷ []) xs t) ts
joined_step None None ts = refl
joined_step None (Some t) None = refl
joined_step None (Some t) (Some ts) = refl
joined_step (Some xs) None ts = refl
joined_step (Some xs) (Some t) None = refl
joined_step (Some xs) (Some t) (Some ts) = ap Some (sym (append_assoc xs (t ∷ []) ts))

pub joined_none : {A : Type 0} (xs : Option (List A)) → joined xs (Some []) ≡ xs
joined_none None = refl
joined_none (Some xs) = ap Some (append-nil xs)

pub none_joined : {A : Type 0} (xs : Option (List A)) → joined (Some []) xs ≡ xs
none_joined None = refl
none_joined (Some xs) = refl

pub map_twice : {A B C : Type 0} (f : A → B) (g : B → C) (x : Option A) → option_map (λ a. g (f a)) x ≡ option_map g (option_map f x)
map_twice f g None = refl
map_twice f g (Some a) = refl
