-- A slice by its first element and the rest; a return without a value; one number that is chosen.
use Rattle.std.proofs.Common.{◌≡◌, ◌<◌, ◌-◌, ℕ, refl, ap, ◌∙◌, sym, arith, List, [], ◌∷◌, length, take, drop, get_or, Option, Some, None, true, false, Bool, ◌&&◌, nat_eq, ◌≢◌, ◌⊎◌, inl, inr}
use Rattle.std.specs.Prelude.{ℤ}
use Rattle.std.proofs.lemmas.List.{take_all}
use Rattle.std.proofs.lemmas.Bool.Decides.{eqb_tells}
use Rattle.pk_ctypes.specs.declared.types.IntType.{IntType}
use Rattle.pk_typed.specs.Trees.{ValueTree}
use Rattle.pk_graph.specs.Steps.{are_any, all_in_type}
use Rattle.pk_meaning.specs.Work.{Caller, Leave}
use Rattle.pk_meaning.specs.Steps.{Config, on, returns}

abbrev pub tail : {A : Type 0} → List A → List A
tail xs = take (length xs - 1) (drop 1 xs)

pub at_front : {A : Type 0} (xs : List A) (x : A) → 0 < length xs → x ≡ get_or xs 0 x → xs ≡ x ∷ tail xs
at_front [] x h e = absurd (omega (arith, h))
at_front (y ∷ ys) x h e =
    ap (λ (z : _). z ∷ ys) (sym e) ∙ ap (λ (zs : List _). x ∷ zs) (sym (take_all (length (y ∷ ys) - 1) ys (omega arith)))

pub none_there : {A : Type 0} (xs : List A) → length xs ≡ 0 → xs ≡ []
none_there [] e = refl
none_there (x ∷ xs) e = absurd (omega (arith, e))

pub returns_none : (c : Config) (o : Option ValueTree) (k : Caller) → returns c None o k ≡ on c (Leave k) c.values
returns_none c None k = refl
returns_none c (Some e) k = refl

left_true : (a b : Bool) → (a && b) ≡ true → a ≡ true
left_true true b e = refl
left_true false b e = absurd (cc e)

is_one : (n : ℕ) → nat_eq n 1 ≡ true → n ≡ 1
is_one n e = told (eqb_tells n 1)
  where
    told : ((nat_eq n 1 ≡ true) × (n ≡ 1)) ⊎ ((nat_eq n 1 ≡ false) × (n ≢ 1)) → n ≡ 1
    told (inl h) = h.1
    told (inr h) = let f : nat_eq n 1 ≡ false = h.0 in absurd (cc (e, f))

pub one_chosen : (t : IntType) (zs : List ℤ) (d : ℤ) → are_any t 1 zs ≡ true → get_or zs 0 d ∷ [] ≡ zs
one_chosen t [] d e = let n : length {A = ℤ} [] ≡ 1 = is_one (length {A = ℤ} []) (left_true (nat_eq (length {A = ℤ} []) 1) (all_in_type t []) e) in absurd (omega (arith, n))
one_chosen t (x ∷ []) d e = refl
one_chosen t (x ∷ y ∷ zs) d e = let n : length (x ∷ y ∷ zs) ≡ 1 = is_one (length (x ∷ y ∷ zs)) (left_true (nat_eq (length (x ∷ y ∷ zs)) 1) (all_in_type t (x ∷ y ∷ zs)) e) in absurd (omega (arith, n))
