-- The places of variables in an octagon.
use Rattle.std.specs.Prelude.{◌≡◌, ◌≢◌, ℕ, zero, suc, ◌<◌, ◌==◌, Bool, true, false, if◌then◌else◌, List, [], ◌∷◌, length, slice_index_or, Option, Some, None, option_map, not}
use Rattle.std.specs.Option.{is_some}
use Rattle.std.proofs.Common.{arith, ap, refl, ◌∙◌}
use Rattle.std.proofs.lemmas.Bool.Decides.{nat_tests}
use Rattle.pk_octagons.specs.Packs.{place_in}

equal_test : (m n : ℕ) → m ≡ n → (m == n) ≡ true
equal_test m n e = grind (arith, nat_tests)

pub other_test : (m n : ℕ) → m ≢ n → (m == n) ≡ false
other_test m n e = grind (arith, nat_tests)

first : (y x : ℕ) (ys : List ℕ) → y ≡ x → place_in (y ∷ ys) x ≡ Some 0
first y x ys e = ap (λ b. if b then Some 0 else option_map suc (place_in ys x)) (equal_test y x e)

later : (y x : ℕ) (ys : List ℕ) (o : Option ℕ) → y ≢ x → place_in ys x ≡ o → place_in (y ∷ ys) x ≡ option_map suc o
later y x ys o n e = ap (λ b. if b then Some 0 else option_map suc (place_in ys x)) (other_test y x n) ∙ ap (option_map suc) e

-- the first place that has the variable is its place
pub found_at : (ys : List ℕ) (x k : ℕ) → k < length ys → slice_index_or ys k 0 ≡ x → ((j : ℕ) → j < k → slice_index_or ys j 0 ≢ x) → place_in ys x ≡ Some k
found_at [] x k h e n = absurd (omega (arith, h))
found_at (y ∷ ys) x zero h e n = first y x ys e
found_at (y ∷ ys) x (suc k) h e n = later y x ys (Some k) (n 0 (omega arith)) (found_at ys x k (omega (arith, h)) e (λ j l. n (suc j) (omega (arith, l))))

-- where no place has the variable it has none
pub found_none : (ys : List ℕ) (x : ℕ) → ((j : ℕ) → j < length ys → slice_index_or ys j 0 ≢ x) → place_in ys x ≡ None
found_none [] x n = refl
found_none (y ∷ ys) x n = later y x ys None (n 0 (omega arith)) (found_none ys x (λ j l. n (suc j) (omega (arith, l))))

none_later : (o : Option ℕ) → option_map suc o ≡ None → o ≡ None
none_later None f = refl
none_later (Some k) f = absurd (cc)

-- a variable that has no place isn't the first, and has none among the others
none_first : (y x : ℕ) (ys : List ℕ) → place_in (y ∷ ys) x ≡ None → (y ≢ x) × (place_in ys x ≡ None)
none_first y x ys e = by (y == x) refl e
  where
    by : (t : Bool) → (y == x) ≡ t → (if t then Some 0 else option_map suc (place_in ys x)) ≡ None → (y ≢ x) × (place_in ys x ≡ None)
    by true f g = absurd (cc)
    by false f g = (λ h. absurd (grind (arith, f, h, nat_tests)), none_later (place_in ys x) g)

pub none_apart : (ys : List ℕ) (x : ℕ) → place_in ys x ≡ None → (j : ℕ) → j < length ys → slice_index_or ys j 0 ≢ x
none_apart [] x e j p = absurd (omega (arith, p))
none_apart (y ∷ ys) x e zero p = (none_first y x ys e).0
none_apart (y ∷ ys) x e (suc j) p = none_apart ys x (none_first y x ys e).1 j (omega (arith, p))

-- an option that is none, by its test
pub no_place : (o : Option ℕ) (b : Bool) → is_some o ≡ not b → b ≡ true → o ≡ None
no_place None b e f = refl
no_place (Some k) true e f = absurd (cc)
no_place (Some k) false e f = absurd (cc)

some_first : (y x k : ℕ) (ys : List ℕ) → place_in (y ∷ ys) x ≡ Some k → ((k' : ℕ) → place_in ys x ≡ Some k' → (k' < length ys) × (slice_index_or ys k' 0 ≡ x)) → (k < length (y ∷ ys)) × (slice_index_or (y ∷ ys) k 0 ≡ x)
some_first y x k ys e ih = by (y == x) refl (place_in ys x) refl e
  where
    by : (t : Bool) → (y == x) ≡ t → (o : Option ℕ) → place_in ys x ≡ o → (if t then Some 0 else option_map suc o) ≡ Some k → (k < length (y ∷ ys)) × (slice_index_or (y ∷ ys) k 0 ≡ x)
    by true f o g h = let none : 0 ≡ k = cc in rw (← none) (omega (arith), grind (arith, f, nat_tests))
    by false f None g h = absurd (cc)
    by false f (Some j) g h = let next : suc j ≡ k = cc in let r = ih j g in rw (← next) (omega (arith, r.0), r.1)

-- a place has its variable
pub place_there : (ys : List ℕ) (x k : ℕ) → place_in ys x ≡ Some k → (k < length ys) × (slice_index_or ys k 0 ≡ x)
place_there [] x k e = absurd (cc)
place_there (y ∷ ys) x k e = some_first y x k ys e (place_there ys x)
