-- Small facts on words of std, which several crates need.
use Rattle.std.proofs.Common.{◌≡◌, ℕ, Bool, true, false, ◌&&◌, refl}
use Rattle.std.specs.Prelude.{Option, Some, None, SomeIff}

pub both_true : (a b : Bool) → (a && b) ≡ true → (a ≡ true) × (b ≡ true)
both_true true b e = (refl, e)
both_true false b e = absurd (cc)

pub and_true : (a b : Bool) → a ≡ true → b ≡ true → (a && b) ≡ true
and_true true true e f = refl
and_true false b e f = absurd (cc)
and_true a false e f = absurd (cc)

pub some_is : (P : Type 0) (o : Option ℕ) (v x : ℕ) → SomeIff o P v → o ≡ Some x → x ≡ v
some_is P None v x h e = cc
some_is P (Some y) v x h e = cc
