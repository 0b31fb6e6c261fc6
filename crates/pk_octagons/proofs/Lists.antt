-- Lists of values that are read and written, place by place.
use Rattle.std.specs.Prelude.{◌≡◌, ◌≢◌, ℕ, zero, suc, ◌<◌, List, [], ◌∷◌, length, slice_get, Some}
use Rattle.std.proofs.Common.{ap, refl, sym, arith, get_or, set, get_or-set_same, get_or-set_other}
use Rattle.pk_value.specs.Known.{Known}
use Rattle.pk_octagons.specs.Values.{known_at, HasType, HaveTypes}

pub get_some : (xs : List ℕ) (k : ℕ) → k < length xs → slice_get xs k ≡ Some (get_or xs k 0)
get_some [] k p = absurd (omega arith)
get_some (x ∷ xs) zero p = refl
get_some (x ∷ xs) (suc k) p = get_some xs k (omega arith)

pub get_known : (vs : List Known) (x : ℕ) (v : Known) → slice_get vs x ≡ Some v → known_at vs x ≡ v
get_known [] x v e = absurd (cc)
get_known (u ∷ vs) zero v e = let same : u ≡ v = cc in same
get_known (u ∷ vs) (suc x) v e = get_known vs x v e

-- writing what is there changes nothing
pub set_own : (vs : List Known) (x : ℕ) (v : Known) → known_at vs x ≡ v → set vs x v ≡ vs
set_own [] x v e = refl
set_own (u ∷ vs) zero v e = ap (λ w. w ∷ vs) (sym e)
set_own (u ∷ vs) (suc x) v e = ap (λ t. u ∷ t) (set_own vs x v e)

pub known_same : (vs : List Known) (x : ℕ) (v : Known) → x < length vs → known_at (set vs x v) x ≡ v
known_same vs x v p = get_or-set_same vs x v _ p

pub known_other : (vs : List Known) (x y : ℕ) (v : Known) → y ≢ x → known_at (set vs x v) y ≡ known_at vs y
known_other vs x y v n = get_or-set_other vs x y v _ n

-- a value of a variable of some type
pub range_type : (vs : List Known) (x : ℕ) (v : Known) → HaveTypes vs → x < length vs → slice_get vs x ≡ Some v → HasType v.range
range_type vs x v h p e = let same = get_known vs x v e in rw (← same) (_, h.1.inside x p)
