-- Depth-first preorder.
use Rattle.std.specs.Prelude.{ℕ, zero, suc, nat_eq, List, [], ◌∷◌, ◌++◌, Bool, false, ◌||◌, if◌then◌else◌}

abbrev pub is_among : ℕ → List ℕ → Bool
is_among n [] = false
is_among n (m ∷ ms) = nat_eq n m || is_among n ms

-- the place of a number in a list, or that behind the last
abbrev pub place_among : List ℕ → ℕ → ℕ
place_among [] n = 0
place_among (m ∷ ms) n = if nat_eq n m then 0 else suc (place_among ms n)

-- The points reached from those that wait, in the order of the first visit, behind those seen before: the ends of a point's edges come before the others that wait. n bounds the turns.
unfoldable pub preorder : (ends : ℕ → List ℕ) → ℕ → (waiting seen : List ℕ) → List ℕ
preorder ends zero ps seen = seen
preorder ends (suc n) [] seen = seen
preorder ends (suc n) (p ∷ ps) seen =
    if is_among p seen then preorder ends n ps seen else preorder ends n (ends p ++ ps) (seen ++ p ∷ [])
