-- Closing after the bounds on one variable have changed: its two rows, lowered to what leads over places of other variables.
use Rattle.std.specs.Prelude.{ℕ, zero, suc, ◌/◌, ◌==◌, if◌then◌else◌, ℤ, Option}
use Rattle.pk_octmat.specs.Bounds.{plus, lesser}
use Rattle.pk_octmat.specs.Octagon.{bar}

-- row r, lowered to what leads over the first places that aren't of its variable, one after the other
unfoldable pub line_through : (ℕ → ℕ → Option ℤ) → ℕ → ℕ → ℕ → Option ℤ
line_through e r zero b = e r b
line_through e r (suc a) b =
    if (a / 2) == (r / 2) then line_through e r a b
    else lesser (line_through e r a b) (plus (line_through e r a a) (e a b))

-- a bound of row l, lowered to what leads over the first places that aren't of variable k
unfoldable pub own_through : (ℕ → ℕ → Option ℤ) → (ℕ → Option ℤ) → ℕ → ℕ → ℕ → Option ℤ
own_through e l k zero s = l s
own_through e l k (suc a) s =
    if (a / 2) == k then own_through e l k a s else lesser (own_through e l k a s) (plus (l a) (e a s))

-- the bounds of d places, those on variable k lowered to what leads over places of other variables
abbrev pub lined : ℕ → (ℕ → ℕ → Option ℤ) → ℕ → ℕ → ℕ → Option ℤ
lined d e k i j =
    if (i / 2) == k then
    (if (j / 2) == k then own_through e (line_through e i d) k d j else line_through e i d j)
    else (if (j / 2) == k then line_through e (bar j) d (bar i) else e i j)
