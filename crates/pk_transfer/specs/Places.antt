-- Lists of at most two places, as the code keeps them.
use Rattle.std.specs.Prelude.{◌≡◌, ℕ, List, [], ◌∷◌, refl}
use Rattle.pk_transfer.specs.declared.linear.Places.{Places}
use Rattle.pk_transfer.specs.declared.linear.Places.TheVariants.{Zero, One, Two}

abbrev pub places_of : Places → List ℕ
places_of Zero = []
places_of (One a) = a ∷ []
places_of (Two a b) = a ∷ (b ∷ [])

-- and back; longer lists are kept nowhere
abbrev pub places_back : List ℕ → Places
places_back [] = Zero
places_back (a ∷ []) = One a
places_back (a ∷ (b ∷ [])) = Two a b
places_back (a ∷ (b ∷ (d ∷ ps))) = Zero

pub back_of : (p : Places) → places_back (places_of p) ≡ p
back_of Zero = refl
back_of (One a) = refl
back_of (Two a b) = refl
