-- The edges from a point where variables are renamed.
use Rattle.std.proofs.Common.{◌≡◌, ℕ, List, [], ◌∷◌, Bool, true, false, if◌then◌else◌, refl, ap, nat_eq}
use Rattle.std.specs.Prelude.{map}
use Rattle.pk_draft.specs.Drafts.{EdgeFrom}
use Rattle.pk_visits.proofs.Numbered.Names.{tree_by, instr_by, edge_by}
use Rattle.pk_visits_laws.proofs.Ways.Ways.{from, IsWay}

pub from_by : {V W : Type 0} (f : V → W) (x : ℕ) (es : List (EdgeFrom V)) → from x (map (edge_by f) es) ≡ map (edge_by f) (from x es)
from_by f x [] = refl
from_by {V} {W} f x (e ∷ es) = step (nat_eq e.from x) (from_by f x es) where
  step : (b : Bool) → from x (map (edge_by f) es) ≡ map (edge_by f) (from x es) → (if b then edge_by f e ∷ from x (map (edge_by f) es) else from x (map (edge_by f) es)) ≡ map (edge_by f) (if b then e ∷ from x es else from x es)
  step true r = ap (λ fs. edge_by f e ∷ fs) r
  step false r = r

pub way_by : {V W : Type 0} (f : V → W) (es : List (EdgeFrom V)) → IsWay es → IsWay (map (edge_by f) es)
way_by f [] h = tt
way_by f (e ∷ []) h = tt
way_by f (e ∷ g ∷ []) (t, a, b) = (tree_by f t, ap (instr_by f) a, ap (instr_by f) b)
way_by f (e ∷ g ∷ i ∷ es) h = h
