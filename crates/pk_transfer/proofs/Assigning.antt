-- Assignments keep the stores of a state.
use Rattle.std.specs.Prelude.{◌≡◌, ℕ, ◌<◌, false, ℤ, pos, ◌+ℤ◌, List, [], ◌∷◌, length, slice_set, Option, Some, None}
use Rattle.std.proofs.Common.{arith}
use Rattle.std.proofs.lemmas.Int.{ints}
use Rattle.std.proofs.lemmas.List.{length-map}
use Rattle.pk_graph.specs.Kinds.{type_of}
use Rattle.pk_graph.specs.Stores.{Stored, number_of}
use Rattle.pk_value.specs.Known.{Known, IsOf}
use Rattle.pk_value.proofs.Sound.{Knows}
use Rattle.pk_octops.specs.Assigns.{Gives}
use Rattle.pk_octagons.specs.Packs.{is_chosen}
use Rattle.pk_state.specs.Layouts.{Layout, IsLayout}
use Rattle.pk_state.specs.Facts.{Facts, AreFactsIf}
use Rattle.pk_state.specs.Members.{Member}
use Rattle.pk_state.specs.Changes.{known_in, with_known}
use Rattle.pk_state.proofs.Changed.{changes_sound, assigned_apart}
use Rattle.pk_transfer.specs.Trees.{tree_known, kind_of, kinds_of}
use Rattle.pk_transfer.specs.Linear.{Linear, sum_of, variables_of, linear}
use Rattle.pk_transfer.specs.Assignments.{term_of, with_form, with_known_if, AssignmentsKeep}
use Rattle.pk_transfer.proofs.Told.{tree_knows}
use Rattle.pk_transfer.proofs.Forms.{Tells, tree_tells}

-- a variable that no octagon is over
pub form_apart : (y : Layout) (f : Option Facts) (x : ℕ) (o : Option Linear) (over : List ℕ) → AreFactsIf y f → is_chosen y.packs x ≡ false → with_form y f x o over ≡ f
form_apart y f x None over a e = assigned_apart y f x None (pos 0) [] a e
form_apart y f x (Some l) over a e = assigned_apart y f x (term_of l.places) l.constant over a e

gives_at : (x : ℕ → ℤ) (c : ℤ) (ps : List ℕ) (z : ℤ) → z ≡ c +ℤ sum_of x ps → Gives x (term_of ps) c z
gives_at x c [] z e = tt
gives_at x c (p ∷ []) z e = omega (arith, ints, e)
gives_at x c (p ∷ (q ∷ ps)) z e = tt

pub placed : (y : Layout) (f : Option Facts) (s : Stored) (x : ℕ) (o : Option Linear) (over : List ℕ) (z : ℤ) (k : Known) → IsLayout y → AreFactsIf y f → Member y f s → x < length y.types → Tells (number_of s) o z → IsOf k z
    → Member y (with_known (with_form y f x o over) x k) (slice_set s x (z ∷ []))
placed y f s x None over z k lay a m p t h = changes_sound.assigned y f s x None (pos 0) z k [] a m lay p tt h
placed y f s x (Some l) over z k lay a m p t h = changes_sound.assigned y f s x (term_of l.places) l.constant z k over a m lay p (gives_at (number_of s) l.constant l.places z t) h

pub assignments_keep : AssignmentsKeep
assignments_keep = λ y f s x e z lay a m sc ty v. go y f s x z (variables_of e) lay a m (omega (arith, sc.there, length-map y.types kind_of)) (linear y.packs (known_in f) e) (tree_tells y f s e z a m ty v) (type_of (kinds_of y) e) (tree_known (known_in f) e) (tree_knows y f s e z a m ty v)
  where
    go : (y : Layout) (f : Option Facts) (s : Stored) (x : ℕ) (z : ℤ) (over : List ℕ) → IsLayout y → AreFactsIf y f → Member y f s → x < length y.types → (o : Option Linear) → Tells (number_of s) o z → (t : _) (n : Option Known) → Knows t n z → Member y (with_known_if (with_form y f x o over) x n) (slice_set s x (z ∷ []))
    go y f s x z over lay a m p o t u None h = absurd h
    go y f s x z over lay a m p o t u (Some k) h = placed y f s x o over z k lay a m p t h.0
