-- Reading and writing what a state knows.
use Rattle.std.specs.Prelude.{◌≡◌, ℕ, ◌+◌, ◌<◌, ◌≤◌, ℤ, ◌-ℤ◌, List, [], ◌∷◌, length, slice_set, Option, Some, None}
use Rattle.pk_graph.specs.Steps.{Numbers, number_at}
use Rattle.pk_graph.specs.Stores.{Stored, numbers_of, number_of}
use Rattle.pk_value.specs.Known.{Known, IsOf, IsOneOf}
use Rattle.pk_octmat.specs.Bounds.{AtMost}
use Rattle.pk_octmat.specs.Octagon.{Octagon, entry, side, IsOctagon}
use Rattle.pk_octops.specs.Guards.{Obeys}
use Rattle.pk_octops.specs.Assigns.{Gives}
use Rattle.pk_octagons.specs.Packs.{pack_at}
use Rattle.pk_octagons.specs.Values.{type_at, known_at, IsValue}
use Rattle.pk_octagons.specs.Octagons.{octagon_at}
use Rattle.pk_octagons.specs.Changes.{AreTerms, assigned_octagons, guarded_octagons, bound_in as least_bound}
use Rattle.pk_octagons.specs.Members.{IsChosen}
use Rattle.pk_state.specs.Layouts.{Layout, IsLayout}
use Rattle.pk_state.specs.Facts.{Facts, AreFactsIf}
use Rattle.pk_state.specs.Members.{Member}

-- what is known of a variable
abbrev pub known_in : Option Facts → ℕ → Option Known
known_in None x = None
known_in (Some f) x = Some (known_at f.values x)

-- the same is known of the sixteen variables from x on, or of as many of n as there are
abbrev pub AreAlikeAt : Option Facts → Option Facts → ℕ → ℕ → Type 0
AreAlikeAt f g x n = (y : ℕ) → x ≤ y → y < x + 16 → y < n → known_in f y ≡ known_in g y

-- The least bound on V(j) - V(i) of the octagons that are over both variables, if there is one: V(2x) is variable x, V(2x + 1) its negative.
abbrev pub bound_in : Layout → Option Facts → ℕ → ℕ → Option ℤ
bound_in l None i j = None
bound_in l (Some f) i j = least_bound l.packs f.octagons i j

-- the bound of octagon p on V(j) - V(i), by its own places
abbrev pub entry_in : Option Facts → ℕ → ℕ → ℕ → Option ℤ
entry_in None p i j = None
entry_in (Some f) p i j = entry (octagon_at f.octagons p) i j

-- something else is known of a variable
abbrev pub with_known : Option Facts → ℕ → Known → Option Facts
with_known None x k = None
with_known (Some f) x k = Some (record { values = slice_set f.values x k; octagons = f.octagons })

abbrev pub with_octagons : List Known → Option (List Octagon) → Option Facts
with_octagons vs None = None
with_octagons vs (Some ms) = Some (record { values = vs; octagons = ms })

-- another octagon in place of octagon p
abbrev pub with_bounds : Option Facts → ℕ → Octagon → Option Facts
with_bounds None p m = None
with_bounds (Some f) p m = with_octagons f.values (Some (slice_set f.octagons p m))

-- Variable x gets V(t) + c, or any number, in each octagon that is over it: any number where there is no t, and in an octagon that isn't over each variable that is read.
abbrev pub assigned_in : Layout → Option Facts → ℕ → Option ℕ → ℤ → List ℕ → Option Facts
assigned_in l None x t c over = None
assigned_in l (Some f) x t c over = with_octagons f.values (Some (assigned_octagons l.packs f.octagons x t c over))

-- V(a) + V(b) is at most c, without the terms that are none, in each octagon that is over each variable that is read
abbrev pub guarded_in : Layout → Option Facts → Option ℕ → Option ℕ → ℤ → List ℕ → Option Facts
guarded_in l None a b c over = None
guarded_in l (Some f) a b c over = with_octagons f.values (guarded_octagons l.packs f.octagons a b c over)

-- there is a number, and each is one that is known
pub record AreNumbersOf (k : Known) (zs : Numbers) : Type 0 where
  pub each : (i : ℕ) → i < length zs → IsOf k (number_at zs i)
  pub some : 0 < length zs

-- a variable that no octagon is over
abbrev pub IsApart : Layout → ℕ → Type 0
IsApart l x = IsChosen l.packs x → ⊥

-- Each number is one that is known; what is told of two variables holds; what is known of the numbers of a variable may be written; a store in which a variable gets numbers is
-- one of the state in which they are known, after an assignment where an octagon is over the variable; a guard keeps the stores that obey it. Whatever variables are said to be
-- read, these hold.
pub record ChangesAreSound : Type 0 where
  pub known : (l : Layout) (f : Option Facts) (s : Stored) (x i : ℕ) → AreFactsIf l f → Member l f s →
      x < length l.types → i < length (numbers_of s x) → IsOneOf (known_in f x) (number_at (numbers_of s x) i)
  pub some : (l : Layout) (f : Option Facts) (s : Stored) (x : ℕ) → AreFactsIf l f → Member l f s →
      x < length l.types → 0 < length (numbers_of s x)
  pub told : (l : Layout) (f : Option Facts) (s : Stored) (i j : ℕ) → Member l f s →
      AtMost (Some (side (number_of s) j -ℤ side (number_of s) i)) (bound_in l f i j)
  pub refined : (l : Layout) (f : Option Facts) (s : Stored) (x : ℕ) (k : Known) → AreFactsIf l f → Member l f s →
      AreNumbersOf k (numbers_of s x) → Member l (with_known f x k) s
  pub written : (l : Layout) (f : Option Facts) (s : Stored) (x : ℕ) (k : Known) (zs : Numbers) → AreFactsIf l f →
      Member l f s → x < length l.types → IsApart l x → AreNumbersOf k zs →
      Member l (with_known f x k) (slice_set s x zs)
  pub assigned : (l : Layout) (f : Option Facts) (s : Stored) (x : ℕ) (t : Option ℕ) (c z : ℤ) (k : Known)
      (over : List ℕ) → AreFactsIf l f → Member l f s → IsLayout l → x < length l.types → Gives (number_of s) t c z →
      IsOf k z → Member l (with_known (assigned_in l f x t c over) x k) (slice_set s x (z ∷ []))
  pub guarded : (l : Layout) (f : Option Facts) (s : Stored) (a b : Option ℕ) (c : ℤ) (over : List ℕ) →
      AreFactsIf l f → Member l f s → AreTerms a b → Obeys (number_of s) a b c → Member l (guarded_in l f a b c over) s

-- What is read is a value of the variable's type, and what is made of a layout's facts are facts of the layout.
pub record ChangesStay : Type 0 where
  pub known : (l : Layout) (f : Option Facts) (x : ℕ) (k : Known) → AreFactsIf l f → x < length l.types →
      known_in f x ≡ Some k → IsValue (type_at l.types x) k
  pub written : (l : Layout) (f : Option Facts) (x : ℕ) (k : Known) → AreFactsIf l f → x < length l.types →
      IsValue (type_at l.types x) k → AreFactsIf l (with_known f x k)
  pub assigned : (l : Layout) (f : Option Facts) (x : ℕ) (t : Option ℕ) (c : ℤ) (over : List ℕ) → AreFactsIf l f →
      AreFactsIf l (assigned_in l f x t c over)
  pub guarded : (l : Layout) (f : Option Facts) (a b : Option ℕ) (c : ℤ) (over : List ℕ) → AreFactsIf l f →
      AreTerms a b → AreFactsIf l (guarded_in l f a b c over)
  pub bounded : (l : Layout) (f : Option Facts) (p : ℕ) (m : Octagon) → AreFactsIf l f →
      m.vars ≡ length (pack_at l.packs p) → IsOctagon m → AreFactsIf l (with_bounds f p m)
