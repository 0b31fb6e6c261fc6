-- What follows from the definition of the way alone.
use Rattle.std.specs.Prelude.{◌≡◌, ◌≢◌, ℕ, List}
use Rattle.pk_ast.specs.Trees.{ExternalTree}
use Rattle.pk_typed.specs.Trees.{UnitTree}
use Rattle.pk_calls.specs.declared.listings.CallPath.{CallPath}
use Rattle.pk_front.specs.declared.failures.TextError.{TextError}
use Rattle.pk_front.specs.declared.failures.TextError.TheVariants.{Memory}
use Rattle.pk_front.specs.Texts.{HasTrees, HasPaths, IsLeft}

-- A text and an entry lead to one typed tree and its call paths at most, or are left in one way at most, and not both. Want of memory says nothing of the text.
pub record WayIsDetermined : Type 0 where
  pub unit : (text entry : List ℕ) (u v : UnitTree) (ps qs : List CallPath) → HasPaths text entry u ps →
      HasPaths text entry v qs → u ≡ v
  pub paths : (text entry : List ℕ) (u v : UnitTree) (ps qs : List CallPath) → HasPaths text entry u ps →
      HasPaths text entry v qs → ps ≡ qs
  pub left : (text entry : List ℕ) (s t : TextError) → s ≢ Memory → t ≢ Memory → IsLeft text entry s →
      IsLeft text entry t → s ≡ t
  pub apart : (text entry : List ℕ) (u : UnitTree) (ps : List CallPath) (s : TextError) → s ≢ Memory →
      HasPaths text entry u ps → IsLeft text entry s → ⊥

-- a text and an entry lead to call paths, or are left for a cause other than want of memory
pub data HasEnd (text entry : List ℕ) : Type 0 where
  analysed : {u : UnitTree} {paths : List CallPath} → HasPaths text entry u paths → HasEnd text entry
  is_left : {s : TextError} → s ≢ Memory → IsLeft text entry s → HasEnd text entry

-- a text that has trees has an end with each entry
abbrev pub TreesLeadOn : Type 0
TreesLeadOn = (text entry : List ℕ) (all : List ExternalTree) → HasTrees text all → HasEnd text entry
