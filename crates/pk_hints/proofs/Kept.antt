-- Each move keeps every hint below a number.
use Rattle.std.proofs.Common.{ℕ, zero, suc, ◌<◌, All, List, [], ◌∷◌, ◌++◌, length, subst, arith}
use lib.Seq.{take-append_seam, drop-append_seam}
use Rattle.std.proofs.lemmas.List.Elements.{All-append, All-take, All-drop}
use Rattle.crossbeam_deque.specs.Tasks.{Pushes, Takes, Pops}

module _ (n : ℕ) where
  abbrev Low : ℕ → Type 0
  Low x = x < n

  abbrev Holds : List ℕ → List (Unit {0}) → Type 0
  Holds items _ = All Low items

  left : (xs ys : List ℕ) → All Low (xs ++ ys) → All Low xs
  left xs ys h = subst (All Low) (take-append_seam xs ys) (All-take Low (length xs) (xs ++ ys) h)

  right : (xs ys : List ℕ) → All Low (xs ++ ys) → All Low ys
  right xs ys h = subst (All Low) (drop-append_seam xs ys) (All-drop Low (length xs) (xs ++ ys) h)

  pub all_one : (x : ℕ) → Low x → All Low (x ∷ [])
  all_one x low zero d h = low
  all_one x low (suc k) d h = absurd (omega (arith, h))

  pub pushes : (port : ℕ) (v : Unit {0}) (xs : List ℕ) → All Low xs → Pushes Holds port v xs (λ _. All Low xs)
  pushes port v xs new items views h _ = (tt, All-append Low items xs h new, new)

  pub takes : (port : ℕ) (v : Unit {0}) (most : ℕ) → Takes Holds port v most (λ xs _. All Low xs)
  takes port v most xs items views _ _ h _ = (tt, right xs items h, left xs items h)

  pub pops : (port : ℕ) (v : Unit {0}) → Pops Holds port v (λ xs _. All Low xs)
  pops port v x items views h _ = (tt, left items (x ∷ []) h, right items (x ∷ []) h)
