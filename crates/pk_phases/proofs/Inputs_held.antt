-- What a head and an exit read may be held by the head.
use Rattle.std.proofs.Common.{◌≡◌, ℕ, ◌-◌, ◌≤◌, List, [], ◌∷◌, map, length, take, drop, ap, sym, subst, ◌∙◌, refl, arith}
use Rattle.std.specs.List.{slice_index_or}
use Rattle.std.proofs.lemmas.List.{take_all}
use Rattle.pk_iterate.specs.Behaviour.{HoldEach}
use Rattle.pk_phases.specs.declared.equations.Cell.{Cell}
use Rattle.pk_phases.specs.declared.equations.Part.{Part}
use Rattle.pk_phases.specs.declared.equations.Part.TheVariants.{HeadOf, ExitOf}
use Rattle.pk_phases.specs.Equations.{Equations, value_of, new_value, reads_in, may_hold_of, KeepHeld, AreHeld}
use Rattle.pk_phases.specs.EquationsHeld.{value_at, new_held}

rest_is : {X : Type 0} (x y : X) (rest : List X) → take (length (x ∷ (y ∷ rest)) - 2) (drop 2 (x ∷ (y ∷ rest))) ≡ rest
rest_is x y rest = take_all (length (x ∷ (y ∷ rest)) - 2) rest (omega arith)

module _ {V X : Type 0} (q : Equations V) (held : ℕ → V → Type 0) (k : KeepHeld q held) (view : X → Cell V) where
  -- the second of the cells is the head's, and the others are those of its sources
  two : (head first second : ℕ) (inputs : List X) (own : X) (n : V) → 2 ≤ length inputs → own ≡ slice_index_or inputs 1 own
      → n ≡ new_value q head (map view (take (length inputs - 2) (drop 2 inputs)))
      → second ≡ head → HoldEach (may_hold_of q held) (first ∷ (second ∷ q.sources head)) (map view inputs) → AreHeld held (value_of q.bottom (view own)) n
  two head first second [] own n many o new s h = absurd (omega arith)
  two head first second (x ∷ []) own n many o new s h = absurd (omega arith)
  two head first second (x ∷ (y ∷ rest)) own n many o new s h =
      let here = value_at q held k head (q.part head) (view y) (subst (λ (u : ℕ). may_hold_of q held u (view y)) s h.1.0) in
      let there = new_held q held k head (map view rest) h.1.1 in
      (head, subst (λ (c : X). held head (value_of q.bottom (view c))) (sym o) here, subst (held head) (sym (new ∙ ap (λ (us : List X). new_value q head (map view us)) (rest_is x y rest))) there)

  pub of_head : (head exit : ℕ) (inputs : List X) (own : X) (n : V) → q.part head ≡ HeadOf exit → 2 ≤ length inputs → own ≡ slice_index_or inputs 1 own
      → n ≡ new_value q head (map view (take (length inputs - 2) (drop 2 inputs)))
      → HoldEach (may_hold_of q held) (reads_in q head (q.part head)) (map view inputs) → AreHeld held (value_of q.bottom (view own)) n
  of_head head exit inputs own n is many o new h =
      two head exit head inputs own n many o new refl (subst (λ (p : Part). HoldEach (may_hold_of q held) (reads_in q head p) (map view inputs)) is h)

  pub of_exit : (head x : ℕ) (inputs : List X) (own : X) (n : V) → q.part x ≡ ExitOf head → 2 ≤ length inputs → own ≡ slice_index_or inputs 1 own
      → n ≡ new_value q head (map view (take (length inputs - 2) (drop 2 inputs)))
      → HoldEach (may_hold_of q held) (reads_in q x (q.part x)) (map view inputs) → AreHeld held (value_of q.bottom (view own)) n
  of_exit head x inputs own n is many o new h =
      two head x head inputs own n many o new refl (subst (λ (p : Part). HoldEach (may_hold_of q held) (reads_in q x p) (map view inputs)) is h)
