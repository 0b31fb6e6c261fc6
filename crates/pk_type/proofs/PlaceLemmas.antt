-- Places from one on.
use Rattle.std.proofs.Math.Seq.{drop-cons}
use Rattle.std.proofs.lemmas.List.{drop_all}
use Rattle.std.proofs.Common.{◌≡◌, ℕ, ◌+◌, ◌<◌, ◌≤◌, true, List, ◌∷◌, Option, drop, get_or, length, add-one, ap, sym, ◌∙◌}
use Rattle.pk_ctypes.specs.declared.places.Pos.{Pos}
use Rattle.pk_ctypes.specs.declared.words.Rule.{Rule}
use Rattle.pk_type_scope.specs.declared.failures.Failure.{Failure}
use Rattle.pk_type_scope.specs.Failures.{noted, fails_if}
use Rattle.pk_type_declaration.specs.Walks.{Walked}
use Rattle.pk_type_declaration.specs.Rules.{failing}
use Rattle.pk_type.specs.Rules.{each_at}

abbrev State : Type 0
State = Walked (Option Failure)

pub next : (ps : List Pos) (i : ℕ) (d : Pos) → i < length ps → drop i ps ≡ get_or ps i d ∷ drop (i + 1) ps
next ps i d h = rw add-one (drop-cons ps i d h)

pub places_step : (r : Rule) (p : Pos) (now rest : List Pos) (w v all : State) → now ≡ p ∷ rest → v ≡ failing noted (fails_if true r p) w → failing noted (each_at r now) w ≡ all → failing noted (each_at r rest) v ≡ all
places_step r p now rest w v all q s h = ap (failing noted (each_at r rest)) s ∙ (ap (λ n. failing noted (each_at r n) w) (sym q) ∙ h)

pub places_done : (r : Rule) (ps : List Pos) (i : ℕ) (w all : State) → length ps ≤ i → failing noted (each_at r (drop i ps)) w ≡ all → w ≡ all
places_done r ps i w all l h = ap (λ n. failing noted (each_at r n) w) (sym (drop_all i ps l)) ∙ h
