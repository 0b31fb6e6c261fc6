-- Where a component is gone through again, the iteration goes back to its head's place.
use Rattle.std.proofs.Common.{◌≡◌, ℕ, zero, suc, ◌+◌, ◌-◌, ◌<◌, inl, inr, List, [], ◌∷◌, ◌++◌, map, drop, length, get_or, ap, sym, ◌∙◌, refl, arith, append_assoc, length-append, add-one}
use Rattle.std.proofs.lemmas.Bool.{cases_lt}
use Rattle.std.proofs.lemmas.List.{map-append}
use Rattle.std.proofs.Math.Nat.{eq-or-lt_of_le}
use Rattle.pk_plan.specs.declared.places.Role.TheVariants.{Vertex, Exit as AtExit}
use Rattle.pk_plan.specs.declared.places.Place.{Place}
use Rattle.pk_plan.specs.Order.{Level, Empty, Vertex_then, Component_then, places_of}
use Rattle.pk_iterate.specs.Iteration.{Task, Run, Exit, to_do}
use Rattle.pk_iterate.proofs.Plain.{plain}

-- the place of a run that is left to do, where a head's is a vertex's
abbrev pub place_of : Task → Place
place_of (Run e) = record { element = e; role = Vertex }
place_of (Exit head exit rest) = record { element = exit; role = AtExit (length (places_of rest) + 1) }

-- the runs to do stand at the level's places
pub map-to_do : (level : Level) (left : List Task) → map place_of (to_do level left) ≡ map plain (places_of level) ++ map place_of left
map-to_do Empty left = refl
map-to_do (Vertex_then v more) left = ap (λ (ps : List Place). record { element = v; role = Vertex } ∷ ps) (map-to_do more left)
map-to_do (Component_then head exit rest more) left =
    let place : Place = record { element = exit; role = AtExit (length (places_of rest) + 1) } in
    let inner = map-to_do rest (Exit head exit rest ∷ to_do more left) in
    let outer = map-to_do more left in
    ap (λ (ps : List Place). record { element = head; role = Vertex } ∷ ps) (rw (inner, outer, map-append plain (places_of rest) (place ∷ places_of more), append_assoc) refl)

drop_past : {A : Type 0} (x : A) (xs : List A) (m n : ℕ) → m ≡ suc n → drop m (x ∷ xs) ≡ drop n xs
drop_past x xs m n e = rw e refl

-- past the level stands what is left after it
pub drop-to_do : (level : Level) (left : List Task) (m i : ℕ) → m ≡ length (places_of level) + i → drop m (to_do level left) ≡ drop i left
drop-to_do Empty left m i e =
    let same : m ≡ i = omega arith in
    rw same refl
drop-to_do (Vertex_then v more) left m i e =
    drop_past (Run v) (to_do more left) m (length (places_of more) + i) (omega arith) ∙ drop-to_do more left (length (places_of more) + i) i refl
drop-to_do (Component_then head exit rest more) left m i e =
    let after : ℕ = length (places_of more) + i in
    let place : Place = record { element = exit; role = AtExit (length (places_of rest) + 1) } in
    drop_past (Run head) (to_do rest (Exit head exit rest ∷ to_do more left)) m (length (places_of rest) + suc after) (omega (arith, length-append (places_of rest) (place ∷ places_of more)))
    ∙ drop-to_do rest (Exit head exit rest ∷ to_do more left) (length (places_of rest) + suc after) (suc after) refl
    ∙ drop-to_do more left after i refl

-- the run at a place
pub task_at : (tasks : List Task) (i : ℕ) (d : Place) → i < length (map place_of tasks) → (t : Task) × (drop i tasks ≡ t ∷ drop (i + 1) tasks) × (get_or (map place_of tasks) i d ≡ place_of t)
task_at [] i d in_range = absurd (omega arith)
task_at (t ∷ tasks) zero d in_range = (t, refl, refl)
task_at (t ∷ tasks) (suc i) d in_range =
    let r = task_at tasks i d (omega arith) in
    (r.0, rw (add-one (suc i)) (rw (add-one i) at r.1), r.2)

-- from an exit in a level, its component's runs stand so many places back
pub jump : (level : Level) (left : List Task) (i head exit : ℕ) (rest : Level) (after : List Task) → i < length (places_of level) → drop i (to_do level left) ≡ Exit head exit rest ∷ after → (j : ℕ) × (j + (length (places_of rest) + 1) ≡ i) × (drop j (to_do level left) ≡ to_do (Component_then head exit rest Empty) after)
jump Empty left i head exit rest after in_range is = absurd (omega arith)
jump (Vertex_then v more) left zero head exit rest after in_range is = absurd (cc)
jump (Vertex_then v more) left (suc i) head exit rest after in_range is =
    let r = jump more left i head exit rest after (omega arith) is in
    (suc r.0, omega (arith, r.1), r.2)
jump (Component_then head' exit' rest' more) left zero head exit rest after in_range is = absurd (cc)
jump (Component_then head' exit' rest' more) left (suc i) head exit rest after in_range is =
    let place : Place = record { element = exit'; role = AtExit (length (places_of rest') + 1) } in
    let long = length-append (places_of rest') (place ∷ places_of more) in
    elim (cases_lt i (length (places_of rest'))) [
      | inl below ↦
          let r = jump rest' (Exit head' exit' rest' ∷ to_do more left) i head exit rest after below is in
          (suc r.0, omega (arith, r.1), r.2)
      | inr up ↦ elim (eq-or-lt_of_le up) [
        | inl same ↦
            let here : Exit head' exit' rest' ∷ to_do more left ≡ Exit head exit rest ∷ after = sym (drop-to_do rest' (Exit head' exit' rest' ∷ to_do more left) i 0 (omega arith)) ∙ is in
            let rests : rest' ≡ rest = cc in
            (0, omega (arith, ap (λ (r : Level). length (places_of r)) rests), cc)
        | inr past ↦
            let k : ℕ = i - (length (places_of rest') + 1) in
            let there : drop k (to_do more left) ≡ Exit head exit rest ∷ after = sym (drop-to_do rest' (Exit head' exit' rest' ∷ to_do more left) i (suc k) (omega arith)) ∙ is in
            let r = jump more left k head exit rest after (omega (arith, long)) there in
            (suc (length (places_of rest') + suc r.0), omega (arith, r.1), drop-to_do rest' (Exit head' exit' rest' ∷ to_do more left) (length (places_of rest') + suc r.0) (suc r.0) refl ∙ r.2)
      ]
    ]
