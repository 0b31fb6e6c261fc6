-- Each path's body stands in the graph of its unit, where its first point shows its place.
use Rattle.std.proofs.Common.{◌≡◌, ℕ, ◌+◌, ◌<◌, ◌⊎◌, inl, inr, List, [], ◌∷◌, length, refl, ap, subst, ◌∙◌, arith}
use Rattle.pk_ctypes.specs.declared.places.Pos.{Pos}
use Rattle.pk_typed.specs.Trees.{BodyTree, FunctionTree, UnitTree}
use Rattle.pk_calls.specs.declared.listings.CallPath.{CallPath}
use Rattle.pk_welltyped.specs.Listed.{objects_in_items}
use Rattle.pk_welltyped.specs.Marks.{IsMarked}
use Rattle.pk_draft.specs.declared.drafts.Label.{Label}
use Rattle.pk_meaning.specs.Objects.{Scope}
use Rattle.pk_meaning.specs.Programs.{body_scope}
use Rattle.pk_meaning.specs.Steps.{place}
use Rattle.pk_lower.specs.Parts as part
use Rattle.pk_lower_laws.proofs.Drafts.Places.{Ends}
use Rattle.pk_lower_laws.proofs.Drafts.Plans.{its_function, body_at_is}
use Rattle.pk_visits.specs.Turns.{TurnPoint, program_turns}
use Rattle.pk_visits.proofs.Slots.{slots, Among, object_at}
use Rattle.pk_visits.proofs.Settled.Trees.{Final, AllTurn}
use Rattle.pk_visits.proofs.Stands.{BodyOf, final}
use Rattle.pk_visits_laws.proofs.Followed.Pairs.{slot_of, whole, world, AreTyped}
use Rattle.pk_visits_laws.proofs.Followed.Graphs.{graph}
use Rattle.pk_visits_laws.proofs.Followed.PartAdds.{body_begun, body_ended}
use Rattle.pk_visits_laws.proofs.Followed.Pending.{PathAt, TurnsAt}
use Rattle.pk_visits_laws.proofs.Followed.Bodies.{part_closes}
use Rattle.pk_visits_laws.proofs.Followed.BodyStages.{IsWholeOf}
use Rattle.pk_visits_laws.proofs.Followed.BodiesStand.{path_body}
use Rattle.pk_visits_laws.proofs.Followed.BodiesSettled.{body_settled}

-- where each loop begins again that is among them
all_turn : (o : Final) (ts : List TurnPoint) → ((t : TurnPoint) → Among t ts → Among t o.turns) → AllTurn o ts
all_turn o [] h = tt
all_turn o (t ∷ ts) h = (h t (inl refl), all_turn o ts (λ s m. h s (inr m)))

never : {B : Type 0} → ⊥ ⊎ B → B
never (inl x) = absurd x
never (inr y) = y

-- a path's objects have in the end the variables that they have behind its body
path_objects : (u : UnitTree) (paths : List CallPath) (k : ℕ) (q : PathAt (world u paths) slot_of (whole u paths) k) (i : ℕ) → i < length q.place.function.parameters + objects_in_items q.place.body.items
    → (i < (graph u paths).objects k) × ((graph u paths).numbers k i ≡ object_at (body_ended (world u paths) slot_of k q.first q.path q.place q.before).objects i)
path_objects u paths k q i low =
    let f = q.path.function in
    let many : (graph u paths).objects k ≡ length q.place.function.parameters + objects_in_items q.place.body.items =
    ap (λ (x : Ends). x.objects) q.ends ∙ (ap (λ (x : FunctionTree). length x.parameters + objects_in_items (part.body_at u f).items) (its_function u f q.place.function q.place.there)
    ∙ ap (λ (x : BodyTree). length q.place.function.parameters + objects_in_items x.items) (body_at_is u f q.place.function q.place.body q.place.there q.place.has)) in
    (omega (many, low, arith), ap (λ (x : Ends). x.numbers i) q.ends ∙ never ((part_closes (world u paths) slot_of k q.first q.path q.place q.before).objects i))

pub path_stands : (u : UnitTree) (paths : List CallPath) → AreTyped u paths → IsWholeOf (world u paths) slot_of (whole u paths) (graph u paths)
    → ((i : Label) (k : ℕ) (xs : Scope) (p : Pos) → (graph u paths).shows i k (place i.at xs) → (graph u paths).shows (record { at = p; path = i.path; scope = i.scope }) k (place p xs))
    → (k : ℕ) (z : TurnsAt (world u paths) slot_of (whole u paths) (program_turns slots u paths) k) → k < length paths → IsMarked z.path.place.body
    → (let q = z.path in let o = body_begun (world u paths) slot_of k q.first q.path q.place q.before in (graph u paths).shows o.here k (place o.here.at (body_scope (graph u paths).program k)) → BodyOf (graph u paths) k)
path_stands u paths a is positions k z there marked here =
    let q = z.path in
    let o = body_begun (world u paths) slot_of k q.first q.path q.place q.before in
    path_body u paths a is positions k q there here
    (body_settled (world u paths) a.lasts slot_of (whole u paths) (graph u paths) is refl k q there (place o.here.at (body_scope (graph u paths).program k)) here marked (λ i from to. path_objects u paths k q i to)
    (subst (AllTurn (final (graph u paths) k)) z.turned (all_turn (final (graph u paths) k) (program_turns slots u paths k) (λ t m. m))))
