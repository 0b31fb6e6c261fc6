-- The point of the entry: the part of the first path makes it, and no other part changes it.
use Rattle.std.proofs.Common.{◌≡◌, ℕ, ◌+◌, ◌<◌, ◌≤◌, ◌⊎◌, inl, inr, List, [], ◌∷◌, length, Option, Some, None, refl, ap, sym, subst, ◌∙◌, arith}
use Rattle.std.proofs.lemmas.List.{get_or-set_same}
use Rattle.pk_calls.specs.declared.listings.Caller.{Caller}
use Rattle.pk_calls.specs.declared.listings.CallPath.{CallPath}
use Rattle.pk_calls.specs.Calls.{calls_of}
use Rattle.pk_welltyped.specs.Listed.{calls_in_items}
use Rattle.pk_draft.specs.declared.drafts.Region.{Region}
use Rattle.pk_draft.specs.declared.drafts.Size.{Size}
use Rattle.pk_draft.specs.Drafts.{DraftOf, no_label, fresh}
use Rattle.pk_lower.specs.Parts as part
use Rattle.pk_lower_laws.proofs.Drafts.Plans.{World, Draft, sizes, Lasting, Plan}
use Rattle.pk_lower_laws.proofs.Drafts.Wholes.{Paths}
use Rattle.pk_visits.proofs.Slots.{Slot, Takes, label_at, region_at, Uncalled, Grows}
use Rattle.pk_visits.proofs.Grows.Statements.{upto, upto_from, fresh_grows}
use Rattle.pk_visits.proofs.Stands.{Whole}
use Rattle.pk_visits.proofs.Grows.Parts.{begun_point, placed_here}
use Rattle.pk_visits.proofs.Numbered.Names.{draft_by}
use Rattle.pk_visits_laws.proofs.Followed.Basics.{either_is}
use Rattle.pk_visits_laws.proofs.Followed.PartAdds.{context_at, part_at, body_begun, body_exit, body_ended, part_adds, part_ends}
use Rattle.pk_visits_laws.proofs.Followed.Pending.{IsOutside, HaveCallersBehind, PathAt, parts_add, next_part}
use Rattle.pk_visits_laws.proofs.Followed.Bodies.{IsGraphOf, behind, rest_adds, part_closes}
use Rattle.pk_visits_laws.proofs.Followed.BodyStages.{begun_grows}
use Rattle.pk_visits_laws.proofs.Followed.BodyEnds.{items_grow, exit_is}

-- the first path's region is that of the first draft
pub first_region : (W : World) → Lasting W → (f : W.table.Variable → Slot) (ps : List CallPath) → Paths W 0 1 ps → HaveCallersBehind ps → (d : Draft W) → Plan W 0 1 d → region_at (part.parts_from W.unit (sizes W) 0 1 ps d).regions 0 ≡ region_at d.regions 0
unfolding part.parts_from
first_region W l f [] h o d plan = refl
first_region W l f (p ∷ ps) h o d plan =
    let m = 1 + length (calls_of W.unit p.function) in
    (parts_add W l f (0 + 1) m ps h.1 o (part_at W 0 1 p d) (next_part W l 0 1 p h.0 d plan)).regions 0 (omega arith)
    ∙ either_is ((part_adds W l f 0 1 p h.0 d).regions 0) (λ x. let y = x.0 in absurd (omega (y, arith)))

-- the entry's point is made
placed_label : (from : Option Caller) (d : DraftOf Slot) → from ≡ None → d.point < length d.labels → label_at (part.placed_entry from d).labels d.point ≡ d.here
placed_label None d is room = get_or-set_same d.labels d.point d.here no_label room
placed_label (Some c) d is room = absurd (cc is)

placed_size : (from : Option Caller) (d : DraftOf Slot) → length (part.placed_entry from d).labels ≡ length d.labels
placed_size None d = Rattle.std.proofs.lemmas.List.length-set d.labels d.point d.here
placed_size (Some c) d = refl

-- The point from which the first path is entered has the label with which its body begins.
pub entry_label : (W : World) (l : Lasting W) (f : W.table.Variable → Slot) (d : Draft W) (g : Whole) → IsGraphOf W f d g → (k : ℕ) (q : PathAt W f d k) → q.first ≤ k + 1 → q.path.caller ≡ None
    → 0 < (region_at q.before.regions k).at → (region_at q.before.regions k).at < (region_at q.before.regions k).points
    → label_at g.labels (region_at q.before.regions k).at ≡ (body_begun W f k q.first q.path q.place q.before).here
entry_label W l f d g is k q first none pos low =
    is.labels x pos ∙ (rest.labels x outside ∙ (either_is (close.labels x (omega (begins, up, arith))) (λ h. h)
    ∙ (either_is (items.labels x begins) (λ h. let z = upto_from q.place.body.labels (body_exit W f k q.first q.path q.place q.before + 1) x h in absurd (omega (z, exit, low, arith)))
    ∙ (either_is (opens.labels x (omega (exit, low, arith))) (λ h. h) ∙ (made ∙ (sym (placed_here q.path.caller b) ∙ sym opens.here)))))) where
      x : ℕ
      x = (region_at q.before.regions k).at

      rest : Rattle.pk_visits_laws.proofs.Followed.Pending.PartsAdd W f (k + 1) (q.first + length (calls_of W.unit q.path.function)) (behind W f d k q) d
      rest = rest_adds W l f d k q

      b : DraftOf Slot
      b = part.begun (context_at W k q.first q.path) q.place.function q.place.body q.path.caller (region_at q.before.regions k) (draft_by f q.before)

      o : DraftOf Slot
      o = part.placed_entry q.path.caller b

      close : Rattle.pk_visits.proofs.Grows.Statements.Adds [] Rattle.pk_visits.proofs.Slots.Never Uncalled (Rattle.pk_draft.specs.Drafts.standing o.here (body_ended W f k q.first q.path q.place q.before)) (draft_by f (part_at W k q.first q.path q.before))
      close = part_closes W f k q.first q.path q.place q.before

      items : Rattle.pk_visits.proofs.Grows.Statements.Enlarges (upto q.place.body.labels (body_exit W f k q.first q.path q.place q.before + 1)) Rattle.pk_visits.proofs.Grows.Statements.Free (Rattle.pk_visits.proofs.Stands.IsCalled (context_at W k q.first q.path) (calls_in_items q.place.body.items)) (body_begun W f k q.first q.path q.place q.before) (body_ended W f k q.first q.path q.place q.before)
      items = items_grow W f k q.first q.path q.place q.before

      opens : Grows Uncalled o (fresh (q.place.body.labels + 1) o)
      opens = fresh_grows Uncalled (q.place.body.labels + 1) o

      exit : body_exit W f k q.first q.path q.place q.before ≡ (region_at q.before.regions k).points
      exit = exit_is W f k q.first q.path q.place q.before

      begins : x < (body_begun W f k q.first q.path q.place q.before).points
      begins = omega (exit, low, arith)

      up : (body_begun W f k q.first q.path q.place q.before).points ≤ (body_ended W f k q.first q.path q.place q.before).points
      up = items.points

      outside : IsOutside W (k + 1) (behind W f d k q).regions x
      outside j after h = by (items.regions j) where
        ended : region_at (behind W f d k q).regions j ≡ region_at (body_ended W f k q.first q.path q.place q.before).regions j
        ended = either_is ((part_closes W f k q.first q.path q.place q.before).regions j) (λ t. absurd t.1)

        begun : region_at (body_begun W f k q.first q.path q.place q.before).regions j ≡ region_at q.before.regions j
        begun = either_is ((begun_grows W f k q.first q.path q.place q.before).regions j) (λ t. absurd t.1)

        by : {C : Size → Type 0} {p v w : ℕ} → Takes C (body_begun W f k q.first q.path q.place q.before).points p v w (region_at (body_ended W f k q.first q.path q.place q.before).regions j)
            ⊎ (region_at (body_ended W f k q.first q.path q.place q.before).regions j ≡ region_at (body_begun W f k q.first q.path q.place q.before).regions j) → ⊥
        by (inl (s, c, i, y, u, v)) =
            let n = ap (λ (r : Region). r.points) ended in
            let from = h.from in
            let at = begins in
            absurd (omega (i, n, from, at, arith))
        by (inr e) =
            let n = ap (λ (r : Region). r.points) (ended ∙ (e ∙ begun)) in
            let kept = h.kept in
            q.plan.unkept j (omega (first, after, arith)) (omega (kept, n, arith))

      same_point : b.point ≡ x
      same_point = begun_point (context_at W k q.first q.path) q.place.function q.place.body q.path.caller (region_at q.before.regions k) (draft_by f q.before)

      room : b.point < length b.labels
      room =
          let a = opens.size in
          let y = placed_size q.path.caller b in
          let i = items.size in
          let c = close.size in
          let e = rest.size in
          let w = is.room in
          let ends = part_ends W l k q.first q.path q.place q.before in
          let made = (q.plan.kept k q.place.below).points in
          let on = close.points in
          let at = begins in
          let same = same_point in
          omega (a, y, i, c, e, w, ends, made, on, at, up, same, arith)

      made : label_at o.labels x ≡ b.here
      made = subst (λ z. label_at o.labels z ≡ b.here) same_point (placed_label q.path.caller b none room)
