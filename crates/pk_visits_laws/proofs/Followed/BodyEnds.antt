-- Points that a path's part makes outside its calls' regions keep their labels to the end: its exit, and what closes its body.
use Rattle.std.proofs.Common.{◌≡◌, ℕ, ◌+◌, ◌<◌, ◌≤◌, ◌⊎◌, inl, inr, [], length, false, refl, ap, sym, ◌∙◌, arith}
use Rattle.pk_calls.specs.declared.listings.CallPath.{CallPath}
use Rattle.pk_welltyped.specs.Listed.{calls_in_items}
use Rattle.pk_welltyped.specs.WellTyped.{Around, Marks}
use Rattle.pk_draft.specs.declared.drafts.Region.{Region}
use Rattle.pk_draft.specs.declared.drafts.Size.{Size}
use Rattle.pk_draft.specs.Drafts.{DraftOf, fresh}
use Rattle.pk_lower.specs.Parts as part
use Rattle.pk_lower_laws.proofs.Drafts.Plans.{World, Draft, size_of, Lasting, PathIs}
use Rattle.pk_visits.proofs.Slots.{Slot, Takes, label_at, region_at, Uncalled}
use Rattle.pk_visits.proofs.Grows.Statements.{Enlarges, Free, upto, upto_from, upto_has, fresh_grows, block}
use Rattle.pk_visits.proofs.Stages.{all_called}
use Rattle.pk_visits.proofs.Stands.{Whole, IsCalled, Marking}
use Rattle.pk_visits.proofs.Switches.{first_label}
use Rattle.pk_visits.proofs.Grows.Parts.{begun_points, placed_points}
use Rattle.pk_visits.proofs.Numbered.Names.{draft_by}
use Rattle.pk_visits_laws.proofs.Followed.Basics.{either_is}
use Rattle.pk_visits_laws.proofs.Followed.PartAdds.{context_at, part_at, body_begun, body_exit, body_ended, called_size, part_ends}
use Rattle.pk_visits_laws.proofs.Followed.Pending.{IsOutside, PathAt}
use Rattle.pk_visits_laws.proofs.Followed.Bodies.{IsGraphOf, behind, rest_adds, part_closes}
use Rattle.pk_visits_laws.proofs.Followed.BodyStages.{begun_grows}

-- a body changes the labels of its labels' points alone, and its calls take regions behind its begin
items_marking : (n p : ℕ) (m : Marks) → m.labels ≡ n → m.cases ≡ 0 → m.has_default ≡ false → Marking (part.start_exits p) m (upto n (p + 1))
items_marking n p m labels cases default = record {
  labels = λ i low. upto_has n (p + 1) i (omega (low, labels, arith));
  cases = λ i low. absurd (omega (low, cases, arith));
  default = λ h. absurd (cc (h, default));
}

pub items_grow : (W : World) (f : W.table.Variable → Slot) (k n : ℕ) (p : CallPath) (h : PathIs W k n p) (d : Draft W)
    → Enlarges (upto h.body.labels (body_exit W f k n p h d + 1)) Free (IsCalled (context_at W k n p) (calls_in_items h.body.items)) (body_begun W f k n p h d) (body_ended W f k n p h d)
items_grow W f k n p h d =
    let a : Around = record { unit = W.unit; locals = h.body.locals; objects = length h.function.parameters } in
    let m : Marks = record { labels = h.body.labels; returns = h.function.returns; cases = 0; has_default = false } in
    let at = body_exit W f k n p h d in
    block (IsCalled (context_at W k n p) (calls_in_items h.body.items)) (context_at W k n p) a m h.body.items (part.start_exits at) (upto h.body.labels (at + 1)) Free (λ i o. tt) h.is_body.items (items_marking h.body.labels at m refl refl refl)
    (all_called (context_at W k n p) (calls_in_items h.body.items)) (body_begun W f k n p h d)

-- the exit is the first point of the region
pub exit_is : (W : World) (f : W.table.Variable → Slot) (k n : ℕ) (p : CallPath) (h : PathIs W k n p) (d : Draft W) → body_exit W f k n p h d ≡ (region_at d.regions k).points
exit_is W f k n p h d =
    let c = context_at W k n p in
    let r = region_at d.regions k in
    placed_points p.caller (part.begun c h.function h.body p.caller r (draft_by f d)) ∙ begun_points c h.function h.body p.caller r (draft_by f d)

-- a point that the part makes before its body or behind it
abbrev pub IsOwnPoint : (W : World) (f : W.table.Variable → Slot) (d : Draft W) (k : ℕ) → PathAt W f d k → ℕ → Type 0
IsOwnPoint W f d k q x = (((region_at q.before.regions k).points ≤ x) × (x < (body_begun W f k q.first q.path q.place q.before).points)) ⊎ (((body_ended W f k q.first q.path q.place q.before).points ≤ x) × (x < (behind W f d k q).points))

-- is in no region that is kept for a later path
pub own_outside : (W : World) (l : Lasting W) (f : W.table.Variable → Slot) (d : Draft W) (k : ℕ) (q : PathAt W f d k) (x : ℕ) → IsOwnPoint W f d k q x → IsOutside W (k + 1) (behind W f d k q).regions x
own_outside W l f d k q x own j low h = by (items.regions j) (called_size W k q.first q.path q.place j) where
  items : Enlarges (upto q.place.body.labels (body_exit W f k q.first q.path q.place q.before + 1)) Free (IsCalled (context_at W k q.first q.path) (calls_in_items q.place.body.items)) (body_begun W f k q.first q.path q.place q.before) (body_ended W f k q.first q.path q.place q.before)
  items = items_grow W f k q.first q.path q.place q.before

  O : DraftOf Slot
  O = body_begun W f k q.first q.path q.place q.before

  Z : DraftOf Slot
  Z = body_ended W f k q.first q.path q.place q.before

  ended : region_at (behind W f d k q).regions j ≡ region_at Z.regions j
  ended = either_is ((part_closes W f k q.first q.path q.place q.before).regions j) (λ t. absurd t.1)

  begun : region_at O.regions j ≡ region_at q.before.regions j
  begun = either_is ((begun_grows W f k q.first q.path q.place q.before).regions j) (λ t. absurd t.1)

  in_region : ((region_at q.before.regions k).points ≤ x) × (x < (region_at q.before.regions k).points + (size_of W k).points)
  in_region = inside own where
    inside : IsOwnPoint W f d k q x → ((region_at q.before.regions k).points ≤ x) × (x < (region_at q.before.regions k).points + (size_of W k).points)
    inside (inl (a, b)) =
        let ends = part_ends W l k q.first q.path q.place q.before in
        let up = (items_grow W f k q.first q.path q.place q.before).points in
        let on = (part_closes W f k q.first q.path q.place q.before).points in
        (a, omega (b, ends, up, on, arith))
    inside (inr (a, b)) =
        let ends = part_ends W l k q.first q.path q.place q.before in
        let from = (begun_grows W f k q.first q.path q.place q.before).points in
        let up = (items_grow W f k q.first q.path q.place q.before).points in
        (omega (a, from, up, arith), omega (b, ends, arith))

  no : IsOwnPoint W f d k q x → O.points ≤ (region_at Z.regions j).points → (region_at Z.regions j).points + (size_of W j).points ≤ Z.points → ⊥
  no (inl (a, b)) y z = let n = ap (λ (r : Region). r.points) ended in let from = h.from in absurd (omega (b, y, n, from, arith))
  no (inr (a, b)) y z = let n = ap (λ (r : Region). r.points) ended in let to = h.to in absurd (omega (a, z, n, to, arith))

  by : {C : Size → Type 0} {v w : ℕ} → Takes C O.points Z.points v w (region_at Z.regions j) ⊎ (region_at Z.regions j ≡ region_at O.regions j) → ((s : Size) → C s → (q.first ≤ j) × (s ≡ size_of W j)) → ⊥
  by (inl (s, c, i, y, u, v)) t = let same = ap (λ (z : Size). z.points) (t s c).1 in no own i (omega (y, same, arith))
  by (inr e) t =
      let n = ap (λ (r : Region). r.points) (ended ∙ (e ∙ begun)) in
      let kept = h.kept in
      let from = h.from in
      let to = h.to in
      let one = q.plan.parted j k x (omega (low, arith)) (omega arith) (record { kept = omega (kept, n, arith); from = omega (from, n, arith); to = omega (to, n, arith) }) (record { kept = (q.plan.kept k q.place.below).kept; from = in_region.0; to = in_region.1 }) in
      absurd (omega (one, low, arith))

-- so that it keeps its label
pub own_label : (W : World) (l : Lasting W) (f : W.table.Variable → Slot) (d : Draft W) (g : Whole) → IsGraphOf W f d g → (k : ℕ) (q : PathAt W f d k) (x : ℕ) → IsOwnPoint W f d k q x → 0 < x → label_at g.labels x ≡ label_at (behind W f d k q).labels x
own_label W l f d g is k q x own pos = is.labels x pos ∙ (rest_adds W l f d k q).labels x (own_outside W l f d k q x own)

-- The exit has the label with which the body begins.
pub exit_label : (W : World) (l : Lasting W) (f : W.table.Variable → Slot) (d : Draft W) (g : Whole) → IsGraphOf W f d g → (k : ℕ) (q : PathAt W f d k)
    → label_at g.labels (body_exit W f k q.first q.path q.place q.before) ≡ (body_begun W f k q.first q.path q.place q.before).here
exit_label W l f d g is k q = own_label W l f d g is k q p (inl (omega (exit, arith), omega arith)) (omega (exit, kept, arith))
    ∙ (either_is (close.labels p (omega (up, arith))) (λ h. h) ∙ (either_is (items.labels p (omega arith)) (λ h. let z = upto_from q.place.body.labels (p + 1) p h in absurd (omega (z, arith))) ∙ (first_label (q.place.body.labels + 1) q.place.body.labels o (omega arith) room ∙ sym (opens.here)))) where
      p : ℕ
      p = body_exit W f k q.first q.path q.place q.before

      o : DraftOf Slot
      o = part.placed_entry q.path.caller (part.begun (context_at W k q.first q.path) q.place.function q.place.body q.path.caller (region_at q.before.regions k) (draft_by f q.before))

      exit : p ≡ (region_at q.before.regions k).points
      exit = exit_is W f k q.first q.path q.place q.before

      kept : 0 < (region_at q.before.regions k).points
      kept = (q.plan.kept k q.place.below).kept

      close : Rattle.pk_visits.proofs.Grows.Statements.Adds [] Rattle.pk_visits.proofs.Slots.Never Uncalled (Rattle.pk_draft.specs.Drafts.standing o.here (body_ended W f k q.first q.path q.place q.before)) (draft_by f (part_at W k q.first q.path q.before))
      close = part_closes W f k q.first q.path q.place q.before

      items : Enlarges (upto q.place.body.labels (p + 1)) Free (IsCalled (context_at W k q.first q.path) (calls_in_items q.place.body.items)) (body_begun W f k q.first q.path q.place q.before) (body_ended W f k q.first q.path q.place q.before)
      items = items_grow W f k q.first q.path q.place q.before

      opens : Rattle.pk_visits.proofs.Slots.Grows Uncalled o (fresh (q.place.body.labels + 1) o)
      opens = fresh_grows Uncalled (q.place.body.labels + 1) o

      up : p + 1 ≤ (body_ended W f k q.first q.path q.place q.before).points
      up = let z = items.points in omega (z, arith)

      room : p < length o.labels
      room =
          let a = opens.size in
          let b = items.size in
          let c = close.size in
          let e = (rest_adds W l f d k q).size in
          let w = is.room in
          let ends = part_ends W l k q.first q.path q.place q.before in
          let made = (q.plan.kept k q.place.below).points in
          let on = close.points in
          omega (a, b, c, e, w, ends, made, on, up, arith)
