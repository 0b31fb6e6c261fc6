-- Parts change labels only where a region is kept for them.
use Rattle.std.proofs.Common.{◌≡◌, ℕ, zero, suc, ◌+◌, ◌<◌, ◌≤◌, ◌⊎◌, inl, inr, List, [], ◌∷◌, Option, Some, None, length, refl, ap, sym, subst, ◌∙◌, arith, slice_index_or}
use Rattle.pk_calls.specs.declared.listings.Caller.{Caller}
use Rattle.pk_calls.specs.declared.listings.CallPath.{CallPath}
use Rattle.pk_calls.specs.Calls.{body_of, calls_of}
use Rattle.pk_draft.specs.declared.drafts.Region.{Region}
use Rattle.pk_draft.specs.Drafts.{DraftOf}
use Rattle.pk_lower.specs.Parts as part
use Rattle.pk_lower_laws.proofs.Drafts.Places.{Holds}
use Rattle.pk_lower_laws.proofs.Drafts.Plans.{World, Draft, base, sizes, size_of, Lasting, Plan, PathIs, its_body, its_function, part_made_is}
use Rattle.pk_lower_laws.proofs.Drafts.Drafts.{behind_part, ends_in, function_from}
use Rattle.pk_lower_laws.proofs.Drafts.Wholes.{Paths, next_plan}
use Rattle.pk_visits.specs.Turns.{TurnPoint, turns_from, turns_of_body, turns_of_part}
use Rattle.pk_visits.proofs.Slots.{Slot, slots, Edge, Extends, Among, label_at, region_at}
use Rattle.pk_visits.proofs.Grows.Parts.{entry_marks}
use Rattle.pk_visits.proofs.Numbered.Names.{names_by, draft_by}
use Rattle.pk_visits.proofs.Numbered.Parts.{part_by}
use Rattle.pk_visits_laws.proofs.Followed.Basics.{either_is}
use Rattle.pk_visits_laws.proofs.Followed.Paths.{firsts_from, first_of}
use Rattle.pk_visits_laws.proofs.Followed.PartAdds.{context_at, part_at, PartAdds, part_adds}

-- each of these paths is entered by a call
abbrev pub HaveCallers : List CallPath → Type 0
HaveCallers [] = Unit {0}
HaveCallers (p ∷ ps) = (p.caller ≡ None → ⊥) × HaveCallers ps

-- no path from k on has the point in its region
abbrev pub IsOutside : (W : World) → ℕ → List Region → ℕ → Type 0
IsOutside W k rs q = (j : ℕ) → k ≤ j → Holds (base W) rs j q → ⊥

-- a called path has no marks of its own outside
called_marks : (o : Option Caller) (r : Region) (q : ℕ) → (o ≡ None → ⊥) → Among q (entry_marks o r) → ⊥
called_marks None r q h m = h refl
called_marks (Some c) r q h m = m

-- a point outside a kept region
beside : (W : World) (k : ℕ) (rs : List Region) (q : ℕ) → 0 < (region_at rs k).points → IsOutside W k rs q → (q < (region_at rs k).points) ⊎ ((region_at rs k).points + (size_of W k).points ≤ q)
beside W k rs q kept out = by (split q (region_at rs k).points) (split q ((region_at rs k).points + (size_of W k).points)) where
  split : (i l : ℕ) → (i < l) ⊎ (l ≤ i)
  split i l = grind arith

  by : (q < (region_at rs k).points) ⊎ ((region_at rs k).points ≤ q) → (q < (region_at rs k).points + (size_of W k).points) ⊎ ((region_at rs k).points + (size_of W k).points ≤ q) → (q < (region_at rs k).points) ⊎ ((region_at rs k).points + (size_of W k).points ≤ q)
  by (inl a) b = inl a
  by (inr a) (inr b) = inr b
  by (inr a) (inl b) = absurd (out k (omega arith) (record { kept = kept; from = a; to = b }))

-- behind the part of path k it is outside still
outside_next : (W : World) (f : W.table.Variable → Slot) (k n : ℕ) (p : CallPath) (d e : Draft W) (q : ℕ) → PartAdds W f k n p d e → (q < (region_at d.regions k).points) ⊎ ((region_at d.regions k).points + (size_of W k).points ≤ q) → IsOutside W k d.regions q → IsOutside W (k + 1) e.regions q
outside_next W f k n p d e q a side out j low h = by side (a.regions j) where
  by : (q < (region_at d.regions k).points) ⊎ ((region_at d.regions k).points + (size_of W k).points ≤ q)
      → ((n ≤ j) × ((region_at d.regions k).points ≤ (region_at e.regions j).points) × ((region_at e.regions j).points + (size_of W j).points ≤ (region_at d.regions k).points + (size_of W k).points)) ⊎ (region_at e.regions j ≡ region_at d.regions j)
      → ⊥
  by (inl s) (inl (x, y, z)) = let from = h.from in absurd (omega (s, y, from, arith))
  by (inr s) (inl (x, y, z)) = let to = h.to in absurd (omega (s, z, to, arith))
  by s (inr is) =
      let n = ap (λ (r : Region). r.points) is in
      let kept = h.kept in
      let from = h.from in
      let to = h.to in
      out j (omega (low, arith)) (record { kept = omega (kept, n, arith); from = omega (from, n, arith); to = omega (to, n, arith) })

-- What the parts of paths from k on add, whose calls lead to paths from n on: a point that is in no region which is kept for one of them keeps its label.
pub record PartsAdd (W : World) (f : W.table.Variable → Slot) (k n : ℕ) (d g : Draft W) : Type 0 where
  pub names : names_by f g.names ≡ names_by f d.names
  pub edges : (x : Edge) → Among x (draft_by f d).edges → Among x (draft_by f g).edges
  pub scopes : Extends d.scopes g.scopes
  pub size : length g.labels ≡ length d.labels
  pub paths : length g.regions ≡ length d.regions
  pub labels : (q : ℕ) → IsOutside W k d.regions q → label_at g.labels q ≡ label_at d.labels q
  pub regions : (j : ℕ) → j < n → region_at g.regions j ≡ region_at d.regions j

pub next_part : (W : World) → Lasting W → (k n : ℕ) (p : CallPath) (h : PathIs W k n p) (d : Draft W) → Plan W k n d → Plan W (k + 1) (n + length (calls_of W.unit p.function)) (part_at W k n p d)
next_part W l k n p h d plan = subst (Plan W (k + 1) (n + length (calls_of W.unit p.function))) (sym (part_made_is W k n p h p.caller (region_at d.regions k) d)) (next_plan W l k n p h d plan)

pub parts_add : (W : World) → Lasting W → (f : W.table.Variable → Slot) (k n : ℕ) (ps : List CallPath) → Paths W k n ps → HaveCallers ps → (d : Draft W) → Plan W k n d → PartsAdd W f k n d (part.parts_from W.unit (sizes W) k n ps d)
unfolding part.parts_from
parts_add W l f k n [] h o d plan = record { names = refl; edges = λ x m. m; scopes = λ i z m. m; size = refl; paths = refl; labels = λ q m. refl; regions = λ j m. refl }
parts_add W l f k n (p ∷ ps) h o d plan =
    let one = h.0 in
    let e = part_at W k n p d in
    let m = n + length (calls_of W.unit p.function) in
    let a = part_adds W l f k n p one d in
    let b = parts_add W l f (k + 1) m ps h.1 o.1 e (next_part W l k n p one d plan) in
    record {
      names = b.names ∙ a.names;
      edges = λ x y. b.edges x (a.edges x y);
      scopes = λ i z y. b.scopes i z (a.scopes i z y);
      size = b.size ∙ a.size;
      paths = b.paths ∙ a.paths;
      labels = λ q out. let side = beside W k d.regions q (plan.kept k one.below).kept out in b.labels q (outside_next W f k n p d e q a side out) ∙ either_is (a.labels q side) (called_marks p.caller (region_at d.regions k) q o.0);
      regions = λ j low. b.regions j (omega (low, arith)) ∙ either_is (a.regions j) (λ x. let y = x.0 in absurd (omega (y, low, arith)));
    }

-- ---- each path

-- Path j, the draft before its part, and the parts behind it, up to the draft g.
pub record PathAt (W : World) (f : W.table.Variable → Slot) (g : Draft W) (j : ℕ) : Type 1 where
  pub first : ℕ
  pub path : CallPath
  pub place : PathIs W j first path
  pub before : Draft W
  pub plan : Plan W j first before
  pub names : names_by f before.names ≡ slots
  pub first_is : first ≡ first_of W.unit W.paths j
  pub ends : W.ends j ≡ ends_in W.unit path.function (part_at W j first path before)
  pub others : List CallPath
  pub paths : Paths W (j + 1) (first + length (calls_of W.unit path.function)) others
  pub callers : HaveCallers others
  pub rest : g ≡ part.parts_from W.unit (sizes W) (j + 1) (first + length (calls_of W.unit path.function)) others (part_at W j first path before)

-- all but the first
abbrev pub HaveCallersBehind : List CallPath → Type 0
HaveCallersBehind [] = Unit {0}
HaveCallersBehind (p ∷ ps) = HaveCallers ps

callers_behind : (ps : List CallPath) → HaveCallers ps → HaveCallersBehind ps
callers_behind [] h = tt
callers_behind (p ∷ ps) h = h.1

-- where the loops of path j begin again
abbrev pub turns_at : (W : World) (f : W.table.Variable → Slot) (g : Draft W) (j : ℕ) → PathAt W f g j → List TurnPoint
turns_at W f g j q =
    let c = context_at W j q.first q.path in
    turns_of_body c q.place.body (part.placed_entry q.path.caller (part.begun c q.place.function q.place.body q.path.caller (region_at q.before.regions j) (draft_by f q.before)))

-- path j, whose loops begin again where a list says it
pub record TurnsAt (W : World) (f : W.table.Variable → Slot) (g : Draft W) (turns : ℕ → List TurnPoint) (j : ℕ) : Type 1 where
  pub path : PathAt W f g j
  pub turned : turns j ≡ turns_at W f g j path

body_turns : {V : Type 0} (W : World) (k n : ℕ) (p : CallPath) (h : PathIs W k n p) (from : Option Caller) (r : Region) (d : DraftOf V)
    → turns_of_part (context_at W k n p) (part.function_at W.unit p.function) (body_of W.unit p.function) from r d ≡ turns_of_part (context_at W k n p) h.function (Some h.body) from r d
body_turns W k n p h from r d =
    let c = context_at W k n p in
    ap (λ (g : _). turns_of_part c g (body_of W.unit p.function) from r d) (its_function W.unit p.function h.function h.there)
    ∙ ap (λ (o : _). turns_of_part c h.function o from r d) (its_body W.unit p.function h.function h.body h.there h.has)

pub path_turned : (W : World) → Lasting W → (f : W.table.Variable → Slot) (turns : ℕ → List TurnPoint) (k n : ℕ) (ps : List CallPath) → Paths W k n ps → HaveCallersBehind ps → (d : Draft W) → Plan W k n d → names_by f d.names ≡ slots → ((i : ℕ) → slice_index_or (firsts_from W.unit n ps) i 0 ≡ first_of W.unit W.paths (k + i)) → ((i : ℕ) → i < length ps → W.ends (k + i) ≡ ends_in W.unit (function_from ps i) (behind_part W.unit (sizes W) k n ps d i))
    → ((i : ℕ) → i < length ps → turns (k + i) ≡ slice_index_or (turns_from W.unit (sizes W) k n ps (draft_by f d)) i []) → (i : ℕ) → i < length ps → TurnsAt W f (part.parts_from W.unit (sizes W) k n ps d) turns (k + i)
unfolding part.parts_from behind_part turns_from
path_turned W l f turns k n [] h o d plan ns ones ends turned i low = absurd (omega (low, arith))
path_turned W l f turns k n (p ∷ ps) h o d plan ns ones ends turned zero low =
    let at : k ≡ k + zero = omega arith in
    subst (TurnsAt W f (part.parts_from W.unit (sizes W) (k + 1) (n + length (calls_of W.unit p.function)) ps (part_at W k n p d)) turns) at
    (record {
      path = record { first = n; path = p; place = h.0; before = d; plan = plan; names = ns; first_is = ones zero ∙ ap (first_of W.unit W.paths) (sym at); ends = ap W.ends at ∙ ends zero low; others = ps; paths = h.1; callers = o; rest = refl };
      turned = ap turns at ∙ turned zero low ∙ body_turns W k n p h.0 p.caller (region_at d.regions k) (draft_by f d);
    })
path_turned W l f turns k n (p ∷ ps) h o d plan ns ones ends turned (suc i) low =
    let at : k + 1 + i ≡ k + suc i = omega arith in
    let m = n + length (calls_of W.unit p.function) in
    subst (TurnsAt W f (part.parts_from W.unit (sizes W) (k + 1) m ps (part_at W k n p d)) turns) at
    (path_turned W l f turns (k + 1) m ps h.1 (callers_behind ps o) (part_at W k n p d) (next_part W l k n p h.0 d plan) ((part_adds W l f k n p h.0 d).names ∙ ns) (λ j. ones (suc j) ∙ ap (first_of W.unit W.paths) (omega arith)) (λ j b. let next : k + 1 + j ≡ k + suc j = omega arith in ap W.ends next ∙ ends (suc j) (omega (b, arith)))
    (λ j b. let next : k + 1 + j ≡ k + suc j = omega arith in
    ap turns next ∙ turned (suc j) (omega (b, arith)) ∙ ap (λ (z : DraftOf Slot). slice_index_or (turns_from W.unit (sizes W) (k + 1) m ps z) j []) (part_by W.table.Variable Slot f (context_at W k n p) p.function p.caller (region_at d.regions k) d))
    i (omega (low, arith)))
