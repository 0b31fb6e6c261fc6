-- The stage of a path's body in the whole graph.
use Rattle.std.proofs.Common.{◌≡◌, ℕ, ◌+◌, ◌<◌, ◌≤◌, ◌⊎◌, inl, inr, List, [], ◌∷◌, length, refl, ap, sym, subst, ◌∙◌, arith}
use Rattle.std.proofs.lemmas.List.{get_or_past}
use Rattle.std.proofs.lemmas.Option.{slice_get_within}
use Rattle.pk_typed.specs.declared.units.CallSite.{CallSite}
use Rattle.pk_calls.specs.declared.listings.CallPath.{CallPath}
use Rattle.pk_calls.specs.Calls.{calls_of}
use Rattle.pk_welltyped.specs.Listed.{Numbered, numbered, calls_in_items}
use Rattle.pk_draft.specs.declared.drafts.Region.{Region}
use Rattle.pk_draft.specs.declared.drafts.Size.{Size}
use Rattle.pk_draft.specs.Drafts.{DraftOf, no_region}
use Rattle.pk_lower_row.specs.Contexts.{Context, callee, size_in}
use Rattle.pk_meaning.specs.Programs.{block_of}
use Rattle.pk_meaning.specs.Work.{Place}
use Rattle.pk_lower_laws.proofs.Drafts.Places.{Holds}
use Rattle.pk_lower_laws.proofs.Drafts.Plans.{World, Draft, base, sizes, size_of, Lasting, PathIs}
use Rattle.pk_lower_laws.proofs.Drafts.Wholes.{same_calls}
use Rattle.pk_visits.proofs.Slots.{Slot, Among, region_at, Uncalled}
use Rattle.pk_visits.proofs.Grows.Statements.{upto, upto_from, upto_before, Enlarges, Free}
use Rattle.pk_visits.proofs.Stages.{among_either}
use Rattle.pk_visits.proofs.Stands.{Whole, context_of, led_to, Distinct, IsReserved, Stage}
use Rattle.pk_visits.proofs.Grows.Parts.{entry_marks, first_of, opened_enlarges}
use Rattle.pk_visits.proofs.Numbered.Names.{draft_by}
use Rattle.pk_visits_laws.proofs.Followed.Basics.{either_is, split}
use Rattle.pk_visits_laws.proofs.Followed.Paths.{numbered_at}
use Rattle.pk_visits_laws.proofs.Followed.PartAdds.{context_at, body_begun, body_ended, called_size, part_ends}
use Rattle.pk_visits_laws.proofs.Followed.Pending.{PathAt}
use Rattle.pk_visits_laws.proofs.Followed.KeptPoints.{kept_points, kept_point}
use Rattle.pk_visits_laws.proofs.Followed.Bodies.{IsGraphOf, behind, body_marks, body_later, body_leads, part_closes}

-- ---- where calls lead

led_from : (c : Context) (xs : List Numbered) (m : ℕ) → Among m (led_to c xs) → (z : Numbered) × Among z xs × (m ≡ callee c z.number)
led_from c [] m h = absurd h
led_from c (x ∷ xs) m (inl e) = (x, inl refl, e)
led_from c (x ∷ xs) m (inr h) = let r = led_from c xs m h in (r.0, inr r.1, r.2)

led_numbered : (c : Context) (i : ℕ) (cs : List CallSite) (m : ℕ) → Among m (led_to c (numbered i cs)) → c.first + i ≤ m
led_numbered c i [] m h = absurd h
led_numbered c i (x ∷ cs) m (inl e) = omega (e, arith)
led_numbered c i (x ∷ cs) m (inr h) = let z = led_numbered c (i + 1) cs m h in omega (z, arith)

led_distinct : (c : Context) (i : ℕ) (cs : List CallSite) → Distinct (led_to c (numbered i cs))
led_distinct c i [] = tt
led_distinct c i (x ∷ cs) = ((λ h. let z = led_numbered c (i + 1) cs (c.first + i) h in absurd (omega (z, arith))), led_distinct c (i + 1) cs)

-- behind its calls lie those of later paths
pub led_below : (W : World) (k n : ℕ) (p : CallPath) (h : PathIs W k n p) (m : ℕ) → Among m (led_to (context_at W k n p) (calls_in_items h.body.items)) → m < n + length (calls_of W.unit p.function)
led_below W k n p h m a =
    let z = led_from (context_at W k n p) (calls_in_items h.body.items) m a in
    let r = numbered_at 0 h.body.calls z.0 (subst (Among z.0) h.is_body.calls z.1) in
    let at = z.2 in
    let number = r.1 in
    let low = slice_get_within h.body.calls r.0 z.0.call r.2 in
    let many = ap length (same_calls W k n p h) in
    omega (at, number, low, many, arith)

-- ---- the body

-- intervals without a common point
pub apart_from : (a s b t : ℕ) → 0 < s → 0 < t → ((x : ℕ) → a ≤ x → x < a + s → b ≤ x → x < b + t → ⊥) → (a + s ≤ b) ⊎ (b + t ≤ a)
apart_from a s b t p q none = by (split b (a + s)) (split a (b + t)) (split a b) where
  by : (b < a + s) ⊎ (a + s ≤ b) → (a < b + t) ⊎ (b + t ≤ a) → (a < b) ⊎ (b ≤ a) → (a + s ≤ b) ⊎ (b + t ≤ a)
  by (inr x) y z = inl x
  by (inl x) (inr y) z = inr y
  by (inl x) (inl y) (inl z) = absurd (none b (omega (z, arith)) x (omega arith) (omega (q, arith)))
  by (inl x) (inl y) (inr z) = absurd (none a (omega arith) (omega (p, arith)) z y)

-- up to where it begins no region is taken
pub begun_grows : (W : World) (f : W.table.Variable → Slot) (k n : ℕ) (p : CallPath) (h : PathIs W k n p) (d : Draft W)
    → Enlarges (entry_marks p.caller (region_at d.regions k)) Free Uncalled (first_of (context_at W k n p) h.body (region_at d.regions k) (draft_by f d)) (body_begun W f k n p h d)
begun_grows W f k n p h d = opened_enlarges Uncalled (context_at W k n p) h.function h.body p.caller (region_at d.regions k) (draft_by f d)

-- its program, contexts and spans are the world's
pub record IsWholeOf (W : World) (f : W.table.Variable → Slot) (d : Draft W) (g : Whole) : Type 1 where
  pub graph : IsGraphOf W f d g
  pub contexts : (k : ℕ) (q : PathAt W f d k) → context_of g k ≡ context_at W k q.first q.path
  pub blocks : (k : ℕ) (q : PathAt W f d k) → block_of g.program k ≡ q.place.body
  pub spans : (k : ℕ) → g.spans k ≡ (size_of W k).points
  pub some : (k : ℕ) → k < length W.paths → 0 < (size_of W k).points

-- The body of path k stands as a stage, where its first point shows the place.
pub body_stage : (W : World) (l : Lasting W) (f : W.table.Variable → Slot) (d : Draft W) (g : Whole) → IsWholeOf W f d g → (k : ℕ) (q : PathAt W f d k) → k < length W.paths → (h : Place) → g.shows (body_begun W f k q.first q.path q.place q.before).here k h
    → Stage g k h (calls_in_items q.place.body.items) (body_begun W f k q.first q.path q.place q.before) (body_ended W f k q.first q.path q.place q.before)
body_stage W l f d g is k q there h here = record {
  marks = body_marks W f d k q;
  later = body_later W f d k q;
  leads = body_leads W l f d g is.graph k q;
  bounded = λ x m from to. reserved x from (among_either (upto O.points 0) (kept_points W e.regions (length W.paths) (k + 1)) x m);
  free = λ m low. between m low (split 0 (region_at q.before.regions m).points);
  spans = λ z a. sizes_are z a;
  here = here;
  apart = λ m a b. let x = led_below W k q.first q.path q.place m (subst (λ c. Among m (led_to c calls)) same a) in let y = upto_from (length W.paths) (q.first + length (calls_of W.unit q.path.function)) m b in absurd (omega (x, y, arith));
  distinct = subst (λ c. Distinct (led_to c calls)) (sym same) (subst (λ xs. Distinct (led_to c xs)) (sym q.place.is_body.calls) (led_distinct c 0 q.place.body.calls));
  path = subst (λ ps. k < length ps) (sym is.graph.paths) there;
  noted = λ z a. subst (λ (b : Rattle.pk_typed.specs.Trees.BodyTree). Among z (calls_in_items b.items)) (sym (is.blocks k q)) a;
} where
  e : Draft W
  e = behind W f d k q

  O : DraftOf Slot
  O = body_begun W f k q.first q.path q.place q.before

  Z : DraftOf Slot
  Z = body_ended W f k q.first q.path q.place q.before

  calls : List Numbered
  calls = calls_in_items q.place.body.items

  c : Context
  c = context_at W k q.first q.path

  r : Region
  r = region_at q.before.regions k

  same : context_of g k ≡ c
  same = is.contexts k q

  ended : (m : ℕ) → region_at e.regions m ≡ region_at Z.regions m
  ended m = either_is ((part_closes W f k q.first q.path q.place q.before).regions m) (λ t. absurd t.1)

  begun : (m : ℕ) → region_at O.regions m ≡ region_at q.before.regions m
  begun m = either_is ((begun_grows W f k q.first q.path q.place q.before).regions m) (λ t. absurd t.1)

  held : (x m : ℕ) → k + 1 ≤ m → Holds (base W) e.regions m x → IsReserved g k Z.regions x
  held x m low s =
      let n = ap (λ (o : Region). o.points) (ended m) in
      let span = is.spans m in
      let kept = s.kept in
      let from = s.from in
      let to = s.to in
      (m, omega (low, arith), omega (kept, n, arith), omega (from, n, arith), omega (to, n, span, arith))

  reserved : (x : ℕ) → O.points ≤ x → Among x (upto O.points 0) ⊎ Among x (kept_points W e.regions (length W.paths) (k + 1)) → IsReserved g k Z.regions x
  reserved x from (inl a) = let z = upto_before O.points 0 x a in absurd (omega (z, from, arith))
  reserved x from (inr a) = let s = kept_point W e.regions (length W.paths) (k + 1) x a in held x s.0 s.1 s.2

  parted : (m : ℕ) → k < m → 0 < (region_at q.before.regions m).points → ((region_at q.before.regions m).points + (size_of W m).points ≤ r.points) ⊎ (r.points + (size_of W k).points ≤ (region_at q.before.regions m).points)
  parted m low kept =
      let many = q.plan.count in
      let near = in_list m kept (split m (length q.before.regions)) in
      apart_from (region_at q.before.regions m).points (size_of W m).points r.points (size_of W k).points (is.some m (omega (near, many, arith))) (is.some k there)
      (λ x a b i j. let one = q.plan.parted m k x (omega (low, arith)) (omega arith) (record { kept = kept; from = a; to = b }) (record { kept = (q.plan.kept k q.place.below).kept; from = i; to = j }) in absurd (omega (one, low, arith)))
    where
      in_list : (m : ℕ) → 0 < (region_at q.before.regions m).points → (m < length q.before.regions) ⊎ (length q.before.regions ≤ m) → m < length q.before.regions
      in_list m kept (inl a) = a
      in_list m kept (inr a) = let z = ap (λ (o : Region). o.points) (get_or_past q.before.regions m no_region a) in absurd (omega (kept, z, arith))

  between : (m : ℕ) → k < m → (0 < (region_at q.before.regions m).points) ⊎ ((region_at q.before.regions m).points ≤ 0) → ((region_at O.regions m).points ≡ 0) ⊎ ((region_at O.regions m).points + g.spans m ≤ O.points) ⊎ (Z.points ≤ (region_at O.regions m).points)
  between m low (inr none) = let n = ap (λ (o : Region). o.points) (begun m) in inl (omega (none, n, arith))
  between m low (inl kept) = by (parted m low kept) where
    by : ((region_at q.before.regions m).points + (size_of W m).points ≤ r.points) ⊎ (r.points + (size_of W k).points ≤ (region_at q.before.regions m).points)
        → ((region_at O.regions m).points ≡ 0) ⊎ ((region_at O.regions m).points + g.spans m ≤ O.points) ⊎ (Z.points ≤ (region_at O.regions m).points)
    by (inl a) =
        let n = ap (λ (o : Region). o.points) (begun m) in
        let span = is.spans m in
        let up = (begun_grows W f k q.first q.path q.place q.before).points in
        inr (inl (omega (a, n, span, up, arith)))
    by (inr a) =
        let n = ap (λ (o : Region). o.points) (begun m) in
        let ends = part_ends W l k q.first q.path q.place q.before in
        let up = (part_closes W f k q.first q.path q.place q.before).points in
        inr (inr (omega (a, n, ends, up, arith)))

  sizes_are : (z : Numbered) → Among z calls → (size_in g.sizes z.call.function).points ≡ g.spans (callee (context_of g k) z.number)
  sizes_are z a =
      let j = callee c z.number in
      let s = called_size W k q.first q.path q.place j (size_in (sizes W) z.call.function) (z, a, refl, refl) in
      ap (λ (x : Context). (size_in x.sizes z.call.function).points) same ∙ (ap (λ (x : Size). x.points) s.1 ∙ (sym (is.spans j) ∙ ap (λ (x : Context). g.spans (callee x z.number)) (sym same)))

pub stage_marks : (W : World) (l : Lasting W) (f : W.table.Variable → Slot) (d : Draft W) (g : Whole) (is : IsWholeOf W f d g) (k : ℕ) (q : PathAt W f d k) (there : k < length W.paths) (h : Place) (here : g.shows (body_begun W f k q.first q.path q.place q.before).here k h)
    → (body_stage W l f d g is k q there h here).marks ≡ body_marks W f d k q
unfolding body_stage
stage_marks W l f d g is k q there h here = refl
