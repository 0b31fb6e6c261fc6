-- How the lowering of a path's body goes on to the whole graph: which points later parts place again, which regions they take.
use Rattle.std.proofs.Common.{◌≡◌, ℕ, zero, suc, ◌+◌, ◌<◌, ◌≤◌, ◌⊎◌, inl, inr, List, [], ◌++◌, length, ap, sym, subst, ◌∙◌, arith}
use Rattle.std.proofs.lemmas.List.{get_or_past}
use Rattle.pk_calls.specs.declared.listings.CallPath.{CallPath}
use Rattle.pk_calls.specs.Calls.{calls_of}
use Rattle.pk_draft.specs.declared.drafts.Region.{Region}
use Rattle.pk_draft.specs.Drafts.{DraftOf, no_region, standing}
use Rattle.pk_lower.specs.Parts as part
use Rattle.pk_lower_laws.proofs.Drafts.Plans.{World, Draft, Lasting, Plan, PathIs}
use Rattle.pk_visits.proofs.Slots.{Slot, Among, label_at, region_at, Uncalled, Never}
use Rattle.pk_visits.proofs.Grows.Statements.{Adds, upto, upto_has}
use Rattle.pk_visits.proofs.Stages.{among_front, among_back}
use Rattle.pk_visits.proofs.Stands.{Whole, Leads}
use Rattle.pk_visits.proofs.Grows.Parts.{closed_adds}
use Rattle.pk_visits.proofs.Numbered.Names.{names_by, draft_by}
use Rattle.pk_visits_laws.proofs.Followed.Basics.{either_is, split}
use Rattle.pk_visits_laws.proofs.Followed.PartAdds.{context_at, part_at, body_begun, body_exit, body_ended, closed_is}
use Rattle.pk_visits_laws.proofs.Followed.Pending.{IsOutside, PartsAdd, parts_add, PathAt, next_part}
use Rattle.pk_visits_laws.proofs.Followed.KeptPoints.{kept_points, keeps_point, listed_or_not}

-- from the end of the body to that of the part
pub part_closes : (W : World) (f : W.table.Variable → Slot) (k n : ℕ) (p : CallPath) (h : PathIs W k n p) (d : Draft W)
    → Adds [] Never Uncalled (standing (part.placed_entry p.caller (part.begun (context_at W k n p) h.function h.body p.caller (region_at d.regions k) (draft_by f d))).here (body_ended W f k n p h d)) (draft_by f (part_at W k n p d))
part_closes W f k n p h d =
    let l = (part.placed_entry p.caller (part.begun (context_at W k n p) h.function h.body p.caller (region_at d.regions k) (draft_by f d))).here in
    subst (Adds [] Never Uncalled (standing l (body_ended W f k n p h d))) (closed_is W f k n p h d)
    (closed_adds [] Never Uncalled (context_at W k n p) h.function h.body (body_exit W f k n p h d) (standing l (body_ended W f k n p h d)))

-- the draft behind the part, and the part of those behind it
abbrev pub behind : (W : World) (f : W.table.Variable → Slot) (g : Draft W) (k : ℕ) → PathAt W f g k → Draft W
behind W f g k q = part_at W k q.first q.path q.before

pub rest_adds : (W : World) (l : Lasting W) (f : W.table.Variable → Slot) (g : Draft W) (k : ℕ) (q : PathAt W f g k) → PartsAdd W f (k + 1) (q.first + length (calls_of W.unit q.path.function)) (behind W f g k q) g
rest_adds W l f g k q =
    let m = q.first + length (calls_of W.unit q.path.function) in
    subst (PartsAdd W f (k + 1) m (behind W f g k q)) (sym q.rest) (parts_add W l f (k + 1) m q.others q.paths q.callers (behind W f g k q) (next_part W l k q.first q.path q.place q.before q.plan))

-- the points that are placed again, or were placed before: those below the body, and those that are kept for later paths
abbrev pub body_marks : (W : World) (f : W.table.Variable → Slot) (g : Draft W) (k : ℕ) → PathAt W f g k → List ℕ
body_marks W f g k q = upto (body_begun W f k q.first q.path q.place q.before).points 0 ++ kept_points W (behind W f g k q).regions (length W.paths) (k + 1)

-- the paths whose regions are taken later
abbrev pub body_later : (W : World) (f : W.table.Variable → Slot) (g : Draft W) (k : ℕ) → PathAt W f g k → List ℕ
body_later W f g k q = upto (length W.paths) (q.first + length (calls_of W.unit q.path.function))

-- a graph whose parts are those of a draft, but for the label of point 0
pub record IsGraphOf (W : World) (f : W.table.Variable → Slot) (d : Draft W) (g : Whole) : Type 0 where
  pub edges : g.edges ≡ (draft_by f d).edges
  pub labels : (q : ℕ) → 0 < q → label_at g.labels q ≡ label_at d.labels q
  pub regions : g.regions ≡ d.regions
  pub scopes : g.scopes ≡ d.scopes
  pub paths : g.program.paths ≡ W.paths
  pub room : length d.labels ≡ W.points

-- a region that is kept is one of the list
kept_there : (rs : List Region) (j : ℕ) → 0 < (region_at rs j).points → j < length rs
kept_there rs j kept = by (split j (length rs)) where
  by : (j < length rs) ⊎ (length rs ≤ j) → j < length rs
  by (inl a) = a
  by (inr a) = let z = ap (λ (r : Region). r.points) (get_or_past rs j no_region a) in absurd (omega (kept, z, arith))

pub body_leads : (W : World) (l : Lasting W) (f : W.table.Variable → Slot) (d : Draft W) (g : Whole) → IsGraphOf W f d g → (k : ℕ) (q : PathAt W f d k) → Leads g (body_marks W f d k q) (body_later W f d k q) (body_ended W f k q.first q.path q.place q.before)
body_leads W l f d g is k q = record {
  edges = λ x m. subst (λ es. Among x es) (sym is.edges) (rest.edges x (close.edges x m));
  names = sym close.names ∙ (adds_names ∙ q.names);
  room = let a = close.points in let b = close.size in let c = rest.size in let w = is.room in omega (a, b, c, w, inside, arith);
  labels = λ x low. labelled x low (listed_or_not x marks);
  regions = λ j. region j (split j n);
  paths = sym close.paths ∙ (plan.count ∙ sym (ap length is.paths));
  scopes = λ i z m. subst (λ ss. Rattle.std.specs.Prelude.slice_get ss i ≡ Rattle.std.specs.Prelude.Some z) (sym is.scopes) (rest.scopes i z (close.scopes i z m));
} where
  e : Draft W
  e = behind W f d k q

  Z : DraftOf Slot
  Z = body_ended W f k q.first q.path q.place q.before

  n : ℕ
  n = q.first + length (calls_of W.unit q.path.function)

  marks : List ℕ
  marks = body_marks W f d k q

  rest : PartsAdd W f (k + 1) n e d
  rest = rest_adds W l f d k q

  close : Adds [] Never Uncalled (standing (part.placed_entry q.path.caller (part.begun (context_at W k q.first q.path) q.place.function q.place.body q.path.caller (region_at q.before.regions k) (draft_by f q.before))).here Z) (draft_by f e)
  close = part_closes W f k q.first q.path q.place q.before

  plan : Plan W (k + 1) n e
  plan = next_part W l k q.first q.path q.place q.before q.plan

  adds_names : names_by f e.names ≡ names_by f q.before.names
  adds_names = (Rattle.pk_visits_laws.proofs.Followed.PartAdds.part_adds W l f k q.first q.path q.place q.before).names

  inside : e.points ≤ W.points
  inside = let made = (q.plan.kept k q.place.below).points in let ends = Rattle.pk_visits_laws.proofs.Followed.PartAdds.part_ends W l k q.first q.path q.place q.before in omega (made, ends, arith)

  outside : (x : ℕ) → (Among x marks → ⊥) → IsOutside W (k + 1) e.regions x
  outside x none j low h =
      let there = kept_there e.regions j h.kept in
      let many = plan.count in
      none (among_back (upto (body_begun W f k q.first q.path q.place q.before).points 0) (kept_points W e.regions (length W.paths) (k + 1)) x (keeps_point W e.regions (length W.paths) (k + 1) j x low (omega (there, many, arith)) h))

  first_point : (x : ℕ) → x ≤ 0 → Among x (upto (body_begun W f k q.first q.path q.place q.before).points 0)
  first_point x not = subst (λ y. Among y (upto (body_begun W f k q.first q.path q.place q.before).points 0)) (omega (not, arith)) (upto_has (body_begun W f k q.first q.path q.place q.before).points 0 0 (omega arith))

  labelled : (x : ℕ) → x < Z.points → Among x marks ⊎ (Among x marks → ⊥) → Among x marks ⊎ (label_at g.labels x ≡ label_at Z.labels x)
  labelled x low (inl a) = inl a
  labelled x low (inr none) = by x low none (split 0 x) where
    by : (x : ℕ) → x < Z.points → (Among x marks → ⊥) → (0 < x) ⊎ (x ≤ 0) → Among x marks ⊎ (label_at g.labels x ≡ label_at Z.labels x)
    by x low none (inl pos) = inr (is.labels x pos ∙ (rest.labels x (outside x none) ∙ either_is (close.labels x low) (λ h. h)))
    by x low none (inr not) = inl (among_front (upto (body_begun W f k q.first q.path q.place q.before).points 0) (kept_points W e.regions (length W.paths) (k + 1)) x (first_point x not))

  later_has : (j : ℕ) → n ≤ j → j < n + length W.paths → Among j (body_later W f d k q)
  later_has j high low = listed j high low (more n j high) where
    more : (a b : ℕ) → a ≤ b → (i : ℕ) × (b ≡ a + i)
    more zero b h = (b, omega arith)
    more (suc a) zero h = absurd (omega (h, arith))
    more (suc a) (suc b) h = let r = more a b (omega (h, arith)) in (r.0, omega (r.1, arith))

    listed : (j : ℕ) → n ≤ j → j < n + length W.paths → (i : ℕ) × (j ≡ n + i) → Among j (body_later W f d k q)
    listed j high low (i, e) = subst (λ x. Among x (body_later W f d k q)) (sym e) (upto_has (length W.paths) n i (omega (low, e, arith)))

  region : (j : ℕ) → (j < n) ⊎ (n ≤ j) → Among j (body_later W f d k q) ⊎ (region_at g.regions j ≡ region_at Z.regions j)
  region j (inl low) = inr (ap (λ rs. region_at rs j) is.regions ∙ (rest.regions j low ∙ either_is (close.regions j) (λ t. absurd t.1)))
  region j (inr high) = by j high (split j (n + length W.paths)) where
    by : (j : ℕ) → n ≤ j → (j < n + length W.paths) ⊎ (n + length W.paths ≤ j) → Among j (body_later W f d k q) ⊎ (region_at g.regions j ≡ region_at Z.regions j)
    by j high (inl low) = inl (later_has j high low)
    by j high (inr far) =
        let many = plan.count in
        let same = rest.paths in
        let gone : region_at d.regions j ≡ region_at e.regions j = get_or_past d.regions j no_region (omega (far, many, same, arith)) ∙ sym (get_or_past e.regions j no_region (omega (far, many, arith))) in
        inr (ap (λ rs. region_at rs j) is.regions ∙ (gone ∙ either_is (close.regions j) (λ t. absurd t.1)))
