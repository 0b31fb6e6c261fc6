-- What the part of one path adds: labels outside its region stay, and so do regions but those of its calls, which lie in it.
use Rattle.std.proofs.Common.{◌≡◌, ℕ, ◌+◌, ◌<◌, ◌≤◌, ◌⊎◌, inl, inr, Option, Some, length, false, refl, ap, sym, subst, ◌∙◌, arith}
use Rattle.std.proofs.lemmas.Option.{get_or_from_slice_get, slice_get_within}
use Rattle.std.specs.Prelude.{slice_get}
use Rattle.pk_calls.specs.declared.listings.Caller.{Caller}
use Rattle.pk_calls.specs.declared.listings.CallPath.{CallPath}
use Rattle.pk_calls.specs.Calls as calls
use Rattle.pk_calls.specs.Paths.{entry_path, path_by}
use Rattle.pk_welltyped.specs.Listed.{calls_in_items}
use Rattle.pk_welltyped.specs.WellTyped.{Around, Marks}
use Rattle.pk_draft.specs.declared.drafts.Region.{Region}
use Rattle.pk_draft.specs.declared.drafts.Size.{Size}
use Rattle.pk_graph.specs.Trees.{Skip}
use Rattle.pk_draft.specs.Drafts.{DraftOf, on, standing, go}
use Rattle.pk_lower_row.specs.Contexts.{Context, size_in}
use Rattle.pk_lower.specs.Parts as part
use Rattle.pk_lower_statement.specs.Statements.{lowered_items}
use Rattle.pk_lower_laws.proofs.Parts.Measures.{parts_fill_regions}
use Rattle.pk_lower_laws.proofs.Drafts.Plans.{World, Draft, sizes, size_of, function_of, Lasting, PathIs, function_is, its_function, its_body}
use Rattle.pk_visits.proofs.Slots.{Slot, Edge, Extends, Takes, Among, label_at, region_at}
use Rattle.pk_visits.proofs.Stands.{IsCalled}
use Rattle.pk_visits.proofs.Stages.{all_called}
use Rattle.pk_visits.proofs.Grows.Statements.{Enlarges, Free}
use Rattle.pk_visits.proofs.Grows.Parts.{entry_marks, first_of, opened_of, part_enlarges}
use Rattle.pk_visits.proofs.Numbered.Names.{names_by, draft_by}
use Rattle.pk_visits.proofs.Numbered.Parts.{part_by}
use Rattle.pk_visits_laws.proofs.Followed.Paths.{numbered_at}

-- in which context path k is lowered
abbrev pub context_at : World → (k n : ℕ) → CallPath → Context
context_at W k n p = part.context W.unit (sizes W) k n p.function

-- path k's part, from the draft before it
abbrev pub part_at : (W : World) → (k n : ℕ) → CallPath → Draft W → Draft W
part_at W k n p d = part.part (context_at W k n p) p.function p.caller (region_at d.regions k) d

-- the part of a function with a body
pub body_part : {V : Type 0} (W : World) (k n : ℕ) (p : CallPath) (h : PathIs W k n p) (from : Option Caller) (r : Region) (d : DraftOf V) → part.part (context_at W k n p) p.function from r d ≡ part.part_of (context_at W k n p) h.function (Some h.body) from r d
unfolding part.part
body_part W k n p h from r d =
    let c = context_at W k n p in
    ap (λ (g : _). part.part_of c g (calls.body_of W.unit p.function) from r d) (its_function W.unit p.function h.function h.there)
    ∙ ap (λ (o : _). part.part_of c h.function o from r d) (its_body W.unit p.function h.function h.body h.there h.has)

-- its growth, over slots
part_grows : (W : World) (f : W.table.Variable → Slot) (k n : ℕ) (p : CallPath) (h : PathIs W k n p) (d : Draft W)
    → Enlarges (entry_marks p.caller (region_at d.regions k)) Free (IsCalled (context_at W k n p) (calls_in_items h.body.items)) (first_of (context_at W k n p) h.body (region_at d.regions k) (draft_by f d)) (draft_by f (part_at W k n p d))
part_grows W f k n p h d =
    let c = context_at W k n p in
    let r = region_at d.regions k in
    let C = IsCalled c (calls_in_items h.body.items) in
    let D = draft_by f d in
    let a : Around = record { unit = W.unit; locals = h.body.locals; objects = length h.function.parameters } in
    let m : Marks = record { labels = h.body.labels; returns = h.function.returns; cases = 0; has_default = false } in
    subst (Enlarges (entry_marks p.caller r) Free C (first_of c h.body r D)) (sym (body_part W k n p h p.caller r D) ∙ part_by W.table.Variable Slot f c p.function p.caller r d)
    (part_enlarges C c h.function h.body p.caller r a m D h.is_body.items refl refl refl (all_called c (calls_in_items h.body.items)))

-- the drafts over slots in which path k's body begins and ends, and the number of its exit
abbrev pub body_begun : (W : World) → (f : W.table.Variable → Slot) → (k n : ℕ) (p : CallPath) → PathIs W k n p → Draft W → DraftOf Slot
body_begun W f k n p h d = opened_of (context_at W k n p) h.function h.body p.caller (region_at d.regions k) (draft_by f d)

abbrev pub body_exit : (W : World) → (f : W.table.Variable → Slot) → (k n : ℕ) (p : CallPath) → PathIs W k n p → Draft W → ℕ
body_exit W f k n p h d = (part.placed_entry p.caller (part.begun (context_at W k n p) h.function h.body p.caller (region_at d.regions k) (draft_by f d))).points

abbrev pub body_ended : (W : World) → (f : W.table.Variable → Slot) → (k n : ℕ) (p : CallPath) → PathIs W k n p → Draft W → DraftOf Slot
body_ended W f k n p h d = lowered_items (context_at W k n p) h.body.items (part.start_exits (body_exit W f k n p h d)) (body_begun W f k n p h d)

-- and what closes it
abbrev pub body_closed : (W : World) → (f : W.table.Variable → Slot) → (k n : ℕ) (p : CallPath) → PathIs W k n p → Draft W → DraftOf Slot
body_closed W f k n p h d =
    go Skip (body_exit W f k n p h d)
    (part.ended (context_at W k n p) h.function.name h.function.returns (on h.body.closed (standing (part.placed_entry p.caller (part.begun (context_at W k n p) h.function h.body p.caller (region_at d.regions k) (draft_by f d))).here (body_ended W f k n p h d))))

pub closed_is : (W : World) (f : W.table.Variable → Slot) (k n : ℕ) (p : CallPath) (h : PathIs W k n p) (d : Draft W) → body_closed W f k n p h d ≡ draft_by f (part_at W k n p d)
unfolding part.body_draft
closed_is W f k n p h d =
    let r = region_at d.regions k in
    sym (body_part W k n p h p.caller r (draft_by f d)) ∙ part_by W.table.Variable Slot f (context_at W k n p) p.function p.caller r d

-- a path that is called is one from n on, of the size of the function that is called
pub called_size : (W : World) (k n : ℕ) (p : CallPath) (h : PathIs W k n p) (j : ℕ) (s : Size) → IsCalled (context_at W k n p) (calls_in_items h.body.items) j s → (n ≤ j) × (s ≡ size_of W j)
called_size W k n p h j s (z, a, e, is) =
    let r = numbered_at 0 h.body.calls z (subst (Among z) h.is_body.calls a) in
    let at = r.1 in
    let there : slice_get W.paths (n + r.0) ≡ Some (path_by k r.0 z.call.function) = h.leads r.0 z.call r.2 in
    let same : n + r.0 ≡ j = omega (e, at, arith) in
    let function : function_of W j ≡ z.call.function =
    ap (function_of W) (sym same) ∙ ap (λ (q : CallPath). q.function) (get_or_from_slice_get W.paths (n + r.0) (path_by k r.0 z.call.function) (entry_path 0) there) in
    (omega (e, arith), is ∙ ap (size_in (sizes W)) (sym function))

-- and one of the list
pub called_within : (W : World) (k n : ℕ) (p : CallPath) (h : PathIs W k n p) (j : ℕ) (s : Size) → IsCalled (context_at W k n p) (calls_in_items h.body.items) j s → j < length W.paths
called_within W k n p h j s (z, a, e, is) =
    let r = numbered_at 0 h.body.calls z (subst (Among z) h.is_body.calls a) in
    let at = r.1 in
    let within = slice_get_within W.paths (n + r.0) (path_by k r.0 z.call.function) (h.leads r.0 z.call r.2) in
    omega (e, at, within, arith)

-- it ends where its region does
pub part_ends : (W : World) → Lasting W → (k n : ℕ) (p : CallPath) (h : PathIs W k n p) (d : Draft W) → (part_at W k n p d).points ≡ (region_at d.regions k).points + (size_of W k).points
part_ends W l k n p h d =
    let law = parts_fill_regions W.table.Variable in
    law.points W.unit W.paths k n p.function p.caller (region_at d.regions k) d l.behind (l.listed k p h.path)
    ∙ ap (λ (g : ℕ). (region_at d.regions k).points + (size_in (sizes W) g).points) (sym (function_is W k p h.path))

-- what the part adds to the draft d, where variables have slots by f
pub record PartAdds (W : World) (f : W.table.Variable → Slot) (k n : ℕ) (p : CallPath) (d e : Draft W) : Type 0 where
  pub names : names_by f e.names ≡ names_by f d.names
  pub edges : (x : Edge) → Among x (draft_by f d).edges → Among x (draft_by f e).edges
  pub scopes : Extends d.scopes e.scopes
  pub size : length e.labels ≡ length d.labels
  pub paths : length e.regions ≡ length d.regions
  pub labels : (q : ℕ) → (q < (region_at d.regions k).points) ⊎ ((region_at d.regions k).points + (size_of W k).points ≤ q) → Among q (entry_marks p.caller (region_at d.regions k)) ⊎ (label_at e.labels q ≡ label_at d.labels q)
  pub regions : (j : ℕ) → ((n ≤ j) × ((region_at d.regions k).points ≤ (region_at e.regions j).points) × ((region_at e.regions j).points + (size_of W j).points ≤ (region_at d.regions k).points + (size_of W k).points))
      ⊎ (region_at e.regions j ≡ region_at d.regions j)

pub part_adds : (W : World) → Lasting W → (f : W.table.Variable → Slot) (k n : ℕ) (p : CallPath) (h : PathIs W k n p) (d : Draft W) → PartAdds W f k n p d (part_at W k n p d)
part_adds W l f k n p h d =
    let a = part_grows W f k n p h d in
    record {
      names = a.names;
      edges = a.edges;
      scopes = a.scopes;
      size = a.size;
      paths = a.paths;
      labels = λ q o. outside q o;
      regions = λ j. taken j (region_at e.regions j) (region_at d.regions j) (called_size W k n p h j) (a.regions j);
    }
  where
    r : Region
    r = region_at d.regions k

    e : Draft W
    e = part_at W k n p d

    ends : e.points ≡ r.points + (size_of W k).points
    ends = part_ends W l k n p h d

    outside : (q : ℕ) → (q < r.points) ⊎ (r.points + (size_of W k).points ≤ q) → Among q (entry_marks p.caller r) ⊎ (label_at e.labels q ≡ label_at d.labels q)
    outside q (inl o) = (part_grows W f k n p h d).labels q o
    outside q (inr o) = (part_grows W f k n p h d).beyond q (omega (o, ends, arith))

    taken : {C : Size → Type 0} {v w : ℕ} (j : ℕ) (t o : Region) → ((s : Size) → C s → (n ≤ j) × (s ≡ size_of W j)) → Takes C r.points e.points v w t ⊎ (t ≡ o)
        → ((n ≤ j) × (r.points ≤ t.points) × (t.points + (size_of W j).points ≤ r.points + (size_of W k).points)) ⊎ (t ≡ o)
    taken j t o is (inl (s, c, from, to, x, y)) = let z = is s c in let same = ap (λ (s : Size). s.points) z.1 in inl (z.0, from, omega (to, same, ends, arith))
    taken j t o is (inr m) = inr m
