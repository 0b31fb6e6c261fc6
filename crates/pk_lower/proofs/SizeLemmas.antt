-- The sizes of parts.
use Rattle.std.proofs.Common.{◌≡◌, ◌+◌, ℕ, List, ◌∷◌, length, drop, sym, ◌∙◌, ap, replicate, arith}
use Rattle.std.specs.Prelude.{Option, Some, None, slice_get, slice_index_or}
use Rattle.std.proofs.lemmas.List.{length-map, drop_more, drop_all}
use Rattle.std.proofs.lemmas.Option.{get_or_from_slice_get, slice_get_within}
use Rattle.pk_ctypes.specs.declared.types.IntType.{IntType}
use Rattle.pk_typed.specs.declared.units.Unit as declared_unit
use Rattle.pk_typed.specs.Trees.{LocalTree, UnitTree}
use Rattle.pk_typed.specs.Views.{function_tree, unit_tree}
use Rattle.pk_calls.specs.declared.listings.CallPath.{CallPath}
use Rattle.pk_draft.specs.declared.drafts.Region.{Region}
use Rattle.pk_draft.specs.declared.drafts.Size.{Size}
use Rattle.pk_draft.specs.Drafts.{by_number, no_region, empty_draft, DraftOf}
use Rattle.pk_lower_row.specs.Contexts.{Context}
use Rattle.pk_lower.specs.Parts.{function_at, body_at, context, part, measured, with_size, sizes_of}

pub context_is : (u : UnitTree) (s : List (Option Size)) (k n f : ℕ) (ls : List LocalTree) (r : Option IntType) → ls ≡ (body_at u f).locals → r ≡ (function_at u f).returns
    → ◌≡◌ {A = Context} (record { unit = u; path = k; first = n; locals = ls; returns = r; sizes = s }) (context u s k n f)
context_is u s k n f ls r el er =
    ap (λ (xs : List LocalTree). let x : Context = record { unit = u; path = k; first = n; locals = xs; returns = r; sizes = s } in x) el
    ∙ ap (λ (o : Option IntType). let x : Context = record { unit = u; path = k; first = n; locals = (body_at u f).locals; returns = o; sizes = s } in x) er

pub measured_is : (u : UnitTree) (s : List (Option Size)) (f : ℕ) (k : Context) (r : Region) (d e : DraftOf ℕ) (p v : ℕ) → d ≡ empty_draft by_number → k ≡ context u s 0 0 f → r ≡ no_region → e ≡ part k f None r d → p ≡ e.points → v ≡ e.variables
    → ◌≡◌ {A = Size} (record { points = p; variables = v }) (measured u s f)
measured_is u s f k r d e p v ed ek er ee ep ev =
    let is : e ≡ part (context u s 0 0 f) f None no_region (empty_draft by_number) =
    ee
    ∙ ap (λ (x : Context). part x f None r d) ek
    ∙ ap (λ (x : Region). part (context u s 0 0 f) f None x d) er
    ∙ ap (λ (x : DraftOf ℕ). part (context u s 0 0 f) f None no_region x) ed in
    ap (λ (n : ℕ). let x : Size = record { points = n; variables = v } in x) ep
    ∙ ap (λ (n : ℕ). let x : Size = record { points = e.points; variables = n } in x) ev
    ∙ ap (λ (x : DraftOf ℕ). let y : Size = record { points = x.points; variables = x.variables } in y) is

-- ---- a function's size

pub size_known : (u : UnitTree) (f : ℕ) (s : List (Option Size)) (x : Size) → slice_index_or s f None ≡ Some x → s ≡ with_size u f (slice_index_or s f None) s
size_known u f s x e = ap (λ (o : Option Size). with_size u f o s) (sym e)

-- ---- all sizes

pub left_from : (ps : List CallPath) (k : ℕ) (p : CallPath) → slice_get ps k ≡ Some p → drop k ps ≡ p ∷ drop (k + 1) ps
left_from ps k p e = drop_more ps k p (slice_get_within ps k p e) ∙ ap (λ (q : CallPath). q ∷ drop (k + 1) ps) (get_or_from_slice_get ps k p p e)

pub no_sizes : (u : declared_unit.Unit) (ps : List CallPath) (n k : ℕ) (s : List (Option Size)) → n ≡ length u.functions.items → k ≡ length ps → s ≡ replicate n None → s ≡ sizes_of (unit_tree u) (drop k ps)
unfolding sizes_of unit_tree
no_sizes u ps n k s en ek es =
    es
    ∙ ap (λ (m : ℕ). replicate m None) (en ∙ sym (length-map u.functions.items function_tree))
    ∙ ap (λ (qs : List CallPath). sizes_of (unit_tree u) qs) (sym (drop_all k ps (omega arith)))

pub sizes_next : (u : UnitTree) (ps : List CallPath) (k : ℕ) (p : CallPath) (s t : List (Option Size)) → slice_get ps k ≡ Some p → s ≡ sizes_of u (drop (k + 1) ps) → t ≡ with_size u p.function (slice_index_or s p.function None) s
    → t ≡ sizes_of u (drop k ps)
unfolding sizes_of
sizes_next u ps k p s t e es et =
    et
    ∙ ap (λ (r : List (Option Size)). with_size u p.function (slice_index_or r p.function None) r) es
    ∙ ap (λ (qs : List CallPath). sizes_of u qs) (sym (left_from ps k p e))
