-- Numbers for the parameters that are left, and where a run begins.
use Rattle.std.proofs.Common.{◌≡◌, ◌≢◌, ◌<◌, ◌+◌, ℕ, suc, refl, ap, ◌∙◌, List, [], ◌∷◌, length, drop, get_or, Bool, true, false, Option, None}
use Rattle.std.specs.Prelude.{ℤ, if◌then◌else◌}
use Rattle.std.proofs.lemmas.List.{drop_more}
use Rattle.pk_ctypes.specs.declared.places.Pos.{Pos}
use Rattle.pk_ctypes.specs.declared.types.IntType.{IntType}
use Rattle.pk_ctypes.specs.Types.{is_in_type}
use Rattle.pk_graph.specs.Steps.{Numbers}
use Rattle.pk_meaning.specs.Objects.{Objects, Scope, local, with_numbers}
use Rattle.pk_meaning.specs.Programs.{Program, block_of, body_scope}
use Rattle.pk_meaning.specs.Runs.{with_arguments, begins}
use Rattle.pk_meaning.specs.Work.{Work, Nobody}
use Rattle.pk_meaning.specs.Steps.{Config, place, body_work}

pub next_argument : (k i : ℕ) (ts : List IntType) (zs : Numbers) (t : IntType) (z : ℤ) (s : Objects) → i < length ts → i < length zs → is_in_type (get_or ts i t) (get_or zs i z) ≡ true →
    with_arguments k (drop i ts) (drop i zs) s ≡ with_arguments (k + 1) (drop (i + 1) ts) (drop (i + 1) zs) (with_numbers (local 0 k) (get_or zs i z ∷ []) s)
next_argument k i ts zs t z s l m e =
    ap (λ (us : List IntType). with_arguments k us (drop i zs) s) (drop_more ts i t l)
    ∙ (ap (λ (vs : Numbers). with_arguments k (get_or ts i t ∷ drop (i + 1) ts) vs s) (drop_more zs i z m)
    ∙ ap (λ (b : Bool). if b then with_arguments (k + 1) (drop (i + 1) ts) (drop (i + 1) zs) (with_numbers (local 0 k) (get_or zs i z ∷ []) s) else None) e)

none_either : (b : Bool) (o : Option Objects) → o ≡ None → (if b then o else None) ≡ None
none_either true o e = e
none_either false o e = refl

-- as many numbers as parameters, or no beginning
pub unlike : (i : ℕ) (ts : List IntType) (zs : Numbers) (s : Objects) → length ts ≢ length zs → with_arguments i ts zs s ≡ None
unlike i [] [] s h = absurd (h refl)
unlike i [] (z ∷ zs) s h = refl
unlike i (t ∷ ts) [] s h = refl
unlike i (t ∷ ts) (z ∷ zs) s h = none_either (is_in_type t z) (with_arguments (i + 1) ts zs (with_numbers (local 0 i) (z ∷ []) s)) (unlike (i + 1) ts zs (with_numbers (local 0 i) (z ∷ []) s) (λ e. h (ap suc e)))

abbrev begun_at : Pos → Scope → Work → Numbers → Objects → Config
begun_at at xs w vs o = record { path = 0; here = place at xs; work = w; values = vs; objects = o; is_visit = true }

pub begun : (p : Program) (at : Pos) (xs : Scope) (w : Work) (vs : Numbers) (o : Objects) → at ≡ (block_of p 0).opened → xs ≡ body_scope p 0 → w ≡ body_work p 0 Nobody → vs ≡ [] → begun_at at xs w vs o ≡ begins p o
begun p at xs w vs o e f g h =
    ap (λ (a : Pos). begun_at a xs w vs o) e ∙ (ap (λ (ys : Scope). begun_at (block_of p 0).opened ys w vs o) f
    ∙ (ap (λ (v : Work). begun_at (block_of p 0).opened (body_scope p 0) v vs o) g ∙ ap (λ (us : Numbers). begun_at (block_of p 0).opened (body_scope p 0) (body_work p 0 Nobody) us o) h))
