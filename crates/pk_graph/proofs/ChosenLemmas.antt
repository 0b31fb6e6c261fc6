-- Numbers of a type, one by one.
use Rattle.std.proofs.Common.{◌≡◌, ◌<◌, ◌≤◌, ◌+◌, ℕ, ap, ◌∙◌, sym, Bool, true, false, ◌&&◌, List, length, drop, slice_index_or}
use Rattle.std.specs.Prelude.{ℤ}
use Rattle.std.proofs.lemmas.List.{drop_more, drop_all}
use Rattle.pk_ctypes.specs.declared.types.IntType.{IntType}
use Rattle.pk_ctypes.specs.Types.{is_in_type}
use Rattle.pk_graph.specs.Steps.{all_in_type}

step : (t : IntType) (zs : List ℤ) (k : ℕ) (d : ℤ) (b : Bool) → k < length zs → is_in_type t (slice_index_or zs k d) ≡ b → all_in_type t (drop k zs) ≡ (b && all_in_type t (drop (k + 1) zs))
step t zs k d b h e = ap (all_in_type t) (drop_more zs k d h) ∙ ap (λ (c : Bool). c && all_in_type t (drop (k + 1) zs)) e

pub fit_next : (t : IntType) (zs : List ℤ) (k : ℕ) (d : ℤ) → k < length zs → is_in_type t (slice_index_or zs k d) ≡ true → all_in_type t (drop k zs) ≡ all_in_type t zs → all_in_type t (drop (k + 1) zs) ≡ all_in_type t zs
fit_next t zs k d h e f = sym (step t zs k d true h e) ∙ f

pub fit_not : (t : IntType) (zs : List ℤ) (k : ℕ) (d : ℤ) → k < length zs → is_in_type t (slice_index_or zs k d) ≡ false → all_in_type t (drop k zs) ≡ all_in_type t zs → false ≡ all_in_type t zs
fit_not t zs k d h e f = sym (step t zs k d false h e) ∙ f

pub fit_end : (t : IntType) (zs : List ℤ) (k : ℕ) → length zs ≤ k → all_in_type t (drop k zs) ≡ all_in_type t zs → true ≡ all_in_type t zs
fit_end t zs k h f = sym (ap (all_in_type t) (drop_all k zs h)) ∙ f
