-- Accesses with their verdicts, one by one.
use Rattle.std.proofs.Common.{◌≡◌, ◌<◌, ◌≤◌, ◌+◌, ℕ, ap, ◌∙◌, sym, subst, List, ◌++◌, length, take, slice_index_or}
use Rattle.std.specs.List.{flat_map, zip}
use Rattle.std.proofs.lemmas.List.{length-map, get_or-map}
use Rattle.pk_graph.specs.declared.operations.Access.{Access}
use Rattle.pk_graph.specs.declared.verdicts.Verdict.{Verdict}
use Rattle.pk_graph.specs.Accesses.{AccessOf}
use Rattle.pk_graph.specs.AccessViews.{access_view, access_views}
use Rattle.pk_report.proofs.WriteLemmas.{zip_next, zip_end}

pub access_next : (f : AccessOf × Verdict → List ℕ) (xs : List Access) (vs : List Verdict) (k : ℕ) (a : Access) (v : Verdict) (old now new : List ℕ) → k < length xs → length xs ≡ length vs → a ≡ slice_index_or xs k a → v ≡ slice_index_or vs k v
    → now ≡ old ++ flat_map f (take k (zip (access_views xs) vs)) → new ≡ now ++ f (access_view a, v) → new ≡ old ++ flat_map f (take (k + 1) (zip (access_views xs) vs))
access_next f xs vs k a v old now new h s e g p q =
    zip_next f (access_views xs) vs k (access_view a) v old now new
    (subst (λ (n : ℕ). k < n) (sym (length-map xs access_view)) h) (length-map xs access_view ∙ s)
    (sym (get_or-map access_view xs k a (access_view a) h ∙ ap access_view (sym e)))
    g p q

pub access_end : (f : AccessOf × Verdict → List ℕ) (xs : List Access) (vs : List Verdict) (k : ℕ) (old now : List ℕ) → length xs ≤ k → length xs ≡ length vs
    → now ≡ old ++ flat_map f (take k (zip (access_views xs) vs)) → now ≡ old ++ flat_map f (zip (access_views xs) vs)
access_end f xs vs k old now h s p =
    zip_end f (access_views xs) vs k old now (subst (λ (n : ℕ). n ≤ k) (sym (length-map xs access_view)) h) (length-map xs access_view ∙ s) p
