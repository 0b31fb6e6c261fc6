-- The paths of a listing, from each of which the calls lead to the next paths in order.
use Rattle.std.proofs.Common.{◌≡◌, ℕ, ◌+◌, zero, suc, ◌<◌, ◌≤◌, ◌⊎◌, inl, inr, List, [], ◌∷◌, ◌++◌, Option, Some, length, refl, ap, sym, ◌∙◌, arith, length-append, append_assoc}
use Rattle.std.proofs.lemmas.Option.{none-some}
use Rattle.std.specs.Prelude.{slice_get, unwrap_or}
use Rattle.std.specs.Option.{option_map, option_and_then}
use Rattle.pk_typed.specs.declared.units.CallSite.{CallSite}
use Rattle.pk_typed.specs.Trees.{BodyTree, UnitTree}
use Rattle.pk_calls.specs.declared.listings.CallPath.{CallPath}
use Rattle.pk_calls.specs.Calls.{calls_of}
use Rattle.pk_calls.specs.Paths.{entry_path, path_by, paths_by, longer, LeadsTo, IsListing}
use Rattle.pk_lower_laws.specs.Parts.Listed.{CallsLeadBehind, IsListed}
use Rattle.pk_welltyped.specs.WellTyped.{IsUnit}
use Rattle.pk_lower_laws.proofs.Drafts.Noted.{Bodied, bodied, body_is}
use Rattle.pk_lower_laws.proofs.Drafts.Plans.{World, PathIs}
use Rattle.pk_lower_laws.proofs.Drafts.Wholes.{Paths}

get_at : {A : Type 0} (xs ys : List A) (i : ℕ) → slice_get (xs ++ ys) (length xs + i) ≡ slice_get ys i
get_at [] ys i = let same : 0 + i ≡ i = omega arith in ap (slice_get ys) same
get_at (x ∷ xs) ys i = let same : length (x ∷ xs) + i ≡ suc (length xs + i) = omega arith in ap (slice_get (x ∷ xs ++ ys)) same ∙ get_at xs ys i

get_first : {A : Type 0} (xs ys : List A) (i : ℕ) (x : A) → slice_get xs i ≡ Some x → slice_get (xs ++ ys) i ≡ Some x
get_first [] ys i x h = absurd (none-some x h)
get_first (y ∷ xs) ys zero x h = h
get_first (y ∷ xs) ys (suc i) x h = get_first xs ys i x h

by_at : (k m : ℕ) (cs : List CallSite) (i : ℕ) (c : CallSite) → slice_get cs i ≡ Some c → slice_get (paths_by k m cs) i ≡ Some (path_by k (m + i) c.function)
by_at k m [] i c h = absurd (none-some c h)
by_at k m (d ∷ cs) zero c h = let at : m ≡ m + 0 = omega arith in ap (λ (o : Option CallSite). Some (path_by k m (unwrap_or o c).function)) h ∙ ap (λ (q : ℕ). Some (path_by k q c.function)) at
by_at k m (d ∷ cs) (suc i) c h = let at : m + 1 + i ≡ m + suc i = omega arith in by_at k (m + 1) cs i c h ∙ ap (λ (q : ℕ). Some (path_by k q c.function)) at

pub by_many : (k m : ℕ) (cs : List CallSite) → length (paths_by k m cs) ≡ length cs
by_many k m [] = refl
by_many k m (c ∷ cs) = ap suc (by_many k (m + 1) cs)

-- a path that a call of path k or of a later one leads to
abbrev pub Later : ℕ → CallPath → Type 0
Later k q = (i : ℕ) × (c : ℕ) × (q.caller ≡ Some (record { path = i; call = c })) × (k ≤ i)

by_later : (k m : ℕ) (cs : List CallSite) (i : ℕ) (q : CallPath) → slice_get (paths_by k m cs) i ≡ Some q → Later k q
by_later k m [] i q h = absurd (none-some q h)
by_later k m (c ∷ cs) zero q h = (k, m, ap (λ (o : Option CallPath). (unwrap_or o q).caller) (sym h), omega arith)
by_later k m (c ∷ cs) (suc i) q h = by_later k (m + 1) cs i q h

append_later : (k : ℕ) (xs ys : List CallPath) → ((i : ℕ) (q : CallPath) → slice_get xs i ≡ Some q → Later k q) → ((i : ℕ) (q : CallPath) → slice_get ys i ≡ Some q → Later k q) → (i : ℕ) (q : CallPath) → slice_get (xs ++ ys) i ≡ Some q → Later k q
append_later k [] ys f g i q h = g i q h
append_later k (x ∷ xs) ys f g zero q h = f zero q h
append_later k (x ∷ xs) ys f g (suc i) q h = append_later k xs ys (λ j r e. f (suc j) r e) g i q h

pub longer_later : (u : UnitTree) (k : ℕ) (ps : List CallPath) (i : ℕ) (q : CallPath) → slice_get (longer u k ps) i ≡ Some q → Later k q
longer_later u k [] i q h = absurd (none-some q h)
longer_later u k (p ∷ ps) i q h =
    append_later k (paths_by k 0 (calls_of u p.function)) (longer u (k + 1) ps) (by_later k 0 (calls_of u p.function)) (λ j r e. let l = longer_later u (k + 1) ps j r e in (l.0, l.1, l.2, omega (l.3, arith))) i q h

-- ---- each path's place

more_by : (n j : ℕ) → n ≤ j → (i : ℕ) × (j ≡ n + i)
more_by zero j h = (j, omega arith)
more_by (suc n) zero h = absurd (omega (h, arith))
more_by (suc n) (suc j) h = let r = more_by n j (omega (h, arith)) in (r.0, omega (r.1, arith))

split : (i l : ℕ) → (i < l) ⊎ (l ≤ i)
split i l = grind arith

listed_at : (ps : List CallPath) (k : ℕ) (p : CallPath) → slice_get ps k ≡ Some p → IsListed ps p.function
listed_at [] k p h = absurd (none-some p h)
listed_at (q ∷ ps) zero p h = inl (ap (λ (o : Option CallPath). (unwrap_or o p).function) (sym h))
listed_at (q ∷ ps) (suc k) p h = inr (listed_at ps k p h)

pub listed : (ps : List CallPath) (k : ℕ) (p : CallPath) → slice_get ps k ≡ Some p → IsListed ps p.function
listed ps k p h = listed_at ps k p h

same_calls : (u : UnitTree) (f : ℕ) (h : Bodied u f) → calls_of u f ≡ h.body.calls
unfolding calls_of
same_calls u f h = ap (λ (o : Option BodyTree). unwrap_or (option_map (λ (b : BodyTree). b.calls) o) []) h.body_of

-- behind the paths before n and those before k
paths_from : (W : World) → IsUnit W.unit → ((i c to : ℕ) → LeadsTo W.paths i c to → i < to) → (k n : ℕ) (done front ps : List CallPath) → length done ≡ k → length front ≡ n → W.paths ≡ done ++ ps → W.paths ≡ front ++ longer W.unit k ps
    → CallsLeadBehind W.unit ps → Paths W k n ps
paths_from W u behind k n done front [] d f a b l = sym (ap length b ∙ (length-append front [] ∙ omega (f, arith)))
paths_from W u behind k n done front (p ∷ ps) d f a b l =
    let cs = calls_of W.unit p.function in
    let has = bodied W.unit p.function l.0 in
    let here : slice_get W.paths k ≡ Some p = ap (λ (xs : List CallPath). slice_get xs k) a ∙ (ap (slice_get (done ++ p ∷ ps)) (omega (d, arith)) ∙ get_at done (p ∷ ps) 0) in
    let calls = same_calls W.unit p.function has in
    let below : k < n = elim (split k n) [
      | inl c ↦ c
      | inr c ↦ (let q = more_by n k c in
          let at : slice_get (longer W.unit k (p ∷ ps)) q.0 ≡ Some p = sym (get_at front (longer W.unit k (p ∷ ps)) q.0) ∙ (ap (slice_get (front ++ longer W.unit k (p ∷ ps))) (omega (f, q.1, arith)) ∙ (ap (λ (xs : List CallPath). slice_get xs k) (sym b) ∙ here)) in
          let r = longer_later W.unit k (p ∷ ps) q.0 p at in
          let leads : LeadsTo W.paths r.0 r.1 k = ap (option_and_then (λ (x : CallPath). x.caller)) here ∙ r.2 in
          absurd (omega (behind r.0 r.1 k leads, r.3, arith)))
    ] in
    let next : List CallPath = front ++ paths_by k 0 cs in
    let one : PathIs W k n p = record {
      path = here;
      function = has.function;
      body = has.body;
      there = has.there;
      has = has.has;
      is_body = body_is W.unit p.function has.function has.body u has.there has.has;
      below = below;
      leads = λ i c e.
          let noted : slice_get cs i ≡ Some c = ap (λ (xs : List CallSite). slice_get xs i) calls ∙ e in
          let at : slice_get (paths_by k 0 cs ++ longer W.unit (k + 1) ps) i ≡ Some (path_by k i c.function) = get_first (paths_by k 0 cs) (longer W.unit (k + 1) ps) i (path_by k i c.function) (by_at k 0 cs i c noted ∙ ap (λ (q : ℕ). Some (path_by k q c.function)) (omega arith)) in
          ap (λ (xs : List CallPath). slice_get xs (n + i)) b ∙ (ap (λ (q : ℕ). slice_get (front ++ longer W.unit k (p ∷ ps)) (q + i)) (sym f) ∙ (get_at front (longer W.unit k (p ∷ ps)) i ∙ at));
    } in (
      one,
      paths_from W u behind (k + 1) (n + length cs) (done ++ p ∷ []) next ps (length-append done (p ∷ []) ∙ omega (d, arith)) (length-append front (paths_by k 0 cs) ∙ omega (f, by_many k 0 cs, arith))
          (a ∙ sym (append_assoc done (p ∷ []) ps)) (b ∙ sym (append_assoc front (paths_by k 0 cs) (longer W.unit (k + 1) ps))) l.2,
    )

pub listing_paths : (W : World) (entry : ℕ) → IsUnit W.unit → IsListing W.unit entry W.paths → CallsLeadBehind W.unit W.paths → Paths W 0 1 W.paths
listing_paths W entry u l b = paths_from W u l.behind 0 1 [] (entry_path entry ∷ []) W.paths refl refl refl l.in_order b
