-- A layout as it is made.
use Rattle.std.proofs.Common.{◌≡◌, ◌≢◌, ℕ, ◌<◌, ◌≤◌, ◌+◌, ◌^◌, Bool, List, [], ◌∷◌, ◌++◌, inl, inr, length, get_or, map, filter, take, sym, subst, arith, ap, ◌∙◌, length-append, Option, None, All}
use Rattle.std.specs.List.{range_with_len, AllPairs, slice_index}
use Rattle.std.proofs.lemmas.Bool.{cases_lt}
use Rattle.std.proofs.lemmas.List.{get_or_default, get_or_append_left, get_or_at, ext_get_or}
use Rattle.std.proofs.lemmas.List.Sums.{length-filter, count_by-le-length}
use Rattle.std.proofs.lemmas.List.FromFn.{length-range_with_len, length-map-range_with_len, get_or-map-range_with_len}
use Rattle.pk_plan.specs.Digraphs.{IsVertex}
use Rattle.pk_plan.specs.Nests.{Items, IsNest}
use Rattle.pk_plan.specs.NestPlaces.{nest_places}
use Rattle.pk_wpo.specs.Constraints.{is_head, exit_of}
use Rattle.pk_wpo.specs.Layouts.{elements_of, homes_of, Laid}
use Rattle.pk_wpo.specs.Walks.{walk_elements, walk_homes, HeadBelow}
use Rattle.pk_wpo.proofs.Sequences.{Different, member_at, different_join, different_at}
use Rattle.pk_wpo.proofs.Placed.{listed_below_of, listed_differ_of}
use Rattle.pk_wpo.proofs.Counting.{as_many}
use Rattle.pk_wpo.proofs.Walked.{counted_heads, walk_elements-all, walk_homes-all, elements_of-same, places_below}

-- a list by its parts, before the places are known
abbrev laid_before : List (List ℕ) → Items → List ℕ → Laid
laid_before g items elements = record { graph = g; items = items; elements = elements; places = [] }

pub heads_of_nest : (g : List (List ℕ)) (items : Items) (n : ℕ) → length g ≤ n → IsNest g (IsVertex g) items → All (HeadBelow n) (nest_places items)
heads_of_nest g items n is nest = places_below n items (λ h i. let below = nest.only h i in omega (arith, below, is))

pub tests_long : (g : List (List ℕ)) (items : Items) (n : ℕ) (hs : List Bool) → n ≡ length g → hs ≡ map (is_head items) (range_with_len 0 n) → length hs ≡ length g
tests_long g items n hs is are = ap (λ (xs : List Bool). length xs) are ∙ length-map-range_with_len (is_head items) 0 n ∙ is

pub exits_are : (g : List (List ℕ)) (items : Items) (n : ℕ) (hs : List Bool) (es : List ℕ) → n ≡ length g → hs ≡ map (is_head items) (range_with_len 0 n) → es ≡ map (λ k. length hs + length (filter (λ (b : Bool). b) (take k hs))) (range_with_len 0 (length hs + 1)) → es ≡ map (exit_of g items) (range_with_len 0 (length g + 1))
exits_are g items n hs es is heads numbers =
    let long = tests_long g items n hs is heads in
    let F : ℕ → ℕ = λ k. length hs + length (filter (λ (b : Bool). b) (take k hs)) in
    let one : length (map F (range_with_len 0 (length hs + 1))) ≡ length hs + 1 = length-map-range_with_len F 0 (length hs + 1) in
    let two : length (map (exit_of g items) (range_with_len 0 (length g + 1))) ≡ length g + 1 = length-map-range_with_len (exit_of g items) 0 (length g + 1) in
    numbers ∙ ext_get_or 0 (map F (range_with_len 0 (length hs + 1))) (map (exit_of g items) (range_with_len 0 (length g + 1))) (omega (arith, one, two, long))
    (λ k below.
    let inside : k < length g + 1 = omega (arith, below, one, long) in
    let count : length (filter (λ (b : Bool). b) (take k hs)) ≡ length (filter (is_head items) (range_with_len 0 k)) =
    ap (λ (xs : List Bool). length (filter (λ (b : Bool). b) (take k xs))) heads ∙ counted_heads items n k (omega (arith, inside, is)) in
    get_or-map-range_with_len F 0 (length hs + 1) k k 0 (omega (arith, below, one)) (omega arith)
    ∙ omega (arith, count, long)
    ∙ sym (get_or-map-range_with_len (exit_of g items) 0 (length g + 1) k k 0 inside (omega arith)))

pub exits_long : (g : List (List ℕ)) (items : Items) (es : List ℕ) → es ≡ map (exit_of g items) (range_with_len 0 (length g + 1)) → length es ≡ length g + 1
exits_long g items es are = ap (λ (xs : List ℕ). length xs) are ∙ length-map-range_with_len (exit_of g items) 0 (length g + 1)

exit_read : (g : List (List ℕ)) (items : Items) (es : List ℕ) (h d : ℕ) → es ≡ map (exit_of g items) (range_with_len 0 (length g + 1)) → h < length g + 1 → get_or es h d ≡ exit_of g items h
exit_read g items es h d are below = ap (λ (xs : List ℕ). get_or xs h d) are ∙ get_or-map-range_with_len (exit_of g items) 0 (length g + 1) h h d below (omega arith)

pub elements_are : (g : List (List ℕ)) (items : Items) (n last : ℕ) (es elements whole : List ℕ) → n ≡ length g → IsNest g (IsVertex g) items → es ≡ map (exit_of g items) (range_with_len 0 (length g + 1)) → elements ≡ walk_elements (slice_index es) (nest_places items) [] → last ≡ get_or es n last → whole ≡ elements ++ last ∷ [] → whole ≡ elements_of (exit_of g items) items ++ exit_of g items (length g) ∷ []
elements_are g items n last es elements whole is nest exits walked read joined =
    let same : elements ≡ elements_of (exit_of g items) items =
    walked ∙ walk_elements-all (slice_index es) items
    ∙ elements_of-same (slice_index es) (exit_of g items) items (λ h i. exit_read g items es h 0 exits (let below = nest.only h i in omega (arith, below))) in
    let end : last ≡ exit_of g items (length g) = read ∙ exit_read g items es n last exits (omega (arith, is)) ∙ ap (exit_of g items) is in
    joined ∙ ap (λ (xs : List ℕ). xs ++ last ∷ []) same ∙ ap (λ (x : ℕ). elements_of (exit_of g items) items ++ x ∷ []) end

pub homes_are : (items : Items) (homes whole : List (Option ℕ)) → homes ≡ walk_homes (nest_places items) [] → whole ≡ homes ++ None ∷ [] → whole ≡ homes_of None items ++ None ∷ []
homes_are items homes whole walked joined = joined ∙ ap (λ (xs : List (Option ℕ)). xs ++ None ∷ []) (walked ∙ walk_homes-all items)

pub whole_long : (g : List (List ℕ)) (items : Items) (whole : List ℕ) → IsNest g (IsVertex g) items → whole ≡ elements_of (exit_of g items) items ++ exit_of g items (length g) ∷ [] → length whole ≡ exit_of g items (length g) + 1
whole_long g items whole nest are =
    let long = ap (λ (xs : List ℕ). length xs) are in
    let joined = length-append (elements_of (exit_of g items) items) (exit_of g items (length g) ∷ []) in
    let many = as_many (laid_before g items whole) nest in
    omega (arith, long, joined, many)

pub whole_few : (g : List (List ℕ)) (items : Items) (whole : List ℕ) → length g < 2 ^ 31 → IsNest g (IsVertex g) items → whole ≡ elements_of (exit_of g items) items ++ exit_of g items (length g) ∷ [] → length whole < 2 ^ 32
whole_few g items whole few nest are =
    let long = whole_long g items whole nest are in
    let count = length-filter (is_head items) (range_with_len 0 (length g)) in
    let fewer = count_by-le-length (is_head items) (range_with_len 0 (length g)) in
    let ranged = length-range_with_len 0 (length g) in
    omega (arith, long, count, fewer, ranged, few)

pub whole_within : (g : List (List ℕ)) (items : Items) (whole : List ℕ) → IsNest g (IsVertex g) items → whole ≡ elements_of (exit_of g items) items ++ exit_of g items (length g) ∷ [] → All (λ e. e < length whole) whole
whole_within g items whole nest are k d below =
    let l = laid_before g items whole in
    let xs = elements_of (exit_of g items) items in
    let long = whole_long g items whole nest are in
    let many = as_many l nest in
    elim (cases_lt k (length xs)) [
      | inl less ↦
          let read : get_or whole k d ≡ get_or xs k 0 = ap (λ (ys : List ℕ). get_or ys k d) are ∙ get_or_append_left xs (exit_of g items (length g) ∷ []) d k less ∙ get_or_default xs k d 0 less in
          let small = listed_below_of l (get_or xs k 0) nest (member_at xs k less) in
          omega (arith, read, small, long)
      | inr more ↦
          let at : k ≡ length xs = omega (arith, below, long, many, more) in
          let read : get_or whole k d ≡ exit_of g items (length g) = ap (λ (ys : List ℕ). get_or ys k d) are ∙ get_or_at xs (exit_of g items (length g)) [] d k (sym at) in
          omega (arith, read, long)
    ]

pub whole_once : (g : List (List ℕ)) (items : Items) (whole : List ℕ) → IsNest g (IsVertex g) items → whole ≡ elements_of (exit_of g items) items ++ exit_of g items (length g) ∷ [] → AllPairs (λ a b. a ≢ b) whole
whole_once g items whole nest are i j d less below same =
    let l = laid_before g items whole in
    let xs = elements_of (exit_of g items) items in
    let apart : Different (xs ++ exit_of g items (length g) ∷ []) =
    different_join xs (exit_of g items (length g) ∷ []) (listed_differ_of l nest) ((λ m. m), tt)
    (λ a m n. elim n [ inl equal ↦ (let small = listed_below_of l a nest m in absurd (omega (arith, small, equal))) | inr none ↦ none ]) in
    let differ : Different whole = subst Different (sym are) apart in
    different_at whole i j differ less below (get_or_default whole i 0 d (omega (arith, less, below)) ∙ same ∙ get_or_default whole j d 0 below)
