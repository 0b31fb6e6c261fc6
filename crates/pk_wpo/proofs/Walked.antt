-- The walk through the places of a nest gives its elements and their homes.
use Rattle.std.proofs.Common.{◌≡◌, ℕ, ◌-◌, subst, suc, drop, reverse, add-one, ◌<◌, ◌≤◌, ◌+◌, ◌==◌, ◌||◌, Bool, true, false, List, [], ◌∷◌, ◌++◌, inl, inr, length, get_or, map, take, sym, arith, ap, refl, ◌∙◌, append_assoc, append-nil, filter, cond, Option, Some, None, All}
use mathlib.Core.List.{reverse_aux}
use Rattle.std.specs.List.{range_with_len, slice_get}
use Rattle.std.proofs.Math.Seq.{drop-cons}
use Rattle.std.proofs.lemmas.List.{take_more, ext_get_or, reverse-append}
use Rattle.std.proofs.lemmas.List.FromFn.{length-map-range_with_len, get_or-map-range_with_len, take-map-range_with_len}
use Rattle.std.proofs.lemmas.List.Elements.{All-nil, All-cons, All-append}
use Rattle.pk_plan.specs.declared.nests.NestPlace.{NestPlace}
use Rattle.pk_plan.specs.declared.nests.NestPlace.TheVariants.{Vertex, Head, Exit}
use Rattle.pk_plan.specs.Nests.{Items, No_items, Vertex_first, Component_first, In}
use Rattle.pk_plan.specs.NestPlaces.{nest_places}
use Rattle.pk_wpo.specs.Constraints.{is_head, heads_below}
use Rattle.pk_wpo.specs.Layouts.{elements_of, homes_of}
use Rattle.pk_wpo.specs.Walks.{first_of, walk_elements, walk_homes, HeadBelow, is_head_at}

-- whether v is the head at some place
abbrev pub heads_seen : List NestPlace → ℕ → Bool
heads_seen [] v = false
heads_seen (p ∷ places) v = is_head_at v p || heads_seen places v

or_assoc : (a b c : Bool) → ((a || b) || c) ≡ (a || (b || c))
or_assoc true b c = refl
or_assoc false b c = refl

or_false : (a : Bool) → (a || false) ≡ a
or_false true = refl
or_false false = refl

pub heads_seen-append : (xs ys : List NestPlace) (v : ℕ) → heads_seen (xs ++ ys) v ≡ (heads_seen xs v || heads_seen ys v)
heads_seen-append [] ys v = refl
heads_seen-append (p ∷ xs) ys v = ap (λ (b : Bool). is_head_at v p || b) (heads_seen-append xs ys v) ∙ sym (or_assoc (is_head_at v p) (heads_seen xs v) (heads_seen ys v))

pub heads_seen-nest_places : (items : Items) (v : ℕ) → heads_seen (nest_places items) v ≡ is_head items v
heads_seen-nest_places No_items v = refl
heads_seen-nest_places (Vertex_first u more) v = heads_seen-nest_places more v
heads_seen-nest_places (Component_first head rest more) v =
    ap (λ (b : Bool). (v == head) || b)
    (heads_seen-append (nest_places rest) (Exit ∷ nest_places more) v
    ∙ ap (λ (b : Bool). b || heads_seen (nest_places more) v) (heads_seen-nest_places rest v)
    ∙ ap (λ (b : Bool). is_head rest v || b) (heads_seen-nest_places more v))

-- the walk through items, and what follows
pub walk_elements-items : (exit : ℕ → ℕ) (items : Items) (places : List NestPlace) (opened : List ℕ) → walk_elements exit (nest_places items ++ places) opened ≡ elements_of exit items ++ walk_elements exit places opened
walk_elements-items exit No_items places opened = refl
walk_elements-items exit (Vertex_first v more) places opened = ap (λ (xs : List ℕ). v ∷ xs) (walk_elements-items exit more places opened)
walk_elements-items exit (Component_first head rest more) places opened =
    ap (λ (ps : List NestPlace). head ∷ walk_elements exit ps (head ∷ opened)) (append_assoc (nest_places rest) (Exit ∷ nest_places more) places)
    ∙ ap (λ (xs : List ℕ). head ∷ xs) (walk_elements-items exit rest (Exit ∷ (nest_places more ++ places)) (head ∷ opened)
    ∙ ap (λ (xs : List ℕ). elements_of exit rest ++ exit head ∷ xs) (walk_elements-items exit more places opened)
    ∙ sym (append_assoc (elements_of exit rest) (exit head ∷ elements_of exit more) (walk_elements exit places opened)))

pub walk_homes-items : (items : Items) (places : List NestPlace) (opened : List ℕ) → walk_homes (nest_places items ++ places) opened ≡ homes_of (first_of opened) items ++ walk_homes places opened
walk_homes-items No_items places opened = refl
walk_homes-items (Vertex_first v more) places opened = ap (λ (xs : List (Option ℕ)). first_of opened ∷ xs) (walk_homes-items more places opened)
walk_homes-items (Component_first head rest more) places opened =
    ap (λ (ps : List NestPlace). first_of opened ∷ walk_homes ps (head ∷ opened)) (append_assoc (nest_places rest) (Exit ∷ nest_places more) places)
    ∙ ap (λ (xs : List (Option ℕ)). first_of opened ∷ xs) (walk_homes-items rest (Exit ∷ (nest_places more ++ places)) (head ∷ opened)
    ∙ ap (λ (xs : List (Option ℕ)). homes_of (Some head) rest ++ first_of opened ∷ xs) (walk_homes-items more places opened)
    ∙ sym (append_assoc (homes_of (Some head) rest) (first_of opened ∷ homes_of (first_of opened) more) (walk_homes places opened)))

pub walk_elements-all : (exit : ℕ → ℕ) (items : Items) → walk_elements exit (nest_places items) [] ≡ elements_of exit items
walk_elements-all exit items =
    ap (λ (ps : List NestPlace). walk_elements exit ps []) (sym (append-nil (nest_places items))) ∙ walk_elements-items exit items [] [] ∙ append-nil (elements_of exit items)

pub walk_homes-all : (items : Items) → walk_homes (nest_places items) [] ≡ homes_of None items
walk_homes-all items =
    ap (λ (ps : List NestPlace). walk_homes ps []) (sym (append-nil (nest_places items))) ∙ walk_homes-items items [] [] ∙ append-nil (homes_of None items)

-- the same exits, the same elements
pub elements_of-same : (exit other : ℕ → ℕ) (items : Items) → ((h : ℕ) → In items h → exit h ≡ other h) → elements_of exit items ≡ elements_of other items
elements_of-same exit other No_items same = refl
elements_of-same exit other (Vertex_first v more) same = ap (λ (xs : List ℕ). v ∷ xs) (elements_of-same exit other more (λ h i. same h (inr i)))
elements_of-same exit other (Component_first head rest more) same =
    ap (λ (xs : List ℕ). head ∷ (xs ++ (exit head ∷ elements_of exit more))) (elements_of-same exit other rest (λ h i. same h (inr (inl i))))
    ∙ ap (λ (x : ℕ). head ∷ (elements_of other rest ++ (x ∷ elements_of exit more))) (same head (inl refl))
    ∙ ap (λ (xs : List ℕ). head ∷ (elements_of other rest ++ (other head ∷ xs))) (elements_of-same exit other more (λ h i. same h (inr (inr i))))

-- the heads at the places are vertices of the items
heads_below-append : (n : ℕ) (xs ys : List NestPlace) → All (HeadBelow n) xs → All (HeadBelow n) ys → All (HeadBelow n) (xs ++ ys)
heads_below-append n xs ys a b = All-append (HeadBelow n) xs ys a b

pub places_below : (n : ℕ) (items : Items) → ((h : ℕ) → In items h → h < n) → All (HeadBelow n) (nest_places items)
places_below n No_items below = All-nil (HeadBelow n)
places_below n (Vertex_first v more) below = All-cons (HeadBelow n) (Vertex v) (nest_places more) tt (places_below n more (λ h i. below h (inr i)))
places_below n (Component_first head rest more) below =
    All-cons (HeadBelow n) (Head head) (nest_places rest ++ (Exit ∷ nest_places more)) (below head (inl refl))
    (heads_below-append n (nest_places rest) (Exit ∷ nest_places more) (places_below n rest (λ h i. below h (inr (inl i))))
    (All-cons (HeadBelow n) Exit (nest_places more) tt (places_below n more (λ h i. below h (inr (inr i))))))

-- what is marked, place by place
pub seen_more : (places : List NestPlace) (i v : ℕ) (d : NestPlace) → i < length places → heads_seen (take (i + 1) places) v ≡ (is_head_at v (get_or places i d) || heads_seen (take i places) v)
seen_more places i v d below =
    ap (λ (ps : List NestPlace). heads_seen ps v) (take_more places i d below)
    ∙ heads_seen-append (take i places) (get_or places i d ∷ []) v
    ∙ ap (λ (b : Bool). heads_seen (take i places) v || b) (or_false (is_head_at v (get_or places i d)))
    ∙ or_comm (heads_seen (take i places) v) (is_head_at v (get_or places i d))
  where
    or_comm : (a b : Bool) → (a || b) ≡ (b || a)
    or_comm true true = refl
    or_comm true false = refl
    or_comm false true = refl
    or_comm false false = refl

pub heads_all_seen : (items : Items) (heads : List Bool) (n : ℕ) → length heads ≡ n → ((v : ℕ) → v < n → get_or heads v false ≡ heads_seen (nest_places items) v) → heads ≡ map (is_head items) (range_with_len 0 n)
heads_all_seen items heads n long seen =
    ext_get_or false heads (map (is_head items) (range_with_len 0 n)) (long ∙ sym (length-map-range_with_len (is_head items) 0 n))
    (λ v below. seen v (omega (arith, below, long)) ∙ heads_seen-nest_places items v ∙ sym (get_or-map-range_with_len (is_head items) 0 n v v false (omega (arith, below, long)) (omega arith)))

-- the numbers of exits, by the tests of heads
filter_tests : (p : ℕ → Bool) (xs : List ℕ) → length (filter (λ (b : Bool). b) (map p xs)) ≡ length (filter p xs)
filter_tests p [] = refl
filter_tests p (x ∷ xs) = by_test (p x) (filter_tests p xs)
  where
    by_test : (t : Bool) → length (filter (λ (b : Bool). b) (map p xs)) ≡ length (filter p xs) → length (cond t (t ∷ filter (λ (b : Bool). b) (map p xs)) (filter (λ (b : Bool). b) (map p xs))) ≡ length (cond t (x ∷ filter p xs) (filter p xs))
    by_test true later = omega (arith, later)
    by_test false later = later

pub counted_heads : (items : Items) (n k : ℕ) → k ≤ n → length (filter (λ (b : Bool). b) (take k (map (is_head items) (range_with_len 0 n)))) ≡ length (heads_below items k)
counted_heads items n k below =
    ap (λ (bs : List Bool). length (filter (λ (b : Bool). b) bs)) (take-map-range_with_len (is_head items) 0 n k below)
    ∙ filter_tests (is_head items) (range_with_len 0 k)

-- a step of the walk: what stood at its place is taken over from the rest
pub taken_over : {A : Type 0} (done more new before rest whole : List A) → new ≡ done ++ more → before ≡ more ++ rest → done ++ before ≡ whole → new ++ rest ≡ whole
taken_over {A = A} done more new before rest whole is splits so_far =
    ap (λ (xs : List A). xs ++ rest) is ∙ append_assoc done more rest ∙ ap (λ (xs : List A). done ++ xs) (sym splits) ∙ so_far

-- the rest from a place on, by what stands there
pub rest_at : (places : List NestPlace) (i : ℕ) (d p : NestPlace) → i < length places → get_or places i d ≡ p → drop i places ≡ p ∷ drop (i + 1) places
rest_at places i d p inside is = rw add-one (drop-cons places i d inside ∙ ap (λ (q : NestPlace). q ∷ drop (suc i) places) is)

pub reverse_push : (opened : List ℕ) (h : ℕ) → reverse (opened ++ h ∷ []) ≡ h ∷ reverse opened
reverse_push opened h = reverse-append opened (h ∷ [])

pub head_at : (n : ℕ) (places : List NestPlace) (i : ℕ) (d : NestPlace) (h : ℕ) → All (HeadBelow n) places → i < length places → get_or places i d ≡ Head h → h < n
head_at n places i d h below inside is = subst (HeadBelow n) is (below i d inside)

-- the last of a list is the first of its reverse
last_onto : (xs : List ℕ) (x : ℕ) (after : List ℕ) → slice_get (x ∷ xs) (length xs) ≡ first_of (reverse_aux xs (x ∷ after))
last_onto [] x after = refl
last_onto (y ∷ ys) x after = last_onto ys y (x ∷ after)

pub last_get : (xs : List ℕ) → slice_get xs (length xs - 1) ≡ first_of (reverse xs)
last_get [] = refl
last_get (x ∷ xs) =
    let last : length (x ∷ xs) - 1 ≡ length xs = omega arith in
    ap (slice_get (x ∷ xs)) last ∙ last_onto xs x []
