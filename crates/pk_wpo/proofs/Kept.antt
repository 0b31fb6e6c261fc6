-- What is read of a layout.
use Rattle.std.proofs.Common.{◌≡◌, ℕ, ◌<◌, ◌≤◌, ◌+◌, ◌^◌, Bool, List, [], ◌∷◌, length, get_or, sym, subst, arith, ap, ◌∙◌, length-append, Option, None}
use Rattle.std.specs.List.{range_with_len}
use Rattle.std.proofs.lemmas.List.Sums.{length-filter, count_by-le-length}
use Rattle.std.proofs.lemmas.List.{get_or_default}
use Rattle.std.proofs.lemmas.List.FromFn.{length-range_with_len, get_or-map-range_with_len, length-map-range_with_len}
use Rattle.pk_plan.specs.Nests.{Holds}
use Rattle.pk_wpo.specs.Constraints.{is_head, exit_of}
use Rattle.pk_wpo.specs.Layouts.{homes_of, Laid, IsLaid, IsKept, IsHome, end_number, place_in}
use Rattle.pk_wpo.proofs.Placed.{elements_long, place_below}
use Rattle.pk_wpo.proofs.Counting.{as_many}
use Rattle.pk_wpo.proofs.Homes.{home_at, length-homes_of}

pub kept : (v l : Laid) (hs : List Bool) (es : List ℕ) (hm : List (Option ℕ)) → v ≡ l → IsKept v hs es hm → IsKept l hs es hm
kept v l hs es hm same k = subst (λ (x : Laid). IsKept x hs es hm) same k

-- there are as many places as elements, and END's number and one
pub places_long : (l : Laid) → IsLaid l → length l.places ≡ end_number l + 1
places_long l laid = let long = elements_long l laid in let many = as_many l laid.nest in laid.placed ∙ omega (arith, long, many)

pub place_in_range : (v l : Laid) (hs : List Bool) (es : List ℕ) (hm : List (Option ℕ)) (e : ℕ) → v ≡ l → IsKept v hs es hm → e ≤ end_number l → e < length v.places
place_in_range v l hs es hm e same k below =
    let long = places_long l (kept v l hs es hm same k).laid in
    let equal = ap (λ (x : Laid). length x.places) same in
    omega (arith, below, long, equal)

pub place_read : (v l : Laid) (hs : List Bool) (es : List ℕ) (hm : List (Option ℕ)) (e r : ℕ) → v ≡ l → IsKept v hs es hm → e ≤ end_number l → r ≡ get_or v.places e r → r ≡ place_in l e
place_read v l hs es hm e r same k below read =
    read ∙ get_or_default v.places e r 0 (place_in_range v l hs es hm e same k below) ∙ ap (λ (x : Laid). place_in x e) same

pub exit_in_range : (v l : Laid) (hs : List Bool) (es : List ℕ) (hm : List (Option ℕ)) (h : ℕ) → v ≡ l → IsKept v hs es hm → h ≤ length l.graph → h < length es
exit_in_range v l hs es hm h same k below =
    let long : length es ≡ length l.graph + 1 = ap (λ (xs : List ℕ). length xs) (kept v l hs es hm same k).exits ∙ length-map-range_with_len (exit_of l.graph l.items) 0 (length l.graph + 1) in
    omega (arith, below, long)

pub exit_read : (v l : Laid) (hs : List Bool) (es : List ℕ) (hm : List (Option ℕ)) (h r : ℕ) → v ≡ l → IsKept v hs es hm → h ≤ length l.graph → r ≡ get_or es h r → r ≡ exit_of l.graph l.items h
exit_read v l hs es hm h r same k below read =
    read ∙ ap (λ (xs : List ℕ). get_or xs h r) (kept v l hs es hm same k).exits ∙ get_or-map-range_with_len (exit_of l.graph l.items) 0 (length l.graph + 1) h h r (omega (arith, below)) (omega arith)

pub heads_long : (v l : Laid) (hs : List Bool) (es : List ℕ) (hm : List (Option ℕ)) → v ≡ l → IsKept v hs es hm → length hs ≡ length l.graph
heads_long v l hs es hm same k = ap (λ (xs : List Bool). length xs) (kept v l hs es hm same k).heads ∙ length-map-range_with_len (is_head l.items) 0 (length l.graph)

pub head_read : (v l : Laid) (hs : List Bool) (es : List ℕ) (hm : List (Option ℕ)) (h : ℕ) (r : Bool) → v ≡ l → IsKept v hs es hm → h < length l.graph → r ≡ get_or hs h r → r ≡ is_head l.items h
head_read v l hs es hm h r same k below read =
    read ∙ ap (λ (xs : List Bool). get_or xs h r) (kept v l hs es hm same k).heads ∙ get_or-map-range_with_len (is_head l.items) 0 (length l.graph) h h r below (omega arith)

pub home_in_range : (v l : Laid) (hs : List Bool) (es : List ℕ) (hm : List (Option ℕ)) (e place : ℕ) → v ≡ l → IsKept v hs es hm → e < end_number l → place ≡ place_in l e → place < length hm
home_in_range v l hs es hm e place same k below is =
    let laid = (kept v l hs es hm same k).laid in
    let small = place_below l e laid below in
    let long = ap (λ (xs : List (Option ℕ)). length xs) (kept v l hs es hm same k).homes in
    let joined = length-append (homes_of None l.items) (None ∷ []) in
    let homes = length-homes_of (exit_of l.graph l.items) None l.items in
    omega (arith, small, long, joined, homes, is)

pub home_read : (v l : Laid) (hs : List Bool) (es : List ℕ) (hm : List (Option ℕ)) (e place : ℕ) (r : Option ℕ) → v ≡ l → IsKept v hs es hm → e < end_number l → place ≡ place_in l e → r ≡ get_or hm place r → IsHome (Holds l.items) (exit_of l.graph l.items) e r
home_read v l hs es hm e place r same k below is read =
    let in_range = home_in_range v l hs es hm e place same k below is in
    let value : r ≡ get_or hm (place_in l e) None = read ∙ get_or_default hm place r None in_range ∙ ap (λ (n : ℕ). get_or hm n None) is in
    subst (λ (o : Option ℕ). IsHome (Holds l.items) (exit_of l.graph l.items) e o) (sym value) (home_at l hm e (kept v l hs es hm same k).laid (kept v l hs es hm same k).homes below)

-- END's number is small
pub end_small : (l : Laid) → IsLaid l → end_number l + 1 < 2 ^ 32
end_small l laid =
    let count = length-filter (is_head l.items) (range_with_len 0 (length l.graph)) in
    let few = count_by-le-length (is_head l.items) (range_with_len 0 (length l.graph)) in
    let long = length-range_with_len 0 (length l.graph) in
    omega (arith, count, few, long, laid.few)
