-- A call path is read back from its text.
use Rattle.std.proofs.Common.{◌≡◌, ℕ, ◌≤◌, ◌==◌, List, [], ◌∷◌, ◌++◌, map, refl, sym, ap, ◌∙◌, Bool, true, false, not, arith, Some, append_assoc, lit≤}
use Rattle.std.specs.Prelude.{codes, All}
use Rattle.std.specs.Fmt.{decimal}
use Rattle.std.specs.List.{flat_map}
use Rattle.std.specs.Char.{digit_value}
use Rattle.std.proofs.lemmas.Bool.{and_from, and_parts, eqb-true, eq-eqb}
use Rattle.std.proofs.lemmas.List.{append-nil}
use Rattle.std.proofs.lemmas.List.Elements.{All-head, All-tail, All-nil, All-cons}
use Rattle.std.proofs.lemmas.List.Folds.{list_all-append}
use Rattle.std.proofs.lemmas.List.Splits.{slice_split_none, slice_split_at}
use Rattle.pk_ctypes.specs.declared.places.Pos.{Pos}
use Rattle.pk_ctypes.specs.Places.{pos_text}
use Rattle.pk_lex.specs.Bytes.{is_part}
use Rattle.pk_show.specs.Pieces.{lacks}
use Rattle.pk_show.specs.Paths.{CallOf, PathOf, call_text, path_text, call_in, calls_in, parts_of, path_in}
use Rattle.pk_show.specs.Laws.{IsPlace, IsCall, IsPath}
use Rattle.pk_show.proofs.PieceLemmas.{cut_read, decimal_lacks}
use Rattle.pk_show.proofs.AccessLemmas.{place_read}
use Rattle.pk_show.proofs.LineLemmas.{name_lacks}

pub both_lack : (c : ℕ) (xs ys : List ℕ) → lacks c xs ≡ true → lacks c ys ≡ true → lacks c (xs ++ ys) ≡ true
both_lack c xs ys h k = list_all-append (λ (b : ℕ). not (c == b)) xs ys ∙ and_from (lacks c xs) (lacks c ys) h k

pub place_lacks : (c : ℕ) (at : Pos) → 10 ≤ digit_value c → lacks c (codes ":") ≡ true → IsPlace at → lacks c (pos_text at) ≡ true
place_lacks c at high colon h =
    both_lack c (decimal at.line ++ codes ":") (decimal at.column)
    (both_lack c (decimal at.line) (codes ":") (decimal_lacks c at.line high (let h' = h.line in omega arith)) colon)
    (decimal_lacks c at.column high (let h' = h.column in omega arith))

-- ---- what stands between the `>`

abbrev part_text : CallOf → List ℕ
part_text c = c.name ++ (codes "@" ++ pos_text c.at)

part_lacks : (c : ℕ) (call : CallOf) → is_part c ≡ false → 10 ≤ digit_value c → lacks c (codes "@") ≡ true → lacks c (codes ":") ≡ true →
    IsCall call → lacks c (part_text call) ≡ true
part_lacks c call apart high at colon h =
    both_lack c call.name (codes "@" ++ pos_text call.at) (name_lacks c call.name apart h.name)
    (both_lack c (codes "@") (pos_text call.at) at (place_lacks c call.at high colon h.at))

isnt : (c b : ℕ) (t : Bool) → t ≡ (b == c) → not (c == b) ≡ true → t ≡ false
isnt c b false e h = refl
isnt c b true e h =
    let equal : b ≡ c = eqb-true b c (sym e) in
    let turned : (c == b) ≡ true = eq-eqb c b (sym equal) in
    let g : not true ≡ true = rw turned at h in
    absurd (cc g)

pub none_of : (c : ℕ) (text : List ℕ) → lacks c text ≡ true → All (λ b. (b == c) ≡ false) text
none_of c [] h = All-nil (λ b. (b == c) ≡ false)
none_of c (b ∷ text) h =
    let both = and_parts (not (c == b)) (lacks c text) h in
    All-cons (λ b. (b == c) ≡ false) b text (isnt c b (b == c) refl both.0) (none_of c text both.1)

parts_are : (front : List ℕ) (calls : List CallOf) → lacks 62 front ≡ true → All IsCall calls →
    parts_of (front ++ flat_map call_text calls) ≡ front ∷ map part_text calls
parts_are front [] h all =
    ap parts_of (append-nil front) ∙ slice_split_none (λ b. b == 62) front (none_of 62 front h)
parts_are front (c ∷ calls) h all =
    let head = All-head IsCall c calls all in
    slice_split_at (λ b. b == 62) front 62 (part_text c ++ flat_map call_text calls) (none_of 62 front h) refl
    ∙ ap (λ (parts : List (List ℕ)). front ∷ parts)
    (parts_are (part_text c) calls (part_lacks 62 c refl (lit≤ tt) refl refl head) (All-tail IsCall c calls all))

-- ---- calls

call_read : (c : CallOf) → IsCall c → call_in (part_text c) ≡ Some c
unfolding call_in
call_read c h =
    rw (
      cut_read 64 [] c.name (pos_text c.at) (name_lacks 64 c.name refl h.name),
      append_assoc (decimal c.at.line) (codes ":") (decimal c.at.column),
      cut_read 58 [] (decimal c.at.line) (decimal c.at.column) (decimal_lacks 58 c.at.line (lit≤ tt) (let h' = h.at.line in omega arith)),
      h.name,
      place_read c.at h.at,
    )
    refl

calls_read : (calls : List CallOf) → All IsCall calls → calls_in (map part_text calls) ≡ Some calls
calls_read [] all = refl
calls_read (c ∷ calls) all =
    rw (call_read c (All-head IsCall c calls all), calls_read calls (All-tail IsCall c calls all)) refl

pub path_read : (p : PathOf) → IsPath p → path_in (path_text p) ≡ Some p
path_read p h =
    rw (parts_are p.entry p.calls (name_lacks 62 p.entry refl h.entry) h.calls, h.entry, calls_read p.calls h.calls) refl

calls_lack : (c : ℕ) (calls : List CallOf) → is_part c ≡ false → 10 ≤ digit_value c → lacks c (codes ">") ≡ true → lacks c (codes "@") ≡ true →
    lacks c (codes ":") ≡ true → All IsCall calls → lacks c (flat_map call_text calls) ≡ true
calls_lack c [] apart high front at colon all = refl
calls_lack c (call ∷ calls) apart high front at colon all =
    both_lack c (call_text call) (flat_map call_text calls)
    (both_lack c (codes ">") (part_text call) front (part_lacks c call apart high at colon (All-head IsCall call calls all)))
    (calls_lack c calls apart high front at colon (All-tail IsCall call calls all))

-- a byte that stands in apart part of a path
pub path_lacks : (c : ℕ) (p : PathOf) → is_part c ≡ false → 10 ≤ digit_value c → lacks c (codes ">") ≡ true → lacks c (codes "@") ≡ true →
    lacks c (codes ":") ≡ true → IsPath p → lacks c (path_text p) ≡ true
path_lacks c p apart high front at colon h =
    both_lack c p.entry (flat_map call_text p.calls) (name_lacks c p.entry apart h.entry)
    (calls_lack c p.calls apart high front at colon h.calls)
