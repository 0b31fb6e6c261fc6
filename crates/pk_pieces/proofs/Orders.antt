-- Pieces that are put in any order.
use Rattle.std.specs.Prelude.{◌≡◌, ℕ, zero, suc, ◌<◌, List, [], ◌∷◌, ◌++◌, length, map, replicate, slice_index_or, All, Option, None, Some}
use Rattle.std.specs.List.{range_with_len}
use Rattle.std.proofs.Common.{arith, inl, inr, refl, sym, ap, ◌∙◌}
use Rattle.std.proofs.lemmas.Bool.{cases_eq}
use Rattle.std.proofs.lemmas.List.{length-map, length-set, ext_get_or, get_or-map, get_or-set_other, length-replicate}
use Rattle.std.proofs.lemmas.Grind.{get_or-set_at}
use Rattle.std.proofs.lemmas.List.Elements.{All-head, All-tail}
use Rattle.std.proofs.lemmas.List.FromFn.{get_or-map-range_with_len, length-range_with_len}
use Rattle.pk_pieces.specs.Pieces.{PieceOf, nothing_of, put, put_each, found_in, AnyOrderIsPut}

pub found_some : (ps : List PieceOf) → found_in (map Some ps) ≡ ps
found_some [] = refl
found_some (p ∷ ps) = ap (λ (qs : List PieceOf). p ∷ qs) (found_some ps)

pub length_put : (places : List (Option PieceOf)) (ps : List PieceOf) → length (put_each places ps) ≡ length places
length_put places [] = refl
length_put places (p ∷ ps) = length-set (put_each places ps) p.point (Some p) ∙ length_put places ps

-- the last of them are put first
pub put_parts : (places : List (Option PieceOf)) (ps qs : List PieceOf) → put_each places (ps ++ qs) ≡ put_each (put_each places qs) ps
put_parts places [] qs = refl
put_parts places (p ∷ ps) qs = ap (λ (at : List (Option PieceOf)). put at p) (put_parts places ps qs)

module _ (piece : ℕ → PieceOf) (n : ℕ) where
  abbrev IsOne : PieceOf → Type 0
  IsOne p = (p.point < n) × (p ≡ piece p.point)

  -- the place of point v has its piece
  abbrev Has : ℕ → List (Option PieceOf) → Type 0
  Has v places = slice_index_or places v None ≡ Some (piece v)

  here : (v : ℕ) (p : PieceOf) (places : List (Option PieceOf)) → length places ≡ n → IsOne p → p.point ≡ v → Has v (put places p)
  here v p places many is e =
      get_or-set_at places p.point v (Some p) None (sym e) (omega (arith, is.0, many))
      ∙ ap Some (is.1 ∙ ap piece e)

  still : (v : ℕ) (p : PieceOf) (places : List (Option PieceOf)) → length places ≡ n → IsOne p → Has v places → Has v (put places p)
  still v p places many is has =
      elim (cases_eq p.point v) [
        | inl e ↦ here v p places many is e
        | inr ne ↦ get_or-set_other places p.point v (Some p) None (λ e. ne (sym e)) ∙ has
      ]

  kept : (v : ℕ) (ps : List PieceOf) (places : List (Option PieceOf)) → length places ≡ n → All IsOne ps → Has v places → Has v (put_each places ps)
  kept v [] places many are has = has
  kept v (p ∷ ps) places many are has =
      still v p (put_each places ps) (length_put places ps ∙ many) (All-head IsOne p ps are) (kept v ps places many (All-tail IsOne p ps are) has)

  found : (v k : ℕ) (ps : List PieceOf) (places : List (Option PieceOf)) → length places ≡ n → All IsOne ps → k < length ps → (slice_index_or ps k (nothing_of v)).point ≡ v → Has v (put_each places ps)
  found v k [] places many are l e = absurd (omega (arith, l))
  found v zero (p ∷ ps) places many are l e = here v p (put_each places ps) (length_put places ps ∙ many) (All-head IsOne p ps are) e
  found v (suc k) (p ∷ ps) places many are l e =
      still v p (put_each places ps) (length_put places ps ∙ many) (All-head IsOne p ps are)
      (found v k ps places many (All-tail IsOne p ps are) (omega (arith, l)) e)

pub any_order : AnyOrderIsPut
any_order piece n ps are =
    let many : length (put_each (replicate n None) ps) ≡ n = length_put (replicate n None) ps ∙ length-replicate n None in
    let all : List PieceOf = map piece (range_with_len 0 n) in
    let size : length all ≡ n = length-map (range_with_len 0 n) piece ∙ length-range_with_len 0 n in
    ap found_in (ext_get_or None (put_each (replicate n None) ps) (map Some all) (many ∙ sym (length-map all Some ∙ size))
    (λ v l.
    let below : v < n = omega (arith, l, many) in
    let at = are.all v below in
    found piece n v at.0 ps (replicate n None) (length-replicate n None) are.each at.1 at.2
    ∙ sym (get_or-map Some all v (nothing_of v) None (omega (arith, below, size)) ∙ ap Some (get_or-map-range_with_len piece 0 n v v (nothing_of v) below (omega arith)))))
    ∙ found_some all
