-- What holds line by line.
use Rattle.std.proofs.Common.{◌≡◌, ℕ, ◌+◌, ◌-◌, ◌<◌, ◌^◌, List, [], ◌∷◌, ◌++◌, length, map, refl, Bor, slice_index_or, Bool, false, Option, Some, None, IfSome, add-one, arith, below_more, ◌∙◌, sym, ap}
use Rattle.std.proofs.lemmas.List.{length-map, get_or-map, get_or_append_left, get_or-append_right}
use Rattle.std.proofs.lemmas.List.Sums.{fold_more}
use Rattle.pk_origin.specs.declared.sources.Origin.{Origin}
use Rattle.pk_origin.specs.Texts.{line_at, is_open_at, open_behind}
use Rattle.pk_origin.specs.Markers.{MarkerOf}
use Rattle.pk_origin.specs.Origins.{marker_at, marker_unless, origin_behind, first_origin, origin_of}

-- the lines behind references
abbrev pub shown : List (Bor (List ℕ)) → List (List ℕ)
shown lines = map (λ (line : Bor (List ℕ)). line.now) lines

line_shown : (lines : List (Bor (List ℕ))) (k : ℕ) (d : Bor (List ℕ)) → k < length lines →
    line_at (shown lines) k ≡ (slice_index_or lines k d).now
line_shown lines k d h = get_or-map (λ (line : Bor (List ℕ)). line.now) lines k d [] h

pub said_at : (lines : List (Bor (List ℕ))) (k : ℕ) (d : Bor (List ℕ)) (is_open : Bool) (m : Option MarkerOf) → k < length lines →
    is_open ≡ is_open_at (shown lines) k → m ≡ marker_unless is_open (slice_index_or lines k d).now → m ≡ marker_at (shown lines) k
said_at lines k d is_open m h same e =
    e ∙ ap (marker_unless is_open) (sym (line_shown lines k d h)) ∙ ap (λ (b : Bool). marker_unless b (line_at (shown lines) k)) same

pub open_more : (lines : List (Bor (List ℕ))) (k : ℕ) (d : Bor (List ℕ)) (is_open next : Bool) → k < length lines →
    is_open ≡ is_open_at (shown lines) k → next ≡ open_behind is_open (slice_index_or lines k d).now → next ≡ is_open_at (shown lines) (k + 1)
open_more lines k d is_open next h same e =
    e
    ∙ ap (open_behind is_open) (sym (line_shown lines k d h))
    ∙ ap (λ (b : Bool). open_behind b (line_at (shown lines) k)) same
    ∙ sym (fold_more open_behind false (shown lines) k [] (rw length-map h))

pub origin_more : (lines : List (List ℕ)) (k : ℕ) (m : Option MarkerOf) (before next : Origin) → m ≡ marker_at lines k → before ≡ origin_of lines k →
    next ≡ origin_behind k m before → next ≡ origin_of lines (k + 1)
origin_more lines k m before next said same e =
    rw add-one (e ∙ ap (λ (n : Option MarkerOf). origin_behind k n before) said ∙ ap (origin_behind k (marker_at lines k)) same)

pub small_behind : (k : ℕ) (m : Option MarkerOf) (before : Origin) → IfSome m (λ m. m.line < 2 ^ 31) → before.line < 2 ^ 31 + k + 1 →
    (origin_behind k m before).line < 2 ^ 31 + (k + 1) + 1
small_behind k None before h b = omega arith
small_behind k (Some m) before h b = omega arith

pub each_more : (lines : List (List ℕ)) (os : List Origin) (k : ℕ) (o : Origin) → length os ≡ k →
    ((j : ℕ) → j < k → slice_index_or os j first_origin ≡ origin_of lines j) → o ≡ origin_of lines k →
    (j : ℕ) → j < k + 1 → slice_index_or (os ++ o ∷ []) j first_origin ≡ origin_of lines j
each_more lines os k o size each same =
    below_more (λ (j : ℕ). slice_index_or (os ++ o ∷ []) j first_origin ≡ origin_of lines j) k
    (λ j h. get_or_append_left os (o ∷ []) first_origin j (omega arith) ∙ each j h)
    (get_or-append_right os (o ∷ []) k k first_origin size (omega arith) ∙ last (k - k) (omega arith) ∙ same)
  where
    last : (n : ℕ) → n ≡ 0 → slice_index_or (o ∷ []) n first_origin ≡ o
    last n e = rw e refl
