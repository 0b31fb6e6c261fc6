-- Heads and lines, one behind the other.
use Rattle.std.specs.Prelude.{◌≡◌, ℕ, zero, suc, ◌+◌, ◌≤◌, List, [], ◌∷◌, ◌++◌, map, length, take, drop, All, slice_get, Option, Some, codes}
use Rattle.std.specs.Fmt.{decimal}
use Rattle.std.proofs.Common.{arith, refl, sym, ap, subst, ◌∙◌, append_assoc, take-append-drop, take-take}
use Rattle.std.proofs.lemmas.List.{length-append, append-nil, map-append}
use Rattle.std.proofs.lemmas.Option.{get_or_from_slice_get, slice_get_within}
use Rattle.pk_state.specs.Layouts.{Layout}
use Rattle.pk_state.specs.Facts.{Facts, Stated}
use Rattle.pk_phases.specs.declared.equations.Cell.{Cell}
use Rattle.pk_cert.specs.Rows.{Line, line_text, lines_text}
use Rattle.pk_cert.specs.Heads.{head_text}
use Rattle.pk_cert.specs.Pieces.{counted, lined}
use Rattle.pk_cert_cells.specs.Cells.{state_in, facts_in, head_of}

pub head_written : (old text entry : List ℕ) (oct : ℕ) → ((((old ++ codes "pikos-cert 1 ") ++ counted 32 (length text)) ++ counted 32 oct) ++ lined entry) ++ lined text ≡ old ++ head_text (head_of text oct entry)
head_written old text entry oct =
    let sized = counted 32 (length text) in
    append_assoc (((old ++ codes "pikos-cert 1 ") ++ counted 32 (length text)) ++ counted 32 oct) (lined entry) (lined text)
    ∙ append_assoc ((old ++ codes "pikos-cert 1 ") ++ counted 32 (length text)) (counted 32 oct) (lined entry ++ lined text)
    ∙ append_assoc (old ++ codes "pikos-cert 1 ") (counted 32 (length text)) (counted 32 oct ++ (lined entry ++ lined text))
    ∙ append_assoc old (codes "pikos-cert 1 ") (counted 32 (length text) ++ (counted 32 oct ++ (lined entry ++ lined text)))
    ∙ ap (λ (r : List ℕ). old ++ (codes "pikos-cert 1 " ++ r))
    (append_assoc (decimal (length text)) (32 ∷ []) (counted 32 oct ++ (lined entry ++ lined text))
    ∙ ap (λ (r : List ℕ). decimal (length text) ++ 32 ∷ r)
    (append_assoc (decimal oct) (32 ∷ []) (lined entry ++ lined text)
    ∙ ap (λ (r : List ℕ). decimal oct ++ 32 ∷ r) (append_assoc entry (10 ∷ []) (lined text))))

pub lines_joined : (a b : List Line) → lines_text (a ++ b) ≡ lines_text a ++ lines_text b
lines_joined [] b = refl
lines_joined (line ∷ a) b = ap (λ (r : List ℕ). line_text line ++ r) (lines_joined a b) ∙ sym (append_assoc (line_text line) (lines_text a) (lines_text b))

-- ---- one more cell

pub take_got : {A : Type 0} (xs : List A) (v : ℕ) (a : A) → slice_get xs v ≡ Some a → take (v + 1) xs ≡ take v xs ++ a ∷ []
take_got {A} xs v a e = let up : v + 1 ≡ suc v = omega arith in ap (λ (n : ℕ). take n xs) up ∙ by xs v e
  where
    by : (ys : List A) (k : ℕ) → slice_get ys k ≡ Some a → take (suc k) ys ≡ take k ys ++ a ∷ []
    by [] k e = absurd (cc)
    by (y ∷ ys) zero e = let same : y ≡ a = cc in ap (λ (z : A). z ∷ []) same
    by (y ∷ ys) (suc k) e = ap (λ (r : List A). y ∷ r) (by ys k e)

pub all_got : {A : Type 0} (P : A → Type 0) (xs : List A) (v : ℕ) (a : A) → All P xs → slice_get xs v ≡ Some a → P a
all_got P xs v a h e = subst P (get_or_from_slice_get xs v a a e) (h v a (slice_get_within xs v a e))

module _ (l : Layout) (line : Option Facts → Line) where
  facts_more : (cells : List (Cell Stated)) (v : ℕ) (c : Cell Stated) → slice_get cells v ≡ Some c → facts_in l (v + 1) cells ≡ facts_in l v cells ++ (state_in l c).facts ∷ []
  facts_more cells v c e =
      ap (λ (cs : List (Cell Stated)). map (λ (x : Cell Stated). (state_in l x).facts) cs) (take_got cells v c e) ∙ map-append (λ (x : Cell Stated). (state_in l x).facts) (take v cells) (c ∷ [])

  pub line_more : (before : List ℕ) (cells : List (Cell Stated)) (v : ℕ) (c : Cell Stated) → slice_get cells v ≡ Some c
      → (before ++ lines_text (map line (facts_in l v cells))) ++ line_text (line (state_in l c).facts) ≡ before ++ lines_text (map line (facts_in l (v + 1) cells))
  line_more before cells v c e =
      append_assoc before (lines_text (map line (facts_in l v cells))) (line_text (line (state_in l c).facts))
      ∙ ap (λ (r : List ℕ). before ++ r)
      (ap (λ (r : List ℕ). lines_text (map line (facts_in l v cells)) ++ r) (sym (append-nil (line_text (line (state_in l c).facts))))
      ∙ sym (lines_joined (map line (facts_in l v cells)) (line (state_in l c).facts ∷ []))
      ∙ ap lines_text (sym (map-append line (facts_in l v cells) ((state_in l c).facts ∷ [])))
      ∙ ap (λ (fs : List (Option Facts)). lines_text (map line fs)) (sym (facts_more cells v c e)))

  -- the lines of fewer points are no more bytes
  pub lines_fewer : (before : List ℕ) (cells : List (Cell Stated)) (v n : ℕ) → v ≤ n
      → length (before ++ lines_text (map line (facts_in l v cells))) ≤ length (before ++ lines_text (map line (facts_in l n cells)))
  lines_fewer before cells v n h =
      let facts = λ (x : Cell Stated). (state_in l x).facts in
      let parted : facts_in l n cells ≡ facts_in l v cells ++ map (λ (x : Cell Stated). (state_in l x).facts) (drop v (take n cells)) =
      ap (λ (cs : List (Cell Stated)). map (λ (x : Cell Stated). (state_in l x).facts) cs) (sym (take-append-drop v (take n cells)))
      ∙ map-append (λ (x : Cell Stated). (state_in l x).facts) (take v (take n cells)) (drop v (take n cells))
      ∙ ap (λ (cs : List (Cell Stated)). map (λ (x : Cell Stated). (state_in l x).facts) cs ++ map (λ (x : Cell Stated). (state_in l x).facts) (drop v (take n cells))) (take-take v n cells h) in
      let rest = map line (map (λ (x : Cell Stated). (state_in l x).facts) (drop v (take n cells))) in
      let whole : lines_text (map line (facts_in l n cells)) ≡ lines_text (map line (facts_in l v cells)) ++ lines_text rest =
      ap (λ (fs : List (Option Facts)). lines_text (map line fs)) parted
      ∙ ap lines_text (map-append line (facts_in l v cells) (map (λ (x : Cell Stated). (state_in l x).facts) (drop v (take n cells))))
      ∙ lines_joined (map line (facts_in l v cells)) rest in
      omega (arith, length-append before (lines_text (map line (facts_in l v cells))), length-append before (lines_text (map line (facts_in l n cells))), ap (length {A = ℕ}) whole, length-append (lines_text (map line (facts_in l v cells))) (lines_text rest))
