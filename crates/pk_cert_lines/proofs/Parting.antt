-- Texts in parts, one behind the other.
use Rattle.std.specs.Prelude.{◌≡◌, ◌⊎◌, ℕ, zero, suc, ◌+◌, ◌-◌, ◌<◌, List, [], ◌∷◌, ◌++◌, length, take, drop, sum, slice_index, slice_index_or, slice_set}
use Rattle.std.specs.List.{concat}
use Rattle.std.proofs.Common.{arith, refl, sym, ap, ◌∙◌, inl, inr, append_assoc, zero-add, take_at, drop_at, take-add, drop-drop, take-suc, ext_get_or}
use Rattle.std.proofs.lemmas.Bool.{cases_eq}
use Rattle.std.proofs.lemmas.Grind.{get_or-set_at}
use Rattle.std.proofs.lemmas.List.{length-append, length-map, length-set, map-append, map-set, append-nil, get_or-map, get_or-set_other, set-append_left, set-append_right}
use Rattle.std.proofs.lemmas.List.Folds.{concat-append}
use Rattle.std.proofs.lemmas.List.Sums.{sum_by-cons}
use Rattle.pk_ctypes.specs.declared.types.IntType.TheVariants.{Int}
use Rattle.pk_value.specs.Known.{Known, any_of}
use Rattle.pk_octagons.specs.Values.{known_at}
use Rattle.pk_state.specs.Facts.{Facts}
use Rattle.pk_cert_states.specs.Lines.{own_octagon, four_of, fours_at, symbols_in}
use Rattle.pk_cert_states.specs.Parts.{slot_at, IsOrder}
use Rattle.pk_cert_lines.specs.Symbols.{spaced}
use Rattle.pk_cert_lines.specs.Told.{texts_at, parts_in, sizes_of, AreParts}
use Rattle.pk_cert_lines.proofs.Spacing.{spaced_joined}

-- ---- parts

pub parts_none : AreParts [] [] []
parts_none = record { joined = refl; counted = refl }

pub parts_push : (parts : List (List ℕ)) (bytes sizes part : List ℕ) → AreParts parts bytes sizes → AreParts (parts ++ part ∷ []) (bytes ++ part) (sizes ++ length part ∷ [])
parts_push parts bytes sizes part h = record {
  joined = ap (λ (r : List ℕ). r ++ part) h.joined ∙ ap (λ (r : List ℕ). concat parts ++ r) (sym (append-nil part)) ∙ sym (concat-append parts (part ∷ []));
  counted = ap (λ (r : List ℕ). r ++ length part ∷ []) h.counted ∙ sym (map-append (λ (p : List ℕ). length p) parts (part ∷ []));
}

-- the sizes make up the whole
sizes_whole : (parts : List (List ℕ)) → length (concat parts) ≡ sum (sizes_of parts)
sizes_whole [] = refl
sizes_whole (p ∷ ps) = length-append p (concat ps) ∙ ap (λ (n : ℕ). length p + n) (sizes_whole ps) ∙ sym (sum_by-cons (λ (n : ℕ). n) (length p) (sizes_of ps))

pub parts_whole : (parts : List (List ℕ)) (bytes sizes : List ℕ) → AreParts parts bytes sizes → length bytes ≡ sum sizes
parts_whole parts bytes sizes h = ap (λ (r : List ℕ). length r) h.joined ∙ sizes_whole parts ∙ ap (λ (r : List ℕ). sum r) (sym h.counted)

pub parts_count : (parts : List (List ℕ)) (bytes sizes : List ℕ) → AreParts parts bytes sizes → length sizes ≡ length parts
parts_count parts bytes sizes h = ap (λ (r : List ℕ). length r) h.counted ∙ length-map parts (λ (p : List ℕ). length p)

take_past : (q c : List ℕ) (n : ℕ) → take (length q + n) (q ++ c) ≡ q ++ take n c
take_past q c n = take-add (length q) n (q ++ c) ∙ ap (λ (r : List ℕ). r ++ take n (drop (length q) (q ++ c))) (take_at q c (length q) refl) ∙ ap (λ (r : List ℕ). q ++ take n r) (drop_at q c (length q) refl)

drop_past : (q c : List ℕ) (n : ℕ) → drop (length q + n) (q ++ c) ≡ drop n c
drop_past q c n = sym (drop-drop n (length q) (q ++ c)) ∙ ap (λ (r : List ℕ). drop n r) (drop_at q c (length q) refl)

-- the text before a part, another part, and the text behind it
put_joined : (parts : List (List ℕ)) (p : ℕ) (part : List ℕ) → p < length parts
    → concat (slice_set parts p part) ≡ take (sum (take p (sizes_of parts))) (concat parts) ++ (part ++ drop (sum (take p (sizes_of parts)) + slice_index (sizes_of parts) p) (concat parts))
put_joined [] p part h = absurd (omega (arith, h))
put_joined (q ∷ ps) zero part h =
    let past : drop (0 + length q) (q ++ concat ps) ≡ concat ps = ap (λ (n : ℕ). drop n (q ++ concat ps)) (zero-add (length q)) ∙ drop_at q (concat ps) (length q) refl in
    ap (λ (r : List ℕ). part ++ r) (sym past)
put_joined (q ∷ ps) (suc p) part h =
    let before : sum (length q ∷ take p (sizes_of ps)) ≡ length q + sum (take p (sizes_of ps)) = sum_by-cons (λ (k : ℕ). k) (length q) (take p (sizes_of ps)) in
    let both : sum (length q ∷ take p (sizes_of ps)) + slice_index (sizes_of ps) p ≡ length q + (sum (take p (sizes_of ps)) + slice_index (sizes_of ps) p) = omega (arith, before) in
    ap (λ (r : List ℕ). q ++ r) (put_joined ps p part (omega (arith, h)))
    ∙ sym (append_assoc q (take (sum (take p (sizes_of ps))) (concat ps)) (part ++ drop (sum (take p (sizes_of ps)) + slice_index (sizes_of ps) p) (concat ps)))
    ∙ ap (λ (r : List ℕ). r ++ (part ++ drop (sum (take p (sizes_of ps)) + slice_index (sizes_of ps) p) (concat ps)))
    (sym (ap (λ (k : ℕ). take k (q ++ concat ps)) before ∙ take_past q (concat ps) (sum (take p (sizes_of ps)))))
    ∙ ap (λ (r : List ℕ). take (sum (length q ∷ take p (sizes_of ps))) (q ++ concat ps) ++ (part ++ r))
    (sym (ap (λ (k : ℕ). drop k (q ++ concat ps)) both ∙ drop_past q (concat ps) (sum (take p (sizes_of ps)) + slice_index (sizes_of ps) p)))

pub parts_put : (parts : List (List ℕ)) (bytes sizes : List ℕ) (p : ℕ) (part : List ℕ) → AreParts parts bytes sizes → p < length parts
    → AreParts (slice_set parts p part) (take (sum (take p sizes)) bytes ++ (part ++ drop (sum (take p sizes) + slice_index sizes p) bytes)) (slice_set sizes p (length part))
parts_put parts bytes sizes p part h there = record {
  joined = sym (
      put_joined parts p part there
      ∙ ap (λ (b : List ℕ). take (sum (take p (sizes_of parts))) b ++ (part ++ drop (sum (take p (sizes_of parts)) + slice_index (sizes_of parts) p) b)) (sym h.joined)
      ∙ ap (λ (s : List ℕ). take (sum (take p s)) bytes ++ (part ++ drop (sum (take p s) + slice_index s p) bytes)) (sym h.counted));
  counted = ap (λ (s : List ℕ). slice_set s p (length part)) h.counted ∙ sym (map-set (λ (q : List ℕ). length q) parts p part);
}

-- ---- the parts of a state's text

pub texts_length : (slots : List ℕ) (vs : List Known) → length (texts_at slots vs) ≡ length slots
texts_length slots vs = length-map slots (λ j. spaced (four_of (known_at vs j)))

-- one more place
pub texts_more : (p : ℕ) (slots : List ℕ) (vs : List Known) → p < length slots → take (p + 1) (texts_at slots vs) ≡ take p (texts_at slots vs) ++ spaced (four_of (known_at vs (slot_at slots p))) ∷ []
texts_more p slots vs h =
    let up : p + 1 ≡ suc p = omega arith in
    let there : p < length (texts_at slots vs) = omega (arith, h, texts_length slots vs) in
    ap (λ n. take n (texts_at slots vs)) up ∙ take-suc (texts_at slots vs) p [] there
    ∙ ap (λ (t : List ℕ). take p (texts_at slots vs) ++ t ∷ []) (get_or-map (λ j. spaced (four_of (known_at vs j))) slots p 0 [] h)

texts_joined : (slots : List ℕ) (vs : List Known) → concat (texts_at slots vs) ≡ spaced (fours_at slots vs)
texts_joined [] vs = refl
texts_joined (j ∷ js) vs = ap (λ (r : List ℕ). spaced (four_of (known_at vs j)) ++ r) (texts_joined js vs) ∙ sym (spaced_joined (four_of (known_at vs j)) (fours_at js vs))

-- they are the text of the symbols
pub parts_joined : (slots : List ℕ) (f : Facts) → concat (parts_in slots f) ≡ spaced (symbols_in slots f)
unfolding parts_in
parts_joined slots f =
    concat-append (texts_at slots f.values) (spaced (own_octagon f).cells ∷ []) ∙ ap (λ (r : List ℕ). concat (texts_at slots f.values) ++ r) (append-nil (spaced (own_octagon f).cells))
    ∙ ap (λ (r : List ℕ). r ++ spaced (own_octagon f).cells) (texts_joined slots f.values) ∙ sym (spaced_joined (fours_at slots f.values) (own_octagon f).cells)

pub parts_many : (slots : List ℕ) (f : Facts) → length (parts_in slots f) ≡ length slots + 1
unfolding parts_in
parts_many slots f = omega (arith, length-append (texts_at slots f.values) (spaced (own_octagon f).cells ∷ []), texts_length slots f.values)

-- ---- another value of a slot

-- where each slot stands at one place, only the text at its place changes
texts_set : (slots : List ℕ) (vs : List Known) (p : ℕ) (v : Known) → IsOrder slots → length vs ≡ length slots → p < length slots → texts_at slots (slice_set vs (slot_at slots p) v) ≡ slice_set (texts_at slots vs) p (spaced (four_of v))
texts_set slots vs p v order same h =
    ext_get_or [] (texts_at slots now) (slice_set (texts_at slots vs) p (spaced (four_of v))) (texts_length slots now ∙ sym (texts_length slots vs) ∙ sym (length-set (texts_at slots vs) p (spaced (four_of v))))
    (λ q l.
    let below : q < length slots = omega (arith, l, texts_length slots now) in
    get_or-map (λ j. spaced (four_of (known_at now j))) slots q 0 [] below ∙ at q below (cases_eq q p))
  where
    now : List Known
    now = slice_set vs (slot_at slots p) v

    at : (q : ℕ) → q < length slots → (q ≡ p) ⊎ (q ≡ p → ⊥) → spaced (four_of (known_at (slice_set vs (slot_at slots p) v) (slot_at slots q))) ≡ slice_index_or (slice_set (texts_at slots vs) p (spaced (four_of v))) q []
    at q below (inl e) =
        ap (λ (k : Known). spaced (four_of k)) (get_or-set_at vs (slot_at slots p) (slot_at slots q) v (any_of Int) (ap (slot_at slots) e) (omega (arith, order.below p h, same)))
        ∙ sym (get_or-set_at (texts_at slots vs) p q (spaced (four_of v)) [] e (omega (arith, h, texts_length slots vs)))
    at q below (inr other) =
        ap (λ (k : Known). spaced (four_of k)) (get_or-set_other vs (slot_at slots p) (slot_at slots q) v (any_of Int) (λ e. other (order.once q p below h e)))
        ∙ sym (get_or-map (λ j. spaced (four_of (known_at vs j))) slots q 0 [] below)
        ∙ sym (get_or-set_other (texts_at slots vs) p q (spaced (four_of v)) [] other)

abbrev pub with_value : Facts → ℕ → Known → Facts
with_value f j v = record { values = slice_set f.values j v; octagons = f.octagons }

pub parts_known : (slots : List ℕ) (f : Facts) (j : ℕ) (v : Known) (p : ℕ) → IsOrder slots → length f.values ≡ length slots → p < length slots → slot_at slots p ≡ j
    → parts_in slots (with_value f j v) ≡ slice_set (parts_in slots f) p (spaced (four_of v))
unfolding parts_in
parts_known slots f j v p order same h at =
    ap (λ (i : ℕ). texts_at slots (slice_set f.values i v) ++ spaced (own_octagon f).cells ∷ []) (sym at)
    ∙ ap (λ (r : List (List ℕ)). r ++ spaced (own_octagon f).cells ∷ []) (texts_set slots f.values p v order same h)
    ∙ sym (set-append_left (texts_at slots f.values) (spaced (own_octagon f).cells ∷ []) p (spaced (four_of v)) (omega (arith, h, texts_length slots f.values)))

-- ---- another octagon

pub parts_bounded : (slots : List ℕ) (f h : Facts) (p : ℕ) → h.values ≡ f.values → p ≡ length slots → parts_in slots h ≡ slice_set (parts_in slots f) p (spaced (own_octagon h).cells)
unfolding parts_in
parts_bounded slots f h p same at =
    let last : p - length slots ≡ 0 = omega (arith, at) in
    ap (λ (vs : List Known). texts_at slots vs ++ spaced (own_octagon h).cells ∷ []) same
    ∙ ap (λ (i : ℕ). texts_at slots f.values ++ slice_set (spaced (own_octagon f).cells ∷ []) i (spaced (own_octagon h).cells)) (sym last)
    ∙ sym (set-append_right (texts_at slots f.values) (spaced (own_octagon f).cells ∷ []) (length slots) p (spaced (own_octagon h).cells) (texts_length slots f.values) (omega (arith, at)))
