-- How far a text goes as a literal, a name and a number.
use Rattle.std.proofs.Common.{◌≡◌, ◌⊎◌, inl, inr, ⊎_elim, ℕ, zero, suc, ◌^◌, ◌≤◌, ◌<◌, List, [], ◌∷◌, ◌++◌, length, take, drop, refl, sym, ap, subst, ◌∙◌, Bool, true, false, cond, ◌&&◌, ◌||◌, arith, append-nil, one-add, ◌==◌, take-append-drop, length-append, Option, Some, None}
use Rattle.std.specs.Prelude.{ℤ, pos, negsuc, codes, is_some, nat_lt}
use Rattle.std.specs.List.{prefix_len, list_all, zip}
use Rattle.std.specs.Option.{option_map, option_and_then}
use Rattle.std.specs.Str.Parse.{digits_value}
use Rattle.std.specs.Fmt.{decimal, signed_decimal}
use Rattle.std.specs.Cmp.Lexicographic.{same_text}
use Rattle.std.proofs.Math.Seq.{length-take-le}
use Rattle.std.proofs.lemmas.Bool.{and_parts, and_from, ltb-true}
use Rattle.std.proofs.lemmas.List.Folds.{length-prefix_len}
use Rattle.std.proofs.lemmas.List.Sums.{prefix_len-le-length}
use Rattle.std.proofs.lemmas.Fmt.{decimal_is_IsNumeral_wide, decimal_digit}
use Rattle.pk_lex.specs.Bytes.{is_letter, is_digit, is_part, same, begins_with}
use Rattle.pk_show.specs.Pieces.{is_identifier, count_in, signed_in, magnitude_in, negated}
use Rattle.pk_show.specs.Laws.{IsNumber}
use Rattle.pk_show.proofs.PieceLemmas.{same-refl, count_read, signed_read}
use Rattle.pk_show.proofs.ToldLemmas.{steps, passed, count_told, signed_told}
use Rattle.pk_wrong_byte.specs.Pieces.{reached, common, literal, part_size, name, is_count, is_number, begins_number, count_size, number_size, count, number, passing}
use Rattle.pk_wrong_byte_laws.proofs.Alike.{munched, shared, shared_front, shared_furthest, shared_within, kept}
use Rattle.pk_wrong_byte_laws.proofs.Numerals.{begun, is_decimal, decimal_digits}
use Rattle.pk_wrong_byte_laws.proofs.Passing.{Passing, Passes, passes, furthest}
use Rattle.pk_wrong_byte_laws.proofs.Goes.{Goes, Beginning, IsPiece}

-- ---- a literal

abbrev pub Is : List ℕ → List ℕ → Type 0
Is l u = u ≡ l

literal_by : (l : List ℕ) (test : ℕ → Bool) (text : List ℕ) (n : ℕ) → n ≡ shared l text →
    Goes (Is l) test text (reached (drop n text) (same (take n text) l))
literal_by l test text n e = record {
  front = take n text;
  split = sym (take-append-drop n text);
  begins = record { more = drop n l; whole = ap (λ (m : ℕ). take m text ++ drop m l) e ∙ shared_front l text };
  whole = λ o. same_text (take n text) l (sym o);
  furthest = λ u w x y same_front h a f g. told u same_front h (shared_furthest l w text same_front x y (ap (λ (t : List ℕ). t ++ w) (sym h) ∙ f) g);
}
  where
    told : (u same_front : List ℕ) → u ≡ l → (length same_front ≤ shared l text) ⊎ (l ≡ take (shared l text) text) →
        (length same_front ≤ length (take n text)) ⊎ ((same (take n text) l ≡ true) × (u ≡ take n text))
    told u same_front h (inl k) =
        let size : length (take n text) ≡ n = length-take-le n text (omega (arith, e, shared_within l text)) in
        inl (omega (arith, size, k, e))
    told u same_front h (inr k) =
        let is : l ≡ take n text = k ∙ ap (λ (m : ℕ). take m text) (sym e) in
        inr (ap (λ (t : List ℕ). same t l) (sym is) ∙ same-refl l, h ∙ is)

pub literal_piece : (l : List ℕ) (test : ℕ → Bool) → IsPiece (Is l) test (literal l)
unfolding literal
literal_piece l test = record {
  closed = λ text. refl;
  goes = λ text. literal_by l test text (common l text) (length-prefix_len (λ p. p.0 == p.1) (zip text l));
}

-- ---- a name

abbrev pub IsNameText : List ℕ → Type 0
IsNameText u = is_identifier u ≡ true

first_or : (a b : Bool) → a ≡ true → (a || b) ≡ true
first_or true b e = refl
first_or false b e = absurd (cc e)

name_parts : (u : List ℕ) → is_identifier u ≡ true → list_all is_part u ≡ true
unfolding is_identifier
name_parts [] e = refl
name_parts (b ∷ u) e =
    let both = and_parts (is_letter b) (list_all is_part u) e in
    and_from (is_part b) (list_all is_part u) (first_or (is_letter b) (is_digit b) both.0) both.1

first_letter : (u w same x : List ℕ) (s : ℕ) → is_identifier u ≡ true → u ++ w ≡ (s ∷ same) ++ x → is_letter s ≡ true
unfolding is_identifier
first_letter [] w same x s h e = absurd (cc h)
first_letter (b ∷ u) w same x s h e =
    let equal : s ≡ b = cc e in
    ap is_letter equal ∙ (and_parts (is_letter b) (list_all is_part u) h).0

-- letters and digits in front, of which the first is a letter
name_front : (s : ℕ) (y : List ℕ) → is_letter s ≡ true → is_identifier (take (prefix_len is_part (s ∷ y)) (s ∷ y)) ≡ true
unfolding is_identifier
name_front s y h =
    let part : is_part s ≡ true = first_or (is_letter s) (is_digit s) h in
    rw (part, one-add) (and_from (is_letter s) (list_all is_part (take (prefix_len is_part y) y)) h (kept is_part y))

is_a : is_identifier (codes "a") ≡ true
unfolding is_identifier
is_a = refl

no_name : is_identifier [] ≡ false
unfolding is_identifier
no_name = refl

name_by : (text : List ℕ) (n : ℕ) → n ≡ prefix_len is_part text → (t : Bool) → t ≡ is_identifier (take n text) →
    Goes IsNameText is_part text (reached (drop (cond t n 0) text) (is_identifier (take (cond t n 0) text)))
name_by text n e true t = record {
  front = take n text;
  split = sym (take-append-drop n text);
  begins = record { more = []; whole = ap is_identifier (append-nil (take n text)) ∙ sym t };
  whole = λ o. o;
  furthest = λ u w x y same_front h a f g. told u same_front (munched is_part u w text same_front x y (name_parts u h) a f g);
}
  where
    told : (u same_front : List ℕ) → (length same_front ≤ prefix_len is_part text) ⊎ (u ≡ take (prefix_len is_part text) text) →
        (length same_front ≤ length (take n text)) ⊎ ((is_identifier (take n text) ≡ true) × (u ≡ take n text))
    told u same_front (inl k) =
        let size : length (take n text) ≡ n = length-take-le n text (omega (arith, e, prefix_len-le-length is_part text)) in
        inl (omega (arith, size, k, e))
    told u same_front (inr k) = inr (sym t, k ∙ ap (λ (m : ℕ). take m text) (sym e))
name_by text n e false t = record {
  front = [];
  split = refl;
  begins = record { more = codes "a"; whole = is_a };
  whole = λ o. let both : true ≡ false = sym o ∙ no_name in absurd (cc both);
  furthest = λ u w x y same_front h a f g. inl (none u w x y same_front h f g);
}
  where
    none : (u w x y same_front : List ℕ) → is_identifier u ≡ true → u ++ w ≡ same_front ++ x → text ≡ same_front ++ y → length same_front ≤ 0
    none u w x y [] h f g = omega arith
    none u w x y (s ∷ same_front) h f g =
        let yes = name_front s (same_front ++ y) (first_letter u w same_front x s h f) in
        let here : is_identifier (take n text) ≡ true = ap (λ (m : ℕ). is_identifier (take m text)) e ∙ ap (λ (z : List ℕ). is_identifier (take (prefix_len is_part z) z)) g ∙ yes in
        let both : true ≡ false = sym here ∙ sym t in
        absurd (cc both)

pub name_piece : IsPiece IsNameText is_part name
unfolding name
name_piece = record {
  closed = λ text. refl;
  goes = λ text. name_by text (part_size text) (length-prefix_len is_part text) (is_identifier (take (part_size text) text)) refl;
}

-- ---- a number that isn't below 0

pub record IsCountText (u : List ℕ) : Type 0 where
  pub number : ℕ
  pub small : number < 2 ^ 64
  pub is : u ≡ decimal number

abbrev pub Gives : {A : Type 0} → Option A → Type 0
Gives {A} o = (a : A) × (o ≡ Some a)

pub given : {A : Type 0} (o : Option A) → is_some o ≡ true → Gives o
given None e = absurd (cc e)
given (Some a) e = (a, refl)

pub count_small : (u : List ℕ) (n : ℕ) → count_in u ≡ Some n → n < 2 ^ 64
unfolding count_in
count_small u n e =
    let s = steps (magnitude_in u) _ n e in
    let both = passed (nat_lt s.first (2 ^ 64)) s.first n s.then_gave in
    subst (λ (k : ℕ). k < 2 ^ 64) both.1 (ltb-true s.first (2 ^ 64) both.0)

count_is : (u : List ℕ) → is_count u ≡ true → IsCountText u
count_is u e =
    let n = given (count_in u) e in
    record { number = n.0; small = count_small u n.0 n.1; is = count_told u n.0 n.1 }

is_count_text : (u : List ℕ) → IsCountText u → is_count u ≡ true
is_count_text u h = ap is_count h.is ∙ ap is_some (count_read h.number h.small)

decimal_some : (n : ℕ) → n < 10 ^ 64 → 0 < length (decimal n)
decimal_some n h = (decimal_is_IsNumeral_wide n h).0.0

counts_pass : Passing IsCountText is_decimal is_count
counts_pass = record {
  some = λ u h. let size = ap length h.is in omega (arith, size, decimal_some h.number (let s = h.small in omega (arith, s)));
  begun = λ u v w h e some.
      let b = begun h.number (let s = h.small in omega (arith, s)) v w (e ∙ h.is) some in
      is_count_text v (record { number = b.number; small = (let s = h.small in let l = b.least in omega (arith, s, l)); is = b.is });
  digits = λ v w b e some.
      let h = count_is (v ++ b ∷ w) e in
      decimal_digits h.number v w b (let s = h.small in omega (arith, s)) h.is;
}

count_by : (text : List ℕ) (n : ℕ) → n ≡ passing is_count [] text → Goes IsCountText is_decimal text (reached (drop n text) (is_count (take n text)))
count_by text n e = record {
  front = take n text;
  split = sym (take-append-drop n text);
  begins = ⊎_elim
      (λ none. record {
        more = codes "0";
        whole = subst (λ (m : ℕ). IsCountText (take m text ++ codes "0")) (sym (e ∙ none)) (record { number = 0; small = omega arith; is = sym (decimal_digit 0 (omega arith)) });
      })
      (λ h. record {
        more = [];
        whole = subst IsCountText (sym (append-nil (take n text))) (count_is (take n text) (ap (λ (m : ℕ). is_count (take m text)) e ∙ h));
      })
      ps.pass;
  whole = count_is (take n text);
  furthest = λ u w x y same_front h a f g. told u same_front h (furthest IsCountText is_decimal is_count counts_pass text u w x y same_front h a f g);
}
  where
    ps : Passes is_count [] text (passing is_count [] text)
    ps = passes is_count [] text

    told : (u same_front : List ℕ) → IsCountText u → (length same_front ≤ passing is_count [] text) ⊎ (u ≡ take (passing is_count [] text) text) →
        (length same_front ≤ length (take n text)) ⊎ ((is_count (take n text) ≡ true) × (u ≡ take n text))
    told u same_front h (inl k) =
        let size : length (take n text) ≡ n = length-take-le n text (omega (arith, e, ps.within)) in
        inl (omega (arith, size, k, e))
    told u same_front h (inr k) =
        let is : u ≡ take n text = k ∙ ap (λ (m : ℕ). take m text) (sym e) in
        inr (ap is_count (sym is) ∙ is_count_text u h, is)

pub count_piece : IsPiece IsCountText is_decimal count
unfolding count
count_piece = record { closed = λ text. refl; goes = λ text. count_by text (count_size text) refl }

-- ---- a number

pub record IsNumberText (u : List ℕ) : Type 0 where
  pub number : ℤ
  pub small : IsNumber number
  pub is : u ≡ signed_decimal number

magnitude_small : (text : List ℕ) (n : ℕ) → magnitude_in text ≡ Some n → n < 2 ^ 127
unfolding magnitude_in
magnitude_small text n e =
    let k = digits_value 10 text in
    let both = passed (same (decimal k) text && nat_lt k (2 ^ 127)) k n e in
    let parts = and_parts (same (decimal k) text) (nat_lt k (2 ^ 127)) both.0 in
    subst (λ (m : ℕ). m < 2 ^ 127) both.1 (ltb-true k (2 ^ 127) parts.1)

negated_small : (n : ℕ) (z : ℤ) → n < 2 ^ 127 → negated n ≡ Some z → IsNumber z
negated_small zero z h e = absurd (cc e)
negated_small (suc n) z h e = let equal : negsuc n ≡ z = cc e in subst IsNumber equal h

pub signed_small : (text : List ℕ) (z : ℤ) → signed_in text ≡ Some z → IsNumber z
unfolding signed_in
signed_small text z e = by_sign (begins_with 45 text) e
  where
    plain : (o : Option ℕ) → o ≡ magnitude_in text → option_map pos o ≡ Some z → IsNumber z
    plain None m f = absurd (cc f)
    plain (Some n) m f = let equal : pos n ≡ z = cc f in subst IsNumber equal (magnitude_small text n (sym m))

    by_sign : (is_minus : Bool) →
        cond is_minus (option_and_then negated (magnitude_in (drop 1 text))) (option_map pos (magnitude_in text)) ≡ Some z → IsNumber z
    by_sign true f =
        let s = steps (magnitude_in (drop 1 text)) negated z f in
        negated_small s.first z (magnitude_small (drop 1 text) s.first s.gave) s.then_gave
    by_sign false f = plain (magnitude_in text) refl f

number_is : (u : List ℕ) → is_number u ≡ true → IsNumberText u
number_is u e =
    let z = given (signed_in u) e in
    record { number = z.0; small = signed_small u z.0 z.1; is = signed_told u z.0 z.1 }

is_number_text : (u : List ℕ) → IsNumberText u → is_number u ≡ true
is_number_text u h = ap is_number h.is ∙ ap is_some (signed_read h.number h.small)

second_or : (a b : Bool) → b ≡ true → (a || b) ≡ true
second_or true b e = refl
second_or false b e = e

either_or : (a b : Bool) → (a || b) ≡ true → (a ≡ true) ⊎ (b ≡ true)
either_or true b e = inl refl
either_or false b e = inr e

abbrev minus : List ℕ
minus = codes "-"

number_begun : (z : ℤ) (v w : List ℕ) → IsNumber z → v ++ w ≡ signed_decimal z → 0 < length v → begins_number v ≡ true
number_begun (pos n) v w h e some =
    let b = begun n (omega arith) v w e some in
    let least = b.least in
    first_or (is_number v) (same v minus) (is_number_text v (record { number = pos b.number; small = omega arith; is = b.is }))
number_begun (negsuc n) [] w h e some = absurd (omega (arith, some))
number_begun (negsuc n) (c ∷ []) w h e some =
    let equal : c ≡ 45 = cc e in
    second_or (is_number (c ∷ [])) (same (c ∷ []) minus) (ap (λ (b : ℕ). same (b ∷ []) minus) equal)
number_begun (negsuc n) (c ∷ d ∷ v) w h e some =
    let equal : c ≡ 45 = cc e in
    let rest : (d ∷ v) ++ w ≡ decimal (suc n) = cc e in
    let b = begun (suc n) (omega arith) (d ∷ v) w rest (omega arith) in
    first_or (is_number (c ∷ d ∷ v)) (same (c ∷ d ∷ v) minus) (below b.number equal b.is (let l = b.least in omega (arith, l)) (b.some (omega arith)))
  where
    below : (m : ℕ) → c ≡ 45 → d ∷ v ≡ decimal m → m < 2 ^ 127 → 0 < m → is_number (c ∷ d ∷ v) ≡ true
    below zero equal is small none = absurd (omega (arith, none))
    below (suc m) equal is small some =
        is_number_text (c ∷ d ∷ v) (record { number = negsuc m; small = small; is = ap (λ (b : ℕ). b ∷ d ∷ v) equal ∙ ap (λ (l : List ℕ). 45 ∷ l) is })

signed_digits : (z : ℤ) (v w : List ℕ) (b : ℕ) → IsNumber z → v ++ b ∷ w ≡ signed_decimal z → 0 < length v → is_decimal b ≡ true
signed_digits (pos n) v w b h e some = decimal_digits n v w b (omega arith) e
signed_digits (negsuc n) [] w b h e some = absurd (omega (arith, some))
signed_digits (negsuc n) (c ∷ v) w b h e some = decimal_digits (suc n) v w b (omega arith) (cc e)

number_some : (z : ℤ) → IsNumber z → 0 < length (signed_decimal z)
number_some (pos n) h = decimal_some n (omega arith)
number_some (negsuc n) h = omega arith

number_digits : (v w : List ℕ) (b : ℕ) → begins_number (v ++ b ∷ w) ≡ true → 0 < length v → is_decimal b ≡ true
number_digits v w b e some = ⊎_elim
    (λ yes. let h = number_is (v ++ b ∷ w) yes in signed_digits h.number v w b h.small h.is some)
    (λ yes. let size = ap length (same_text (v ++ b ∷ w) minus (sym yes)) in absurd (omega (arith, size, some, length-append v (b ∷ w))))
    (either_or (is_number (v ++ b ∷ w)) (same (v ++ b ∷ w) minus) e)

numbers_pass : Passing IsNumberText is_decimal begins_number
numbers_pass = record {
  some = λ u h. let size = ap length h.is in omega (arith, size, number_some h.number h.small);
  begun = λ u v w h e some. number_begun h.number v w h.small (e ∙ h.is) some;
  digits = number_digits;
}

minus_one : IsNumberText (minus ++ codes "1")
minus_one = record { number = negsuc 0; small = omega arith; is = ap (λ (l : List ℕ). 45 ∷ l) (sym (decimal_digit 1 (omega arith))) }

begins_a_number : (front : List ℕ) → begins_number front ≡ true → Beginning IsNumberText front
begins_a_number front e = ⊎_elim
    (λ yes. record { more = []; whole = subst IsNumberText (sym (append-nil front)) (number_is front yes) })
    (λ yes. record { more = codes "1"; whole = subst (λ (t : List ℕ). IsNumberText (t ++ codes "1")) (sym (same_text front minus (sym yes))) minus_one })
    (either_or (is_number front) (same front minus) e)

number_by : (text : List ℕ) (n : ℕ) → n ≡ passing begins_number [] text → Goes IsNumberText is_decimal text (reached (drop n text) (is_number (take n text)))
number_by text n e = record {
  front = take n text;
  split = sym (take-append-drop n text);
  begins = ⊎_elim
      (λ none. record {
        more = codes "0";
        whole = subst (λ (m : ℕ). IsNumberText (take m text ++ codes "0")) (sym (e ∙ none)) (record { number = pos 0; small = omega arith; is = sym (decimal_digit 0 (omega arith)) });
      })
      (λ h. begins_a_number (take n text) (ap (λ (m : ℕ). begins_number (take m text)) e ∙ h))
      ps.pass;
  whole = number_is (take n text);
  furthest = λ u w x y same_front h a f g. told u same_front h (furthest IsNumberText is_decimal begins_number numbers_pass text u w x y same_front h a f g);
}
  where
    ps : Passes begins_number [] text (passing begins_number [] text)
    ps = passes begins_number [] text

    told : (u same_front : List ℕ) → IsNumberText u → (length same_front ≤ passing begins_number [] text) ⊎ (u ≡ take (passing begins_number [] text) text) →
        (length same_front ≤ length (take n text)) ⊎ ((is_number (take n text) ≡ true) × (u ≡ take n text))
    told u same_front h (inl k) =
        let size : length (take n text) ≡ n = length-take-le n text (omega (arith, e, ps.within)) in
        inl (omega (arith, size, k, e))
    told u same_front h (inr k) =
        let is : u ≡ take n text = k ∙ ap (λ (m : ℕ). take m text) (sym e) in
        inr (ap is_number (sym is) ∙ is_number_text u h, is)

pub number_piece : IsPiece IsNumberText is_decimal number
unfolding number
number_piece = record { closed = λ text. refl; goes = λ text. number_by text (number_size text) refl }
