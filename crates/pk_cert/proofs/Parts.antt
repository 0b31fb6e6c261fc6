-- Texts of two parts, and where a literal, a name or a text of a known length stops.
use Rattle.std.specs.Prelude.{◌≡◌, ℕ, suc, ◌+◌, ◌-◌, ◌<◌, ◌≤◌, Bool, true, false, ◌&&◌, List, [], ◌∷◌, ◌++◌, length, take, drop, slice_index, replicate}
use Rattle.std.specs.List.{list_all}
use Rattle.std.proofs.Common.{arith, refl, sym, ap, subst, ◌∙◌, append_assoc, take-append-drop}
use Rattle.std.proofs.lemmas.List.{append-nil, length-append, length-take-le, length-replicate, get_or-take, append_cancel_left}
use Rattle.std.proofs.lemmas.Bool.Decides.{nat_tests}
use Rattle.std.proofs.Math.Seq.{take-suc, take-length}
use Rattle.std.proofs.Math.ListN.{get_or-append}
use Rattle.pk_lex.specs.Bytes.{is_letter, is_part}
use Rattle.pk_cert.specs.Beginnings.{TextsOf, IsStop}
use Rattle.pk_cert.specs.Pieces.{AreFirst, IsName, IsBlock, lined, Two}
use Rattle.pk_cert.proofs.Stops.{Lacks, stop_part, stop_behind, word_stop}
use Rattle.pk_cert.proofs.Sequences.{AreTold}

pub first_fits : (text bytes : List ℕ) (n : ℕ) → AreFirst text bytes n → n ≤ length bytes
first_fits text bytes n f = omega (arith, f.size, ap (length {A = ℕ}) f.told, length-append text (drop n bytes))

-- ---- two parts

module _ {A : Type 0} (P : A → Type 0) (text : A → List ℕ) (K : A → List ℕ → Type 0) (bytes : List ℕ) where
  -- in the first part
  pub two_fail : ((a : A) → P a → (x : List ℕ) × K a x) → (k : ℕ) → IsStop (TextsOf P text) bytes k → IsStop (Two P text K) bytes k
  two_fail some k = stop_part (TextsOf P text) (Two P text K) bytes k
      (λ x t. let rest = some t.0 t.1 in (rest.0, (t.0, rest.0, t.1, rest.1, ap (λ (y : List ℕ). y ++ rest.0) t.2)))
      (λ x b. (text b.2.0, b.2.1 ++ b.1, (b.2.0, b.2.2, refl), b.3 ∙ ap (λ (y : List ℕ). y ++ b.1) b.2.4 ∙ append_assoc (text b.2.0) b.2.1 b.1))

  -- in the second
  pub two_later : AreTold P text → (a : A) (n k : ℕ) → P a → AreFirst (text a) bytes n → IsStop (K a) (drop n bytes) k → IsStop (Two P text K) bytes (n + k)
  two_later told a n k is first s =
      let later = stop_behind (K a) (Two P text K) (text a) (drop n bytes) k
      (λ x y. (a, x, is, y, refl))
      (λ x b.
      let q = told a b.2.0 x (b.2.1 ++ b.1) is b.2.2 (b.3 ∙ ap (λ (y : List ℕ). y ++ b.1) b.2.4 ∙ append_assoc (text b.2.0) b.2.1 b.1) in
      (b.2.1, b.1, subst (λ (z : A). K z b.2.1) (sym q.0) b.2.3, q.1))
      s in
      subst (λ (j : ℕ). IsStop (Two P text K) bytes (j + k)) (sym first.size) (subst (λ (y : List ℕ). IsStop (Two P text K) y (length (text a) + k)) (sym first.told) later)

-- ---- literals

pub literal_stops : (text bytes : List ℕ) (k : ℕ) → k < length text → k ≤ length bytes → take k bytes ≡ take k text
    → (k < length bytes → slice_index bytes k ≡ slice_index text k → ⊥) → IsStop (λ (t : List ℕ). t ≡ text) bytes k
literal_stops text bytes k h there same other = record {
  there = there;
  before = (drop k text, ap (λ (x : List ℕ). x ++ drop k text) same ∙ take-append-drop k text);
  wrong = λ l b. other l (sym (front l b.0) ∙ ap (λ (x : List ℕ). slice_index x k) (b.1.3 ∙ ap (λ (x : List ℕ). x ++ b.1.1) b.1.2) ∙ get_or-append text b.1.1 0 k h);
  early = λ e b. let l : length bytes ≡ length (b.0 ++ b.1) = ap (length {A = ℕ}) b.3 in
      let m : length b.0 ≡ length text = ap (length {A = ℕ}) b.2 in
      omega (arith, l, m, length-append b.0 b.1, e, h);
}
  where
    front : k < length bytes → (s : List ℕ) → slice_index (take (suc k) bytes ++ s) k ≡ slice_index bytes k
    front l s =
        get_or-append (take (suc k) bytes) s 0 k (omega (arith, length-take-le (suc k) bytes (omega (arith, l))))
        ∙ get_or-take (suc k) bytes k 0 (omega arith)

-- ---- names

part_lacks : (c : ℕ) → is_part c ≡ true → c ≡ 10 → ⊥
part_lacks c h e = grind (arith, nat_tests)

letter_lacks : (c : ℕ) → is_letter c ≡ true → c ≡ 10 → ⊥
letter_lacks c h e = grind (arith, nat_tests)

both : (a b : Bool) → (a && b) ≡ true → (a ≡ true) × (b ≡ true)
both true b h = (refl, h)
both false b h = cc

parts_lack : (cs : List ℕ) → list_all is_part cs ≡ true → Lacks 10 cs
parts_lack [] h = tt
parts_lack (c ∷ cs) h = let p = both (is_part c) (list_all is_part cs) h in (part_lacks c p.0, parts_lack cs p.1)

pub names_lack : (name : List ℕ) → IsName name → Lacks 10 name
names_lack [] h = tt
names_lack (c ∷ cs) h = let p = both (is_letter c) (list_all is_part cs) h in (letter_lacks c p.0, parts_lack cs p.1)

parts_go : (xs : List ℕ) (b : ℕ) (s : List ℕ) → list_all is_part (xs ++ b ∷ s) ≡ true → is_part b ≡ true
parts_go [] b s h = (both (is_part b) (list_all is_part s) h).0
parts_go (x ∷ xs) b s h = parts_go xs b s (both (is_part x) (list_all is_part (xs ++ b ∷ s)) h).1

name_goes : (xs : List ℕ) (b : ℕ) (s : List ℕ) → IsName xs → IsName (xs ++ b ∷ s) → is_part b ≡ true
name_goes [] b s h k = cc
name_goes (x ∷ xs) b s h k = parts_go xs b s (both (is_letter x) (list_all is_part (xs ++ b ∷ s)) k).1

parts_more : (xs : List ℕ) (b : ℕ) → list_all is_part xs ≡ true → is_part b ≡ true → list_all is_part (xs ++ b ∷ []) ≡ true
parts_more [] b h k = ap (λ (t : Bool). t && true) k
parts_more (x ∷ xs) b h k =
    let p = both (is_part x) (list_all is_part xs) h in
    (λ i. p.0 i && parts_more xs b p.1 k i)

pub name_more : (xs : List ℕ) (b : ℕ) → IsName xs → is_part b ≡ true → IsName (xs ++ b ∷ [])
name_more [] b h k = cc
name_more (x ∷ xs) b h k =
    let p = both (is_letter x) (list_all is_part xs) h in
    (λ i. p.0 i && parts_more xs b p.1 k i)

module _ (bytes : List ℕ) where
  lacks : (name : List ℕ) → IsName name → Lacks 10 name
  lacks = names_lack

  pub name_stops : (k : ℕ) → k ≤ length bytes → IsName (take k bytes) → (k < length bytes → is_part (slice_index bytes k) ≡ true → ⊥)
      → (k < length bytes → slice_index bytes k ≡ 10 → ⊥) → IsStop (TextsOf IsName lined) bytes k
  name_stops k there is other end = word_stop IsName (λ (name : List ℕ). name) 10 lacks bytes k there
      ([], (take k bytes, is, append-nil (take k bytes)))
      (λ h b. other h (name_goes (take k bytes) (slice_index bytes k) b.0 is (subst IsName (sym b.1.2 ∙ append_assoc (take k bytes) (slice_index bytes k ∷ []) b.0) b.1.1)))
      (λ h b. end h)

  pub name_stops_first : (0 < length bytes → is_letter (slice_index bytes 0) ≡ true → ⊥) → IsStop (TextsOf IsName lined) bytes 0
  name_stops_first other = word_stop IsName (λ (name : List ℕ). name) 10 lacks bytes 0 (omega arith)
      (97 ∷ [], (97 ∷ [], refl, refl))
      (λ h b. let is : IsName (slice_index bytes 0 ∷ b.0) = subst IsName (sym b.1.2) b.1.1 in
      other h (both (is_letter (slice_index bytes 0)) (list_all is_part b.0) is).0)
      (λ h b e. let is : IsName [] = subst IsName (sym b.2) b.1 in cc)

-- ---- texts of a known length

as_long : (xs ys r s : List ℕ) (c d : ℕ) → length xs ≡ length ys → xs ++ c ∷ r ≡ ys ++ d ∷ s → (xs ≡ ys) × (c ≡ d) × (r ≡ s)
as_long [] [] r s c d l e = (refl, cc, cc)
as_long [] (y ∷ ys) r s c d l e = absurd (omega (arith, l))
as_long (x ∷ xs) [] r s c d l e = absurd (omega (arith, l))
as_long (x ∷ xs) (y ∷ ys) r s c d l e =
    let h : x ≡ y = cc in
    let more = as_long xs ys r s c d (omega (arith, l)) cc in
    let t : xs ≡ ys = more.0 in
    (cc, more.1, more.2)

too_short : (size : ℕ) (bytes text r : List ℕ) → IsBlock size text → bytes ≡ lined text ++ r → length bytes ≤ size → ⊥
too_short size bytes text r is e h =
    let l : length bytes ≡ length (lined text ++ r) = ap (length {A = ℕ}) e in
    omega (arith, l, length-append (lined text) r, length-append text (10 ∷ []), is, h)

pub block_stops_short : (size : ℕ) (bytes : List ℕ) → length bytes < size → IsStop (TextsOf (IsBlock size) lined) bytes (length bytes)
block_stops_short size bytes h = record {
  there = omega arith;
  before = (
    filler ++ 10 ∷ [],
    (
      bytes ++ filler,
      omega (arith, length-append bytes filler, length-replicate {A = ℕ} (size - length bytes) 0, h),
      ap (λ (x : List ℕ). x ++ (filler ++ 10 ∷ [])) (take-length bytes) ∙ sym (append_assoc bytes filler (10 ∷ [])),
    ),
  );
  wrong = λ l b. omega (arith, l);
  early = λ e b. too_short size bytes b.2.0 b.1 b.2.1 (b.3 ∙ ap (λ (x : List ℕ). x ++ b.1) b.2.2) (omega (arith, h));
}
  where
    filler : List ℕ
    filler = replicate (size - length bytes) 0

pub block_stops : (size : ℕ) (bytes : List ℕ) → size ≤ length bytes → (size < length bytes → slice_index bytes size ≡ 10 → ⊥)
    → IsStop (TextsOf (IsBlock size) lined) bytes size
block_stops size bytes h other = record {
  there = h;
  before = (10 ∷ [], (take size bytes, length-take-le size bytes h, refl));
  wrong = λ l b.
      let text : List ℕ = b.1.2.0 in
      let x : ℕ = slice_index bytes size in
      let e : take size bytes ++ x ∷ b.0 ≡ text ++ 10 ∷ b.1.1 =
      sym (append_assoc (take size bytes) (x ∷ []) b.0) ∙ ap (λ (y : List ℕ). y ++ b.0) (sym (take-suc bytes size 0 l)) ∙ b.1.3
      ∙ ap (λ (y : List ℕ). y ++ b.1.1) b.1.2.2 ∙ append_assoc text (10 ∷ []) b.1.1 in
      other l (as_long (take size bytes) text b.0 b.1.1 x 10 (length-take-le size bytes h ∙ sym b.1.2.1) e).1;
  early = λ e b. too_short size bytes b.2.0 b.1 b.2.1 (b.3 ∙ ap (λ (x : List ℕ). x ++ b.1) b.2.2) (omega (arith, e));
}

-- ---- told by their bytes

lined_lacking : (xs ys r s : List ℕ) → Lacks 10 xs → Lacks 10 ys → xs ++ 10 ∷ r ≡ ys ++ 10 ∷ s → (xs ≡ ys) × (r ≡ s)
lined_lacking [] [] r s a b e = (refl, cc)
lined_lacking [] (y ∷ ys) r s a b e = let h : 10 ≡ y = cc in absurd (b.0 (sym h))
lined_lacking (x ∷ xs) [] r s a b e = let h : x ≡ 10 = cc in absurd (a.0 h)
lined_lacking (x ∷ xs) (y ∷ ys) r s a b e =
    let h : x ≡ y = cc in
    let more = lined_lacking xs ys r s a.1 b.1 cc in
    let t : xs ≡ ys = more.0 in
    (cc, more.1)

pub names_told : AreTold IsName lined
names_told a b x y h k e =
    lined_lacking a b x y (names_lack a h) (names_lack b k) (sym (append_assoc a (10 ∷ []) x) ∙ e ∙ append_assoc b (10 ∷ []) y)

pub blocks_told : (size : ℕ) → AreTold (IsBlock size) lined
blocks_told size a b x y h k e =
    let q = as_long a b x y 10 10 (h ∙ sym k) (sym (append_assoc a (10 ∷ []) x) ∙ e ∙ append_assoc b (10 ∷ []) y) in
    (q.0, q.2)

pub literals_told : (text : List ℕ) → AreTold (λ (t : List ℕ). t ≡ text) (λ (t : List ℕ). t)
literals_told text a b x y h k e =
    let same : a ≡ b = h ∙ sym k in
    (same, append_cancel_left b x y (ap (λ (t : List ℕ). t ++ x) (sym same) ∙ e))
