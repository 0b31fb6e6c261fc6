-- Every list of bytes begins with a text of a class, or stops: literals, numbers, names and texts of a known length.
use Rattle.std.specs.Prelude.{◌≡◌, ◌⊎◌, ℕ, zero, suc, ◌+◌, ◌-◌, ◌*◌, ◌<◌, ◌≤◌, ◌^◌, true, false, List, [], ◌∷◌, ◌++◌, length, take, drop, slice_index}
use Rattle.std.specs.Fmt.{decimal}
use Rattle.std.proofs.Common.{arith, refl, sym, ap, subst, ◌∙◌, inl, inr, append_assoc, take-append-drop}
use Rattle.std.proofs.lemmas.Bool.{cases_eq, cases_lt}
use Rattle.std.proofs.lemmas.List.{length-take-le}
use Rattle.std.proofs.Math.Seq.{take-suc, drop-append_seam}
use Rattle.pk_lex.specs.Bytes.{is_letter, is_part}
use Rattle.pk_cert.specs.Beginnings.{TextsOf, Leads, IsStop}
use Rattle.pk_cert.specs.Pieces.{AreFirst, IsDigitBehind, IsFirstDigit, IsBetween, counted, IsName, IsBlock, lined, Two}
use Rattle.pk_cert.proofs.Stops.{stop_behind}
use Rattle.pk_cert.proofs.Digits.{count_stops, count_stops_first, first_told, next_told}
use Rattle.pk_cert.proofs.Sequences.{AreTold}
use Rattle.pk_cert.proofs.Parts.{two_fail, two_later, literal_stops, name_more, name_stops, name_stops_first, block_stops, block_stops_short}

-- bytes begin with a text of the class, or stop
abbrev pub Ends : (List ℕ → Type 0) → List ℕ → Type 0
Ends C bytes = Leads C bytes ⊎ ((n : ℕ) × IsStop C bytes n)

pub first_there : (text rest bytes : List ℕ) → bytes ≡ text ++ rest → AreFirst text bytes (length text)
first_there text rest bytes e = record {
  size = refl;
  told = e ∙ ap (λ (x : List ℕ). text ++ x) (sym (drop-append_seam text rest) ∙ ap (drop (length text)) (sym e));
}

-- a text of k bytes, and the byte that ends it
ended_told : (bytes text : List ℕ) (k end : ℕ) → k < length bytes → take k bytes ≡ text → slice_index bytes k ≡ end
    → bytes ≡ (text ++ end ∷ []) ++ drop (suc k) bytes
ended_told bytes text k end h told same =
    sym (take-append-drop (suc k) bytes) ∙ ap (λ (x : List ℕ). x ++ drop (suc k) bytes) (take-suc bytes k 0 h ∙ (λ i. told i ++ same i ∷ []))

-- ---- literals

pub literal_ends : (text bytes : List ℕ) → Ends (λ (t : List ℕ). t ≡ text) bytes
literal_ends [] bytes = inl ([], bytes, refl, refl)
literal_ends (t ∷ text) [] = inr (0, literal_stops (t ∷ text) [] 0 (omega arith) (omega arith) refl (λ h. absurd (omega (arith, h))))
literal_ends (t ∷ text) (b ∷ bytes) = elim (cases_eq b t) [
  | inl same ↦ elim (literal_ends text bytes) [
    | inl l ↦ inl (t ∷ text, l.1, refl, (λ i. same i ∷ (l.3 ∙ ap (λ (x : List ℕ). x ++ l.1) l.2) i))
    | inr s ↦ inr (1 + s.0, subst (λ (c : ℕ). IsStop (λ (x : List ℕ). x ≡ t ∷ text) (c ∷ bytes) (1 + s.0)) (sym same) (literal_later t text bytes s.0 s.1))
  ]
  | inr other ↦ inr (0, literal_stops (t ∷ text) (b ∷ bytes) 0 (omega arith) (omega arith) refl (λ h e. other e))
]
  where
    literal_later : (t : ℕ) (text bytes : List ℕ) (n : ℕ) → IsStop (λ (x : List ℕ). x ≡ text) bytes n → IsStop (λ (x : List ℕ). x ≡ t ∷ text) (t ∷ bytes) (1 + n)
    literal_later t text bytes n s = stop_behind (λ (x : List ℕ). x ≡ text) (λ (x : List ℕ). x ≡ t ∷ text) (t ∷ []) bytes n
        (λ x e. ap (λ (y : List ℕ). t ∷ y) e)
        (λ x l. (text, l.1, refl, let e : t ∷ x ≡ t ∷ (text ++ l.1) = l.3 ∙ ap (λ (y : List ℕ). y ++ l.1) l.2 in cc)) s

-- ---- numbers

-- whether a digit behind v makes a number that is not too great
digit_or_none : (v b most : ℕ) → ((w : ℕ) × IsDigitBehind v b w × (w ≤ most)) ⊎ ((w : ℕ) → IsDigitBehind v b w → w ≤ most → ⊥)
digit_or_none v b most = elim (cases_lt b 48) [
  | inl l ↦ inr (λ w d h. omega (arith, d.low, l))
  | inr low ↦ elim (cases_lt 57 b) [
    | inl l ↦ inr (λ w d h. omega (arith, d.high, l))
    | inr high ↦ elim (cases_lt 0 v) [
      | inl some ↦ elim (cases_lt most (10 * v + (b - 48))) [
        | inl l ↦ inr (λ w d h. omega (arith, d.value, l, h))
        | inr fits ↦ inl (10 * v + (b - 48), record { low = low; high = omega (arith, high); some = some; value = refl }, fits)
      ]
      | inr l ↦ inr (λ w d h. omega (arith, d.some, l))
    ]
  ]
]

first_or_none : (least : ℕ) (bytes : List ℕ) → IsFirstDigit least bytes ⊎ (IsFirstDigit least bytes → ⊥)
first_or_none least bytes = elim (cases_lt 0 (length bytes)) [
  | inl some ↦ elim (cases_lt (slice_index bytes 0) (48 + least)) [
    | inl l ↦ inr (λ d. omega (arith, d.low, l))
    | inr low ↦ elim (cases_lt 57 (slice_index bytes 0)) [
      | inl l ↦ inr (λ d. omega (arith, d.high, l))
      | inr high ↦ inl record { some = some; low = low; high = high }
    ]
  ]
  | inr l ↦ inr (λ d. omega (arith, d.some, l))
]

module _ (least most end : ℕ) (low : least ≤ 1) (some : 10 ≤ most) (small : most < 10 ^ 39) (mark : end < 48) (bytes : List ℕ) where
  abbrev Counted : List ℕ → Type 0
  Counted = TextsOf (IsBetween least most) (counted end)

  -- behind k bytes, the digits of v
  digits_end : (left k v : ℕ) → left + k ≡ length bytes → take k bytes ≡ decimal v → IsBetween least most v → Ends Counted bytes
  digits_end zero k v all told is =
      inr (k, count_stops least most end (omega (arith, low, some)) small mark bytes v k (omega (arith, all)) told is (λ h. absurd (omega (arith, h, all))) (λ h. absurd (omega (arith, h, all))))
  digits_end (suc left) k v all told is =
      let there : k < length bytes = omega (arith, all) in
      elim (cases_eq (slice_index bytes k) end) [
        | inl same ↦ inl (counted end v, drop (suc k) bytes, (v, is, refl), ended_told bytes (decimal v) k end there told same)
        | inr other ↦ elim (digit_or_none v (slice_index bytes k) most) [
          | inl d ↦ digits_end left (k + 1) d.0 (omega (arith, all)) (next_told bytes k v d.0 there told d.1 (omega (arith, d.2, small)))
              record { low = omega (arith, d.1.value, d.1.some, low); high = d.2 }
          | inr none ↦ inr (k, count_stops least most end (omega (arith, low, some)) small mark bytes v k (omega (arith, all)) told is (λ h. none) (λ h. other))
        ]
      ]

  pub count_ends : Ends Counted bytes
  count_ends = elim (first_or_none least bytes) [
    | inl first ↦
        let v : ℕ = slice_index bytes 0 - 48 in
        let told = first_told least bytes record { tens = 0; last = v } record { first = first; tens = refl; last = refl } in
        let same : 10 * 0 + v ≡ v = omega arith in
        digits_end (length bytes - 1) 1 v (omega (arith, first.some)) (told ∙ ap decimal same)
        record { low = omega (arith, first.low); high = omega (arith, first.high, some) }
    | inr none ↦ inr (0, count_stops_first least most end (omega (arith, low, some)) small mark bytes none low)
  ]

-- ---- names

module _ (bytes : List ℕ) where
  -- behind k bytes, which are a name
  parts_end : (left k : ℕ) → left + k ≡ length bytes → IsName (take k bytes) → Ends (TextsOf IsName lined) bytes
  parts_end zero k all is = inr (k, name_stops bytes k (omega (arith, all)) is (λ h. absurd (omega (arith, h, all))) (λ h. absurd (omega (arith, h, all))))
  parts_end (suc left) k all is =
      let there : k < length bytes = omega (arith, all) in
      elim (cases_eq (slice_index bytes k) 10) [
        | inl same ↦ inl (lined (take k bytes), drop (suc k) bytes, (take k bytes, is, refl), ended_told bytes (take k bytes) k 10 there refl same)
        | inr other ↦ elim (is_part (slice_index bytes k)) as (λ t. is_part (slice_index bytes k) ≡ t → Ends (TextsOf IsName lined) bytes) [
          | true ↦ λ p.
              let more : suc k ≡ k + 1 = omega arith in
              parts_end left (k + 1) (omega (arith, all)) (subst (λ (j : ℕ). IsName (take j bytes)) more (subst IsName (sym (take-suc bytes k 0 there)) (name_more (take k bytes) (slice_index bytes k) is p)))
          | false ↦ λ p. inr (k, name_stops bytes k (omega (arith, all)) is (λ h q. let no = sym p ∙ q in cc) (λ h. other))
        ] refl
      ]

  pub name_ends : Ends (TextsOf IsName lined) bytes
  name_ends = elim (cases_lt 0 (length bytes)) [
    | inl there ↦ elim (is_letter (slice_index bytes 0)) as (λ t. is_letter (slice_index bytes 0) ≡ t → Ends (TextsOf IsName lined) bytes) [
      | true ↦ λ p. parts_end (length bytes - 1) 1 (omega (arith, there)) (one bytes there p)
      | false ↦ λ p. inr (0, name_stops_first bytes (λ h q. let no = sym p ∙ q in cc))
    ] refl
    | inr none ↦ inr (0, name_stops_first bytes (λ h. absurd (omega (arith, h, none))))
  ]
    where
      one : (xs : List ℕ) → 0 < length xs → is_letter (slice_index xs 0) ≡ true → IsName (take 1 xs)
      one [] h p = absurd (omega (arith, h))
      one (x ∷ xs) h p = rw p refl

-- ---- texts of a known length

pub block_ends : (size : ℕ) (bytes : List ℕ) → Ends (TextsOf (IsBlock size) lined) bytes
block_ends size bytes = elim (cases_lt (length bytes) size) [
  | inl short ↦ inr (length bytes, block_stops_short size bytes short)
  | inr h ↦ elim (cases_lt size (length bytes)) [
    | inl more ↦ elim (cases_eq (slice_index bytes size) 10) [
      | inl same ↦ inl (lined (take size bytes), drop (suc size) bytes, (take size bytes, length-take-le size bytes h, refl), ended_told bytes (take size bytes) size 10 more refl same)
      | inr other ↦ inr (size, block_stops size bytes h (λ l. other))
    ]
    | inr none ↦ inr (size, block_stops size bytes h (λ l. absurd (omega (arith, l, none))))
  ]
]

-- ---- two parts

module _ {A : Type 0} (P : A → Type 0) (text : A → List ℕ) (K : A → List ℕ → Type 0) (told : AreTold P text)
    (some : (a : A) → P a → (x : List ℕ) × K a x) (one : (bytes : List ℕ) → Ends (TextsOf P text) bytes)
    (two : (a : A) → P a → (bytes : List ℕ) → Ends (K a) bytes) where
  pub two_ends : (bytes : List ℕ) → Ends (Two P text K) bytes
  two_ends bytes = elim (one bytes) [
    | inl l ↦ behind l.2.0 l.1 l.2.1 (l.3 ∙ ap (λ (x : List ℕ). x ++ l.1) l.2.2)
    | inr s ↦ inr (s.0, two_fail P text K bytes some s.0 s.1)
  ]
    where
      behind : (a : A) (rest : List ℕ) → P a → bytes ≡ text a ++ rest → Ends (Two P text K) bytes
      behind a rest is e =
          let first = first_there (text a) rest bytes e in
          elim (two a is (drop (length (text a)) bytes)) [
            | inl l ↦ inl (text a ++ l.0, l.1, (a, l.0, is, l.2, refl), first.told ∙ ap (λ (x : List ℕ). text a ++ x) l.3 ∙ sym (append_assoc (text a) l.0 l.1))
            | inr s ↦ inr (length (text a) + s.0, two_later P text K bytes told a (length (text a)) s.0 is first s.1)
          ]
