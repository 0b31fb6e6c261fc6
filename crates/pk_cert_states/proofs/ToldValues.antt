-- Whether numbers are those of values of the slots' types.
use Rattle.std.specs.Prelude.{◌≡◌, ◌⊎◌, ℕ, zero, suc, ◌<◌, ◌^◌, nat_lt, ℤ, pos, ◌≤ℤ◌, ◌<ℤ◌, unsigned_abs, List, [], ◌∷◌, ◌++◌, map, length, Option, Some, None}
use Rattle.std.specs.List.{flat_map}
use Rattle.std.proofs.lemmas.Bool.Decides.{Decides-ltb}
use Rattle.std.proofs.Common.{arith, refl, sym, ap, subst, ◌∙◌, inl, inr, append_assoc}
use Rattle.pk_ctypes.specs.declared.types.IntType.{IntType}
use Rattle.pk_ctypes.specs.Types.{InType}
use Rattle.pk_ctypes.proofs.Values.{cases_of_type}
use Rattle.pk_congr.specs.Classes.{IsReduced}
use Rattle.pk_value.specs.Known.{Known}
use Rattle.pk_octagons.specs.Values.{type_at, known_at, IsValue}
use Rattle.pk_state.specs.Layouts.{Layout}
use Rattle.pk_cert_states.specs.Lines.{four_of}
use Rattle.pk_cert_states.specs.Parts.{slot_at, AreIn}
use Rattle.pk_cert_states.proofs.Fours.{parted_same, same_four}
use Rattle.pk_cert_states.proofs.Told.{Told, told_and, told_either, told_as, told_by, told_most, told_less, told_equal}

-- ---- one value

told_in_type : (t : IntType) (z : ℤ) → Told (InType t z)
told_in_type t z = elim (cases_of_type t z) [ inl h ↦ inl h | inr n ↦ inr n.1 ]

told_small : (z : ℤ) → Told (unsigned_abs z < 2 ^ 127)
told_small z = told_by (unsigned_abs z < 2 ^ 127) (nat_lt (unsigned_abs z) (2 ^ 127)) (Decides-ltb (unsigned_abs z) (2 ^ 127))

told_reduced : (m r : ℤ) → Told (IsReduced m r)
told_reduced m r =
    told_as ((pos 0 ≤ℤ m) × (((m ≡ pos 0) ⊎ ((pos 0 ≤ℤ r) × (r <ℤ m))) × ((unsigned_abs m < 2 ^ 127) × (unsigned_abs r < 2 ^ 127)))) (IsReduced m r)
    (λ p. record { from = p.0; rest = p.1.0; modulus_held = p.1.1.0; rest_held = p.1.1.1 })
    (λ h. (h.from, (h.rest, (h.modulus_held, h.rest_held))))
    (told_and (pos 0 ≤ℤ m) _ (told_most (pos 0) m)
    (λ _. told_and ((m ≡ pos 0) ⊎ ((pos 0 ≤ℤ r) × (r <ℤ m))) _ (told_either (m ≡ pos 0) _ (told_equal m (pos 0)) (told_and (pos 0 ≤ℤ r) (r <ℤ m) (told_most (pos 0) r) (λ _. told_less r m)))
    (λ _. told_and (unsigned_abs m < 2 ^ 127) (unsigned_abs r < 2 ^ 127) (told_small m) (λ _. told_small r))))

told_value : (t : IntType) (k : Known) → Told (IsValue t k)
told_value t k =
    told_as ((InType t k.range.lo × InType t k.range.hi) × ((k.range.lo ≤ℤ k.range.hi) × IsReduced k.class.m k.class.r)) (IsValue t k)
    (λ p. record { inside = record { from = p.0.0; to = p.0.1 }; some = p.1.0; class = p.1.1 })
    (λ h. ((h.inside.from, h.inside.to), (h.some, h.class)))
    (told_and (InType t k.range.lo × InType t k.range.hi) _ (told_and (InType t k.range.lo) (InType t k.range.hi) (told_in_type t k.range.lo) (λ _. told_in_type t k.range.hi))
    (λ _. told_and (k.range.lo ≤ℤ k.range.hi) (IsReduced k.class.m k.class.r) (told_most k.range.lo k.range.hi) (λ _. told_reduced k.class.m k.class.r)))

-- the first symbols are the four numbers of a value
record IsFour (zs : List (Option ℤ)) : Type 0 where
  value : Known
  rest : List (Option ℤ)
  told : zs ≡ four_of value ++ rest

told_four : (zs : List (Option ℤ)) → Told (IsFour zs)
told_four [] = inr (λ h. let e = h.told in cc)
told_four (None ∷ zs) = inr (λ h. let e = h.told in cc)
told_four (Some a ∷ []) = inr (λ h. let e = h.told in cc)
told_four (Some a ∷ None ∷ zs) = inr (λ h. let e = h.told in cc)
told_four (Some a ∷ Some b ∷ []) = inr (λ h. let e = h.told in cc)
told_four (Some a ∷ Some b ∷ None ∷ zs) = inr (λ h. let e = h.told in cc)
told_four (Some a ∷ Some b ∷ Some c ∷ []) = inr (λ h. let e = h.told in cc)
told_four (Some a ∷ Some b ∷ Some c ∷ None ∷ zs) = inr (λ h. let e = h.told in cc)
told_four (Some a ∷ Some b ∷ Some c ∷ Some d ∷ zs) =
    inl (record { value = record { range = record { lo = a; hi = b }; class = record { m = c; r = d } }; rest = zs; told = refl })

-- a value of the type, and behind its four numbers something of R
record IsFourOf (t : IntType) (R : List (Option ℤ) → Type 0) (zs : List (Option ℤ)) : Type 0 where
  value : Known
  rest : List (Option ℤ)
  is : IsValue t value
  told : zs ≡ four_of value ++ rest
  more : R rest

told_four_of : (t : IntType) (R : List (Option ℤ) → Type 0) → ((zs : List (Option ℤ)) → Told (R zs)) → (zs : List (Option ℤ)) → Told (IsFourOf t R zs)
told_four_of t R each zs = elim (told_four zs) [
  | inl f ↦
      told_as (IsValue t f.value × R f.rest) (IsFourOf t R zs)
      (λ p. record { value = f.value; rest = f.rest; is = p.0; told = f.told; more = p.1 })
      (λ h.
      let same = parted_same (four_of h.value) (four_of f.value) h.rest f.rest refl (sym h.told ∙ f.told) in
      (subst (IsValue t) (same_four h.value f.value.range.lo f.value.range.hi f.value.class.m f.value.class.r same.0) h.is, subst R same.1 h.more))
      (told_and (IsValue t f.value) (R f.rest) (told_value t f.value) (λ _. each f.rest))
  | inr never ↦ inr (λ h. never (record { value = h.value; rest = h.rest; told = h.told }))
]

-- ---- values one behind another

-- values of these types, and behind their numbers something of R
abbrev Follow : List IntType → (List (Option ℤ) → Type 0) → List (Option ℤ) → Type 0
Follow [] R zs = R zs
Follow (t ∷ ts) R zs = IsFourOf t (Follow ts R) zs

told_follow : (ts : List IntType) (R : List (Option ℤ) → Type 0) → ((zs : List (Option ℤ)) → Told (R zs)) → (zs : List (Option ℤ)) → Told (Follow ts R zs)
told_follow [] R each zs = each zs
told_follow (t ∷ ts) R each zs = told_four_of t (Follow ts R) (told_follow ts R each) zs

-- a value of each type
abbrev pub AreOf : List IntType → List Known → Type 0
AreOf [] [] = Unit {0}
AreOf [] (v ∷ vs) = ⊥
AreOf (t ∷ ts) [] = ⊥
AreOf (t ∷ ts) (v ∷ vs) = IsValue t v × AreOf ts vs

-- the numbers of such values, and behind them something of R
pub record HaveValues (ts : List IntType) (R : List (Option ℤ) → Type 0) (zs : List (Option ℤ)) : Type 0 where
  pub values : List Known
  pub rest : List (Option ℤ)
  pub are : AreOf ts values
  pub told : zs ≡ flat_map four_of values ++ rest
  pub more : R rest

have : (ts : List IntType) (R : List (Option ℤ) → Type 0) (zs : List (Option ℤ)) → Follow ts R zs → HaveValues ts R zs
have [] R zs h = record { values = []; rest = zs; are = tt; told = refl; more = h }
have (t ∷ ts) R zs h =
    let behind = have ts R h.rest h.more in
    record {
      values = h.value ∷ behind.values;
      rest = behind.rest;
      are = (h.is, behind.are);
      told = h.told ∙ ap (λ r. four_of h.value ++ r) behind.told ∙ sym (append_assoc (four_of h.value) (flat_map four_of behind.values) behind.rest);
      more = behind.more;
    }

follow : (ts : List IntType) (R : List (Option ℤ) → Type 0) (vs : List Known) (zs rest : List (Option ℤ)) → AreOf ts vs → zs ≡ flat_map four_of vs ++ rest → R rest → Follow ts R zs
follow [] R [] zs rest are e more = subst R (sym e) more
follow [] R (v ∷ vs) zs rest are e more = absurd are
follow (t ∷ ts) R [] zs rest are e more = absurd are
follow (t ∷ ts) R (v ∷ vs) zs rest are e more = record {
  value = v;
  rest = flat_map four_of vs ++ rest;
  is = are.0;
  told = e ∙ append_assoc (four_of v) (flat_map four_of vs) rest;
  more = follow ts R vs (flat_map four_of vs ++ rest) rest are.1 refl more;
}

pub told_values : (ts : List IntType) (R : List (Option ℤ) → Type 0) → ((zs : List (Option ℤ)) → Told (R zs)) → (zs : List (Option ℤ)) → Told (HaveValues ts R zs)
told_values ts R each zs = told_as (Follow ts R zs) (HaveValues ts R zs) (have ts R zs) (λ h. follow ts R h.values zs h.rest h.are h.told h.more) (told_follow ts R each zs)

-- ---- values in the order of a line

pub many_of : (ts : List IntType) (vs : List Known) → AreOf ts vs → length vs ≡ length ts
many_of [] [] h = refl
many_of [] (v ∷ vs) h = absurd h
many_of (t ∷ ts) [] h = absurd h
many_of (t ∷ ts) (v ∷ vs) h = omega (arith, many_of ts vs h.1)

pub value_of : (l : Layout) (slots : List ℕ) (vs : List Known) → AreOf (map (type_at l.types) slots) vs → (p : ℕ) → p < length slots → IsValue (type_at l.types (slot_at slots p)) (known_at vs p)
value_of l [] vs h p q = absurd (omega (arith, q))
value_of l (j ∷ js) [] h p q = absurd h
value_of l (j ∷ js) (v ∷ vs) h zero q = h.0
value_of l (j ∷ js) (v ∷ vs) h (suc p) q = value_of l js vs h.1 p (omega (arith, q))

pub values_of : (l : Layout) (slots : List ℕ) (vs : List Known) → AreIn l vs → ((p : ℕ) → p < length slots → slot_at slots p < length l.types) → AreOf (map (type_at l.types) slots) (map (known_at vs) slots)
values_of l [] vs h there = tt
values_of l (j ∷ js) vs h there = (h.each j (there 0 (omega arith)), values_of l js vs h (λ p q. there (suc p) (omega (arith, q))))
