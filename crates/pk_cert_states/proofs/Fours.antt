-- The numbers of values, one behind the other.
use Rattle.std.specs.Prelude.{◌≡◌, ℕ, zero, suc, ◌+◌, ◌*◌, ◌<◌, ℤ, ◌≤ℤ◌, List, [], ◌∷◌, ◌++◌, map, length, take, drop, slice_index_or, slice_set, Option, Some}
use Rattle.std.proofs.Common.{arith, inl, inr, refl, sym, ap, subst, ◌∙◌, append_assoc}
use Rattle.std.proofs.lemmas.List.{length-append, length-map, map-append, length-set, get_or-set_other, get_or-take, length-take-le}
use Rattle.std.proofs.lemmas.Grind.{get_or-set_at, flat_map-append}
use Rattle.std.proofs.Math.Seq.{take-length, take-suc}
use Rattle.std.proofs.lemmas.Bool.{cases_eq}
use Rattle.pk_ctypes.specs.declared.types.IntType.{IntType}
use Rattle.pk_ctypes.specs.declared.types.IntType.TheVariants.{Int}
use Rattle.pk_ctypes.specs.Types.{InType}
use Rattle.pk_congr.specs.Classes.{IsReduced}
use Rattle.pk_value.specs.Known.{Known, any_of}
use Rattle.pk_cert.specs.declared.rows.Symbol.{Symbol}
use Rattle.pk_cert.specs.declared.rows.Symbol.TheVariants.{Star, Number, Far}
use Rattle.pk_cert.specs.Rows.{kept}
use Rattle.pk_octagons.specs.Values.{type_at, known_at, IsValue}
use Rattle.pk_state.specs.Layouts.{Layout}
use Rattle.pk_cert_states.specs.Lines.{four_of, fours_at}
use Rattle.pk_cert_states.specs.Parts.{number_of, slot_at, IsOrder, IsFirst, AreIn, AreFirst, AreFilledTo, AreFilled}

-- ---- the values at some slots

pub fours_many : (slots : List ℕ) (vs : List Known) → length (fours_at slots vs) ≡ 4 * length slots
fours_many [] vs = refl
fours_many (j ∷ js) vs = omega (arith, length-append (four_of (known_at vs j)) (fours_at js vs), fours_many js vs)

pub fours_length : (slots : List ℕ) (vs ws : List Known) → length (fours_at slots vs) ≡ length (fours_at slots ws)
fours_length slots vs ws = fours_many slots vs ∙ sym (fours_many slots ws)

-- those before a place, its own, and those behind it
pub fours_parted : (p : ℕ) (slots : List ℕ) (vs : List Known) → p < length slots
    → fours_at slots vs ≡ fours_at (take p slots) vs ++ (four_of (known_at vs (slot_at slots p)) ++ fours_at (drop (suc p) slots) vs)
fours_parted p [] vs h = absurd (omega (arith, h))
fours_parted zero (j ∷ js) vs h = refl
fours_parted (suc p) (j ∷ js) vs h =
    ap (λ r. four_of (known_at vs j) ++ r) (fours_parted p js vs (omega (arith, h)))
    ∙ sym (append_assoc (four_of (known_at vs j)) (fours_at (take p js) vs) (four_of (known_at vs (slot_at js p)) ++ fours_at (drop (suc p) js) vs))

-- one more place
pub fours_more : (p : ℕ) (slots : List ℕ) (vs : List Known) → p < length slots → fours_at (take (p + 1) slots) vs ≡ fours_at (take p slots) vs ++ four_of (known_at vs (slot_at slots p))
fours_more p slots vs h =
    let up : p + 1 ≡ suc p = omega arith in
    ap (λ n. fours_at (take n slots) vs) up ∙ ap (λ (js : List ℕ). fours_at js vs) (take-suc slots p 0 h)
    ∙ flat_map-append (λ (j : ℕ). four_of (known_at vs j)) (take p slots) (slot_at slots p ∷ [])
    ∙ ap (λ r. fours_at (take p slots) vs ++ r) (last (four_of (known_at vs (slot_at slots p))))
  where
    last : (zs : List (Option ℤ)) → zs ++ [] ≡ zs
    last [] = refl
    last (z ∷ zs) = ap (λ r. z ∷ r) (last zs)

-- a slot of which the value isn't told
pub fours_other : (slots : List ℕ) (vs : List Known) (j : ℕ) (v : Known) → ((q : ℕ) → q < length slots → slot_at slots q ≡ j → ⊥) → fours_at slots (slice_set vs j v) ≡ fours_at slots vs
fours_other [] vs j v other = refl
fours_other (i ∷ is) vs j v other =
    let here : known_at (slice_set vs j v) i ≡ known_at vs i = get_or-set_other vs j i v (any_of Int) (λ e. other 0 (omega arith) e) in
    ap (λ (k : Known). four_of k ++ fours_at is (slice_set vs j v)) here
    ∙ ap (λ r. four_of (known_at vs i) ++ r) (fours_other is vs j v (λ q h. other (suc q) (omega (arith, h))))

-- each stands once, so not before its place
not_before : (slots : List ℕ) (p : ℕ) → IsOrder slots → p < length slots → (q : ℕ) → q < length (take p slots) → slot_at (take p slots) q ≡ slot_at slots p → ⊥
not_before slots p order h q l e =
    let size = length-take-le p slots (omega (arith, h)) in
    let before : q < p = omega (arith, l, size) in
    let same : q ≡ p = order.once q p (omega (arith, before, h)) h (sym (get_or-take p slots q 0 before) ∙ e) in
    omega (arith, same, before)

cons_same : {A : Type 0} (c d : A) (a b : List A) → c ≡ d → a ≡ b → c ∷ a ≡ d ∷ b
cons_same c d a b h t = ap (λ z. z ∷ a) h ∙ ap (λ z. d ∷ z) t

-- two lists that begin with as many are parted in the same way
pub parted_same : {A : Type 0} (a b x y : List A) → length a ≡ length b → a ++ x ≡ b ++ y → (a ≡ b) × (x ≡ y)
parted_same [] [] x y n e = (refl, e)
parted_same [] (d ∷ b) x y n e = absurd (omega (arith, n))
parted_same (c ∷ a) [] x y n e = absurd (omega (arith, n))
parted_same (c ∷ a) (d ∷ b) x y n e =
    let rest = parted_same a b x y (omega (arith, n)) (ap (drop 1) e) in
    (cons_same c d a b (ap (λ r. slice_index_or r 0 c) e) rest.0, rest.1)

-- ---- the four numbers of a value

abbrev four : ℤ → ℤ → ℤ → ℤ → Known
four a b c d = record { range = record { lo = a; hi = b }; class = record { m = c; r = d } }

pub same_four : (k : Known) (lo hi m r : ℤ) → four_of k ≡ Some lo ∷ Some hi ∷ Some m ∷ Some r ∷ [] → k ≡ record { range = record { lo = lo; hi = hi }; class = record { m = m; r = r } }
same_four k lo hi m r e =
    let a : k.range.lo ≡ lo = cc in
    let b : k.range.hi ≡ hi = cc in
    let c : k.class.m ≡ m = cc in
    let d : k.class.r ≡ r = cc in
    ap (λ x. four x k.range.hi k.class.m k.class.r) a ∙ ap (λ x. four lo x k.class.m k.class.r) b ∙ ap (λ x. four lo hi x k.class.r) c ∙ ap (λ x. four lo hi m x) d

pub is_classless : (t : IntType) (lo hi m r : ℤ) → (IsReduced m r → ⊥) → (k : Known) → IsValue t k → four_of k ≡ Some lo ∷ Some hi ∷ Some m ∷ Some r ∷ [] → ⊥
is_classless t lo hi m r none k h e = let same = same_four k lo hi m r e in none (subst (λ (j : Known). IsReduced j.class.m j.class.r) same h.class)

pub is_rangeless : (t : IntType) (lo hi m r : ℤ) → (InType t lo → InType t hi → lo ≤ℤ hi → ⊥) → (k : Known) → IsValue t k → four_of k ≡ Some lo ∷ Some hi ∷ Some m ∷ Some r ∷ [] → ⊥
is_rangeless t lo hi m r none k h e =
    let same = same_four k lo hi m r e in
    none (subst (λ (j : Known). InType t j.range.lo) same h.inside.from) (subst (λ (j : Known). InType t j.range.hi) same h.inside.to) (subst (λ (j : Known). j.range.lo ≤ℤ j.range.hi) same h.some)

number_known : (s : Symbol) (z : ℤ) → number_of s ≡ Some z → s ≡ Number z
number_known Star z e = absurd (cc)
number_known (Number y) z e = cc
number_known Far z e = absurd (cc)

-- the first four symbols, where each is a number
pub four_symbols : (a b c d : Symbol) (rest : List Symbol) (lo hi m r : ℤ) (k : Known) → number_of a ≡ Some lo → number_of b ≡ Some hi → number_of c ≡ Some m → number_of d ≡ Some r
    → four_of k ≡ Some lo ∷ Some hi ∷ Some m ∷ Some r ∷ [] → a ∷ b ∷ c ∷ d ∷ rest ≡ map kept (four_of k) ++ rest
four_symbols a b c d rest lo hi m r k ea eb ec ed e =
    let wa = number_known a lo ea in
    let wb = number_known b hi eb in
    let wc = number_known c m ec in
    let wd = number_known d r ed in
    ap (λ x. x ∷ b ∷ c ∷ d ∷ rest) wa ∙ ap (λ x. Number lo ∷ x ∷ c ∷ d ∷ rest) wb ∙ ap (λ x. Number lo ∷ Number hi ∷ x ∷ d ∷ rest) wc ∙ ap (λ x. Number lo ∷ Number hi ∷ Number m ∷ x ∷ rest) wd
    ∙ ap (λ (j : Known). map kept (four_of j) ++ rest) (sym (same_four k lo hi m r e))

-- the first four symbols are those of a value
pub four_read : (t : IntType) (a b c d : Symbol) (rest symbols : List Symbol) (lo hi m r : ℤ) (k : Known) → symbols ≡ a ∷ b ∷ c ∷ d ∷ rest → number_of a ≡ Some lo → number_of b ≡ Some hi → number_of c ≡ Some m → number_of d ≡ Some r
    → IsFirst t symbols k → four_of k ≡ Some lo ∷ Some hi ∷ Some m ∷ Some r ∷ []
four_read t a b c d rest symbols lo hi m r k s ea eb ec ed h =
    let same : a ∷ b ∷ c ∷ d ∷ rest ≡ map kept (four_of k) ++ h.told.0 = sym s ∙ h.told.1 in
    let wa : a ≡ Number k.range.lo = cc in
    let wb : b ≡ Number k.range.hi = cc in
    let wc : c ≡ Number k.class.m = cc in
    let wd : d ≡ Number k.class.r = cc in
    let pa : Some k.range.lo ≡ Some lo = sym (ap number_of wa) ∙ ea in
    let pb : Some k.range.hi ≡ Some hi = sym (ap number_of wb) ∙ eb in
    let pc : Some k.class.m ≡ Some m = sym (ap number_of wc) ∙ ec in
    let pd : Some k.class.r ≡ Some r = sym (ap number_of wd) ∙ ed in
    ap (λ x. x ∷ Some k.range.hi ∷ Some k.class.m ∷ Some k.class.r ∷ []) pa ∙ ap (λ x. Some lo ∷ x ∷ Some k.class.m ∷ Some k.class.r ∷ []) pb
    ∙ ap (λ x. Some lo ∷ Some hi ∷ x ∷ Some k.class.r ∷ []) pc ∙ ap (λ x. Some lo ∷ Some hi ∷ Some m ∷ x ∷ []) pd

-- ---- filling

pub filled_begun : (l : Layout) (slots : List ℕ) (symbols : List Symbol) (vs : List Known) → AreIn l vs → AreFilledTo l slots symbols symbols vs 0
filled_begun l slots symbols vs h = record { values = h; told = refl }

in_set : (l : Layout) (vs : List Known) (j : ℕ) (v : Known) → AreIn l vs → j < length l.types → IsValue (type_at l.types j) v → AreIn l (slice_set vs j v)
in_set l vs j v h p is = record {
  size = length-set vs j v ∙ h.size;
  each = λ y q. elim (cases_eq y j) [
    | inl s ↦ subst (λ (k : Known). IsValue (type_at l.types y) k) (sym (get_or-set_at vs j y v (any_of Int) s (omega (arith, p, h.size)))) (subst (λ (z : ℕ). IsValue (type_at l.types z) v) (sym s) is)
    | inr s ↦ subst (λ (k : Known). IsValue (type_at l.types y) k) (sym (get_or-set_other vs j y v (any_of Int) s)) (h.each y q)
  ];
}

-- a value is written
pub filled_on : (l : Layout) (slots : List ℕ) (symbols rest behind : List Symbol) (vs : List Known) (p j : ℕ) (v : Known) → IsOrder slots → length l.types ≡ length slots → AreFilledTo l slots symbols rest vs p → p < length slots → j ≡ slot_at slots p
    → IsValue (type_at l.types j) v → rest ≡ map kept (four_of v) ++ behind → AreFilledTo l slots symbols behind (slice_set vs j v) (p + 1)
filled_on l slots symbols rest behind vs p j v order same h below at is told =
    let inside : j < length l.types = omega (arith, at, order.below p below, same) in
    let now = slice_set vs j v in
    let here : known_at now (slot_at slots p) ≡ v = get_or-set_at vs j (slot_at slots p) v (any_of Int) (sym at) (omega (arith, inside, h.values.size)) in
    let before : fours_at (take p slots) now ≡ fours_at (take p slots) vs = fours_other (take p slots) vs j v (λ q l e. not_before slots p order below q l (e ∙ at)) in
    let at_end : fours_at (take (p + 1) slots) now ≡ fours_at (take p slots) vs ++ four_of v =
    fours_more p slots now below ∙ ap (λ r. r ++ four_of (known_at now (slot_at slots p))) before ∙ ap (λ (k : Known). fours_at (take p slots) vs ++ four_of k) here in
    record {
      values = in_set l vs j v h.values inside is;
      told = h.told ∙ ap (λ r. map kept (fours_at (take p slots) vs) ++ r) told
          ∙ sym (append_assoc (map kept (fours_at (take p slots) vs)) (map kept (four_of v)) behind)
          ∙ ap (λ r. r ++ behind) (sym (map-append kept (fours_at (take p slots) vs) (four_of v)))
          ∙ ap (λ (r : List (Option ℤ)). map kept r ++ behind) (sym at_end);
    }

-- where no value stands next, there are none of all slots
pub filled_not : (l : Layout) (slots : List ℕ) (symbols rest : List Symbol) (vs ws : List Known) (p j : ℕ) → IsOrder slots → length l.types ≡ length slots → AreFilledTo l slots symbols rest vs p → p < length slots → j ≡ slot_at slots p
    → ((k : Known) → IsFirst (type_at l.types j) rest k → ⊥) → AreFirst l slots symbols ws → ⊥
filled_not l slots symbols rest vs ws p j order same h below at none f =
    let inside : j < length l.types = omega (arith, at, order.below p below, same) in
    let front = fours_at (take p slots) ws in
    let own = four_of (known_at ws (slot_at slots p)) in
    let behind = fours_at (drop (suc p) slots) ws in
    let whole : symbols ≡ map kept front ++ (map kept own ++ (map kept behind ++ f.told.0)) =
    f.told.1 ∙ ap (λ (r : List (Option ℤ)). map kept r ++ f.told.0) (fours_parted p slots ws below)
    ∙ ap (λ r. r ++ f.told.0) (map-append kept front (own ++ behind) ∙ ap (λ r. map kept front ++ r) (map-append kept own behind))
    ∙ append_assoc (map kept front) (map kept own ++ map kept behind) f.told.0
    ∙ ap (λ r. map kept front ++ r) (append_assoc (map kept own) (map kept behind) f.told.0) in
    let mine = fours_at (take p slots) vs in
    let as_long : length (map kept mine) ≡ length (map kept front) = length-map mine kept ∙ fours_length (take p slots) vs ws ∙ sym (length-map front kept) in
    let parted = parted_same (map kept mine) (map kept front) rest (map kept own ++ (map kept behind ++ f.told.0)) as_long (sym h.told ∙ whole) in
    none (known_at ws j) (record {
      value = f.values.each j inside;
      told = (map kept behind ++ f.told.0, parted.1 ∙ ap (λ (i : ℕ). map kept (four_of (known_at ws i)) ++ (map kept behind ++ f.told.0)) (sym at));
    })

pub filled_all : (l : Layout) (slots : List ℕ) (symbols rest : List Symbol) (vs : List Known) (p : ℕ) → AreFilledTo l slots symbols rest vs p → p ≡ length slots → AreFilled l slots symbols rest vs
filled_all l slots symbols rest vs p h e = record {
  values = h.values;
  told = h.told ∙ ap (λ (js : List ℕ). map kept (fours_at js vs) ++ rest) (ap (λ n. take n slots) e ∙ take-length slots);
}
