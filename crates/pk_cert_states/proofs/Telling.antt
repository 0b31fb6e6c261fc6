-- Lines of facts: their numbers are short, and they tell the facts.
use Rattle.std.specs.Prelude.{◌≡◌, ℕ, zero, suc, ◌+◌, ◌*◌, ◌/◌, ◌%◌, ◌<◌, ◌≤◌, ◌^◌, Bool, true, false, nat_lt, if◌then◌else◌, is_some, ℤ, unsigned_abs, List, [], ◌∷◌, ◌++◌, map, length, Option, Some, None, IfSome, slice_index_or}
use Rattle.std.proofs.Common.{arith, refl, sym, ap, subst, ◌∙◌}
use Rattle.std.proofs.lemmas.Bool.{lt-ltb}
use Rattle.std.proofs.lemmas.Int.{ints}
use Rattle.std.proofs.lemmas.List.{length-append, ext_get_or}
use Rattle.std.proofs.Math.Nat.{div-add-mod, div-lt_iff_lt-mul, mod-lt}
use Rattle.pk_graph.specs.Kinds.{Kinds}
use Rattle.pk_graph.specs.Graphs.{GraphOf, kinds_of}
use Rattle.pk_ctypes.specs.declared.types.IntType.TheVariants.{Int}
use Rattle.pk_value.specs.Known.{Known, any_of}
use Rattle.pk_value.proofs.Sound.{small_in}
use Rattle.pk_octmat.specs.Bounds.{IsNear}
use Rattle.pk_octmat.specs.Octagon.{Octagon, IsOctagon, cell_at}
use Rattle.pk_octmat.proofs.Cells.{cell_in}
use Rattle.pk_state.specs.Layouts.{Layout}
use Rattle.pk_octagons.specs.Values.{known_at}
use Rattle.pk_state.specs.Facts.{Facts, AreFacts, AreFactsIf}
use Rattle.pk_transfer.specs.Graphs.{layout_of}
use Rattle.pk_cert.specs.declared.rows.Symbol.{Symbol}
use Rattle.pk_cert.specs.declared.rows.Symbol.TheVariants.{Star, Number, Far}
use Rattle.pk_cert.specs.Rows.{IsShort, IsSymbol, EachOf, AreEach, Line, IsLine, seen, kept, kept_line, seen_line}
use Rattle.pk_cert_states.specs.Lines.{own_octagon, own_pack, HasOne, line_slots, four_of, fours_at, symbols_in, symbols_of, line_of, shape_of}
use Rattle.pk_cert_states.specs.Parts.{slot_at, IsOrder}
use Rattle.pk_cert_states.specs.Laws.{FactsHaveLines}
use Rattle.pk_cert_states.proofs.Ordering.{line_order, slots_counted}
use Rattle.pk_cert_states.proofs.Ones.{one_of}
use Rattle.pk_cert_states.proofs.Fours.{fours_many, fours_length, parted_same, same_four}

-- ---- numbers below 2^127

abbrev IsSmall : ℤ → Type 0
IsSmall z = unsigned_abs z < 2 ^ 127

abbrev AreSmall : List (Option ℤ) → Type 0
AreSmall [] = Unit {0}
AreSmall (z ∷ zs) = IfSome z IsSmall × AreSmall zs

-- each is a number
abbrev AreNumbers : List (Option ℤ) → Type 0
AreNumbers [] = Unit {0}
AreNumbers (z ∷ zs) = (is_some z ≡ true) × AreNumbers zs

short : (z : Option ℤ) → IfSome z IsSmall → IfSome z IsShort
short None h = tt
short (Some z) h = omega (arith, h)

small_joined : (a b : List (Option ℤ)) → AreSmall a → AreSmall b → AreSmall (a ++ b)
small_joined [] b h k = k
small_joined (z ∷ a) b h k = (h.0, small_joined a b h.1 k)

numbers_joined : (a b : List (Option ℤ)) → AreNumbers a → AreNumbers b → AreNumbers (a ++ b)
numbers_joined [] b h k = k
numbers_joined (z ∷ a) b h k = (h.0, numbers_joined a b h.1 k)

-- ---- the symbols of a line

bounds_each : (bounds : ℕ) (zs : List (Option ℤ)) → length zs ≤ bounds → AreSmall zs → EachOf (IsSymbol bounds) zs
bounds_each bounds [] l h = tt
bounds_each bounds (z ∷ zs) l h = (record { number = λ m. absurd (omega (arith, l, m)); short = short z h.0 }, bounds_each bounds zs (omega (arith, l)) h.1)

numbers_each : (bounds : ℕ) (a b : List (Option ℤ)) → AreSmall a → AreNumbers a → EachOf (IsSymbol bounds) b → EachOf (IsSymbol bounds) (a ++ b)
numbers_each bounds [] b s n h = h
numbers_each bounds (z ∷ a) b s n h = (record { number = λ m. n.0; short = short z s.0 }, numbers_each bounds a b s.1 n.1 h)

-- ---- the numbers of values

-- those of a value are below 2^127
pub record IsSmallValue (v : Known) : Type 0 where
  pub lo : IsSmall v.range.lo
  pub hi : IsSmall v.range.hi
  pub m : IsSmall v.class.m
  pub r : IsSmall v.class.r

abbrev AreSmallValues : List Known → Type 0
AreSmallValues vs = (x : ℕ) → x < length vs → IsSmallValue (known_at vs x)

four_small : (v : Known) → IsSmallValue v → AreSmall (four_of v)
four_small v h = (h.lo, (h.hi, (h.m, (h.r, tt))))

fours_small : (slots : List ℕ) (vs : List Known) → AreSmallValues vs → ((p : ℕ) → p < length slots → slot_at slots p < length vs) → AreSmall (fours_at slots vs)
fours_small [] vs h there = tt
fours_small (j ∷ js) vs h there =
    small_joined (four_of (known_at vs j)) (fours_at js vs) (four_small (known_at vs j) (h j (there 0 (omega arith)))) (fours_small js vs h (λ p q. there (suc p) (omega (arith, q))))

fours_numbers : (slots : List ℕ) (vs : List Known) → AreNumbers (fours_at slots vs)
fours_numbers [] vs = tt
fours_numbers (j ∷ js) vs = numbers_joined (four_of (known_at vs j)) (fours_at js vs) (refl, (refl, (refl, (refl, tt)))) (fours_numbers js vs)

-- ---- the bounds of an octagon

near_small : (z : Option ℤ) → IsNear (2 ^ 66) z → IfSome z IsSmall
near_small None h = tt
near_small (Some z) h = omega (arith, ints, h.0, h.1)

each_small : (zs : List (Option ℤ)) → ((k : ℕ) → k < length zs → IfSome (slice_index_or zs k None) IsSmall) → AreSmall zs
each_small [] h = tt
each_small (z ∷ zs) h = (h 0 (omega arith), each_small zs (λ k p. h (suc k) (omega (arith, p))))

some_places : (d k : ℕ) → k < d * d → 0 < d
some_places zero k p = absurd (omega arith)
some_places (suc c) k p = omega arith

cells_small : (m : Octagon) → IsOctagon m → AreSmall m.cells
cells_small m h = each_small m.cells (λ k p. at (2 * m.vars) k m.cells h.whole.near (subst (λ c. k < c) h.whole.size p))
  where
    at : (d k : ℕ) (cells : List (Option ℤ)) → ((i j : ℕ) → IsNear (2 ^ 66) (cell_at d cells i j)) → k < d * d → IfSome (slice_index_or cells k None) IsSmall
    at d k cells near p =
        let some : 0 < d = some_places d k p in
        let id : k / d < d = (div-lt_iff_lt-mul {k = d} {x = k} {y = d} some).1 p in
        let jd : k % d < d = mod-lt k some in
        let split : (k / d) * d + k % d ≡ k = omega (arith, div-add-mod k d) in
        let there : cell_at d cells (k / d) (k % d) ≡ slice_index_or cells k None = cell_in d cells (k / d) (k % d) id jd ∙ ap (λ (c : ℕ). slice_index_or cells c None) split in
        near_small (slice_index_or cells k None) (subst (IsNear (2 ^ 66)) there (near (k / d) (k % d)))

-- ---- facts

values_small : (l : Layout) (f : Facts) → AreFacts l f → AreSmallValues f.values
values_small l f h x p = let inside = h.values.inside x p in let class = h.values.classes x p in record {
  lo = small_in _ _ inside.from;
  hi = small_in _ _ inside.to;
  m = class.modulus_held;
  r = class.rest_held;
}

all_there : (l : Layout) (slots : List ℕ) (f : Facts) → IsOrder slots → length l.types ≡ length slots → AreFacts l f → (p : ℕ) → p < length slots → slot_at slots p < length f.values
all_there l slots f order same h p q = omega (arith, order.below p q, h.values.size, same)

facts_small : (l : Layout) (slots : List ℕ) (f : Facts) → HasOne l → IsOrder slots → length l.types ≡ length slots → AreFacts l f → AreSmall (symbols_in slots f)
facts_small l slots f one order same h =
    small_joined (fours_at slots f.values) (own_octagon f).cells (fours_small slots f.values (values_small l f h) (all_there l slots f order same h)) (cells_small (own_octagon f) (one_of l f one h).octagon)

-- the line has as many symbols as its shape
facts_line : (l : Layout) (slots : List ℕ) (f : Facts) → HasOne l → IsOrder slots → length l.types ≡ length slots → AreFacts l f
    → AreEach (4 * length slots + 2 * length (own_pack l) * (2 * length (own_pack l))) (IsSymbol (2 * length (own_pack l) * (2 * length (own_pack l)))) (symbols_in slots f)
facts_line l slots f one order same h =
    let numbers = fours_at slots f.values in
    let cells = (own_octagon f).cells in
    let own = one_of l f one h in
    let bounds : ℕ = 2 * length (own_pack l) * (2 * length (own_pack l)) in
    let many : length cells ≡ 2 * length (own_pack l) * (2 * length (own_pack l)) = own.octagon.whole.size ∙ ap (λ (n : ℕ). 2 * n * (2 * n)) own.vars in
    record {
      size = omega (arith, length-append numbers cells, many, fours_many slots f.values);
      each = numbers_each bounds numbers cells (fours_small slots f.values (values_small l f h) (all_there l slots f order same h)) (fours_numbers slots f.values)
          (bounds_each bounds cells (omega (arith, many)) (cells_small (own_octagon f) own.octagon));
    }

-- ---- what a reader keeps

seen_small : (z : Option ℤ) → IfSome z IsSmall → seen z ≡ kept z
seen_small None h = refl
seen_small (Some z) h = ap (λ (b : Bool). if b then Number z else Far) (lt-ltb (unsigned_abs z) (2 ^ 127) h)

all_seen : (zs : List (Option ℤ)) → AreSmall zs → map seen zs ≡ map kept zs
all_seen [] h = refl
all_seen (z ∷ zs) h = ap (λ (s : Symbol). s ∷ map seen zs) (seen_small z h.0) ∙ ap (λ (s : List Symbol). kept z ∷ s) (all_seen zs h.1)

seen_number : (b : Bool) (y z : ℤ) → (if b then Number y else Far) ≡ Number z → y ≡ z
seen_number true y z e = cc
seen_number false y z e = absurd (cc)

seen_star : (b : Bool) (y : ℤ) → (if b then Number y else Far) ≡ Star → ⊥
seen_star true y e = cc
seen_star false y e = cc

seen_one : (y z : Option ℤ) → seen y ≡ kept z → y ≡ z
seen_one None None e = refl
seen_one None (Some z) e = absurd (cc)
seen_one (Some y) None e = absurd (seen_star (nat_lt (unsigned_abs y) (2 ^ 127)) y e)
seen_one (Some y) (Some z) e = ap (λ (x : ℤ). Some x) (seen_number (nat_lt (unsigned_abs y) (2 ^ 127)) y z e)

seen_all : (ys zs : List (Option ℤ)) → map seen ys ≡ map kept zs → ys ≡ zs
seen_all [] [] e = refl
seen_all [] (z ∷ zs) e = absurd (cc)
seen_all (y ∷ ys) [] e = absurd (cc)
seen_all (y ∷ ys) (z ∷ zs) e =
    let head : seen y ≡ kept z = cc in
    let tail : map seen ys ≡ map kept zs = cc in
    ap (λ (x : Option ℤ). x ∷ ys) (seen_one y z head) ∙ ap (λ (xs : List (Option ℤ)). z ∷ xs) (seen_all ys zs tail)

-- a line that is read as one whose numbers are kept is that line
pub read_is_kept : (a b : Line) → seen_line a ≡ kept_line b → a ≡ b
read_is_kept None None e = refl
read_is_kept None (Some zs) e = absurd (cc)
read_is_kept (Some ys) None e = absurd (cc)
read_is_kept (Some ys) (Some zs) e = let same : map seen ys ≡ map kept zs = cc in ap (λ (xs : List (Option ℤ)). Some xs) (seen_all ys zs same)

-- ---- the facts of a line

-- values with the same numbers are the same at each place
known_once : (slots : List ℕ) (vs ws : List Known) → fours_at slots vs ≡ fours_at slots ws → (p : ℕ) → p < length slots → known_at vs (slot_at slots p) ≡ known_at ws (slot_at slots p)
known_once [] vs ws e p h = absurd (omega (arith, h))
known_once (j ∷ js) vs ws e zero h =
    let w = known_at ws j in
    same_four (known_at vs j) w.range.lo w.range.hi w.class.m w.class.r (parted_same (four_of (known_at vs j)) (four_of w) (fours_at js vs) (fours_at js ws) refl e).0
known_once (j ∷ js) vs ws e (suc p) h =
    known_once js vs ws (parted_same (four_of (known_at vs j)) (four_of (known_at ws j)) (fours_at js vs) (fours_at js ws) refl e).1 p (omega (arith, h))

values_once : (slots : List ℕ) (vs ws : List Known) → IsOrder slots → length vs ≡ length slots → length ws ≡ length slots → fours_at slots vs ≡ fours_at slots ws → vs ≡ ws
values_once slots vs ws order p q e =
    ext_get_or (any_of Int) vs ws (p ∙ sym q)
    (λ j h.
    let at = order.place j (omega (arith, h, p)) in
    subst (λ (i : ℕ). known_at vs i ≡ known_at ws i) at.2 (known_once slots vs ws e at.0 at.1))

abbrev facts_with : List Known → ℕ → List (Option ℤ) → Facts
facts_with vs n cells = record { values = vs; octagons = record { vars = n; cells = cells } ∷ [] }

-- facts with one octagon are its bounds and the values
facts_are : (f : Facts) → f.octagons ≡ own_octagon f ∷ [] → f ≡ facts_with f.values (own_octagon f).vars (own_octagon f).cells
facts_are f e = ap (λ (ms : List Octagon). let g : Facts = record { values = f.values; octagons = ms } in g) e

facts_once : (l : Layout) (slots : List ℕ) (f h : Facts) → HasOne l → IsOrder slots → length l.types ≡ length slots → AreFacts l f → AreFacts l h → symbols_in slots f ≡ symbols_in slots h → f ≡ h
facts_once l slots f h one order same p q e =
    let left = one_of l f one p in
    let right = one_of l h one q in
    let parted = parted_same (fours_at slots f.values) (fours_at slots h.values) (own_octagon f).cells (own_octagon h).cells (fours_length slots f.values h.values) e in
    facts_are f left.only
    ∙ ap (λ (vs : List Known). facts_with vs (own_octagon f).vars (own_octagon f).cells) (values_once slots f.values h.values order (p.values.size ∙ same) (q.values.size ∙ same) parted.0)
    ∙ ap (λ (n : ℕ). facts_with h.values n (own_octagon f).cells) (left.vars ∙ sym right.vars)
    ∙ ap (λ (cells : List (Option ℤ)). facts_with h.values (own_octagon h).vars cells) parted.1
    ∙ sym (facts_are h right.only)

-- ---- the law

pub has_line : (l : Layout) (ks : Kinds) (f : Option Facts) → HasOne l → length l.types ≡ length (line_slots ks) → AreFactsIf l f → IsLine (shape_of ks l) (line_of ks f)
has_line l ks None one same h = tt
has_line l ks (Some f) one same h = facts_line l (line_slots ks) f one (line_order ks) same h

pub is_kept : (l : Layout) (ks : Kinds) (f : Option Facts) → HasOne l → length l.types ≡ length (line_slots ks) → AreFactsIf l f → seen_line (line_of ks f) ≡ kept_line (line_of ks f)
is_kept l ks None one same h = refl
is_kept l ks (Some f) one same h = ap (λ (s : List Symbol). Some s) (all_seen (symbols_of ks f) (facts_small l (line_slots ks) f one (line_order ks) same h))

pub is_only : (l : Layout) (ks : Kinds) (f h : Option Facts) → HasOne l → length l.types ≡ length (line_slots ks) → AreFactsIf l f → AreFactsIf l h → line_of ks f ≡ line_of ks h → f ≡ h
is_only l ks None None one same p q e = refl
is_only l ks None (Some h) one same p q e = absurd (cc)
is_only l ks (Some f) None one same p q e = absurd (cc)
is_only l ks (Some f) (Some h) one same p q e = let told : symbols_of ks f ≡ symbols_of ks h = cc in ap (λ (x : Facts). Some x) (facts_once l (line_slots ks) f h one (line_order ks) same p q told)

pub as_many : (g : GraphOf) (n : ℕ) → length (layout_of g n).types ≡ length (line_slots (kinds_of g))
as_many g n = slots_counted (kinds_of g)

pub facts_have_lines : FactsHaveLines
facts_have_lines g n f h = record {
  line = has_line (layout_of g n) (kinds_of g) f refl (as_many g n) h;
  kept = is_kept (layout_of g n) (kinds_of g) f refl (as_many g n) h;
  only = λ k q e. is_only (layout_of g n) (kinds_of g) f k refl (as_many g n) h q e;
}
