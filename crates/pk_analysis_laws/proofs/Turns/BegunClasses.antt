-- The start state is one in which classes are of their variables' types.
use Rattle.std.specs.Prelude.{◌≡◌, ℕ, zero, suc, ◌+◌, ◌<◌, nat_lt, Bool, true, false, if◌then◌else◌, ℤ, pos, List, [], ◌∷◌, ◌++◌, map, length, replicate, slice_index_or, All, Some}
use Rattle.std.specs.List.{flat_map, range_with_len}
use Rattle.std.proofs.Common.{arith, sym, subst, ◌∙◌}
use Rattle.std.proofs.lemmas.Int.{ints}
use Rattle.std.proofs.lemmas.List.{length-map}
use Rattle.std.proofs.lemmas.List.Elements.{All-head, All-tail}
use Rattle.pk_ctypes.specs.declared.types.IntType.{IntType}
use Rattle.pk_ctypes.specs.declared.types.IntType.TheVariants.{Int}
use Rattle.pk_ctypes.specs.Types.{InType}
use Rattle.pk_ctypes.proofs.Wrapped.{zero_in}
use Rattle.pk_congr.specs.Laws.{IsOf}
use Rattle.pk_congr.proofs.Keeping.{unchanged}
use Rattle.pk_graph.specs.Kinds.{Kind, count_of}
use Rattle.pk_graph.specs.Graphs.{VariableOf, StartOf, any_start, number_start, GraphOf, kinds_of}
use Rattle.pk_graph.specs.WellMade.{IsGraph, IsStartOf}
use Rattle.pk_value.specs.Known.{Known, any_of, exactly, joined}
use Rattle.pk_state.specs.Layouts.{Layout, IsLayout}
use Rattle.pk_octagons.specs.Values.{known_at}
use Rattle.pk_transfer.specs.Slots.{is_small, further_count, further_types, slot_types}
use Rattle.pk_transfer.specs.Trees.{IsOver}
use Rattle.pk_transfer.proofs.Slotting.{further_length}
use Rattle.pk_analysis.specs.Starts.{joined_with, known_of_numbers, known_of_start, start_known, known_of_number, own_known, further_known, start_values, start_facts}
use Rattle.pk_sound.proofs.Begun.{given_in, further_many, start_stays}
use Rattle.pk_sound.proofs.Values_stay.{exactly_value}
use Rattle.pk_analysis_laws.specs.Ranks.States.{IsStateOf}
use Rattle.pk_state.proofs.Tops.{any_value}

-- a value's class is one of the type
IsClassOf : IntType → Known → Type 0
IsClassOf t k = IsOf t k.class

exactly_class : (t : IntType) (z : ℤ) → InType t z → IsClassOf t (exactly z)
unfolding IsClassOf
exactly_class t z h = record { reduced = (exactly_value t z h).class; modulus = omega (arith, ints); constant = λ e. h }

any_class : (t : IntType) → IsClassOf t (any_of t)
unfolding IsClassOf
any_class t = record { reduced = (any_value t).class; modulus = omega (arith, ints); constant = λ e. absurd (omega (arith, ints, e)) }

joined_class : (t : IntType) (a b : Known) → IsClassOf t a → IsClassOf t b → IsClassOf t (joined a b)
unfolding IsClassOf
joined_class t a b h k = unchanged.widened_of t a.class b.class h k

joined_with_class : (t : IntType) (k : Known) (zs : List ℤ) → IsClassOf t k → All (InType t) zs → IsClassOf t (joined_with k zs)
joined_with_class t k [] h a = h
joined_with_class t k (z ∷ zs) h a = joined_with_class t (joined k (exactly z)) zs (joined_class t k (exactly z) h (exactly_class t z (All-head (InType t) z zs a))) (All-tail (InType t) z zs a)

zero_of : (t : IntType) → InType t (pos 0)
zero_of t = let zero = zero_in t in record { from = zero.0; to = zero.1 }

given_class : (t : IntType) (short : Bool) (zs : List ℤ) → All (InType t) zs → IsClassOf t (known_of_numbers short zs)
given_class t short [] a = exactly_class t (pos 0) (zero_of t)
given_class t short (z ∷ zs) a = by short (joined_with_class t (exactly z) zs (exactly_class t z (All-head (InType t) z zs a)) (All-tail (InType t) z zs a))
  where
    by : (b : Bool) → IsClassOf t (joined_with (exactly z) zs) → IsClassOf t (if b then joined (joined_with (exactly z) zs) (exactly (pos 0)) else joined_with (exactly z) zs)
    by true h = joined_class t (joined_with (exactly z) zs) (exactly (pos 0)) h (exactly_class t (pos 0) (zero_of t))
    by false h = h

start_class : (x : VariableOf) (s : StartOf) → IsStartOf x s → IsClassOf x.kind.int_type (known_of_start x s)
start_class x any_start h = any_class x.kind.int_type
start_class x (number_start zs) h = given_class x.kind.int_type (nat_lt (length zs) (count_of x.kind.length)) zs h.1

number_class : (x : VariableOf) (s : StartOf) (i : ℕ) → IsStartOf x s → IsClassOf x.kind.int_type (known_of_number x s i)
number_class x any_start i h = any_class x.kind.int_type
number_class x (number_start zs) i h = exactly_class x.kind.int_type (slice_index_or zs i (pos 0)) (given_in x.kind.int_type zs i h.1)

own_class : (x : VariableOf) → IsStartOf x x.start → IsClassOf x.kind.int_type (own_known x)
own_class x h = by (is_small x.kind.length)
  where
    by : (b : Bool) → IsClassOf x.kind.int_type (if b then known_of_number x x.start 0 else start_known x)
    by true = number_class x x.start 0 h
    by false = start_class x x.start h

-- classes of these types, one by one
abbrev AreClasses : List Known → List IntType → Type 0
AreClasses [] ts = Unit {0}
AreClasses (k ∷ ks) [] = ⊥
AreClasses (k ∷ ks) (t ∷ ts) = IsClassOf t k × AreClasses ks ts

class_at : (ks : List Known) (ts : List IntType) (j : ℕ) → AreClasses ks ts → j < length ks → IsClassOf (slice_index_or ts j Int) (known_at ks j)
class_at [] ts j h p = absurd (omega arith)
class_at (k ∷ ks) [] j h p = absurd h
class_at (k ∷ ks) (t ∷ ts) zero h p = h.0
class_at (k ∷ ks) (t ∷ ts) (suc j) h p = class_at ks ts j h.1 (omega (arith, p))

class_append : (ks js : List Known) (ts us : List IntType) → length ks ≡ length ts → AreClasses ks ts → AreClasses js us → AreClasses (ks ++ js) (ts ++ us)
class_append [] js [] us e h g = g
class_append [] js (t ∷ ts) us e h g = absurd (omega (arith, e))
class_append (k ∷ ks) js [] us e h g = absurd h
class_append (k ∷ ks) js (t ∷ ts) us e h g = (h.0, class_append ks js ts us (omega (arith, e)) h.1 g)

abbrev Begins : VariableOf → Type 0
Begins x = IsStartOf x x.start

own_classes : (xs : List VariableOf) → All Begins xs → AreClasses (map own_known xs) (map (λ (k : Kind). k.int_type) (map (λ (x : VariableOf). x.kind) xs))
own_classes [] h = tt
own_classes (x ∷ xs) h = (own_class x (All-head Begins x xs h), own_classes xs (All-tail Begins x xs h))

number_classes : (x : VariableOf) (from n : ℕ) → Begins x → AreClasses (map (λ i. known_of_number x x.start (suc i)) (range_with_len from n)) (replicate n x.kind.int_type)
number_classes x from zero h = tt
number_classes x from (suc n) h = (number_class x x.start (suc from) h, number_classes x (from + 1) n h)

further_classes : (xs : List VariableOf) → All Begins xs → AreClasses (flat_map further_known xs) (flat_map further_types (map (λ (x : VariableOf). x.kind) xs))
further_classes [] h = tt
further_classes (x ∷ xs) h =
    class_append (further_known x) (flat_map further_known xs) (further_types x.kind) (flat_map further_types (map (λ (x : VariableOf). x.kind) xs))
    (further_many x ∙ sym (further_length x.kind)) (number_classes x 0 (further_count x.kind.length) (All-head Begins x xs h)) (further_classes xs (All-tail Begins x xs h))

pub start_state : (g : GraphOf) (l : Layout) → IsGraph g → IsLayout l → IsOver (kinds_of g) l → IsStateOf l (Some (start_facts g l))
unfolding IsClassOf
start_state g l made lay over = record {
  facts = start_stays g l made lay over;
  classes = λ j p.
      let begins : All Begins g.variables = λ k d h. made.starts k d h in
      let own = length-map g.variables own_known ∙ sym (length-map (kinds_of g) (λ (k : Kind). k.int_type) ∙ length-map g.variables (λ (x : VariableOf). x.kind)) in
      let all = class_append (map own_known g.variables) (flat_map further_known g.variables) (map (λ (k : Kind). k.int_type) (kinds_of g)) (flat_map further_types (kinds_of g)) own (own_classes g.variables begins) (further_classes g.variables begins) in
      subst (λ (ts : List IntType). IsOf (slice_index_or ts j Int) (known_at (start_values g.variables) j).class) (sym over.types) (class_at (start_values g.variables) (slot_types (kinds_of g)) j all p);
}
