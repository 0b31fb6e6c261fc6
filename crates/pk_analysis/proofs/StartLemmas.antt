-- The start state, variable by variable.
use Rattle.std.specs.Prelude.{replicate, All}
use Rattle.std.proofs.Common.{◌≡◌, ◌<◌, ◌≤◌, ◌+◌, ◌-◌, ℕ, zero, suc, ap, ◌∙◌, sym, subst, refl, Bool, if◌then◌else◌, ℤ, pos, List, [], ◌∷◌, ◌++◌, length, take, drop, set, map, Some, arith}
use Rattle.std.specs.List.{slice_index_or, flat_map, range_with_len}
use Rattle.std.proofs.lemmas.List.{get_or_default, take_all, drop_all, take_more, get_or-map, length-map, map-append, append_assoc, append-nil}
use Rattle.std.proofs.lemmas.List.Concat.{flat_map-append}
use Rattle.pk_ctypes.specs.declared.types.IntType.{IntType}
use Rattle.pk_ctypes.specs.declared.types.IntType.TheVariants.{Int}
use Rattle.pk_graph.specs.declared.graphs.Variable.{Variable}
use Rattle.pk_graph.specs.Graphs.{VariableOf, GraphOf, no_variable, variable_view, kinds_of}
use Rattle.pk_graph.specs.WellMade.{IsGraph, IsStartOf}
use Rattle.pk_value.specs.Known.{Known, any_of, exactly, joined}
use Rattle.pk_octagons.specs.Octagons.{top_octagons}
use Rattle.pk_octagons.specs.Values.{type_at, IsValue}
use Rattle.pk_state.specs.Layouts.{Layout}
use Rattle.pk_state.specs.Facts.{Stated}
use Rattle.pk_state.specs.Changes.{with_known}
use Rattle.pk_transfer.specs.Graphs.{kinds_shown, own_types, layout_over}
use Rattle.pk_transfer.specs.Slots.{further_types, slot_types}
use Rattle.pk_transfer.proofs.LayoutLemmas.{types_next, further_next, kinds_are}
use Rattle.pk_analysis.specs.Starts.{joined_with, known_of_numbers, known_of_number, own_known, further_known, start_values, start_facts, AreTyped}
use Rattle.pk_analysis.specs.Flows.{stated}
use Rattle.pk_analysis.proofs.TypedLemmas.{typed_many, typed_at, typed_append}

-- the first k slots are known
abbrev pub IsStartedTo : GraphOf → Layout → ℕ → Stated → Type 0
IsStartedTo g l k s = s ≡ stated l (Some (record { values = take k (start_values g.variables) ++ drop k (map any_of l.types); octagons = top_octagons l.packs }))

-- the first of the numbers, and the others
pub of_first : (short : Bool) (xs : List ℤ) → 1 ≤ length xs
    → (if short then joined (joined_with (exactly (slice_index_or xs 0 (pos 0))) (take (length xs - 1) (drop 1 xs))) (exactly (pos 0)) else joined_with (exactly (slice_index_or xs 0 (pos 0))) (take (length xs - 1) (drop 1 xs))) ≡ known_of_numbers short xs
of_first short [] h = absurd (omega arith)
of_first short (z ∷ zs) h = ap (λ (rest : List ℤ). if short then joined (joined_with (exactly z) rest) (exactly (pos 0)) else joined_with (exactly z) rest) (take_all (length (z ∷ zs) - 1) zs (omega arith))

set_next : (news olds : List Known) (k : ℕ) (d : Known) → k < length news → length news ≡ length olds → set (take k news ++ drop k olds) k (slice_index_or news k d) ≡ take (suc k) news ++ drop (suc k) olds
set_next [] olds k d h e = absurd (omega arith)
set_next (a ∷ news) [] k d h e = absurd (omega (arith, e))
set_next (a ∷ news) (b ∷ olds) zero d h e = refl
set_next (a ∷ news) (b ∷ olds) (suc k) d h e = ap (λ (ks : List Known). a ∷ ks) (set_next news olds k d (omega arith) (omega (arith, e)))

pub started_next : (g : GraphOf) (l : Layout) (packs : List (List ℕ)) (k : ℕ) (old new : Stated) (vs : List Known) (d : Known) → l ≡ layout_over g packs → vs ≡ start_values g.variables → AreTyped vs (slot_types (kinds_of g)) → k < length vs → IsStartedTo g l k old
    → new ≡ stated l (with_known old.facts k (slice_index_or vs k d)) → IsStartedTo g l (k + 1) new
started_next g l packs k old new vs d is all typed h so made =
    let us = start_values g.variables in
    let many : length us ≡ length (map any_of l.types) =
    ap (λ (ks : List Known). length ks) (sym all) ∙ typed_many vs (slot_types (kinds_of g)) typed ∙ sym (length-map l.types any_of ∙ ap (λ (y : Layout). length y.types) is) in
    let here : k < length us = subst (λ (ks : List Known). k < length ks) all h in
    let next : k + 1 ≡ suc k = omega arith in
    made ∙ ap (λ (v : Known). stated l (with_known old.facts k v)) (get_or_default vs k d (any_of Int) h) ∙ ap (λ (s : Stated). stated l (with_known s.facts k (slice_index_or vs k (any_of Int)))) so
    ∙ ap (λ (ks : List Known). stated l (with_known (Some (record { values = take k us ++ drop k (map any_of l.types); octagons = top_octagons l.packs })) k (slice_index_or ks k (any_of Int)))) all
    ∙ ap (λ (ks : List Known). stated l (Some (record { values = ks; octagons = top_octagons l.packs }))) (set_next us (map any_of l.types) k (any_of Int) here many)
    ∙ sym (ap (λ (n : ℕ). stated l (Some (record { values = take n us ++ drop n (map any_of l.types); octagons = top_octagons l.packs }))) next)

values_many : (g : GraphOf) (l : Layout) (packs : List (List ℕ)) (vs : List Known) → l ≡ layout_over g packs → AreTyped vs (slot_types (kinds_of g)) → length vs ≡ length l.types
values_many g l packs vs is typed = typed_many vs (slot_types (kinds_of g)) typed ∙ ap (λ (y : Layout). length y.types) (sym is)

pub value_there : (g : GraphOf) (l : Layout) (packs : List (List ℕ)) (vs : List Known) (j : ℕ) → l ≡ layout_over g packs → AreTyped vs (slot_types (kinds_of g)) → j < length vs → j < length l.types
value_there g l packs vs j is typed h = omega (arith, h, values_many g l packs vs is typed)

pub value_typed : (g : GraphOf) (l : Layout) (packs : List (List ℕ)) (vs : List Known) (j : ℕ) (d : Known) → l ≡ layout_over g packs → AreTyped vs (slot_types (kinds_of g)) → j < length vs → IsValue (type_at l.types j) (slice_index_or vs j d)
value_typed g l packs vs j d is typed h = subst (λ (y : Layout). IsValue (type_at y.types j) (slice_index_or vs j d)) (sym is) (typed_at vs (slot_types (kinds_of g)) j d Int typed h)

-- all are known
pub started_whole : (g : GraphOf) (l : Layout) (packs : List (List ℕ)) (k : ℕ) (s : Stated) (vs : List Known) → l ≡ layout_over g packs → vs ≡ start_values g.variables → AreTyped vs (slot_types (kinds_of g)) → length vs ≤ k → IsStartedTo g l k s → s ≡ stated l (Some (start_facts g l))
started_whole g l packs k s vs is all typed h so =
    let us = start_values g.variables in
    let here : length us ≤ k = subst (λ (ks : List Known). length ks ≤ k) all h in
    let many = length-map l.types any_of ∙ sym (values_many g l packs vs is typed) in
    let none : drop k (map any_of l.types) ≡ [] = drop_all k (map any_of l.types) (omega (arith, h, many)) in
    so ∙ ap (λ (ks : List Known). stated l (Some (record { values = take k us ++ ks; octagons = top_octagons l.packs }))) none
    ∙ ap (λ (ks : List Known). stated l (Some (record { values = ks; octagons = top_octagons l.packs }))) (append-nil (take k us) ∙ take_all k us here)

-- a variable of the code is one of the graph
pub shown : (g : GraphOf) (vs : List Variable) (k : ℕ) (d : Variable) → map variable_view vs ≡ g.variables → k < length vs → slice_index_or g.variables k no_variable ≡ variable_view (slice_index_or vs k d)
shown g vs k d are h = ap (λ (xs : List VariableOf). slice_index_or xs k no_variable) (sym are) ∙ get_or-map variable_view vs k d no_variable h

pub many : (g : GraphOf) (vs : List Variable) → map variable_view vs ≡ g.variables → length vs ≡ length g.variables
many g vs are = sym (length-map vs variable_view) ∙ ap (λ (xs : List VariableOf). length xs) are

pub starts_there : (g : GraphOf) (vs : List Variable) (k : ℕ) (d : Variable) → IsGraph g → map variable_view vs ≡ g.variables → k < length vs → IsStartOf (variable_view (slice_index_or vs k d)) (variable_view (slice_index_or vs k d)).start
starts_there g vs k d made are h =
    subst (λ (x : VariableOf). IsStartOf x x.start) (shown g vs k d are h) (made.starts k no_variable (omega (arith, h, many g vs are)))

pub starts_all : (g : GraphOf) (vs : List Variable) → IsGraph g → map variable_view vs ≡ g.variables → All (λ (v : Variable). IsStartOf (variable_view v) (variable_view v).start) vs
starts_all g vs made are = λ k d h. starts_there g vs k d made are h

pub kinds_same : (g : GraphOf) (vs : List Variable) → map variable_view vs ≡ g.variables → kinds_shown vs ≡ kinds_of g
kinds_same g vs are = kinds_are g vs are

-- ---- variable by variable

own_next : (vs : List Variable) (k : ℕ) (d : Variable) (old new : List Known) (v : Known) → k < length vs → old ≡ map own_known (map variable_view (take k vs)) → v ≡ own_known (variable_view (slice_index_or vs k d)) → new ≡ old ++ v ∷ []
    → new ≡ map own_known (map variable_view (take (k + 1) vs))
own_next vs k d old new v h so is made =
    made ∙ ap (λ (ks : List Known). ks ++ v ∷ []) so ∙ ap (λ (w : Known). map own_known (map variable_view (take k vs)) ++ w ∷ []) is
    ∙ sym (ap (λ (us : List Variable). map own_known (map variable_view us)) (take_more vs k d h) ∙ ap (map own_known) (map-append variable_view (take k vs) (slice_index_or vs k d ∷ [])) ∙ map-append own_known (map variable_view (take k vs)) (variable_view (slice_index_or vs k d) ∷ []))

-- the first k variables' own slots, of their types
pub record AreOwnTo (vs : List Variable) (k : ℕ) (all : List Known) : Type 0 where
  pub values : all ≡ map own_known (map variable_view (take k vs))
  pub typed : AreTyped all (own_types (take k vs))

pub own_begun : (vs : List Variable) (all : List Known) → all ≡ [] → AreOwnTo vs 0 all
own_begun vs all is = record { values = is; typed = subst (λ (ks : List Known). AreTyped ks []) (sym is) tt }

pub own_more : (vs : List Variable) (k : ℕ) (d : Variable) (old new : List Known) (v : Known) → k < length vs → AreOwnTo vs k old → v ≡ own_known (variable_view (slice_index_or vs k d)) → IsValue (variable_view (slice_index_or vs k d)).kind.int_type v → new ≡ old ++ v ∷ []
    → AreOwnTo vs (k + 1) new
own_more vs k d old new v h so is typed made = record {
  values = own_next vs k d old new v h so.values is made;
  typed =
      subst (λ (ks : List Known). AreTyped ks (own_types (take (k + 1) vs))) (sym made)
      (subst (AreTyped (old ++ v ∷ [])) (types_next vs k d (own_types (take k vs)) (own_types (take k vs) ++ (variable_view (slice_index_or vs k d)).kind.int_type ∷ []) h refl refl)
      (typed_append old (v ∷ []) (own_types (take k vs)) ((variable_view (slice_index_or vs k d)).kind.int_type ∷ []) so.typed (typed, tt)));
}

-- and behind them the others of the first k
pub record AreFurtherTo (vs : List Variable) (k : ℕ) (all : List Known) : Type 0 where
  pub values : all ≡ map own_known (map variable_view vs) ++ flat_map further_known (map variable_view (take k vs))
  pub typed : AreTyped all (own_types vs ++ flat_map further_types (kinds_shown (take k vs)))

pub further_begun : (vs : List Variable) (k : ℕ) (all : List Known) → length vs ≤ k → AreOwnTo vs k all → AreFurtherTo vs 0 all
further_begun vs k all h so =
    let whole = take_all k vs h in
    record {
      values = so.values ∙ ap (λ (us : List Variable). map own_known (map variable_view us)) whole ∙ sym (append-nil (map own_known (map variable_view vs)));
      typed = subst (AreTyped all) (ap own_types whole ∙ sym (append-nil (own_types vs))) so.typed;
    }

pub further_more : (vs : List Variable) (k : ℕ) (d : Variable) (old new : List Known) → k < length vs → AreFurtherTo vs k old → new ≡ old ++ further_known (variable_view (slice_index_or vs k d)) → AreTyped (further_known (variable_view (slice_index_or vs k d))) (further_types (variable_view (slice_index_or vs k d)).kind)
    → AreFurtherTo vs (k + 1) new
further_more vs k d old new h so made typed =
    let x = variable_view (slice_index_or vs k d) in
    let first = map own_known (map variable_view vs) in
    let before = map variable_view (take k vs) in
    let kinds = kinds_shown (take k vs) in
    record {
      values =
          made ∙ ap (λ (ks : List Known). ks ++ further_known x) so.values ∙ append_assoc first (flat_map further_known before) (further_known x)
          ∙ ap (λ (ks : List Known). first ++ ks)
          (sym (ap (λ (us : List Variable). flat_map further_known (map variable_view us)) (take_more vs k d h) ∙ ap (flat_map further_known) (map-append variable_view (take k vs) (slice_index_or vs k d ∷ []))
          ∙ flat_map-append further_known before (x ∷ []) ∙ ap (λ (ks : List Known). flat_map further_known before ++ ks) (append-nil (further_known x))));
      typed =
          subst (λ (ks : List Known). AreTyped ks (own_types vs ++ flat_map further_types (kinds_shown (take (k + 1) vs)))) (sym made)
          (subst (AreTyped (old ++ further_known x)) (further_next vs k d (own_types vs) (own_types vs ++ flat_map further_types kinds) ((own_types vs ++ flat_map further_types kinds) ++ further_types x.kind) h refl refl)
          (typed_append old (further_known x) (own_types vs ++ flat_map further_types kinds) (further_types x.kind) so.typed typed));
    }

pub further_whole : (vs : List Variable) (k : ℕ) (all : List Known) → length vs ≤ k → AreFurtherTo vs k all → (all ≡ start_values (map variable_view vs)) × AreTyped all (slot_types (kinds_shown vs))
further_whole vs k all h so =
    let whole = take_all k vs h in (
      so.values ∙ ap (λ (us : List Variable). map own_known (map variable_view vs) ++ flat_map further_known (map variable_view us)) whole,
      subst (AreTyped all) (ap (λ (us : List Variable). own_types vs ++ flat_map further_types (kinds_shown us)) whole) so.typed,
    )

-- ---- number by number

pub record AreNumbersTo (x : VariableOf) (k : ℕ) (old all : List Known) : Type 0 where
  pub values : all ≡ old ++ map (λ i. known_of_number x x.start (suc i)) (range_with_len 0 k)
  pub typed : AreTyped (map (λ i. known_of_number x x.start (suc i)) (range_with_len 0 k)) (replicate k x.kind.int_type)

range_more : (from k : ℕ) → range_with_len from (suc k) ≡ range_with_len from k ++ (from + k) ∷ []
range_more from zero = let at : from ≡ from + 0 = omega arith in ap (λ n. n ∷ []) at
range_more from (suc k) = let at : (from + 1) + k ≡ from + suc k = omega arith in ap (λ (ns : List ℕ). from ∷ ns) (range_more (from + 1) k ∙ ap (λ n. range_with_len (from + 1) k ++ n ∷ []) at)

replicate_more : (k : ℕ) (t : IntType) → replicate (suc k) t ≡ replicate k t ++ t ∷ []
replicate_more zero t = refl
replicate_more (suc k) t = ap (λ (ts : List IntType). t ∷ ts) (replicate_more k t)

pub numbers_begun : (x : VariableOf) (old : List Known) → AreNumbersTo x 0 old old
numbers_begun x old = record { values = sym (append-nil old); typed = tt }

pub numbers_more : (x : VariableOf) (k : ℕ) (old now new : List Known) (v : Known) → AreNumbersTo x k old now → v ≡ known_of_number x x.start (k + 1) → IsValue x.kind.int_type v → new ≡ now ++ v ∷ [] → AreNumbersTo x (k + 1) old new
numbers_more x k old now new v so is typed made =
    let f : ℕ → Known = λ i. known_of_number x x.start (suc i) in
    let next : k + 1 ≡ suc k = omega arith in
    let known : v ≡ f (0 + k) = is ∙ (let at : k + 1 ≡ suc (0 + k) = omega arith in ap (known_of_number x x.start) at) in
    let range : map f (range_with_len 0 (suc k)) ≡ map f (range_with_len 0 k) ++ f (0 + k) ∷ [] = ap (map f) (range_more 0 k) ∙ map-append f (range_with_len 0 k) ((0 + k) ∷ []) in
    subst (λ n. AreNumbersTo x n old new) (sym next) (record {
      values =
          made ∙ ap (λ (ks : List Known). ks ++ v ∷ []) so.values ∙ append_assoc old (map f (range_with_len 0 k)) (v ∷ [])
          ∙ ap (λ (w : Known). old ++ (map f (range_with_len 0 k) ++ w ∷ [])) known ∙ ap (λ (ks : List Known). old ++ ks) (sym range);
      typed =
          subst (λ (ks : List Known). AreTyped ks (replicate (suc k) x.kind.int_type)) (sym range)
          (subst (AreTyped (map f (range_with_len 0 k) ++ f (0 + k) ∷ [])) (sym (replicate_more k x.kind.int_type))
          (typed_append (map f (range_with_len 0 k)) (f (0 + k) ∷ []) (replicate k x.kind.int_type) (x.kind.int_type ∷ []) so.typed (subst (IsValue x.kind.int_type) known typed, tt)));
    })
