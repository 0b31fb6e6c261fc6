-- Cases that rise are gathered to operations that rise, one for each place and kind.
use Rattle.std.proofs.Common.{◌≡◌, ◌⊎◌, inl, inr, ℕ, suc, ◌+◌, ◌*◌, ◌^◌, ◌<◌, ◌≤◌, ◌==◌, List, [], ◌∷◌, ◌++◌, length, cond, Bool, true, false, refl, sym, ap, subst, ◌∙◌, arith, append_assoc, length-append, min, nat_lt}
use Rattle.std.specs.Prelude.{Some, All, AllPairs, fold, slice_index_or}
use Rattle.std.specs.List.{flat_map, list_all}
use Rattle.std.specs.List.Sorted.{IsPermutation, IsNonDecreasingBy}
use Rattle.std.proofs.lemmas.Bool.{and_parts, eqb-true, eqb-false, ltb-true, cases_lt}
use Rattle.std.proofs.Math.Nat.{eq-or-lt_of_le}
use Rattle.std.proofs.lemmas.List.Sums.{AllPass-from_list_all, list_all-from_AllPass}
use Rattle.std.proofs.lemmas.List.Sorted.{All-permutation}
use Rattle.std.proofs.lemmas.List.{append-nil, map-append}
use Rattle.std.proofs.lemmas.List.Concat.{flat_map-append}
use Rattle.std.proofs.lemmas.List.Elements.{All-nil, All-cons, All-append}
use Rattle.std.proofs.lemmas.List.Quantifiers.{all_pairs_push}
use Rattle.pk_ctypes.specs.declared.faults.Fault.{Fault}
use Rattle.pk_ctypes.specs.declared.faults.Fault.TheVariants.{Index, DivZero, Overflow, Shift, Assert}
use Rattle.pk_ctypes.specs.declared.places.Pos.{Pos}
use Rattle.pk_findings.specs.Texts.{is_small}
use Rattle.pk_findings.specs.Operations.{CaseOf, OperationOf, WayOf, cases_of, kind_number, ComesBefore, AreOperations}
use Rattle.pk_findings.specs.Grouping.{order_of, case_order, operation_order, single, with_way, gathered, with_case, gathered_of, all_of}

-- ---- orders

same_numbers : (l c k m d j : ℕ) → c < 1073741824 → d < 1073741824 → k < 8 → j < 8 →
    (l * 1073741824 + c) * 8 + k ≡ (m * 1073741824 + d) * 8 + j → (l ≡ m) × (c ≡ d) × (k ≡ j)
same_numbers l c k m d j hc hd hk hj e =
    let line : l ≡ m = omega arith in
    let column : c ≡ d = omega arith in
    (line, column, omega arith)

lower_numbers : (l c k m d j : ℕ) → c < 1073741824 → d < 1073741824 → k < 8 → j < 8 →
    (l * 1073741824 + c) * 8 + k < (m * 1073741824 + d) * 8 + j →
    (l < m) ⊎ ((l ≡ m) × ((c < d) ⊎ ((c ≡ d) × (k < j))))
lower_numbers l c k m d j hc hd hk hj h =
    elim (cases_lt l m) [
      | inl low ↦ inl low
      | inr high ↦
          let same : l ≡ m = omega arith in
          inr (same, elim (cases_lt c d) [ inl low ↦ inl low | inr high ↦ inr (omega arith, omega arith) ])
    ]

abbrev kind_at : ℕ → Fault
kind_at n =
    cond (n == 0) Index (cond (n == 1) DivZero (cond (n == 2) Overflow (cond (n == 3) Shift Assert)))

kind_back : (f : Fault) → kind_at (kind_number f) ≡ f
kind_back Index = refl
kind_back DivZero = refl
kind_back Overflow = refl
kind_back Shift = refl
kind_back Assert = refl

same_kind : (f g : Fault) → kind_number f ≡ kind_number g → f ≡ g
same_kind f g e = sym (kind_back f) ∙ ap kind_at e ∙ kind_back g

kind_small : (f : Fault) → kind_number f < 8
kind_small Index = omega arith
kind_small DivZero = omega arith
kind_small Overflow = omega arith
kind_small Shift = omega arith
kind_small Assert = omega arith

record IsSmall (at : Pos) : Type 0 where
  line : at.line < 1073741824
  column : at.column < 1073741824

small_parts : (at : Pos) → is_small at ≡ true → IsSmall at
small_parts at e =
    let both = and_parts (nat_lt at.line (2 ^ 30)) (nat_lt at.column (2 ^ 30)) e in
    record { line = ltb-true at.line (2 ^ 30) both.0; column = ltb-true at.column (2 ^ 30) both.1 }

min_small : (n : ℕ) → n < 1073741824 → min n 1073741823 ≡ n
min_small n h = omega arith

order_is : (at : Pos) (f : Fault) → IsSmall at →
    order_of at f ≡ (at.line * 1073741824 + at.column) * 8 + kind_number f
unfolding order_of
order_is at f h = rw (min_small at.line h.line, min_small at.column h.column) refl

same_place : (p q : Pos) → p.line ≡ q.line → p.column ≡ q.column → p ≡ q
same_place p q l c =
    let at_line : ℕ → Pos = λ n. record { line = n; column = p.column } in
    let at_column : ℕ → Pos = λ n. record { line = q.line; column = n } in
    ap at_line l ∙ ap at_column c

same_operation : (p q : Pos) (f g : Fault) → is_small p ≡ true → is_small q ≡ true → order_of p f ≡ order_of q g →
    (p ≡ q) × (f ≡ g)
same_operation p q f g hp hq e =
    let sp = small_parts p hp in
    let sq = small_parts q hq in
    let numbers = same_numbers p.line p.column (kind_number f) q.line q.column (kind_number g) sp.column sq.column
    (kind_small f) (kind_small g) (sym (order_is p f sp) ∙ e ∙ order_is q g sq) in
    (same_place p q numbers.0 numbers.1, same_kind f g numbers.2)

abbrev pub Lower : OperationOf → OperationOf → Type 0
Lower o p = operation_order o < operation_order p

comes_before : (o p : OperationOf) → is_small o.at ≡ true → is_small p.at ≡ true → Lower o p → ComesBefore o p
comes_before o p ho hp h =
    let so = small_parts o.at ho in
    let sp = small_parts p.at hp in
    let e = order_is o.at o.fault so in
    let f = order_is p.at p.fault sp in
    let low : (o.at.line * 1073741824 + o.at.column) * 8 + kind_number o.fault <
    (p.at.line * 1073741824 + p.at.column) * 8 + kind_number p.fault = omega (arith, e, f, h) in
    elim (lower_numbers o.at.line o.at.column (kind_number o.fault) p.at.line p.at.column (kind_number p.fault)
    so.column sp.column (kind_small o.fault) (kind_small p.fault) low) [
      | inl line ↦ inl (inl line)
      | inr same ↦ elim same.1 [
        | inl column ↦ inl (inr (same.0, column))
        | inr kind ↦ inr (same_place o.at p.at same.0 kind.0, kind.1)
      ]
    ]

-- ---- gathering

pub record IsGathered (cases : List CaseOf) (operations : List OperationOf) : Type 0 where
  pub each : flat_map cases_of operations ≡ cases
  pub rising : AllPairs Lower operations
  pub some : All (λ o. 0 < length o.ways) operations
  pub small : All (λ o. is_small o.at ≡ true) operations

abbrev HasWay : OperationOf → Type 0
HasWay o = 0 < length o.ways

abbrev HasSmallPlace : OperationOf → Type 0
HasSmallPlace o = is_small o.at ≡ true

-- o is the operation that the next case may belong to
record IsOpen (done : List CaseOf) (whole : List OperationOf) (o : OperationOf) : Type 0 where
  each : flat_map cases_of whole ++ cases_of o ≡ done
  rising : AllPairs Lower whole
  below : All (λ w. Lower w o) whole
  some : All (λ o. 0 < length o.ways) whole
  small : All (λ o. is_small o.at ≡ true) whole
  some_open : 0 < length o.ways
  small_open : is_small o.at ≡ true

closed : (done : List CaseOf) (whole : List OperationOf) (o : OperationOf) → IsOpen done whole o →
    IsGathered done (whole ++ o ∷ [])
closed done whole o h = record {
  each = flat_map-append cases_of whole (o ∷ []) ∙ ap (λ (l : List CaseOf). flat_map cases_of whole ++ l) (append-nil (cases_of o)) ∙ h.each;
  rising = all_pairs_push Lower whole o h.rising h.below;
  some = All-append HasWay whole (o ∷ []) h.some (All-cons HasWay o [] h.some_open (All-nil HasWay));
  small = All-append HasSmallPlace whole (o ∷ []) h.small (All-cons HasSmallPlace o [] h.small_open (All-nil HasSmallPlace));
}

abbrev case_of_way : OperationOf → WayOf → CaseOf
case_of_way o w = record { at = o.at; fault = o.fault; way = w }

cases_with_way : (o : OperationOf) (c : CaseOf) → o.at ≡ c.at → o.fault ≡ c.fault →
    cases_of (with_way o c) ≡ cases_of o ++ c ∷ []
cases_with_way o c at fault =
    let at_place : Pos → CaseOf = λ p. record { at = p; fault = o.fault; way = c.way } in
    let of_kind : Fault → CaseOf = λ f. record { at = c.at; fault = f; way = c.way } in
    let last : case_of_way o c.way ≡ c = ap at_place at ∙ ap of_kind fault in
    map-append (case_of_way o) o.ways (c.way ∷ []) ∙ ap (λ (x : CaseOf). cases_of o ++ x ∷ []) last

joined : (done : List CaseOf) (whole : List OperationOf) (o : OperationOf) (c : CaseOf) → IsOpen done whole o →
    is_small c.at ≡ true → operation_order o ≡ case_order c → IsOpen (done ++ c ∷ []) whole (with_way o c)
joined done whole o c h small e =
    let same = same_operation o.at c.at o.fault c.fault h.small_open small e in
    let size = length-append o.ways (c.way ∷ []) in
    record {
      each = ap (λ (l : List CaseOf). flat_map cases_of whole ++ l) (cases_with_way o c same.0 same.1)
          ∙ sym (append_assoc (flat_map cases_of whole) (cases_of o) (c ∷ [])) ∙ ap (λ (l : List CaseOf). l ++ c ∷ []) h.each;
      rising = h.rising;
      below = h.below;
      some = h.some;
      small = h.small;
      some_open = omega (arith, size, h.some_open);
      small_open = h.small_open;
    }

opened : (done : List CaseOf) (whole : List OperationOf) (o : OperationOf) (c : CaseOf) → IsOpen done whole o →
    is_small c.at ≡ true → operation_order o < case_order c → IsOpen (done ++ c ∷ []) (whole ++ o ∷ []) (single c)
opened done whole o c h small low =
    let shut = closed done whole o h in
    record {
      each = ap (λ (l : List CaseOf). l ++ c ∷ []) shut.each;
      rising = shut.rising;
      below = All-append (λ (w : OperationOf). Lower w (single c)) whole (o ∷ [])
          (λ k d lt. let under_o = h.below k d lt in omega (arith, under_o, low))
          (All-cons (λ (w : OperationOf). Lower w (single c)) o [] low (All-nil (λ (w : OperationOf). Lower w (single c))));
      some = shut.some;
      small = shut.small;
      some_open = omega arith;
      small_open = small;
    }

-- each case is at least as high as the one before it
abbrev Rises : ℕ → List CaseOf → Type 0
Rises n [] = Unit {0}
Rises n (c ∷ cs) = (n ≤ case_order c) × Rises (case_order c) cs

abbrev are_small : List CaseOf → Bool
are_small = list_all (λ c. is_small c.at)

under : (m n : ℕ) → m ≤ n → (m ≡ n → ⊥) → m < n
under m n h other = elim (eq-or-lt_of_le h) [ inl same ↦ absurd (other same) | inr low ↦ low ]

behind : (cs done : List CaseOf) (whole : List OperationOf) (o : OperationOf) → IsOpen done whole o →
    Rises (operation_order o) cs → are_small cs ≡ true →
    IsGathered (done ++ cs) (all_of (fold with_case (gathered whole (Some o)) cs))
behind [] done whole o h rises small =
    let P : List CaseOf → Type 0 = λ l. IsGathered l (whole ++ o ∷ []) in
    subst P (sym (append-nil done)) (closed done whole o h)
behind (c ∷ cs) done whole o h rises small =
    let both = and_parts (is_small c.at) (are_small cs) small in
    by_test (behind cs) (operation_order o == case_order c) refl both.0 both.1
  where
    by_test : ((done : List CaseOf) (whole : List OperationOf) (o : OperationOf) → IsOpen done whole o →
        Rises (operation_order o) cs → are_small cs ≡ true →
        IsGathered (done ++ cs) (all_of (fold with_case (gathered whole (Some o)) cs))) →
        (same : Bool) → same ≡ (operation_order o == case_order c) → is_small c.at ≡ true → are_small cs ≡ true →
        IsGathered (done ++ c ∷ cs) (all_of (fold with_case (cond same (gathered whole (Some (with_way o c)))
        (gathered (whole ++ o ∷ []) (Some (single c)))) cs))
    by_test rest true e small_one small_rest =
        let equal : operation_order o ≡ case_order c = eqb-true (operation_order o) (case_order c) (sym e) in
        let P : List CaseOf → Type 0 = λ l. IsGathered l (all_of (fold with_case (gathered whole (Some (with_way o c))) cs)) in
        let Q : ℕ → Type 0 = λ n. Rises n cs in
        subst P (append_assoc done (c ∷ []) cs)
        (rest (done ++ c ∷ []) whole (with_way o c) (joined done whole o c h small_one equal) (subst Q (sym equal) rises.1) small_rest)
    by_test rest false e small_one small_rest =
        let P : List CaseOf → Type 0 = λ l. IsGathered l (all_of (fold with_case (gathered (whole ++ o ∷ []) (Some (single c))) cs)) in
        let low : operation_order o < case_order c = under (operation_order o) (case_order c) rises.0 (eqb-false (operation_order o) (case_order c) (sym e)) in
        subst P (append_assoc done (c ∷ []) cs)
        (rest (done ++ c ∷ []) (whole ++ o ∷ []) (single c) (opened done whole o c h small_one low) rises.1 small_rest)

rises_from : (c : CaseOf) (cs : List CaseOf) → IsNonDecreasingBy case_order (c ∷ cs) → Rises (case_order c) cs
rises_from c [] h = tt
rises_from c (d ∷ cs) h = (
  h 0 1 c (omega arith) (omega arith),
  rises_from d cs (λ i j e le lt. h (suc i) (suc j) e (omega arith) (omega arith)),
)

whole_gathered : (cs : List CaseOf) → IsNonDecreasingBy case_order cs → are_small cs ≡ true →
    IsGathered cs (all_of (gathered_of cs))
whole_gathered [] rises small = record {
  each = refl;
  rising = λ i j d low within. absurd (omega arith);
  some = All-nil HasWay;
  small = All-nil HasSmallPlace;
}
whole_gathered (c ∷ cs) rises small =
    let both = and_parts (is_small c.at) (are_small cs) small in
    behind cs (c ∷ []) [] (single c) (record {
      each = refl;
      rising = λ i j d low within. absurd (omega arith);
      below = All-nil (λ (w : OperationOf). Lower w (single c));
      some = All-nil HasWay;
      small = All-nil HasSmallPlace;
      some_open = omega arith;
      small_open = both.0;
    }) (rises_from c cs rises) both.1

pub are_operations : (cs sorted : List CaseOf) → list_all (λ c. is_small c.at) cs ≡ true → IsPermutation cs sorted →
    IsNonDecreasingBy case_order sorted → AreOperations cs (all_of (gathered_of sorted))
are_operations cs sorted small moved rises =
    let small_sorted = list_all-from_AllPass (λ (c : CaseOf). is_small c.at) sorted
    (All-permutation (λ (c : CaseOf). is_small c.at ≡ true) cs sorted moved (AllPass-from_list_all (λ (c : CaseOf). is_small c.at) cs small)) in
    let operations = all_of (gathered_of sorted) in
    let h = whole_gathered sorted rises small_sorted in
    let P : List CaseOf → Type 0 = λ l. IsPermutation cs l in
    record {
      each = subst P (sym h.each) moved;
      ordered = λ i j d low within.
          comes_before (slice_index_or operations i d) (slice_index_or operations j d) (h.small i d (omega arith))
          (h.small j d within) (h.rising i j d low within);
      some = h.some;
    }
