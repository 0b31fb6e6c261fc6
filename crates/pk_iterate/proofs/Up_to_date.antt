-- A run keeps what the times say of the cells.
use Rattle.std.proofs.Common.{◌≡◌, ◌≢◌, ℕ, zero, suc, ◌<◌, ◌≤◌, List, [], ◌∷◌, map, length, get_or, set, replicate, slice_get, All, Some, option_map, Bool, true, false, not, cond, ap, sym, subst, ◌∙◌, refl, arith, inl, inr}
use Rattle.std.specs.List.{filter_map}
use Rattle.std.proofs.lemmas.Bool.{cases_lt}
use Rattle.std.proofs.lemmas.Bool.Decides.{eqb_tells}
use Rattle.std.proofs.lemmas.List.{get_or-set_same, get_or-set_other, length-set, length-replicate}
use Rattle.std.proofs.lemmas.List.Elements.{All-head, All-tail}
use Rattle.std.proofs.lemmas.Option.{slice_get-get_or, slice_get_past, slice_get-map, slice_get_read}
use Rattle.pk_plan.specs.declared.places.Role.{Role}
use Rattle.pk_plan.specs.declared.places.Role.TheVariants.{Vertex, Head, Exit}
use Rattle.pk_iterate.specs.Behaviour.{Behaviour, inputs_in, cell_in_role, goes_back_in_role, is_applied}
use Rattle.pk_iterate.specs.Times.{IsUpToDate, AreTimes}

-- another entry of a list
slice_get-set_other : {C : Type 0} (xs : List C) (e u : ℕ) (c : C) → u ≢ e → slice_get (set xs e c) u ≡ slice_get xs u
slice_get-set_other xs e u c other =
    elim (cases_lt u (length xs)) [
      | inl below ↦
          let long : u < length (set xs e c) = omega (arith, length-set xs e c) in
          slice_get-get_or (set xs e c) u c long ∙ ap Some (get_or-set_other xs e u c c other) ∙ sym (slice_get-get_or xs u c below)
      | inr past ↦
          let far : length (set xs e c) ≤ u = omega (arith, length-set xs e c) in
          slice_get_past (set xs e c) u far ∙ sym (slice_get_past xs u past)
    ]

slice_get-set_same : {C : Type 0} (xs : List C) (e : ℕ) (c : C) → e < length xs → slice_get (set xs e c) e ≡ Some c
slice_get-set_same xs e c below =
    let long : e < length (set xs e c) = omega (arith, length-set xs e c) in
    slice_get-get_or (set xs e c) e c long ∙ ap Some (get_or-set_same xs e c c below)

-- an entry that is written again
pub set_again : {C : Type 0} (xs : List C) (e : ℕ) (c : C) → slice_get xs e ≡ Some c → set xs e c ≡ xs
set_again [] e c is = refl
set_again (x ∷ xs) zero c is = cc
set_again (x ∷ xs) (suc e) c is = ap (λ ys. x ∷ ys) (set_again xs e c is)

-- what reads nothing of e reads the same
reads_others : {C : Type 0} (xs : List C) (e : ℕ) (c : C) (us : List ℕ) → All (λ u. u ≢ e) us → filter_map (slice_get (set xs e c)) us ≡ filter_map (slice_get xs) us
reads_others xs e c [] others = refl
reads_others xs e c (u ∷ us) others =
    rw (slice_get-set_other xs e u c (All-head (λ (v : ℕ). v ≢ e) u us others), reads_others xs e c us (All-tail (λ (v : ℕ). v ≢ e) u us others)) refl

-- an element in a role in which `apply` gives its cell
pub applied_cell : {C : Type 0} (b : Behaviour C) (e : ℕ) (role : Role) (inputs : List C) → is_applied role ≡ true → cell_in_role b e role inputs ≡ b.apply e inputs
applied_cell b e Vertex inputs is = refl
applied_cell b e Head inputs is = refl
applied_cell b e (Exit back) inputs is = cc

pub applied_goes_on : {C : Type 0} (b : Behaviour C) (e : ℕ) (role : Role) (inputs : List C) → is_applied role ≡ true → false ≡ goes_back_in_role b e role inputs
applied_goes_on b e Vertex inputs is = refl
applied_goes_on b e Head inputs is = refl
applied_goes_on b e (Exit back) inputs is = cc

-- the cell that is there
pub cell_there : {C D : Type 0} (f : D → C) (xs : List D) (e : ℕ) (x : D) (old new : C) → e < length xs → x ≡ get_or xs e x → old ≡ f x → old ≡ new → slice_get (map f xs) e ≡ Some new
cell_there f xs e x old new below read is same =
    slice_get-map f xs e ∙ ap (option_map f) (slice_get_read xs (length xs) e x refl below read) ∙ ap Some (sym is ∙ same)

-- the time that is written, where `apply` gave the cell and where it didn't
time_early : (applied : Bool) (clock : ℕ) → cond applied clock 0 ≤ clock
time_early true clock = omega arith
time_early false clock = omega arith

time_of : {P : Type 0} (applied : Bool) (clock : ℕ) → (applied ≡ true → P) → 0 < cond applied clock 0 → P
time_of true clock of some = of refl
time_of false clock of some = absurd (omega (arith, some))

-- before the first run
zeros : (n e : ℕ) → let none : ℕ = 0 in get_or (replicate n none) e none ≡ none
zeros zero e = refl
zeros (suc n) zero = refl
zeros (suc n) (suc e) = zeros n e

pub first_times_say : {C : Type 0} (b : Behaviour C) (cells : List C) (changed made : List ℕ) (clock elements : ℕ) → length cells ≡ elements → changed ≡ replicate elements 0 → made ≡ replicate elements 0 → AreTimes b cells changed made clock
first_times_say b cells changed made clock elements long changed_is made_is =
    let none : (e : ℕ) → get_or made e 0 ≡ 0 = λ e. ap (λ (ms : List ℕ). get_or ms e 0) made_is ∙ zeros elements e in
    record {
      each_changed = ap length changed_is ∙ length-replicate elements 0 ∙ sym long;
      each_made = ap length made_is ∙ length-replicate elements 0 ∙ sym long;
      past = λ e. omega (arith, none e);
      current = λ e below now. absurd (omega (arith, none e, now.0));
    }

module _ {C : Type 0} (b : Behaviour C) (cells : List C) (changed made : List ℕ) (clock : ℕ) (t : AreTimes b cells changed made clock) where
  -- a run gives a cell that is up to date once more
  pub run_gives_same : (e : ℕ) → e < length cells → IsUpToDate changed (get_or made e 0) (b.reads e) → set cells e (b.apply e (inputs_in b cells e)) ≡ cells
  run_gives_same e below now = set_again cells e (b.apply e (inputs_in b cells e)) (t.current e below now)

  -- no time of making is in time to come, also where one is written
  past_more : (e at clock' u : ℕ) → e < length cells → at ≤ clock' → clock ≤ clock' → get_or (set made e at) u 0 ≤ clock'
  past_more e at clock' u below early later =
      elim (eqb_tells u e) [
        | inl same ↦ omega (arith, ap (λ (v : ℕ). get_or (set made e at) v 0) same.1, get_or-set_same made e at 0 (omega (arith, t.each_made)), early)
        | inr other ↦ omega (arith, get_or-set_other made e u at 0 other.1, t.past u, later)
      ]

  -- what e was made of, if it was
  of_time : (e at u : ℕ) → e < length cells → u ≡ e → 0 < get_or (set made e at) u 0 → 0 < at
  of_time e at u below same some = omega (arith, ap (λ (v : ℕ). get_or (set made e at) v 0) same, get_or-set_same made e at 0 (omega (arith, t.each_made)), some)

  -- a run whose cell is the one that is there
  pub same_cell_says : (e at clock' : ℕ) (c : C) → e < length cells → slice_get cells e ≡ Some c → at ≤ clock' → clock ≤ clock' → (0 < at → c ≡ b.apply e (inputs_in b cells e)) → AreTimes b cells changed (set made e at) clock'
  same_cell_says e at clock' c below is early later of = record {
    each_changed = t.each_changed;
    each_made = length-set made e at ∙ t.each_made;
    past = λ u. past_more e at clock' u below early later;
    current = λ u there now. elim (eqb_tells u e) [
      | inl same ↦ subst (λ (v : ℕ). slice_get cells v ≡ Some (b.apply v (inputs_in b cells v))) (sym same.1) (is ∙ ap Some (of (of_time e at u below same.1 now.0)))
      | inr other ↦ t.current u there (subst (λ (m : ℕ). IsUpToDate changed m (b.reads u)) (get_or-set_other made e u at 0 other.1) now)
    ];
  }

  -- what is up to date doesn't read what is changed now
  not_read : (e at u : ℕ) → e < length cells → at ≤ clock → IsUpToDate (set changed e clock) (get_or (set made e at) u 0) (b.reads u) → All (λ v. v ≢ e) (b.reads u)
  not_read e at u below early now k d in_range same =
      let v : ℕ = get_or (b.reads u) k d in
      let at_v : get_or (set changed e clock) v 0 ≡ clock = ap (λ (w : ℕ). get_or (set changed e clock) w 0) same ∙ get_or-set_same changed e clock 0 (omega (arith, t.each_changed)) in
      absurd (omega (arith, now.1 k d in_range, at_v, past_more e at clock u below early (omega arith)))

  -- and it was so before
  was_up_to_date : (e at u : ℕ) → u ≢ e → All (λ v. v ≢ e) (b.reads u) → IsUpToDate (set changed e clock) (get_or (set made e at) u 0) (b.reads u) → IsUpToDate changed (get_or made u 0) (b.reads u)
  was_up_to_date e at u other others now =
      let made_so = get_or-set_other made e u at 0 other in (
        omega (arith, made_so, now.0),
        λ k d in_range. omega (arith, made_so, now.1 k d in_range, get_or-set_other changed e (get_or (b.reads u) k d) clock 0 (others k d in_range)),
      )

  -- a run that changes its cell
  pub new_cell_says : (e at clock' : ℕ) (c : C) → e < length cells → at ≤ clock → clock ≤ clock' → (0 < at → c ≡ b.apply e (inputs_in b cells e)) → AreTimes b (set cells e c) (set changed e clock) (set made e at) clock'
  new_cell_says e at clock' c below early later of = record {
    each_changed = length-set changed e clock ∙ t.each_changed ∙ sym (length-set cells e c);
    each_made = length-set made e at ∙ t.each_made ∙ sym (length-set cells e c);
    past = λ u. past_more e at clock' u below (omega arith) later;
    current = λ u there now.
        let others = not_read e at u below early now in
        let inputs : inputs_in b (set cells e c) u ≡ inputs_in b cells u = reads_others cells e c (b.reads u) others in
        elim (eqb_tells u e) [
          | inl same ↦
              subst (λ (v : ℕ). slice_get (set cells e c) v ≡ Some (b.apply v (inputs_in b cells v))) (sym same.1) (slice_get-set_same cells e c below ∙ ap Some (of (of_time e at u below same.1 now.0)))
              ∙ ap (λ (i : List C). Some (b.apply u i)) (sym inputs)
          | inr other ↦
              slice_get-set_other cells e u c other.1
              ∙ t.current u (omega (arith, there, length-set cells e c)) (was_up_to_date e at u other.1 others now)
              ∙ ap (λ (i : List C). Some (b.apply u i)) (sym inputs)
        ];
  }

  -- what is noted of a run whose cell is the one that is there, and of another
  pub unchanged_says : (e clock' : ℕ) (c : C) (applied unchanged : Bool) (changed' made' : List ℕ) → e < length cells → slice_get cells e ≡ Some c → clock ≤ clock' → (applied ≡ true → c ≡ b.apply e (inputs_in b cells e)) → unchanged ≡ true → made' ≡ set made e (cond applied clock 0) → changed' ≡ cond (not unchanged) (set changed e clock) changed → AreTimes b cells changed' made' clock'
  unchanged_says e clock' c applied unchanged changed' made' below is later of same made_is changed_is =
      rw (changed_is, same, made_is) (same_cell_says e (cond applied clock 0) clock' c below is (omega (arith, time_early applied clock)) later (time_of applied clock of))

  pub changed_says : (e clock' : ℕ) (c : C) (applied unchanged : Bool) (cells' : List C) (changed' made' : List ℕ) → e < length cells → clock ≤ clock' → (applied ≡ true → c ≡ b.apply e (inputs_in b cells e)) → unchanged ≡ false → cells' ≡ set cells e c → made' ≡ set made e (cond applied clock 0) → changed' ≡ cond (not unchanged) (set changed e clock) changed → AreTimes b cells' changed' made' clock'
  changed_says e clock' c applied unchanged cells' changed' made' below later of other cells_are made_is changed_is =
      rw (cells_are, changed_is, other, made_is) (new_cell_says e (cond applied clock 0) clock' c below (time_early applied clock) later (time_of applied clock of))
