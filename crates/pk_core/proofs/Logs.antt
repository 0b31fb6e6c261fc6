-- What the log of an element says in the trace's own words.
use Rattle.std.proofs.Common.{◌≡◌, ℕ, suc, ◌+◌, ◌≤◌, ◌==◌, List, [], ◌∷◌, ◌++◌, map, length, Bool, true, false, if◌then◌else◌, cond, ◌&&◌, refl, sym, ap, ◌∙◌, arith, length-append}
use Rattle.pk_iterate.specs.Behaviour.{Behaviour}
use Rattle.pk_iterate.specs.Iteration.{inputs_after, cell_after, count_of}
use Rattle.pk_core.specs.States.{Made, newest}
use Rattle.pk_core.proofs.Moves.{log_of}
use Rattle.pk_iterate.specs.Runs.{runs_before, run_value, values_read}
use Rattle.pk_iterate.proofs.Run_values.{count-cons}
use Rattle.pk_core.proofs.Basics.{neq, itself}
use Rattle.pk_core.proofs.Sequence.{log_cell}

-- its length is the count
pub log_length : {C : Type 0} (b : Behaviour C) (runs : List (ℕ × C)) (e : ℕ) → length (log_of b runs e) ≡ count_of runs e
log_length b [] e = refl
log_length {C} b (r ∷ runs) e = by_test (r.0 == e) (log_length b runs e) ∙ sym (count-cons r runs e)
  where
    by_test : (c : Bool) → length (log_of b runs e) ≡ count_of runs e → length (if c then record { read = inputs_after b runs e; gave = r.1 } ∷ log_of b runs e else log_of b runs e) ≡ cond c 1 0 + count_of runs e
    by_test true ih = omega arith
    by_test false ih = omega arith

test_yes : (c n : ℕ) → n ≡ suc c → (c + 1 == n) ≡ true
test_yes c n h =
    let e : c + 1 ≡ n = omega arith in
    ap (λ (j : ℕ). j == n) e ∙ itself n

test_no : (c n : ℕ) → n ≤ c → (c + 1 == n) ≡ false
test_no c n h = neq (c + 1) n (λ e. absurd (omega arith))

-- the newest of the oldest runs gave the run value of that number
pub value_at : {C : Type 0} (b : Behaviour C) (runs : List (ℕ × C)) (e : ℕ) (pre made : List (Made C)) → log_of b runs e ≡ pre ++ made → newest (b.first e) made ≡ run_value b runs e (length made)
value_at b [] e [] made h = ap (newest (b.first e)) (sym h)
value_at b [] e (y ∷ pre) made h = absurd (cc)
value_at {C} b (r ∷ runs) e pre made h = by_test (r.0 == e) pre h (value_at b runs e)
  where
    by_test : (c : Bool) (pre : List (Made C)) → (if c then record { read = inputs_after b runs e; gave = r.1 } ∷ log_of b runs e else log_of b runs e) ≡ pre ++ made → ((pre made : List (Made C)) → log_of b runs e ≡ pre ++ made → newest (b.first e) made ≡ run_value b runs e (length made)) → newest (b.first e) made ≡ (if c && (count_of runs e + 1 == length made) then r.1 else run_value b runs e (length made))
    by_test false pre h ih = ih pre made h
    by_test true [] h ih =
        let long : length made ≡ suc (count_of runs e) = sym (ap length h) ∙ ap suc (log_length b runs e) in
        let yes' = test_yes (count_of runs e) (length made) long in
        rw yes' (sym (ap (newest (b.first e)) h))
    by_test true (y ∷ pre) h ih =
        let tail : log_of b runs e ≡ pre ++ made = cc in
        let short : length made ≤ count_of runs e = omega (arith, sym (ap length tail) ∙ log_length b runs e, length-append pre made) in
        let no' = test_no (count_of runs e) (length made) short in
        rw no' (ih pre made tail)

-- and read the cells of that time
pub read_at : {C : Type 0} (b : Behaviour C) (runs : List (ℕ × C)) (e : ℕ) (pre : List (Made C)) (m : Made C) (made : List (Made C)) → log_of b runs e ≡ pre ++ m ∷ made → m.read ≡ inputs_after b (runs_before runs e (length made + 1)) e
read_at b [] e [] m made h = absurd (cc)
read_at b [] e (y ∷ pre) m made h = absurd (cc)
read_at {C} b (r ∷ runs) e pre m made h = by_test (r.0 == e) pre h (read_at b runs e)
  where
    by_test : (c : Bool) (pre : List (Made C)) → (if c then record { read = inputs_after b runs e; gave = r.1 } ∷ log_of b runs e else log_of b runs e) ≡ pre ++ m ∷ made → ((pre : List (Made C)) (m : Made C) (made : List (Made C)) → log_of b runs e ≡ pre ++ m ∷ made → m.read ≡ inputs_after b (runs_before runs e (length made + 1)) e) → m.read ≡ inputs_after b (if c && (count_of runs e + 1 == length made + 1) then runs else runs_before runs e (length made + 1)) e
    by_test false pre h ih = ih pre m made h
    by_test true [] h ih =
        let tail : log_of b runs e ≡ made = cc in
        let long : length made + 1 ≡ suc (count_of runs e) = omega (arith, sym (ap length tail) ∙ log_length b runs e) in
        let yes' = test_yes (count_of runs e) (length made + 1) long in
        let first : record { read = inputs_after b runs e; gave = r.1 } ≡ m = cc in
        rw yes' (sym (ap (λ (x : Made C). x.read) first))
    by_test true (y ∷ pre) h ih =
        let tail : log_of b runs e ≡ pre ++ m ∷ made = cc in
        let short : length made + 1 ≤ count_of runs e = omega (arith, sym (ap length tail) ∙ log_length b runs e, length-append pre (m ∷ made)) in
        let no' = test_no (count_of runs e) (length made + 1) short in
        rw no' (ih pre m made tail)

-- the log of the earlier runs is the end of the log
log_late : {C : Type 0} (b : Behaviour C) (late early : List (ℕ × C)) (u : ℕ) → (pre : List (Made C)) × (log_of b (late ++ early) u ≡ pre ++ log_of b early u)
log_late b [] early u = ([], refl)
log_late {C} b (r ∷ late) early u = by_test (r.0 == u) (log_late b late early u)
  where
    by_test : (c : Bool) → (pre : List (Made C)) × (log_of b (late ++ early) u ≡ pre ++ log_of b early u) → (pre : List (Made C)) × ((if c then record { read = inputs_after b (late ++ early) u; gave = r.1 } ∷ log_of b (late ++ early) u else log_of b (late ++ early) u) ≡ pre ++ log_of b early u)
    by_test true ih = (record { read = inputs_after b (late ++ early) u; gave = r.1 } ∷ ih.0, ap (λ (xs : List (Made C)). record { read = inputs_after b (late ++ early) u; gave = r.1 } ∷ xs) ih.1)
    by_test false ih = ih

before_is_end : {C : Type 0} (runs : List (ℕ × C)) (e k : ℕ) → (late : List (ℕ × C)) × (runs ≡ late ++ runs_before runs e k)
before_is_end [] e k = ([], refl)
before_is_end {C} (r ∷ runs) e k = by_test ((r.0 == e) && (count_of runs e + 1 == k)) (before_is_end runs e k)
  where
    by_test : (c : Bool) → (late : List (ℕ × C)) × (runs ≡ late ++ runs_before runs e k) → (late : List (ℕ × C)) × (r ∷ runs ≡ late ++ (if c then runs else runs_before runs e k))
    by_test true ih = (r ∷ [], refl)
    by_test false ih = (r ∷ ih.0, ap (λ (xs : List (ℕ × C)). r ∷ xs) ih.1)

cell_then : {C : Type 0} (b : Behaviour C) (runs late early : List (ℕ × C)) (u : ℕ) → runs ≡ late ++ early → cell_after b early u ≡ run_value b runs u (count_of early u)
cell_then {C} b runs late early u h =
    let l = log_late b late early u in
    sym (log_cell b early u)
    ∙ value_at b runs u l.0 (log_of b early u) (ap (λ (xs : List (ℕ × C)). log_of b xs u) h ∙ l.1)
    ∙ ap (run_value b runs u) (log_length b early u)

pub read_values : {C : Type 0} (b : Behaviour C) (runs : List (ℕ × C)) (e k : ℕ) → inputs_after b (runs_before runs e k) e ≡ values_read b runs e k
read_values {C} b runs e k =
    let l = before_is_end runs e k in
    let cells : cell_after b (runs_before runs e k) ≡ (λ u. run_value b runs u (count_of (runs_before runs e k) u)) = λ i u. cell_then b runs l.0 (runs_before runs e k) u l.1 i in
    ap (λ (f : ℕ → C). map f (b.reads e)) cells
