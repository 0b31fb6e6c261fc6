-- A step's clause by the values that wait.
use Rattle.std.proofs.Common.{◌≡◌, ◌+◌, ◌-◌, ℕ, refl, ap, ◌∙◌, sym, subst, arith, List, [], ◌∷◌, ◌++◌, length, take, drop, get_or, Bool, true, false}
use Rattle.std.specs.Prelude.{ℤ, SomeIff, Option, Some, None, reverse, unsigned_abs, Result, Ok, Err, if◌then◌else◌}
use Rattle.std.proofs.lemmas.List.{reverse-append, length-reverse, length-drop, take-append-drop, take_all}
use Rattle.std.proofs.lemmas.Int.{to_z-of_z}
use mir.Syntax.{w128}
use mir.Val.{to_z, of_z, SFits}
use Rattle.pk_ctypes.specs.declared.types.IntType.{IntType}
use Rattle.pk_ctypes.specs.declared.types.Op.{Op}
use Rattle.pk_ctypes.specs.Types.{wrapped}
use Rattle.pk_ctypes.specs.Operators.{value_of}
use Rattle.pk_ctypes.specs.declared.places.Pos.{Pos}
use Rattle.pk_ctypes.specs.declared.faults.Fault.{Fault}
use Rattle.pk_graph.specs.Steps.{Numbers, number_at, is_index, is_true}
use Rattle.pk_meaning.specs.Objects.{local}
use Rattle.pk_meaning.specs.Work.{Work, Bind, Way, Onward, Refused, Lost, Ahead, Rest, Join, Again, Close, End}
use Rattle.pk_runner_frame.specs.declared.works.Way as code_way
use Rattle.pk_runner_frame.specs.declared.works.Way.TheVariants as ways
use Rattle.pk_runner_frame.specs.Frames.{Reading, Held, way_in, ahead_at, into, head, behind}
use Rattle.pk_runner_state.specs.Shown.{outcome, without_one}
use Rattle.pk_meaning.specs.Steps.{Config, Next, Stuck, operated, on_top, on_below, writes, takes, bind, on_two, on_three, with_value, fails}

-- ---- results and indices

pub by_value : (P : Next → Type 0) (c : Config) (at : Pos) (r : Result ℤ Fault) (f : ℤ → Next) (z : ℤ) → Ok z ≡ r → P (f z) → P (with_value c at r f)
by_value P c at r f z e p = subst (λ (q : Result ℤ Fault). P (with_value c at q f)) e p

pub by_fault : (P : Next → Type 0) (c : Config) (at : Pos) (r : Result ℤ Fault) (f : ℤ → Next) (x : Fault) → Err x ≡ r → P (fails c x at) → P (with_value c at r f)
by_fault P c at r f x e p = subst (λ (q : Result ℤ Fault). P (with_value c at q f)) e p

pub by_index : (P : Next → Type 0) (count : ℕ) (i : ℤ) (n m : Next) (j : ℕ) → SFits w128 i → (is_index count (to_z w128 (of_z w128 i)) ≡ true) × (j
    ≡ unsigned_abs (to_z w128 (of_z w128 i))) → P n → P (if is_index count i then n else m)
by_index P count i n m j fits h p = subst (λ (b : Bool). P (if b then n else m)) (sym h.0 ∙ ap (is_index count) (to_z-of_z w128 i fits)) p

pub index_is : (count : ℕ) (i : ℤ) (j : ℕ) → SFits w128 i → (is_index count (to_z w128 (of_z w128 i)) ≡ true) × (j ≡ unsigned_abs (to_z w128 (of_z w128 i))) → j ≡ unsigned_abs i
index_is count i j fits h = h.1 ∙ ap unsigned_abs (to_z-of_z w128 i fits)

pub no_index : (P : Next → Type 0) (count : ℕ) (i : ℤ) (n m : Next) → SFits w128 i → is_index count (to_z w128 (of_z w128 i)) ≡ false → P m → P (if is_index count i then n else m)
no_index P count i n m fits e p = subst (λ (b : Bool). P (if b then n else m)) (sym e ∙ ap (is_index count) (to_z-of_z w128 i fits)) p

-- ---- numbers that are read again

pub applied_same : (r : Result ℤ Fault) (op : Op) (t : IntType) (v : ℤ) → SFits w128 v → r ≡ value_of op t (wrapped t (to_z w128 (of_z w128 v))) (wrapped t (to_z w128 (of_z w128 v))) → r
    ≡ value_of op t (wrapped t v) (wrapped t v)
applied_same r op t v f e = e ∙ ap (λ (y : ℤ). value_of op t (wrapped t y) (wrapped t y)) (to_z-of_z w128 v f)

pub operated_same : (r : Result ℤ Fault) (op : Op) (t : IntType) (u v : ℤ) → SFits w128 u → SFits w128 v → r ≡ operated op t (to_z w128 (of_z w128 u)) (to_z w128 (of_z w128 v)) → r ≡ operated op t u v
operated_same r op t u v f g e = e ∙ (ap (λ (y : ℤ). operated op t y (to_z w128 (of_z w128 v))) (to_z-of_z w128 u f) ∙ ap (operated op t u) (to_z-of_z w128 v g))

pub converted_is : (t : IntType) (z v : ℤ) → SFits w128 v → z ≡ wrapped t (to_z w128 (of_z w128 v)) → z ≡ wrapped t v
converted_is t z v f e = e ∙ ap (wrapped t) (to_z-of_z w128 v f)

pub converted_same : (t : IntType) (z v : ℤ) → SFits w128 z → SFits w128 v → z ≡ wrapped t (to_z w128 (of_z w128 v)) → to_z w128 (of_z w128 z) ≡ wrapped t v
converted_same t z v g f e = to_z-of_z w128 z g ∙ converted_is t z v f e

-- ---- values on top

pub no_top : (P : Next → Type 0) (f : ℤ → Numbers → Next) (ds xs : List ℤ) → reverse ds ≡ [] → ds ≡ xs → P Stuck → P (on_top (reverse xs) f)
no_top P f ds xs e d p = subst (λ (vs : Numbers). P (on_top vs f)) (sym (ap reverse (sym d) ∙ e)) p

pub no_two : (P : Next → Type 0) (f : ℤ → ℤ → Numbers → Next) (ds xs : List ℤ) → ((g : ℤ → ℤ → Numbers → Next) → on_two (reverse ds) g ≡ Stuck) → ds ≡ xs → P Stuck → P (on_two (reverse xs) f)
no_two P f ds xs e d p = subst (λ (vs : Numbers). P (on_two (reverse vs) f)) d (subst P (sym (e f)) p)

pub no_three : (P : Next → Type 0) (f : ℤ → ℤ → ℤ → Numbers → Next) (ds xs : List ℤ) → ((g : ℤ → ℤ → ℤ → Numbers → Next) → on_three (reverse ds) g ≡ Stuck) → ds ≡ xs → P Stuck → P (on_three (reverse xs) f)
no_three P f ds xs e d p = subst (λ (vs : Numbers). P (on_three (reverse vs) f)) d (subst P (sym (e f)) p)

pub by_top : (P : Next → Type 0) (f : ℤ → Numbers → Next) (ds xs ys : List ℤ) (v : ℤ) → reverse ds ≡ v ∷ reverse (take (length ds - 1) ds) → ds ≡ xs → ys ≡ take (length xs - 1) xs →
    P (f v (reverse ys)) → P (on_top (reverse xs) f)
by_top P f ds xs ys v e d w p =
    let same : v ∷ reverse ys ≡ reverse xs = ap (λ (zs : List ℤ). v ∷ reverse zs) w ∙ (ap (λ (zs : List ℤ). v ∷ reverse (take (length zs - 1) zs)) (sym d) ∙ (sym e ∙ ap reverse d)) in
    subst (λ (vs : Numbers). P (on_top vs f)) same p

pub by_two : (P : Next → Type 0) (f : ℤ → ℤ → Numbers → Next) (ds xs ys : List ℤ) (u v : ℤ) → reverse ds ≡ v ∷ u ∷ reverse (take (length ds - 2) ds) → ds ≡ xs → ys
    ≡ take (length xs - 2) xs → P (f u v (reverse ys)) → P (on_two (reverse xs) f)
by_two P f ds xs ys u v e d w p =
    let same : v ∷ u ∷ reverse ys ≡ reverse xs = ap (λ (zs : List ℤ). v ∷ u ∷ reverse zs) w ∙ (ap (λ (zs : List ℤ). v ∷ u ∷ reverse (take (length zs - 2) zs)) (sym d) ∙ (sym e ∙ ap reverse d)) in
    subst (λ (vs : Numbers). P (on_two vs f)) same p

pub by_three : (P : Next → Type 0) (f : ℤ → ℤ → ℤ → Numbers → Next) (ds xs ys : List ℤ) (u v w : ℤ) → reverse ds ≡ w ∷ v ∷ u ∷ reverse (take (length ds - 3) ds) → ds ≡ xs → ys
    ≡ take (length xs - 3) xs → P (f u v w (reverse ys)) → P (on_three (reverse xs) f)
by_three P f ds xs ys u v w e d t p =
    let same : w ∷ v ∷ u ∷ reverse ys ≡ reverse xs = ap (λ (zs : List ℤ). w ∷ v ∷ u ∷ reverse zs) t ∙ (ap (λ (zs : List ℤ). w ∷ v ∷ u ∷ reverse (take (length zs - 3) zs)) (sym d) ∙ (sym e ∙ ap reverse d)) in
    subst (λ (vs : Numbers). P (on_three vs f)) same p

-- a value that is laid on top
pub laid : (xs ys : List ℤ) (v : ℤ) → xs ≡ ys ++ v ∷ [] → reverse xs ≡ v ∷ reverse ys
laid xs ys v e = ap reverse e ∙ reverse-append ys (v ∷ [])

two_off : (a b r : List ℤ) (v w : ℤ) → length a ≡ 2 → a ++ b ≡ w ∷ v ∷ r → b ≡ r
two_off [] b r v w h e = absurd (omega (arith, h))
two_off (x ∷ []) b r v w h e = absurd (omega (arith, h))
two_off (x ∷ y ∷ []) b r v w h e = cc e
two_off (x ∷ y ∷ z ∷ a) b r v w h e = absurd (omega (arith, h))

-- without the two topmost of three
pub under_two : (ds xs ys : List ℤ) (u v w : ℤ) → reverse ds ≡ w ∷ v ∷ u ∷ reverse (take (length ds - 3) ds) → ds ≡ xs → ys ≡ take (length xs - 2) xs → reverse ys ≡ u ∷ reverse (take (length xs - 3) xs)
under_two ds xs ys u v w e d t =
    let r : List ℤ = reverse (take (length xs - 3) xs) in
    let n : ℕ = length xs - 2 in
    let turned : reverse xs ≡ w ∷ v ∷ u ∷ r = ap reverse (sym d) ∙ (e ∙ ap (λ (zs : List ℤ). w ∷ v ∷ u ∷ reverse (take (length zs - 3) zs)) d) in
    let count : length xs ≡ length (w ∷ v ∷ u ∷ r) = sym (length-reverse xs) ∙ ap length turned in
    let off : length (reverse (drop n xs)) ≡ 2 = length-reverse (drop n xs) ∙ (length-drop n xs ∙ omega (arith, count)) in
    ap reverse t ∙ two_off (reverse (drop n xs)) (reverse (take n xs)) (u ∷ r) v w off (sym (reverse-append (take n xs) (drop n xs)) ∙ (ap reverse (take-append-drop n xs) ∙ turned))

pub operated_read : (r : Result ℤ Fault) (op : Op) (t : IntType) (l u v : ℤ) → to_z w128 (of_z w128 l) ≡ u → SFits w128 v → r ≡ operated op t (to_z w128 (of_z w128 l)) (to_z w128 (of_z w128 v)) → r ≡ operated op t u v
operated_read r op t l u v f g e = e ∙ (ap (λ (y : ℤ). operated op t y (to_z w128 (of_z w128 v))) f ∙ ap (operated op t u) (to_z-of_z w128 v g))

-- ---- tests

pub by_truth : (P : Next → Type 0) (z y : ℤ) (first second : Next) → to_z w128 (of_z w128 z) ≡ y → true ≡ is_true (to_z w128 (of_z w128 z)) → P first → P (if is_true y then first else second)
by_truth P z y first second e t p = subst (λ (b : Bool). P (if b then first else second)) (t ∙ ap is_true e) p

pub by_falsity : (P : Next → Type 0) (z y : ℤ) (first second : Next) → to_z w128 (of_z w128 z) ≡ y → false ≡ is_true (to_z w128 (of_z w128 z)) → P second → P (if is_true y then first else second)
by_falsity P z y first second e t p = subst (λ (b : Bool). P (if b then first else second)) (t ∙ ap is_true e) p

-- ---- parameters

pub by_bind : (P : Next → Type 0) (c : Config) (k i : ℕ) (ts : List IntType) (w : Work) (d : IntType) → (length ts ≡ 0 → ⊥) →
    P (on_below (length ts - 1) c.values (λ v vs. writes c (local k i) (wrapped (get_or ts 0 d) v ∷ []) (Bind k (i + 1) (drop 1 ts) w) vs)) → P (bind c k i ts w)
by_bind P c k i [] w d h p = absurd (h refl)
by_bind P c k i (u ∷ us) w d h p =
    let count : length (u ∷ us) - 1 ≡ length us = omega arith in
    subst (λ (n : ℕ). P (on_below n c.values (λ v vs. writes c (local k i) (wrapped u v ∷ []) (Bind k (i + 1) us w) vs))) count p

pub by_below : (P : Next → Type 0) (n : ℕ) (f : ℤ → Numbers → Next) (ds xs ys : List ℤ) (k : ℕ) → ((g : ℤ → Numbers → Next) → on_below n (reverse ds) g
    ≡ g (number_at ds k) (reverse (without_one k ds))) → ds ≡ xs → ys ≡ without_one k xs → P (f (number_at xs k) (reverse ys)) → P (on_below n (reverse xs) f)
by_below P n f ds xs ys k e d w p =
    let there : on_below n (reverse xs) f ≡ f (number_at xs k) (reverse ys) =
    ap (λ (zs : List ℤ). on_below n (reverse zs) f) (sym d) ∙ (e f ∙ (ap (λ (zs : List ℤ). f (number_at zs k) (reverse (without_one k zs))) d ∙ ap (λ (zs : List ℤ). f (number_at xs k) (reverse zs)) (sym w))) in
    subst P (sym there) p

pub no_bind : (P : Next → Type 0) (c : Config) (k i : ℕ) (ts : List IntType) (w : Work) (ds : List ℤ) → (length ts ≡ 0 → ⊥) → ((f : ℤ → Numbers → Next) →
    on_below (length ts - 1) (reverse ds) f ≡ Stuck) → reverse ds ≡ c.values → P Stuck → P (bind c k i ts w)
no_bind P c k i [] w ds h e d p = absurd (h refl)
no_bind P c k i (u ∷ us) w ds h e d p =
    let f : ℤ → Numbers → Next = λ v vs. writes c (local k i) (wrapped u v ∷ []) (Bind k (i + 1) us w) vs in
    let count : length (u ∷ us) - 1 ≡ length us = omega arith in
    subst P (sym (e f) ∙ (ap (λ (n : ℕ). on_below n (reverse ds) f) count ∙ ap (λ (vs : Numbers). on_below (length us) vs f) d)) p

-- ---- ways

no_into : (a : Ahead) → into a ≡ Refused → ⊥
no_into (Rest xs is a) e = cc e
no_into (Join h a) e = cc e
no_into (Again h l b a) e = cc e
no_into (Close h a) e = cc e
no_into (End c) e = cc e

no_head : (a : Ahead) → head a ≡ Refused → ⊥
no_head (Rest xs is a) e = cc e
no_head (Join h a) e = cc e
no_head (Again h l b a) e = cc e
no_head (Close h a) e = cc e
no_head (End c) e = cc e

no_behind : (a : Ahead) → behind a ≡ Refused → ⊥
no_behind (Rest xs is a) e = cc e
no_behind (Join h a) e = cc e
no_behind (Again h l b a) e = cc e
no_behind (Close h a) e = cc e
no_behind (End c) e = cc e

no_refused : (s : Reading) (hs : List Held) (w : code_way.Way) → (w ≡ ways.Refused → ⊥) → way_in s hs w ≡ Refused → ⊥
no_refused s hs (ways.Onward h k) n e = cc e
no_refused s hs (ways.Into a) n e = no_into (ahead_at hs a) e
no_refused s hs (ways.Head a) n e = no_head (ahead_at hs a) e
no_refused s hs (ways.Behind a) n e = no_behind (ahead_at hs a) e
no_refused s hs ways.Refused n e = n refl
no_refused s hs ways.Lost n e = cc e

along : (c : Config) (us vs : Numbers) (w : Way) → (w ≡ Refused → ⊥) → outcome (takes (record c { values = us }) w vs) (record c { values = us }) ≡ outcome (takes c w vs) c
along c us vs (Onward h k) n = refl
along c us vs Refused n = absurd (n refl)
along c us vs Lost n = refl

-- a way that isn't refused is taken alike whatever values waited
pub taken : (s : Reading) (hs : List Held) (c : Config) (us vs : Numbers) (w x : code_way.Way) → (w ≡ ways.Refused → ⊥) → w ≡ x →
    outcome (takes (record c { values = us }) (way_in s hs w) vs) (record c { values = us }) ≡ outcome (takes c (way_in s hs x) vs) c
taken s hs c us vs w x n e = along c us vs (way_in s hs w) (no_refused s hs w n) ∙ ap (λ (y : code_way.Way). outcome (takes c (way_in s hs y) vs) c) e

-- ---- what is left of parameters

pub number_is : (n m : ℕ) (o : Option ℕ) (A : Type 0) → o ≡ Some n → SomeIff o A m → n ≡ m
number_is n m None A e h = cc e
number_is n m (Some k) A e h = let same : k ≡ n = cc e in sym same ∙ h.1

pub rest_is : (ts : List IntType) → take (length ts - 1) (drop 1 ts) ≡ drop 1 ts
rest_is ts = take_all (length ts - 1) (drop 1 ts) (let e : length (drop 1 ts) ≡ length ts - 1 = length-drop 1 ts in omega (arith, e))
