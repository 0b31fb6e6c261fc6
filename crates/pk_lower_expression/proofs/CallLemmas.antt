-- Arguments of calls.
use Rattle.std.proofs.Common.{◌≡◌, ◌<◌, ◌≤◌, ◌+◌, ℕ, zero, suc, List, [], ◌∷◌, length, get_or, drop, map, Bool, true, false, refl, sym, ◌∙◌, ap, arith, ⊎_elim, drop-cons, ◌++◌, add-one, append_assoc}
use Rattle.std.specs.Prelude.{◌||◌, nat_lt, Option, Some, SomeIff, Result, Ok, Err, OnOk, IfOk}
use Rattle.std.proofs.lemmas.List.{map-append, append-nil, drop_all}
use Rattle.std.proofs.lemmas.Bool.{cases_lt}
use Rattle.pk_ctypes.specs.declared.types.IntType.{IntType}
use Rattle.pk_ctypes.proofs.Small.{some_is}
use Rattle.pk_typed.specs.declared.values.Value.{Value}
use Rattle.pk_typed.specs.Types.{type_of}
use Rattle.pk_typed.specs.Views.{value_tree, value_trees}
use Rattle.pk_graph.specs.declared.trees.Tree.{Tree}
use Rattle.pk_graph.specs.Views.{tree_view}
use Rattle.pk_draft.specs.declared.drafts.Draft.{Draft}
use Rattle.pk_typed.specs.Trees.{ValueTrees}
use Rattle.pk_graph.specs.Trees.{TreeOf}
use Rattle.pk_graph.specs.Trees as graph
use Rattle.pk_draft.specs.declared.drafts.Size.{Size}
use Rattle.pk_draft.specs.Drafts.{DraftOf, Given}
use Rattle.pk_draft.specs.Shown.{drafted}
use Rattle.pk_lower_row.specs.Shapes.{shape_of, makes, any_makes, strong_if}
use Rattle.pk_lower_row.specs.declared.shapes.Waiting.{Waiting}
use Rattle.pk_lower_row.specs.Contexts.{Context, callee, size_in, parameters_of}
use Rattle.pk_lower_row.specs.Views.{passed_in}
use Rattle.pk_lower_row.specs.Rows.{types_of, bound, set_after, Passed, held, kept_beside, entered_after, call_after, called}
use Rattle.pk_lower_expression.specs.Expressions.{ways, passed}

or_true : (a b : Bool) → b ≡ true → (a || b) ≡ true
or_true true b h = refl
or_true false b h = h

true_or : (a b : Bool) → a ≡ true → (a || b) ≡ true
true_or true b h = refl
true_or false b h = cc

or_false : (a b : Bool) → (a || b) ≡ false → b ≡ false
or_false true b h = cc
or_false false b h = h

-- where one makes an edge, so do those from an earlier place on
pub makes_from : (vs : List Value) (k m : ℕ) (v0 : Value) → k ≤ m → m < length vs → makes (value_tree (get_or vs m v0)) ≡ true → any_makes (value_trees (drop k vs)) ≡ true
makes_from [] k m v0 le lt h = absurd (omega arith)
makes_from (v ∷ vs) zero zero v0 le lt h = true_or (makes (value_tree v)) (any_makes (value_trees vs)) h
makes_from (v ∷ vs) zero (suc m) v0 le lt h = or_true (makes (value_tree v)) (any_makes (value_trees vs)) (makes_from vs zero m v0 (omega arith) (omega arith) h)
makes_from (v ∷ vs) (suc k) zero v0 le lt h = absurd (omega arith)
makes_from (v ∷ vs) (suc k) (suc m) v0 le lt h = makes_from vs k m v0 (omega arith) (omega arith) h

pub none_from : (vs : List Value) (n k : ℕ) → n ≤ k → any_makes (value_trees (drop n vs)) ≡ false → any_makes (value_trees (drop k vs)) ≡ false
none_from [] n zero le h = refl
none_from [] n (suc k) le h = refl
none_from (v ∷ vs) zero zero le h = h
none_from (v ∷ vs) zero (suc k) le h = none_from vs zero k (omega arith) (or_false (makes (value_tree v)) (any_makes (value_trees vs)) h)
none_from (v ∷ vs) (suc n) zero le h = absurd (omega arith)
none_from (v ∷ vs) (suc n) (suc k) le h = none_from vs n k (omega arith) h

is_below : (k n : ℕ) → k < n → nat_lt k n ≡ true
is_below k n h = grind arith

isnt_below : (k n : ℕ) → n ≤ k → nat_lt k n ≡ false
isnt_below k n h = grind arith

pub last_is : (vs : List Value) (n m : ℕ) (v0 : Value) → m + 1 ≡ n → n ≤ length vs → makes (value_tree (get_or vs m v0)) ≡ true → any_makes (value_trees (drop n vs)) ≡ false
    → (k : ℕ) → any_makes (value_trees (drop k vs)) ≡ nat_lt k n
last_is vs n m v0 is le h none k = ⊎_elim
    (λ (lt : k < n). makes_from vs k m v0 (omega arith) (omega arith) h ∙ sym (is_below k n lt))
    (λ (ge : n ≤ k). none_from vs n k ge none ∙ sym (isnt_below k n ge))
    (cases_lt k n)

pub none_is : (vs : List Value) (n : ℕ) → n ≡ 0 → any_makes (value_trees (drop n vs)) ≡ false → (k : ℕ) → any_makes (value_trees (drop k vs)) ≡ nat_lt k 0
none_is vs n is none k = none_from vs n k (omega arith) none ∙ sym (isnt_below k 0 (omega arith))

-- ---- parameters

pub bound_no_values : (k i x : ℕ) (ts : List IntType) (vs : List Value) (rs : List Tree) (n : ℕ) (d : DraftOf ℕ) → length vs ≤ n
    → bound k i x ts (types_of (value_trees (drop n vs))) (map tree_view rs) d ≡ d
bound_no_values k i x [] vs rs n d h = refl
bound_no_values k i x (t ∷ ts) [] rs zero d h = refl
bound_no_values k i x (t ∷ ts) [] rs (suc n) d h = refl
bound_no_values k i x (t ∷ ts) (v ∷ vs) rs zero d h = absurd (omega arith)
bound_no_values k i x (t ∷ ts) (v ∷ vs) rs (suc n) d h = bound_no_values k i x (t ∷ ts) vs rs n d (omega arith)

bound_none : (k i x : ℕ) (ts us : List IntType) (d : DraftOf ℕ) → bound k i x ts us [] d ≡ d
bound_none k i x [] us d = refl
bound_none k i x (t ∷ ts) [] d = refl
bound_none k i x (t ∷ ts) (u ∷ us) d = refl

pub bound_no_trees : (k i x : ℕ) (ts us : List IntType) (rs : List Tree) (n : ℕ) (d : DraftOf ℕ) → length rs ≤ n
    → bound k i x ts us (map tree_view (drop n rs)) d ≡ d
bound_no_trees k i x ts us [] zero d h = bound_none k i x ts us d
bound_no_trees k i x ts us [] (suc n) d h = bound_none k i x ts us d
bound_no_trees k i x ts us (r ∷ rs) zero d h = absurd (omega arith)
bound_no_trees k i x ts us (r ∷ rs) (suc n) d h = bound_no_trees k i x ts us rs n d (omega arith)

-- one parameter is set
pub bound_next : (P : Type 0) (k first n x : ℕ) (o : Option ℕ) (ts : List IntType) (vs : List Value) (rs : List Tree) (t : IntType) (v : Value) (r : Tree) (d0 : Draft) (d1 : DraftOf ℕ)
    → n < length ts → n < length vs → n < length rs → SomeIff o P (first + n) → o ≡ Some x → v ≡ get_or vs n v → r ≡ get_or rs n r
    → d1 ≡ set_after (get_or ts n t) (type_of (value_tree v)) x (tree_view r, drafted d0)
    → bound k (n + 1) (first + (n + 1)) (drop (n + 1) ts) (types_of (value_trees (drop (n + 1) vs))) (map tree_view (drop (n + 1) rs)) d1
    ≡ bound k n (first + n) (drop n ts) (types_of (value_trees (drop n vs))) (map tree_view (drop n rs)) (drafted d0)
unfolding drafted
bound_next P k first n x o ts vs rs t v r d0 d1 a b e sum is ev er ed =
    let next : ℕ → DraftOf ℕ → DraftOf ℕ = λ m d. bound k (n + 1) (first + (n + 1)) (drop m ts) (types_of (value_trees (drop m vs))) (map tree_view (drop m rs)) d in
    let far : first + (n + 1) ≡ first + n + 1 = omega arith in
    let at_x : x ≡ first + n = some_is P o (first + n) x sum is in
    ap (next (n + 1)) ed
    ∙ (ap (λ (m : ℕ). next m (set_after (get_or ts n t) (type_of (value_tree v)) x (tree_view r, drafted d0))) (add-one n)
    ∙ (ap (λ (z : ℕ). next (suc n) (set_after (get_or ts n t) (type_of (value_tree v)) z (tree_view r, drafted d0))) at_x
    ∙ (ap (λ (z : Value). next (suc n) (set_after (get_or ts n t) (type_of (value_tree z)) (first + n) (tree_view r, drafted d0))) ev
    ∙ (ap (λ (z : Tree). next (suc n) (set_after (get_or ts n t) (type_of (value_tree (get_or vs n v))) (first + n) (tree_view z, drafted d0))) er
    ∙ (ap (λ (z : ℕ). bound k (n + 1) z (drop (suc n) ts) (types_of (value_trees (drop (suc n) vs))) (map tree_view (drop (suc n) rs)) (set_after (get_or ts n t) (type_of (value_tree (get_or vs n v))) (first + n) (tree_view (get_or rs n r), drafted d0))) far
    ∙ sym (ap (λ (l : List IntType). bound k n (first + n) l (types_of (value_trees (drop n vs))) (map tree_view (drop n rs)) (drafted d0)) (drop-cons ts n t a)
    ∙ (ap (λ (l : List Value). bound k n (first + n) (get_or ts n t ∷ drop (suc n) ts) (types_of (value_trees l)) (map tree_view (drop n rs)) (drafted d0)) (drop-cons vs n v b)
    ∙ ap (λ (l : List Tree). bound k n (first + n) (get_or ts n t ∷ drop (suc n) ts) (types_of (value_trees (get_or vs n v ∷ drop (suc n) vs))) (map tree_view l) (drafted d0)) (drop-cons rs n r e))))))))

-- ---- arguments

abbrev pub behind : List (TreeOf ℕ) → Passed ℕ → Passed ℕ
behind es r = record { trees = es ++ r.trees; draft = r.draft }

pub passed_next : (c : Context) (n last : ℕ) (vs : List Value) (v : Value) (ts us : List Tree) (t : Tree) (how : Waiting) (d0 d1 : Draft)
    → n < length vs → v ≡ get_or vs n v → how ≡ strong_if (nat_lt (n + 1) last) → ((k : ℕ) → any_makes (value_trees (drop k vs)) ≡ nat_lt k last)
    → (tree_view t, drafted d1) ≡ held how (shape_of (value_tree v)) (type_of (value_tree v)) ((ways c (value_tree v)).value (drafted d0))
    → us ≡ ts ++ t ∷ []
    → behind (map tree_view us) (passed c (value_trees (drop (n + 1) vs)) (drafted d1)) ≡ behind (map tree_view ts) (passed c (value_trees (drop n vs)) (drafted d0))
unfolding passed
passed_next c n last vs v ts us t how d0 d1 lt at h makes_is e more =
    let later : ValueTrees = value_trees (drop (n + 1) vs) in
    let split : drop n vs ≡ v ∷ drop (n + 1) vs = drop-cons vs n v lt ∙ (ap (λ (z : Value). z ∷ drop (suc n) vs) (sym at) ∙ ap (λ (m : ℕ). v ∷ drop m vs) (sym (add-one n))) in
    let held_is : (tree_view t, drafted d1) ≡ held (strong_if (any_makes later)) (shape_of (value_tree v)) (type_of (value_tree v)) ((ways c (value_tree v)).value (drafted d0))
    = e ∙ ap (λ (w : Waiting). held w (shape_of (value_tree v)) (type_of (value_tree v)) ((ways c (value_tree v)).value (drafted d0))) (h ∙ ap strong_if (sym (makes_is (n + 1)))) in
    ap (λ (l : List Tree). behind (map tree_view l) (passed c later (drafted d1))) more
    ∙ (ap (λ (l : List (TreeOf ℕ)). behind l (passed c later (drafted d1))) (map-append tree_view ts (t ∷ []))
    ∙ (ap (λ (l : List (TreeOf ℕ)). let p : Passed ℕ = record { trees = l; draft = (passed c later (drafted d1)).draft } in p) (append_assoc (map tree_view ts) (tree_view t ∷ []) (passed c later (drafted d1)).trees)
    ∙ (ap (λ (g : Given ℕ). behind (map tree_view ts) (first_passed g (passed c later))) held_is
    ∙ sym (ap (λ (l : List Value). behind (map tree_view ts) (passed c (value_trees l) (drafted d0))) split))))
  where
    first_passed : Given ℕ → (DraftOf ℕ → Passed ℕ) → Passed ℕ
    first_passed g f = let r = f g.1 in record { trees = g.0 ∷ r.trees; draft = r.draft }

pub passed_end : (c : Context) (n : ℕ) (vs : List Value) (ts : List Tree) (d : Draft) → length vs ≤ n
    → passed_in ts d ≡ behind (map tree_view ts) (passed c (value_trees (drop n vs)) (drafted d))
unfolding passed
passed_end c n vs ts d h =
    ap (λ (l : List (TreeOf ℕ)). let p : Passed ℕ = record { trees = l; draft = drafted d } in p) (sym (append-nil (map tree_view ts)))
    ∙ ap (λ (l : List Value). behind (map tree_view ts) (passed c (value_trees l) (drafted d))) (sym (drop_all n vs h))

-- a call behind its arguments
pub call_is : (c : Context) (f n x : ℕ) (us : List IntType) (k : ℕ) (s : Size) (ts : List IntType) (rs : List Tree) (arguments : DraftOf ℕ → Passed ℕ) (d0 : DraftOf ℕ) (d1 : Draft) (d2 : DraftOf ℕ)
    → passed_in rs d1 ≡ arguments d0 → k ≡ callee c n → s ≡ size_in c.sizes f → ts ≡ parameters_of c.unit f
    → d2 ≡ entered_after k s ts us (map tree_view rs) (drafted d1) → x ≡ (drafted d1).variables + length ts
    → (graph.variable x, d2) ≡ called c f n us arguments d0
unfolding drafted
call_is c f n x us k s ts rs arguments d0 d1 d2 ep ek es et e2 ex =
    ap (λ (d : DraftOf ℕ). kept_beside x d) e2
    ∙ (ap (λ (z : ℕ). kept_beside z (entered_after k s ts us (map tree_view rs) (drafted d1))) ex
    ∙ (ap (λ (z : ℕ). call_after z s ts us (passed_in rs d1)) ek
    ∙ (ap (λ (z : Size). call_after (callee c n) z ts us (passed_in rs d1)) es
    ∙ (ap (λ (z : List IntType). call_after (callee c n) (size_in c.sizes f) z us (passed_in rs d1)) et
    ∙ ap (call_after (callee c n) (size_in c.sizes f) (parameters_of c.unit f) us) ep))))

pub with_both : {A E : Type 0} (r : Result A E) {P : Type 0} {Q R : A → Type 0} → ((v : A) → P → Q v → R v) → OnOk r P → IfOk r Q → IfOk r R
with_both (Ok v) f p q = f v p q
with_both (Err e) f p q = tt
