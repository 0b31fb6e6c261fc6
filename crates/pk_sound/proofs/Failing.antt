-- A step that faults does so at an access.
use Rattle.std.specs.Prelude.{◌≡◌, ◌⊎◌, ℕ, Bool, true, false, if◌then◌else◌, ℤ, List, [], ◌∷◌, ◌++◌, unsigned_abs, slice_set, Contains, Result, Ok, Err}
use Rattle.std.proofs.Common.{refl, ap, sym, subst, inl, inr}
use Rattle.std.proofs.lemmas.List.Elements.{Contains-append_left, Contains-append_right}
use Rattle.pk_ctypes.specs.declared.types.IntType.{IntType}
use Rattle.pk_ctypes.specs.declared.types.IntType.TheVariants.{Char, SChar, UChar, Short, UShort, Int, UInt, Long, ULong, LLong, ULLong}
use Rattle.pk_ctypes.specs.declared.types.Op.{Op}
use Rattle.pk_ctypes.specs.declared.types.Op.TheVariants.{Add, Sub, Mul, Div, Rem, Shl, Shr, Neg}
use Rattle.pk_ctypes.specs.declared.faults.Fault.{Fault}
use Rattle.pk_ctypes.specs.declared.faults.Fault.TheVariants as faults
use Rattle.pk_ctypes.specs.Types.{is_signed_of, InType, wrapped}
use Rattle.pk_ctypes.specs.Operators.{value_of}
use Rattle.pk_ctypes.specs.Laws.{FaultsWith, sum_past, difference_past, product_past, negative_past, quotient_by_zero, rest_by_zero, quotient_past, rest_past, left_by_no_count, right_by_no_count, left_of_negative, left_past}
use Rattle.pk_ctypes.proofs.Faulting.{told, faults as faults_by}
use Rattle.pk_graph.specs.declared.trees.Site.{Site}
use Rattle.pk_graph.specs.Trees.{TreeOf, constant, variable, converted, unary, binary, InstrOf, Skip, Set, Havoc, Clear, Load, Store, Guard, Check}
use Rattle.pk_graph.specs.Kinds.{Kinds, type_of, IsUnary, IsRight, IsTyped, IsTypedInstr}
use Rattle.pk_graph.specs.Steps.{Numbers, number_at, Failure, failure, at_site, and_then, tree_value, is_true, is_index, indexed, are_any, After, To, Wants, Faulted, with_value, passed, effect}
use Rattle.pk_graph.specs.Stores.{Stored, storing, numbers_of, IsStore}
use Rattle.pk_graph.specs.Accesses.{Index, Divisor, Negation, Result as Arithmetic, Shift, Assertion, AccessOf, access, if_signed, of_unary, of_binary, of_tree, of_index, of_instr, fault_of}
use Rattle.pk_linear.proofs.ListLemmas.{contains_here, contains_there}
use Rattle.pk_graph_step.proofs.TypedLemmas.{typed_value, unary_right, binary_right}
use Rattle.pk_sound.specs.Verdicts.{FaultsIn}
use Rattle.pk_sound.specs.Faults.{IsHidden, IsFailing, FaultsAreAccesses}
use Rattle.pk_sound.proofs.Holding.{values_lie}

-- an access of these that has this failure
record IsOne (accesses : List AccessOf) (w : Failure) (s : Stored) : Type 0 where
  one : AccessOf
  listed : Contains accesses one
  site : one.site ≡ w.site
  fault : fault_of one.operation ≡ w.fault
  faults : FaultsIn one.operation s

on_left : (xs ys : List AccessOf) (w : Failure) (s : Stored) → IsOne xs w s → IsOne (xs ++ ys) w s
on_left xs ys w s h = record { one = h.one; listed = Contains-append_left xs ys h.one h.listed; site = h.site; fault = h.fault; faults = h.faults }

on_right : (xs ys : List AccessOf) (w : Failure) (s : Stored) → IsOne ys w s → IsOne (xs ++ ys) w s
on_right xs ys w s h = record { one = h.one; listed = Contains-append_right xs ys h.one h.listed; site = h.site; fault = h.fault; faults = h.faults }

signed_has : (t : IntType) (a : AccessOf) → is_signed_of t ≡ true → Contains (if_signed t a) a
signed_has Char a e = contains_here a []
signed_has SChar a e = contains_here a []
signed_has Short a e = contains_here a []
signed_has Int a e = contains_here a []
signed_has Long a e = contains_here a []
signed_has LLong a e = contains_here a []
signed_has UChar a e = absurd (cc)
signed_has UShort a e = absurd (cc)
signed_has UInt a e = absurd (cc)
signed_has ULong a e = absurd (cc)
signed_has ULLong a e = absurd (cc)

-- ---- what stops

value_err : (r : Result ℤ Failure) (k : ℤ → Result ℤ Failure) (w : Failure) → and_then r k ≡ Err w → (r ≡ Err w) ⊎ ((v : ℤ) × (r ≡ Ok v) × (k v ≡ Err w))
value_err (Ok v) k w e = inr (v, refl, e)
value_err (Err x) k w e = inl e

place_err : (r : Result ℤ Failure) (k : ℤ → Result ℕ Failure) (w : Failure) → and_then r k ≡ Err w → (r ≡ Err w) ⊎ ((v : ℤ) × (r ≡ Ok v) × (k v ≡ Err w))
place_err (Ok v) k w e = inr (v, refl, e)
place_err (Err x) k w e = let same : x ≡ w = cc in inl (ap (λ (y : Failure). let r : Result ℤ Failure = Err y in r) same)

site_err : (at : Site) (r : Result ℤ Fault) (w : Failure) → at_site at r ≡ Err w → (f : Fault) × (r ≡ Err f) × (failure f at ≡ w)
site_err at (Ok v) w e = absurd (cc)
site_err at (Err f) w e = let same : failure f at ≡ w = cc in (f, refl, same)

index_err : (at : Site) (n : ℕ) (z : ℤ) (w : Failure) → indexed at n z ≡ Err w → (is_index n z ≡ false) × (failure faults.Index at ≡ w)
index_err at n z w e = by (is_index n z) refl e
  where
    by : (b : Bool) → is_index n z ≡ b → (let r : Result ℕ Failure = Ok (unsigned_abs z) in if b then r else Err (failure faults.Index at)) ≡ Err w → (is_index n z ≡ false) × (failure faults.Index at ≡ w)
    by true f g = absurd (cc)
    by false f g = let same : failure faults.Index at ≡ w = cc in (f, same)

stop : (r : Result ℤ Failure) (k : ℤ → After Stored) (w : Failure) → with_value r k ≡ Faulted w → (r ≡ Err w) ⊎ ((v : ℤ) × (r ≡ Ok v) × (k v ≡ Faulted w))
stop (Ok v) k w e = inr (v, refl, e)
stop (Err x) k w e = let same : x ≡ w = cc in inl (ap (λ (y : Failure). let r : Result ℤ Failure = Err y in r) same)

stop_place : (r : Result ℕ Failure) (k : ℕ → After Stored) (w : Failure) → with_value r k ≡ Faulted w → (r ≡ Err w) ⊎ ((v : ℕ) × (r ≡ Ok v) × (k v ≡ Faulted w))
stop_place (Ok v) k w e = inr (v, refl, e)
stop_place (Err x) k w e = let same : x ≡ w = cc in inl (ap (λ (y : Failure). let r : Result ℕ Failure = Err y in r) same)

-- ---- operators

unary_fails : (p : ℕ) (op : Op) (at : Site) (t : IntType) (e : TreeOf ℕ) (s : Stored) (v : ℤ) (f : Fault) → tree_value storing e s ≡ Ok v → FaultsWith t v v op f → IsUnary op → IsOne (of_unary p op at t e) (failure f at) s
unary_fails p op at t e s v f k is =
    elim is as (λ op f _. IsUnary op → IsOne (of_unary p op at t e) (failure f at) s) [
      | sum_past x out ↦ λ h. absurd h
      | difference_past x out ↦ λ h. absurd h
      | product_past x out ↦ λ h. absurd h
      | negative_past x out ↦ λ h. record { one = access p at (Negation t e); listed = signed_has t (access p at (Negation t e)) x; site = refl; fault = refl; faults = (v, k, faults_by Neg t v v faults.Overflow (negative_past x out)) }
      | quotient_by_zero z ↦ λ h. absurd h
      | rest_by_zero z ↦ λ h. absurd h
      | quotient_past x y z ↦ λ h. absurd h
      | rest_past x y z ↦ λ h. absurd h
      | left_by_no_count out ↦ λ h. absurd h
      | right_by_no_count out ↦ λ h. absurd h
      | left_of_negative x l ↦ λ h. absurd h
      | left_past n x y out ↦ λ h. absurd h
    ]

binary_fails : (p : ℕ) (op : Op) (at : Site) (t u : IntType) (a b : TreeOf ℕ) (s : Stored) (v w : ℤ) (f : Fault) → tree_value storing a s ≡ Ok v → tree_value storing b s ≡ Ok w → FaultsWith t v w op f → IsRight op t u → IsOne (of_binary p op at t a b) (failure f at) s
binary_fails p op at t u a b s v w f k l is =
    elim is as (λ op f _. IsRight op t u → IsOne (of_binary p op at t a b) (failure f at) s) [
      | sum_past x out ↦ λ h. record { one = access p at (Arithmetic Add t a b); listed = signed_has t (access p at (Arithmetic Add t a b)) x; site = refl; fault = refl; faults = (v, w, k, l, faults_by Add t v w faults.Overflow (sum_past x out)) }
      | difference_past x out ↦ λ h. record { one = access p at (Arithmetic Sub t a b); listed = signed_has t (access p at (Arithmetic Sub t a b)) x; site = refl; fault = refl; faults = (v, w, k, l, faults_by Sub t v w faults.Overflow (difference_past x out)) }
      | product_past x out ↦ λ h. record { one = access p at (Arithmetic Mul t a b); listed = signed_has t (access p at (Arithmetic Mul t a b)) x; site = refl; fault = refl; faults = (v, w, k, l, faults_by Mul t v w faults.Overflow (product_past x out)) }
      | negative_past x out ↦ λ h. absurd h
      | quotient_by_zero z ↦ λ h. record { one = access p at (Divisor a b); listed = contains_here (access p at (Divisor a b)) (if_signed t (access p at (Arithmetic Div t a b))); site = refl; fault = refl; faults = (v, w, k, l, z) }
      | rest_by_zero z ↦ λ h. record { one = access p at (Divisor a b); listed = contains_here (access p at (Divisor a b)) (if_signed t (access p at (Arithmetic Rem t a b))); site = refl; fault = refl; faults = (v, w, k, l, z) }
      | quotient_past x y z ↦ λ h. record {
        one = access p at (Arithmetic Div t a b);
        listed = contains_there (access p at (Divisor a b)) (if_signed t (access p at (Arithmetic Div t a b))) (signed_has t (access p at (Arithmetic Div t a b)) x);
        site = refl;
        fault = refl;
        faults = (v, w, k, l, faults_by Div t v w faults.Overflow (quotient_past x y z));
      }
      | rest_past x y z ↦ λ h. record {
        one = access p at (Arithmetic Rem t a b);
        listed = contains_there (access p at (Divisor a b)) (if_signed t (access p at (Arithmetic Rem t a b))) (signed_has t (access p at (Arithmetic Rem t a b)) x);
        site = refl;
        fault = refl;
        faults = (v, w, k, l, faults_by Rem t v w faults.Overflow (rest_past x y z));
      }
      | left_by_no_count out ↦ λ h. record { one = access p at (Shift Shl t a b); listed = contains_here (access p at (Shift Shl t a b)) []; site = refl; fault = refl; faults = (v, w, k, l, faults_by Shl t v w faults.Shift (left_by_no_count out)) }
      | right_by_no_count out ↦ λ h. record { one = access p at (Shift Shr t a b); listed = contains_here (access p at (Shift Shr t a b)) []; site = refl; fault = refl; faults = (v, w, k, l, faults_by Shr t v w faults.Shift (right_by_no_count out)) }
      | left_of_negative x y ↦ λ h. record { one = access p at (Shift Shl t a b); listed = contains_here (access p at (Shift Shl t a b)) []; site = refl; fault = refl; faults = (v, w, k, l, faults_by Shl t v w faults.Shift (left_of_negative x y)) }
      | left_past n x y out ↦ λ h. record { one = access p at (Shift Shl t a b); listed = contains_here (access p at (Shift Shl t a b)) []; site = refl; fault = refl; faults = (v, w, k, l, faults_by Shl t v w faults.Shift (left_past n x y out)) }
    ]

-- ---- trees

tree_fails : (ks : Kinds) (p : ℕ) (e : TreeOf ℕ) (s : Stored) (w : Failure) → IsStore ks s → IsTyped ks e → tree_value storing e s ≡ Err w → IsOne (of_tree p e) w s
unfolding of_tree
tree_fails ks p (constant t n) s w st h e = absurd (cc)
tree_fails ks p (variable x) s w st h e = absurd (cc)
tree_fails ks p (converted t d) s w st h e = elim (value_err (tree_value storing d s) (λ v. Ok (wrapped t v)) w e) [
  | inl q ↦ tree_fails ks p d s w st h q
  | inr q ↦ (let no : (let r : Result ℤ Failure = Ok (wrapped t q.0) in r) ≡ Err w = q.2 in absurd (cc))
]
tree_fails ks p (unary op at t d) s w st h e = elim (value_err (tree_value storing d s) (λ v. at_site at (value_of op t v v)) w e) [
  | inl q ↦ on_left (of_tree p d) (of_unary p op at t d) w s (tree_fails ks p d s w st h.1 q)
  | inr q ↦
      let f = site_err at (value_of op t q.0 q.0) w q.2 in
      let i : InType t q.0 = h.2 q.0 (typed_value values_lie ks s d q.0 st h.1 q.1) in
      on_right (of_tree p d) (of_unary p op at t d) w s
      (subst (λ (x : Failure). IsOne (of_unary p op at t d) x s) f.2 (unary_fails p op at t d s q.0 f.0 q.1 (told op t q.0 q.0 f.0 i (unary_right op t q.0 h.0) f.1) h.0))
]
tree_fails ks p (binary op at t a b) s w st h e = elim (value_err (tree_value storing a s) (λ v. and_then (tree_value storing b s) (λ x. at_site at (value_of op t v x))) w e) [
  | inl q ↦ on_left (of_tree p a ++ of_tree p b) (of_binary p op at t a b) w s (on_left (of_tree p a) (of_tree p b) w s (tree_fails ks p a s w st h.0 q))
  | inr q ↦ elim (value_err (tree_value storing b s) (λ x. at_site at (value_of op t q.0 x)) w q.2) [
    | inl r ↦ on_left (of_tree p a ++ of_tree p b) (of_binary p op at t a b) w s (on_right (of_tree p a) (of_tree p b) w s (tree_fails ks p b s w st h.1 r))
    | inr r ↦
        let f = site_err at (value_of op t q.0 r.0) w r.2 in
        let i : InType t q.0 = h.2 q.0 (typed_value values_lie ks s a q.0 st h.0 q.1) in
        let j : InType (type_of ks b) r.0 = typed_value values_lie ks s b r.0 st h.1 r.1 in
        on_right (of_tree p a ++ of_tree p b) (of_binary p op at t a b) w s
        (subst (λ (x : Failure). IsOne (of_binary p op at t a b) x s) f.2
        (binary_fails p op at t (type_of ks b) a b s q.0 r.0 f.0 q.1 r.1 (told op t q.0 r.0 f.0 i (binary_right op t (type_of ks b) r.0 h.3 j) f.1) h.3))
  ]
]

-- ---- instructions

abbrev Fails : ℕ → InstrOf ℕ → Failure → Stored → Type 0
Fails p i w s = ((one : AccessOf) × IsFailing p i w s one) ⊎ IsHidden i w.site s

of_one : (p : ℕ) (i : InstrOf ℕ) (w : Failure) (s : Stored) (accesses : List AccessOf) → of_instr p i ≡ accesses → IsOne accesses w s → Fails p i w s
of_one p i w s accesses is h = inl (h.one, record { listed = subst (λ (xs : List AccessOf). Contains xs h.one) (sym is) h.listed; site = h.site; fault = h.fault; faults = h.faults })

index_fails : (p : ℕ) (b : Bool) (at : Site) (n : ℕ) (i : TreeOf ℕ) (s : Stored) (z : ℤ) (w : Failure) → tree_value storing i s ≡ Ok z → indexed at n z ≡ Err w → IsOne (of_index p b at n i) w s ⊎ ((b ≡ false) × (at ≡ w.site) × (x : ℤ) × (tree_value storing i s ≡ Ok x) × (is_index n x ≡ false))
index_fails p true at n i s z w k e =
    let out = index_err at n z w e in
    inl (record { one = access p at (Index n i); listed = contains_here (access p at (Index n i)) []; site = ap (λ (x : Failure). x.site) out.1; fault = ap (λ (x : Failure). x.fault) out.1; faults = (z, k, out.0) })
index_fails p false at n i s z w k e = let out = index_err at n z w e in inr (refl, ap (λ (x : Failure). x.site) out.1, z, k, out.0)

passed_on : (b c : Bool) (s : Stored) (w : Failure) → passed b c s ≡ Faulted w → ⊥
passed_on true true s w e = cc
passed_on true false s w e = cc
passed_on false true s w e = cc
passed_on false false s w e = cc

instr_fails : (ks : Kinds) (p : ℕ) (i : InstrOf ℕ) (chosen : Numbers) (s : Stored) (w : Failure) → IsTypedInstr ks i → IsStore ks s → effect storing chosen i s ≡ Faulted w → Fails p i w s
unfolding of_instr
instr_fails ks p Skip chosen s w h st e = absurd (cc)
instr_fails ks p (Set x d) chosen s w h st e = elim (stop (tree_value storing d s) (λ v. To (slice_set s x (v ∷ []))) w e) [
  | inl q ↦ of_one p (Set x d) w s (of_tree p d) refl (tree_fails ks p d s w st h.1.typed q)
  | inr q ↦ (let no : To (slice_set s x (q.0 ∷ [])) ≡ Faulted w = q.2 in absurd (cc))
]
instr_fails ks p (Havoc x t n) chosen s w h st e = by (are_any t n chosen) e
  where
    by : (b : Bool) → (if b then To (slice_set s x chosen) else Wants t n) ≡ Faulted w → Fails p (Havoc x t n) w s
    by true f = absurd (cc)
    by false f = absurd (cc)
instr_fails ks p (Clear a) chosen s w h st e = absurd (cc)
instr_fails ks p (Load x a at b i) chosen s w h st e = elim (stop_place (and_then (tree_value storing i s) (indexed at a.length)) (λ k. To (slice_set s x (number_at (numbers_of s a.variable) k ∷ []))) w e) [
  | inl q ↦ elim (place_err (tree_value storing i s) (indexed at a.length) w q) [
    | inl r ↦ of_one p (Load x a at b i) w s (of_tree p i ++ of_index p b at a.length i) refl (on_left (of_tree p i) (of_index p b at a.length i) w s (tree_fails ks p i s w st h.3 r))
    | inr r ↦ elim (index_fails p b at a.length i s r.0 w r.1 r.2) [
      | inl one ↦ of_one p (Load x a at b i) w s (of_tree p i ++ of_index p b at a.length i) refl (on_right (of_tree p i) (of_index p b at a.length i) w s one)
      | inr hidden ↦ inr hidden
    ]
  ]
  | inr q ↦ (let no : To (slice_set s x (number_at (numbers_of s a.variable) q.0 ∷ [])) ≡ Faulted w = q.2 in absurd (cc))
]
instr_fails ks p (Store a at b i d) chosen s w h st e = elim (stop (tree_value storing i s) (λ z. with_value (tree_value storing d s) (λ v. with_value (indexed at a.length z) (λ k. To (slice_set s a.variable (slice_set (numbers_of s a.variable) k v))))) w e) [
  | inl q ↦ of_one p (Store a at b i d) w s (of_tree p i ++ of_tree p d ++ of_index p b at a.length i) refl
      (on_left (of_tree p i ++ of_tree p d) (of_index p b at a.length i) w s (on_left (of_tree p i) (of_tree p d) w s (tree_fails ks p i s w st h.1 q)))
  | inr q ↦ elim (stop (tree_value storing d s) (λ v. with_value (indexed at a.length q.0) (λ k. To (slice_set s a.variable (slice_set (numbers_of s a.variable) k v)))) w q.2) [
    | inl r ↦ of_one p (Store a at b i d) w s (of_tree p i ++ of_tree p d ++ of_index p b at a.length i) refl
        (on_left (of_tree p i ++ of_tree p d) (of_index p b at a.length i) w s (on_right (of_tree p i) (of_tree p d) w s (tree_fails ks p d s w st h.2.typed r)))
    | inr r ↦ elim (stop_place (indexed at a.length q.0) (λ k. To (slice_set s a.variable (slice_set (numbers_of s a.variable) k r.0))) w r.2) [
      | inl out ↦ elim (index_fails p b at a.length i s q.0 w q.1 out) [
        | inl one ↦ of_one p (Store a at b i d) w s (of_tree p i ++ of_tree p d ++ of_index p b at a.length i) refl (on_right (of_tree p i ++ of_tree p d) (of_index p b at a.length i) w s one)
        | inr hidden ↦ inr hidden
      ]
      | inr out ↦ (let no : To (slice_set s a.variable (slice_set (numbers_of s a.variable) out.0 r.0)) ≡ Faulted w = out.2 in absurd (cc))
    ]
  ]
]
instr_fails ks p (Guard d b) chosen s w h st e = elim (stop (tree_value storing d s) (λ v. passed (is_true v) b s) w e) [
  | inl q ↦ of_one p (Guard d b) w s (of_tree p d) refl (tree_fails ks p d s w st h q)
  | inr q ↦ absurd (passed_on (is_true q.0) b s w q.2)
]
instr_fails ks p (Check at d) chosen s w h st e = elim (stop (tree_value storing d s) (λ v. if is_true v then To s else Faulted (failure faults.Assert at)) w e) [
  | inl q ↦ of_one p (Check at d) w s (of_tree p d ++ access p at (Assertion d) ∷ []) refl (on_left (of_tree p d) (access p at (Assertion d) ∷ []) w s (tree_fails ks p d s w st h q))
  | inr q ↦ of_one p (Check at d) w s (of_tree p d ++ access p at (Assertion d) ∷ []) refl (on_right (of_tree p d) (access p at (Assertion d) ∷ []) w s (asserted q.0 q.1 (is_true q.0) refl q.2))
]
  where
    asserted : (z : ℤ) → tree_value storing d s ≡ Ok z → (b : Bool) → is_true z ≡ b → (if b then To s else Faulted (failure faults.Assert at)) ≡ Faulted w → IsOne (access p at (Assertion d) ∷ []) w s
    asserted z k true f g = absurd (cc)
    asserted z k false f g =
        let same : failure faults.Assert at ≡ w = cc in
        record { one = access p at (Assertion d); listed = contains_here (access p at (Assertion d)) []; site = ap (λ (x : Failure). x.site) same; fault = ap (λ (x : Failure). x.fault) same; faults = (z, k, f) }

pub faults_are_accesses : FaultsAreAccesses
faults_are_accesses = instr_fails
