-- What an instruction computes is among its accesses, with operands that have values.
use Rattle.std.proofs.Common.{◌≡◌, ℕ, List, [], ◌∷◌, ◌++◌, Bool, true, false, refl, sym, ◌∙◌, subst, inl, inr, arith, ℤ}
use Rattle.std.specs.Prelude.{Ok, Contains}
use Rattle.std.proofs.lemmas.List.Elements.{Contains-append_left, Contains-append_right}
use Rattle.pk_ctypes.specs.declared.faults.Fault.{Fault}
use Rattle.pk_ctypes.specs.declared.types.IntType.{IntType}
use Rattle.pk_ctypes.specs.declared.types.IntType.TheVariants.{Char, SChar, UChar, Short, UShort, Int, UInt, Long, ULong, LLong, ULLong}
use Rattle.pk_ctypes.specs.declared.types.Op.{Op}
use Rattle.pk_ctypes.specs.declared.types.Op.TheVariants.{Add, Sub, Mul, Div, Rem, Shl, Shr}
use Rattle.pk_ctypes.specs.Laws.{FaultsWith, sum_past, difference_past, product_past, negative_past, quotient_by_zero, rest_by_zero, quotient_past, rest_past, left_by_no_count, right_by_no_count, left_of_negative, left_past}
use Rattle.pk_ctypes.specs.Types.{is_signed_of}
use Rattle.pk_welltyped.specs.WellTyped.{operands}
use Rattle.pk_graph.specs.declared.trees.Site.{Site}
use Rattle.pk_graph.specs.Trees.{TreeOf, constant, variable, converted, unary, binary, InstrOf, Skip, Set, Havoc, Clear, Load, Store, Guard, Check}
use Rattle.pk_graph.specs.Steps.{tree_value}
use Rattle.pk_graph.specs.Stores.{Stored, storing}
use Rattle.pk_graph.specs.Accesses.{Index, Divisor, Negation, Result, Shift, Assertion, AccessOf, access, fault_of, if_signed, of_unary, of_binary, of_tree, of_index, of_instr}
use Rattle.pk_visits.proofs.Slots.{Slot, SlotTree, Instr, Memory}
use Rattle.pk_visits.proofs.Computed.{Holds, HoldsIn, ComputedBy}
use Rattle.pk_visits.proofs.Computing.{IsUnary, IsBinary, IsIndex, IsAssertion}
use Rattle.pk_visits.proofs.Numbered.Stores.{Naming, renamed, renamed_instr, IsOver, IsInstrOver, Mirrors, tree_same}
use Rattle.pk_visits.proofs.Numbered.Computes.{IsCarried}
use Rattle.pk_computed_laws.specs.Computed.{Operation, one, two, index, assertion, CanFault}
use Rattle.pk_computed_laws.specs.Evaluated.{HasOperands}

-- one of these accesses, of a point, is at the place, can come to the fault, and has its operands
pub record FoundIn (xs : List AccessOf) (point : ℕ) (q : Site) (f : Fault) (s : Stored) : Type 0 where
  pub one : AccessOf
  pub listed : Contains xs one
  pub point_is : one.point ≡ point
  pub site : one.site ≡ q
  pub kind : fault_of one.operation ≡ f
  pub operands : HasOperands one.operation s

on_left : {xs : List AccessOf} (ys : List AccessOf) {r : ℕ} {q : Site} {f : Fault} {s : Stored} → FoundIn xs r q f s → FoundIn (xs ++ ys) r q f s
on_left {xs} ys h = record { one = h.one; listed = Contains-append_left xs ys h.one h.listed; point_is = h.point_is; site = h.site; kind = h.kind; operands = h.operands }

on_right : (xs : List AccessOf) {ys : List AccessOf} {r : ℕ} {q : Site} {f : Fault} {s : Stored} → FoundIn ys r q f s → FoundIn (xs ++ ys) r q f s
on_right xs {ys} h = record { one = h.one; listed = Contains-append_right xs ys h.one h.listed; point_is = h.point_is; site = h.site; kind = h.kind; operands = h.operands }

-- the first of a list
first_of : {xs : List AccessOf} {r : ℕ} {q : Site} {f : Fault} {s : Stored} (a : AccessOf) → a.point ≡ r → a.site ≡ q → fault_of a.operation ≡ f → HasOperands a.operation s → FoundIn (a ∷ xs) r q f s
first_of a p i k o = record { one = a; listed = (0, omega arith, refl); point_is = p; site = i; kind = k; operands = o }

signed_is : (t : IntType) (a : AccessOf) → is_signed_of t ≡ true → a ∷ [] ≡ if_signed t a
signed_is Char a e = refl
signed_is SChar a e = refl
signed_is Short a e = refl
signed_is Int a e = refl
signed_is Long a e = refl
signed_is LLong a e = refl
signed_is UChar a e = absurd (cc e)
signed_is UShort a e = absurd (cc e)
signed_is UInt a e = absurd (cc e)
signed_is ULong a e = absurd (cc e)
signed_is ULLong a e = absurd (cc e)

signed_one : {r : ℕ} {q : Site} {f : Fault} {s : Stored} (t : IntType) (a : AccessOf) → is_signed_of t ≡ true → a.point ≡ r → a.site ≡ q → fault_of a.operation ≡ f → HasOperands a.operation s → FoundIn (if_signed t a) r q f s
signed_one {r} {q} {f} {s} t a e p i k o = subst (λ xs. FoundIn xs r q f s) (signed_is t a e) (first_of a p i k o)

-- ---- operators

unary_found : (op : Op) (t : IntType) (f : Fault) → CanFault (one op t) f → (r : ℕ) (q : Site) (e : TreeOf ℕ) (s : Stored) (x : ℤ) → tree_value storing e s ≡ Ok x → FoundIn (of_unary r op q t e) r q f s
unary_found op t f (taken, a, is) r q e s x k = by is taken where
  by : FaultsWith t a a op f → operands op ≡ 1 → FoundIn (of_unary r op q t e) r q f s
  by is =
      elim is as (λ op f _. operands op ≡ 1 → FoundIn (of_unary r op q t e) r q f s) [
        | sum_past i out ↦ λ h. absurd (cc h)
        | difference_past i out ↦ λ h. absurd (cc h)
        | product_past i out ↦ λ h. absurd (cc h)
        | negative_past i out ↦ λ h. signed_one t (access r q (Negation t e)) i refl refl refl (x, k)
        | quotient_by_zero z ↦ λ h. absurd (cc h)
        | rest_by_zero z ↦ λ h. absurd (cc h)
        | quotient_past i y z ↦ λ h. absurd (cc h)
        | rest_past i y z ↦ λ h. absurd (cc h)
        | left_by_no_count out ↦ λ h. absurd (cc h)
        | right_by_no_count out ↦ λ h. absurd (cc h)
        | left_of_negative i l ↦ λ h. absurd (cc h)
        | left_past n i y out ↦ λ h. absurd (cc h)
      ]

binary_found : (op : Op) (t : IntType) (f : Fault) → CanFault (two op t) f → (r : ℕ) (q : Site) (a b : TreeOf ℕ) (s : Stored) (x y : ℤ) → tree_value storing a s ≡ Ok x → tree_value storing b s ≡ Ok y → FoundIn (of_binary r op q t a b) r q f s
binary_found op t f (taken, i, j, is) r q a b s x y k l = by is taken where
  by : FaultsWith t i j op f → operands op ≡ 2 → FoundIn (of_binary r op q t a b) r q f s
  by is =
      elim is as (λ op f _. operands op ≡ 2 → FoundIn (of_binary r op q t a b) r q f s) [
        | sum_past i out ↦ λ h. signed_one t (access r q (Result Add t a b)) i refl refl refl (x, y, k, l)
        | difference_past i out ↦ λ h. signed_one t (access r q (Result Sub t a b)) i refl refl refl (x, y, k, l)
        | product_past i out ↦ λ h. signed_one t (access r q (Result Mul t a b)) i refl refl refl (x, y, k, l)
        | negative_past i out ↦ λ h. absurd (cc h)
        | quotient_by_zero z ↦ λ h. first_of (access r q (Divisor a b)) refl refl refl (x, y, k, l)
        | rest_by_zero z ↦ λ h. first_of (access r q (Divisor a b)) refl refl refl (x, y, k, l)
        | quotient_past i m n ↦ λ h. on_right (access r q (Divisor a b) ∷ []) (signed_one t (access r q (Result Div t a b)) i refl refl refl (x, y, k, l))
        | rest_past i m n ↦ λ h. on_right (access r q (Divisor a b) ∷ []) (signed_one t (access r q (Result Rem t a b)) i refl refl refl (x, y, k, l))
        | left_by_no_count out ↦ λ h. first_of (access r q (Shift Shl t a b)) refl refl refl (x, y, k, l)
        | right_by_no_count out ↦ λ h. first_of (access r q (Shift Shr t a b)) refl refl refl (x, y, k, l)
        | left_of_negative i m ↦ λ h. first_of (access r q (Shift Shl t a b)) refl refl refl (x, y, k, l)
        | left_past n i m out ↦ λ h. first_of (access r q (Shift Shl t a b)) refl refl refl (x, y, k, l)
      ]

-- ---- trees and instructions

-- where such operators are found by themselves they are in trees
abbrev IsFoundIn : (f : Naming) (Made : Slot → Type 0) (P : SlotTree → Type 0) (q : Site) (fault : Fault) → Stored → Type 0
IsFoundIn f M P q fault s = (e : SlotTree) → IsOver M e → P e → (r : ℕ) → FoundIn (of_tree r (renamed f e)) r q fault s

tree_found : (f : Naming) (M : Slot → Type 0) (P : SlotTree → Type 0) (q : Site) (fault : Fault) (s : Stored) → IsFoundIn f M P q fault s → (e : SlotTree) → IsOver M e → Holds P e → (r : ℕ) → FoundIn (of_tree r (renamed f e)) r q fault s
unfolding of_tree
tree_found f M P q fault s node (constant t z) o h r = absurd h
tree_found f M P q fault s node (variable x) o h r = absurd h
tree_found f M P q fault s node (converted t e) o h r = tree_found f M P q fault s node e o h r
tree_found f M P q fault s node (unary op i t e) o (inl h) r = node (unary op i t e) o h r
tree_found f M P q fault s node (unary op i t e) o (inr h) r = on_left _ (tree_found f M P q fault s node e o h r)
tree_found f M P q fault s node (binary op i t a b) o (inl h) r = node (binary op i t a b) o h r
tree_found f M P q fault s node (binary op i t a b) o (inr (inl h)) r = on_left _ (on_left _ (tree_found f M P q fault s node a o.0 h r))
tree_found f M P q fault s node (binary op i t a b) o (inr (inr h)) r = on_left _ (on_right (of_tree r (renamed f a)) (tree_found f M P q fault s node b o.1 h r))

unary_node : (f : Naming) (M : Slot → Type 0) (n : ℕ) (m : Memory) (s : Stored) (op : Op) (q : Site) (t : IntType) (fault : Fault) → Mirrors f M n m s → CanFault (one op t) fault → IsFoundIn f M (IsUnary op q t m) q fault s
unfolding of_tree
unary_node f M n m s op q t fault h can e o (a, is, x, k) r =
    let over = subst (IsOver M) is o in
    subst (λ c. FoundIn (of_tree r (renamed f c)) r q fault s) (sym is)
    (on_right (of_tree r (renamed f a)) (unary_found op t fault can r q (renamed f a) s x (tree_same f M n m s a over h ∙ k)))

binary_node : (f : Naming) (M : Slot → Type 0) (n : ℕ) (m : Memory) (s : Stored) (op : Op) (q : Site) (t : IntType) (fault : Fault) → Mirrors f M n m s → CanFault (two op t) fault → IsFoundIn f M (IsBinary op q t m) q fault s
unfolding of_tree
binary_node f M n m s op q t fault h can e o (a, b, is, x, y, k, l) r =
    let over = subst (IsOver M) is o in
    subst (λ c. FoundIn (of_tree r (renamed f c)) r q fault s) (sym is)
    (on_right (of_tree r (renamed f a) ++ of_tree r (renamed f b))
    (binary_found op t fault can r q (renamed f a) (renamed f b) s x y (tree_same f M n m s a over.0 h ∙ k) (tree_same f M n m s b over.1 h ∙ l)))

-- an instruction has such an access, wherever it stands
abbrev pub Evaluates : Site → Fault → Stored → InstrOf ℕ → Type 0
Evaluates q fault s i = (r : ℕ) → FoundIn (of_instr r i) r q fault s

instr_found : (f : Naming) (M : Slot → Type 0) (P : SlotTree → Type 0) (q : Site) (fault : Fault) (s : Stored) → IsFoundIn f M P q fault s → (i : Instr) → IsInstrOver M i → HoldsIn P i → Evaluates q fault s (renamed_instr f i)
unfolding of_instr
instr_found f M P q fault s node Skip o h r = absurd h
instr_found f M P q fault s node (Set x e) o h r = tree_found f M P q fault s node e o.1 h r
instr_found f M P q fault s node (Havoc x t n) o h r = absurd h
instr_found f M P q fault s node (Clear a) o h r = absurd h
instr_found f M P q fault s node (Load x a c b i) o h r = on_left _ (tree_found f M P q fault s node i o.2 h r)
instr_found f M P q fault s node (Store a c b i e) o (inl h) r = on_left _ (on_left _ (tree_found f M P q fault s node i o.1 h r))
instr_found f M P q fault s node (Store a c b i e) o (inr h) r = on_left _ (on_right (of_tree r (renamed f i)) (tree_found f M P q fault s node e o.2 h r))
instr_found f M P q fault s node (Guard e b) o h r = tree_found f M P q fault s node e o h r
instr_found f M P q fault s node (Check c e) o h r = on_left _ (tree_found f M P q fault s node e o h r)

index_found : (b : Bool) (c q : Site) (n r : ℕ) (i : TreeOf ℕ) (s : Stored) (z : ℤ) (fault : Fault) → CanFault index fault → b ≡ true → c ≡ q → tree_value storing i s ≡ Ok z → FoundIn (of_index r b c n i) r q fault s
index_found true c q n r i s z fault can is at k = first_of (access r c (Index n i)) refl at (sym can) (z, k)
index_found false c q n r i s z fault can is at k = absurd (cc is)

index_instr : (f : Naming) (M : Slot → Type 0) (n : ℕ) (q : Site) (fault : Fault) (m : Memory) (s : Stored) → CanFault index fault → Mirrors f M n m s → (i : Instr) → IsInstrOver M i → IsIndex q m i → Evaluates q fault s (renamed_instr f i)
unfolding of_instr
index_instr f M n q fault m s can h Skip o k r = absurd k
index_instr f M n q fault m s can h (Set x e) o k r = absurd k
index_instr f M n q fault m s can h (Havoc x t c) o k r = absurd k
index_instr f M n q fault m s can h (Clear a) o k r = absurd k
index_instr f M n q fault m s can h (Load x a c b i) o k r = on_right (of_tree r (renamed f i)) (index_found b c q a.length r (renamed f i) s k.2 fault can k.0 k.1 (tree_same f M n m s i o.2 h ∙ k.3))
index_instr f M n q fault m s can h (Store a c b i e) o k r =
    on_right (of_tree r (renamed f i) ++ of_tree r (renamed f e)) (index_found b c q a.length r (renamed f i) s k.2 fault can k.0 k.1 (tree_same f M n m s i o.1 h ∙ k.3))
index_instr f M n q fault m s can h (Guard e b) o k r = absurd k
index_instr f M n q fault m s can h (Check c e) o k r = absurd k

assertion_instr : (f : Naming) (M : Slot → Type 0) (n : ℕ) (q : Site) (fault : Fault) (m : Memory) (s : Stored) → CanFault assertion fault → Mirrors f M n m s → (i : Instr) → IsInstrOver M i → IsAssertion q m i → Evaluates q fault s (renamed_instr f i)
unfolding of_instr
assertion_instr f M n q fault m s can h Skip o k r = absurd k
assertion_instr f M n q fault m s can h (Set x e) o k r = absurd k
assertion_instr f M n q fault m s can h (Havoc x t c) o k r = absurd k
assertion_instr f M n q fault m s can h (Clear a) o k r = absurd k
assertion_instr f M n q fault m s can h (Load x a c b i) o k r = absurd k
assertion_instr f M n q fault m s can h (Store a c b i e) o k r = absurd k
assertion_instr f M n q fault m s can h (Guard e b) o k r = absurd k
assertion_instr f M n q fault m s can h (Check c e) o k r = on_right (of_tree r (renamed f e)) (first_of (access r c (Assertion (renamed f e))) refl k.0 (sym can) (k.1, tree_same f M n m s e o h ∙ k.2))

-- ---- what an operation is over slots

abbrev pub Does : Site → Operation → Memory → Instr → Type 0
Does q (one op t) = ComputedBy (IsUnary op q t)
Does q (two op t) = ComputedBy (IsBinary op q t)
Does q index = IsIndex q
Does q assertion = IsAssertion q

pub carried : (f : Naming) (M : Slot → Type 0) (n : ℕ) (q : Site) (operation : Operation) (fault : Fault) → CanFault operation fault → IsCarried f M n (Does q operation) (Evaluates q fault)
carried f M n q (one op t) fault can = record {
  over = λ m s i o h k. instr_found f M (IsUnary op q t m) q fault s (unary_node f M n m s op q t fault h can) i o k;
  other = λ m e b h. h;
  some = λ m h. h;
}
carried f M n q (two op t) fault can = record {
  over = λ m s i o h k. instr_found f M (IsBinary op q t m) q fault s (binary_node f M n m s op q t fault h can) i o k;
  other = λ m e b h. h;
  some = λ m h. h;
}
carried f M n q index fault can = record { over = λ m s i o h k. index_instr f M n q fault m s can h i o k; other = λ m e b h. h; some = λ m h. h }
carried f M n q assertion fault can = record { over = λ m s i o h k. assertion_instr f M n q fault m s can h i o k; other = λ m e b h. h; some = λ m h. h }
