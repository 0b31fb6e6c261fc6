-- A step fails only at an operation that it computes.
use Rattle.std.proofs.Common.{◌≡◌, ℕ, zero, suc, List, [], ◌∷◌, Bool, true, false, if◌then◌else◌, refl, ap, subst, ℤ, Option, Some, None}
use Rattle.std.specs.Prelude.{Result, Ok, Err, pos, unsigned_abs, length}
use Rattle.std.specs.Ordering.{int_eq}
use Rattle.pk_ctypes.specs.declared.faults.Fault.{Fault}
use Rattle.pk_ctypes.specs.declared.faults.Fault.TheVariants as faults
use Rattle.pk_ctypes.specs.declared.places.Pos.{Pos}
use Rattle.pk_ctypes.specs.declared.types.IntType.{IntType}
use Rattle.pk_ctypes.specs.declared.types.Op.{Op}
use Rattle.pk_ctypes.specs.declared.types.Op.TheVariants.{Add, Sub, Mul, Div, Rem, Shl, Shr, And, Or, Xor, Lt, Gt, Le, Ge, Eq, Ne, Neg, BitNot, Not}
use Rattle.pk_ctypes.specs.Types.{InType, wrapped}
use Rattle.pk_ctypes.specs.Operators.{value_of, HasRight, right_number}
use Rattle.pk_ctypes.proofs.Wrapped.{wrapped_in}
use Rattle.pk_ctypes.proofs.Faulting.{told}
use Rattle.pk_typed.specs.Trees.{ForStartTree, StatementTree, ValueTree, DeclaredTree, ItemTrees}
use Rattle.pk_typed.specs.Trees as tree
use Rattle.pk_graph.specs.declared.trees.Site.{Site}
use Rattle.pk_graph.specs.Steps.{Numbers, are_any, is_index}
use Rattle.pk_meaning.specs.Objects.{Array, Scope, number_of}
use Rattle.pk_meaning.specs.Programs.{Program, function_of, block_of, with_declared, body_scope}
use Rattle.pk_meaning.specs.Work as work
use Rattle.pk_meaning.specs.Work.{Place, Way, Onward, Refused, Lost, Caller, Nobody, Path, Ahead, Work}
use Rattle.pk_meaning.specs.Steps.{Config, Next, To, Faulted, Assumed, Returned, Wants, Stuck, place, standing, standing_at, for_scope, caller_of, on, element_of, stores, operated, takes, on_top, on_below, with_value, with_choice, with_index, declares, all_declared, rest, turned, for_start, returns, does, chooses, falls, goes, returned, evaluate, bind, step_of}
use Rattle.pk_computed_laws.specs.Computed.{Operation, one, two, index, assertion, IsTaken, CanFault, Computes, apply, operate, update, advance, load, reload, store, store_kept, renew, renew_index, renewed, replace, replace_index, claim, site, FaultsAreComputed}

-- where it fails, the place is such
abbrev FailsAt : (Fault → Site → Type 0) → Next → Type 0
FailsAt P n = (f : Fault) (s : Site) → n ≡ Faulted f s → P f s

abbrev site_in : Site → Next → Site
site_in o (To d) = o
site_in o (Faulted f s) = s
site_in o Assumed = o
site_in o (Returned v) = o
site_in o (Wants t n) = o
site_in o Stuck = o

abbrev fault_in : Fault → Next → Fault
fault_in g (To d) = g
fault_in g (Faulted f s) = f
fault_in g Assumed = g
fault_in g (Returned v) = g
fault_in g (Wants t n) = g
fault_in g Stuck = g

to : (P : Fault → Site → Type 0) (d : Config) → FailsAt P (To d)
to P d f s e = absurd (cc e)

wants : (P : Fault → Site → Type 0) (t : IntType) (n : ℕ) → FailsAt P (Wants t n)
wants P t n f s e = absurd (cc e)

assumed : (P : Fault → Site → Type 0) → FailsAt P Assumed
assumed P f s e = absurd (cc e)

finished : (P : Fault → Site → Type 0) (v : Option ℤ) → FailsAt P (Returned v)
finished P v f s e = absurd (cc e)

stuck : (P : Fault → Site → Type 0) → FailsAt P Stuck
stuck P f s e = absurd (cc e)

failed : (P : Fault → Site → Type 0) (g : Fault) (o : Site) → P g o → FailsAt P (Faulted g o)
failed P g o h f s e = subst (λ b. P b s) (ap (fault_in g) e) (subst (P g) (ap (site_in o) e) h)

either : (P : Fault → Site → Type 0) (b : Bool) (m n : Next) → FailsAt P m → FailsAt P n → FailsAt P (if b then m else n)
either P true m n h k = h
either P false m n h k = k

way : (P : Fault → Site → Type 0) (c : Config) (w : Way) (vs : Numbers) → FailsAt P (takes c w vs)
way P c (Onward h w) vs = to P _
way P c Refused vs = assumed P
way P c Lost vs = stuck P

top : (P : Fault → Site → Type 0) (vs : Numbers) (F : ℤ → Numbers → Next) → ((v : ℤ) (us : Numbers) → FailsAt P (F v us)) → FailsAt P (on_top vs F)
top P [] F h = stuck P
top P (v ∷ vs) F h = h v vs

below : (P : Fault → Site → Type 0) (n : ℕ) (vs : Numbers) (F : ℤ → Numbers → Next) → ((v : ℤ) (us : Numbers) → FailsAt P (F v us)) → FailsAt P (on_below n vs F)
below P zero [] F h = stuck P
below P (suc n) [] F h = stuck P
below P zero (v ∷ vs) F h = h v vs
below P (suc n) (v ∷ vs) F h = below P n vs (λ w us. F w (v ∷ us)) (λ w us. h w (v ∷ us))

value : (P : Fault → Site → Type 0) (c : Config) (at : Pos) (r : Result ℤ Fault) (F : ℤ → Next) → ((g : Fault) → r ≡ Err g → P g (site c at)) → ((z : ℤ) → FailsAt P (F z)) → FailsAt P (with_value c at r F)
value P c at (Ok z) F h k = k z
value P c at (Err g) F h k = failed P g (site c at) (h g refl)

element : (P : Fault → Site → Type 0) (c : Config) (at : Pos) (a : Array) (i : ℤ) (F : ℕ → Next) → P faults.Index (site c at) → ((j : ℕ) → FailsAt P (F j)) → FailsAt P (with_index c at a i F)
element P c at a i F h k = either P (is_index a.length i) (F (unsigned_abs i)) (Faulted faults.Index (site c at)) (k (unsigned_abs i)) (failed P faults.Index (site c at) h)

choice : (P : Fault → Site → Type 0) (t : IntType) (n : ℕ) (ch : Numbers) (m : Next) → FailsAt P m → FailsAt P (with_choice t n ch m)
choice P t n ch m h = either P (are_any t n ch) m (Wants t n) h (wants P t n)

-- ---- statements

declared : (P : Fault → Site → Type 0) (p : Program) (ch : Numbers) (c : Config) (d : DeclaredTree) (w : Work) → FailsAt P (declares p ch c d w)
declared P p ch c (tree.scalar_object i at None) w = choice P _ _ ch _ (to P _)
declared P p ch c (tree.scalar_object i at (Some e)) w = to P _
declared P p ch c (tree.array_object i at None) w = choice P _ _ ch _ (to P _)
declared P p ch c (tree.array_object i at (Some es)) w = to P _
declared P p ch c (tree.static_object n at) w = to P _
declared P p ch c (tree.hiding_constant x at) w = to P _

all : (P : Fault → Site → Type 0) (p : Program) (ch : Numbers) (c : Config) (ds : List DeclaredTree) (w : Work) → FailsAt P (all_declared p ch c ds w)
all P p ch c [] w = to P _
all P p ch c (d ∷ ds) w = declared P p ch c d (work.Declare ds w)

items : (P : Fault → Site → Type 0) (p : Program) (ch : Numbers) (c : Config) (xs : Scope) (is : ItemTrees) (a : Ahead) → FailsAt P (rest p ch c xs is a)
items P p ch c xs tree.no_items a = to P _
items P p ch c xs (tree.declared_before d is) a = declared P p ch (standing (place c.here.at xs) c) d (work.Go (work.Rest (with_declared p c.path d xs) is a))
items P p ch c xs (tree.statement_before s is) a = to P _

fallen : (P : Fault → Site → Type 0) (p : Program) (ch : Numbers) (c : Config) (t : Option IntType) (k : Caller) → FailsAt P (falls p ch c t k)
fallen P p ch c None k = to P _
fallen P p ch c (Some t) k = either P _ _ _ (to P _) (choice P t 1 ch _ (to P _))

ahead : (P : Fault → Site → Type 0) (p : Program) (ch : Numbers) (c : Config) (a : Ahead) → FailsAt P (goes p ch c a)
ahead P p ch c (work.Rest xs is a) = items P p ch c xs is a
ahead P p ch c (work.Join h a) = to P _
ahead P p ch c (work.Again h l e a) = to P _
ahead P p ch c (work.Close h a) = to P _
ahead P p ch c (work.End k) = fallen P p ch (standing (place (block_of p c.path).closed (body_scope p c.path)) c) (function_of p c.path).returns k

begun : (P : Fault → Site → Type 0) (c : Config) (f : ForStartTree) (w : Work) → FailsAt P (for_start c f w)
begun P c (tree.declarations ds) w = to P _
begun P c (tree.expression None) w = to P _
begun P c (tree.expression (Some e)) w = to P _

left : (P : Fault → Site → Type 0) (c : Config) (t : Option IntType) (e : Option ValueTree) (k : Caller) → FailsAt P (returns c t e k)
left P c None None k = to P _
left P c None (Some e) k = to P _
left P c (Some t) None k = to P _
left P c (Some t) (Some e) k = to P _

statement : (P : Fault → Site → Type 0) (p : Program) (c : Config) (s : StatementTree) (a : Ahead) → FailsAt P (does p c s a)
statement P p c (tree.block at is) a = to P _
statement P p c (tree.empty at) a = to P _
statement P p c (tree.effect at e) a = to P _
statement P p c (tree.label at l s) a = to P _
statement P p c (tree.case at i s) a = to P _
statement P p c (tree.default at s) a = to P _
statement P p c (tree.if_then at t s) a = to P _
statement P p c (tree.if_else at t s r) a = to P _
statement P p c (tree.switch at t e zs b s) a = to P _
statement P p c (tree.while at t s) a = to P _
statement P p c (tree.do_while at s t) a = to P _
statement P p c (tree.for_loop at f t third s) a =
    let h = place at c.here.scope in
    begun P (standing h c) f (work.Back (place at (for_scope p c.path f c.here.scope)) (work.For t third s) h a)
statement P p c (tree.goto at l) a = way P c _ _
statement P p c (tree.continue at) a = way P c _ _
statement P p c (tree.break at) a = way P c _ _
statement P p c (tree.return at e) a = left P (standing_at at c) (function_of p c.path).returns e (caller_of a)

loop : (P : Fault → Site → Type 0) (c : Config) (h : Place) (l : work.Loop) (e : Place) (a : Ahead) → FailsAt P (turned c h l e a)
loop P c h (work.While t s) e a = to P _
loop P c h (work.DoWhile s t) e a = to P _
loop P c h (work.For (Some t) third s) e a = to P _
loop P c h (work.For None third s) e a = to P _

cases : (P : Fault → Site → Type 0) (p : Program) (c : Config) (t : IntType) (zs : List ℤ) (i : ℕ) (b : Bool) (s : StatementTree) (h : Place) (a : Ahead) (v : ℤ) (vs : Numbers) → FailsAt P (chooses p c t zs i b s h a v vs)
cases P p c t (z ∷ zs) i b s h a v vs = either P (int_eq v z) _ _ (way P c _ vs) (to P _)
cases P p c t [] i true s h a v vs = way P c _ vs
cases P p c t [] i false s h a v vs = to P _

ended : (P : Fault → Site → Type 0) (p : Program) (c : Config) (k : Caller) → FailsAt P (returned p c k)
ended P p c Nobody = finished P _
ended P p c (Path k h w) = to P _

-- ---- expressions

expression : (P : Fault → Site → Type 0) (p : Program) (ch : Numbers) (c : Config) (e : ValueTree) (w : Work) → FailsAt P (evaluate p ch c e w)
expression P p ch c (tree.constant t z) w = to P _
expression P p ch c (tree.read (tree.scalar t x)) w = to P _
expression P p ch c (tree.read (tree.element t x at i)) w = to P _
expression P p ch c (tree.assign at q e) w = to P _
expression P p ch c (tree.update op at o q e) w = to P _
expression P p ch c (tree.step op at o q true) w = to P _
expression P p ch c (tree.step op at o (tree.scalar t x) false) w = to P _
expression P p ch c (tree.step op at o (tree.element t x r i) false) w = to P _
expression P p ch c (tree.call t f n at es) w = to P _
expression P p ch c (tree.any t at) w = choice P t 1 ch _ (to P _)
expression P p ch c (tree.unary op at t e) w = to P _
expression P p ch c (tree.convert t e) w = to P _
expression P p ch c (tree.binary op at t a b) w = to P _
expression P p ch c (tree.and a b) w = to P _
expression P p ch c (tree.or a b) w = to P _
expression P p ch c (tree.conditional t e a b) w = to P _
expression P p ch c (tree.then_value e v) w = to P _

parameters : (P : Fault → Site → Type 0) (c : Config) (k i : ℕ) (ts : List IntType) (w : Work) → FailsAt P (bind c k i ts w)
parameters P c k i [] w = to P _
parameters P c k i (t ∷ ts) w = below P (length ts) c.values _ (λ v vs. to P _)

-- ---- by the work at hand

-- the right operand is one that the table takes
right_of : (op : Op) (t : IntType) (x : ℤ) → InType t x → HasRight op t x
right_of Add t x h = h
right_of Sub t x h = h
right_of Mul t x h = h
right_of Div t x h = h
right_of Rem t x h = h
right_of Shl t x h = tt
right_of Shr t x h = tt
right_of And t x h = h
right_of Or t x h = h
right_of Xor t x h = h
right_of Lt t x h = h
right_of Gt t x h = h
right_of Le t x h = h
right_of Ge t x h = h
right_of Eq t x h = h
right_of Ne t x h = h
right_of Neg t x h = tt
right_of BitNot t x h = tt
right_of Not t x h = tt

right_in : (op : Op) (t : IntType) (x : ℤ) → HasRight op t (right_number op t x)
right_in Add t x = wrapped_in t x
right_in Sub t x = wrapped_in t x
right_in Mul t x = wrapped_in t x
right_in Div t x = wrapped_in t x
right_in Rem t x = wrapped_in t x
right_in Shl t x = tt
right_in Shr t x = tt
right_in And t x = wrapped_in t x
right_in Or t x = wrapped_in t x
right_in Xor t x = wrapped_in t x
right_in Lt t x = wrapped_in t x
right_in Gt t x = wrapped_in t x
right_in Le t x = wrapped_in t x
right_in Ge t x = wrapped_in t x
right_in Eq t x = wrapped_in t x
right_in Ne t x = wrapped_in t x
right_in Neg t x = tt
right_in BitNot t x = tt
right_in Not t x = tt

one_fault : (op : Op) (t : IntType) (v : ℤ) (g : Fault) → value_of op t (wrapped t v) (wrapped t v) ≡ Err g → IsTaken (one op t) → CanFault (one op t) g
one_fault op t v g e h = (h, wrapped t v, told op t (wrapped t v) (wrapped t v) g (wrapped_in t v) (right_of op t (wrapped t v) (wrapped_in t v)) e)

two_fault : (op : Op) (t : IntType) (u v : ℤ) (g : Fault) → operated op t u v ≡ Err g → IsTaken (two op t) → CanFault (two op t) g
two_fault op t u v g e h = (h, wrapped t u, right_number op t v, told op t (wrapped t u) (right_number op t v) g (wrapped_in t u) (right_in op t v) e)

abbrev IsComputed : Config → Work → Fault → Site → Type 0
IsComputed c w f s = (at : Pos) × (operation : Operation) × Computes w at operation × (s ≡ site c at) × (IsTaken operation → CanFault operation f)

computed : (p : Program) (ch : Numbers) (c : Config) (w : Work) → FailsAt (IsComputed c w) (step_of p ch c w)
computed p ch c (work.Go a) = ahead _ p ch c a
computed p ch c (work.Do s a) = statement _ p c s a
computed p ch c (work.Declare ds w) = all _ p ch c ds w
computed p ch c (work.Perform e w) = to _ _
computed p ch c (work.Evaluate e w) = expression _ p ch c e w
computed p ch c (work.Test e y n) = to _ _
computed p ch c (work.Keep w) = to _ _
computed p ch c (work.Branch y n) = top _ c.values _ (λ v vs. either _ _ _ _ (way _ c y vs) (way _ c n vs))
computed p ch c (work.Apply op at t w) = top _ c.values _ (λ v vs. value (IsComputed c (work.Apply op at t w)) c at _ _ (λ g e. (at, one op t, apply, refl, one_fault op t v g e)) (λ z. to _ _))
computed p ch c (work.Operate op at t w) = top _ c.values _ (λ v us. top _ us _ (λ u vs. value (IsComputed c (work.Operate op at t w)) c at _ _ (λ g e. (at, two op t, operate, refl, two_fault op t u v g e)) (λ z. to _ _)))
computed p ch c (work.Convert t w) = top _ c.values _ (λ v vs. to _ _)
computed p ch c (work.Settle t w) = top _ c.values _ (λ v vs. to _ _)
computed p ch c (work.Truth z w) = to _ _
computed p ch c (work.Drop w) = top _ c.values _ (λ v vs. to _ _)
computed p ch c (work.Assign t x w) = top _ c.values _ (λ v vs. to _ _)
computed p ch c (work.Put t x w) = top _ c.values _ (λ v vs. to _ _)
computed p ch c (work.Update op at o t x w) = top _ c.values _ (λ v vs. value (IsComputed c (work.Update op at o t x w)) c at _ _ (λ g e. (at, two op o, update, refl, two_fault op o (number_of x c.objects) v g e)) (λ z. to _ _))
computed p ch c (work.Advance op at o t x w) = value (IsComputed c (work.Advance op at o t x w)) c at _ _ (λ g e. (at, two op o, advance, refl, two_fault op o (number_of x c.objects) (pos 1) g e)) (λ z. to _ _)
computed p ch c (work.Fetch t x w) = to _ _
computed p ch c (work.Load at a w) = top _ c.values _ (λ i vs. element (IsComputed c (work.Load at a w)) c at a i (λ j. on c w (element_of a j c.objects ∷ vs)) (at, index, load, refl, λ h. refl) (λ j. to _ _))
computed p ch c (work.Reload at a w) = top _ c.values _ (λ v us. top _ us _ (λ i vs. element (IsComputed c (work.Reload at a w)) c at a i (λ j. on c w (element_of a j c.objects ∷ v ∷ i ∷ vs)) (at, index, reload, refl, λ h. refl) (λ j. to _ _)))
computed p ch c (work.Store at a w) = top _ c.values _ (λ v us. top _ us _ (λ i vs. element (IsComputed c (work.Store at a w)) c at a i (λ j. stores c a j (wrapped a.int_type v) w vs) (at, index, store, refl, λ h. refl) (λ j. to _ _)))
computed p ch c (work.StoreKept at a w) = top _ c.values _ (λ v us. top _ us _ (λ i vs. element (IsComputed c (work.StoreKept at a w)) c at a i (λ j. stores c a j v w (v ∷ vs)) (at, index, store_kept, refl, λ h. refl) (λ j. to _ _)))
computed p ch c (work.Renew op at o r a w) =
    let P = IsComputed c (work.Renew op at o r a w) in
    top _ c.values _ (λ u us. top _ us _ (λ v ws. top _ ws _ (λ i vs. value P c at _ _ (λ g e. (at, two op o, renew, refl, two_fault op o u v g e)) (λ z. element P c r a i (λ j. stores c a j (wrapped a.int_type z) w vs) (r, index, renew_index, refl, λ h. refl) (λ j. to _ _)))))
computed p ch c (work.Renewed op at o t w) = top _ c.values _ (λ u us. top _ us _ (λ v ws. top _ ws _ (λ i vs. value (IsComputed c (work.Renewed op at o t w)) c at _ _ (λ g e. (at, two op o, renewed, refl, two_fault op o u v g e)) (λ z. to _ _))))
computed p ch c (work.Replace op at o r a w) =
    let P = IsComputed c (work.Replace op at o r a w) in
    top _ c.values _ (λ u us. top _ us _ (λ v ws. top _ ws _ (λ i vs. value P c at _ _ (λ g e. (at, two op o, replace, refl, two_fault op o u v g e)) (λ z. element P c r a i (λ j. stores c a j (wrapped a.int_type z) w (u ∷ vs)) (r, index, replace_index, refl, λ h. refl) (λ j. to _ _)))))
computed p ch c (work.Fill a j es w) = to _ _
computed p ch c (work.Item a j w) = top _ c.values _ (λ v vs. to _ _)
computed p ch c (work.Claim at w) = top _ c.values _ (λ v vs. either _ _ _ _ (to _ _) (failed (IsComputed c (work.Claim at w)) faults.Assert (site c at) (at, assertion, claim, refl, λ h. refl)))
computed p ch c (work.Pass es w) = to _ _
computed p ch c (work.Bind k i ts w) = parameters _ c k i ts w
computed p ch c (work.Enter k w) = to _ _
computed p ch c (work.Leave k) = to _ _
computed p ch c (work.Return k) = ended _ p c k
computed p ch c (work.Turn h l e a) = loop _ c h l e a
computed p ch c (work.Back h l e a) = to _ _
computed p ch c (work.Choose t zs i b s h a) = top _ c.values _ (λ v vs. cases _ p c t zs i b s h a v vs)

pub faults_are_computed : FaultsAreComputed
faults_are_computed p chosen c fault place is = computed p chosen c c.work fault place is
