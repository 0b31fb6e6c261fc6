-- An instruction that no run comes to is one that no run leaves.
use Rattle.std.proofs.Common.{◌≡◌, ℕ, zero, suc, ◌-◌, refl, ap, sym, ◌∙◌}
use Rattle.std.specs.Prelude.{Bool, true, false, ℤ, pos, ◌-ℤ◌, List, [], ◌∷◌, ◌++◌, Option, Some, None, if◌then◌else◌}
use Rattle.pk_ctypes.specs.declared.types.Op.{Op}
use Rattle.pk_ctypes.specs.declared.types.Op.TheVariants.{Add, Sub, Mul, Div, Rem, Shl, Shr, And, Or, Xor, Lt, Gt, Le, Ge, Eq, Ne, Neg, BitNot, Not}
use Rattle.pk_graph.specs.Trees.{TreeOf, constant, variable, converted, unary, binary, ArrayOf, InstrOf, Skip, Set, Havoc, Clear, Load, Store, Guard, Check}
use Rattle.pk_value.specs.Known.{Known, any_of, exactly}
use Rattle.pk_value.specs.Values.{is_constant}
use Rattle.pk_state.specs.Changes.{known_in, with_known}
use Rattle.pk_state.specs.Layouts.{Layout, is_spread, slot_of}
use Rattle.pk_state.specs.Facts.{Facts, Stated, joined}
use Rattle.pk_state.specs.Reduced.{reduced}
use Rattle.pk_transfer.specs.Linear.{Linear, difference, variables_of, linear}
use Rattle.pk_transfer.specs.Assignments.{with_form, with_known_if}
use Rattle.pk_transfer.specs.Trees.{tree_known}
use Rattle.pk_transfer.specs.Guards.{Condition, condition_of, flipped, refined}
use Rattle.pk_transfer.specs.Assumptions.{places_in, le_in, compared_in, with_operand, if_some, refined_in, holds_in}
use Rattle.pk_transfer.specs.Transfers.{at_index, misses, may_be, may_be_below, stored_at, stored_below, known_each, forgotten_in, loaded, stored, applied, transferred}
use Rattle.pk_analysis.specs.Flows.{stated}

known_nowhere : (x : ℕ) (k : Option Known) → with_known_if None x k ≡ None
known_nowhere x None = refl
known_nowhere x (Some k) = refl

form_nowhere : (y : Layout) (x : ℕ) (l : Option Linear) (over : List ℕ) → with_form y None x l over ≡ None
form_nowhere y x None over = refl
form_nowhere y x (Some l) over = refl

places_nowhere : (y : Layout) (ps : List ℕ) (c : ℤ) (over : List ℕ) → places_in y None ps c over ≡ None
places_nowhere y [] c over = refl
places_nowhere y (a ∷ []) c over = refl
places_nowhere y (a ∷ (b ∷ [])) c over = refl
places_nowhere y (a ∷ (b ∷ (d ∷ ps))) c over = refl

le_nowhere : (y : Layout) (l r : Option Linear) (n : ℤ) (over : List ℕ) → le_in y None l r n over ≡ None
le_nowhere y None r n over = refl
le_nowhere y (Some l) None n over = refl
le_nowhere y (Some l) (Some r) n over = places_nowhere y (difference l r).places ((r.constant -ℤ n) -ℤ l.constant) over

compared_nowhere : (op : Op) (y : Layout) (l r : Option Linear) (over : List ℕ) → compared_in op y None l r over ≡ None
compared_nowhere Add y l r over = refl
compared_nowhere Sub y l r over = refl
compared_nowhere Mul y l r over = refl
compared_nowhere Div y l r over = refl
compared_nowhere Rem y l r over = refl
compared_nowhere Shl y l r over = refl
compared_nowhere Shr y l r over = refl
compared_nowhere And y l r over = refl
compared_nowhere Or y l r over = refl
compared_nowhere Xor y l r over = refl
compared_nowhere Lt y l r over = le_nowhere y l r (pos 1) over
compared_nowhere Gt y l r over = le_nowhere y r l (pos 1) over
compared_nowhere Le y l r over = le_nowhere y l r (pos 0) over
compared_nowhere Ge y l r over = le_nowhere y r l (pos 0) over
compared_nowhere Eq y l r over = ap (λ (f : Option Facts). le_in y f r l (pos 0) over) (le_nowhere y l r (pos 0) over) ∙ le_nowhere y r l (pos 0) over
compared_nowhere Ne y l r over = refl
compared_nowhere Neg y l r over = refl
compared_nowhere BitNot y l r over = refl
compared_nowhere Not y l r over = refl

operand_nowhere : (e : TreeOf ℕ) (op : Op) (v : Known) → with_operand None e op v ≡ None
operand_nowhere (constant t n) op v = refl
operand_nowhere (variable x) op v = known_nowhere x None
operand_nowhere (converted t e) op v = refl
operand_nowhere (unary p s t e) op v = refl
operand_nowhere (binary p s t a b) op v = refl

some_nowhere : (o : Option Known) (f : Option Facts) → f ≡ None → if_some o f ≡ None
some_nowhere None f e = refl
some_nowhere (Some k) f e = e

refined_nowhere : (f : Option Facts) (c : Condition) (k v : Option Known) → f ≡ None → refined_in f c k v ≡ None
refined_nowhere f c None v e = refl
refined_nowhere f c (Some k) None e = refl
refined_nowhere f c (Some k) (Some v) e =
    some_nowhere (refined c.op k v) (with_operand (with_operand f c.left c.op v) c.right (flipped c.op) k)
    (ap (λ (g : Option Facts). with_operand (with_operand g c.left c.op v) c.right (flipped c.op) k) e
    ∙ ap (λ (g : Option Facts). with_operand g c.right (flipped c.op) k) (operand_nowhere c.left c.op v)
    ∙ operand_nowhere c.right (flipped c.op) k)

set_nowhere : (y : Layout) (x : ℕ) (l : Option Linear) (over : List ℕ) (k : Option Known) → with_known_if (with_form y None x l over) x k ≡ None
set_nowhere y x l over k = ap (λ (f : Option Facts). with_known_if f x k) (form_nowhere y x l over) ∙ known_nowhere x k

guard_nowhere : (y : Layout) (c : Condition) → holds_in y None c ≡ None
guard_nowhere y c =
    let over = variables_of c.left ++ variables_of c.right in
    refined_nowhere (compared_in c.op y None (linear y.packs (known_in None) c.left) (linear y.packs (known_in None) c.right) over) c
    (tree_known (known_in None) c.left) (tree_known (known_in None) c.right)
    (compared_nowhere c.op y (linear y.packs (known_in None) c.left) (linear y.packs (known_in None) c.right) over)

each_nowhere : (y : Layout) (x : ℕ) (k : Known) (n : ℕ) → known_each y None x k n ≡ None
each_nowhere y x k zero = refl
each_nowhere y x k (suc i) = ap (λ (f : Option Facts). with_known f (slot_of y x (suc i)) k) (each_nowhere y x k i)

below_nowhere : (y : Layout) (x : ℕ) (k v : Known) (n : ℕ) → stored_below y None x k v n ≡ None
below_nowhere y x k v zero = refl
below_nowhere y x k v (suc i) = by (below_nowhere y x k v i) (may_be k i)
  where
    by : stored_below y None x k v i ≡ None → (b : Bool) → (if b then stored_at (stored_below y None x k v i) (slot_of y x i) (is_constant k) v else stored_below y None x k v i) ≡ None
    by none true = ap (λ (f : Option Facts). stored_at f (slot_of y x i) (is_constant k) v) none
    by none false = none

chosen_nowhere : (b : Bool) (f g : Option Facts) → f ≡ None → g ≡ None → (if b then f else g) ≡ None
chosen_nowhere true f g e h = e
chosen_nowhere false f g e h = h

stored_nowhere : (y : Layout) (a : ArrayOf ℕ) (k : Known) (v : Option Known) → stored y None a k v ≡ None
stored_nowhere y a k None = refl
stored_nowhere y a k (Some v) =
    chosen_nowhere (is_spread y a.variable) (if may_be_below k a.length then stored_below y None a.variable k v a.length else None) (stored_at None a.variable false v)
    (chosen_nowhere (may_be_below k a.length) (stored_below y None a.variable k v a.length) None (below_nowhere y a.variable k v a.length) refl) refl

index_nowhere : (n : ℕ) (o : Option Known) (f : Known → Option Facts) → ((k : Known) → f k ≡ None) → at_index n o f ≡ None
index_nowhere n None f e = refl
index_nowhere n (Some k) f e = chosen_nowhere (misses n k) None (f k) refl (e k)

applied_nowhere : (y : Layout) (i : InstrOf ℕ) → applied y None i ≡ None
applied_nowhere y Skip = refl
applied_nowhere y (Set x e) = set_nowhere y x (linear y.packs (known_in None) e) (variables_of e) (tree_known (known_in None) e)
applied_nowhere y (Havoc x t n) = chosen_nowhere (is_spread y x) (known_each y None x (any_of t) (n - 1)) (forgotten_in y None x (Some (any_of t))) (each_nowhere y x (any_of t) (n - 1)) (set_nowhere y x None [] (Some (any_of t)))
applied_nowhere y (Clear a) =
    chosen_nowhere (is_spread y a.variable) (known_each y None a.variable (exactly (pos 0)) (a.length - 1)) (with_known None a.variable (exactly (pos 0))) (each_nowhere y a.variable (exactly (pos 0)) (a.length - 1)) refl
applied_nowhere y (Load x a s b i) = index_nowhere a.length (tree_known (known_in None) i) (λ k. forgotten_in y None x (loaded y None a k)) (λ k. set_nowhere y x None [] (loaded y None a k))
applied_nowhere y (Store a s b i e) = index_nowhere a.length (tree_known (known_in None) i) (λ k. stored y None a k (tree_known (known_in None) e)) (λ k. stored_nowhere y a k (tree_known (known_in None) e))
applied_nowhere y (Guard e b) = guard_nowhere y (condition_of e b)
applied_nowhere y (Check s e) = guard_nowhere y (condition_of e true)

transferred_nowhere : (y : Layout) (i : InstrOf ℕ) → transferred y None i ≡ None
transferred_nowhere y i = ap (reduced y) (applied_nowhere y i)

joined_nowhere : (f : Option Facts) → joined f None ≡ f
joined_nowhere None = refl
joined_nowhere (Some f) = refl

-- a state stays as it is where also an edge leads that no run comes to
pub stays_nowhere : (l : Layout) (s : Stated) (f : Option Facts) (i : InstrOf ℕ) → s.layout ≡ l → f ≡ None → s ≡ stated l (joined s.facts (transferred l f i))
stays_nowhere l s f i same none =
    ap (λ (k : Layout). stated k s.facts) same
    ∙ ap (stated l) (sym (ap (λ (g : Option Facts). joined s.facts (transferred l g i)) none ∙ ap (joined s.facts) (transferred_nowhere l i) ∙ joined_nowhere s.facts))
