-- The rows of expressions: each makes as much where its parts do.
use Rattle.std.proofs.Common.{◌≡◌, ℕ, ◌+◌, List, [], ◌∷◌, Bool, true, false, if◌then◌else◌, refl, ◌∙◌, ap, subst}
use Rattle.std.specs.Prelude.{pos}
use Rattle.pk_ctypes.specs.declared.types.IntType.{IntType}
use Rattle.pk_ctypes.specs.declared.types.IntType.TheVariants.{Int}
use Rattle.pk_ctypes.specs.declared.types.Op.{Op}
use Rattle.pk_ctypes.specs.Operators.{result_type, is_not}
use Rattle.pk_graph.specs.declared.trees.Site.{Site}
use Rattle.pk_graph.specs.Trees.{TreeOf, constant, ArrayOf}
use Rattle.pk_draft.specs.declared.drafts.Size.{Size}
use Rattle.pk_draft.specs.Drafts.{DraftOf, Given, at, fresh, with_temporary}
use Rattle.pk_lower_row.specs.declared.shapes.Shape.{Shape}
use Rattle.pk_lower_row.specs.declared.shapes.Shape.TheVariants.{Fixed, Temporary, Named}
use Rattle.pk_lower_row.specs.declared.shapes.Waiting.{Waiting}
use Rattle.pk_lower_row.specs.declared.shapes.Waiting.TheVariants.{Weak}
use Rattle.pk_lower_row.specs.Shapes.{is_plain, strong_if, strong_or_weak, unary_shape, converted_shape, operated_shape}
use Rattle.pk_lower_row.specs.Rows as rows
use Rattle.pk_lower_row.specs.Rows.{Ways, Operand, Target, scalar, element, Passed}
use Rattle.pk_lower_laws.specs.Parts.Steps.{InStep, AsMuch, GiveAsMuch, ChooseAsMuch, AsMany, PassAsMuch, WaysInStep}
use Rattle.pk_lower_laws.proofs.Parts.Verbs.{pointed, valued, either, unless, holding}

pub record OperandsInStep {V W : Type 0} (a : Operand V) (b : Operand W) : Type 0 where
  pub shape : a.shape ≡ b.shape
  pub makes : a.makes ≡ b.makes
  pub ways : WaysInStep a.ways b.ways

abbrev pub TargetsInStep : {V W : Type 0} → Target V → Target W → Type 0
TargetsInStep (scalar t x) (scalar u y) = Unit {0}
TargetsInStep (scalar t x) (element u s a i) = ⊥
TargetsInStep (element t s a i) (scalar u y) = ⊥
TargetsInStep (element t s a i) (element u r b j) = OperandsInStep i j

-- ---- ways

pub both : {V W : Type 0} (f : DraftOf V → Given V) (g : DraftOf W → Given W) (h : DraftOf V → DraftOf V) (k : DraftOf W → DraftOf W)
    → GiveAsMuch f g → AsMuch h k → WaysInStep (rows.by_both f h) (rows.by_both g k)
both f g h k a b = record { value = a; choice = λ i j m n. a; unused = b }

dropping : {V W : Type 0} (s z : Shape) → s ≡ z → (t u : IntType) (f : DraftOf V → Given V) (g : DraftOf W → Given W)
    → GiveAsMuch f g → AsMuch (λ d. rows.dropped s t (f d)) (λ e. rows.dropped z u (g e))
dropping s z is t u f g a p v d e h = unless p v (is_plain s) (is_plain z) (ap is_plain is) t u (f d) (g e) (a p v d e h)

pub valuing : {V W : Type 0} (s : Shape) (t u : IntType) (f : DraftOf V → Given V) (g : DraftOf W → Given W)
    → GiveAsMuch f g → WaysInStep (rows.by_value s t f) (rows.by_value s u g)
valuing s t u f g a = both f g _ _ a (dropping s s refl t u f g a)

pub choosing : {V W : Type 0} (s : Shape) (t u : IntType) (f : DraftOf V → Given V) (g : DraftOf W → Given W) (h : (i j : ℕ) → DraftOf V → DraftOf V) (k : (i j : ℕ) → DraftOf W → DraftOf W)
    → GiveAsMuch f g → ChooseAsMuch h k → WaysInStep (rows.by_choice s t f h) (rows.by_choice s u g k)
choosing s t u f g h k a b = record { value = a; choice = b; unused = dropping s s refl t u f g a }

pub one_in_step : (V W : Type 0) → OperandsInStep (rows.one {V = V}) (rows.one {V = W})
one_in_step V W = record { shape = refl; makes = refl; ways = valuing (Fixed (pos 1)) Int Int (λ (d : DraftOf V). (constant Int (pos 1), d)) (λ (e : DraftOf W). (constant Int (pos 1), e)) (λ p v d e s. s) }

pub zero_in_step : (V W : Type 0) → WaysInStep (rows.zero_ways {V = V}) (rows.zero_ways {V = W})
zero_in_step V W = valuing (Fixed (pos 0)) Int Int (λ (d : DraftOf V). (constant Int (pos 0), d)) (λ (e : DraftOf W). (constant Int (pos 0), e)) (λ p v d e s. s)

-- ---- two operands, and elements

pub pairing : {V W : Type 0} (how why : Waiting) → how ≡ why → (a : Operand V) (k : Operand W) (b : Operand V) (l : Operand W) → OperandsInStep a k → OperandsInStep b l
    → AsMuch (λ d. (rows.two how a b d).draft) (λ e. (rows.two why k l e).draft)
pairing how why is a k b l x y p v d e s =
    y.ways.value p v (rows.held how a.shape a.int_type (a.ways.value d)).1 (rows.held why k.shape k.int_type (k.ways.value e)).1
    (holding p v how why is a.shape k.shape x.shape a.int_type k.int_type (a.ways.value d) (k.ways.value e) (x.ways.value p v d e s))

loading : {V W : Type 0} (t u : IntType) (s r : Site) (m : ArrayOf V) (n : ArrayOf W) (a : Operand V) (k : Operand W) (b : Operand V) (l : Operand W) → OperandsInStep a k → OperandsInStep b l
    → (p v : ℕ) (d : DraftOf V) (e : DraftOf W) → InStep p v d e → InStep p v (rows.loaded t s m a b d).draft (rows.loaded u r n k l e).draft
loading t u s r m n a k b l x y p v d e h =
    let f = rows.two (strong_or_weak b.makes) a b d in
    let g = rows.two (strong_or_weak l.makes) k l e in
    pointed 1 (valued 1 (holding p v Weak Weak refl b.shape l.shape y.shape b.int_type l.int_type (f.second, f.draft) (g.second, g.draft)
    (pairing (strong_or_weak b.makes) (strong_or_weak l.makes) (ap strong_or_weak y.makes) a k b l x y p v d e h)))

pub reading : {V W : Type 0} (x : Target V) (y : Target W) → TargetsInStep x y → WaysInStep (rows.read_ways x) (rows.read_ways y)
reading (scalar t x) (scalar u y) h = valuing Named t u _ _ (λ p v d e s. s)
reading (scalar t x) (element u r b j) h = absurd h
reading (element t s a i) (scalar u y) h = absurd h
reading (element t s a i) (element u r b j) h = valuing Temporary t u _ _ (λ p v d e z. pointed 1 (valued 1 (h.ways.value p v d e z)))

pub assigning : {V W : Type 0} (x : Target V) (y : Target W) (a : Operand V) (b : Operand W) → TargetsInStep x y → OperandsInStep a b → WaysInStep (rows.assign_ways x a) (rows.assign_ways y b)
assigning (scalar t x) (scalar u y) a b h k = valuing Named t u _ _ (λ p v d e s. pointed 1 (k.ways.value p v d e s))
assigning (scalar t x) (element u r n j) a b h k = absurd h
assigning (element t s m i) (scalar u y) a b h k = absurd h
assigning (element t s m i) (element u r n j) a b h k = both _ _ _ _
    (λ p v d e z. pointed 1 (pointed 1 (valued 1 (pairing (strong_or_weak a.makes) (strong_or_weak b.makes) (ap strong_or_weak k.makes) i j a b h k p v d e z))))
    (λ p v d e z. pointed 1 (pairing (strong_if a.makes) (strong_if b.makes) (ap strong_if k.makes) i j a b h k p v d e z))

pub updating : {V W : Type 0} (op : Op) (f g : Site) (o : IntType) (x : Target V) (y : Target W) (a : Operand V) (b : Operand W) → TargetsInStep x y → OperandsInStep a b → WaysInStep (rows.update_ways op f o x a) (rows.update_ways op g o y b)
updating op f g o (scalar t x) (scalar u y) a b h k = valuing Named t u _ _ (λ p v d e s. pointed 1 (k.ways.value p v d e s))
updating op f g o (scalar t x) (element u r n j) a b h k = absurd h
updating op f g o (element t s m i) (scalar u y) a b h k = absurd h
updating op f g o (element t s m i) (element u r n j) a b h k = both _ _ _ _
    (λ p v d e z. pointed 1 (pointed 1 (valued 1 (loading t u s r (m d) (n e) i j a b h k p v d e z))))
    (λ p v d e z. pointed 1 (loading t u s r (m d) (n e) i j a b h k p v d e z))

after : {V W : Type 0} (op : Op) (f g : Site) (o : IntType) (x : Target V) (y : Target W) → TargetsInStep x y → WaysInStep (rows.after_ways op f o x) (rows.after_ways op g o y)
after op f g o (scalar t x) (scalar u y) h = both _ _ _ _ (λ p v d e s. pointed 1 (pointed 1 (valued 1 s))) (λ p v d e s. pointed 1 s)
after op f g o (scalar t x) (element u r n j) h = absurd h
after op f g o (element t s m i) (scalar u y) h = absurd h
after {V = V} {W = W} op f g o (element t s m i) (element u r n j) h = both _ _ _ _
    (λ p v d e z. pointed 1 (loading t u s r (m d) (n e) i j rows.one rows.one h (one_in_step V W) p v d e z))
    (λ p v d e z. pointed 1 (loading t u s r (m d) (n e) i j rows.one rows.one h (one_in_step V W) p v d e z))

pub stepping : {V W : Type 0} (op : Op) (f g : Site) (o : IntType) (x : Target V) (y : Target W) (prefix : Bool) → TargetsInStep x y → WaysInStep (rows.step_ways op f o x prefix) (rows.step_ways op g o y prefix)
stepping {V = V} {W = W} op f g o x y true h = updating op f g o x y rows.one rows.one h (one_in_step V W)
stepping op f g o x y false h = after op f g o x y h

-- ---- operators

pub havocking : (V W : Type 0) (t : IntType) → WaysInStep (rows.by_value {V = V} Temporary t (rows.any_value t)) (rows.by_value {V = W} Temporary t (rows.any_value t))
havocking V W t = valuing Temporary t t (rows.any_value t) (rows.any_value t) (λ p v d e s. pointed 1 (valued 1 s))

pub converting : {V W : Type 0} (t : IntType) (a : Operand V) (b : Operand W) → a.int_type ≡ b.int_type → OperandsInStep a b → WaysInStep (rows.convert_ways t a) (rows.convert_ways t b)
converting t a b same h = record {
  value = h.ways.value;
  choice = λ i j k l. h.ways.value;
  unused = dropping (converted_shape a.int_type t a.shape) (converted_shape b.int_type t b.shape)
      (ap (λ (u : IntType). converted_shape u t a.shape) same ∙ ap (converted_shape b.int_type t) h.shape) t t (rows.convert_value t a) (rows.convert_value t b) h.ways.value;
}

pub unary_step : {V W : Type 0} (op : Op) (f g : Site) (t : IntType) (a : Operand V) (b : Operand W) → a.int_type ≡ b.int_type → OperandsInStep a b → WaysInStep (rows.unary_ways op f t a) (rows.unary_ways op g t b)
unary_step op f g t a b same h = record {
  value = h.ways.value;
  choice = λ i j k l p v d e s.
      either p v (is_not op) (a.ways.choice j i d) (rows.guards i j (rows.unary_value op f t a d)) (b.ways.choice l k e) (rows.guards k l (rows.unary_value op g t b e))
      (h.ways.choice j i l k p v d e s) (h.ways.value p v d e s);
  unused = dropping (unary_shape op t (converted_shape a.int_type t a.shape)) (unary_shape op t (converted_shape b.int_type t b.shape))
      (ap (λ (u : IntType). unary_shape op t (converted_shape u t a.shape)) same ∙ ap (λ (z : Shape). unary_shape op t (converted_shape b.int_type t z)) h.shape)
      (result_type op t) (result_type op t) (rows.unary_value op f t a) (rows.unary_value op g t b) h.ways.value;
}

pub binary_step : {V W : Type 0} (op : Op) (f g : Site) (t : IntType) (a : Operand V) (m : Operand W) (b : Operand V) (n : Operand W)
    → operated_shape op t a.int_type b.int_type a.shape b.shape ≡ operated_shape op t m.int_type n.int_type m.shape n.shape
    → OperandsInStep a m → OperandsInStep b n → WaysInStep (rows.binary_ways op f t a b) (rows.binary_ways op g t m n)
binary_step op f g t a m b n same h k =
    let given : GiveAsMuch (rows.binary_value op f t a b) (rows.binary_value op g t m n) = pairing (strong_if b.makes) (strong_if n.makes) (ap strong_if k.makes) a m b n h k in
    record {
      value = given;
      choice = λ i j x y. given;
      unused = dropping (operated_shape op t a.int_type b.int_type a.shape b.shape) (operated_shape op t m.int_type n.int_type m.shape n.shape) same
          (result_type op t) (result_type op t) (rows.binary_value op f t a b) (rows.binary_value op g t m n) given;
    }

pub both_true : {V W : Type 0} (a : Ways V) (m : Ways W) (b : Ways V) (n : Ways W) → WaysInStep a m → WaysInStep b n → ChooseAsMuch (rows.and_choice a b) (rows.and_choice m n)
both_true a m b n h k i j x y p v d e s =
    k.choice i j x y p v (at d.points (a.choice d.points j (fresh 1 d))) (at e.points (m.choice e.points y (fresh 1 e)))
    (h.choice d.points j e.points y p v (fresh 1 d) (fresh 1 e) (pointed 1 s))

pub one_true : {V W : Type 0} (a : Ways V) (m : Ways W) (b : Ways V) (n : Ways W) → WaysInStep a m → WaysInStep b n → ChooseAsMuch (rows.or_choice a b) (rows.or_choice m n)
one_true a m b n h k i j x y p v d e s =
    k.choice i j x y p v (at d.points (a.choice i d.points (fresh 1 d))) (at e.points (m.choice x e.points (fresh 1 e)))
    (h.choice i d.points x e.points p v (fresh 1 d) (fresh 1 e) (pointed 1 s))

joining : {V W : Type 0} (t u : IntType) (f : (i j : ℕ) → DraftOf V → DraftOf V) (g : (i j : ℕ) → DraftOf W → DraftOf W) (a : DraftOf V → Given V) (m : DraftOf W → Given W) (b : DraftOf V → Given V) (n : DraftOf W → Given W)
    → ChooseAsMuch f g → GiveAsMuch a m → GiveAsMuch b n → GiveAsMuch (rows.joined t f a b) (rows.joined u g m n)
joining t u f g a m b n c h k p v d e s =
    k p v _ _
    (h p v _ _
    (c d.points (d.points + 1) e.points (e.points + 1) p v (with_temporary t (fresh 3 d)) (with_temporary u (fresh 3 e)) (pointed 3 (valued 1 s))))

pub deciding : {V W : Type 0} (f : (i j : ℕ) → DraftOf V → DraftOf V) (g : (i j : ℕ) → DraftOf W → DraftOf W) → ChooseAsMuch f g → WaysInStep (rows.truth_ways f) (rows.truth_ways g)
deciding {V = V} {W = W} f g c =
    choosing Temporary Int Int (rows.truth_value f) (rows.truth_value g) f g
    (joining Int Int f g
    (λ (d : DraftOf V). (constant Int (pos 1), d)) (λ (e : DraftOf W). (constant Int (pos 1), e))
    (λ (d : DraftOf V). (constant Int (pos 0), d)) (λ (e : DraftOf W). (constant Int (pos 0), e))
    c (λ p v d e s. s) (λ p v d e s. s)) c

pub conditional_step : {V W : Type 0} (t : IntType) (w : Ways V) (z : Ways W) (a : Operand V) (m : Operand W) (b : Operand V) (n : Operand W)
    → WaysInStep w z → OperandsInStep a m → OperandsInStep b n → WaysInStep (rows.conditional_ways t w a b) (rows.conditional_ways t z m n)
conditional_step t w z a m b n c h k =
    valuing Temporary t t (rows.joined t w.choice (rows.convert_value t a) (rows.convert_value t b)) (rows.joined t z.choice (rows.convert_value t m) (rows.convert_value t n))
    (joining t t w.choice z.choice (rows.convert_value t a) (rows.convert_value t m) (rows.convert_value t b) (rows.convert_value t n) c.choice h.ways.value k.ways.value)

pub then_step : {V W : Type 0} (f : DraftOf V → DraftOf V) (g : DraftOf W → DraftOf W) (w : Ways V) (z : Ways W) → AsMuch f g → WaysInStep w z → WaysInStep (rows.then_ways f w) (rows.then_ways g z)
then_step f g w z h k = record {
  value = λ p v d e s. k.value p v (f d) (g e) (h p v d e s);
  choice = λ a b m n p v d e s. k.choice a b m n p v (f d) (g e) (h p v d e s);
  unused = λ p v d e s. k.unused p v (f d) (g e) (h p v d e s);
}

-- ---- calls

binding : {V W : Type 0} (k l i j x y : ℕ) (ts us : List IntType) (rs : List (TreeOf V)) (qs : List (TreeOf W)) → AsMany rs qs → AsMuch (rows.bound k i x ts us rs) (rows.bound l j y ts us qs)
binding k l i j x y [] us rs qs h p v d e s = s
binding k l i j x y (t ∷ ts) [] rs qs h p v d e s = s
binding k l i j x y (t ∷ ts) (u ∷ us) [] [] h p v d e s = s
binding k l i j x y (t ∷ ts) (u ∷ us) [] (q ∷ qs) h p v d e s = absurd h
binding k l i j x y (t ∷ ts) (u ∷ us) (r ∷ rs) [] h p v d e s = absurd h
binding k l i j x y (t ∷ ts) (u ∷ us) (r ∷ rs) (q ∷ qs) h p v d e s = binding k l (i + 1) (j + 1) (x + 1) (y + 1) ts us rs qs h p v _ _ (pointed 1 s)

same_size : {V W : Type 0} (k l : ℕ) (z : Size) (ts us : List IntType) (f : DraftOf V → Passed V) (g : DraftOf W → Passed W) → PassAsMuch f g
    → GiveAsMuch (λ d. rows.call_after k z ts us (f d)) (λ e. rows.call_after l z ts us (g e))
same_size k l z ts us f g h p v d e s =
    let a = h p v d e s in
    pointed z.points (valued z.variables (binding k l 0 0 (f d).draft.variables (g e).draft.variables ts us (f d).trees (g e).trees a.0 p v (f d).draft (g e).draft a.1))

-- a call of a function of one size, behind arguments that are in step
pub calling : {V W : Type 0} (k l : ℕ) (z y : Size) → z ≡ y → (ts us : List IntType) (f : DraftOf V → Passed V) (g : DraftOf W → Passed W) → PassAsMuch f g
    → GiveAsMuch (λ d. rows.call_after k z ts us (f d)) (λ e. rows.call_after l y ts us (g e))
calling {V = V} {W = W} k l z y same ts us f g h =
    subst (λ (x : Size). GiveAsMuch {V = V} {W = W} (λ d. rows.call_after k z ts us (f d)) (λ e. rows.call_after l x ts us (g e))) same (same_size k l z ts us f g h)

pub passing : {V W : Type 0} (later : Bool) (a : Operand V) (b : Operand W) (f : DraftOf V → Passed V) (g : DraftOf W → Passed W) → OperandsInStep a b → PassAsMuch f g
    → PassAsMuch (rows.passed_before later a f) (rows.passed_before later b g)
passing later a b f g h k p v d e s =
    k p v _ _ (holding p v (strong_if later) (strong_if later) refl a.shape b.shape h.shape a.int_type b.int_type (a.ways.value d) (b.ways.value e) (h.ways.value p v d e s))

pub assuming : {V W : Type 0} (w : Ways V) (z : Ways W) → WaysInStep w z → AsMuch (rows.assumed w) (rows.assumed z)
assuming w z h p v d e s = h.choice _ _ _ _ p v (fresh 1 d) (fresh 1 e) (pointed 1 s)

pub ways_either : {V W : Type 0} (b : Bool) (w x : Ways V) (z y : Ways W) → WaysInStep w z → WaysInStep x y → WaysInStep (if b then w else x) (if b then z else y)
ways_either true w x z y h k = h
ways_either false w x z y h k = k
