-- The rows of expressions: each keeps what holds of places and names where its parts do.
use Rattle.std.specs.Prelude.{ℕ, ◌+◌, List, [], ◌∷◌, Bool, true, false, if◌then◌else◌, pos}
use Rattle.pk_ctypes.specs.declared.types.IntType.{IntType}
use Rattle.pk_ctypes.specs.declared.types.IntType.TheVariants.{Int}
use Rattle.pk_ctypes.specs.declared.types.Op.{Op}
use Rattle.pk_ctypes.specs.Operators.{result_type, is_not}
use Rattle.pk_ctypes.specs.Types.{represents}
use Rattle.pk_graph.specs.declared.trees.Site.{Site}
use Rattle.pk_graph.specs.Trees.{TreeOf, constant, variable, ArrayOf}
use Rattle.pk_draft.specs.Drafts.{DraftOf, Given, nowhere, at, fresh, with_temporary, stored}
use Rattle.pk_draft.specs.Folding.{conversion}
use Rattle.pk_lower_row.specs.declared.shapes.Shape.{Shape}
use Rattle.pk_lower_row.specs.declared.shapes.Shape.TheVariants.{Fixed, Temporary, Named}
use Rattle.pk_lower_row.specs.declared.shapes.Waiting.{Waiting}
use Rattle.pk_lower_row.specs.declared.shapes.Waiting.TheVariants.{Weak}
use Rattle.pk_lower_row.specs.Shapes.{is_plain, stays, strong_if, strong_or_weak, unary_shape, converted_shape, operated_shape}
use Rattle.pk_lower_row.specs.Contexts.{Context, callee, parameters_of}
use Rattle.pk_lower_row.specs.Rows as rows
use Rattle.pk_lower_row.specs.Rows.{Ways, Operand, Target, Two, Loaded, Passed, scalar, element}
use Rattle.pk_places_laws.proofs.Told.{Asked, AtSite, AtTree, IsTold, IsGiven, Keeps, Gives, Chooses, placing, making, linking, emitting, storing, conversion_told, unary_told, operated_told, updated_told}

pub record WaysTold {V : Type 0} (w : Asked) (f : Ways V) : Type 0 where
  pub value : Gives w f.value
  pub choice : Chooses w f.choice
  pub unused : Keeps w f.unused

-- ---- ways

pub held_told : {V : Type 0} (w : Asked) (b : Bool) (t : IntType) (r : Given V) → IsGiven w r → IsGiven w (rows.stored_unless b t r)
held_told w true t r h = h
held_told w false t r h = storing w t r h

pub guarded : {V : Type 0} (w : Asked) (p q : ℕ) (r : Given V) → IsGiven w r → IsTold w (rows.guards p q r)
guarded w p q r h = linking _ _ _ h.0 (linking _ _ _ h.0 h.1)

pub by_both : {V : Type 0} (w : Asked) (f : DraftOf V → Given V) (g : DraftOf V → DraftOf V) → Gives w f → Keeps w g → WaysTold w (rows.by_both f g)
by_both w f g h k = record { value = h; choice = λ p q d t. guarded w p q (f d) (h d t); unused = k }

dropped_told : {V : Type 0} (w : Asked) (s : Shape) (t : IntType) (r : Given V) → IsGiven w r → IsTold w (rows.dropped s t r)
dropped_told w s t r h = (held_told w (is_plain s) t r h).1

pub by_value : {V : Type 0} (w : Asked) (s : Shape) (t : IntType) (f : DraftOf V → Given V) → Gives w f → WaysTold w (rows.by_value s t f)
by_value w s t f h = by_both w f (λ d. rows.dropped s t (f d)) h (λ d k. dropped_told w s t (f d) (h d k))

pub by_choice : {V : Type 0} (w : Asked) (s : Shape) (t : IntType) (f : DraftOf V → Given V) (g : (p q : ℕ) → DraftOf V → DraftOf V) → Gives w f → Chooses w g → WaysTold w (rows.by_choice s t f g)
by_choice w s t f g h k = record { value = h; choice = k; unused = λ d t1. dropped_told w s t (f d) (h d t1) }

-- ---- two operands, and elements

abbrev pub IsTwo : {V : Type 0} → Asked → Two V → Type 0
IsTwo w p = AtTree w p.first × AtTree w p.second × IsTold w p.draft

pub two_told : {V : Type 0} (w : Asked) (how : Waiting) (a b : Operand V) (d : DraftOf V) → WaysTold w a.ways → WaysTold w b.ways → IsTold w d → IsTwo w (rows.two how a b d)
two_told w how a b d h k t =
    let f = held_told w (stays how a.shape) a.int_type (a.ways.value d) (h.value d t) in
    let g = k.value (rows.held how a.shape a.int_type (a.ways.value d)).1 f.1 in
    (f.0, g.0, g.1)

abbrev pub IsTarget : {V : Type 0} → Asked → Target V → Type 0
IsTarget w (scalar t x) = Unit {0}
IsTarget w (element t s a i) = AtSite w s × WaysTold w i.ways

load_told : {V : Type 0} (w : Asked) (t : IntType) (s : Site) (a : ArrayOf V) (r : Given V) → AtSite w s → IsGiven w r → IsGiven w (rows.load t s a r)
load_told w t s a r i h = (tt, linking _ _ _ (i, h.0) (placing _ _ (making _ _ tt h.1)))

pub read_told : {V : Type 0} (w : Asked) (x : Target V) → IsTarget w x → WaysTold w (rows.read_ways x)
read_told w (scalar t x) h = by_value w Named t (λ d. (variable (x d), d)) (λ d k. (tt, k))
read_told w (element t s a i) h = by_value w Temporary t (λ d. rows.element_value t s (a d) i d) (λ d k. load_told w t s (a d) (i.ways.value d) h.0 (h.1.value d k))

written_told : {V : Type 0} (w : Asked) (a : ArrayOf V) (s : Site) (b : Bool) (i : TreeOf V) (v : Given V) → AtSite w s → AtTree w i → IsGiven w v → IsGiven w (rows.written a s b i v)
written_told w a s b i v h k m = (m.0, emitting w _ v.1 (h, k, m.0) m.1)

put_used : {V : Type 0} (w : Asked) (t : IntType) (s : Site) (a : ArrayOf V) (i e : Operand V) (d : DraftOf V) → AtSite w s → WaysTold w i.ways → WaysTold w e.ways → IsTold w d → IsGiven w (rows.put_used t s a i e d)
put_used w t s a i e d h k m z =
    let p = rows.two (strong_or_weak e.makes) i e d in
    let f = two_told w (strong_or_weak e.makes) i e d k m z in
    written_told w a s true p.first (stored t (conversion e.int_type t p.second) p.draft) h f.0 (storing w t (conversion e.int_type t p.second, p.draft) (conversion_told w e.int_type t p.second f.1, f.2))

put_unused : {V : Type 0} (w : Asked) (t : IntType) (s : Site) (a : ArrayOf V) (i e : Operand V) (d : DraftOf V) → AtSite w s → WaysTold w i.ways → WaysTold w e.ways → IsTold w d → IsTold w (rows.put_unused t s a i e d)
put_unused w t s a i e d h k m z =
    let p = rows.two (strong_if e.makes) i e d in
    let f = two_told w (strong_if e.makes) i e d k m z in
    emitting w _ p.draft (h, f.0, conversion_told w e.int_type t p.second f.1) f.2

pub assign_told : {V : Type 0} (w : Asked) (x : Target V) (e : Operand V) → IsTarget w x → WaysTold w e.ways → WaysTold w (rows.assign_ways x e)
assign_told w (scalar t x) e h k =
    by_value w Named t (λ d. (variable (x d), rows.set_after t e.int_type (x d) (e.ways.value d)))
    (λ d z. let r = k.value d z in (tt, emitting w _ (e.ways.value d).1 (conversion_told w e.int_type t (e.ways.value d).0 r.0) r.1))
assign_told w (element t s a i) e h k =
    by_both w (λ d. rows.put_used t s (a d) i e d) (λ d. rows.put_unused t s (a d) i e d)
    (λ d z. put_used w t s (a d) i e d h.0 h.1 k z) (λ d z. put_unused w t s (a d) i e d h.0 h.1 k z)

update_scalar : {V : Type 0} (w : Asked) (op : Op) (s : Site) (o t : IntType) (x : V) (e : Operand V) (d : DraftOf V) → AtSite w s → WaysTold w e.ways → IsTold w d → IsTold w (rows.update_scalar op s o t x e d)
update_scalar w op s o t x e d h k z =
    let r = k.value d z in
    emitting w _ (e.ways.value d).1 (updated_told w op s o t e.int_type (variable x) (e.ways.value d).0 h tt r.0) r.1

-- an element that was loaded behind its index and the right side
abbrev pub IsLoaded : {V : Type 0} → Asked → Loaded V → Type 0
IsLoaded w p = AtTree w p.index × AtTree w p.right × AtTree w p.element × IsTold w p.draft

loaded_told : {V : Type 0} (w : Asked) (t : IntType) (s : Site) (a : ArrayOf V) (i e : Operand V) (d : DraftOf V) → AtSite w s → WaysTold w i.ways → WaysTold w e.ways → IsTold w d → IsLoaded w (rows.loaded t s a i e d)
loaded_told w t s a i e d h k m z =
    let p = rows.two (strong_or_weak e.makes) i e d in
    let f = two_told w (strong_or_weak e.makes) i e d k m z in
    let g = held_told w (stays Weak e.shape) e.int_type (p.second, p.draft) (f.1, f.2) in
    (f.0, g.0, tt, linking _ _ _ (h, f.0) (placing _ _ (making _ _ tt g.1)))

renewed : {V : Type 0} (w : Asked) (op : Op) (s : Site) (o t u : IntType) (p : Loaded V) → AtSite w s → IsLoaded w p → AtTree w (rows.renewed_tree op s o t u p)
renewed w op s o t u p h k = updated_told w op s o t u p.element p.right h k.2 k.1

renew_unused : {V : Type 0} (w : Asked) (op : Op) (s : Site) (o t : IntType) (r : Site) (a : ArrayOf V) (u : IntType) (p : Loaded V) → AtSite w s → AtSite w r → IsLoaded w p → IsTold w (rows.renew_unused op s o t r a u p)
renew_unused w op s o t r a u p h i k = emitting w _ p.draft (i, k.0, renewed w op s o t u p h k) k.3

renew_used : {V : Type 0} (w : Asked) (op : Op) (s : Site) (o t : IntType) (r : Site) (a : ArrayOf V) (u : IntType) (p : Loaded V) → AtSite w s → AtSite w r → IsLoaded w p → IsGiven w (rows.renew_used op s o t r a u p)
renew_used w op s o t r a u p h i k =
    written_told w a r false p.index (stored t (rows.renewed_tree op s o t u p) p.draft) i k.0 (storing w t (rows.renewed_tree op s o t u p, p.draft) (renewed w op s o t u p h k, k.3))

pub update_told : {V : Type 0} (w : Asked) (op : Op) (s : Site) (o : IntType) (x : Target V) (e : Operand V) → AtSite w s → IsTarget w x → WaysTold w e.ways → WaysTold w (rows.update_ways op s o x e)
update_told w op s o (scalar t x) e i h k =
    by_value w Named t (λ d. (variable (x d), rows.update_scalar op s o t (x d) e d)) (λ d z. (tt, update_scalar w op s o t (x d) e d i k z))
update_told w op s o (element t r a j) e i h k =
    by_both w (λ d. rows.renew_used op s o t r (a d) e.int_type (rows.loaded t r (a d) j e d)) (λ d. rows.renew_unused op s o t r (a d) e.int_type (rows.loaded t r (a d) j e d))
    (λ d z. renew_used w op s o t r (a d) e.int_type (rows.loaded t r (a d) j e d) i h.0 (loaded_told w t r (a d) j e d h.0 h.1 k z))
    (λ d z. renew_unused w op s o t r (a d) e.int_type (rows.loaded t r (a d) j e d) i h.0 (loaded_told w t r (a d) j e d h.0 h.1 k z))

pub one_told : (V : Type 0) (w : Asked) → WaysTold {V = V} w (rows.one {V = V}).ways
one_told V w = by_value w (Fixed (pos 1)) Int (λ (d : DraftOf V). (constant Int (pos 1), d)) (λ d z. (tt, z))

pub zero_told : (V : Type 0) (w : Asked) → WaysTold {V = V} w rows.zero_ways
zero_told V w = by_value w (Fixed (pos 0)) Int (λ (d : DraftOf V). (constant Int (pos 0), d)) (λ d z. (tt, z))

after_told : {V : Type 0} (w : Asked) (op : Op) (s : Site) (o : IntType) (x : Target V) → AtSite w s → IsTarget w x → WaysTold w (rows.after_ways op s o x)
after_told {V = V} w op s o (scalar t x) i h =
    by_both w (λ d. rows.after_scalar op s o t (x d) d) (λ d. rows.update_scalar op s o t (x d) rows.one d)
    (λ d z. (tt, update_scalar w op s o t (x d) rows.one (stored t (variable (x d)) d).1 i (one_told V w) (storing w t (variable (x d), d) (tt, z)).1))
    (λ d z. update_scalar w op s o t (x d) rows.one d i (one_told V w) z)
after_told {V = V} w op s o (element t r a j) i h =
    by_both w (λ d. rows.after_element op s o t r (a d) j d) (λ d. rows.renew_unused op s o t r (a d) Int (rows.loaded t r (a d) j rows.one d))
    (λ d z. (tt, renew_unused w op s o t r (a d) Int (rows.loaded t r (a d) j rows.one d) i h.0 (loaded_told w t r (a d) j rows.one d h.0 h.1 (one_told V w) z)))
    (λ d z. renew_unused w op s o t r (a d) Int (rows.loaded t r (a d) j rows.one d) i h.0 (loaded_told w t r (a d) j rows.one d h.0 h.1 (one_told V w) z))

pub step_told : {V : Type 0} (w : Asked) (op : Op) (s : Site) (o : IntType) (x : Target V) (prefix : Bool) → AtSite w s → IsTarget w x → WaysTold w (rows.step_ways op s o x prefix)
step_told {V = V} w op s o x true i h = update_told w op s o x rows.one i h (one_told V w)
step_told w op s o x false i h = after_told w op s o x i h

-- ---- operators

pub any_told : (V : Type 0) (w : Asked) (t : IntType) → WaysTold {V = V} w (rows.by_value Temporary t (rows.any_value t))
any_told V w t = by_value w Temporary t (rows.any_value t) (λ d z. (tt, linking _ _ _ tt (placing _ _ (making _ _ tt z))))

converted_told : {V : Type 0} (w : Asked) (t : IntType) (e : Operand V) → WaysTold w e.ways → Gives w (rows.convert_value t e)
converted_told w t e h d z = let r = h.value d z in (conversion_told w e.int_type t (e.ways.value d).0 r.0, r.1)

pub convert_told : {V : Type 0} (w : Asked) (t : IntType) (e : Operand V) → WaysTold w e.ways → WaysTold w (rows.convert_ways t e)
convert_told w t e h = by_value w (converted_shape e.int_type t e.shape) t (rows.convert_value t e) (converted_told w t e h)

unary_value : {V : Type 0} (w : Asked) (op : Op) (s : Site) (t : IntType) (e : Operand V) → AtSite w s → WaysTold w e.ways → Gives w (rows.unary_value op s t e)
unary_value w op s t e i h d z =
    let r = h.value d z in
    (unary_told w op s t (conversion e.int_type t (e.ways.value d).0) i (conversion_told w e.int_type t (e.ways.value d).0 r.0), r.1)

either : {V : Type 0} (w : Asked) (b : Bool) (d e : DraftOf V) → IsTold w d → IsTold w e → IsTold w (if b then d else e)
either w true d e h k = h
either w false d e h k = k

pub unary_ways_told : {V : Type 0} (w : Asked) (op : Op) (s : Site) (t : IntType) (e : Operand V) → AtSite w s → WaysTold w e.ways → WaysTold w (rows.unary_ways op s t e)
unary_ways_told w op s t e i h =
    by_choice w (unary_shape op t (converted_shape e.int_type t e.shape)) (result_type op t) (rows.unary_value op s t e) (rows.unary_choice op s t e) (unary_value w op s t e i h)
    (λ p q d z. either w (is_not op) (e.ways.choice q p d) (rows.guards p q (rows.unary_value op s t e d)) (h.choice q p d z) (guarded w p q (rows.unary_value op s t e d) (unary_value w op s t e i h d z)))

pub binary_ways_told : {V : Type 0} (w : Asked) (op : Op) (s : Site) (t : IntType) (a b : Operand V) → AtSite w s → WaysTold w a.ways → WaysTold w b.ways → WaysTold w (rows.binary_ways op s t a b)
binary_ways_told w op s t a b i h k =
    by_value w (operated_shape op t a.int_type b.int_type a.shape b.shape) (result_type op t) (rows.binary_value op s t a b)
    (λ d z. let p = rows.two (strong_if b.makes) a b d in let f = two_told w (strong_if b.makes) a b d h k z in
    (operated_told w op s t a.int_type b.int_type p.first p.second i f.0 f.1, f.2))

pub and_told : {V : Type 0} (w : Asked) (a b : Ways V) → WaysTold w a → WaysTold w b → Chooses w (rows.and_choice a b)
and_told w a b h k p q d z = k.choice p q (at d.points (a.choice d.points q (fresh 1 d))) (h.choice d.points q (fresh 1 d) (placing _ _ z))

pub or_told : {V : Type 0} (w : Asked) (a b : Ways V) → WaysTold w a → WaysTold w b → Chooses w (rows.or_choice a b)
or_told w a b h k p q d z = k.choice p q (at d.points (a.choice p d.points (fresh 1 d))) (h.choice p d.points (fresh 1 d) (placing _ _ z))

set_between : {V : Type 0} (w : Asked) (x : V) (p q : ℕ) (r : Given V) → IsGiven w r → IsTold w (rows.set_between x p q r)
set_between w x p q r h = linking _ _ _ h.0 h.1

joined : {V : Type 0} (w : Asked) (t : IntType) (c : (p q : ℕ) → DraftOf V → DraftOf V) (a b : DraftOf V → Given V) → Chooses w c → Gives w a → Gives w b → Gives w (rows.joined t c a b)
joined w t c a b h k m d z =
    let x = d.names.temporary d.variables in
    let e = c d.points (d.points + 1) (with_temporary t (fresh 3 d)) in
    let f = rows.set_between x (d.points + 2) (d.points + 1) (a (at d.points e)) in
    let first = h d.points (d.points + 1) (with_temporary t (fresh 3 d)) (making _ _ tt (placing _ _ (placing _ _ (placing _ _ z)))) in
    let second = set_between w x (d.points + 2) (d.points + 1) (a (at d.points e)) (k (at d.points e) first) in
    (tt, set_between w x (d.points + 2) (d.points + 2) (b f) (m f second))

pub truth_told : {V : Type 0} (w : Asked) (c : (p q : ℕ) → DraftOf V → DraftOf V) → Chooses w c → WaysTold w (rows.truth_ways c)
truth_told w c h =
    by_choice w Temporary Int (rows.truth_value c) c
    (joined w Int c (λ d. (constant Int (pos 1), d)) (λ d. (constant Int (pos 0), d)) h (λ d z. (tt, z)) (λ d z. (tt, z))) h

pub conditional_told : {V : Type 0} (w : Asked) (t : IntType) (c : Ways V) (a b : Operand V) → WaysTold w c → WaysTold w a.ways → WaysTold w b.ways → WaysTold w (rows.conditional_ways t c a b)
conditional_told w t c a b h k m =
    by_value w Temporary t (rows.joined t c.choice (rows.convert_value t a) (rows.convert_value t b))
    (joined w t c.choice (rows.convert_value t a) (rows.convert_value t b) h.choice (converted_told w t a k) (converted_told w t b m))

pub then_told : {V : Type 0} (w : Asked) (f : DraftOf V → DraftOf V) (a : Ways V) → Keeps w f → WaysTold w a → WaysTold w (rows.then_ways f a)
then_told w f a h k = record {
  value = λ d z. k.value (f d) (h d z);
  choice = λ p q d z. k.choice p q (f d) (h d z);
  unused = λ d z. k.unused (f d) (h d z);
}

-- ---- calls

abbrev pub AtTrees : {V : Type 0} → Asked → List (TreeOf V) → Type 0
AtTrees w [] = Unit {0}
AtTrees w (r ∷ rs) = AtTree w r × AtTrees w rs

abbrev pub IsPassed : {V : Type 0} → Asked → Passed V → Type 0
IsPassed w r = AtTrees w r.trees × IsTold w r.draft

abbrev pub Passes : {V : Type 0} → Asked → (DraftOf V → Passed V) → Type 0
Passes {V = V} w f = (d : DraftOf V) → IsTold w d → IsPassed w (f d)

pub passed_before : {V : Type 0} (w : Asked) (later : Bool) (e : Operand V) (rest : DraftOf V → Passed V) → WaysTold w e.ways → Passes w rest → Passes w (rows.passed_before later e rest)
passed_before w later e rest h k d z =
    let f = held_told w (stays (strong_if later) e.shape) e.int_type (e.ways.value d) (h.value d z) in
    let g = k (rows.held (strong_if later) e.shape e.int_type (e.ways.value d)).1 f.1 in
    ((f.0, g.0), g.1)

bound_told : {V : Type 0} (w : Asked) (k i x : ℕ) (ts us : List IntType) (rs : List (TreeOf V)) (d : DraftOf V) → AtTrees w rs → IsTold w d → IsTold w (rows.bound k i x ts us rs d)
bound_told w k i x [] us rs d h z = z
bound_told w k i x (t ∷ ts) [] rs d h z = z
bound_told w k i x (t ∷ ts) (u ∷ us) [] d h z = z
bound_told w k i x (t ∷ ts) (u ∷ us) (r ∷ rs) d h z =
    bound_told w k (i + 1) (x + 1) ts us rs _ h.1 (emitting w _ d (conversion_told w u t r h.0) z)

pub called_told : {V : Type 0} (w : Asked) (c : Context) (f n : ℕ) (us : List IntType) (a : DraftOf V → Passed V) → Passes w a → Gives w (rows.called c f n us a)
called_told w c f n us a h d z =
    let r = h d z in
    (tt, bound_told w (callee c n) 0 (a d).draft.variables (parameters_of c.unit f) us (a d).trees (a d).draft r.0 r.1)

pub assumed_told : {V : Type 0} (w : Asked) (a : Ways V) → WaysTold w a → Keeps w (rows.assumed a)
assumed_told w a h d z = h.choice d.points nowhere (fresh 1 d) (placing _ _ z)

as_int_by : {V : Type 0} (w : Asked) (b : Bool) (e : Operand V) → WaysTold w e.ways → WaysTold w (if b then e.ways else rows.convert_ways Int e)
as_int_by w true e h = h
as_int_by w false e h = convert_told w Int e h

pub as_int_told : {V : Type 0} (w : Asked) (e : Operand V) → WaysTold w e.ways → WaysTold w (rows.as_int e)
as_int_told w e h = as_int_by w (represents Int e.int_type) e h

pub check_told : {V : Type 0} (w : Asked) (s : Site) (u : IntType) (r : Given V) → AtSite w s → IsGiven w r → IsTold w (rows.check_after s u r)
check_told w s u r i h = emitting w _ r.1 (i, conversion_told w u Int r.0 h.0) h.1
