-- Expressions whose variables are renamed: assignments, choices and calls make the same of them.
use Rattle.std.proofs.Common.{◌≡◌, ℕ, ◌+◌, List, [], ◌∷◌, map, length, Bool, true, false, refl, ap, ◌∙◌, pos}
use Rattle.pk_ctypes.specs.declared.types.IntType.{IntType}
use Rattle.pk_ctypes.specs.declared.types.IntType.TheVariants.{Int}
use Rattle.pk_ctypes.specs.declared.types.Op.{Op}
use Rattle.pk_graph.specs.declared.trees.Site.{Site}
use Rattle.pk_graph.specs.Trees.{TreeOf, constant, variable, ArrayOf, Set, Load, Store, Check}
use Rattle.pk_draft.specs.declared.drafts.Size.{Size}
use Rattle.pk_draft.specs.Drafts.{DraftOf, Given, nowhere, at, fresh, with_temporary, next_temporary, emit, stored, entered}
use Rattle.pk_draft.specs.Folding.{conversion, updated_tree}
use Rattle.pk_lower_row.specs.declared.shapes.Shape.{Shape}
use Rattle.pk_lower_row.specs.declared.shapes.Shape.TheVariants.{Temporary, Named}
use Rattle.pk_lower_row.specs.declared.shapes.Waiting.TheVariants.{Weak}
use Rattle.pk_lower_row.specs.Shapes.{strong_if, strong_or_weak}
use Rattle.pk_lower_row.specs.Rows as rows
use Rattle.pk_lower_row.specs.Rows.{Ways, Operand, Target, Two, Loaded, Passed}
use Rattle.pk_visits.proofs.Numbered.Names.{tree_by, array_by, draft_by, given_by, conversion_by, updated_by, emit_by, stored_by}
use Rattle.pk_visits.proofs.Numbered.Rows.{Works, Gives, WaysBy, beside, TargetsBy, scalars, elements, two_by, held_by, both_by, value_by, choice_by, pair_by, convert_by, between_by}

-- ---- assignments

pub set_after_by : {V W : Type 0} (f : V → W) (t u : IntType) (x : V) (r : Given V) → rows.set_after t u (f x) (given_by f r) ≡ draft_by f (rows.set_after t u x r)
set_after_by f t u x r = ap (λ e. emit (Set (f x) e) (draft_by f r.1)) (conversion_by f u t r.0) ∙ emit_by f (Set x (conversion u t r.0)) r.1

written_by : {V W : Type 0} (f : V → W) (a : ArrayOf V) (s : Site) (b : Bool) (i : TreeOf V) (v : Given V) → rows.written (array_by f a) s b (tree_by f i) (given_by f v) ≡ given_by f (rows.written a s b i v)
written_by {W = W} f a s b i v = ap (λ (d : DraftOf W). (tree_by f v.0, d)) (emit_by f (Store a s b i v.0) v.1)

put_after_by : {V W : Type 0} (f : V → W) (t u : IntType) (s : Site) (a : ArrayOf V) (p : Two V) → rows.put_after t u s (array_by f a) (two_by f p) ≡ draft_by f (rows.put_after t u s a p)
put_after_by f t u s a p =
    ap (λ e. emit (Store (array_by f a) s true (tree_by f p.first) e) (draft_by f p.draft)) (conversion_by f u t p.second) ∙ emit_by f (Store a s true p.first (conversion u t p.second)) p.draft

kept_after_by : {V W : Type 0} (f : V → W) (t u : IntType) (s : Site) (a : ArrayOf V) (p : Two V) → rows.kept_after t u s (array_by f a) (two_by f p) ≡ given_by f (rows.kept_after t u s a p)
kept_after_by f t u s a p =
    ap (λ e. rows.written (array_by f a) s true (tree_by f p.first) (stored t e (draft_by f p.draft))) (conversion_by f u t p.second)
    ∙ ap (rows.written (array_by f a) s true (tree_by f p.first)) (stored_by f t (conversion u t p.second) p.draft)
    ∙ written_by f a s true p.first (stored t (conversion u t p.second) p.draft)

abbrev set_beside : {W : Type 0} → (t u : IntType) → W → Given W → Given W
set_beside t u x r = (variable x, rows.set_after t u x r)

pub assign_by : {V W : Type 0} (f : V → W) (x : Target V) (y : Target W) (e : Operand V) (w : Ways W) → TargetsBy f x y → WaysBy f e.ways w → WaysBy f (rows.assign_ways x e) (rows.assign_ways y (beside e w))
assign_by f x y e w (scalars {t = t} {x = v} {y = u} h) g =
    value_by f Named t (λ d. (variable (v d), rows.set_after t e.int_type (v d) (e.ways.value d))) (λ d. (variable (u d), rows.set_after t e.int_type (u d) (w.value d)))
    (λ d. ap (λ z. set_beside t e.int_type z (w.value (draft_by f d))) (h d) ∙ ap (set_beside t e.int_type (f (v d))) (g.value d)
    ∙ ap (rows.kept_beside (f (v d))) (set_after_by f t e.int_type (v d) (e.ways.value d)))
assign_by f x y e w (elements {t = t} {s = s} {a = a} {b = b} {i = i} {z = z} h k) g =
    both_by f (λ d. rows.put_used t s (a d) i e d) (λ d. rows.put_used t s (b d) (beside i z) (beside e w) d) (λ d. rows.put_unused t s (a d) i e d) (λ d. rows.put_unused t s (b d) (beside i z) (beside e w) d)
    (λ d. ap (λ c. rows.put_used t s c (beside i z) (beside e w) (draft_by f d)) (h d)
    ∙ ap (rows.kept_after t e.int_type s (array_by f (a d))) (pair_by f (strong_or_weak e.makes) i e z w k g d)
    ∙ kept_after_by f t e.int_type s (a d) (rows.two (strong_or_weak e.makes) i e d))
    (λ d. ap (λ c. rows.put_unused t s c (beside i z) (beside e w) (draft_by f d)) (h d)
    ∙ ap (rows.put_after t e.int_type s (array_by f (a d))) (pair_by f (strong_if e.makes) i e z w k g d)
    ∙ put_after_by f t e.int_type s (a d) (rows.two (strong_if e.makes) i e d))

-- ---- assignments with an operator

abbrev pub loaded_by : {V W : Type 0} → (V → W) → Loaded V → Loaded W
loaded_by f q = record { index = tree_by f q.index; right = tree_by f q.right; element = tree_by f q.element; draft = draft_by f q.draft }

abbrev from_held : {W : Type 0} → IntType → Site → ArrayOf W → TreeOf W → Given W → Loaded W
from_held t s a i k = record { index = i; right = k.0; element = variable (next_temporary k.1); draft = emit (Load (next_temporary k.1) a s true i) (with_temporary t k.1) }

abbrev with_draft : {W : Type 0} → (i r e : TreeOf W) → DraftOf W → Loaded W
with_draft i r e d = record { index = i; right = r; element = e; draft = d }

loaded_after_by : {V W : Type 0} (f : V → W) (t : IntType) (s : Site) (a : ArrayOf V) (h : Shape) (u : IntType) (p : Two V) → rows.loaded_after t s (array_by f a) h u (two_by f p) ≡ loaded_by f (rows.loaded_after t s a h u p)
loaded_after_by f t s a h u p =
    let k = rows.held Weak h u (p.second, p.draft) in
    ap (from_held t s (array_by f a) (tree_by f p.first)) (held_by f Weak h u (p.second, p.draft))
    ∙ ap (with_draft (tree_by f p.first) (tree_by f k.0) (variable (f (next_temporary k.1)))) (emit_by f (Load (next_temporary k.1) a s true p.first) (with_temporary t k.1))

pub loads_by : {V W : Type 0} (f : V → W) (t : IntType) (s : Site) (a : DraftOf V → ArrayOf V) (b : DraftOf W → ArrayOf W) (i e : Operand V) (z w : Ways W) → ((d : DraftOf V) → b (draft_by f d) ≡ array_by f (a d)) → WaysBy f i.ways z → WaysBy f e.ways w
    → (d : DraftOf V) → rows.loaded t s (b (draft_by f d)) (beside i z) (beside e w) (draft_by f d) ≡ loaded_by f (rows.loaded t s (a d) i e d)
loads_by f t s a b i e z w h k g d =
    ap (λ c. rows.loaded t s c (beside i z) (beside e w) (draft_by f d)) (h d)
    ∙ ap (rows.loaded_after t s (array_by f (a d)) e.shape e.int_type) (pair_by f (strong_or_weak e.makes) i e z w k g d)
    ∙ loaded_after_by f t s (a d) e.shape e.int_type (rows.two (strong_or_weak e.makes) i e d)

pub renew_unused_by : {V W : Type 0} (f : V → W) (op : Op) (s : Site) (o t : IntType) (r : Site) (a : ArrayOf V) (u : IntType) (p : Loaded V) → rows.renew_unused op s o t r (array_by f a) u (loaded_by f p) ≡ draft_by f (rows.renew_unused op s o t r a u p)
renew_unused_by f op s o t r a u p =
    ap (λ e. emit (Store (array_by f a) r false (tree_by f p.index) e) (draft_by f p.draft)) (updated_by f op s o t u p.element p.right) ∙ emit_by f (Store a r false p.index (rows.renewed_tree op s o t u p)) p.draft

renew_used_by : {V W : Type 0} (f : V → W) (op : Op) (s : Site) (o t : IntType) (r : Site) (a : ArrayOf V) (u : IntType) (p : Loaded V) → rows.renew_used op s o t r (array_by f a) u (loaded_by f p) ≡ given_by f (rows.renew_used op s o t r a u p)
renew_used_by f op s o t r a u p =
    ap (λ e. rows.written (array_by f a) r false (tree_by f p.index) (stored t e (draft_by f p.draft))) (updated_by f op s o t u p.element p.right)
    ∙ ap (rows.written (array_by f a) r false (tree_by f p.index)) (stored_by f t (rows.renewed_tree op s o t u p) p.draft)
    ∙ written_by f a r false p.index (stored t (rows.renewed_tree op s o t u p) p.draft)

abbrev pub given : {W : Type 0} → TreeOf W → DraftOf W → Given W
given e d = (e, d)

pub renew_old_by : {V W : Type 0} (f : V → W) (op : Op) (s : Site) (o t : IntType) (r : Site) (a : ArrayOf V) (p : Loaded V) → rows.renew_old op s o t r (array_by f a) (loaded_by f p) ≡ given_by f (rows.renew_old op s o t r a p)
renew_old_by f op s o t r a p = ap (given (tree_by f p.element)) (renew_unused_by f op s o t r a Int p)

update_after_by : {V W : Type 0} (f : V → W) (op : Op) (s : Site) (o t u : IntType) (x : V) (r : Given V) → rows.update_after op s o t u (f x) (given_by f r) ≡ draft_by f (rows.update_after op s o t u x r)
update_after_by f op s o t u x r = ap (λ e. emit (Set (f x) e) (draft_by f r.1)) (updated_by f op s o t u (variable x) r.0) ∙ emit_by f (Set x (updated_tree op s o t u (variable x) r.0)) r.1

pub update_scalar_by : {V W : Type 0} (f : V → W) (op : Op) (s : Site) (o t : IntType) (x : V) (e : Operand V) (w : Ways W) → WaysBy f e.ways w → Works f (rows.update_scalar op s o t x e) (rows.update_scalar op s o t (f x) (beside e w))
update_scalar_by f op s o t x e w g d = ap (rows.update_after op s o t e.int_type (f x)) (g.value d) ∙ update_after_by f op s o t e.int_type x (e.ways.value d)

pub update_by : {V W : Type 0} (f : V → W) (op : Op) (s : Site) (o : IntType) (x : Target V) (y : Target W) (e : Operand V) (w : Ways W) → TargetsBy f x y → WaysBy f e.ways w → WaysBy f (rows.update_ways op s o x e) (rows.update_ways op s o y (beside e w))
update_by f op s o x y e w (scalars {t = t} {x = v} {y = u} h) g =
    value_by f Named t (λ d. (variable (v d), rows.update_scalar op s o t (v d) e d)) (λ d. (variable (u d), rows.update_scalar op s o t (u d) (beside e w) d))
    (λ d. ap (λ z. rows.kept_beside z (rows.update_scalar op s o t z (beside e w) (draft_by f d))) (h d) ∙ ap (rows.kept_beside (f (v d))) (update_scalar_by f op s o t (v d) e w g d))
update_by f op s o x y e w (elements {t = t} {s = r} {a = a} {b = b} {i = i} {z = z} h k) g =
    both_by f (λ d. rows.renew_used op s o t r (a d) e.int_type (rows.loaded t r (a d) i e d)) (λ d. rows.renew_used op s o t r (b d) e.int_type (rows.loaded t r (b d) (beside i z) (beside e w) d))
    (λ d. rows.renew_unused op s o t r (a d) e.int_type (rows.loaded t r (a d) i e d)) (λ d. rows.renew_unused op s o t r (b d) e.int_type (rows.loaded t r (b d) (beside i z) (beside e w) d))
    (λ d. ap (λ c. rows.renew_used op s o t r c e.int_type (rows.loaded t r (b (draft_by f d)) (beside i z) (beside e w) (draft_by f d))) (h d)
    ∙ ap (rows.renew_used op s o t r (array_by f (a d)) e.int_type) (loads_by f t r a b i e z w h k g d) ∙ renew_used_by f op s o t r (a d) e.int_type (rows.loaded t r (a d) i e d))
    (λ d. ap (λ c. rows.renew_unused op s o t r c e.int_type (rows.loaded t r (b (draft_by f d)) (beside i z) (beside e w) (draft_by f d))) (h d)
    ∙ ap (rows.renew_unused op s o t r (array_by f (a d)) e.int_type) (loads_by f t r a b i e z w h k g d) ∙ renew_unused_by f op s o t r (a d) e.int_type (rows.loaded t r (a d) i e d))

-- ---- choices

pub joined_by : {V W : Type 0} (f : V → W) (t : IntType) (u : (p q : ℕ) → DraftOf V → DraftOf V) (v : (p q : ℕ) → DraftOf W → DraftOf W) (a b : DraftOf V → Given V) (y z : DraftOf W → Given W)
    → ((p q : ℕ) → Works f (u p q) (v p q)) → Gives f a y → Gives f b z → Gives f (rows.joined t u a b) (rows.joined t v y z)
joined_by f t u v a b y z h k g d =
    let x = next_temporary d in
    let p = d.points in
    let c = u p (p + 1) (with_temporary t (fresh 3 d)) in
    let r = a (at p c) in
    let m = rows.set_between x (p + 2) (p + 1) r in
    ap (λ e. rows.kept_beside (f x) (rows.set_between (f x) (p + 2) (p + 2) (z (rows.set_between (f x) (p + 2) (p + 1) (y (at p e)))))) (h p (p + 1) (with_temporary t (fresh 3 d)))
    ∙ ap (λ e. rows.kept_beside (f x) (rows.set_between (f x) (p + 2) (p + 2) (z (rows.set_between (f x) (p + 2) (p + 1) e)))) (k (at p c))
    ∙ ap (λ e. rows.kept_beside (f x) (rows.set_between (f x) (p + 2) (p + 2) (z e))) (between_by f x (p + 2) (p + 1) r)
    ∙ ap (λ e. rows.kept_beside (f x) (rows.set_between (f x) (p + 2) (p + 2) e)) (g m)
    ∙ ap (rows.kept_beside (f x)) (between_by f x (p + 2) (p + 2) (b m))

pub truth_by : {V W : Type 0} (f : V → W) (u : (p q : ℕ) → DraftOf V → DraftOf V) (v : (p q : ℕ) → DraftOf W → DraftOf W) → ((p q : ℕ) → Works f (u p q) (v p q)) → WaysBy f (rows.truth_ways u) (rows.truth_ways v)
truth_by f u v h =
    choice_by f Temporary Int (rows.truth_value u) (rows.truth_value v) u v
    (joined_by f Int u v (λ d. (constant Int (pos 1), d)) (λ d. (constant Int (pos 0), d)) (λ d. (constant Int (pos 1), d)) (λ d. (constant Int (pos 0), d)) h (λ d. refl) (λ d. refl)) h

pub conditional_by : {V W : Type 0} (f : V → W) (t : IntType) (c : Ways V) (x : Ways W) (a b : Operand V) (y z : Ways W) → WaysBy f c x → WaysBy f a.ways y → WaysBy f b.ways z
    → WaysBy f (rows.conditional_ways t c a b) (rows.conditional_ways t x (beside a y) (beside b z))
conditional_by f t c x a b y z h k g =
    value_by f Temporary t (rows.joined t c.choice (rows.convert_value t a) (rows.convert_value t b)) (rows.joined t x.choice (rows.convert_value t (beside a y)) (rows.convert_value t (beside b z)))
    (joined_by f t c.choice x.choice (rows.convert_value t a) (rows.convert_value t b) (rows.convert_value t (beside a y)) (rows.convert_value t (beside b z)) h.choice (convert_by f t a y k).value (convert_by f t b z g).value)

pub assumed_by : {V W : Type 0} (f : V → W) (w : Ways V) (z : Ways W) → WaysBy f w z → Works f (rows.assumed w) (rows.assumed z)
assumed_by f w z h d = ap (at d.points) (h.choice d.points nowhere (fresh 1 d))

pub check_by : {V W : Type 0} (f : V → W) (s : Site) (u : IntType) (r : Given V) → rows.check_after s u (given_by f r) ≡ draft_by f (rows.check_after s u r)
check_by f s u r = ap (λ e. emit (Check s e) (draft_by f r.1)) (conversion_by f u Int r.0) ∙ emit_by f (Check s (conversion u Int r.0)) r.1

-- ---- calls

abbrev pub passed_by : {V W : Type 0} → (V → W) → Passed V → Passed W
passed_by f r = record { trees = map (tree_by f) r.trees; draft = draft_by f r.draft }

abbrev pub Passes : {V W : Type 0} → (V → W) → (DraftOf V → Passed V) → (DraftOf W → Passed W) → Type 0
Passes {V = V} f a b = (d : DraftOf V) → b (draft_by f d) ≡ passed_by f (a d)

bound_by : {V W : Type 0} (f : V → W) (k i x : ℕ) (ts us : List IntType) (rs : List (TreeOf V)) (d : DraftOf V) → rows.bound k i x ts us (map (tree_by f) rs) (draft_by f d) ≡ draft_by f (rows.bound k i x ts us rs d)
bound_by f k i x [] us rs d = refl
bound_by f k i x (t ∷ ts) [] rs d = refl
bound_by f k i x (t ∷ ts) (u ∷ us) [] d = refl
bound_by f k i x (t ∷ ts) (u ∷ us) (r ∷ rs) d =
    ap (λ e. rows.bound k (i + 1) (x + 1) ts us (map (tree_by f) rs) (emit (Set (f (d.names.object k i x)) e) (draft_by f d))) (conversion_by f u t r)
    ∙ ap (rows.bound k (i + 1) (x + 1) ts us (map (tree_by f) rs)) (emit_by f (Set (d.names.object k i x) (conversion u t r)) d)
    ∙ bound_by f k (i + 1) (x + 1) ts us rs (emit (Set (d.names.object k i x) (conversion u t r)) d)

abbrev entered_beside : {W : Type 0} → W → ℕ → Size → DraftOf W → Given W
entered_beside x k s d = (variable x, entered k s d)

pub call_after_by : {V W : Type 0} (f : V → W) (k : ℕ) (s : Size) (ts us : List IntType) (r : Passed V) → rows.call_after k s ts us (passed_by f r) ≡ given_by f (rows.call_after k s ts us r)
call_after_by f k s ts us r = ap (entered_beside (f (r.draft.names.result k (r.draft.variables + length ts))) k s) (bound_by f k 0 r.draft.variables ts us r.trees r.draft)

abbrev then_rest : {W : Type 0} → (DraftOf W → Passed W) → Given W → Passed W
then_rest g k = record { trees = k.0 ∷ (g k.1).trees; draft = (g k.1).draft }

abbrev behind_tree : {W : Type 0} → TreeOf W → Passed W → Passed W
behind_tree e r = record { trees = e ∷ r.trees; draft = r.draft }

pub passed_before_by : {V W : Type 0} (f : V → W) (later : Bool) (e : Operand V) (w : Ways W) (a : DraftOf V → Passed V) (b : DraftOf W → Passed W) → WaysBy f e.ways w → Passes f a b → Passes f (rows.passed_before later e a) (rows.passed_before later (beside e w) b)
passed_before_by f later e w a b h g d =
    let k = rows.held (strong_if later) e.shape e.int_type (e.ways.value d) in
    ap (λ r. then_rest b (rows.held (strong_if later) e.shape e.int_type r)) (h.value d)
    ∙ ap (then_rest b) (held_by f (strong_if later) e.shape e.int_type (e.ways.value d))
    ∙ ap (behind_tree (tree_by f k.0)) (g k.1)
