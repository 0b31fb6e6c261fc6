-- The rows of expressions: each adds what its operators count, and what its parts add.
use Rattle.std.specs.Prelude.{ℕ, ◌+◌, ◌≤◌, Bool, true, false, pos}
use Rattle.std.proofs.Common.{◌≡◌, refl, arith}
use Rattle.pk_ctypes.specs.declared.types.IntType.{IntType}
use Rattle.pk_ctypes.specs.declared.types.IntType.TheVariants.{Int}
use Rattle.pk_ctypes.specs.declared.types.Op.{Op}
use Rattle.pk_graph.specs.declared.trees.Site.{Site}
use Rattle.pk_graph.specs.Trees.{TreeOf, constant, variable, ArrayOf, Set, Load, Store, Guard}
use Rattle.pk_draft.specs.Drafts.{DraftOf, Given, at, emit, next_temporary, with_temporary, stored}
use Rattle.pk_draft.specs.Folding.{conversion, updated_tree}
use Rattle.pk_lower_row.specs.declared.shapes.Shape.{Shape}
use Rattle.pk_lower_row.specs.declared.shapes.Shape.TheVariants.{Fixed, Temporary, Named, Other}
use Rattle.pk_lower_row.specs.declared.shapes.Waiting.{Waiting}
use Rattle.pk_lower_row.specs.declared.shapes.Waiting.TheVariants.{Loose, Strong, Weak}
use Rattle.pk_lower_row.specs.Shapes.{is_plain, strong_if, strong_or_weak}
use Rattle.pk_lower_row.specs.Rows as rows
use Rattle.pk_lower_row.specs.Rows.{Ways, Operand, Target, Two, Loaded, scalar, element}
use Rattle.pk_access_laws.proofs.Spent.{Asked, in_tree, in_edges, Adds, up_to, linking, linking_both, emitting}
use Rattle.pk_access_laws.proofs.Shaped.{HasShape, fixed_counts, conversion_less, updated_less}

abbrev pub Keeps : {V : Type 0} → Asked → ℕ → (DraftOf V → DraftOf V) → Type 0
Keeps {V = V} w m f = (d : DraftOf V) → Adds (in_edges w d.edges) m (in_edges w (f d).edges)

abbrev pub Chooses : {V : Type 0} → Asked → ℕ → ((p q : ℕ) → DraftOf V → DraftOf V) → Type 0
Chooses {V = V} w m f = (p q : ℕ) → Keeps w m (f p q)

-- a tree with a draft that had counted x
pub record Gave {V : Type 0} (w : Asked) (x m : ℕ) (s : Shape) (r : Given V) : Type 0 where
  pub spent : in_tree w r.0 + in_edges w r.1.edges ≤ x + m
  pub shaped : HasShape w s r.0

abbrev pub Gives : {V : Type 0} → Asked → ℕ → Shape → (DraftOf V → Given V) → Type 0
Gives {V = V} w m s f = (d : DraftOf V) → Gave w (in_edges w d.edges) m s (f d)

pub record WaysTold {V : Type 0} (w : Asked) (m : ℕ) (s : Shape) (f : Ways V) : Type 0 where
  pub value : Gives w m s f.value
  pub choice : Chooses w m f.choice
  pub unused : Keeps w m f.unused

-- ---- ways

storing : {V : Type 0} (w : Asked) (t : IntType) (r : Given V) → in_edges w (stored t r.0 r.1).1.edges ≤ in_tree w r.0 + in_edges w r.1.edges
storing w t r = let h = emitting w (Set (next_temporary r.1) r.0) (with_temporary t r.1) in omega (arith, h.most)

stored_told : {V : Type 0} (w : Asked) (x m : ℕ) (s : Shape) (b : Bool) (t : IntType) (r : Given V) → Gave w x m s r → in_edges w (rows.stored_unless b t r).1.edges ≤ x + m
stored_told w x m s true t r h = omega (arith, h.spent)
stored_told w x m s false t r h = omega (arith, h.spent, storing w t r)

pub guarded : {V : Type 0} (w : Asked) (p q x m : ℕ) (s : Shape) (r : Given V) → Gave w x m s r → Adds x m (in_edges w (rows.guards p q r).edges)
guarded w p q x m s r h =
    let g = linking_both w r.1.edges r.1.point p q (in_tree w r.0) (Guard r.0 true) (Guard r.0 false) (omega arith) (omega arith) in
    record { most = omega (arith, h.spent, g.most) }

pub by_both : {V : Type 0} (w : Asked) (m : ℕ) (s : Shape) (f : DraftOf V → Given V) (g : DraftOf V → DraftOf V) → Gives w m s f → Keeps w m g → WaysTold w m s (rows.by_both f g)
by_both w m s f g h k = record { value = h; choice = λ p q d. guarded w p q (in_edges w d.edges) m s (f d) (h d); unused = k }

dropped_told : {V : Type 0} (w : Asked) (x m : ℕ) (s : Shape) (t : IntType) (r : Given V) → Gave w x m s r → Adds x m (in_edges w (rows.dropped s t r).edges)
dropped_told w x m s t r h = record { most = stored_told w x m s (is_plain s) t r h }

pub by_value : {V : Type 0} (w : Asked) (m : ℕ) (s : Shape) (t : IntType) (f : DraftOf V → Given V) → Gives w m s f → WaysTold w m s (rows.by_value s t f)
by_value w m s t f h = by_both w m s f (λ d. rows.dropped s t (f d)) h (λ d. dropped_told w (in_edges w d.edges) m s t (f d) (h d))

pub by_choice : {V : Type 0} (w : Asked) (m : ℕ) (s : Shape) (t : IntType) (f : DraftOf V → Given V) (g : (p q : ℕ) → DraftOf V → DraftOf V) → Gives w m s f → Chooses w m g → WaysTold w m s (rows.by_choice s t f g)
by_choice w m s t f g h k = record { value = h; choice = k; unused = λ d. dropped_told w (in_edges w d.edges) m s t (f d) (h d) }

pub plain : {V : Type 0} (w : Asked) (m : ℕ) (s : Shape) (r : DraftOf V → Given V) → ((d : DraftOf V) → in_tree w (r d).0 + in_edges w (r d).1.edges ≤ in_edges w d.edges + m) → ((d : DraftOf V) → HasShape w s (r d).0) → Gives w m s r
plain w m s r h k d = record { spent = h d; shaped = k d }

-- ---- two operands, and elements

-- a tree that waits counts nothing, unless it may be used at once
abbrev pub IsKept : {V : Type 0} → Asked → Waiting → TreeOf V → Type 0
IsKept w Loose e = Unit {0}
IsKept w Strong e = in_tree w e ≡ 0
IsKept w Weak e = in_tree w e ≡ 0

pub record Held {V : Type 0} (w : Asked) (x m : ℕ) (how : Waiting) (s : Shape) (r : Given V) : Type 0 where
  pub spent : in_tree w r.0 + in_edges w r.1.edges ≤ x + m
  pub kept : IsKept w how r.0
  pub shaped : HasShape w s r.0

pub held_told : {V : Type 0} (w : Asked) (x m : ℕ) (how : Waiting) (s : Shape) (t : IntType) (r : Given V) → Gave w x m s r → Held w x m how s (rows.held how s t r)
held_told w x m Loose s t r h = record { spent = h.spent; kept = tt; shaped = h.shaped }
held_told w x m Strong (Fixed z) t r h = record { spent = h.spent; kept = fixed_counts w z r.0 h.shaped; shaped = h.shaped }
held_told w x m Strong Temporary t r h = record { spent = h.spent; kept = h.shaped; shaped = h.shaped }
held_told w x m Strong Named t r h = record { spent = omega (arith, h.spent, storing w t r); kept = refl; shaped = refl }
held_told w x m Strong Other t r h = record { spent = omega (arith, h.spent, storing w t r); kept = refl; shaped = tt }
held_told w x m Weak (Fixed z) t r h = record { spent = h.spent; kept = fixed_counts w z r.0 h.shaped; shaped = h.shaped }
held_told w x m Weak Temporary t r h = record { spent = h.spent; kept = h.shaped; shaped = h.shaped }
held_told w x m Weak Named t r h = record { spent = h.spent; kept = h.shaped; shaped = h.shaped }
held_told w x m Weak Other t r h = record { spent = omega (arith, h.spent, storing w t r); kept = refl; shaped = tt }

pub record TwoTold {V : Type 0} (w : Asked) (x m : ℕ) (how : Waiting) (r s : Shape) (p : Two V) : Type 0 where
  pub spent : in_tree w p.first + in_tree w p.second + in_edges w p.draft.edges ≤ x + m
  pub kept : IsKept w how p.first
  pub before : HasShape w r p.first
  pub shaped : HasShape w s p.second

pub two_told : {V : Type 0} (w : Asked) (m k : ℕ) (how : Waiting) (a b : Operand V) (d : DraftOf V) → WaysTold w m a.shape a.ways → WaysTold w k b.shape b.ways → TwoTold w (in_edges w d.edges) (m + k) how a.shape b.shape (rows.two how a b d)
two_told w m k how a b d h g =
    let f = held_told w (in_edges w d.edges) m how a.shape a.int_type (a.ways.value d) (h.value d) in
    let r = g.value (rows.held how a.shape a.int_type (a.ways.value d)).1 in
    record { spent = omega (arith, f.spent, r.spent); kept = f.kept; before = f.shaped; shaped = r.shaped }

abbrev pub shape_at : {V : Type 0} → Target V → Shape
shape_at (scalar t x) = Named
shape_at (element t s a i) = Temporary

pub record Indexed {V : Type 0} (w : Asked) (m : ℕ) (s : Site) (i : Operand V) : Type 0 where
  pub cost : ℕ
  pub ways : WaysTold w cost i.shape i.ways
  pub fits : cost + w.count s ≤ m

abbrev pub Targets : {V : Type 0} → Asked → ℕ → Target V → Type 0
Targets w m (scalar t x) = Unit {0}
Targets w m (element t s a i) = Indexed w m s i

load_told : {V : Type 0} (w : Asked) (t : IntType) (s : Site) (a : ArrayOf V) (r : Given V) → in_edges w (rows.load t s a r).1.edges ≤ in_tree w r.0 + in_edges w r.1.edges + w.count s
load_told w t s a r = let h = emitting w (Load (next_temporary r.1) a s true r.0) (with_temporary t r.1) in omega (arith, h.most)

pub read_told : {V : Type 0} (w : Asked) (m : ℕ) (x : Target V) → Targets w m x → WaysTold w m (shape_at x) (rows.read_ways x)
read_told w m (scalar t x) h = by_value w m Named t (λ d. (variable (x d), d)) (λ d. record { spent = omega arith; shaped = refl })
read_told w m (element t s a i) h =
    by_value w m Temporary t (λ d. rows.element_value t s (a d) i d)
    (λ d. let v = h.ways.value d in record { spent = omega (arith, v.spent, h.fits, load_told w t s (a d) (i.ways.value d)); shaped = refl })

put_used : {V : Type 0} (w : Asked) (m k : ℕ) (t : IntType) (s : Site) (a : ArrayOf V) (i e : Operand V) (d : DraftOf V) → WaysTold w m i.shape i.ways → WaysTold w k e.shape e.ways → Gave w (in_edges w d.edges) (m + w.count s + k) Temporary (rows.put_used t s a i e d)
put_used {V = V} w m k t s a i e d h g =
    let p : Two V = rows.two (strong_or_weak e.makes) i e d in
    let f = two_told w m k (strong_or_weak e.makes) i e d h g in
    let v : Given V = stored t (conversion e.int_type t p.second) p.draft in
    let first = storing w t (conversion e.int_type t p.second, p.draft) in
    let second = emitting w (Store a s true p.first v.0) v.1 in
    record { spent = omega (arith, f.spent, first, second.most, conversion_less w e.int_type t p.second); shaped = refl }

put_unused : {V : Type 0} (w : Asked) (m k : ℕ) (t : IntType) (s : Site) (a : ArrayOf V) (i e : Operand V) (d : DraftOf V) → WaysTold w m i.shape i.ways → WaysTold w k e.shape e.ways → Adds (in_edges w d.edges) (m + w.count s + k) (in_edges w (rows.put_unused t s a i e d).edges)
put_unused {V = V} w m k t s a i e d h g =
    let p : Two V = rows.two (strong_if e.makes) i e d in
    let f = two_told w m k (strong_if e.makes) i e d h g in
    let second = emitting w (Store a s true p.first (conversion e.int_type t p.second)) p.draft in
    record { most = omega (arith, f.spent, second.most, conversion_less w e.int_type t p.second) }

pub setting : {V : Type 0} (w : Asked) (t u : IntType) (x : V) (r : Given V) → in_edges w (rows.set_after t u x r).edges ≤ in_tree w r.0 + in_edges w r.1.edges
setting w t u x r = let h = emitting w (Set x (conversion u t r.0)) r.1 in omega (arith, h.most, conversion_less w u t r.0)

more_ways : {V : Type 0} (w : Asked) (m k : ℕ) (s : Shape) (f : Ways V) → WaysTold w m s f → m ≤ k → WaysTold w k s f
more_ways w m k s f h l = record {
  value = λ d. let v = h.value d in record { spent = omega (arith, v.spent, l); shaped = v.shaped };
  choice = λ p q d. up_to (h.choice p q d) l;
  unused = λ d. up_to (h.unused d) l;
}

pub assign_told : {V : Type 0} (w : Asked) (m k : ℕ) (x : Target V) (e : Operand V) → Targets w m x → WaysTold w k e.shape e.ways → WaysTold w (m + k) (shape_at x) (rows.assign_ways x e)
assign_told w m k (scalar t x) e h g =
    by_value w (m + k) Named t (λ d. (variable (x d), rows.set_after t e.int_type (x d) (e.ways.value d)))
    (λ d. let v = g.value d in record { spent = omega (arith, v.spent, setting w t e.int_type (x d) (e.ways.value d)); shaped = refl })
assign_told w m k (element t s a i) e h g =
    more_ways w (h.cost + w.count s + k) (m + k) Temporary (rows.assign_ways (element t s a i) e)
    (by_both w (h.cost + w.count s + k) Temporary (λ d. rows.put_used t s (a d) i e d) (λ d. rows.put_unused t s (a d) i e d)
    (λ d. put_used w h.cost k t s (a d) i e d h.ways g) (λ d. put_unused w h.cost k t s (a d) i e d h.ways g)) (omega (arith, h.fits))

update_scalar : {V : Type 0} (w : Asked) (k : ℕ) (op : Op) (s : Site) (o t : IntType) (x : V) (e : Operand V) (d : DraftOf V) → WaysTold w k e.shape e.ways → Adds (in_edges w d.edges) (w.count s + k) (in_edges w (rows.update_scalar op s o t x e d).edges)
update_scalar {V = V} w k op s o t x e d g =
    let r : Given V = e.ways.value d in
    let v = g.value d in
    let h = emitting w (Set x (updated_tree op s o t e.int_type (variable x) r.0)) r.1 in
    record { most = omega (arith, v.spent, h.most, updated_less w op s o t e.int_type (variable x) r.0) }

-- an element that was loaded behind its index and the right side, none of which counts any more
pub record LoadedTold {V : Type 0} (w : Asked) (x m : ℕ) (p : Loaded V) : Type 0 where
  pub spent : in_edges w p.draft.edges ≤ x + m
  pub index : in_tree w p.index ≡ 0
  pub right : in_tree w p.right ≡ 0
  pub element : in_tree w p.element ≡ 0

kept_both : {V : Type 0} (w : Asked) (b : Bool) (e : TreeOf V) → IsKept w (strong_or_weak b) e → in_tree w e ≡ 0
kept_both w true e h = h
kept_both w false e h = h

loaded_told : {V : Type 0} (w : Asked) (m k : ℕ) (t : IntType) (s : Site) (a : ArrayOf V) (i e : Operand V) (d : DraftOf V) → WaysTold w m i.shape i.ways → WaysTold w k e.shape e.ways → LoadedTold w (in_edges w d.edges) (m + w.count s + k) (rows.loaded t s a i e d)
loaded_told {V = V} w m k t s a i e d h g =
    let p : Two V = rows.two (strong_or_weak e.makes) i e d in
    let f = two_told w m k (strong_or_weak e.makes) i e d h g in
    let index : in_tree w p.first ≡ 0 = kept_both w e.makes p.first f.kept in
    let right = held_told w (in_tree w p.second + in_edges w p.draft.edges) 0 Weak e.shape e.int_type (p.second, p.draft) (record { spent = omega arith; shaped = f.shaped }) in
    let v : Given V = rows.held Weak e.shape e.int_type (p.second, p.draft) in
    let loading = emitting w (Load (next_temporary v.1) a s true p.first) (with_temporary t v.1) in
    record { spent = omega (arith, f.spent, index, right.spent, loading.most); index = index; right = right.kept; element = refl }

renew_unused : {V : Type 0} (w : Asked) (x m : ℕ) (op : Op) (s : Site) (o t : IntType) (r : Site) (a : ArrayOf V) (u : IntType) (p : Loaded V) → LoadedTold w x m p → Adds x (w.count s + m) (in_edges w (rows.renew_unused op s o t r a u p).edges)
renew_unused w x m op s o t r a u p h =
    let storing = emitting w (Store a r false p.index (rows.renewed_tree op s o t u p)) p.draft in
    record { most = omega (arith, h.spent, h.index, h.right, h.element, storing.most, updated_less w op s o t u p.element p.right) }

renew_used : {V : Type 0} (w : Asked) (x m : ℕ) (op : Op) (s : Site) (o t : IntType) (r : Site) (a : ArrayOf V) (u : IntType) (p : Loaded V) → LoadedTold w x m p → Gave w x (w.count s + m) Temporary (rows.renew_used op s o t r a u p)
renew_used {V = V} w x m op s o t r a u p h =
    let v : Given V = stored t (rows.renewed_tree op s o t u p) p.draft in
    let first = storing w t (rows.renewed_tree op s o t u p, p.draft) in
    let second = emitting w (Store a r false p.index v.0) v.1 in
    record { spent = omega (arith, h.spent, h.index, h.right, h.element, first, second.most, updated_less w op s o t u p.element p.right); shaped = refl }

pub update_told : {V : Type 0} (w : Asked) (m k : ℕ) (op : Op) (s : Site) (o : IntType) (x : Target V) (e : Operand V) → Targets w m x → WaysTold w k e.shape e.ways → WaysTold w (w.count s + (m + k)) (shape_at x) (rows.update_ways op s o x e)
update_told w m k op s o (scalar t x) e h g =
    by_value w (w.count s + (m + k)) Named t (λ d. (variable (x d), rows.update_scalar op s o t (x d) e d))
    (λ d. let v = update_scalar w k op s o t (x d) e d g in record { spent = omega (arith, v.most); shaped = refl })
update_told w m k op s o (element t r a j) e h g =
    more_ways w (w.count s + (h.cost + w.count r + k)) (w.count s + (m + k)) Temporary (rows.update_ways op s o (element t r a j) e)
    (by_both w (w.count s + (h.cost + w.count r + k)) Temporary
    (λ d. rows.renew_used op s o t r (a d) e.int_type (rows.loaded t r (a d) j e d)) (λ d. rows.renew_unused op s o t r (a d) e.int_type (rows.loaded t r (a d) j e d))
    (λ d. renew_used w (in_edges w d.edges) (h.cost + w.count r + k) op s o t r (a d) e.int_type (rows.loaded t r (a d) j e d) (loaded_told w h.cost k t r (a d) j e d h.ways g))
    (λ d. renew_unused w (in_edges w d.edges) (h.cost + w.count r + k) op s o t r (a d) e.int_type (rows.loaded t r (a d) j e d) (loaded_told w h.cost k t r (a d) j e d h.ways g)))
    (omega (arith, h.fits))

pub one_told : (V : Type 0) (w : Asked) → WaysTold {V = V} w 0 (Fixed (pos 1)) (rows.one {V = V}).ways
one_told V w = by_value w 0 (Fixed (pos 1)) Int (λ (d : DraftOf V). (constant Int (pos 1), d)) (λ d. record { spent = omega arith; shaped = refl })

pub zero_told : (V : Type 0) (w : Asked) → WaysTold {V = V} w 0 (Fixed (pos 0)) rows.zero_ways
zero_told V w = by_value w 0 (Fixed (pos 0)) Int (λ (d : DraftOf V). (constant Int (pos 0), d)) (λ d. record { spent = omega arith; shaped = refl })

pub after_told : {V : Type 0} (w : Asked) (m : ℕ) (op : Op) (s : Site) (o : IntType) (x : Target V) → Targets w m x → WaysTold w (w.count s + m) Temporary (rows.after_ways op s o x)
after_told {V = V} w m op s o (scalar t x) h =
    by_both w (w.count s + m) Temporary (λ d. rows.after_scalar op s o t (x d) d) (λ d. rows.update_scalar op s o t (x d) rows.one d)
    (λ d. let first = storing w t (variable (x d), d) in
    let second = update_scalar w 0 op s o t (x d) rows.one (stored t (variable (x d)) d).1 (one_told V w) in
    record { spent = omega (arith, first, second.most); shaped = refl })
    (λ d. up_to (update_scalar w 0 op s o t (x d) rows.one d (one_told V w)) (omega arith))
after_told {V = V} w m op s o (element t r a j) h =
    more_ways w (w.count s + (h.cost + w.count r + 0)) (w.count s + m) Temporary (rows.after_ways op s o (element t r a j))
    (by_both w (w.count s + (h.cost + w.count r + 0)) Temporary
    (λ d. rows.after_element op s o t r (a d) j d) (λ d. rows.renew_unused op s o t r (a d) Int (rows.loaded t r (a d) j rows.one d))
    (λ d. let p : Loaded V = rows.loaded t r (a d) j rows.one d in
    let l = loaded_told w h.cost 0 t r (a d) j rows.one d h.ways (one_told V w) in
    let u = renew_unused w (in_edges w d.edges) (h.cost + w.count r + 0) op s o t r (a d) Int p l in
    record { spent = omega (arith, u.most, l.element); shaped = l.element })
    (λ d. renew_unused w (in_edges w d.edges) (h.cost + w.count r + 0) op s o t r (a d) Int (rows.loaded t r (a d) j rows.one d) (loaded_told w h.cost 0 t r (a d) j rows.one d h.ways (one_told V w))))
    (omega (arith, h.fits))

pub before_told : {V : Type 0} (w : Asked) (m : ℕ) (op : Op) (s : Site) (o : IntType) (x : Target V) → Targets w m x → WaysTold w (w.count s + m) (shape_at x) (rows.step_ways op s o x true)
before_told {V = V} w m op s o x h = more_ways w (w.count s + (m + 0)) (w.count s + m) (shape_at x) (rows.step_ways op s o x true) (update_told w m 0 op s o x rows.one h (one_told V w)) (omega arith)
