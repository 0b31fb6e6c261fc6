-- What holds of a draft whose places and names are of a unit: a step keeps it.
use Rattle.std.specs.Prelude.{ℕ, zero, suc, ◌+◌, ◌<◌, List, [], ◌∷◌, ◌++◌, Option, Some, None, IfSome, All, Bool, true, false, slice_set, slice_index_or, Result, Ok, Err, ℤ, length, ◌≤◌, ◌⊎◌}
use Rattle.std.proofs.Common.{inl, inr, sym, subst}
use Rattle.std.proofs.lemmas.Bool.{cases_lt}
use Rattle.std.proofs.lemmas.List.{get_or_past}
use Rattle.std.proofs.lemmas.List.Elements.{All-set, All-push, All-get_or}
use Rattle.pk_ctypes.specs.declared.places.Pos.{Pos}
use Rattle.pk_ctypes.specs.declared.faults.Fault.{Fault}
use Rattle.pk_ctypes.specs.declared.types.IntType.{IntType}
use Rattle.pk_ctypes.specs.declared.types.Op.{Op}
use Rattle.pk_ctypes.specs.Operators.{result_type}
use Rattle.pk_ctypes.specs.Types.{represents}
use Rattle.pk_graph.specs.declared.trees.Site.{Site}
use Rattle.pk_graph.specs.Graphs.{VariableOf}
use Rattle.pk_graph.specs.Trees.{TreeOf, constant, variable, converted, unary, binary, InstrOf, Skip, Set, Havoc, Clear, Load, Store, Guard, Check}
use Rattle.pk_draft.specs.declared.drafts.Label.{Label}
use Rattle.pk_draft.specs.Drafts.{DraftOf, EdgeFrom, Given, all_placed, placed, fresh, emit, stored}
use Rattle.pk_draft.specs.Folding.{folded, kept_if, conversion, unary_tree, binary_tree, operated_tree, updated_tree, right_type}

-- what holds of each place and of each name, and how many paths there are
pub record Asked : Type 1 where
  pub P : Pos → Type 0
  pub N : List ℕ → Type 0
  pub paths : ℕ

abbrev pub AtSite : Asked → Site → Type 0
AtSite w s = w.P s.at × (s.path < w.paths)

abbrev pub AtTree : {V : Type 0} → Asked → TreeOf V → Type 0
AtTree w (constant t n) = Unit {0}
AtTree w (variable x) = Unit {0}
AtTree w (converted t e) = AtTree w e
AtTree w (unary op s t e) = AtSite w s × AtTree w e
AtTree w (binary op s t a b) = AtSite w s × AtTree w a × AtTree w b

abbrev pub AtInstr : {V : Type 0} → Asked → InstrOf V → Type 0
AtInstr w Skip = Unit {0}
AtInstr w (Set x e) = AtTree w e
AtInstr w (Havoc x t n) = Unit {0}
AtInstr w (Clear a) = Unit {0}
AtInstr w (Load x a s b i) = AtSite w s × AtTree w i
AtInstr w (Store a s b i e) = AtSite w s × AtTree w i × AtTree w e
AtInstr w (Guard e b) = AtTree w e
AtInstr w (Check s e) = AtSite w s × AtTree w e

pub record Told {V : Type 0} (w : Asked) (a : Pos) (ls : List Label) (ms : List VariableOf) (es : List (EdgeFrom V)) : Type 0 where
  pub here : w.P a
  pub labels : All (λ (l : Label). w.P l.at) ls
  pub made : All (λ (x : VariableOf). IfSome x.name w.N) ms
  pub edges : All (λ (e : EdgeFrom V). AtInstr w e.instr) es

abbrev pub IsTold : {V : Type 0} → Asked → DraftOf V → Type 0
IsTold w d = Told w d.here.at d.labels d.made d.edges

abbrev pub IsGiven : {V : Type 0} → Asked → Given V → Type 0
IsGiven w r = AtTree w r.0 × IsTold w r.1

abbrev pub Keeps : {V : Type 0} → Asked → (DraftOf V → DraftOf V) → Type 0
Keeps {V = V} w f = (d : DraftOf V) → IsTold w d → IsTold w (f d)

abbrev pub Gives : {V : Type 0} → Asked → (DraftOf V → Given V) → Type 0
Gives {V = V} w f = (d : DraftOf V) → IsTold w d → IsGiven w (f d)

abbrev pub Chooses : {V : Type 0} → Asked → ((p q : ℕ) → DraftOf V → DraftOf V) → Type 0
Chooses {V = V} w f = (p q : ℕ) → Keeps w (f p q)

-- ---- lists

-- of all elements, and of what stands for none
pub at_or : {A : Type 0} (Q : A → Type 0) (xs : List A) (k : ℕ) (d : A) → Q d → All Q xs → Q (slice_index_or xs k d)
at_or Q xs k d h l = by (cases_lt k (length xs))
  where
    by : (k < length xs) ⊎ (length xs ≤ k) → Q (slice_index_or xs k d)
    by (inl m) = All-get_or Q xs k d m l
    by (inr m) = subst Q (sym (get_or_past xs k d m)) h

-- ---- steps

pub placing : {V : Type 0} {w : Asked} {ls : List Label} {ms : List VariableOf} {es : List (EdgeFrom V)} (p : ℕ) (l : Label) → Told w l.at ls ms es → Told w l.at (slice_set ls p l) ms es
placing {w = w} {ls = ls} p l t = record { here = t.here; labels = All-set (λ (l : Label). w.P l.at) ls p l t.here t.labels; made = t.made; edges = t.edges }

pub making : {V : Type 0} {w : Asked} {a : Pos} {ls : List Label} {ms : List VariableOf} {es : List (EdgeFrom V)} (n : ℕ) (x : VariableOf) → IfSome x.name w.N → Told w a ls ms es → Told w a ls (slice_set ms n x) es
making {w = w} {ms = ms} n x h t = record { here = t.here; labels = t.labels; made = All-set (λ (x : VariableOf). IfSome x.name w.N) ms n x h t.made; edges = t.edges }

pub linking : {V : Type 0} {w : Asked} {a : Pos} {ls : List Label} {ms : List VariableOf} {es : List (EdgeFrom V)} (p q : ℕ) (i : InstrOf V) → AtInstr w i → Told w a ls ms es
    → Told w a ls ms (es ++ record { from = p; instr = i; to = q } ∷ [])
linking {V = V} {w = w} {es = es} p q i h t = record {
  here = t.here;
  labels = t.labels;
  made = t.made;
  edges = All-push (λ (e : EdgeFrom V). AtInstr w e.instr) es (record { from = p; instr = i; to = q }) t.edges h;
}

-- from another place on
pub standing_at : {V : Type 0} {w : Asked} {a b : Pos} {ls : List Label} {ms : List VariableOf} {es : List (EdgeFrom V)} → w.P a → Told w b ls ms es → Told w a ls ms es
standing_at h t = record { here = h; labels = t.labels; made = t.made; edges = t.edges }

pub all_placing : {V : Type 0} (w : Asked) (n p : ℕ) (d : DraftOf V) → IsTold w d → IsTold w (all_placed n p d)
all_placing w zero p d t = t
all_placing w (suc n) p d t = all_placing w n (p + 1) (placed p d) (placing _ _ t)

pub freshening : {V : Type 0} (w : Asked) (n : ℕ) (d : DraftOf V) → IsTold w d → IsTold w (fresh n d)
freshening w n d t = all_placing w n d.points d t

pub emitting : {V : Type 0} (w : Asked) (i : InstrOf V) (d : DraftOf V) → AtInstr w i → IsTold w d → IsTold w (emit i d)
emitting w i d h t = linking _ _ _ h (placing _ _ t)

pub storing : {V : Type 0} (w : Asked) (t : IntType) (r : Given V) → IsGiven w r → IsGiven w (stored t r.0 r.1)
storing w t r h = (tt, linking _ _ _ h.0 (placing _ _ (making _ _ tt h.1)))

-- ---- trees

folded_told : {V : Type 0} (w : Asked) (t : IntType) (e : TreeOf V) (o : Option (Result ℤ Fault)) → AtTree w e → AtTree w (folded t e o)
folded_told w t e None h = h
folded_told w t e (Some (Ok n)) h = tt
folded_told w t e (Some (Err f)) h = h

kept_told : {V : Type 0} (w : Asked) (b : Bool) (t : IntType) (e : TreeOf V) → AtTree w e → AtTree w (kept_if b t e)
kept_told w true t e h = h
kept_told w false t e h = h

pub conversion_told : {V : Type 0} (w : Asked) (u t : IntType) (e : TreeOf V) → AtTree w e → AtTree w (conversion u t e)
conversion_told w u t e h = folded_told w t (kept_if (represents t u) t e) _ (kept_told w (represents t u) t e h)

pub unary_told : {V : Type 0} (w : Asked) (op : Op) (s : Site) (t : IntType) (e : TreeOf V) → AtSite w s → AtTree w e → AtTree w (unary_tree op s t e)
unary_told w op s t e i h = folded_told w (result_type op t) (unary op s t e) _ (i, h)

pub binary_told : {V : Type 0} (w : Asked) (op : Op) (s : Site) (t : IntType) (a b : TreeOf V) → AtSite w s → AtTree w a → AtTree w b → AtTree w (binary_tree op s t a b)
binary_told w op s t a b i h k = folded_told w (result_type op t) (binary op s t a b) _ (i, h, k)

pub operated_told : {V : Type 0} (w : Asked) (op : Op) (s : Site) (t u v : IntType) (a b : TreeOf V) → AtSite w s → AtTree w a → AtTree w b → AtTree w (operated_tree op s t u v a b)
operated_told w op s t u v a b i h k =
    binary_told w op s t (conversion u t a) (conversion v (right_type op v t) b) i (conversion_told w u t a h) (conversion_told w v (right_type op v t) b k)

pub updated_told : {V : Type 0} (w : Asked) (op : Op) (s : Site) (t u v : IntType) (a b : TreeOf V) → AtSite w s → AtTree w a → AtTree w b → AtTree w (updated_tree op s t u v a b)
updated_told w op s t u v a b i h k = conversion_told w (result_type op t) u (operated_tree op s t u v a b) (operated_told w op s t u v a b i h k)
