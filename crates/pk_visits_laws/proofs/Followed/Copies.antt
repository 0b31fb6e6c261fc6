-- The draft of a unit by number has the edges and names of its graph over slots.
use Rattle.std.proofs.Common.{◌≡◌, ℕ, zero, suc, ◌<◌, ◌⊎◌, inl, inr, List, [], ◌∷◌, ◌++◌, length, map, Bool, true, false, ◌||◌, not, cond, nat_eq, Some, None, refl, sym, ap, subst, ◌∙◌, arith, slice_index_or, slice_set}
use Rattle.std.proofs.lemmas.List.{get_or-set_same, get_or-set_other}
use Rattle.std.proofs.lemmas.Option.{none-some}
use Rattle.std.specs.Prelude.{All}
use Rattle.pk_typed.specs.Trees.{UnitTree}
use Rattle.pk_calls.specs.declared.listings.CallPath.{CallPath}
use Rattle.std.specs.List.{filter}
use Rattle.pk_graph.specs.declared.graphs.Entry.{Entry}
use Rattle.pk_graph.specs.declared.graphs.Scope.{Scope}
use Rattle.pk_graph.specs.Trees.{TreeOf, constant, variable, converted, unary, binary, ArrayOf, InstrOf, Skip, Set, Havoc, Clear, Load, Store, Guard, Check}
use Rattle.pk_graph.specs.Kinds.{Kind, kind_at}
use Rattle.pk_graph.specs.Graphs.{VariableOf, scope_at, chained, named_in}
use Rattle.pk_draft.specs.declared.drafts.Label.{Label}
use Rattle.pk_draft.specs.Drafts.{DraftOf, EdgeFrom, nowhere, no_label}
use Rattle.pk_number.specs.Preorders.{is_among}
use Rattle.pk_meaning.specs.Objects.{Object, file, local}
use Rattle.pk_meaning.specs.Work.{Place}
use Rattle.pk_lower_laws.proofs.Drafts.Tables.{IsArray, IsTyped, IsTypedInstr}
use Rattle.pk_lower_laws.proofs.Drafts.Places.{HasOtherWay, EdgeIs}
use Rattle.pk_lower_laws.proofs.Drafts.Parts.{ends}
use Rattle.pk_lower_laws.proofs.Drafts.Plans.{base}
use Rattle.pk_lower_laws.proofs.Drafts.Each.{objects_of}
use Rattle.pk_lower_laws.proofs.Drafts.Wholes.{kinds_of, kind_is}
use Rattle.pk_visits.proofs.Slots.{Slot, own, temporary, Draft, Edge, edge, Among, label_at}
use Rattle.pk_visits.proofs.Numbered.Names.{tree_by, array_by, instr_by, edge_by, draft_by}
use Rattle.pk_visits.proofs.Numbered.Parts.{program_by}
use Rattle.pk_visits.proofs.Numbered.Stores.{renamed, renamed_array, renamed_instr, IsOver, IsArrayOver, IsInstrOver, IsNaming}
use Rattle.pk_visits.proofs.Numbered.Copies as copies
use Rattle.pk_visits.proofs.Numbered.Copies.{renamed_edge, IsCopy}
use Rattle.pk_visits_laws.proofs.Followed.Basics.{number_is}
use Rattle.pk_visits_laws.proofs.Followed.Pairs.{Pair, slot_of, number_of, pairs, whole, ends_of, AreOne, IsObjects, pair_table, world, AreTyped}
use Rattle.pk_visits_laws.proofs.Followed.Naming.{naming, Made, one_number, ends_many, is_naming}
use Rattle.pk_visits_laws.proofs.Followed.Graphs.{Shows, over_slots, by_numbers, nobody, graph}

-- ---- the three drafts

pub slots_are : (u : UnitTree) (paths : List CallPath) → over_slots u paths ≡ draft_by slot_of (whole u paths)
slots_are u paths = program_by Pair Slot slot_of pairs u paths

pub numbers_are : (u : UnitTree) (paths : List CallPath) → by_numbers u paths ≡ draft_by number_of (whole u paths)
numbers_are u paths = program_by Pair ℕ number_of pairs u paths

-- ---- trees and instructions

-- a pair of the table belongs together
pair_made : (u : UnitTree) (paths : List CallPath) (z : Pair) → (pair_table u paths).is_there z → (naming u paths z.0 ≡ z.1) × Made u paths z.0
pair_made u paths z h =
    let same : naming u paths z.0 ≡ z.1 = sym (one_number u paths z.0 z.1 h.1) in
    (same, subst (λ (x : ℕ). (x < length (whole u paths).made) × AreOne u paths z.0 x) (sym same) h)

tree_copied : (u : UnitTree) (paths : List CallPath) (e : TreeOf Pair) → IsTyped (pair_table u paths) e → (renamed (naming u paths) (tree_by slot_of e) ≡ tree_by number_of e) × IsOver (Made u paths) (tree_by slot_of e)
tree_copied u paths (constant t z) h = (refl, tt)
tree_copied u paths (variable x) h = let m = pair_made u paths x h.there in (ap (λ (y : ℕ). variable y) m.0, m.1)
tree_copied u paths (converted t e) h = let m = tree_copied u paths e h in (ap (λ (y : TreeOf ℕ). converted t y) m.0, m.1)
tree_copied u paths (unary op s t e) h = let m = tree_copied u paths e h.1 in (ap (λ (y : TreeOf ℕ). unary op s t y) m.0, m.1)
tree_copied u paths (binary op s t a b) h =
    let m = tree_copied u paths a h.0 in
    let n = tree_copied u paths b h.1 in
    (ap (λ (y : TreeOf ℕ). binary op s t y (renamed (naming u paths) (tree_by slot_of b))) m.0 ∙ ap (λ (y : TreeOf ℕ). binary op s t (tree_by number_of a) y) n.0, (m.1, n.1))

abbrev array_of : ℕ → ℕ → ArrayOf ℕ
array_of n x = record { variable = x; length = n }

-- an array is no temporary
array_object : (u : UnitTree) (paths : List CallPath) (s : Slot) (x n : ℕ) → AreOne u paths s x → (kind_at (kinds_of (whole u paths).made) x).length ≡ Some n → (o : Object) × (s ≡ own o)
array_object u paths (own o) x n h k = (o, refl)
array_object u paths (temporary y) x n h k =
    let ms = (whole u paths).made in
    let scalar : (kind_at (kinds_of ms) y).length ≡ None = ap (λ (q : Kind). q.length) (kind_is ms y) ∙ ap (λ (v : VariableOf). v.kind.length) h.final in
    absurd (none-some n (sym scalar ∙ (ap (λ (i : ℕ). (kind_at (kinds_of ms) i).length) (sym h.number) ∙ k)))

array_copied : (u : UnitTree) (paths : List CallPath) (a : ArrayOf Pair) → IsArray (pair_table u paths) a
    → (renamed_array (naming u paths) (array_by slot_of a) ≡ array_by number_of a) × IsArrayOver (Made u paths) (array_by slot_of a)
array_copied u paths a h =
    let m = pair_made u paths a.variable h.there in
    let o = array_object u paths a.variable.0 a.variable.1 a.length h.there.1 h.array in
    (ap (array_of a.length) m.0, (o.0, o.1, m.1))

instr_copied : (u : UnitTree) (paths : List CallPath) (i : InstrOf Pair) → IsTypedInstr (pair_table u paths) i → (renamed_instr (naming u paths) (instr_by slot_of i) ≡ instr_by number_of i) × IsInstrOver (Made u paths) (instr_by slot_of i)
instr_copied u paths Skip h = (refl, tt)
instr_copied u paths (Set x e) h =
    let m = pair_made u paths x h.0.there in
    let n = tree_copied u paths e h.1.typed in
    (ap (λ (y : ℕ). Set y (renamed (naming u paths) (tree_by slot_of e))) m.0 ∙ ap (λ (y : TreeOf ℕ). Set x.1 y) n.0, (m.1, n.1))
instr_copied u paths (Havoc x t n) h = let m = pair_made u paths x h.0 in (ap (λ (y : ℕ). Havoc y t n) m.0, m.1)
instr_copied u paths (Clear a) h = let m = array_copied u paths a h in (ap (λ (y : ArrayOf ℕ). Clear y) m.0, m.1)
instr_copied u paths (Load x a s b i) h =
    let f = naming u paths in
    let m = pair_made u paths x h.0.there in
    let n = array_copied u paths a h.1 in
    let o = tree_copied u paths i h.3 in (
      ap (λ (y : ℕ). Load y (renamed_array f (array_by slot_of a)) s b (renamed f (tree_by slot_of i))) m.0
          ∙ (ap (λ (y : ArrayOf ℕ). Load x.1 y s b (renamed f (tree_by slot_of i))) n.0 ∙ ap (λ (y : TreeOf ℕ). Load x.1 (array_by number_of a) s b y) o.0),
      (m.1, n.1, o.1),
    )
instr_copied u paths (Store a s b i e) h =
    let f = naming u paths in
    let m = array_copied u paths a h.0 in
    let n = tree_copied u paths i h.1 in
    let o = tree_copied u paths e h.2.typed in (
      ap (λ (y : ArrayOf ℕ). Store y s b (renamed f (tree_by slot_of i)) (renamed f (tree_by slot_of e))) m.0
          ∙ (ap (λ (y : TreeOf ℕ). Store (array_by number_of a) s b y (renamed f (tree_by slot_of e))) n.0 ∙ ap (λ (y : TreeOf ℕ). Store (array_by number_of a) s b (tree_by number_of i) y) o.0),
      (m.1, n.1, o.1),
    )
instr_copied u paths (Guard e b) h = let m = tree_copied u paths e h in (ap (λ (y : TreeOf ℕ). Guard y b) m.0, m.1)
instr_copied u paths (Check s e) h = let m = tree_copied u paths e h in (ap (λ (y : TreeOf ℕ). Check s y) m.0, m.1)

-- ---- edges

-- an edge over slots is that of an edge over pairs
from_pair : (es : List (EdgeFrom Pair)) (e : Edge) → Among e (map (edge_by slot_of) es) → (z : EdgeFrom Pair) × Among z es × (e ≡ edge_by slot_of z)
from_pair [] e h = absurd h
from_pair (z ∷ es) e (inl q) = (z, inl refl, q)
from_pair (z ∷ es) e (inr h) = let r = from_pair es e h in (r.0, inr r.1, r.2)

map_among : {A B : Type 0} (f : A → B) (xs : List A) (x : A) → Among x xs → Among (f x) (map f xs)
map_among f [] x h = absurd h
map_among f (y ∷ xs) x (inl e) = inl (ap f e)
map_among f (y ∷ xs) x (inr h) = inr (map_among f xs x h)

all_at : {A : Type 0} (P : A → Type 0) (xs : List A) (x : A) → All P xs → Among x xs → P x
all_at P [] x h a = absurd a
all_at P (y ∷ xs) x h (inl e) = subst P (sym e) (h 0 x (omega arith))
all_at P (y ∷ xs) x h (inr a) = all_at P xs x (λ k d l. h (suc k) d (omega (l, arith))) a

-- what is known of each edge over slots
record IsCopied (u : UnitTree) (paths : List CallPath) (e : Edge) : Type 0 where
  pair : EdgeFrom Pair
  there : Among pair (whole u paths).edges
  is : e ≡ edge_by slot_of pair
  same : renamed_edge (naming u paths) e ≡ edge_by number_of pair
  over : IsInstrOver (Made u paths) e.instr

edge_copied : (u : UnitTree) (paths : List CallPath) → AreTyped u paths → (e : Edge) → Among e (over_slots u paths).edges → IsCopied u paths e
edge_copied u paths h e a =
    let p = from_pair (whole u paths).edges e (subst (λ (d : Draft). Among e d.edges) (slots_are u paths) a) in
    let t = all_at (EdgeIs (base (world u paths))) (whole u paths).edges p.0 h.typed.edges p.1 in
    let i = instr_copied u paths p.0.instr t.typed in
    record {
      pair = p.0;
      there = p.1;
      is = p.2;
      same = ap (renamed_edge (naming u paths)) p.2 ∙ ap (λ (x : InstrOf ℕ). record { from = p.0.from; instr = x; to = p.0.to }) i.0;
      over = subst (λ (x : Edge). IsInstrOver (Made u paths) x.instr) (sym p.2) i.1;
    }

-- the other way beside a guard, over slots
other_copied : (u : UnitTree) (paths : List CallPath) (p : ℕ) (i : InstrOf Pair) → HasOtherWay (base (world u paths)) p i → copies.HasOtherWay (graph u paths) p (instr_by slot_of i)
other_copied u paths p Skip h = tt
other_copied u paths p (Set x e) h = absurd h
other_copied u paths p (Havoc x t n) h = absurd h
other_copied u paths p (Clear a) h = absurd h
other_copied u paths p (Load x a s b e) h = absurd h
other_copied u paths p (Store a s b e v) h = absurd h
other_copied u paths p (Guard e b) h =
    (h.0, subst (λ (d : Draft). Among (edge p (Guard (tree_by slot_of e) (not b)) h.0) d.edges) (sym (slots_are u paths)) (map_among (edge_by slot_of) (whole u paths).edges (record { from = p; instr = Guard e (not b); to = h.0 }) h.1), h.2)
other_copied u paths p (Check s e) h = absurd h

-- ---- names in scope

lists_more : (P : Entry → Type 0) (ls : List (List Entry)) (xs : List Entry) → ((i : ℕ) (z : Entry) → Among z (slice_index_or ls i []) → P z) → ((z : Entry) → Among z xs → P z) → (i : ℕ) (z : Entry) → Among z (slice_index_or (ls ++ xs ∷ []) i []) → P z
lists_more P [] xs h f zero z a = f z a
lists_more P [] xs h f (suc i) z a = absurd a
lists_more P (l ∷ ls) xs h f zero z a = h 0 z a
lists_more P (l ∷ ls) xs h f (suc i) z a = lists_more P ls xs (λ j y b. h (suc j) y b) f i z a

chained_all : (P : Entry → Type 0) (ss : List Scope) (known : List (List Entry)) → All (λ (s : Scope). P s.entry) ss → ((i : ℕ) (z : Entry) → Among z (slice_index_or known i []) → P z) → (i : ℕ) (z : Entry) → Among z (slice_index_or (chained known ss) i []) → P z
chained_all P [] known h f i z a = f i z a
chained_all P (s ∷ ss) known h f i z a =
    chained_all P ss (known ++ (s.entry ∷ slice_index_or known s.outer []) ∷ []) (λ k d l. h (suc k) d (omega (l, arith)))
    (lists_more P known (s.entry ∷ slice_index_or known s.outer []) f (λ y b. elim b [ inl e ↦ subst P (sym e) (h 0 s (omega arith)) | inr b ↦ f s.outer y b ])) i z a

none_known : (P : Entry → Type 0) (i : ℕ) (z : Entry) → Among z (slice_index_or ([] ∷ []) i []) → P z
none_known P zero z a = absurd a
none_known P (suc i) z a = absurd a

-- a name in scope is an entry's
of_entry : (P : ℕ → Type 0) (es : List Entry) → ((e : Entry) → Among e es → P e.variable) → (z : ℕ) → Among z (named_in es) → P z
of_entry P [] h z a = absurd a
of_entry P (e ∷ es) h z a = by (not e.hides) (λ r. of_entry P es (λ x q. h x (inr q)) z r) a where
  by : (b : Bool) → (Among z (named_in es) → P z) → Among z (map (λ (x : Entry). x.variable) (cond b (e ∷ filter (λ (x : Entry). not x.hides) es) (filter (λ (x : Entry). not x.hides) es))) → P z
  by true f (inl q) = subst P (sym q) (h e (inl refl))
  by true f (inr r) = f r
  by false f r = f r

scope_all : (P : ℕ → Type 0) (ss : List Scope) → All (λ (s : Scope). P s.entry.variable) ss → (k z : ℕ) → Among z (named_in (scope_at ss k)) → P z
scope_all P ss h k z a = of_entry P (scope_at ss k) (λ e q. chained_all (λ (x : Entry). P x.variable) ss ([] ∷ []) h (none_known (λ (x : Entry). P x.variable)) k e q) z a

or_true : (a b : Bool) → (a || b) ≡ true → (a ≡ true) ⊎ (b ≡ true)
or_true true b h = inl refl
or_true false b h = inr h

told_among : (y : ℕ) (xs : List ℕ) → is_among y xs ≡ true → Among y xs
told_among y [] h = absurd (cc h)
told_among y (x ∷ xs) h = elim (or_true (nat_eq y x) (is_among y xs) h) [ inl e ↦ inl (number_is y x e) | inr e ↦ inr (told_among y xs e) ]

-- ---- a declared object is one of the draft's

pub local_made : (u : UnitTree) (paths : List CallPath) → AreTyped u paths → (k i : ℕ) → k < length paths → i < (ends_of u paths k).objects → Made u paths (own (local k i))
local_made u paths h k i b c =
    let p = h.parts k b in
    let many = ends_many u paths k p in
    let o = objects_of (world u paths) h.lasts (whole u paths) k p in
    let d : i < (ends p.place.function p.place.body).objects = omega (c, many, arith) in
    let kind = o.kinds i d in
    let has = o.each i d kind.0 kind.1 in
    let at = p.ends.objects i d in
    subst (λ (x : ℕ). (x < length (whole u paths).made) × AreOne u paths (own (local k i)) x) (sym at) has.there

pub file_made : (u : UnitTree) (paths : List CallPath) → AreTyped u paths → (i : ℕ) → i < length u.objects → Made u paths (own (file i))
file_made u paths h i b = (let z = h.many in omega (z, b, arith), (refl, b))

-- the number of a name in scope is an object's
pub named_object : (u : UnitTree) (paths : List CallPath) → AreTyped u paths → (y : ℕ) → IsObjects u paths y → (x : Object) × Made u paths (own x) × (y ≡ naming u paths (own x))
named_object u paths h y (inl b) = (file y, file_made u paths h y b, refl)
named_object u paths h y (inr (k, i, b, c, e)) = (local k i, local_made u paths h k i b c, e)

-- ---- the copy

label_back : (ls : List Label) (l : Label) (q : ℕ) → (q ≡ nowhere → ⊥) → slice_index_or (slice_set ls 0 l) q no_label ≡ slice_index_or ls q no_label
label_back ls l q h = get_or-set_other ls 0 q l no_label (λ e. h e)

nobody_shown : (u : UnitTree) (paths : List CallPath) → 0 < length (over_slots u paths).labels → (k : ℕ) (h : Place) → Shows u paths (label_at (graph u paths).labels nowhere) k h → ⊥
nobody_shown u paths many k h s =
    let is : label_at (graph u paths).labels nowhere ≡ nobody paths = get_or-set_same (over_slots u paths).labels 0 (nobody paths) no_label many in
    let at : length paths ≡ k = ap (λ (l : Label). l.path) (sym is) ∙ s.shown.path in
    let low = s.path in
    absurd (omega (at, low, arith))

pub is_copy : (u : UnitTree) (paths : List CallPath) → AreTyped u paths → IsCopy (naming u paths) (Made u paths) (graph u paths) (by_numbers u paths)
is_copy u paths h =
    let same : (by_numbers u paths).made ≡ (whole u paths).made = ap (λ (d : DraftOf ℕ). d.made) (numbers_are u paths) in
    let labels : (over_slots u paths).labels ≡ (by_numbers u paths).labels = ap (λ (d : Draft). d.labels) (slots_are u paths) ∙ sym (ap (λ (d : DraftOf ℕ). d.labels) (numbers_are u paths)) in
    let scopes : (by_numbers u paths).scopes ≡ (whole u paths).scopes = ap (λ (d : DraftOf ℕ). d.scopes) (numbers_are u paths) in
    let many : 0 < length (over_slots u paths).labels = let a = ap (λ (d : Draft). length d.labels) (slots_are u paths) in let b = h.typed.labels.many in let c = h.lasts.points in omega (a, b, c, arith) in
    record {
      naming = subst (λ (n : List VariableOf). IsNaming (naming u paths) (Made u paths) (length n)) (sym same) (is_naming u paths h);
      edges = λ e a. let c = edge_copied u paths h e a in
          subst (λ (x : EdgeFrom ℕ). Among x (by_numbers u paths).edges) (sym c.same) (subst (λ (d : DraftOf ℕ). Among (edge_by number_of c.pair) d.edges) (sym (numbers_are u paths)) (map_among (edge_by number_of) (whole u paths).edges c.pair c.there));
      over = λ e a. (edge_copied u paths h e a).over;
      labels = λ q n. label_back (over_slots u paths).labels (nobody paths) q n ∙ ap (λ (ls : List Label). slice_index_or ls q no_label) labels;
      shown = λ l k j s. s.shown;
      somewhere = λ q k j s e. nobody_shown u paths many k j (subst (λ (p : ℕ). Shows u paths (label_at (graph u paths).labels p) k j) e s);
      named = λ q y a. named_object u paths h y (scope_all (IsObjects u paths) (by_numbers u paths).scopes (subst (λ (ss : List Scope). All (λ (s : Scope). IsObjects u paths s.entry.variable) ss) (sym scopes) (λ k d l. (h.typed.scopes k d l).1))
          (slice_index_or (by_numbers u paths).labels q no_label).scope y (told_among y (named_in (scope_at (by_numbers u paths).scopes (slice_index_or (by_numbers u paths).labels q no_label).scope)) a));
      other_ways = λ e a n. let c = edge_copied u paths h e a in
          let t = all_at (EdgeIs (base (world u paths))) (whole u paths).edges c.pair h.typed.edges c.there in
          subst (λ (x : Edge). copies.HasOtherWay (graph u paths) x.from x.instr) (sym c.is) (other_copied u paths c.pair.from c.pair.instr (t.other (sym (ap (λ (x : Edge). x.to) c.is) ∙ n)));
    }
