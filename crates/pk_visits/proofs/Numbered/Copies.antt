-- A graph over slots, and a draft by number whose numbered graph is its copy: what is seen at its points.
use Rattle.std.proofs.Common.{◌≡◌, ℕ, ◌⊎◌, List, [], ◌∷◌, length, map, Bool, true, false, ◌||◌, ◌&&◌, not, nat_eq, if◌then◌else◌, refl, sym, ap, ◌∙◌, subst, inl, inr, slice_index_or, ℤ}
use Rattle.std.specs.Prelude.{Option, Some, None, unwrap_or}
use Rattle.std.proofs.lemmas.Bool.{eq-eqb}
use Rattle.std.proofs.lemmas.Bool.Decides.{eqb_tells}
use Rattle.pk_ctypes.specs.declared.places.Pos.{Pos}
use Rattle.pk_graph.specs.Trees.{Skip, Set, Havoc, Clear, Load, Store, Guard, Check}
use Rattle.pk_graph.specs.Graphs.{PathOf, PointOf, GraphOf, no_variable, scope_at, named_in, names_at}
use Rattle.pk_graph.specs.Stores.{Stored, numbers_of}
use Rattle.pk_draft.specs.declared.drafts.Label.{Label}
use Rattle.pk_draft.specs.Drafts.{EdgeFrom, DraftOf, nowhere, no_label}
use Rattle.pk_number.specs.Preorders.{is_among}
use Rattle.pk_number.specs.Numbering.{reached, edge_of, numbered}
use Rattle.pk_meaning.specs.Objects.{Object, file, local, result, Scope, is_same}
use Rattle.pk_meaning.specs.Objects as objects
use Rattle.pk_meaning.specs.Programs.{Program, name_of}
use Rattle.pk_meaning.specs.Work.{Place}
use Rattle.pk_meaning.specs.Steps.{Config}
use Rattle.pk_meaning.specs.Runs.{Known, Visit}
use Rattle.pk_meaning.specs.Runs as runs
use Rattle.pk_visits.specs.GraphVisits.{is_visit, visit_at, visits_if}
use Rattle.pk_visits.specs.GraphVisits as graph
use Rattle.pk_visits.proofs.Slots.{Slot, own, temporary, Instr, Edge, edge, Memory, Among, label_at}
use Rattle.pk_visits.proofs.Stands.{Whole, ShowsAt}
use Rattle.pk_visits.proofs.Follow.{written, Seen}
use Rattle.pk_visits.proofs.Numbered.Edges.{IsFound, number_of, point_shown}
use Rattle.pk_visits.proofs.Numbered.Stores.{Naming, renamed_instr, IsNaming, IsInstrOver, Mirrors}

-- The label is a path's place: the names in scope there are the variables of the place's objects.
pub record IsShown (f : Naming) (Made : Slot → Type 0) (p : Program) (d : DraftOf ℕ) (l : Label) (k : ℕ) (h : Place) : Type 0 where
  pub path : l.path ≡ k
  pub at : l.at ≡ h.at
  pub scope : named_in (scope_at d.scopes l.scope) ≡ map (λ x. f (own x)) h.scope
  pub made : (x : Object) → Among x h.scope → Made (own x)
  pub names : (x : Object) → Among x h.scope → unwrap_or (slice_index_or d.made (f (own x)) no_variable).name [] ≡ name_of p x

abbrev pub renamed_edge : Naming → Edge → EdgeFrom ℕ
renamed_edge f e = record { from = e.from; instr = renamed_instr f e.instr; to = e.to }

-- An edge to nowhere is a guard or does nothing; beside a guard stands its other way.
abbrev pub HasOtherWay : Whole → ℕ → Instr → Type 0
HasOtherWay g p Skip = Unit {0}
HasOtherWay g p (Set x e) = ⊥
HasOtherWay g p (Havoc x t n) = ⊥
HasOtherWay g p (Clear a) = ⊥
HasOtherWay g p (Load x a s b i) = ⊥
HasOtherWay g p (Store a s b i e) = ⊥
HasOtherWay g p (Guard e b) = (q : ℕ) × Among (edge p (Guard e (not b)) q) g.edges × (q ≡ nowhere → ⊥)
HasOtherWay g p (Check s e) = ⊥

-- The draft has the edges and labels of the graph over slots under these names.
pub record IsCopy (f : Naming) (Made : Slot → Type 0) (g : Whole) (d : DraftOf ℕ) : Type 0 where
  pub naming : IsNaming f Made (length d.made)
  pub edges : (e : Edge) → Among e g.edges → Among (renamed_edge f e) d.edges
  pub over : (e : Edge) → Among e g.edges → IsInstrOver Made e.instr
  pub labels : (q : ℕ) → (q ≡ nowhere → ⊥) → label_at g.labels q ≡ slice_index_or d.labels q no_label
  pub shown : (l : Label) (k : ℕ) (h : Place) → g.shows l k h → IsShown f Made g.program d l k h
  pub somewhere : (q k : ℕ) (h : Place) → ShowsAt g q k h → q ≡ nowhere → ⊥
  -- the names in scope are those of objects
  pub named : (q y : ℕ) → is_among y (named_in (scope_at d.scopes (slice_index_or d.labels q no_label).scope)) ≡ true → (x : Object) × Made (own x) × (y ≡ f (own x))
  pub other_ways : (e : Edge) → Among e g.edges → e.to ≡ nowhere → HasOtherWay g e.from e.instr

-- ---- what an instruction writes

abbrev pub renamed_if : Naming → Option Slot → Option ℕ
renamed_if f None = None
renamed_if f (Some x) = Some (f x)

written_same : (f : Naming) (i : Instr) → graph.written (renamed_instr f i) ≡ renamed_if f (written i)
written_same f Skip = refl
written_same f (Set x e) = refl
written_same f (Havoc x t n) = refl
written_same f (Clear a) = refl
written_same f (Load x a s b i) = refl
written_same f (Store a s b i e) = refl
written_same f (Guard e b) = refl
written_same f (Check s e) = refl

abbrev IsMadeIf : (Made : Slot → Type 0) → Option Slot → Type 0
IsMadeIf M None = Unit {0}
IsMadeIf M (Some x) = M x

written_made : (M : Slot → Type 0) (i : Instr) → IsInstrOver M i → IsMadeIf M (written i)
written_made M Skip o = tt
written_made M (Set x e) o = o.0
written_made M (Havoc x t n) o = o
written_made M (Clear a) o = o.2
written_made M (Load x a s b i) o = o.0
written_made M (Store a s b i e) o = o.0.2
written_made M (Guard e b) o = tt
written_made M (Check s e) o = tt

-- ---- objects in scope

number_is : (m n : ℕ) → nat_eq m n ≡ true → m ≡ n
number_is m n h = told (eqb_tells m n) where
  told : ((nat_eq m n ≡ true) × (m ≡ n)) ⊎ ((nat_eq m n ≡ false) × (m ≡ n → ⊥)) → m ≡ n
  told (inl e) = e.1
  told (inr e) = absurd (cc (e.0, h))

both_true : (a b : Bool) → (a && b) ≡ true → (a ≡ true) × (b ≡ true)
both_true true b h = (refl, h)
both_true false b h = absurd (cc h)

same_is : (x y : Object) → is_same x y ≡ true → x ≡ y
same_is (file i) (file j) h = ap file (number_is i j h)
same_is (file i) (local k j) h = absurd (cc h)
same_is (file i) (result k) h = absurd (cc h)
same_is (local k i) (file j) h = absurd (cc h)
same_is (local k i) (local m j) h = let b = both_true (nat_eq k m) (nat_eq i j) h in ap (λ n. local n i) (number_is k m b.0) ∙ ap (local m) (number_is i j b.1)
same_is (local k i) (result m) h = absurd (cc h)
same_is (result k) (file j) h = absurd (cc h)
same_is (result k) (local m j) h = absurd (cc h)
same_is (result k) (result m) h = ap result (number_is k m h)

is_same_itself : (x : Object) → is_same x x ≡ true
is_same_itself (file i) = eq-eqb i i refl
is_same_itself (local k i) = ap (λ b. b && nat_eq i i) (eq-eqb k k refl) ∙ eq-eqb i i refl
is_same_itself (result k) = eq-eqb k k refl

is_false : (b : Bool) → (b ≡ true → ⊥) → b ≡ false
is_false true h = absurd (h refl)
is_false false h = refl

abbrev inner : Object → Slot → Object
inner z (own x) = x
inner z (temporary n) = z

one_test : (f : Naming) (M : Slot → Type 0) (n : ℕ) (x y : Object) → IsNaming f M n → M (own x) → M (own y) → nat_eq (f (own x)) (f (own y)) ≡ is_same x y
one_test f M n x y g i j = told (eqb_tells (f (own x)) (f (own y))) where
  told : ((nat_eq (f (own x)) (f (own y)) ≡ true) × (f (own x) ≡ f (own y))) ⊎ ((nat_eq (f (own x)) (f (own y)) ≡ false) × (f (own x) ≡ f (own y) → ⊥)) → nat_eq (f (own x)) (f (own y)) ≡ is_same x y
  told (inl e) = e.0 ∙ sym (subst (λ z. is_same x z ≡ true) (ap (inner x) (g.apart (own x) (own y) i j e.1)) (is_same_itself x))
  told (inr e) = e.0 ∙ sym (is_false (is_same x y) (λ q. e.1 (ap (λ z. f (own z)) (same_is x y q))))

scope_test : (f : Naming) (M : Slot → Type 0) (n : ℕ) (x : Object) (ys : Scope) → IsNaming f M n → M (own x) → ((y : Object) → Among y ys → M (own y))
    → is_among (f (own x)) (map (λ y. f (own y)) ys) ≡ objects.is_in_scope x ys
scope_test f M n x [] g i j = refl
scope_test f M n x (y ∷ ys) g i j =
    ap (λ b. b || is_among (f (own x)) (map (λ z. f (own z)) ys)) (one_test f M n x y g i (j y (inl refl)))
    ∙ ap (λ b. is_same x y || b) (scope_test f M n x ys g i (λ z a. j z (inr a)))

-- ---- visits

known_same : (f : Naming) (M : Slot → Type 0) (n : ℕ) (p : Program) (g : GraphOf) (m : Memory) (s : Stored) (xs : Scope) → ((x : Object) → Among x xs → M (own x))
    → ((x : Object) → Among x xs → unwrap_or (slice_index_or g.variables (f (own x)) no_variable).name [] ≡ name_of p x) → Mirrors f M n m s
    → map (graph.known_of g s) (map (λ x. f (own x)) xs) ≡ map (runs.known_of p m.objects) xs
known_same f M n p g m s [] i e h = refl
known_same f M n p g m s (x ∷ xs) i e h =
    let rest : List Known = map (graph.known_of g s) (map (λ y. f (own y)) xs) in
    ap (λ (c : List ℕ). let k : Known = record { name = c; numbers = numbers_of s (f (own x)) } in k ∷ rest) (e x (inl refl))
    ∙ ap (λ (zs : List ℤ). let k : Known = record { name = name_of p x; numbers = zs } in k ∷ rest) (h.same (own x) (i x (inl refl)))
    ∙ ap (λ (ks : List Known). runs.known_of p m.objects x ∷ ks) (known_same f M n p g m s xs (λ y a. i y (inr a)) (λ y a. e y (inr a)) h)

abbrev visit : ℕ → Pos → List Known → Visit
visit k q ks = record { path = k; at = q; known = ks }

pub visit_same : (f : Naming) (M : Slot → Type 0) (paths : List PathOf) (p : Program) (d : DraftOf ℕ) (q k : ℕ) (h : Place) (m : Memory) (s : Stored) → IsFound d q → IsShown f M p d (slice_index_or d.labels q no_label) k h
    → Mirrors f M (length d.made) m s → visit_at (numbered paths d) (number_of d q) s ≡ visit k h.at (map (runs.known_of p m.objects) h.scope)
visit_same f M paths p d q k h m s found i mirrors =
    let g = numbered paths d in
    let l = slice_index_or d.labels q no_label in
    ap (λ (x : PointOf). visit x.path x.at (map (graph.known_of g s) (named_in x.scope))) (point_shown paths d q found)
    ∙ ap (λ j. visit j l.at (map (graph.known_of g s) (named_in (scope_at d.scopes l.scope)))) i.path
    ∙ ap (λ a. visit k a (map (graph.known_of g s) (named_in (scope_at d.scopes l.scope)))) i.at
    ∙ ap (λ xs. visit k h.at (map (graph.known_of g s) xs)) i.scope
    ∙ ap (visit k h.at) (known_same f M (length d.made) p g m s h.scope i.made i.names mirrors)

-- ---- what is seen of a step

pub shown_at : (f : Naming) (M : Slot → Type 0) (g : Whole) (d : DraftOf ℕ) (q k : ℕ) (h : Place) → IsCopy f M g d → ShowsAt g q k h → IsShown f M g.program d (slice_index_or d.labels q no_label) k h
shown_at f M g d q k h c s =
    subst (λ l. IsShown f M g.program d l k h) (c.labels q (c.somewhere q k h s)) (c.shown (label_at g.labels q) k h s)

tells : (f : Naming) (M : Slot → Type 0) (paths : List PathOf) (g : Whole) (d : DraftOf ℕ) (c : Config) (w : Option Slot) (q : ℕ) → IsCopy f M g d → IsFound d q → IsMadeIf M w → Seen g c w q
    → graph.is_in_scope (renamed_if f w) (names_at (numbered paths d) (number_of d q)) ≡ c.is_visit
tells f M paths g d c None q copy found i s = sym s.0
tells f M paths g d c (Some (own x)) q copy found i s =
    let shown = shown_at f M g d q c.path c.here copy s.1 in
    ap (λ (y : PointOf). is_among (f (own x)) (named_in y.scope)) (point_shown paths d q found)
    ∙ ap (is_among (f (own x))) shown.scope
    ∙ scope_test f M (length d.made) x c.here.scope copy.naming i shown.made
    ∙ sym s.0
tells f M paths g d c (Some (temporary n)) q copy found i s =
    ap (λ (y : PointOf). is_among (f (temporary n)) (named_in y.scope)) (point_shown paths d q found)
    ∙ is_false (is_among (f (temporary n)) (named_in (scope_at d.scopes (slice_index_or d.labels q no_label).scope))) never
    ∙ sym s
  where
    is_temporary : Slot → Type 0
    is_temporary (own x) = ⊥
    is_temporary (temporary k) = Unit {0}

    never : is_among (f (temporary n)) (named_in (scope_at d.scopes (slice_index_or d.labels q no_label).scope)) ≡ true → ⊥
    never e = let r = copy.named q (f (temporary n)) e in subst is_temporary (copy.naming.apart (temporary n) (own r.0) i r.1 r.2) tt

seen_shown : (g : Whole) (c : Config) (w : Option Slot) (q : ℕ) → Seen g c w q → c.is_visit ≡ true → ShowsAt g q c.path c.here
seen_shown g c None q s v = s.1
seen_shown g c (Some (own x)) q s v = s.1
seen_shown g c (Some (temporary n)) q s v = absurd (cc (s, v))

either : (a b : Bool) (x y : Visit) (vs : List Visit) → a ≡ b → (b ≡ true → x ≡ y) → (if a then x ∷ vs else vs) ≡ (if b then y ∷ vs else vs)
either true true x y vs e h = ap (λ z. z ∷ vs) (h refl)
either true false x y vs e h = absurd (cc e)
either false true x y vs e h = absurd (cc e)
either false false x y vs e h = refl

-- A step over an edge is the visit that the program's step is.
pub visits_same : (f : Naming) (M : Slot → Type 0) (paths : List PathOf) (g : Whole) (d : DraftOf ℕ) (c : Config) (p q : ℕ) (i : Instr) (m : Memory) (s : Stored) (vs : List Visit) → IsCopy f M g d → IsFound d q
    → IsInstrOver M i → Seen g c (written i) q → Mirrors f M (length d.made) m s → m.objects ≡ c.objects
    → visits_if (numbered paths d) (edge_of (reached d.edges) (renamed_edge f (edge p i q))) s vs ≡ runs.visits_if g.program c vs
visits_same f M paths g d c p q i m s vs copy found over seen mirrors same =
    either (is_visit (numbered paths d) (edge_of (reached d.edges) (renamed_edge f (edge p i q)))) c.is_visit (visit_at (numbered paths d) (number_of d q) s) (runs.visit_of g.program c) vs
    (ap (λ w. graph.is_in_scope w (names_at (numbered paths d) (number_of d q))) (written_same f i) ∙ tells f M paths g d c (written i) q copy found (written_made M i over) seen)
    (λ v. visit_same f M paths g.program d q c.path c.here m s found (shown_at f M g d q c.path c.here copy (seen_shown g c (written i) q seen v)) mirrors
    ∙ ap (λ o. visit c.path c.here.at (map (runs.known_of g.program o) c.here.scope)) same)
